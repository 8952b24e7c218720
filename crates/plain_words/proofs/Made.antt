-- The machine values of tokens, and of the place where memory begins. Assumes `Logic`.
use Rattle.std.proofs.Common.{◌≡◌, List, [], ◌∷◌, ◌++◌, refl, ap, ◌∙◌, arith}
use seplogic.Ra.Ura.{Ura}
use mir.Syntax.{ty_ptr, ty_struct, tcons, tnil}
use mir.Val.{Val, vstruct, vcons, vnil, of_list, has_ty, WT}
use lib.Dec.{T}
use base.Logic.{ent, emp}
use types.Logic.{Logic, sem}
use denote.RattleType.{RattleType}
use denote.Laws.{Is}
use denote.RawPtr.{Ptr, block_ptr, null_ptr, ptr_val}
use denote.Shadow.{makes_shadow}
use denote.Struct.Struct.{Struct}
use Rattle.core.specs.contracts.marker.PhantomData as marker
use Rattle.plain_words.specs.contracts.plain.Start as start

-- a struct of one field that takes no bytes
abbrev pub token_val : Val
token_val = vstruct (vcons (vstruct vnil) vnil)

module _ (X : RattleType) where
  abbrev pub Token : RattleType
  Token = Struct record { name = []; args = []; types = []; fields = marker.the_row X ∷ [] }

  pub token_told : (vs : List Val) → Is Token (record {}, tt) vs → vs ≡ token_val ∷ []
  token_told vs is = is.1.0 ∙ ap (λ (ws : List Val). vstruct (of_list (ws ++ [])) ∷ []) is.1.1.0.1.0

  pub token_made : {M : Type 1} {𝓤 : Ura M} (𝓛 : Logic 𝓤) → ent 𝓤 (emp 𝓤) (sem 𝓛 (Token.own_val (record {}, tt) (token_val ∷ [])))
  token_made 𝓛 = makes_shadow 𝓛 (Token.own_val (record {}, tt) (token_val ∷ [])) (λ vss. (tt, ((λ uss. (tt, tt)), tt))) ((vstruct vnil ∷ [], tt), (refl, ((tt, (refl, tt)), tt)))

abbrev pub start_val : Ptr → Val
start_val p = vstruct (vcons (ptr_val p) vnil)

pub start_told : (x : (start.the_row).Denot) (vs : List Val) → Is start.the_row x vs → vs ≡ start_val x.at ∷ []
start_told x vs is = is.1.0 ∙ ap (λ (ws : List Val). vstruct (of_list (ws ++ [])) ∷ []) is.1.1.0

pub start_made : {M : Type 1} {𝓤 : Ura M} (𝓛 : Logic 𝓤) (p : Ptr) → ent 𝓤 (emp 𝓤) (sem 𝓛 ((start.the_row).own_val (record { at = p }) (start_val p ∷ [])))
start_made 𝓛 p = makes_shadow 𝓛 ((start.the_row).own_val (record { at = p }) (start_val p ∷ [])) (λ vss. (tt, (tt, tt))) ((ptr_val p ∷ [], tt), (refl, (refl, tt)))

pub start_good : (p : Ptr) → T (has_ty (ty_struct [] (tcons ty_ptr tnil)) (start_val p)) × WT (start_val p)
start_good (block_ptr b o) = (tt, (tt, tt))
start_good null_ptr = (tt, (record { fits = omega arith }, tt))
