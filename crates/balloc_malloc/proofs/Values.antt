-- The machine values of what is handed to C, and of a pair: what is owned tells the one, and makes the other. Assumes `Logic`.
use Rattle.std.proofs.Common.{◌≡◌, ℕ, ◌^◌, ◌<◌, List, [], ◌∷◌, ◌++◌, refl, ◌∙◌, w32}
use seplogic.Ra.Ura.{Ura}
use lib.Dec.{T}
use mir.Val.{Val, vint, vstruct, vcons, vnil, of_list, has_ty, WT}
use base.Logic.{ent, emp}
use types.Logic.{Logic, sem}
use denote.RattleType.{RattleType}
use denote.Param.{layout}
use denote.RawPtr.{Ptr, block_ptr, null_ptr, ptr_val}
use denote.Shadow.{shadow, makes_shadow}
use denote.Struct.Struct.{Struct}
use denote.Struct.Owning.{shape}
use Rattle.std_alloc.proofs.RcSteps.{Ptr-Good}
use Rattle.balloc_malloc.specs.contracts.handed.Handed as handed

abbrev pub handed_val : Ptr → ℕ → Val
handed_val p n = vstruct (vcons (ptr_val p) (vcons (vint w32 n) vnil))

-- what is handed without the words
abbrev pub Bare : RattleType
Bare = Struct (shape handed.the_type)

pub bare_told : (p : Ptr) (n : ℕ) (vs : List Val) → shadow (Bare.own_val (p, (n, tt)) vs) → (vs ≡ handed_val p n ∷ []) × (n < 2 ^ 32)
bare_told p n vs s = (s.1.0 ∙ (λ i. vstruct (of_list (s.1.1.0 i ++ (s.1.1.1.0.0 i ++ []))) ∷ []), s.1.1.1.0.1)

pub bare_made : {M : Type 1} {𝓤 : Ura M} (𝓛 : Logic 𝓤) (p : Ptr) (n : ℕ) → n < 2 ^ 32 → ent 𝓤 (emp 𝓤) (sem 𝓛 (Bare.own_val (p, (n, tt)) (handed_val p n ∷ [])))
bare_made 𝓛 p n fits = makes_shadow 𝓛 (Bare.own_val (p, (n, tt)) (handed_val p n ∷ [])) (λ _. (tt, (tt, ((tt, tt), tt)))) ((ptr_val p ∷ [], (vint w32 n ∷ [], tt)), (refl, (refl, ((refl, fits), tt))))

pub handed_good : (p : Ptr) (n : ℕ) → n < 2 ^ 32 → T (has_ty (layout handed.the_row) (handed_val p n)) × WT (handed_val p n)
handed_good (block_ptr b o) n f = (tt, (tt, (record { fits = f }, tt)))
handed_good null_ptr n f = (tt, ((Ptr-Good null_ptr).1, (record { fits = f }, tt)))
