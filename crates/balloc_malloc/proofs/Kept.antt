-- The machine value of words that a bundle has, which take no bytes. Assumes `Logic`.
use Rattle.std.proofs.Common.{◌≡◌, List, [], ◌∷◌, ◌++◌, refl, ap, ◌∙◌}
use seplogic.Ra.Ura.{Ura}
use mir.Val.{Val, vstruct, vnil, of_list}
use base.Logic.{ent, emp}
use types.Logic.{Logic, sem}
use denote.RattleType.{RattleType}
use denote.Laws.{Is}
use denote.Shadow.{makes_shadow}
use denote.Struct.Struct.{Struct}
use denote.Struct.Owning.{shape}
use Rattle.plain_words.proofs.Made.{token_val}
use Rattle.balloc_malloc.specs.contracts.held.Held as held

-- what is held without the words
abbrev pub Bare : RattleType
Bare = Struct (shape held.the_type)

pub bare_told : (vs : List Val) → Is Bare (record {}, tt) vs → vs ≡ token_val ∷ []
bare_told vs is = is.1.0 ∙ ap (λ (ws : List Val). vstruct (of_list (ws ++ [])) ∷ []) is.1.1.0.1.0

pub bare_made : {M : Type 1} {𝓤 : Ura M} (𝓛 : Logic 𝓤) → ent 𝓤 (emp 𝓤) (sem 𝓛 (Bare.own_val (record {}, tt) (token_val ∷ [])))
bare_made 𝓛 = makes_shadow 𝓛 (Bare.own_val (record {}, tt) (token_val ∷ [])) (λ vss. (tt, ((λ uss. (tt, tt)), tt))) ((vstruct vnil ∷ [], tt), (refl, ((tt, (refl, tt)), tt)))
