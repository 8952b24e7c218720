-- A `&` to words lends each that is laid. Assumes `Logic`.
use Rattle.std.proofs.Common.{ℕ, suc, ◌+◌, ◌*◌, List, [], ◌∷◌, length}
use Rattle.std.specs.Prelude.{Some, None}
use seplogic.Ra.Ura.{Ura}
use base.Fml.{Lft, Fml, Incl, ftrue, fsep}
use types.Logic.{Logic}
use denote.Builtin.{u64}
use denote.RawPtr.{Ptr, block_of, count_of}
use denote.Sharing.{ShrLaws, said}
use denote.SharingLaws.{beside_shr_laws, nothing_shr_laws, said_shr_laws}
use denote.Shares.{Shares-less}
use denote.Param.Shared.{copy_shared}
use denote.Struct.Field.{u64-field}
use denote.Struct.Laws.{u64-copy}
use denote.Struct.Lending.{Lends, Lends-both, Lends-first, Lends-nothing, Lends-said}
use Rattle.plain_words.specs.Places.{Place}
use Rattle.plain_words.specs.Owned.{fact, Lies, place, mate, row, place_lent, row_lent, plain_owns, plain_lent}

place_lent_laws : (b o : ℕ) (p : Place) → ShrLaws (place_lent b o p)
place_lent_laws b o None = nothing_shr_laws
place_lent_laws b o (Some None) = nothing_shr_laws
place_lent_laws b o (Some (Some n)) = u64-copy.shr_laws n b o

row_lent_laws : (b c k : ℕ) (ps : List Place) → ShrLaws (row_lent b c k ps)
row_lent_laws b c k [] = nothing_shr_laws
row_lent_laws b c k (p ∷ ps) = beside_shr_laws _ _ (place_lent_laws b (k * 8 + c) p) (row_lent_laws b c (suc k) ps)

pub plain_lent_laws : (p : Ptr) (k : ℕ) (ps : List Place) → ShrLaws (plain_lent p k ps)
plain_lent_laws p k ps = beside_shr_laws _ _ (said_shr_laws (fact (Lies p (k + length ps))) (λ _. tt)) (row_lent_laws (block_of p) (count_of p) k ps)

module _ {M : Type 1} {𝓤 : Ura M} (𝓛 : Logic 𝓤) (l : Lft) (inc : Incl l (u64).lives) where
  lends_place : (b o : ℕ) (p : Place) → Lends 𝓛 (place b o p) (place_lent b o p) l
  lends_place b o None = Lends-nothing 𝓛 ftrue l
  lends_place b o (Some None) = Lends-nothing 𝓛 (place b o (Some None)) l
  lends_place b o (Some (Some n)) = λ κ ts. Shares-less 𝓛 u64 (u64).lives l inc ((copy_shared u64-field u64-copy).shares M 𝓤 𝓛) n κ ts b o

  -- what goes with a word is not lent
  lends_row : (b c k : ℕ) (ps : List Place) → Lends 𝓛 (row b c k ps) (row_lent b c k ps) l
  lends_row b c k [] = Lends-nothing 𝓛 ftrue l
  lends_row b c k (p ∷ ps) = let o : ℕ = k * 8 + c in let one : Fml = fsep (place b o p) (mate b c k p) in
      Lends-both 𝓛 one (row b c (suc k) ps) (place_lent b o p) (row_lent b c (suc k) ps) l (Lends-first 𝓛 (place b o p) (mate b c k p) (place_lent b o p) l (lends_place b o p)) (lends_row b c (suc k) ps)

  pub lends_plain : (p : Ptr) (k : ℕ) (ps : List Place) → Lends 𝓛 (plain_owns p k ps) (plain_lent p k ps) l
  lends_plain p k ps = let φ = fact (Lies p (k + length ps)) in let b : ℕ = block_of p in let c : ℕ = count_of p in
      Lends-both 𝓛 φ (row b c k ps) (said φ) (row_lent b c k ps) l (Lends-said 𝓛 φ (λ _. tt) l) (lends_row b c k ps)
