-- A block of pairs is its first word, the way from that one and the next to a pair, and the other words, which begin 8 bytes into it; and back. Assumes `Logic`.
use Rattle.std.proofs.Common.{◌≡◌, ℕ, zero, suc, ◌+◌, ◌-◌, ◌*◌, ◌^◌, ◌<◌, List, [], ◌∷◌, length, refl, arith, w64}
use lib.ListN.{length-replicate}
use Rattle.std.specs.Prelude.{Some, None}
use Rattle.std.specs.Borrow.{u64}
use Rattle.std.specs.Ptr.{ptr_add}
use seplogic.Ra.Ura.{Ura}
use mir.Syntax.{w128, ty_int}
use base.Logic.{SProp, ent, sep}
use base.Fml.{Fml, ftrue, froom}
use types.Logic.{Logic, sem}
use types.Kit.{‵, ◌⊛◌, ◌$◌, ◌∵◌, !, qed, by, move, keep, use1, use2, split, split3, fsplit, fjoin, frame, rewrite, fpack, done}
use denote.RawPtr.{Ptr, block_ptr}
use denote.Steps.{nothing}
use Rattle.plain_words.specs.Places.{Place, blanks, AllHere}
use Rattle.plain_words.specs.Owned.{Lies, pairs_up, pairs_ty, row, plain_owns}
use Rattle.plain_words.proofs.Rows.{roomy, halves, paired, all_blanked, of_pairs, to_pairs}

module _ {M : Type 1} {𝓤 : Ura M} (𝓛 : Logic 𝓤) (b o : ℕ) where
  open 𝓛 use {H}

  abbrev pub words_at : Ptr
  words_at = ptr_add u64 1 (block_ptr b o)

  abbrev ⟦◌⟧ : Fml → SProp 𝓤
  ⟦ P ⟧ = sem 𝓛 P

  abbrev word : ℕ → Fml
  word i = froom (ty_int w64) b i

  pub cut_block : (n : ℕ) → 0 < n → n * 16 < 2 ^ 63 → ent 𝓤 (H.room (pairs_ty n) b o) (sep 𝓤 ⟦ word o ⟧ (sep 𝓤 ⟦ pairs_up b o ⟧ ⟦ plain_owns words_at 0 (blanks (n + n - 1)) ⟧))
  cut_block zero some_ small = absurd (omega (arith, some_))
  cut_block (suc m) some_ small = let w : ℕ = m + m in let c : ℕ = 8 + o in let l : ℕ = suc m + suc m - 1 in let same : suc w ≡ l = omega arith in let next : o + 8 ≡ 0 * 8 + c = omega arith in
      let long : length (blanks l) ≡ l = length-replicate l (Some None) in let fits : (0 + length (blanks l)) * 8 < 2 ^ 63 = omega (arith, long, small) in
      qed 𝓛 (‵ (froom (pairs_ty (suc m)) b o) ∷ []) ∵ use1 𝓛 (‵ (froom (ty_int w128) b o) ⊛ ‵ (froom (pairs_ty m) b (o + 16))) (𝓛.laws.room_uncons (ty_int w128) m b o) $ split ! $
      use1 𝓛 (‵ (word o) ⊛ (‵ (word (o + 8)) ⊛ ‵ (pairs_up b o))) (halves 𝓛 b o) $ split3 ! $ frame ! $ move ! (2 ∷ []) $
      use1 𝓛 (‵ (row b c 1 (blanks w))) (of_pairs 𝓛 b c m w 1 (o + 16) refl refl (omega arith)) $ nothing ! $ move ! (2 ∷ 0 ∷ []) $ rewrite ! 0 (λ (i : ℕ). ‵ (word i)) next refl $ fjoin ! $ fjoin ! $
      rewrite ! 0 (λ (i : ℕ). ‵ (row b c 0 (blanks i))) same refl $ nothing ! $ fpack ! (Lies words_at (0 + length (blanks l))) (λ _. ftrue) (tt, fits) $ fjoin ! $ move ! (1 ∷ 0 ∷ []) $ done !

  pub whole_block : (ps : List Place) (n : ℕ) → length ps + 1 ≡ n + n → AllHere ps → ent 𝓤 (sep 𝓤 ⟦ word o ⟧ (sep 𝓤 ⟦ pairs_up b o ⟧ ⟦ row b (8 + o) 0 ps ⟧)) (H.room (pairs_ty n) b o)
  whole_block [] n long here = absurd (omega (arith, long))
  whole_block (p ∷ ps) zero long here = absurd (omega (arith, long))
  whole_block (p ∷ ps) (suc m) long here = let c : ℕ = 8 + o in let next : 0 * 8 + c ≡ o + 8 = omega arith in
      qed 𝓛 (‵ (word o) ∷ ‵ (pairs_up b o) ∷ ‵ (row b c 0 (p ∷ ps)) ∷ []) ∵ move ! (2 ∷ []) $ fsplit ! $ fsplit ! $ use1 𝓛 (‵ (word (0 * 8 + c))) (roomy 𝓛 b (0 * 8 + c) p (here 0 (omega arith))) $ rewrite ! 0 (λ (i : ℕ). ‵ (word i)) next refl $
      move ! (2 ∷ []) $ use1 𝓛 (‵ (row b c 1 (blanks (length ps)))) (all_blanked 𝓛 b c ps 1 (λ i lt. here (suc i) (omega (arith, lt)))) $
      use1 𝓛 (‵ (froom (pairs_ty m) b (o + 16))) (to_pairs 𝓛 b c m (length ps) 1 (o + 16) (omega (arith, long)) refl (omega arith)) $
      move ! (1 ∷ 4 ∷ []) $ fjoin ! $ move ! (3 ∷ 0 ∷ []) $ use2 𝓛 (‵ (froom (ty_int w128) b o)) (paired 𝓛 b o) $ keep ! (0 ∷ 1 ∷ []) $ by ! (𝓛.laws.room_cons (ty_int w128) m b o)
