-- A laid word in a row, as the cell that a step works on. Assumes `Logic`.
use Rattle.std.proofs.Common.{◌≡◌, ℕ, zero, suc, ◌+◌, ◌*◌, ◌<◌, List, [], ◌∷◌, length, get_or, set, refl, arith}
use Rattle.std.specs.Prelude.{None}
use seplogic.Ra.Ura.{Ura}
use base.Logic.{SProp, ent, sep, wand, all, all_e, apply∗}
use types.Logic.{Logic, sem}
use types.Kit.{‵, raw, ◌⊛◌, ◌$◌, ◌∵◌, !, qed, use1, use2, split, frame, each, assume, rewrite, done}
use Rattle.core.proofs.tally.Steps.{word_out, word_in}
use Rattle.atomic_table.specs.Seated.{word}
use Rattle.plain_words.specs.Places.{Place, laid, IsHere}
use Rattle.plain_words.specs.Owned.{place, row}
use Rattle.plain_words.proofs.Rows.{Reset, one_of}

laid-inside : (ps : List Place) (i n : ℕ) → get_or ps i None ≡ laid n → i < length ps
laid-inside [] i n e = absurd (let no : ⊥ = cc in no)
laid-inside (p ∷ ps) zero n e = omega arith
laid-inside (p ∷ ps) (suc i) n e = omega (arith, laid-inside ps i n e)

module _ {M : Type 1} {𝓤 : Ura M} (𝓛 : Logic 𝓤) (b c at : ℕ) (ps : List Place) (i : ℕ) where
  -- the row again, with the word i laid with m
  abbrev pub Written : ℕ → SProp 𝓤
  Written m = wand 𝓤 (sem 𝓛 (word b at m)) (sem 𝓛 (row b c 0 (set ps i (laid m))))

  pub word_at : (n : ℕ) → get_or ps i None ≡ laid n → at ≡ i * 8 + c → ent 𝓤 (sem 𝓛 (row b c 0 ps)) (sep 𝓤 (sem 𝓛 (word b at n)) (all 𝓤 Written))
  word_at n is e = let R : Place → SProp 𝓤 = Reset 𝓛 b c 0 at ps i in let here : IsHere (get_or ps i None) = λ out. let no : ⊥ = cc (is, out) in no in qed 𝓛 (‵ (row b c 0 ps) ∷ []) ∵
      use1 𝓛 (‵ (place b at (get_or ps i None)) ⊛ raw (all 𝓤 R)) (one_of 𝓛 b c ps 0 at i (laid-inside ps i n is) (omega (arith, e)) here) $ split ! $ rewrite ! 0 (λ (p : Place). ‵ (place b at p)) is refl $
      use1 𝓛 (‵ (word b at n)) (word_out 𝓛 b at n) $ frame ! $ each ! Written (λ m. use1 𝓛 (raw (R (laid m))) (all_e 𝓤 R (laid m)) $ assume ! (‵ (word b at m)) $
      use1 𝓛 (‵ (place b at (laid m))) (word_in 𝓛 b at m) $ use2 𝓛 (‵ (row b c 0 (set ps i (laid m)))) (apply∗ 𝓤 (sem 𝓛 (place b at (laid m))) (sem 𝓛 (row b c 0 (set ps i (laid m))))) $ done !)
