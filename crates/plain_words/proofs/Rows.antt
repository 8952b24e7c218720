-- Words in a row: one among them, a range that is taken out or put back, a row that is cut or glued, and one that begins at an odd word as room for pairs. Assumes `Logic`.
use Rattle.std.proofs.Common.{◌≡◌, ℕ, zero, suc, ◌+◌, ◌-◌, ◌*◌, ◌%◌, ◌^◌, ◌<◌, ◌≤◌, List, [], ◌∷◌, ◌++◌, length, get_or, set, drop as drop_l, sym, refl, ap, ◌∙◌, subst, length-append, arith, w64}
use lib.ListN.{take, take-append-drop, length-take, length-drop, length-replicate}
use lib.Seq.{drop-drop}
use Rattle.std.specs.Prelude.{Some, None}
use seplogic.Ra.Ura.{Ura}
use mir.Syntax.{w128, ty_int, ty_array}
use mir.Val.{vint}
use base.Fraction.{full_share}
use base.Logic.{SProp, ent, sep, wand, all, emp, apply∗, all_e, id⊢, mono_r, mono∗}
use base.Fml.{Fml, Lft, ftrue, fsep, froom, fat}
use types.Logic.{Logic, sem}
use types.SemTy.{cells}
use types.Kit.{‵, raw, ◌⊛◌, ◌$◌, ◌∵◌, !, qed, by, move, keep, drop, use0, use1, use2, split, split3, fsplit, fjoin, frame, each, assume, rewrite, fpick, fpack, done}
use denote.Builtin.{u64}
use denote.Memory.{part_at, mem}
use denote.RawPtr.{Ptr, block_of, count_of}
use denote.Slice.{elements_shared}
use denote.Steps.{nothing}
use Rattle.core.proofs.tally.Steps.{word_out}
use Rattle.plain_words.specs.Places.{Place, laid, laids, blanks, outs, run, put, IsHere, AllHere}
use Rattle.plain_words.specs.Owned.{place, mate, pairs_up, if_odd, pairs_ty, row, plain_owns, Lies, row_lent, place_lent}

pub length-put : (ps : List Place) (k : ℕ) (qs : List Place) → k + length qs ≤ length ps → length (put ps k qs) ≡ length ps
length-put ps k qs le = omega (arith, length-append (take k ps) (qs ++ drop_l (k + length qs) ps), length-append qs (drop_l (k + length qs) ps), length-take k ps, length-drop (k + length qs) ps)

pub length-run : (ps : List Place) (k n : ℕ) → k + n ≤ length ps → length (run ps k n) ≡ n
length-run ps k n le = omega (arith, length-take n (drop_l k ps), length-drop k ps, le)

module _ {M : Type 1} {𝓤 : Ura M} (𝓛 : Logic 𝓤) (b : ℕ) where
  open 𝓛 use {H}

  abbrev Pr : Type 2
  Pr = SProp 𝓤

  abbrev ◌⊢◌ : Pr → Pr → Type 1
  P ⊢ Q = ent 𝓤 P Q

  abbrev ◌∗◌ : Pr → Pr → Pr
  P ∗ Q = sep 𝓤 P Q

  abbrev ◌-∗◌ : Pr → Pr → Pr
  P -∗ Q = wand 𝓤 P Q

  abbrev ⟦◌⟧ : Fml → Pr
  ⟦ P ⟧ = sem 𝓛 P

  infix 26 ◌⊢◌
  infixr 35 ◌∗◌
  infixr 30 ◌-∗◌
  abbrev word : ℕ → Fml
  word o = froom (ty_int w64) b o

  -- a word that is here may be overwritten, whatever it holds
  pub roomy : (o : ℕ) (p : Place) → IsHere p → ⟦ place b o p ⟧ ⊢ ⟦ word o ⟧
  roomy o None h = absurd (h refl)
  roomy o (Some None) h = id⊢ 𝓤 ⟦ word o ⟧
  roomy o (Some (Some n)) h = qed 𝓛 (‵ (part_at u64 full_share n b o) ∷ []) ∵ use1 𝓛 (‵ (fat full_share (ty_int w64) b o (vint w64 n))) (word_out 𝓛 b o n) $ by ! (𝓛.laws.at_room (ty_int w64) b o (vint w64 n))

  -- a pair is two words, and the way back
  pub halves : (o : ℕ) → H.room (ty_int w128) b o ⊢ ⟦ word o ⟧ ∗ (⟦ word (o + 8) ⟧ ∗ ⟦ pairs_up b o ⟧)
  halves o = let Two : Pr = H.room (ty_array (ty_int w64) 2) b o in let Pair : Pr = H.room (ty_int w128) b o in
      qed 𝓛 (‵ (froom (ty_int w128) b o) ∷ []) ∵ use1 𝓛 (raw Two ⊛ raw (Two -∗ Pair)) (𝓛.laws.room_as (ty_int w128) (ty_array (ty_int w64) 2) b o refl tt) $ split ! $
      use1 𝓛 (‵ (word o) ⊛ ‵ (froom (ty_array (ty_int w64) 1) b (o + 8))) (𝓛.laws.room_uncons (ty_int w64) 1 b o) $ split ! $ frame ! $
      use1 𝓛 (‵ (word (o + 8)) ⊛ ‵ (froom (ty_array (ty_int w64) 0) b (o + 8 + 8))) (𝓛.laws.room_uncons (ty_int w64) 0 b (o + 8)) $ split ! $ frame ! $ drop ! $
      assume ! (‵ (fsep (word o) (word (o + 8)))) $ fsplit ! $ move ! (1 ∷ []) $ use0 𝓛 (‵ (froom (ty_array (ty_int w64) 0) b (o + 8 + 8))) (𝓛.laws.room_nil (ty_int w64) b (o + 8 + 8)) $ move ! (1 ∷ 0 ∷ []) $
      use2 𝓛 (‵ (froom (ty_array (ty_int w64) 1) b (o + 8))) (𝓛.laws.room_cons (ty_int w64) 0 b (o + 8)) $ move ! (1 ∷ 0 ∷ []) $ use2 𝓛 (raw Two) (𝓛.laws.room_cons (ty_int w64) 1 b o) $ by ! (apply∗ 𝓤 Two Pair)

  pub paired : (o : ℕ) → ⟦ word o ⟧ ∗ (⟦ word (o + 8) ⟧ ∗ ⟦ pairs_up b o ⟧) ⊢ H.room (ty_int w128) b o
  paired o = let Both : Fml = fsep (word o) (word (o + 8)) in qed 𝓛 (‵ (word o) ∷ ‵ (fsep (word (o + 8)) (pairs_up b o)) ∷ []) ∵ move ! (1 ∷ []) $ fsplit ! $ move ! (2 ∷ 0 ∷ []) $ fjoin ! $ by ! (apply∗ 𝓤 ⟦ Both ⟧ (H.room (ty_int w128) b o))

  module _ (c : ℕ) where
    -- what goes with a word that is here goes with it whatever it comes to hold
    mate_stays : (k : ℕ) (p q : Place) → IsHere p → ⟦ mate b c k p ⟧ ⊢ ⟦ mate b c k q ⟧
    mate_stays k None q h = absurd (h refl)
    mate_stays k (Some p) None h = qed 𝓛 (‵ (mate b c k (Some p)) ∷ []) ∵ keep ! [] $ done !
    mate_stays k (Some p) (Some q) h = id⊢ 𝓤 ⟦ mate b c k (Some q) ⟧

    abbrev pub one : ℕ → Place → Fml
    one k p = fsep (place b (k * 8 + c) p) (mate b c k p)

    -- what a word that is here holds is given up
    pub blanked : (k : ℕ) (p : Place) → IsHere p → ⟦ one k p ⟧ ⊢ ⟦ one k (Some None) ⟧
    blanked k p h = qed 𝓛 (‵ (place b (k * 8 + c) p) ∷ ‵ (mate b c k p) ∷ []) ∵ use1 𝓛 (‵ (word (k * 8 + c))) (roomy (k * 8 + c) p h) $ move ! (1 ∷ []) $
        use1 𝓛 (‵ (mate b c k (Some None))) (mate_stays k p (Some None) h) $ move ! (1 ∷ 0 ∷ []) $ done !

    pub all_blanked : (ps : List Place) (k : ℕ) → AllHere ps → ⟦ row b c k ps ⟧ ⊢ ⟦ row b c k (blanks (length ps)) ⟧
    all_blanked [] k h = id⊢ 𝓤 (emp 𝓤)
    all_blanked (p ∷ ps) k h = mono∗ 𝓤 (blanked k p (h 0 (omega arith))) (all_blanked ps (suc k) (λ i lt. h (suc i) (omega (arith, lt))))

    -- the row again, with q in the place of the word i, which lies at `at`
    abbrev pub Reset : ℕ → ℕ → List Place → ℕ → Place → Pr
    Reset k at ps i q = ⟦ place b at q ⟧ -∗ ⟦ row b c k (set ps i q) ⟧

    pub one_of : (ps : List Place) (k at i : ℕ) → i < length ps → at ≡ (i + k) * 8 + c → IsHere (get_or ps i None) → ⟦ row b c k ps ⟧ ⊢ ⟦ place b at (get_or ps i None) ⟧ ∗ all 𝓤 (Reset k at ps i)
    one_of [] k at i lt e h = absurd (omega arith)
    one_of (p ∷ ps) k at zero lt e h = let same : k * 8 + c ≡ at = omega arith in qed 𝓛 (‵ (fsep (place b (k * 8 + c) p) (mate b c k p)) ∷ ‵ (row b c (suc k) ps) ∷ []) ∵ fsplit ! $
        rewrite ! 0 (λ (j : ℕ). ‵ (place b j p)) same refl $ frame ! $ each ! (Reset k at (p ∷ ps) zero) (λ q. use1 𝓛 (‵ (mate b c k q)) (mate_stays k p q h) $
        assume ! (‵ (place b at q)) $ rewrite ! 0 (λ (j : ℕ). ‵ (place b j q)) (sym same) refl $ fjoin ! $ done !)
    one_of (p ∷ ps) k at (suc i) lt e h = qed 𝓛 (‵ (fsep (place b (k * 8 + c) p) (mate b c k p)) ∷ ‵ (row b c (suc k) ps) ∷ []) ∵ move ! (1 ∷ []) $
        use1 𝓛 (‵ (place b at (get_or ps i None)) ⊛ raw (all 𝓤 (Reset (suc k) at ps i))) (one_of ps (suc k) at i (omega (arith, lt)) (omega (arith, e)) h) $ split ! $ frame ! $
        each ! (Reset k at (p ∷ ps) (suc i)) (λ q. use1 𝓛 (raw (Reset (suc k) at ps i q)) (all_e 𝓤 (Reset (suc k) at ps i) q) $ assume ! (‵ (place b at q)) $
        use2 𝓛 (‵ (row b c (suc k) (set ps i q))) (apply∗ 𝓤 ⟦ place b at q ⟧ ⟦ row b c (suc k) (set ps i q) ⟧) $ move ! (1 ∷ 0 ∷ []) $ done !)

    pub cut : (xs ys : List Place) (k j : ℕ) → j ≡ length xs + k → ⟦ row b c k (xs ++ ys) ⟧ ⊢ ⟦ row b c k xs ⟧ ∗ ⟦ row b c j ys ⟧
    cut [] ys k j e = let same : k ≡ j = omega arith in qed 𝓛 (‵ (row b c k ys) ∷ []) ∵ rewrite ! 0 (λ (i : ℕ). ‵ (row b c i ys)) same refl $ nothing ! $ done !
    cut (x ∷ xs) ys k j e = let more : j ≡ suc (length xs) + k = e in qed 𝓛 (‵ (fsep (place b (k * 8 + c) x) (mate b c k x)) ∷ ‵ (row b c (suc k) (xs ++ ys)) ∷ []) ∵ move ! (1 ∷ []) $
        use1 𝓛 (‵ (row b c (suc k) xs) ⊛ ‵ (row b c j ys)) (cut xs ys (suc k) j (omega arith)) $ split ! $ move ! (2 ∷ 0 ∷ []) $ fjoin ! $ done !

    pub glue : (xs ys : List Place) (k j : ℕ) → j ≡ length xs + k → ⟦ row b c k xs ⟧ ∗ ⟦ row b c j ys ⟧ ⊢ ⟦ row b c k (xs ++ ys) ⟧
    glue [] ys k j e = let same : j ≡ k = omega arith in qed 𝓛 (‵ ftrue ∷ ‵ (row b c j ys) ∷ []) ∵ drop ! $ rewrite ! 0 (λ (i : ℕ). ‵ (row b c i ys)) same refl $ done !
    glue (x ∷ xs) ys k j e = let more : j ≡ suc (length xs) + k = e in qed 𝓛 (‵ (row b c k (x ∷ xs)) ∷ ‵ (row b c j ys) ∷ []) ∵ fsplit ! $ move ! (1 ∷ 2 ∷ []) $
        use2 𝓛 (‵ (row b c (suc k) (xs ++ ys))) (glue xs ys (suc k) j (omega arith)) $ move ! (1 ∷ 0 ∷ []) $ done !

    -- words that are out are nowhere
    nowhere : (n k : ℕ) → emp 𝓤 ⊢ ⟦ row b c k (outs n) ⟧
    nowhere zero k = id⊢ 𝓤 (emp 𝓤)
    nowhere (suc n) k = qed 𝓛 [] ∵ nothing ! $ nothing ! $ fjoin ! $ use0 𝓛 (‵ (row b c (suc k) (outs n))) (nowhere n (suc k)) $ move ! (1 ∷ 0 ∷ []) $ done !

    -- the words from the i-th of ps on, which is the word j
    module _ (k : ℕ) (ps : List Place) (i j : ℕ) (far : j ≡ k + i) where
      -- all but n of those
      abbrev around : ℕ → Fml
      around n = fsep (row b c k (take i ps)) (row b c (n + j) (drop_l (i + n) ps))

      before : i ≤ length ps → j ≡ length (take i ps) + k
      before le = omega (arith, far, length-take i ps)

      aside : (n : ℕ) → i + n ≤ length ps → ⟦ row b c k ps ⟧ ⊢ ⟦ row b c j (run ps i n) ⟧ ∗ ⟦ around n ⟧
      aside n le = let mid : List Place = run ps i n in let ys : List Place = drop_l (i + n) ps in let long : n ≡ length mid = sym (length-run ps i n le) in
          qed 𝓛 (‵ (row b c k ps) ∷ []) ∵ rewrite ! 0 (λ (l : List Place). ‵ (row b c k l)) (sym (take-append-drop i ps) ∙ ap (λ (l : List Place). take i ps ++ l) (sym (take-append-drop n (drop_l i ps)) ∙ ap (λ (l : List Place). mid ++ l) (drop-drop n i ps))) refl $
          use1 𝓛 (‵ (row b c k (take i ps)) ⊛ ‵ (row b c j (mid ++ ys))) (cut (take i ps) (mid ++ ys) k j (before (omega arith))) $ split ! $ move ! (1 ∷ []) $
          use1 𝓛 (‵ (row b c j mid) ⊛ ‵ (row b c (n + j) ys)) (cut mid ys j (n + j) (ap (λ (m : ℕ). m + j) long)) $ split ! $ move ! (2 ∷ 1 ∷ []) $ fjoin ! $ move ! (1 ∷ 0 ∷ []) $ done !

      filled : (qs : List Place) → i + length qs ≤ length ps → ⟦ row b c j qs ⟧ ∗ ⟦ around (length qs) ⟧ ⊢ ⟦ row b c k (put ps i qs) ⟧
      filled qs le = let ys : List Place = drop_l (i + length qs) ps in qed 𝓛 (‵ (row b c j qs) ∷ ‵ (around (length qs)) ∷ []) ∵ move ! (1 ∷ []) $ fsplit ! $ move ! (2 ∷ 1 ∷ []) $
          use2 𝓛 (‵ (row b c j (qs ++ ys))) (glue qs ys j (length qs + j) refl) $ move ! (1 ∷ 0 ∷ []) $ by ! (glue (take i ps) (qs ++ ys) k j (before (omega arith)))

      pub range_in : (qs : List Place) → i + length qs ≤ length ps → ⟦ row b c k ps ⟧ ∗ ⟦ row b c j qs ⟧ ⊢ ⟦ row b c k (put ps i qs) ⟧
      range_in qs le = qed 𝓛 (‵ (row b c k ps) ∷ ‵ (row b c j qs) ∷ []) ∵ use1 𝓛 (‵ (row b c j (run ps i (length qs))) ⊛ ‵ (around (length qs))) (aside (length qs) le) $ split ! $ drop ! $ move ! (1 ∷ 0 ∷ []) $ by ! (filled qs le)

      pub range_out : (n : ℕ) → i + n ≤ length ps → ⟦ row b c k ps ⟧ ⊢ ⟦ row b c j (run ps i n) ⟧ ∗ ⟦ row b c k (put ps i (outs n)) ⟧
      range_out n le = let same : n ≡ length (outs n) = sym (length-replicate n None) in
          qed 𝓛 (‵ (row b c k ps) ∷ []) ∵ use1 𝓛 (‵ (row b c j (run ps i n)) ⊛ ‵ (around n)) (aside n le) $ split ! $ frame ! $
          rewrite ! 0 (λ (m : ℕ). ‵ (around m)) same refl $ use0 𝓛 (‵ (row b c j (outs n))) (nowhere n j) $ by ! (filled (outs n) (subst (λ (m : ℕ). i + m ≤ length ps) same le))

    -- what goes with n words that are here
    abbrev pub mates : ℕ → ℕ → Fml
    mates k zero = ftrue
    mates k (suc n) = fsep (mate b c k (Some None)) (mates (suc k) n)

    -- what lies in a slice
    pub to_cells : (ns : List ℕ) (k o : ℕ) → k * 8 + c ≡ o → ⟦ row b c k (laids ns) ⟧ ⊢ ⟦ cells (mem u64) ns b o ⟧ ∗ ⟦ mates k (length ns) ⟧
    to_cells [] k o e = qed 𝓛 (‵ ftrue ∷ []) ∵ nothing ! $ done !
    to_cells (n ∷ ns) k o e = qed 𝓛 (‵ (fsep (part_at u64 full_share n b (k * 8 + c)) (mate b c k (laid n))) ∷ ‵ (row b c (suc k) (laids ns)) ∷ []) ∵ fsplit ! $ rewrite ! 0 (λ (m : ℕ). ‵ (part_at u64 full_share n b m)) e refl $ move ! (2 ∷ []) $
        use1 𝓛 (‵ (cells (mem u64) ns b (o + 8)) ⊛ ‵ (mates (suc k) (length ns))) (to_cells ns (suc k) (o + 8) (omega arith)) $ split ! $ move ! (2 ∷ 0 ∷ []) $ fjoin ! $ move ! (2 ∷ 1 ∷ []) $ fjoin ! $ move ! (1 ∷ 0 ∷ []) $ done !

    pub of_cells : (ns : List ℕ) (k o m : ℕ) → k * 8 + c ≡ o → length ns ≡ m → ⟦ cells (mem u64) ns b o ⟧ ∗ ⟦ mates k m ⟧ ⊢ ⟦ row b c k (laids ns) ⟧
    of_cells [] k o m e long = qed 𝓛 (‵ (cells (mem u64) [] b o) ∷ ‵ (mates k m) ∷ []) ∵ keep ! [] $ done !
    of_cells (n ∷ ns) k o zero e long = absurd (omega (arith, long))
    of_cells (n ∷ ns) k o (suc m) e long = qed 𝓛 (‵ (fsep (part_at u64 full_share n b o) (cells (mem u64) ns b (o + 8))) ∷ ‵ (fsep (mate b c k (Some None)) (mates (suc k) m)) ∷ []) ∵ fsplit ! $ move ! (2 ∷ []) $ fsplit ! $ move ! (3 ∷ 1 ∷ []) $
        use2 𝓛 (‵ (row b c (suc k) (laids ns))) (of_cells ns (suc k) (o + 8) m (omega arith) (omega (arith, long))) $ move ! (2 ∷ []) $ rewrite ! 0 (λ (i : ℕ). ‵ (part_at u64 full_share n b i)) (sym e) refl $ move ! (0 ∷ 2 ∷ []) $ fjoin ! $ done !

    -- room for pairs is as many words twice from an odd one on that were never laid, and back
    pub of_pairs : (m n k o : ℕ) → n ≡ m + m → k % 2 ≡ 1 → k * 8 + c ≡ o → H.room (pairs_ty m) b o ⊢ ⟦ row b c k (blanks n) ⟧
    of_pairs zero zero k o long odd e = qed 𝓛 (‵ (froom (pairs_ty 0) b o) ∷ []) ∵ keep ! [] $ done !
    of_pairs zero (suc n) k o long odd e = absurd (omega (arith, long))
    of_pairs (suc m) zero k o long odd e = absurd (omega (arith, long))
    of_pairs (suc m) (suc zero) k o long odd e = absurd (omega (arith, long))
    of_pairs (suc m) (suc (suc n)) k o long odd e = let even : suc k % 2 ≡ 0 = omega (arith, odd) in let next : o + 8 ≡ suc k * 8 + c = omega arith in
        qed 𝓛 (‵ (froom (pairs_ty (suc m)) b o) ∷ []) ∵ use1 𝓛 (‵ (froom (ty_int w128) b o) ⊛ ‵ (froom (pairs_ty m) b (o + 16))) (𝓛.laws.room_uncons (ty_int w128) m b o) $ split ! $
        use1 𝓛 (‵ (word o) ⊛ (‵ (word (o + 8)) ⊛ ‵ (pairs_up b o))) (halves o) $ split3 ! $ move ! (3 ∷ []) $
        use1 𝓛 (‵ (row b c (suc (suc k)) (blanks n))) (of_pairs m n (suc (suc k)) (o + 16) (omega (arith, long)) (omega (arith, odd)) (omega arith)) $
        nothing ! $ rewrite ! 0 (λ (t : ℕ). ‵ (if_odd t (pairs_up b (suc k * 8 + c)))) (sym even) refl $ move ! (3 ∷ 0 ∷ []) $ rewrite ! 0 (λ (i : ℕ). ‵ (word i)) next refl $ fjoin ! $ fjoin ! $
        move ! (2 ∷ []) $ rewrite ! 0 (λ (i : ℕ). ‵ (pairs_up b i)) (sym e) refl $ rewrite ! 0 (λ (t : ℕ). ‵ (if_odd t (pairs_up b (k * 8 + c)))) (sym odd) refl $ move ! (2 ∷ 0 ∷ []) $ rewrite ! 0 (λ (i : ℕ). ‵ (word i)) (sym e) refl $ fjoin ! $ done !

    pub to_pairs : (m n k o : ℕ) → n ≡ m + m → k % 2 ≡ 1 → k * 8 + c ≡ o → ⟦ row b c k (blanks n) ⟧ ⊢ H.room (pairs_ty m) b o
    to_pairs zero n k o long odd e = qed 𝓛 (‵ (row b c k (blanks n)) ∷ []) ∵ drop ! $ use0 𝓛 (‵ (froom (pairs_ty 0) b o)) (𝓛.laws.room_nil (ty_int w128) b o) $ done !
    to_pairs (suc m) zero k o long odd e = absurd (omega (arith, long))
    to_pairs (suc m) (suc zero) k o long odd e = absurd (omega (arith, long))
    to_pairs (suc m) (suc (suc n)) k o long odd e = let next : suc k * 8 + c ≡ o + 8 = omega arith in
        qed 𝓛 (‵ (one k (Some None)) ∷ ‵ (row b c (suc k) (blanks (suc n))) ∷ []) ∵ fsplit ! $ rewrite ! 0 (λ (i : ℕ). ‵ (word i)) e refl $ move ! (1 ∷ []) $
        rewrite ! 0 (λ (t : ℕ). ‵ (if_odd t (pairs_up b (k * 8 + c)))) odd refl $ rewrite ! 0 (λ (i : ℕ). ‵ (pairs_up b i)) e refl $ move ! (2 ∷ []) $ fsplit ! $ fsplit ! $ rewrite ! 0 (λ (i : ℕ). ‵ (word i)) next refl $ move ! (2 ∷ []) $
        use1 𝓛 (‵ (froom (pairs_ty m) b (o + 16))) (to_pairs m n (suc (suc k)) (o + 16) (omega (arith, long)) (omega (arith, odd)) (omega arith)) $
        move ! (1 ∷ 3 ∷ []) $ fjoin ! $ move ! (3 ∷ 0 ∷ []) $ use2 𝓛 (‵ (froom (ty_int w128) b o)) (paired o) $ keep ! (0 ∷ 1 ∷ []) $ by ! (𝓛.laws.room_cons (ty_int w128) m b o)

    module _ (κ : Lft) where
      abbrev Seen : ℕ → List Place → Fml
      Seen k ps = row_lent b c k ps κ

      from_on : (ps : List Place) (i k j : ℕ) → i ≤ length ps → j ≡ i + k → ⟦ Seen k ps ⟧ ⊢ ⟦ Seen j (drop_l i ps) ⟧
      from_on ps zero k j le e = let same : k ≡ j = omega arith in subst (λ (i : ℕ). ⟦ Seen k ps ⟧ ⊢ ⟦ Seen i ps ⟧) same (id⊢ 𝓤 _)
      from_on [] (suc i) k j le e = absurd (omega arith)
      from_on (p ∷ ps) (suc i) k j le e = qed 𝓛 (‵ (place_lent b (k * 8 + c) p κ) ∷ ‵ (Seen (suc k) ps) ∷ []) ∵ drop ! $ by ! (from_on ps i (suc k) j (omega (arith, le)) (omega (arith, e)))

      up_to : (ns : List ℕ) (others : List Place) (k o : ℕ) → k * 8 + c ≡ o → ⟦ Seen k (laids ns ++ others) ⟧ ⊢ ⟦ elements_shared u64 ns b o κ ⟧
      up_to [] others k o e = qed 𝓛 (‵ (Seen k others) ∷ []) ∵ keep ! [] $ done !
      up_to (n ∷ ns) others k o e = subst (λ (i : ℕ). ⟦ Seen k (laids (n ∷ ns) ++ others) ⟧ ⊢ ⟦ place_lent b i (laid n) κ ⟧ ∗ ⟦ elements_shared u64 ns b (o + 8) κ ⟧) e (mono_r 𝓤 ⟦ place_lent b (k * 8 + c) (laid n) κ ⟧ (up_to ns others (suc k) (o + 8) (omega arith)))

      -- a run of laid words is lent as a slice
      pub run_seen : (ps : List Place) (i n : ℕ) (ns : List ℕ) (k at : ℕ) → i ≤ length ps → run ps i n ≡ laids ns → (i + k) * 8 + c ≡ at → ⟦ Seen k ps ⟧ ⊢ ⟦ elements_shared u64 ns b at κ ⟧
      run_seen ps i n ns k at le is e = qed 𝓛 (‵ (Seen k ps) ∷ []) ∵ use1 𝓛 (‵ (Seen (i + k) (drop_l i ps))) (from_on ps i k (i + k) le refl) $
          rewrite ! 0 (λ (l : List Place). ‵ (Seen (i + k) l)) (sym (take-append-drop n (drop_l i ps)) ∙ ap (λ (l : List Place). l ++ drop_l n (drop_l i ps)) is) refl $ by ! (up_to ns (drop_l n (drop_l i ps)) (i + k) at e)

module _ {M : Type 1} {𝓤 : Ura M} (𝓛 : Logic 𝓤) (p : Ptr) where
  abbrev mine : ℕ → List Place → SProp 𝓤
  mine k ps = sem 𝓛 (plain_owns p k ps)

  pub cuts : (k n : ℕ) (ps : List Place) → n ≤ length ps → ent 𝓤 (mine k ps) (sep 𝓤 (mine k (take n ps)) (mine (k + n) (drop_l n ps)))
  cuts k n ps le = let b : ℕ = block_of p in let c : ℕ = count_of p in
      let front : length (take n ps) ≡ n = omega (arith, length-take n ps) in let behind : length (drop_l n ps) ≡ length ps - n = length-drop n ps in
      qed 𝓛 (‵ (plain_owns p k ps) ∷ []) ∵ fsplit ! $ fpick ! (λ lies. drop ! $ let small : (k + length ps) * 8 < 2 ^ 63 = lies.1 in
      let first : (k + length (take n ps)) * 8 < 2 ^ 63 = omega arith in let others : (k + n + length (drop_l n ps)) * 8 < 2 ^ 63 = omega arith in let far : k + n ≡ length (take n ps) + k = omega arith in
      rewrite ! 0 (λ (l : List Place). ‵ (row b c k l)) (sym (take-append-drop n ps)) refl $
      use1 𝓛 (‵ (row b c k (take n ps)) ⊛ ‵ (row b c (k + n) (drop_l n ps))) (cut 𝓛 b c (take n ps) (drop_l n ps) k (k + n) far) $ split ! $
      nothing ! $ fpack ! (Lies p (k + length (take n ps))) (λ _. ftrue) (lies.0, first) $ fjoin ! $ move ! (1 ∷ []) $
      nothing ! $ fpack ! (Lies p (k + n + length (drop_l n ps))) (λ _. ftrue) (lies.0, others) $ fjoin ! $ move ! (1 ∷ 0 ∷ []) $ done !)

  pub glues : (k : ℕ) (ps qs : List Place) → ent 𝓤 (sep 𝓤 (mine k ps) (mine (k + length ps) qs)) (mine k (ps ++ qs))
  glues k ps qs = let b : ℕ = block_of p in let c : ℕ = count_of p in let all_ : ℕ = length (ps ++ qs) in
      qed 𝓛 (‵ (plain_owns p k ps) ∷ ‵ (plain_owns p (k + length ps) qs) ∷ []) ∵ fsplit ! $ drop ! $ move ! (1 ∷ []) $ fsplit ! $ fpick ! (λ lies. drop ! $
      let long : all_ ≡ length ps + length qs = length-append ps qs in let last : (k + length ps + length qs) * 8 < 2 ^ 63 = lies.1 in let small : (k + all_) * 8 < 2 ^ 63 = omega arith in
      move ! (1 ∷ 0 ∷ []) $ use2 𝓛 (‵ (row b c k (ps ++ qs))) (glue 𝓛 b c ps qs k (k + length ps) (omega arith)) $ nothing ! $ fpack ! (Lies p (k + all_)) (λ _. ftrue) (lies.0, small) $ fjoin ! $ done !)

  pub restores : (k j : ℕ) (ps qs : List Place) → k ≤ j → j + length qs ≤ k + length ps → ent 𝓤 (sep 𝓤 (mine k ps) (mine j qs)) (mine k (put ps (j - k) qs))
  restores k j ps qs le inside = let b : ℕ = block_of p in let c : ℕ = count_of p in let i : ℕ = j - k in let far : j ≡ k + i = omega (arith, le) in
      let within : i + length qs ≤ length ps = omega (arith, le, inside) in let long : length (put ps i qs) ≡ length ps = length-put ps i qs within in
      qed 𝓛 (‵ (plain_owns p k ps) ∷ ‵ (plain_owns p j qs) ∷ []) ∵ fsplit ! $ fpick ! (λ lies. drop ! $ move ! (1 ∷ []) $ fsplit ! $ drop ! $ move ! (1 ∷ 0 ∷ []) $
      use2 𝓛 (‵ (row b c k (put ps i qs))) (range_in 𝓛 b c k ps i j far qs within) $ nothing ! $ fpack ! (Lies p (k + length (put ps i qs))) (λ _. ftrue) (lies.0, subst (λ (m : ℕ). (k + m) * 8 < 2 ^ 63) (sym long) lies.1) $ fjoin ! $ done !)
