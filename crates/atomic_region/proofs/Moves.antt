-- One step on a word, under the invariant, and how a region begins and ends. Assumes `Logic`.
use Rattle.std.proofs.Common.{◌≡◌, ℕ, ◌+◌, ◌*◌, ◌^◌, ◌<◌, ◌≤◌, T, List, [], ◌∷◌, ◌++◌, length, set, sym, refl, ap, ◌∙◌, subst, length-set, arith, w64}
use mathlib.Core.Option as maybe
use lib.ListN.{get_elem?, length-replicate}
use lib.Seq.{set-get_or}
use Rattle.std.specs.Prelude.{None}
use seplogic.Ra.Ura.{Ura}
use mir.Syntax.{ty_int}
use mir.Val.{vint, has_ty, WT}
use base.Fraction.{full_share}
use base.Share.{quarter, three_quarters}
use base.Stored.{Coded}
use base.Logic.{SProp, ent, sep, wand, ex, all, guard, upd, via, apply∗, all_e, upd_i, guard_i}
use base.Fml.{Lft, Share, Fml, ftrue, fsep, fex, fbor, finv, flft, flent}
use types.Logic.{Logic, sem}
use types.Kit.{‵, raw, ◌⊛◌, some, given, later, ◌$◌, ◌∵◌, !, qed, by, move, keep, drop, use0, use1, use2, split, fsplit, fsplit3, fjoin, fjoin3, fpick, fpack, pick, learn, check, show, frame, each, assume, suffices, await, updating, now, rewrite, settle, done}
use types.Owned.{basic}
use types.Keyed.{entries_new, entries_take}
use types.Tokens.{lft_new, lft_end, bor_new, lent_back}
use denote.RawPtr.{Ptr, block_ptr, block_of, count_of, InBlock}
use denote.Steps.{nothing}
use Rattle.core.specs.Sync.RawAtomic.{asks, always}
use Rattle.core.proofs.raw_atomic.Asked as asked
use Rattle.atomic_table.specs.Seated.{word, halved, unused, seen, roster}
use Rattle.atomic_table.proofs.Roster.{Moved, moves, Joined, joins, apart, resets}
use Rattle.plain_words.specs.Places.{Place, laid, number_at, IsLaid, put, outs, run}
use Rattle.plain_words.specs.Owned.{fact, row, plain_owns, Lies}
use Rattle.plain_words.proofs.Rows.{length-put, length-run, range_in, range_out}
use Rattle.atomic_region.specs.Region.{Range, State, Me, Act, keeps, takes, gives, chain, with_number, after, Valid, Goes, Allows, Enters, Splits, Joins, opening, Final, Seen}
use Rattle.atomic_region.specs.Owned.{RegionId, age, here, carried, mine, standing, inner, common, region_owns}
use Rattle.atomic_region.proofs.Words.{Written, word_at}

module _ {M : Type 1} {𝓤 : Ura M} (𝓛 : Logic 𝓤) where
  open 𝓛 use {H, A}

  abbrev Pr : Type 2
  Pr = SProp 𝓤

  abbrev ◌⊢◌ : Pr → Pr → Type 1
  P ⊢ Q = ent 𝓤 P Q

  abbrev ◌∗◌ : Pr → Pr → Pr
  P ∗ Q = sep 𝓤 P Q

  abbrev ◌-∗◌ : Pr → Pr → Pr
  P -∗ Q = wand 𝓤 P Q

  abbrev ⟦◌⟧ : Fml → Pr
  ⟦ P ⟧ = sem 𝓛 P

  infix 26 ◌⊢◌
  infixr 35 ◌∗◌
  infixr 30 ◌-∗◌
  module _ (z : RegionId) where
    abbrev b : ℕ
    b = block_of z.at

    abbrev o : ℕ
    o = count_of z.at

    abbrev pub After : List Place → List Range → Act → Pr
    After ps xs a = guard 𝓤 (length (after a (ps, xs)).0 ≡ z.words) (⟦ here z (after a (ps, xs)).0 ⟧ ∗ ⟦ carried z (after a (ps, xs)).1 ⟧)

    returns : (ps : List Place) (xs : List Range) → length ps ≡ z.words → ⟦ here z ps ⟧ ∗ ⟦ carried z xs ⟧ ⊢ After ps xs gives
    returns ps [] long = guard_i 𝓤 (length ps ≡ z.words) (⟦ here z ps ⟧ ∗ ⟦ carried z [] ⟧) long
    returns ps (x ∷ xs) long = qed 𝓛 (‵ (here z ps) ∷ ‵ (carried z (x ∷ xs)) ∷ []) ∵ move ! (1 ∷ []) $ fsplit3 ! $ fpick ! (λ at. drop ! $ fsplit ! $ drop ! $ let le : x.0 + length x.1 ≤ length ps = omega (arith, at, long) in
        check ! (length-put ps x.0 x.1 le ∙ long) $ move ! (2 ∷ 0 ∷ []) $ use2 𝓛 (‵ (here z (put ps x.0 x.1))) (range_in 𝓛 b o 0 ps x.0 x.0 (omega arith) x.1 le) $ done !)

    pub acts : Lies z.at z.words → (a : Act) (ps : List Place) (xs : List Range) → length ps ≡ z.words → Valid a (ps, xs) → ⟦ here z ps ⟧ ∗ ⟦ carried z xs ⟧ ⊢ After ps xs a
    acts lies keeps ps xs long ok = guard_i 𝓤 (length ps ≡ z.words) (⟦ here z ps ⟧ ∗ ⟦ carried z xs ⟧) long
    acts lies (takes k n) ps xs long ok = let mid : List Place = run ps k n in let same : length (outs n) ≡ n = length-replicate n None in let count : length mid ≡ n = length-run ps k n ok in let le : k + length mid ≤ z.words = omega (arith, ok, long, count) in
        let room : z.words * 8 < 2 ^ 63 = lies.1 in let small : (k + length mid) * 8 < 2 ^ 63 = omega arith in
        qed 𝓛 (‵ (here z ps) ∷ ‵ (carried z xs) ∷ []) ∵ check ! (length-put ps k (outs n) (omega (arith, ok, same)) ∙ long) $
        use1 𝓛 (‵ (row b o k mid) ⊛ ‵ (here z (put ps k (outs n)))) (range_out 𝓛 b o 0 ps k k (omega arith) n ok) $ split ! $ move ! (1 ∷ []) $ frame ! $
        nothing ! $ fpack ! (Lies z.at (k + length mid)) (λ _. ftrue) (lies.0, small) $ fjoin ! $ nothing ! $ fpack ! (k + length mid ≤ z.words) (λ _. ftrue) le $ done !
    acts lies gives ps xs long ok = returns ps xs long
    acts lies (chain a a') ps xs long ok = let ps' : List Place = (after a (ps, xs)).0 in let xs' : List Range = (after a (ps, xs)).1 in qed 𝓛 (‵ (here z ps) ∷ ‵ (carried z xs) ∷ []) ∵
        use2 𝓛 (given (length ps' ≡ z.words) (‵ (here z ps') ⊛ ‵ (carried z xs'))) (acts lies a ps xs long ok.0) $ learn ! (λ long'. split ! $ by ! (acts lies a' ps' xs' long' ok.1))

  module _ {V : Type 0} (cv : Coded V) (holds : State V → Type 0) (z : RegionId) where
    abbrev γ : ℕ
    γ = z.views_name

    abbrev κ : Lft
    κ = age z

    abbrev I : Fml
    I = inner z cv.code holds

    abbrev sat : ℕ → Me V → Fml
    sat = mine z cv.code

    abbrev half : ℕ → V → Fml
    half id v = seen cv.code γ id three_quarters v

    abbrev Here : List Place → Fml
    Here = here z

    abbrev Fits : State V → Type 0
    Fits s = holds s × (length s.places ≡ z.words)

    packs : (s : State V) → Fits s → ⟦ Here s.places ⟧ ∗ ⟦ roster cv.code γ 0 s.views ⟧ ⊢ ⟦ I ⟧
    packs s so = qed 𝓛 (‵ (Here s.places) ∷ ‵ (roster cv.code γ 0 s.views) ∷ []) ∵ nothing ! $ fpack ! (Fits s) (λ _. ftrue) so $ move ! (1 ∷ 2 ∷ 0 ∷ []) $ fjoin3 ! $ fpack ! (State V) (standing z cv.code holds) s $ done !

    abbrev pub next : ℕ → (Me V → Type 0) → Me V → Fml
    next id then u = fsep (fact (then u)) (sat id u)

    abbrev pub gained : ℕ → (Me V → Type 0) → Fml
    gained id then = fex (Me V) (next id then)

    finishes : Lies z.at z.words → (s : State V) (ps : List Place) (id : ℕ) (me : Me V) (then : Me V → Type 0) → length ps ≡ z.words → Goes holds s ps id me then
        → ⟦ Here ps ⟧ ∗ all 𝓤 (Moved 𝓛 cv γ 0 s.views id id) ∗ ⟦ carried z me.1 ⟧ ⊢ upd 𝓤 (⟦ I ⟧ ∗ ⟦ gained id then ⟧)
    finishes lies s ps id me then long r = let w : V = r.0 in let a : Act = r.1 in let h = after a (ps, me.1) in let qs : List Place = h.0 in let vs : List V = set s.views id w in let u : Me V = (w, h.1) in
        let t : State V = record { places = qs; views = vs } in let Z : Pr = ⟦ I ⟧ ∗ ⟦ gained id then ⟧ in
        qed 𝓛 (‵ (Here ps) ∷ raw (all 𝓤 (Moved 𝓛 cv γ 0 s.views id id)) ∷ ‵ (carried z me.1) ∷ []) ∵ move ! (1 ∷ []) $
        use1 𝓛 (raw (Moved 𝓛 cv γ 0 s.views id id w)) (all_e 𝓤 (Moved 𝓛 cv γ 0 s.views id id) w) $ settle 𝓛 Z (‵ (roster cv.code γ 0 vs) ⊛ ‵ (half id w)) $ split ! $ move ! (2 ∷ 3 ∷ []) $
        use2 𝓛 (given (length qs ≡ z.words) (‵ (Here qs) ⊛ ‵ (carried z u.1))) (acts z lies a ps me.1 long r.2) $ learn ! (λ long'. split ! $ move ! (0 ∷ 2 ∷ []) $
        use2 𝓛 (‵ I) (packs t (r.3, long')) $ suffices ! _ (upd_i 𝓤 Z) $ frame ! $ show ! (λ (x : Me V). ⟦ next id then x ⟧) u $ nothing ! $ fpack ! (then u) (λ _. ftrue) r.4 $ move ! (0 ∷ 2 ∷ 1 ∷ []) $ done !)

    module _ (q : Share) where
      -- the word i becomes f of what it was, where the rest can follow
      worded_by : (i : ℕ) (f : ℕ → ℕ) (gain : ℕ → Fml) (X : Pr)
          → ((s : State V) → Fits s → ⟦ roster cv.code γ 0 s.views ⟧ ∗ X ⊢ guard 𝓤 (IsLaid s.places i) (all 𝓤 (λ (_ : number_at s.places i < 18446744073709551616).
          ⟦ Here (with_number s.places i (f (number_at s.places i))) ⟧ -∗ upd 𝓤 (⟦ I ⟧ ∗ ⟦ gain (number_at s.places i) ⟧))))
          → A.inv (fbor κ I) ∗ A.lft κ q ∗ X ⊢ asks 𝓛 (block_ptr (b z) (i * 8 + o z)) f always (λ n. fsep (flft κ q) (gain n))
      worded_by i f gain X law = let e : ℕ = i * 8 + o z in let G : Pr = ex 𝓤 (asked.Lies 𝓛 κ q I (b z) e f always gain) in
          asked.borrowed 𝓛 κ q I (b z) e f always gain X (qed 𝓛 (‵ I ∷ raw X ∷ []) ∵ suffices ! _ (upd_i 𝓤 G) $ fpick ! (λ s. fsplit3 ! $ move ! (2 ∷ []) $ fpick ! (λ so. drop ! $ move ! (1 ∷ 2 ∷ []) $
          let ps : List Place = s.places in let n : ℕ = number_at ps i in let W : Fml = Here (with_number ps i (f n)) in let Z : Pr = upd 𝓤 (⟦ I ⟧ ∗ ⟦ gain n ⟧) in let Then : n < 18446744073709551616 → Pr = λ _. ⟦ W ⟧ -∗ Z in
          use2 𝓛 (given (IsLaid ps i) (raw (all 𝓤 Then))) (law s so) $ learn ! (λ is. move ! (1 ∷ []) $
          use1 𝓛 (‵ (word (b z) e n) ⊛ raw (all 𝓤 (Written 𝓛 (b z) (o z) e ps i))) (word_at 𝓛 (b z) (o z) e ps i n is refl) $ split ! $
          use1 𝓛 (given (T (has_ty (ty_int w64) (vint w64 n)) × WT (vint w64 n)) (‵ (word (b z) e n))) (𝓛.laws.at_wt full_share (ty_int w64) (b z) e (vint w64 n)) $ learn ! (λ typed.
          show ! (asked.Lies 𝓛 κ q I (b z) e f always gain) n $ frame ! $ each ! (λ (_ : Unit {0}). asked.Again 𝓛 κ q I (b z) e f always gain n) (λ _.
          use1 𝓛 (raw (Written 𝓛 (b z) (o z) e ps i (f n))) (all_e 𝓤 (Written 𝓛 (b z) (o z) e ps i) (f n)) $ assume ! (‵ (word (b z) e (f n))) $ use2 𝓛 (‵ W) (apply∗ 𝓤 ⟦ word (b z) e (f n) ⟧ ⟦ W ⟧) $ move ! (1 ∷ []) $
          use1 𝓛 (raw (⟦ W ⟧ -∗ Z)) (all_e 𝓤 Then typed.1.fits) $ move ! (1 ∷ 0 ∷ []) $ by ! (apply∗ 𝓤 ⟦ W ⟧ Z)))))))

      pub steps : Lies z.at z.words → (id : ℕ) (me : Me V) (i : ℕ) (f : ℕ → ℕ) (then : ℕ → Me V → Type 0) → Allows holds z.words id me i f then
          → A.inv (fbor κ I) ∗ A.lft κ q ∗ ⟦ sat id me ⟧ ⊢ asks 𝓛 (block_ptr (b z) (i * 8 + o z)) f always (λ n. fsep (flft κ q) (gained id (then n)))
      steps lies id me i f then law = worded_by i f (λ n. gained id (then n)) ⟦ sat id me ⟧ (λ s so. let n : ℕ = number_at s.places i in let ps : List Place = with_number s.places i (f n) in
          qed 𝓛 (‵ (roster cv.code γ 0 s.views) ∷ ‵ (half id me.0) ∷ ‵ (carried z me.1) ∷ []) ∵
          use2 𝓛 (given (get_elem? s.views id ≡ maybe.some me.0) (raw (all 𝓤 (Moved 𝓛 cv γ 0 s.views id id)))) (moves 𝓛 cv γ s.views 0 id id me.0 (omega arith)) $ learn ! (λ at. let r = law s so.0 so.1 at in check ! r.0 $
          each ! (λ (_ : n < 18446744073709551616). ⟦ Here ps ⟧ -∗ upd 𝓤 (⟦ I ⟧ ∗ ⟦ gained id (then n) ⟧)) (λ small. assume ! (‵ (Here ps)) $ by ! (finishes lies s ps id me (then n) (length-set s.places i (laid (f n)) ∙ so.1) (r.1 small)))))

      abbrev pub entered : (V → Type 0) → Fml
      entered then = fex (ℕ × V) (λ x. fsep (fact (then x.1)) (sat x.0 (x.1, [])))

      pub enters : (i : ℕ) (then : ℕ → V → Type 0) → Enters holds z.words i then
          → A.inv (fbor κ I) ∗ A.lft κ q ∗ ⟦ ftrue ⟧ ⊢ asks 𝓛 (block_ptr (b z) (i * 8 + o z)) (λ n. n) always (λ n. fsep (flft κ q) (entered (then n)))
      enters i then law = worded_by i (λ n. n) (λ n. entered (then n)) ⟦ ftrue ⟧ (λ s so. let n : ℕ = number_at s.places i in let W : List Place = with_number s.places i n in let Z : Pr = ⟦ I ⟧ ∗ ⟦ entered (then n) ⟧ in let r = law s so.0 so.1 in
          qed 𝓛 (‵ (roster cv.code γ 0 s.views) ∷ ‵ ftrue ∷ []) ∵ check ! r.0 $ each ! (λ (_ : n < 18446744073709551616). ⟦ Here W ⟧ -∗ upd 𝓤 Z) (λ small. let go = r.1 small in let w : V = go.0 in let vs : List V = s.views ++ w ∷ [] in assume ! (‵ (Here W)) $
          rewrite ! 0 (λ (ps : List Place). ‵ (Here ps)) (ap (λ (p : Place). set s.places i p) (sym r.0) ∙ set-get_or s.places i None) refl $ move ! (1 ∷ []) $
          use1 𝓛 (raw (upd 𝓤 (ex 𝓤 (Joined 𝓛 cv γ 0 s.views w)))) (joins 𝓛 cv γ s.views 0 w) $ settle 𝓛 Z (some (λ (j : ℕ). ‵ (roster cv.code γ 0 vs) ⊛ ‵ (half j w))) $ pick ! (λ j. split ! $ move ! (2 ∷ 0 ∷ []) $
          use2 𝓛 (‵ I) (packs record { places = s.places; views = vs } (go.1, so.1)) $ suffices ! _ (upd_i 𝓤 Z) $ frame ! $ fjoin ! $ nothing ! $ fpack ! (then n w) (λ _. ftrue) go.2 $ fjoin ! $
          fpack ! (ℕ × V) (λ x. fsep (fact (then n x.1)) (sat x.0 (x.1, []))) (j, w) $ done !)))

      -- the word is read, and the views change
      read_by : (i : ℕ) (gain : Fml) (X : Pr) → ((s : State V) → Fits s → ⟦ roster cv.code γ 0 s.views ⟧ ∗ X
          ⊢ guard 𝓤 (IsLaid s.places i) (⟦ Here s.places ⟧ -∗ upd 𝓤 (⟦ I ⟧ ∗ ⟦ gain ⟧)))
          → A.inv (fbor κ I) ∗ A.lft κ q ∗ X ⊢ asks 𝓛 (block_ptr (b z) (i * 8 + o z)) (λ n. n) always (λ n. fsep (flft κ q) gain)
      read_by i gain X law = worded_by i (λ n. n) (λ _. gain) X (λ s so. let n : ℕ = number_at s.places i in let W : List Place = with_number s.places i n in let Z : Pr = upd 𝓤 (⟦ I ⟧ ∗ ⟦ gain ⟧) in
          qed 𝓛 (‵ (roster cv.code γ 0 s.views) ∷ raw X ∷ []) ∵ use2 𝓛 (given (IsLaid s.places i) (raw (⟦ Here s.places ⟧ -∗ Z))) (law s so) $ learn ! (λ is. check ! is $
          each ! (λ (_ : n < 18446744073709551616). ⟦ Here W ⟧ -∗ Z) (λ _. assume ! (‵ (Here W)) $
          rewrite ! 0 (λ (ps : List Place). ‵ (Here ps)) (ap (λ (p : Place). set s.places i p) (sym is) ∙ set-get_or s.places i None) refl $ by ! (apply∗ 𝓤 ⟦ Here s.places ⟧ Z))))

      module _ (id : ℕ) (me : Me V) where
        abbrev pub two : V → V → ℕ → Fml
        two l r j = fsep (sat id (l, me.1)) (sat j (r, []))

        pub forks : (i : ℕ) (l r : V) → Splits holds z.words i id me.0 l r → A.inv (fbor κ I) ∗ A.lft κ q ∗ ⟦ sat id me ⟧ ⊢ asks 𝓛 (block_ptr (b z) (i * 8 + o z)) (λ n. n) always (λ n. fsep (flft κ q) (fex ℕ (two l r)))
        forks i l r law = read_by i (fex ℕ (two l r)) ⟦ sat id me ⟧ (λ s so. let Z : Pr = ⟦ I ⟧ ∗ ⟦ fex ℕ (two l r) ⟧ in let vs : List V = set s.views id l in
            qed 𝓛 (‵ (roster cv.code γ 0 s.views) ∷ ‵ (half id me.0) ∷ ‵ (carried z me.1) ∷ []) ∵
            use2 𝓛 (given (get_elem? s.views id ≡ maybe.some me.0) (raw (all 𝓤 (Moved 𝓛 cv γ 0 s.views id id)))) (moves 𝓛 cv γ s.views 0 id id me.0 (omega arith)) $ learn ! (λ at. let good = law s so.0 so.1 at in check ! good.0 $ assume ! (‵ (Here s.places)) $
            move ! (1 ∷ []) $ use1 𝓛 (raw (Moved 𝓛 cv γ 0 s.views id id l)) (all_e 𝓤 (Moved 𝓛 cv γ 0 s.views id id) l) $ settle 𝓛 Z (‵ (roster cv.code γ 0 vs) ⊛ ‵ (half id l)) $ split ! $
            use1 𝓛 (raw (upd 𝓤 (ex 𝓤 (Joined 𝓛 cv γ 0 vs r)))) (joins 𝓛 cv γ vs 0 r) $ settle 𝓛 Z (some (λ (j : ℕ). ‵ (roster cv.code γ 0 (vs ++ r ∷ [])) ⊛ ‵ (half j r))) $ pick ! (λ j. split ! $ move ! (3 ∷ 0 ∷ []) $
            use2 𝓛 (‵ I) (packs record { places = s.places; views = vs ++ r ∷ [] } (good.1, so.1)) $ suffices ! _ (upd_i 𝓤 Z) $ frame ! $ show ! (λ (x : ℕ). ⟦ two l r x ⟧) j $ nothing ! $ move ! (1 ∷ 0 ∷ []) $ fjoin ! $ move ! (1 ∷ 2 ∷ []) $ fjoin ! $ done !)))

        module _ (other : ℕ) (it : Me V) (both spent : V) where
          abbrev pub merged : Fml
          merged = fsep (sat id (both, me.1)) (sat other (spent, it.1))

          pub absorbs : (i : ℕ) → Joins holds z.words i id me.0 other it.0 both spent
              → A.inv (fbor κ I) ∗ A.lft κ q ∗ (⟦ sat id me ⟧ ∗ ⟦ sat other it ⟧) ⊢ asks 𝓛 (block_ptr (b z) (i * 8 + o z)) (λ n. n) always (λ n. fsep (flft κ q) merged)
          absorbs i law = read_by i merged (⟦ sat id me ⟧ ∗ ⟦ sat other it ⟧) (λ s so. let Z : Pr = ⟦ I ⟧ ∗ ⟦ merged ⟧ in let vs : List V = set s.views id both in let us : List V = set vs other spent in
              qed 𝓛 (‵ (roster cv.code γ 0 s.views) ∷ ‵ (sat id me) ∷ ‵ (sat other it) ∷ []) ∵ let good = law s so.0 so.1 in check ! good.0 $ assume ! (‵ (Here s.places)) $
              move ! (2 ∷ []) $ fsplit ! $ move ! (4 ∷ []) $ fsplit ! $ move ! (2 ∷ 0 ∷ []) $
              use2 𝓛 (given (¬ (other ≡ id)) (‵ (half id me.0) ⊛ ‵ (half other it.0))) (apart 𝓛 cv γ id other me.0 it.0) $ learn ! (λ distinct. split ! $ move ! (5 ∷ 0 ∷ []) $
              use2 𝓛 (given (get_elem? s.views id ≡ maybe.some me.0) (raw (all 𝓤 (Moved 𝓛 cv γ 0 s.views id id)))) (moves 𝓛 cv γ s.views 0 id id me.0 (omega arith)) $ learn ! (λ at.
              use1 𝓛 (raw (Moved 𝓛 cv γ 0 s.views id id both)) (all_e 𝓤 (Moved 𝓛 cv γ 0 s.views id id) both) $ settle 𝓛 Z (‵ (roster cv.code γ 0 vs) ⊛ ‵ (half id both)) $ split ! $ move ! (0 ∷ 2 ∷ []) $
              use2 𝓛 (given (get_elem? vs other ≡ maybe.some it.0) (raw (all 𝓤 (Moved 𝓛 cv γ 0 vs other other)))) (moves 𝓛 cv γ vs 0 other other it.0 (omega arith)) $ learn ! (λ there.
              use1 𝓛 (raw (Moved 𝓛 cv γ 0 vs other other spent)) (all_e 𝓤 (Moved 𝓛 cv γ 0 vs other other) spent) $ settle 𝓛 Z (‵ (roster cv.code γ 0 us) ⊛ ‵ (half other spent)) $ split ! $ move ! (5 ∷ 0 ∷ []) $
              use2 𝓛 (‵ I) (packs record { places = s.places; views = us } (good.1 at distinct there, so.1)) $ suffices ! _ (upd_i 𝓤 Z) $ frame ! $ move ! (1 ∷ 3 ∷ []) $ fjoin ! $ move ! (1 ∷ 2 ∷ []) $ fjoin ! $ move ! (1 ∷ 0 ∷ []) $ done !))))

    -- the words that are at home, which begin their memory
    rests : Lies z.at z.words → (ps : List Place) → length ps ≡ z.words → ⟦ Here ps ⟧ ⊢ ⟦ plain_owns z.at 0 ps ⟧
    rests lies ps long = let size : z.words ≡ 0 + length ps = omega (arith, long) in qed 𝓛 (‵ (Here ps) ∷ []) ∵
        nothing ! $ fpack ! (Lies z.at (0 + length ps)) (λ _. ftrue) (lies.0, subst (λ (k : ℕ). k * 8 < 2 ^ 63) size lies.1) $ done !

    abbrev pub Ended : List Place → Pr
    Ended ps = guard 𝓤 (Final holds ps × (length ps ≡ z.words)) ⟦ plain_owns z.at 0 ps ⟧

    pub ends : ⟦ region_owns cv.code z holds ⟧ ⊢ H.⇛ (ex 𝓤 Ended)
    unfolding Rattle.atomic_region.specs.Owned.seal
    ends = qed 𝓛 (‵ (flft κ full_share) ∷ ‵ (common z cv.code holds) ∷ ‵ (flent κ I) ∷ []) ∵ updating ! $ lft_end ! tt $ move ! (1 ∷ []) $ fsplit ! $ fpick ! (λ at. drop ! $ drop ! $ lent_back ! tt $
        fpick ! (λ s. fsplit3 ! $ move ! (2 ∷ []) $ fpick ! (λ so. drop ! $ now ! $ show ! Ended s.places $ check ! ((s, so.0, refl), so.1) $ use1 𝓛 (‵ (plain_owns z.at 0 s.places)) (rests at s.places so.1) $ keep ! (0 ∷ []) $ done !)))

    abbrev pub EndedWith : ℕ → V → List Place → Pr
    EndedWith id v ps = guard 𝓤 (Final (Seen holds id v) ps × (length ps ≡ z.words)) ⟦ plain_owns z.at 0 ps ⟧

    pub ends_with : (id : ℕ) (v : V) → ⟦ region_owns cv.code z holds ⟧ ∗ ⟦ half id v ⟧ ⊢ H.⇛ (ex 𝓤 (EndedWith id v))
    unfolding Rattle.atomic_region.specs.Owned.seal
    ends_with id v = qed 𝓛 (‵ (region_owns cv.code z holds) ∷ ‵ (half id v) ∷ []) ∵ fsplit3 ! $ updating ! $ lft_end ! tt $ move ! (1 ∷ []) $ fsplit ! $ fpick ! (λ at. drop ! $ drop ! $ lent_back ! tt $
        fpick ! (λ s. fsplit3 ! $ move ! (2 ∷ []) $ fpick ! (λ so. drop ! $ move ! (1 ∷ 2 ∷ []) $
        use2 𝓛 (given (get_elem? s.views id ≡ maybe.some v) (raw (all 𝓤 (Moved 𝓛 cv γ 0 s.views id id)))) (moves 𝓛 cv γ s.views 0 id id v (omega arith)) $ learn ! (λ there. drop ! $
        now ! $ show ! (EndedWith id v) s.places $ check ! ((s, (so.0, there), refl), so.1) $ use1 𝓛 (‵ (plain_owns z.at 0 s.places)) (rests at s.places so.1) $ keep ! (0 ∷ []) $ done !))))

  module _ {V : Type 0} (cv : Coded V) (holds : State V → Type 0) (p : Ptr) (ps : List Place) (v : V) where
    abbrev pub Begun : RegionId → Pr
    Begun z = guard 𝓤 ((z.at ≡ p) × (z.words ≡ length ps)) (⟦ region_owns cv.code z holds ⟧ ∗ ⟦ mine z cv.code 0 (v, []) ⟧)

    pub begins : InBlock p → length ps * 8 < 2 ^ 63 → holds (opening ps v) → ⟦ row (block_of p) (count_of p) 0 ps ⟧ ⊢ H.⇛ (ex 𝓤 Begun)
    unfolding Rattle.atomic_region.specs.Owned.seal
    begins in_block small good = qed 𝓛 (‵ (row (block_of p) (count_of p) 0 ps) ∷ []) ∵ updating ! $ lft_new ! tt (λ a.
        use0 𝓛 (later (some (λ (γ : ℕ). ‵ (unused cv.code γ 0 v)))) (via 𝓤 _ (entries_new halved 𝓛 0 (λ _. (full_share, cv.code v))) (basic 𝓛 (ex 𝓤 (λ (γ : ℕ). ⟦ unused cv.code γ 0 v ⟧)))) $ await ! tt $ pick ! (λ γ.
        let z : RegionId = record { at = p; words = length ps; views_name = γ; atom = a } in let κ : Lft = age z in let I : Fml = inner z cv.code holds in let L : Fml = seen cv.code γ 0 quarter v in let Mine : Fml = seen cv.code γ 0 three_quarters v in
        use1 𝓛 (‵ (seen cv.code γ 0 full_share v) ⊛ ‵ (unused cv.code γ 1 v)) (entries_take halved 𝓛 γ 0 (λ _. (full_share, cv.code v))) $ split ! $
        use1 𝓛 (later (‵ L ⊛ ‵ Mine)) (via 𝓤 _ (resets 𝓛 cv γ 0 v v) (basic 𝓛 (⟦ L ⟧ ∗ ⟦ Mine ⟧))) $ await ! tt $ split ! $ move ! (2 ∷ []) $ fpack ! V (unused cv.code γ 1) v $ move ! (1 ∷ 0 ∷ []) $ fjoin ! $ move ! (3 ∷ 0 ∷ []) $
        use2 𝓛 (‵ I) (packs cv holds z (opening ps v) (good, refl)) $ bor_new ! tt κ $ use1 𝓛 (later (‵ (finv (fbor κ I)))) (𝓛.invs.inv_new (fbor κ I)) $ await ! tt $ nothing ! $ fpack ! (Lies z.at z.words) (λ _. ftrue) (in_block, small) $ fjoin ! $ move ! (3 ∷ 0 ∷ 1 ∷ []) $ fjoin3 ! $
        nothing ! $ move ! (2 ∷ 0 ∷ []) $ fjoin ! $ now ! $ show ! Begun z $ check ! (refl, refl) $ move ! (1 ∷ 0 ∷ []) $ done !))
