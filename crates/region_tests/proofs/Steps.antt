-- Each step keeps the rule.
use Rattle.std.proofs.Common.{◌≡◌, ◌≢◌, ℕ, zero, suc, ◌+◌, ◌-◌, ◌<◌, ◌≤◌, inl, inr, ⊎_elim, List, [], ◌∷◌, ◌++◌, length, set, drop, eqb, refl, sym, ap, ◌∙◌, subst, append-nil, arith}
use mathlib.Core.Bool.{Bool, true, false}
use mathlib.Core.Option as maybe
use lib.ListN.{get_elem?, replicate, length-replicate}
use lib.Seq.{take_all, drop-length}
use Rattle.std.specs.Prelude.{Option, Some, None}
use prog.Atomic.{either}
use Rattle.atomic_table.proofs.Lists.{at_set, at_snoc, exchanged}
use Rattle.plain_words.specs.Places.{Place, laid, laids, outs, run, put, number_at, IsLaid}
use Rattle.atomic_region.specs.Region.{Me, with_number, Goes, Allows, Splits}
use Rattle.atomic_region.specs.Region.Act.{keeps, takes, gives}
use Rattle.region_tests.specs.Lock.{code, evenly, Free, Taken, Holds, idle, Tried}

unlike : maybe.some false ≡ maybe.some true → ⊥
unlike e = let r : false ≡ true = maybe.some-injective false true e in cc

-- all but the first place
put_whole : (h : Place) (ps qs : List Place) → length ps ≡ length qs → put (h ∷ ps) 1 qs ≡ h ∷ qs
put_whole h ps qs same = ap (λ (k : ℕ). h ∷ (qs ++ drop k (h ∷ ps))) (let e : 1 + length qs ≡ suc (length ps) = omega (arith, same) in e) ∙ ap (λ (l : List Place). h ∷ (qs ++ l)) (drop-length ps) ∙ ap (λ (l : List Place). h ∷ l) (append-nil qs)

run_whole : (h : Place) (ps : List Place) (n : ℕ) → length ps ≡ n → run (h ∷ ps) 1 n ≡ ps
run_whole h ps n long = take_all n ps (let le : length ps ≤ n = omega (arith, long) in le)

pub same_laid : (m n : ℕ) → laids (replicate n m) ≡ evenly n (Some m)
same_laid m zero = refl
same_laid m (suc n) = ap (λ (l : List Place). laid m ∷ l) (same_laid m n)

-- what a winner finds is laid
pub laid_all : (n : ℕ) (ps : List Place) → (content : Option ℕ) → code content ≡ 2 → ps ≡ evenly n content → (m : ℕ) × (ps ≡ laids (replicate n m))
laid_all n ps None e is = absurd (omega (arith, e))
laid_all n ps (Some m) e is = (m, is ∙ sym (same_laid m n))

module _ (n words id : ℕ) (whole : words ≡ n + 1) where
  -- a view that says no more
  others : (views : List Bool) (j : ℕ) → get_elem? (set views id false) j ≡ maybe.some true → (j ≢ id) × (get_elem? views j ≡ maybe.some true)
  others views j e = ⊎_elim (λ t. absurd (unlike (ap maybe.some t.1))) (λ t. t) (at_set views id j false true e)

  pub tries : (k : ℕ) → k ≢ 1 → Allows (Holds n) words id idle 0 (λ x. either (eqb x k) 1 x) (λ x. Tried (words - 1) k idle x)
  tries k other s good size at = let Goal : List Place → Type 0 = λ ps. let x = number_at ps 0 in IsLaid ps 0 × (x < 18446744073709551616 → Goes (Holds n) s (with_number ps 0 (either (eqb x k) 1 x)) id idle (Tried (words - 1) k idle x)) in
      ⊎_elim (λ f. subst Goal (sym f.places) (refl, λ small. free f)) (λ t. subst Goal (sym t.places) (refl, λ small. taken t)) good
    where
      free : (f : Free n s) → let x : ℕ = code f.content in Goes (Holds n) s (laid (either (eqb x k) 1 x) ∷ evenly n f.content) id idle (Tried (words - 1) k idle x)
      free f = let x : ℕ = code f.content in let ps : List Place = evenly n f.content in let long : length ps ≡ n = length-replicate n (Some f.content) in
          let mine : (j : ℕ) → get_elem? (set s.views id true) j ≡ maybe.some true → j ≡ id = λ j e. ⊎_elim (λ t. t.0) (λ t. absurd (f.nobody j t.1)) (at_set s.views id j true true e) in
          let w : n ≡ words - 1 = omega (arith, whole) in
          exchanged x k 1 (λ y. Goes (Holds n) s (laid y ∷ ps) id idle (Tried (words - 1) k idle x))
          (λ e. (
            true,
            takes 1 n,
            omega (arith, long),
            inr (record { places = put_whole (laid 1) ps (outs n) (long ∙ sym (length-replicate n None)); one = λ i j a b. mine i a ∙ sym (mine j b) }),
            ((λ _. (f.content, e, ap (λ (l : List Place). let r : Me Bool = (true, (1, l) ∷ []) in r) (run_whole (laid 1) ps n long ∙ ap (λ (m : ℕ). evenly m f.content) w))), (λ ne. absurd (ne e))),
          ))
          (λ ne. (false, keeps, tt, inl (record { content = f.content; places = refl; nobody = λ j e. f.nobody j (others s.views j e).1 }), ((λ e. absurd (ne e)), (λ _. refl))))

      taken : (t : Taken n s) → Goes (Holds n) s (laid (either (eqb 1 k) 1 1) ∷ outs n) id idle (Tried (words - 1) k idle 1)
      taken t = exchanged 1 k 1 (λ y. Goes (Holds n) s (laid y ∷ outs n) id idle (Tried (words - 1) k idle 1)) (λ e. absurd (other (sym e)))
          (λ ne. (false, keeps, tt, inr (record { places = refl; one = λ i j a b. t.one i j (others s.views i a).1 (others s.views j b).1 }), ((λ e. absurd (ne e)), (λ _. refl))))

  pub ends : (m : ℕ) → Allows (Holds n) words id (true, (1, laids (replicate n m)) ∷ []) 0 (λ _. 2) (λ _ w. w ≡ idle)
  ends m s good size at = let qs : List Place = laids (replicate n m) in let me : Me Bool = (true, (1, qs) ∷ []) in let long : length qs ≡ n = ap length (same_laid m n) ∙ length-replicate n (laid m) in
      let Goal : List Place → Type 0 = λ ps. IsLaid ps 0 × (number_at ps 0 < 18446744073709551616 → Goes (Holds n) s (with_number ps 0 2) id me (λ w. w ≡ idle)) in
      ⊎_elim (λ f. absurd (f.nobody id at)) (λ t. subst Goal (sym t.places) (
        refl,
        λ small. (
          false,
          gives,
          tt,
          inl (record { content = Some m; places = put_whole (laid 2) (outs n) qs (length-replicate n None ∙ sym long) ∙ ap (λ (l : List Place). laid 2 ∷ l) (same_laid m n); nobody = λ j e. let o = others s.views j e in absurd (o.0 (t.one j id o.1 at)) }),
          refl,
        ),
      )) good

  pub cut_in_two : Splits (Holds n) words 0 id false false false
  cut_in_two s good size at = let past : (j : ℕ) → get_elem? (set s.views id false ++ false ∷ []) j ≡ maybe.some true → get_elem? s.views j ≡ maybe.some true = λ j e.
      ⊎_elim (λ a. (others s.views j a).1) (λ a. absurd (unlike (ap maybe.some a))) (at_snoc (set s.views id false) false true j e) in
      ⊎_elim (λ f. (subst (λ ps. IsLaid ps 0) (sym f.places) refl, inl (record { content = f.content; places = f.places; nobody = λ j e. f.nobody j (past j e) })))
      (λ t. (subst (λ ps. IsLaid ps 0) (sym t.places) refl, inr (record { places = t.places; one = λ i j a b. t.one i j (past i a) (past j b) }))) good
