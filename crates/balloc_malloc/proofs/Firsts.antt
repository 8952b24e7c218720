-- Words that are laid one after the other.
use Rattle.std.proofs.Common.{◌≡◌, ◌≢◌, ℕ, zero, suc, ◌+◌, ◌∙◌, ◌<◌, List, [], ◌∷◌, length, get_or, set, take, drop, take_all, sym, refl, ap, arith}
use Rattle.std.specs.Prelude.{None}
use Rattle.std.proofs.lemmas.Bool.Decides.{eqb_tells}
use Rattle.plain_words.specs.Places.{Place, laid, laids, run, IsHere, AllHere}
use Rattle.balloc_malloc.proofs.SeatLemmas.{by_case}

laid-here : (n : ℕ) → IsHere (laid n)
laid-here n is = cc

-- any of them laid with a number
pub here_at : (ps : List Place) (j n : ℕ) → AllHere ps → AllHere (set ps j (laid n))
here_at [] j n here i lt = here i lt
here_at (p ∷ ps) zero n here zero lt = laid-here n
here_at (p ∷ ps) zero n here (suc i) lt = here (suc i) lt
here_at (p ∷ ps) (suc j) n here zero lt = here 0 (omega arith)
here_at (p ∷ ps) (suc j) n here (suc i) lt = here_at ps j n (λ k l. here (suc k) (omega (arith, l))) i (omega (arith, lt))

at_same : (ps : List Place) (j : ℕ) (q : Place) → j < length ps → get_or (set ps j q) j None ≡ q
at_same [] j q lt = absurd (omega (arith, lt))
at_same (p ∷ ps) zero q lt = refl
at_same (p ∷ ps) (suc j) q lt = at_same ps j q (omega (arith, lt))

at_other : (ps : List Place) (j k : ℕ) (q : Place) → k ≢ j → get_or (set ps j q) k None ≡ get_or ps k None
at_other [] j k q ne = refl
at_other (p ∷ ps) zero zero q ne = absurd (ne refl)
at_other (p ∷ ps) zero (suc k) q ne = refl
at_other (p ∷ ps) (suc j) zero q ne = refl
at_other (p ∷ ps) (suc j) (suc k) q ne = at_other ps j k q (λ same. ne (ap suc same))

pub laids_at : (ns : List ℕ) (k : ℕ) → k < length ns → get_or (laids ns) k None ≡ laid (get_or ns k 0)
laids_at [] k lt = absurd (omega (arith, lt))
laids_at (n ∷ ns) zero lt = refl
laids_at (n ∷ ns) (suc k) lt = laids_at ns k (omega (arith, lt))

pub length-laids : (ns : List ℕ) → length (laids ns) ≡ length ns
length-laids [] = refl
length-laids (n ∷ ns) = ap suc (length-laids ns)

-- the words up to one more are those of another list, where that one is laid as there
pub one_more : (ps qs : List Place) (had : List ℕ) (i : ℕ) → qs ≡ set ps i (laid (get_or had i 0)) → i < length ps
    → ((k : ℕ) → k < i → get_or ps k None ≡ laid (get_or had k 0)) → (k : ℕ) → k < i + 1 → get_or qs k None ≡ laid (get_or had k 0)
one_more ps qs had i is lt done k hi =
    ap (λ (l : List Place). get_or l k None) is ∙
    by_case
    (λ at. ap (λ (n : ℕ). get_or (set ps i (laid (get_or had i 0))) n None) at.1 ∙ at_same ps i (laid (get_or had i 0)) lt ∙ ap (λ (n : ℕ). laid (get_or had n 0)) (sym at.1))
    (λ apart. at_other ps i k (laid (get_or had i 0)) apart.1 ∙ done k (omega (arith, hi, apart.1))) (eqb_tells k i)

-- a run of all the words is all of them
pub all_run : (ps : List Place) (k n : ℕ) (ns : List ℕ) → k ≡ 0 → n ≡ length ps → run ps k n ≡ laids ns → ps ≡ laids ns
all_run ps k n ns none all is = sym (take_all n ps (omega (arith, all))) ∙ ap (λ (j : ℕ). take n (drop j ps)) (sym none) ∙ is
