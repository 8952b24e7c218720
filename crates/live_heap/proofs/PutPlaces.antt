-- The places of a row, one by one, where a range is taken out or put back.
use Rattle.std.proofs.Common.{◌≡◌, ℕ, ◌+◌, ◌-◌, ◌<◌, ◌≤◌, List, ◌++◌, length, get_or, take, drop, replicate, refl, sym, ap, ◌∙◌, arith, length-take, length-drop, get_or-drop, get_or-take}
use Rattle.std.specs.Prelude.{None}
use Rattle.std.proofs.lemmas.List.{get_or-append_right, get_or_append_left, get_or-replicate, length-replicate}
use lib.Seq.{ext_get_or}
use Rattle.plain_words.specs.Places.{Place, place_at, put, run}

pub at-put_before : (ps qs : List Place) (k j : ℕ) → k + length qs ≤ length ps → j < k → place_at (put ps k qs) j ≡ place_at ps j
at-put_before ps qs k j within before =
    get_or_append_left (take k ps) (qs ++ drop (k + length qs) ps) None j (omega (arith, length-take k ps, within, before)) ∙ get_or-take k ps j None before

pub at-put_in : (ps qs : List Place) (k j : ℕ) → k + length qs ≤ length ps → j < length qs → place_at (put ps k qs) (k + j) ≡ place_at qs j
at-put_in ps qs k j within inside =
    let long : length (take k ps) ≡ k = omega (arith, length-take k ps, within) in
    let back : k + j - k ≡ j = omega arith in
    get_or-append_right (take k ps) (qs ++ drop (k + length qs) ps) k (k + j) None long (omega arith)
    ∙ ap (λ n. get_or (qs ++ drop (k + length qs) ps) n None) back
    ∙ get_or_append_left qs (drop (k + length qs) ps) None j inside

pub at-put_behind : (ps qs : List Place) (k j : ℕ) → k + length qs ≤ length ps → k + length qs ≤ j → place_at (put ps k qs) j ≡ place_at ps j
at-put_behind ps qs k j within behind =
    let long : length (take k ps) ≡ k = omega (arith, length-take k ps, within) in
    let number : k + length qs + (j - k - length qs) ≡ j = omega (arith, behind) in
    get_or-append_right (take k ps) (qs ++ drop (k + length qs) ps) k j None long (omega (arith, behind))
    ∙ get_or-append_right qs (drop (k + length qs) ps) (length qs) (j - k) None refl (omega (arith, behind))
    ∙ get_or-drop (k + length qs) ps (j - k - length qs) None
    ∙ ap (λ n. get_or ps n None) number

pub run-all : (ps : List Place) (k n : ℕ) (p : Place) → k + n ≤ length ps → ((j : ℕ) → j < n → place_at ps (k + j) ≡ p) → run ps k n ≡ replicate n p
run-all ps k n p within each =
    let long : length (run ps k n) ≡ n = omega (arith, length-take n (drop k ps), length-drop k ps, within) in
    ext_get_or None (run ps k n) (replicate n p) (long ∙ sym (length-replicate n p))
    (λ j lt. let inside : j < n = omega (arith, lt, long) in
    get_or-take n (drop k ps) j None inside ∙ get_or-drop k ps j None ∙ each j inside ∙ sym (get_or-replicate n j p None inside))
