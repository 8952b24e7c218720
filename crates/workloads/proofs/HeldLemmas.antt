-- Which registers hold a block, a round later.
use Rattle.std.proofs.Common.{◌≡◌, ℕ, ◌+◌, ◌%◌, ◌<◌, Bool, true, false, ◌||◌, cond, eqb, List, [], ◌∷◌, ◌++◌, length, set, refl, sym, ◌∙◌, append_assoc, add-one, arith, inl, inr, replicate}
use Rattle.std.proofs.lemmas.Bool.Decides.{eqb_tells}
use Rattle.std.proofs.lemmas.List.{append-nil, get_or-set_other, get_or-replicate}
use Rattle.std.proofs.lemmas.List.Sums.{fold-append}
use Rattle.std.proofs.lemmas.Grind.{get_or-set_at}
use Rattle.rand_pcg.specs.Lcg.{Lcg}
use Rattle.trace_text.specs.declared.trace.Op.{Op}
use Rattle.trace_text.specs.declared.trace.Op.TheVariants.{Alloc, Free}
use Rattle.workloads.specs.Draws.{just, ◌>>=◌, draw, behind}
use Rattle.workloads.specs.Held.{is_held, frees_below, AreTold}
use Rattle.workloads.specs.Lanes.{given_back, larson_round, larson_rounds, larson}
use Rattle.workloads.proofs.DrawLemmas.{followed, placed}

-- ---- the flags

pub none_held : (k : ℕ) → is_held k [] ≡ false
unfolding is_held
none_held k = refl

pub flags_start : (ops : List Op) → ops ≡ [] → AreTold (replicate 64 false) ops
flags_start ops none k below = rw none (get_or-replicate 64 k false false below ∙ sym (none_held k))

given_again : (test held : Bool) → (test || cond test false held) ≡ (test || held)
given_again true held = refl
given_again false held = refl

pub held_next :
    (k r need v : ℕ) (before : List Op) (was : Bool) → is_held k ((before ++ given_back r was) ++ Alloc r need v ∷ []) ≡ (eqb r k || is_held k before)
unfolding is_held
held_next k r need v before true =
    rw (append_assoc, fold-append) (given_again (eqb r k) _)
held_next k r need v before false =
    rw (append_assoc, fold-append) refl

pub flags_next :
    (flags : List Bool) (r need v : ℕ) (before : List Op) (was : Bool) → length flags ≡ 64 → r < 64 → AreTold flags before
    → AreTold (set flags r true) ((before ++ given_back r was) ++ Alloc r need v ∷ [])
flags_next flags r need v before was long within told k below =
    rw (held_next k r need v before was)
    (elim (eqb_tells r k) [
      | inl e ↦ rw e.0 (get_or-set_at flags r k true false (sym e.1) (omega arith))
      | inr e ↦ rw e.0 (get_or-set_other flags r k true false (λ h. e.1 (sym h)) ∙ told k below)
    ])

-- ---- a round, and the rounds

pub larson_round-is :
    (number need v : ℕ) (before : List Op) (was : Bool) (g h j k : Lcg) → (number, h) ≡ draw g → (need, j) ≡ draw h → (v, k) ≡ draw j
    → was ≡ is_held (number % 64) before
    → ((before ++ given_back (number % 64) was) ++ Alloc (number % 64) (need % 63 + 1) v ∷ [], k) ≡ behind before (larson_round before g)
unfolding larson_round
larson_round-is number need v before was g h j k first second third told =
    let made : ℕ → ℕ → ℕ → List Op = λ number need v. given_back (number % 64) (is_held (number % 64) before) ++ Alloc (number % 64) (need % 63 + 1) v ∷ [] in
    rw (told, append_assoc)
    (placed before (made number need v) k _
    (followed draw (λ number. draw >>= λ need. draw >>= λ v. just (made number need v)) g h number _ first
    (followed draw (λ need. draw >>= λ v. just (made number need v)) h j need _ second
    (followed draw (λ v. just (made number need v)) j k v _ third refl))))

pub larson_rounds-more :
    (n : ℕ) (g h : Lcg) (ops : List Op) (y : List Op × Lcg) → (ops, h) ≡ larson_rounds n g → y ≡ behind ops (larson_round ops h)
    → y ≡ larson_rounds (n + 1) g
unfolding larson_rounds
larson_rounds-more n g h ops y is e =
    rw add-one (followed (larson_rounds n) (λ before. larson_round before >>= λ m. just (before ++ m)) g h ops y is e)

pub larson-last :
    (n : ℕ) (g h : Lcg) (ops all : List Op) → (ops, h) ≡ larson_rounds n g → all ≡ ops ++ frees_below 64 ops → (all, h) ≡ larson n g
unfolding larson
larson-last n g h ops all is e = rw e (followed (larson_rounds n) (λ ops. just (ops ++ frees_below 64 ops)) g h ops _ is refl)

-- ---- the frees at the end

pub frees-more :
    (r : ℕ) (old ops : List Op) → is_held r old ≡ true → ops ≡ old ++ frees_below r old → ops ++ Free r ∷ [] ≡ old ++ frees_below (r + 1) old
unfolding frees_below
frees-more r old ops held is = rw (add-one, held, is, append_assoc) refl

pub frees-none :
    (r : ℕ) (old ops : List Op) → is_held r old ≡ false → ops ≡ old ++ frees_below r old → ops ≡ old ++ frees_below (r + 1) old
unfolding frees_below
frees-none r old ops held is = rw (add-one, held, append-nil) is
