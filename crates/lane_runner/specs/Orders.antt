-- In which order lanes make their steps.
use Rattle.std.specs.Prelude.{ℕ, zero, suc, ◌≡◌, ◌<◌, ◌≤◌, ◌++◌, ◌∷◌, List, [], replicate, Contains}
use Rattle.trace_text.specs.declared.trace.OrderRun.{OrderRun}

-- lanes from one on, so many, make all their steps one lane after the other
abbrev pub OneByOne : ℕ → ℕ → List ℕ → Type 0
OneByOne lane zero steps = steps ≡ []
OneByOne lane (suc lanes) steps =
    (made : ℕ) × (rest : List ℕ) × (steps ≡ replicate made lane ++ rest) × (¬ Contains rest lane) × OneByOne (suc lane) lanes rest

-- the steps, each by the lane that makes it, follow these order runs, and then each lane goes on to its end, lane 0 first: an order run's lane makes as many steps as it says, or fewer where it makes no other step after them
abbrev pub InOrder : List OrderRun → ℕ → List ℕ → Type 0
InOrder [] lanes steps = OneByOne 0 lanes steps
InOrder (run ∷ runs) lanes steps =
    (made : ℕ) × (rest : List ℕ) × (steps ≡ replicate made run.lane ++ rest) × (made ≤ run.steps)
    × (made < run.steps → ¬ Contains rest run.lane) × InOrder runs lanes rest
