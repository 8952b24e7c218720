-- What is made by draws, one after the other.
use Rattle.std.specs.Prelude.{ℕ, List, ◌++◌}
use Rattle.rand_core.specs.Pcg32Seed.{pcg32_seed}
use Rattle.rand_pcg.specs.Lcg.{Lcg}
use Rattle.rand_pcg.specs.Pcg.{pcg32, pcg32_of_seed}

-- what a generator leads to: a thing that is made by draws, and the generator behind them
abbrev pub Draws : Type 0 → Type 0
Draws A = Lcg → A × Lcg

-- a thing that is made with no draw
abbrev pub just : {A : Type 0} → A → Draws A
just x g = (x, g)

-- a thing by the first draws, and what follows it by the next ones
infixl 10 ◌>>=◌
abbrev pub ◌>>=◌ : {A B : Type 0} → Draws A → (A → Draws B) → Draws B
(first >>= next) g = next (first g).0 (first g).1

-- a draw is the next 32-bit word
unfoldable pub draw : Draws ℕ
draw = pcg32

-- the generator that a number seeds
unfoldable pub seeded_by : ℕ → Lcg
seeded_by start = pcg32_of_seed (pcg32_seed 16 start)

-- items that were drawn, put behind a list
abbrev pub behind : {A : Type 0} → List A → List A × Lcg → List A × Lcg
behind before made = (before ++ made.0, made.1)
