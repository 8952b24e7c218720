-- A region as plain data, and what one step does to it.
-- A word of it is out with a seat, or at home, never laid or laid with a number. A seat has a view, and the ranges of words that it has out.
use Rattle.std.specs.Prelude.{◌≡◌, ℕ, ◌+◌, ◌<◌, ◌≤◌, List, [], ◌∷◌, ◌++◌, length, slice_set}
use mathlib.Core.Option.{some}
use lib.ListN.{get_elem?}
use Rattle.plain_words.specs.Places.{Place, laid, outs, run, put, number_at, IsLaid}

-- words from the first on, as they were when they were taken or are when they are given back
abbrev pub Range : Type 0
Range = ℕ × List Place

pub record State (V : Type 0) : Type 0 where
  pub places : List Place
  pub views : List V

abbrev pub Me : Type 0 → Type 0
Me V = V × List Range

-- how many words the region has, the word of the step, and the operands
pub record Step : Type 0 where
  pub words : ℕ
  pub word : ℕ
  pub first : ℕ
  pub second : ℕ

abbrev pub step : ℕ → ℕ → ℕ → ℕ → Step
step n i a b = record { words = n; word = i; first = a; second = b }

-- what a step does beside: it takes out so many words from one on, or gives back the range that the seat has first
pub data Act : Type 0 where
  keeps : Act
  takes : ℕ → ℕ → Act
  gives : Act
  chain : Act → Act → Act

abbrev pub with_number : List Place → ℕ → ℕ → List Place
with_number ps i n = slice_set ps i (laid n)

abbrev pub given_back : List Place → List Range → List Place
given_back ps [] = ps
given_back ps (x ∷ xs) = put ps x.0 x.1

abbrev pub rest : List Range → List Range
rest [] = []
rest (x ∷ xs) = xs

-- the words of the region, and the ranges of the seat
abbrev pub Held : Type 0
Held = List Place × List Range

abbrev pub after : Act → Held → Held
after keeps h = h
after (takes k n) h = (put h.0 k (outs n), (k, run h.0 k n) ∷ h.1)
after gives h = (given_back h.0 h.1, rest h.1)
after (chain a b) h = after b (after a h)

abbrev pub Valid : Act → Held → Type 0
Valid keeps h = Unit {0}
Valid (takes k n) h = k + n ≤ length h.0
Valid gives h = Unit {0}
Valid (chain a b) h = Valid a h × Valid b (after a h)

module _ {V : Type 0} (holds : State V → Type 0) where
  -- with the words at ps, the seat has a new view and an act that keep the rule, and `then` holds of the seat after
  abbrev pub Goes : State V → List Place → ℕ → Me V → (Me V → Type 0) → Type 0
  Goes s ps id me then = (w : V) × (a : Act) × Valid a (ps, me.1) × holds record { places = (after a (ps, me.1)).0; views = slice_set s.views id w } × then (w, (after a (ps, me.1)).1)

  -- Whatever the region is, the word i of n is laid and at home, and the step may turn it to f of what it was
  abbrev pub Allows : ℕ → ℕ → Me V → ℕ → (ℕ → ℕ) → (ℕ → Me V → Type 0) → Type 0
  Allows n id me i f then = (s : State V) → holds s → length s.places ≡ n → get_elem? s.views id ≡ some me.0
      → IsLaid s.places i × (number_at s.places i < 18446744073709551616 → Goes s (with_number s.places i (f (number_at s.places i))) id me (then (number_at s.places i)))

  -- whatever the region is when the word i is read, a new seat may have some view
  abbrev pub Enters : ℕ → ℕ → (ℕ → V → Type 0) → Type 0
  Enters n i then = (s : State V) → holds s → length s.places ≡ n
      → IsLaid s.places i × (number_at s.places i < 18446744073709551616 → (w : V) × holds record { places = s.places; views = s.views ++ w ∷ [] } × then (number_at s.places i) w)

  -- a seat's view is cut in two, and a new seat has the second
  abbrev pub Splits : ℕ → ℕ → ℕ → V → V → V → Type 0
  Splits n i id v left right = (s : State V) → holds s → length s.places ≡ n → get_elem? s.views id ≡ some v
      → IsLaid s.places i × holds record { places = s.places; views = slice_set s.views id left ++ right ∷ [] }

  -- a seat takes in another's view, and the other is spent
  abbrev pub Joins : ℕ → ℕ → ℕ → V → ℕ → V → V → V → Type 0
  Joins n i id v other w both spent = (s : State V) → holds s → length s.places ≡ n → IsLaid s.places i × (get_elem? s.views id ≡ some v → ¬ (other ≡ id) → get_elem? (slice_set s.views id both) other ≡ some w
      → holds record { places = s.places; views = slice_set (slice_set s.views id both) other spent })

abbrev pub opening : {V : Type 0} → List Place → V → State V
opening ps v = record { places = ps; views = v ∷ [] }

-- the words of some state that keeps the rule
abbrev pub Final : {V : Type 0} → (State V → Type 0) → List Place → Type 0
Final {V} holds ps = (s : State V) × holds s × (s.places ≡ ps)

-- the rule, and the seat id has the view v
abbrev pub Seen : {V : Type 0} → (State V → Type 0) → ℕ → V → State V → Type 0
Seen holds id v s = holds s × (get_elem? s.views id ≡ some v)
