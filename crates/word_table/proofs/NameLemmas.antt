-- Whether two names are one, and whether a heap has a name.
use Rattle.std.proofs.Common.{ℕ, true, ◌≡◌, ◌≢◌, arith, refl, ap, inl, inr, ◌⊎◌}
use Rattle.std.proofs.lemmas.Bool.{cases_eq}
use Rattle.std.proofs.lemmas.Bool.Decides.{nat_tests}
use Rattle.heap_geometry.specs.declared.geometry.Geometry.{Geometry}
use Rattle.word_table.specs.Table.{Exists, exists}
use Rattle.word_table.specs.declared.name.WordName.{WordName}
use Rattle.word_table.specs.declared.name.WordName.TheVariants.{Arena, Anchor, Next, Info, Active, Slot, ListHead, FrameNext, FrameHead, DescHead, Hazard, Units, Shelf}

-- two names of one kind with one number are one or are not
one_number :
    (kind : ℕ → WordName) → ((a b : ℕ) → kind a ≡ kind b → a ≡ b) → (a b : ℕ) → (kind a ≡ kind b) ⊎ (kind a ≢ kind b)
one_number kind one a b =
    elim (cases_eq a b) [ inl same ↦ inl (ap kind same) | inr differ ↦ inr (λ same. differ (one a b same)) ]

-- two names of one kind with two numbers each are one or are not
two_numbers :
    (kind : ℕ → ℕ → WordName) → ((a b c d : ℕ) → kind a b ≡ kind c d → a ≡ c)
    → ((a b c d : ℕ) → kind a b ≡ kind c d → b ≡ d) → (a b c d : ℕ) → (kind a b ≡ kind c d) ⊎ (kind a b ≢ kind c d)
two_numbers kind first second a b c d =
    elim (cases_eq a c) [
      | inr differ ↦ inr (λ same. differ (first a b c d same))
      | inl one ↦
          elim (cases_eq b d) [
            | inr differ ↦ inr (λ same. differ (second a b c d same))
            | inl other ↦ inl (rw (one, other) refl)
          ]
    ]

-- two names are one or are not
pub cases_name : (m n : WordName) → (m ≡ n) ⊎ (m ≢ n)
cases_name (Arena a) (Arena b) = one_number Arena (λ a b same. cc) a b
cases_name (Anchor a) (Anchor b) = one_number Anchor (λ a b same. cc) a b
cases_name (Next a) (Next b) = one_number Next (λ a b same. cc) a b
cases_name (Info a) (Info b) = one_number Info (λ a b same. cc) a b
cases_name (Active a b) (Active c d) = two_numbers Active (λ a b c d same. cc) (λ a b c d same. cc) a b c d
cases_name (Slot a b) (Slot c d) = two_numbers Slot (λ a b c d same. cc) (λ a b c d same. cc) a b c d
cases_name (ListHead a) (ListHead b) = one_number ListHead (λ a b same. cc) a b
cases_name (FrameNext a) (FrameNext b) = one_number FrameNext (λ a b same. cc) a b
cases_name FrameHead FrameHead = inl refl
cases_name DescHead DescHead = inl refl
cases_name (Hazard a) (Hazard b) = one_number Hazard (λ a b same. cc) a b
cases_name Units Units = inl refl
cases_name (Shelf a) (Shelf b) = one_number Shelf (λ a b same. cc) a b
cases_name m n = inr (λ same. cc)

-- the test passes a name that the heap has
pub exists-true : (g : Geometry) (name : WordName) → Exists g name → exists g name ≡ true
exists-true g (Arena word) is = grind (arith, nat_tests)
exists-true g (Anchor desc) is = grind (arith, nat_tests)
exists-true g (Next desc) is = grind (arith, nat_tests)
exists-true g (Info desc) is = grind (arith, nat_tests)
exists-true g (Active heap class) is = grind (arith, nat_tests)
exists-true g (Slot heap class) is = grind (arith, nat_tests)
exists-true g (ListHead class) is = grind (arith, nat_tests)
exists-true g (FrameNext frame) is = grind (arith, nat_tests)
exists-true g FrameHead is = refl
exists-true g DescHead is = refl
exists-true g (Hazard caller) is = grind (arith, nat_tests)
exists-true g Units is = refl
exists-true g (Shelf shelf) is = grind (arith, nat_tests)

-- a name that passes the test is one that the heap has
pub true-Exists : (g : Geometry) (name : WordName) → exists g name ≡ true → Exists g name
true-Exists g (Arena word) passes = grind (arith, nat_tests)
true-Exists g (Anchor desc) passes = grind (arith, nat_tests)
true-Exists g (Next desc) passes = grind (arith, nat_tests)
true-Exists g (Info desc) passes = grind (arith, nat_tests)
true-Exists g (Active heap class) passes = grind (arith, nat_tests)
true-Exists g (Slot heap class) passes = grind (arith, nat_tests)
true-Exists g (ListHead class) passes = grind (arith, nat_tests)
true-Exists g (FrameNext frame) passes = grind (arith, nat_tests)
true-Exists g FrameHead passes = tt
true-Exists g DescHead passes = tt
true-Exists g (Hazard caller) passes = grind (arith, nat_tests)
true-Exists g Units passes = tt
true-Exists g (Shelf shelf) passes = grind (arith, nat_tests)
