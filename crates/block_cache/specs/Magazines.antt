-- Magazines: for each class a stack of what is kept.
use Rattle.std.specs.Prelude.{ℕ, zero, suc, ◌≡◌, ◌<◌, ◌≤◌, ◌++◌, List, [], ◌∷◌, All, Vec, length, map, flat_map, reverse, vec_capacity}
use Rattle.std.specs.declared.alloc.Global.{Global}
use Rattle.heap_geometry.specs.declared.limits.TheConstants.{CLASSES}
use Rattle.heap_geometry.specs.declared.need.Need.{Need}
use Rattle.heap_geometry.specs.declared.need.Need.TheVariants.{Small}

-- the stacks, that of class 0 first, each with its last one last
abbrev pub stacks_of : {A : Type 0} → List (Vec A Global) → List (List A)
stacks_of magazines = map (λ magazine. magazine.items) magazines

-- all that the stacks of magazines have
abbrev pub all_in : {A : Type 0} → List (List A) → List A
all_in stacks = flat_map (λ stack. stack) stacks

-- these in the order in which they leave when all magazines are emptied: the first class first, and of each the last one first
abbrev pub leaving : {A : Type 0} → List (List A) → List A
leaving stacks = flat_map (λ stack. reverse stack) stacks

-- the stack of a class
abbrev pub stack_at : {A : Type 0} → List (List A) → ℕ → List A
stack_at [] class = []
stack_at (stack ∷ stacks) zero = stack
stack_at (stack ∷ stacks) (suc class) = stack_at stacks class

-- the magazine for this need has one; it has fewer than so many
abbrev pub HasOneFor : {A : Type 0} → List (List A) → Need → Type 0
HasOneFor stacks need = (class : ℕ) × (need ≡ Small class) × (0 < length (stack_at stacks class))

abbrev pub HasRoomFor : {A : Type 0} → ℕ → List (List A) → Need → Type 0
HasRoomFor depth stacks need = (class : ℕ) × (need ≡ Small class) × (length (stack_at stacks class) < depth)

-- the stack of this class has this one more on its top in the first stacks than in the second, and all else is the same
pub record HasOnTop {A : Type 0} (class : ℕ) (kept : A) (more less : List (List A)) : Type 0 where
  pub before : List (List A)
  pub stack : List A
  pub after : List (List A)
  pub number : length before ≡ class
  pub with_it : more ≡ before ++ (stack ++ kept ∷ []) ∷ after
  pub without_it : less ≡ before ++ stack ∷ after

-- the first list has this one more than the second
pub record Splits {A : Type 0} (kept : A) (more less : List A) : Type 0 where
  pub front : List A
  pub back : List A
  pub with_it : more ≡ front ++ kept ∷ back
  pub without_it : less ≡ front ++ back

-- a magazine of this class: at most so many are kept, each of the class, and it has room for so many
pub record IsMagazine {A : Type 0} (need_of : A → Need) (class depth : ℕ) (magazine : Vec A Global) : Type 0 where
  pub few : length magazine.items ≤ depth
  pub room : depth ≤ vec_capacity magazine
  pub each : All (λ kept. need_of kept ≡ Small class) magazine.items

-- the magazines are of the classes from this one on, each with at most so many and room for so many
abbrev pub AreMagazines : {A : Type 0} → (A → Need) → ℕ → ℕ → List (Vec A Global) → Type 0
AreMagazines need_of class depth [] = Unit {0}
AreMagazines need_of class depth (magazine ∷ magazines) = IsMagazine need_of class depth magazine × AreMagazines need_of (suc class) depth magazines

-- a magazine for each class
pub record AreForClasses {A : Type 0} (need_of : A → Need) (depth : ℕ) (magazines : List (Vec A Global)) : Type 0 where
  pub classes : length magazines ≡ CLASSES
  pub each : AreMagazines need_of 0 depth magazines
