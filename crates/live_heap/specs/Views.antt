-- What passes know, how the first one is cut into one for each caller, and how they are gathered into one.
use Rattle.std.specs.Prelude.{ℕ, zero, suc, ◌++◌, if◌then◌else◌, nat_lt, List, [], ◌∷◌, length, None}
use Rattle.heap_geometry.specs.declared.geometry.Geometry.{Geometry}
use Rattle.errand_steps.specs.Errands.{open_errand}
use Rattle.live_heap.specs.declared.view.Standing.{Standing}
use Rattle.live_heap.specs.declared.view.View.{View}

-- a caller that is in no call, has seen nothing and made no step
abbrev pub idle_standing : Geometry → ℕ → Standing
idle_standing g caller = record { errand = open_errand caller g; seen = []; accesses = 0 }

-- callers in no call that have seen nothing and made no step, so many from a number on
abbrev pub idles_from : Geometry → ℕ → ℕ → List Standing
idles_from g caller zero = []
idles_from g caller (suc more) = idle_standing g caller ∷ idles_from g (suc caller) more

-- the view of a pass that stands for so many callers from a number on, and has seen nothing yet
abbrev pub idle_view : Geometry → ℕ → ℕ → View
idle_view g caller more = record { callers = idles_from g caller more; seen = []; wins = []; lays = None; ready = []; lent = [] }

-- the view of the first pass, which stands for all callers
abbrev pub opening_view : Geometry → View
opening_view g = idle_view g 0 g.callers

-- the first caller of a list, and the others
abbrev pub first_caller : List Standing → List Standing
first_caller [] = []
first_caller (x ∷ xs) = x ∷ []

abbrev pub other_callers : List Standing → List Standing
other_callers [] = []
other_callers (x ∷ xs) = xs

-- the two parts of a pass that is cut: its first caller stays, and the others go
abbrev pub first_part : View → View
first_part v = record { callers = first_caller v.callers; seen = v.seen; wins = v.wins; lays = v.lays; ready = v.ready; lent = v.lent }

abbrev pub other_part : View → View
other_part v = record { callers = other_callers v.callers; seen = v.seen; wins = v.wins; lays = None; ready = []; lent = [] }

-- the longer of two lists
abbrev pub longer : {A : Type 0} → List A → List A → List A
longer xs ys = if nat_lt (length xs) (length ys) then ys else xs

-- a pass that takes another one in stands for the callers of both, and has seen what either saw
abbrev pub gathered : View → View → View
gathered v w = record { callers = v.callers ++ w.callers; seen = longer v.seen w.seen; wins = longer v.wins w.wins; lays = v.lays; ready = v.ready; lent = v.lent }

-- the view that is left of a pass that was taken in
abbrev pub spent_view : View
spent_view = record { callers = []; seen = []; wins = []; lays = None; ready = []; lent = [] }
