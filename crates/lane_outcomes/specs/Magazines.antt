-- The magazines of a lane: for each class the places of the blocks that are kept there, the last one first.
use Rattle.std.specs.Prelude.{ℕ, suc, ◌∷◌, ◌++◌, List, [], Bool, true, false, Option, Some, None, flat_map, length, map, nat_lt, replicate, slice_set}
use Rattle.std.specs.List.{slice_index_or}
use Rattle.heap_geometry.specs.declared.limits.TheConstants.{CLASSES}
use Rattle.heap_geometry.specs.declared.need.Need.{Need}
use Rattle.heap_geometry.specs.declared.need.Need.TheVariants.{Small, Large, TooLarge}
use Rattle.heap_geometry.specs.Need.{usable_words}
use Rattle.pool_model.specs.declared.event.Event.{Event}
use Rattle.pool_model.specs.declared.event.Event.TheVariants.{Free}
use Rattle.lane_outcomes.specs.declared.registers.HeldBlock.{HeldBlock}

-- empty magazines, one for each class
abbrev pub empty_magazines : List (List ℕ)
empty_magazines = replicate CLASSES []

-- the magazine of a class
abbrev pub magazine_of : List (List ℕ) → ℕ → List ℕ
magazine_of magazines class = slice_index_or magazines class []

-- the last block of a magazine, if it has one; the others
abbrev pub last_in : List ℕ → Option ℕ
last_in [] = None
last_in (place ∷ places) = Some place

abbrev pub others_in : List ℕ → List ℕ
others_in [] = []
others_in (place ∷ places) = places

-- the block that serves a need, if a magazine has one
abbrev pub served_by : List (List ℕ) → Need → Option ℕ
served_by magazines (Small class) = last_in (magazine_of magazines class)
served_by magazines (Large units) = None
served_by magazines TooLarge = None

-- the magazines when a block was given for a need, where this one served it, or the heap did
abbrev pub given_from : Option ℕ → List (List ℕ) → Need → List (List ℕ)
given_from None magazines need = magazines
given_from (Some place) magazines (Small class) = slice_set magazines class (others_in (magazine_of magazines class))
given_from (Some place) magazines need = magazines

abbrev pub magazines_given : List (List ℕ) → Need → List (List ℕ)
magazines_given magazines need = given_from (served_by magazines need) magazines need

-- whether a freed block of this need is kept: it is small, and its magazine has room
abbrev pub is_kept : ℕ → List (List ℕ) → Need → Bool
is_kept depth magazines (Small class) = nat_lt (length (magazine_of magazines class)) depth
is_kept depth magazines (Large units) = false
is_kept depth magazines TooLarge = false

-- the magazines after a block was freed, by whether it is kept
abbrev pub kept_with : Bool → List (List ℕ) → ℕ → Need → List (List ℕ)
kept_with true magazines place (Small class) = slice_set magazines class (place ∷ magazine_of magazines class)
kept_with keeps magazines place need = magazines

abbrev pub magazines_freed : ℕ → List (List ℕ) → Option HeldBlock → List (List ℕ)
magazines_freed depth magazines None = magazines
magazines_freed depth magazines (Some held) = kept_with (is_kept depth magazines held.need) magazines held.place held.need

-- the events of a free: one that is kept has none
abbrev pub freeing : ℕ → Bool → ℕ → List Event
freeing caller true place = []
freeing caller false place = Free caller place ∷ []

-- the events of emptying all magazines: the first class first, and of each the last block first
abbrev pub emptying : ℕ → List (List ℕ) → List Event
emptying caller magazines = map (λ place. Free caller place) (flat_map (λ magazine. magazine) magazines)

-- a magazine's block as a register's
abbrev pub kept_block : ℕ → ℕ → HeldBlock
kept_block class place = record { place = place; words = usable_words (Small class); need = Small class }

-- the blocks in magazines of the classes from `class` on, in the order in which emptying frees them
abbrev pub kept_from : ℕ → List (List ℕ) → List HeldBlock
kept_from class [] = []
kept_from class (places ∷ magazines) = map (kept_block class) places ++ kept_from (suc class) magazines
