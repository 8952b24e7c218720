-- The census of a heap that threads shared, as the program tells it.
use Rattle.std.specs.Prelude.{ℕ, ◌∷◌, ◌++◌, List, [], Option, Some, None, codes}
use Rattle.std.specs.Fmt.{decimal}
use Rattle.std.specs.List.{flat_map, range_with_len, slice_index_or}
use Rattle.heap_geometry.specs.declared.limits.TheConstants.{CLASSES}
use Rattle.trace_text.specs.Text.{line}
use Rattle.heap_census.specs.Census.{IsCensus, no_blocks}
use Rattle.heap_census.specs.declared.census.Census.{Census}
use Rattle.heap_census.specs.declared.census.ClassCount.{ClassCount}
use Rattle.trace_commands.specs.declared.closing.Closing.{Closing}
use Rattle.trace_commands.specs.declared.closing.Closing.TheVariants.{Stepped, Ran, Piped}

-- the line of a class
abbrev pub class_line : ℕ → ClassCount → List ℕ
class_line class count =
    line (
    codes "class" ∷ decimal class ∷ codes "blocks" ∷ decimal count.blocks ∷ codes "free" ∷ decimal count.free
    ∷ codes "reserved" ∷ decimal count.reserved ∷ codes "live" ∷ decimal count.live ∷ []
    )

-- the line of a class in a census
abbrev pub line_of : Census → ℕ → List ℕ
line_of census class = class_line class (slice_index_or census.per_class class no_blocks)

-- a line for each class, and one for the frames and units that are free
abbrev pub census_text : Census → List ℕ
census_text census =
    flat_map (line_of census) (range_with_len 0 CLASSES)
    ++ line (codes "free" ∷ codes "frames" ∷ decimal census.free_frames ∷ codes "units" ∷ decimal census.free_units ∷ [])

-- the census is that of the heap that threads shared
abbrev pub IsCensusOf : Option Closing → Census → Type 0
IsCensusOf (Some (Ran closed)) census = IsCensus closed census
IsCensusOf (Some (Piped run)) census = ⊥
IsCensusOf (Some (Stepped core)) census = ⊥
IsCensusOf None census = ⊥
