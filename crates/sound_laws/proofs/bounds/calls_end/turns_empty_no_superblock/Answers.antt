use Rattle.std.proofs.Common.{◌∙◌}
use Rattle.word_table.specs.declared.name.WordName.TheVariants as name
use Rattle.sound_state.proofs.Common.{Partials, next_in}
use Rattle.step_parts.proofs.stack_lemmas.StackLemmas.{stacked-one}
use Rattle.sound_state.proofs.CountedLemmas.{without-counts, steps-counted}
use Rattle.sound_laws.proofs.bounds_lemmas.AvailableLemmas.{available-is}
use Rattle.sound_laws.proofs.bounds_lemmas.EmptiedLemmas.{empties-fall, clearings-fall, emptied-freed}
use Rattle.sound_laws.proofs.bounds.calls_end.turns_empty_no_superblock.Goals as goal

pub returns-clause-kept : goal.returns-clause-kept
returns-clause-kept c =
    λ g s caller after class d sound has turn step exists.
    empties-fall g s caller after class d (without-counts g s sound) (without-counts g after (steps-counted g s caller after sound has step)) has turn step

pub returns-clause-falls : goal.returns-clause-falls
returns-clause-falls c =
    λ g s caller after sound has step.
    clearings-fall g s caller after (without-counts g s sound) (without-counts g after (steps-counted g s caller after sound has step)) has step

pub returns-clause-freed : goal.returns-clause-freed
returns-clause-freed c = λ g s class sound. emptied-freed g s class (without-counts g s sound)

pub returns-clause-available : goal.returns-clause-available
returns-clause-available c =
    λ g s l sound listed.
    available-is g s sound.parts.0 sound.parts.1
    ∙ stacked-one (next_in s.word Partials) (s.word name.DescHead) sound.parts.0.available l.available sound.parts.1.listed.available listed.available
