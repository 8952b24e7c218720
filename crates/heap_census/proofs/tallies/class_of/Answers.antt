use Rattle.std.proofs.Common.{None, ◌≡◌}
use Rattle.packed_words.specs.Info.{info_of}
use Rattle.word_table.specs.declared.name.WordName.TheVariants as name
use Rattle.heap_census.specs.Census.{closed_state}
use Rattle.heap_census.proofs.RestLemmas.{info-there}
use Rattle.heap_census.proofs.tallies.class_of.Goals as goal

pub unreachable-requires : goal.unreachable-requires
unreachable-requires c =
    let none : info_of ((closed_state c.args.closed.now).word (name.Info c.args.desc)) ≡ None = cc in
    info-there c.args.closed.now c.args.desc c.requires.rests c.requires.desc none
