use Rattle.std.proofs.Common.{Some, ◌≡◌, rules}
use Rattle.packed_words.specs.declared.active.ActiveWord.TheVariants.{Held}
use Rattle.heap_census.specs.Census.{active_in, closed_state}
use Rattle.heap_census.proofs.RestLemmas.{active-there}
use Rattle.heap_census.proofs.tallies.add_active.Goals as goal

pub word-requires-in-Some-Held : goal.word-requires-in-Some-Held
word-requires-in-Some-Held c =
    let is : active_in (closed_state c.args.closed.now) c.args.heap c.args.class ≡ Some (Held c.in-Some-Held.desc c.in-Some-Held.credits) = cc in
    active-there c.args.closed.now c.args.heap c.args.class c.in-Some-Held.desc c.in-Some-Held.credits c.requires.rests c.requires.heap c.requires.class is

pub returns-in-Some-Held : goal.returns-in-Some-Held
returns-in-Some-Held c = search rules
