use Rattle.std.proofs.Common.{refl, subst}
use Rattle.heap_geometry.specs.declared.geometry.Geometry.{Geometry}
use Rattle.word_table.specs.Counts.{word_count}
use Rattle.step_machine.specs.Firsts.{IsTable}
use Rattle.step_machine.specs.Openings.{first_words}
use Rattle.step_machine.proofs.FirstLemmas.{core-opened, table-words}
use Rattle.step_machine.proofs.machine.Core.open_with.Goals as goal

pub returns : goal.returns
returns c =
    let T : Geometry → Type 0 = λ g. IsTable g (first_words g c.args.installed) (word_count g) c.in_ok-words.words.items in
    let table : T c.args.geometry = subst T c.new-layout.ensures c.in_ok-words.ensures in
    record {
      geometry = c.new-layout.ensures;
      words = table-words c.args.geometry (first_words c.args.geometry c.args.installed) c.in_ok-words.words.items table;
      errands = c.in_ok-errands.ensures.each;
      events = c.new.ensures.items;
      steps = refl;
    }

pub invariant_of-result : goal.invariant_of-result
invariant_of-result c =
    let T : Geometry → Type 0 = λ g. IsTable g (first_words g c.args.installed) (word_count g) c.in_ok-words.words.items in
    let table : T c.args.geometry = subst T c.new-layout.ensures c.in_ok-words.ensures in
    rw (c.new-layout.ensures, c.new.ensures.items)
    (core-opened c.args.geometry c.args.installed c.in_ok-words.words.items c.in_ok-errands.errands.items c.requires.checked
    c.requires.class table c.in_ok-errands.ensures)
