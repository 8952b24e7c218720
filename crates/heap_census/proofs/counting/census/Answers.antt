use Rattle.std.proofs.Common.{ℕ, ap, arith, ◌∙◌}
use Rattle.std.specs.Prelude.{◌==◌, if◌then◌else◌}
use Rattle.std.specs.Int.{bit_at}
use Rattle.heap_geometry.specs.declared.geometry.Geometry.{Geometry}
use Rattle.word_table.specs.declared.name.WordName.TheVariants as name
use Rattle.sound_state.specs.Sums.{sum_below}
use Rattle.heap_census.specs.Census.{closed_state}
use Rattle.heap_census.proofs.RestLemmas.{closed-checked, closed-rests}
use Rattle.heap_census.proofs.counting.census.Goals as goal

pub count_clear-requires : goal.count_clear-requires
count_clear-requires c =
    let most = (closed-checked c.args.closed.now c.geometry-units.ensures.rests).units.1 in
    let same = ap (λ (g : Geometry). g.units) c.geometry-units.ensures.value in
    omega (arith, most, same)

pub returns : goal.returns
returns c =
    let (l, rests) = closed-rests c.args.closed.now c.geometry-units.ensures.rests in
    let clear = λ (word bits : ℕ). sum_below bits (λ bit. if bit_at word bit == 0 then 1 else 0) in
    record {
      lists = l;
      listed = rests.parts.listed;
      classes = c.count_classes.ensures.classes;
      each = c.count_classes.ensures.each;
      frames = c.count_frames.ensures;
      units =
          c.count_clear.ensures ∙ ap (λ word. clear word c.geometry-units.result.units) c.word.ensures
          ∙ ap (λ (g : Geometry). clear ((closed_state c.args.closed.now).word name.Units) g.units) c.geometry-units.ensures.value;
    }
