use Rattle.std.proofs.Common.{◌∷◌, length-take, arith, rules}
use Rattle.std.proofs.lemmas.List.Sums.{sum_by-cons}
use Rattle.std.proofs.KnownBytes.{Consumes-kept, Consumes-trans}
use Rattle.command_line.specs.Input.{Brings}
use Rattle.command_line.proofs.EdgeLemmas.{all-taken, brings-each, brings-few}
use Rattle.command_line.proofs.input.read_input.Goals as goal

pub returns-then-count-eq0-clause-whole : goal.returns-then-count-eq0-clause-whole
returns-then-count-eq0-clause-whole g c =
    let so_far = c.loop-buffer.invariant in
    let few = brings-each g.S.Source.gave c.args.most _ _ _ so_far.reads in
    record {
      until = record {
        counts = so_far.counts;
        before = c.loop-buffer.source;
        reads = so_far.reads;
        last = rw (c.if-count-eq0.true, so_far.buffer) at c.in-Ok.ensures.made;
        total = omega (arith, so_far.total, c.loop-buffer.bytes.ok);
        within = omega (arith, c.loop-buffer.bytes.ok);
        calls = omega (arith, few, so_far.total);
        taken = search rules;
      };
      whole = all-taken _ _ c.loop-buffer.bytes.items so_far.taken (rw c.if-count-eq0.true at (c.in-Ok.ensures.end (omega arith)));
    }

pub returns-in_default-clause-fault : goal.returns-in_default-clause-fault
returns-in_default-clause-fault g c fault =
    let so_far = c.loop-buffer.invariant in
    let few = brings-each g.S.Source.gave c.args.most _ _ _ so_far.reads in (
      search rules,
      (
        c.loop-buffer.bytes.items,
        c.in_default.field-0,
        record {
          counts = so_far.counts;
          before = c.loop-buffer.source;
          reads = so_far.reads;
          last = rw so_far.buffer at c.in_default.ensures.made;
          total = omega (arith, so_far.total, c.loop-buffer.bytes.ok);
          within = omega (arith, c.loop-buffer.bytes.ok);
          calls = omega (arith, few, so_far.total);
          taken = Consumes-kept _ _ _ _ so_far.taken c.in_default.ensures.kept;
        },
      ),
    )

pub loop-buffer-preserved : goal.loop-buffer-preserved
loop-buffer-preserved g c =
    let so_far = c.loop-buffer.invariant in
    let longer = c.in-Ok-extend_from_slice.ensures in
    let piece = length-take c.in-Ok.count c.read.new.buf in
    record {
      buffer = search rules;
      counts = c.in-Ok.count ∷ so_far.counts;
      total = omega (arith, so_far.total, longer.len, piece, c.in-Ok.ensures.within, sum_by-cons (λ n. n) c.in-Ok.count so_far.counts);
      reads = (c.loop-buffer.source, so_far.reads, omega (arith, so_far.total), omega (arith, c.if-count-eq0.false), rw so_far.buffer at c.in-Ok.ensures.made);
      further = omega (arith, longer.len, piece, so_far.buffer, c.in-Ok.ensures.within);
      taken = rw longer.items (Consumes-trans _ _ _ _ _ so_far.taken c.in-Ok.ensures.given);
      faults = search rules;
    }

pub returns-in_default-extend_from_slice-clause-memory : goal.returns-in_default-extend_from_slice-clause-memory
returns-in_default-extend_from_slice-clause-memory g c memory =
    let so_far = c.loop-buffer.invariant in
    let reads : Brings g.S.Source.gave c.args.most c.args.source.now (c.in-Ok.count ∷ so_far.counts) c.read.new.self = (
      c.loop-buffer.source,
      so_far.reads,
      omega (arith, so_far.total),
      omega (arith, c.if-count-eq0.false),
      rw so_far.buffer at c.in-Ok.ensures.made,
    ) in
    (c.in-Ok.count ∷ so_far.counts, (reads, brings-few g.S.Source.gave c.args.most c.args.source.now c.read.new.self (c.in-Ok.count ∷ so_far.counts) reads))

pub returns-clause-many : goal.returns-clause-many
returns-clause-many g c many =
    let so_far = c.loop-buffer.invariant in
    record {
      counts = so_far.counts;
      bytes = c.loop-buffer.bytes.items;
      reads = (so_far.reads, brings-few g.S.Source.gave c.args.most _ _ _ so_far.reads);
      total = omega (arith, so_far.total, c.loop-buffer.bytes.ok);
      more = omega (arith, c.loop-buffer.bytes.ok);
      further = omega (arith, so_far.further, c.loop-buffer.bytes.ok);
      taken = so_far.taken;
    }
