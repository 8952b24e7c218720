use Rattle.std.proofs.Common.{drop, [], refl}
use Rattle.heap_geometry.specs.declared.need.Need.TheVariants.{TooLarge}
use Rattle.errand_steps.specs.declared.reply.Reply.TheVariants as reply
use Rattle.errand_steps.specs.Calls.{free, take}
use Rattle.worked_programs.specs.declared.embedded.TheConstants.{SHELF}
use Rattle.worked_programs.specs.declared.embedded.Stop.{Stop}
use Rattle.worked_programs.specs.Embedded.{HasStopped, IsNextOfSecond, second_calls}
use Rattle.worked_programs.proofs.EmbeddedCalls.{ends-behind, err-as, has-read, has-taken, stops-behind}
use Rattle.worked_programs.proofs.embedded.fetch.Goals as goal

pub returns-in_err-block-clause-stopped : goal.returns-in_err-block-clause-stopped
returns-in_err-block-clause-stopped c =
    let h = c.args.heap.now in
    let p = c.args.pass.now in
    err-as c.from_residual.result c.in_err-block.field-0.0 (λ (s : Stop). HasStopped h p IsNextOfSecond s c.pick_up.new.pass) c.from_residual.ensures.1
    record {
      calls = [];
      last = p;
      made = refl;
      call = take SHELF;
      next = (0, TooLarge, 0, reply.Got 0 TooLarge, drop 1 (second_calls 0 TooLarge 0), refl);
      stops = c.in_err-block.ensures.stopped;
    }

pub read-handed-requires-clause-owned : goal.read-handed-requires-clause-owned
read-handed-requires-clause-owned c =
    let h = c.args.heap.now in
    let p = c.args.pass.now in
    let b = c.in_ok-block.block in
    let one = has-taken h p c.pick_up.new.pass SHELF b.place b.need c.whole_calls_keep_blocks.ensures.hands c.requires.of c.requires.home
    c.in_ok-block.ensures.got in
    one.owned

pub give_back-requires-clause-owned : goal.give_back-requires-clause-owned
give_back-requires-clause-owned c =
    let h = c.args.heap.now in
    let p = c.args.pass.now in
    let b = c.in_ok-block.block in
    let one = has-taken h p c.pick_up.new.pass SHELF b.place b.need c.whole_calls_keep_blocks.ensures.hands c.requires.of c.requires.home
    c.in_ok-block.ensures.got in
    let two =
    has-read h p c.pick_up.new.pass c.read-handed.new.pass _ b.place b.need 1 c.read-handed.result c.whole_calls_keep_blocks.ensures.keeps one c.read-handed.ensures.called
    c.read-handed.ensures.of c.read-handed.ensures.contents in
    two.owned

pub returns-in_err-give_back-clause-stopped : goal.returns-in_err-give_back-clause-stopped
returns-in_err-give_back-clause-stopped c =
    let h = c.args.heap.now in
    let p = c.args.pass.now in
    let b = c.in_ok-block.block in
    let one = has-taken h p c.pick_up.new.pass SHELF b.place b.need c.whole_calls_keep_blocks.ensures.hands c.requires.of c.requires.home
    c.in_ok-block.ensures.got in
    let two =
    has-read h p c.pick_up.new.pass c.read-handed.new.pass _ b.place b.need 1 c.read-handed.result c.whole_calls_keep_blocks.ensures.keeps one c.read-handed.ensures.called
    c.read-handed.ensures.of c.read-handed.ensures.contents in
    err-as c.from_residual-in_err-give_back.result c.in_err-give_back.field-0.0 (λ (s : Stop). HasStopped h p IsNextOfSecond s c.give_back.new.pass) c.from_residual-in_err-give_back.ensures.1
    (stops-behind h p c.read-handed.new.pass c.give_back.new.pass _ b.place b.need IsNextOfSecond (free b.place b.need) _ two
    (b.place, b.need, c.read-handed.result, reply.Freed, drop 3 (second_calls b.place b.need c.read-handed.result), refl) c.in_err-give_back.ensures.stopped)

pub returns-clause-fetched : goal.returns-clause-fetched
returns-clause-fetched c =
    let h = c.args.heap.now in
    let p = c.args.pass.now in
    let b = c.in_ok-block.block in
    let one = has-taken h p c.pick_up.new.pass SHELF b.place b.need c.whole_calls_keep_blocks.ensures.hands c.requires.of c.requires.home
    c.in_ok-block.ensures.got in
    let two =
    has-read h p c.pick_up.new.pass c.read-handed.new.pass _ b.place b.need 1 c.read-handed.result c.whole_calls_keep_blocks.ensures.keeps one c.read-handed.ensures.called
    c.read-handed.ensures.of c.read-handed.ensures.contents in
    record {
      place = b.place;
      need = b.need;
      made = ends-behind h p c.read-handed.new.pass c.give_back.new.pass _ b.place b.need (free b.place b.need) reply.Freed two c.in_ok-give_back.ensures.freed;
    }
