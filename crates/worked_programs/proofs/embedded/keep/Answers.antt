use Rattle.std.proofs.Common.{drop, ◌≤◌, [], refl, arith}
use Rattle.heap_geometry.specs.declared.need.Need.TheVariants.{TooLarge}
use Rattle.heap_geometry.specs.Need.{usable_words}
use Rattle.errand_steps.specs.declared.reply.Reply.TheVariants as reply
use Rattle.errand_steps.specs.Calls.{alloc, free, put}
use Rattle.worked_programs.specs.declared.embedded.TheConstants.{SHELF}
use Rattle.worked_programs.specs.declared.embedded.Stop.{Stop}
use Rattle.worked_programs.specs.Embedded.{HasStopped, IsNextOfFirst, first_calls}
use Rattle.worked_programs.proofs.EmbeddedCalls.{ends-behind, err-as, given-owned, given-words, has-both, has-more, has-read, has-written, stops-behind}
use Rattle.worked_programs.proofs.embedded.keep.Goals as goal

pub returns-in_err-block-clause-stopped : goal.returns-in_err-block-clause-stopped
returns-in_err-block-clause-stopped c =
    let h = c.args.heap.now in
    let p = c.args.pass.now in
    err-as c.from_residual.result c.in_err-block.field-0.0 (λ (s : Stop). HasStopped h p IsNextOfFirst s c.allocate.new.pass) c.from_residual.ensures.1
    record {
      calls = [];
      last = p;
      made = refl;
      call = alloc 3;
      next = (0, TooLarge, 0, TooLarge, 0, reply.Given 0 TooLarge, drop 1 (first_calls 0 TooLarge 0 TooLarge 0), refl);
      stops = c.in_err-block.ensures.stopped;
    }

pub write-requires-clause-owned : goal.write-requires-clause-owned
write-requires-clause-owned c =
    let b = c.in_ok-block.block in
    given-owned c.args.heap.now c.args.pass.now c.allocate.new.pass 3 b.place b.need c.whole_calls_keep_blocks.ensures.hands c.requires.of c.requires.home
    c.in_ok-block.ensures.given

pub write-requires-clause-word : goal.write-requires-clause-word
write-requires-clause-word c =
    let b = c.in_ok-block.block in
    let words : 3 ≤ usable_words b.need =
    given-words c.args.heap.now c.args.pass.now c.allocate.new.pass 3 b.place b.need c.given_blocks_have_enough_words.ensures c.in_ok-block.ensures.given in
    omega (arith, words)

pub returns-in_err-other-clause-stopped : goal.returns-in_err-other-clause-stopped
returns-in_err-other-clause-stopped c =
    let h = c.args.heap.now in
    let p = c.args.pass.now in
    let b = c.in_ok-block.block in
    let two =
    has-written h p c.allocate.new.pass c.write.new.pass 3 b.place b.need 1 7 c.whole_calls_keep_blocks.ensures.keeps c.whole_calls_keep_blocks.ensures.hands
    c.requires.of c.requires.home c.in_ok-block.ensures.given c.write.ensures.called c.write.ensures.of in
    err-as c.from_residual-in_err-other.result c.in_err-other.field-0.0 (λ (s : Stop). HasStopped h p IsNextOfFirst s c.allocate-2.new.pass) c.from_residual-in_err-other.ensures.1
    (stops-behind h p c.write.new.pass c.allocate-2.new.pass _ b.place b.need IsNextOfFirst (alloc 5) _ two
    (b.place, b.need, 0, TooLarge, 0, reply.Given 0 TooLarge, drop 3 (first_calls b.place b.need 0 TooLarge 0), refl) c.in_err-other.ensures.stopped)

pub write-requires-2-clause-owned : goal.write-requires-2-clause-owned
write-requires-2-clause-owned c =
    let h = c.args.heap.now in
    let p = c.args.pass.now in
    let b = c.in_ok-block.block in
    let o = c.in_ok-other.other in
    let two =
    has-written h p c.allocate.new.pass c.write.new.pass 3 b.place b.need 1 7 c.whole_calls_keep_blocks.ensures.keeps c.whole_calls_keep_blocks.ensures.hands
    c.requires.of c.requires.home c.in_ok-block.ensures.given c.write.ensures.called c.write.ensures.of in
    given-owned h c.write.new.pass c.allocate-2.new.pass 5 o.place o.need c.whole_calls_keep_blocks.ensures.hands c.write.ensures.of two.out
    c.in_ok-other.ensures.given

pub write-requires-2-clause-word : goal.write-requires-2-clause-word
write-requires-2-clause-word c =
    let o = c.in_ok-other.other in
    let words : 5 ≤ usable_words o.need =
    given-words c.args.heap.now c.write.new.pass c.allocate-2.new.pass 5 o.place o.need c.given_blocks_have_enough_words.ensures
    c.in_ok-other.ensures.given in
    omega (arith, words)

pub give_back-requires-clause-owned : goal.give_back-requires-clause-owned
give_back-requires-clause-owned c =
    let h = c.args.heap.now in
    let p = c.args.pass.now in
    let b = c.in_ok-block.block in
    let o = c.in_ok-other.other in
    let two =
    has-written h p c.allocate.new.pass c.write.new.pass 3 b.place b.need 1 7 c.whole_calls_keep_blocks.ensures.keeps c.whole_calls_keep_blocks.ensures.hands
    c.requires.of c.requires.home c.in_ok-block.ensures.given c.write.ensures.called c.write.ensures.of in
    (has-written h c.write.new.pass c.allocate-2.new.pass c.write-2.new.pass 5 o.place o.need 1 8 c.whole_calls_keep_blocks.ensures.keeps
    c.whole_calls_keep_blocks.ensures.hands c.write.ensures.of two.out c.in_ok-other.ensures.given c.write-2.ensures.called c.write-2.ensures.of).owned

pub returns-in_err-give_back-clause-stopped : goal.returns-in_err-give_back-clause-stopped
returns-in_err-give_back-clause-stopped c =
    let h = c.args.heap.now in
    let p = c.args.pass.now in
    let b = c.in_ok-block.block in
    let o = c.in_ok-other.other in
    let two =
    has-written h p c.allocate.new.pass c.write.new.pass 3 b.place b.need 1 7 c.whole_calls_keep_blocks.ensures.keeps c.whole_calls_keep_blocks.ensures.hands
    c.requires.of c.requires.home c.in_ok-block.ensures.given c.write.ensures.called c.write.ensures.of in
    let four =
    has-both h p c.write.new.pass c.allocate-2.new.pass c.write-2.new.pass _ b.place 5 o.place b.need o.need 1 8 c.whole_calls_keep_blocks.ensures.keeps c.whole_calls_keep_blocks.ensures.hands two
    c.in_ok-other.ensures.given c.write-2.ensures.called c.write-2.ensures.of in
    err-as c.from_residual-in_err-give_back.result c.in_err-give_back.field-0.0 (λ (s : Stop). HasStopped h p IsNextOfFirst s c.give_back.new.pass) c.from_residual-in_err-give_back.ensures.1
    (stops-behind h p c.write-2.new.pass c.give_back.new.pass _ b.place b.need IsNextOfFirst (free o.place o.need) _ four
    (b.place, b.need, o.place, o.need, 0, reply.Freed, drop 5 (first_calls b.place b.need o.place o.need 0), refl) c.in_err-give_back.ensures.stopped)

pub read-kept-requires-clause-owned : goal.read-kept-requires-clause-owned
read-kept-requires-clause-owned c =
    let h = c.args.heap.now in
    let p = c.args.pass.now in
    let b = c.in_ok-block.block in
    let o = c.in_ok-other.other in
    let two =
    has-written h p c.allocate.new.pass c.write.new.pass 3 b.place b.need 1 7 c.whole_calls_keep_blocks.ensures.keeps c.whole_calls_keep_blocks.ensures.hands
    c.requires.of c.requires.home c.in_ok-block.ensures.given c.write.ensures.called c.write.ensures.of in
    let four =
    has-both h p c.write.new.pass c.allocate-2.new.pass c.write-2.new.pass _ b.place 5 o.place b.need o.need 1 8 c.whole_calls_keep_blocks.ensures.keeps c.whole_calls_keep_blocks.ensures.hands two
    c.in_ok-other.ensures.given c.write-2.ensures.called c.write-2.ensures.of in
    let apart =
    c.whole_calls_keep_blocks.ensures.apart h h c.write.new.pass c.allocate-2.new.pass (alloc 5) (reply.Given o.place o.need) o.place b.place o.need
    b.need c.in_ok-other.ensures.given.0 (refl, refl) two.owned.0 in
    let five =
    has-more h p c.write-2.new.pass c.give_back.new.pass _ b.place b.need (free o.place o.need) reply.Freed c.whole_calls_keep_blocks.ensures.keeps four apart
    c.in_ok-give_back.ensures.freed in
    five.owned

pub read-kept-requires-clause-word : goal.read-kept-requires-clause-word
read-kept-requires-clause-word c =
    let b = c.in_ok-block.block in
    let words : 3 ≤ usable_words b.need =
    given-words c.args.heap.now c.args.pass.now c.allocate.new.pass 3 b.place b.need c.given_blocks_have_enough_words.ensures c.in_ok-block.ensures.given in
    omega (arith, words)

pub hand_over-requires-clause-owned : goal.hand_over-requires-clause-owned
hand_over-requires-clause-owned c =
    let h = c.args.heap.now in
    let p = c.args.pass.now in
    let b = c.in_ok-block.block in
    let o = c.in_ok-other.other in
    let two =
    has-written h p c.allocate.new.pass c.write.new.pass 3 b.place b.need 1 7 c.whole_calls_keep_blocks.ensures.keeps c.whole_calls_keep_blocks.ensures.hands
    c.requires.of c.requires.home c.in_ok-block.ensures.given c.write.ensures.called c.write.ensures.of in
    let four =
    has-both h p c.write.new.pass c.allocate-2.new.pass c.write-2.new.pass _ b.place 5 o.place b.need o.need 1 8 c.whole_calls_keep_blocks.ensures.keeps c.whole_calls_keep_blocks.ensures.hands two
    c.in_ok-other.ensures.given c.write-2.ensures.called c.write-2.ensures.of in
    let apart =
    c.whole_calls_keep_blocks.ensures.apart h h c.write.new.pass c.allocate-2.new.pass (alloc 5) (reply.Given o.place o.need) o.place b.place o.need
    b.need c.in_ok-other.ensures.given.0 (refl, refl) two.owned.0 in
    let five =
    has-more h p c.write-2.new.pass c.give_back.new.pass _ b.place b.need (free o.place o.need) reply.Freed c.whole_calls_keep_blocks.ensures.keeps four apart
    c.in_ok-give_back.ensures.freed in
    let six =
    has-read h p c.give_back.new.pass c.read-kept.new.pass _ b.place b.need 1 c.read-kept.result c.whole_calls_keep_blocks.ensures.keeps five c.read-kept.ensures.called
    c.read-kept.ensures.of c.read-kept.ensures.contents in
    six.owned

pub returns-in_err-hand_over-clause-stopped : goal.returns-in_err-hand_over-clause-stopped
returns-in_err-hand_over-clause-stopped c =
    let h = c.args.heap.now in
    let p = c.args.pass.now in
    let b = c.in_ok-block.block in
    let o = c.in_ok-other.other in
    let two =
    has-written h p c.allocate.new.pass c.write.new.pass 3 b.place b.need 1 7 c.whole_calls_keep_blocks.ensures.keeps c.whole_calls_keep_blocks.ensures.hands
    c.requires.of c.requires.home c.in_ok-block.ensures.given c.write.ensures.called c.write.ensures.of in
    let four =
    has-both h p c.write.new.pass c.allocate-2.new.pass c.write-2.new.pass _ b.place 5 o.place b.need o.need 1 8 c.whole_calls_keep_blocks.ensures.keeps c.whole_calls_keep_blocks.ensures.hands two
    c.in_ok-other.ensures.given c.write-2.ensures.called c.write-2.ensures.of in
    let apart =
    c.whole_calls_keep_blocks.ensures.apart h h c.write.new.pass c.allocate-2.new.pass (alloc 5) (reply.Given o.place o.need) o.place b.place o.need
    b.need c.in_ok-other.ensures.given.0 (refl, refl) two.owned.0 in
    let five =
    has-more h p c.write-2.new.pass c.give_back.new.pass _ b.place b.need (free o.place o.need) reply.Freed c.whole_calls_keep_blocks.ensures.keeps four apart
    c.in_ok-give_back.ensures.freed in
    let six =
    has-read h p c.give_back.new.pass c.read-kept.new.pass _ b.place b.need 1 c.read-kept.result c.whole_calls_keep_blocks.ensures.keeps five c.read-kept.ensures.called
    c.read-kept.ensures.of c.read-kept.ensures.contents in
    err-as c.from_residual-in_err-hand_over.result c.in_err-hand_over.field-0.0 (λ (s : Stop). HasStopped h p IsNextOfFirst s c.hand_over.new.pass) c.from_residual-in_err-hand_over.ensures.1
    (stops-behind h p c.read-kept.new.pass c.hand_over.new.pass _ b.place b.need IsNextOfFirst (put b.place b.need SHELF) _ six
    (b.place, b.need, o.place, o.need, c.read-kept.result, reply.Put, drop 7 (first_calls b.place b.need o.place o.need c.read-kept.result), refl) c.in_err-hand_over.ensures.stopped)

pub returns-clause-kept : goal.returns-clause-kept
returns-clause-kept c =
    let h = c.args.heap.now in
    let p = c.args.pass.now in
    let b = c.in_ok-block.block in
    let o = c.in_ok-other.other in
    let two =
    has-written h p c.allocate.new.pass c.write.new.pass 3 b.place b.need 1 7 c.whole_calls_keep_blocks.ensures.keeps c.whole_calls_keep_blocks.ensures.hands
    c.requires.of c.requires.home c.in_ok-block.ensures.given c.write.ensures.called c.write.ensures.of in
    let four =
    has-both h p c.write.new.pass c.allocate-2.new.pass c.write-2.new.pass _ b.place 5 o.place b.need o.need 1 8 c.whole_calls_keep_blocks.ensures.keeps c.whole_calls_keep_blocks.ensures.hands two
    c.in_ok-other.ensures.given c.write-2.ensures.called c.write-2.ensures.of in
    let apart =
    c.whole_calls_keep_blocks.ensures.apart h h c.write.new.pass c.allocate-2.new.pass (alloc 5) (reply.Given o.place o.need) o.place b.place o.need
    b.need c.in_ok-other.ensures.given.0 (refl, refl) two.owned.0 in
    let five =
    has-more h p c.write-2.new.pass c.give_back.new.pass _ b.place b.need (free o.place o.need) reply.Freed c.whole_calls_keep_blocks.ensures.keeps four apart
    c.in_ok-give_back.ensures.freed in
    let six =
    has-read h p c.give_back.new.pass c.read-kept.new.pass _ b.place b.need 1 c.read-kept.result c.whole_calls_keep_blocks.ensures.keeps five c.read-kept.ensures.called
    c.read-kept.ensures.of c.read-kept.ensures.contents in
    record {
      place = b.place;
      need = b.need;
      other = o.place;
      wide = o.need;
      made = ends-behind h p c.read-kept.new.pass c.hand_over.new.pass _ b.place b.need (put b.place b.need SHELF) reply.Put six c.in_ok-hand_over.ensures.put;
    }
