use Rattle.std.proofs.Common.{ℕ, ◌≡◌, ◌≤◌, ◌<◌, ◌+◌, ◌∷◌, [], length, sym, ap, ◌∙◌, subst}
use Rattle.std.proofs.lemmas.List.{length-append}
use Rattle.sound_laws.specs.events.Made.{LeadsBy}
use Rattle.live_heap.specs.Whole.{MadeByPass, by_steps}
use Rattle.block_pipe.specs.declared.note.Note.{Note}
use Rattle.block_pipe.specs.Answers.{note_of}
use Rattle.block_pipe.specs.Ends.{pushed_by}
use Rattle.heap_geometry.specs.declared.need.Need.{Need}
use Rattle.heap_geometry.specs.Need.{usable_words}
use Rattle.block_pipe.specs.Notes.{shelf_for}
use Rattle.shelf_laws.specs.Quiet.{turn_of}
use Rattle.pipe_runner.specs.EndCalls.{Sends, SendsAll, words_from, wrote_from}
use Rattle.pipe_runner.specs.Messages.{first_word}
use Rattle.pipe_runner.proofs.CallSteps.{three-usable}
use Rattle.pipe_runner.proofs.EndLemmas.{sends-more}
use Rattle.pipe_runner.proofs.SendStep.{sent-step}
use Rattle.pipe_runner.proofs.sender.SenderThread.send_message.Goals as goal

pub write_message-requires-clause-words : goal.write_message-requires-clause-words
write_message-requires-clause-words g c = subst (λ (n : Need). 3 ≤ usable_words n) (sym c.allocate-block.ensures.serves) three-usable

pub hand_over-requires-clause-owned : goal.hand_over-requires-clause-owned
hand_over-requires-clause-owned g c = c.write_message.ensures.keeps.owns c.allocate-block.result c.allocate-block.ensures.owned

pub returns-clause-stands : goal.returns-clause-stands
returns-clause-stands g c =
    let s = c.requires.stands in
    let w = c.args.self.now in
    let pipe = c.args.pipe.now in
    let n = w.end.sent in
    let (end, number, pending) = c.hand_over.ensures.end in
    let below : w.pass.errand.caller < pipe.senders = subst (λ (k : ℕ). k < pipe.senders) (sym s.caller) s.end.has in
    let turn : shelf_for pipe.shelves w.end.number w.end.sent ≡ turn_of 8 w.pass.errand.caller n =
    ap (λ (k : ℕ). shelf_for k w.end.number w.end.sent) s.shelves ∙ ap (λ (k : ℕ). turn_of 8 k n) (sym s.caller) in
    let caller = c.caller-caller.ensures.value in
    let message = c.sent-message.ensures.value in
    let passed = g.G.Gate.passed c.args.gate.now in
    let gate : passed w.pass.errand.caller n =
    subst (λ (k : ℕ). passed k n) caller (subst (λ (k : ℕ). passed c.caller-caller.result k) message c.pass.ensures) in
    let first : c.first_of.result ≡ first_word c.args.start w.pass.errand.caller n =
    c.first_of.ensures ∙ ap (λ (k : ℕ). first_word c.args.start k c.sent-message.result) caller
    ∙ ap (λ (k : ℕ). first_word c.args.start w.pass.errand.caller k) message in
    let block = c.allocate-block.result in
    let note : Note = note_of pipe w.end.number n block.place in
    let over = c.hand_over.ensures.put in
    let words : c.first_of.result ≡ first_word c.args.start w.end.number n = first ∙ ap (λ (k : ℕ). first_word c.args.start k n) s.caller in
    let sends : Sends c.args.start w.end.number n note w.pass c.hand_over.new.pass = record {
      block = block;
      note_is = ap
          (λ (k : ℕ). record { sender = w.end.number; seq = n; shelf = shelf_for k w.end.number n; place = block.place }) s.shelves;
      asked = c.allocate-block.ensures.last;
      refused = c.allocate-block.ensures.refused;
      given = c.allocate-block.new.pass;
      gives = c.allocate-block.ensures.gives;
      written = c.write_message.new.pass;
      writes = subst (λ (v : ℕ). LeadsBy MadeByPass c.allocate-block.new.pass (wrote_from block.place block.need 0 (words_from v)) c.write_message.new.pass)
          words c.write_message.ensures.wrote;
      tried = over.last;
      full = over.full;
      puts = by_steps (0, over.called);
    } in
    let has =
    sent-step (g.G.Gate.passed c.args.gate.now) c.args.heap.now pipe.senders c.args.start n (shelf_for pipe.shelves w.end.number w.end.sent) c.first_of.result w.pass
    c.allocate-block.new.pass c.write_message.new.pass c.hand_over.new.pass c.allocate-block.result below s.has gate c.allocate-block.ensures
    c.write_message.ensures.keeps c.write_message.ensures.written first turn c.hand_over.ensures.put in
    record {
      shelves = s.shelves;
      end = end;
      pending = pending;
      caller = c.hand_over.ensures.put.called.caller ∙ c.hand_over.ensures.put.keeps.moves.goes.caller
          ∙ c.write_message.ensures.keeps.moves.goes.caller ∙ c.allocate-block.ensures.moves.goes.caller ∙ s.caller ∙ sym number;
      pushed = ap length c.hand_over.ensures.pushed ∙ length-append (pushed_by w.end) (note ∷ []) ∙ ap (λ (k : ℕ). k + 1) s.pushed;
      calls = subst (λ (k : ℕ). SendsAll c.args.heap.now c.args.start k (pushed_by c.hand_over.new.end) c.hand_over.new.pass) (sym number)
          (sends-more c.args.heap.now c.args.start w.end.number n (pushed_by w.end) (pushed_by c.hand_over.new.end) note w.pass c.hand_over.new.pass s.calls
          sends s.end.count c.hand_over.ensures.pushed);
      has = has;
    }
