use Rattle.std.proofs.Common.{ℕ, ◌≡◌, ◌<◌, List, length, rules, sym, ap, ◌∙◌, subst, arith}
use Rattle.std.specs.Prelude.{All, slice_index_or}
use Rattle.pipe_runner.specs.declared.sender.SenderThread.{SenderThread}
use Rattle.pipe_runner.specs.Senders.{AreSending, MaySend, SendsUntil}
use Rattle.pipe_runner.proofs.RoundLemmas.{sending-done, sending-may, written-whole}
use Rattle.pipe_runner.proofs.rounds.round.Goals as goal

pub send_beside-requires-clause-may : goal.send_beside-requires-clause-may
send_beside-requires-clause-may g c = λ lifetimes outlive.
    let passed = g.G.Gate.passed c.args.gate.now in
    let Q = λ (w : SenderThread). MaySend passed c.args.heap.now c.args.pipe.now c.args.start c.args.until w in
    subst (λ (l : List SenderThread). All Q l) (sym c.as_mut_slice.ensures.value)
    (sending-may passed c.args.heap.now c.args.pipe.now c.args.start c.args._from c.args.until 0 c.args.senders.now.items c.requires.stands
    c.requires.until.0 c.requires.until.1)

pub returns-clause-stands : goal.returns-clause-stands
returns-clause-stands g c =
    let passed = g.G.Gate.passed c.args.gate.now in
    let h = c.args.heap.now in
    let pipe = c.args.pipe.now in
    let start = c.args.start in
    let until = c.args.until in
    let before = c.args.senders.now.items in
    let after = c.send_beside.new.senders in
    let value : c.as_mut_slice.result.now ≡ before = c.as_mut_slice.ensures.value in
    let kept : length after ≡ length c.as_mut_slice.result.now = search rules in
    let same : length after ≡ length before = kept ∙ ap length value in
    let ran =
    subst (λ (l : List SenderThread). (i : ℕ) (d : SenderThread) → i < length l
    → SendsUntil passed h pipe start until (slice_index_or l i d) (slice_index_or after i d)) value c.send_beside.ensures.sent in
    let done = sending-done passed h pipe start c.args._from until 0 before after same ran c.requires.stands in
    let cap : length before ≡ c.args.senders.now.len = search rules in
    subst (λ (l : List SenderThread). AreSending passed h pipe start until 0 l)
    (sym (written-whole after before c.args.senders.now.len (same ∙ cap) cap)) done

pub returns-clause-all : goal.returns-clause-all
returns-clause-all g c =
    let before = c.args.senders.now.items in
    let after = c.send_beside.new.senders in
    let value : c.as_mut_slice.result.now ≡ before = c.as_mut_slice.ensures.value in
    let kept : length after ≡ length c.as_mut_slice.result.now = search rules in
    let same : length after ≡ length before = kept ∙ ap length value in
    let cap : length before ≡ c.args.senders.now.len = search rules in
    ap length (written-whole after before c.args.senders.now.len (same ∙ cap) cap) ∙ same
