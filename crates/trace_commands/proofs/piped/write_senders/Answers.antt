use Rattle.std.proofs.Common.{ℕ, ◌++◌, List, append_assoc, ap, ◌∙◌, refl}
use Rattle.std.specs.List.{flat_map, range_with_len}
use Rattle.trace_commands.specs.Pipes.{sender_line}
use Rattle.trace_commands.proofs.CensusLemmas.{lines-more}
use Rattle.trace_commands.proofs.piped.write_senders.Goals as goal

pub loop-sender-preserved : goal.loop-sender-preserved
loop-sender-preserved c =
    let f = sender_line c.args.run.now in
    let n = c.loop-sender.sender in
    let before = c.args.text.now in
    let so_far = flat_map f (range_with_len 0 n) in
    c.in_ok-write_sender.ensures ∙ ap (λ (l : List ℕ). l ++ f n) c.loop-sender.invariant ∙ append_assoc before so_far (f n)
    ∙ ap (λ (l : List ℕ). before ++ l) (lines-more f n so_far (f n) (so_far ++ f n) refl refl refl)
