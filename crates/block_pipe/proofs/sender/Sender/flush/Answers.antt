use Rattle.std.proofs.Common.{ℕ, ◌≡◌, ◌∷◌, [], Option, IfSome, Some, length, length-append, refl, sym, ap, ◌∙◌, subst, subst₂, arith}
use Rattle.crossbeam_queue.specs.Passes.{view}
use Rattle.block_pipe.specs.declared.note.Note.{Note}
use Rattle.block_pipe.specs.declared.pipe.Pipe.{Pipe}
use Rattle.block_pipe.specs.declared.rule.Known.{Known}
use Rattle.block_pipe.specs.declared.sender.Sender.{Sender}
use Rattle.block_pipe.specs.Ends.{IsNextIn, IsSender, pushed_by}
use Rattle.block_pipe.specs.Notes.{MayComeNext, StandsFor, of_sender}
use Rattle.block_pipe.proofs.NoteMoves.{of-same, sends, stands-learn}
use Rattle.block_pipe.proofs.sender.Sender.flush.Goals as goal

-- the pending note is the sender's, and may come next behind those that it has sent
next-of :
    (pipe : Pipe) (s : Sender) (note : Note) → IsSender pipe s → s.pending ≡ Some note
    → (note.sender ≡ s.number) × IsNextIn pipe (view s.end).sent note
next-of pipe s note is pending =
    subst (λ (o : Option Note). IfSome o (λ n. (n.sender ≡ s.number) × IsNextIn pipe (view s.end).sent n)) pending is.next

pub push_as-requires-clause-rule : goal.push_as-requires-clause-rule
push_as-requires-clause-rule g c =
    let r = c.requires in
    let s = c.args.self.now in
    let note = c.in-Some.note in
    let v = view s.end in
    let next = next-of c.args.pipe.now s note r c.in-Some.is in
    let stands : StandsFor v note.sender = (omega (arith, next.0, r.from), omega (arith, next.0, r.until)) in (
      sends _ s.end.id v note r.set stands (subst₂ (λ (m n : ℕ). MayComeNext m n v.sent note) (sym r.senders) (sym r.shelves) next.1),
      stands-learn s.end.id v,
    )

pub returns-in-Ok-clause-of : goal.returns-in-Ok-clause-of
returns-in-Ok-clause-of g c =
    let r = c.requires in
    let s = c.args.self.now in
    let note = c.in-Some.note in
    let w = c.in-Ok.ensures.rule in
    let same = c.in-Ok.ensures.queue in
    let pushed = ap (λ (v : Known). of_sender s.number v.sent) w
    ∙ of-same s.number (view s.end).sent note (next-of c.args.pipe.now s note r c.in-Some.is).0 in
    let more = ap length pushed ∙ length-append (pushed_by s) (note ∷ []) in (
      record {
        of = (same.0 ∙ r.of.0, same.2 ∙ r.of.1);
        has = r.has;
        set = ap (λ (v : Known). v.set) w ∙ r.set;
        senders = ap (λ (v : Known). v.senders) w ∙ r.senders;
        shelves = ap (λ (v : Known). v.shelves) w ∙ r.shelves;
        from = ap (λ (v : Known). v.from) w ∙ r.from;
        until = ap (λ (v : Known). v.until) w ∙ r.until;
        count = omega (arith, r.count, more);
        turn = c.next_turn-self.ensures.next s.sent r.turn;
        within = c.next_turn-self.ensures.within;
        next = tt;
      },
      refl,
    )
