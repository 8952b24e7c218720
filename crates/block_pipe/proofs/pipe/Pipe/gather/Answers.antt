use Rattle.std.proofs.Common.{◌≡◌, ◌≢◌, List, [], ◌∷◌, ◌++◌, All, None, slice_index, suc, sym, ap, ◌∙◌, subst, arith, rules, append_assoc}
use Rattle.std.proofs.lemmas.List.Elements.{All-cons}
use Rattle.crossbeam_queue.specs.Passes.{view}
use Rattle.block_pipe.specs.declared.note.Note.{Note}
use Rattle.block_pipe.specs.declared.rule.Known.{Known}
use Rattle.block_pipe.specs.declared.sender.Sender.{Sender}
use Rattle.block_pipe.specs.Ends.{AreDistinct, IsSender, popped_by}
use Rattle.block_pipe.specs.Notes.{of_sender}
use Rattle.block_pipe.proofs.Gathering.{Told, distinct-behind, head-of, logged, one-of, told-stays}
use Rattle.block_pipe.proofs.NoteMoves.{first_part-learn, takes_over}
use Rattle.block_pipe.proofs.pipe.Pipe.gather.Goals as goal

pub absorb-requires-clause-rule : goal.absorb-requires-clause-rule
absorb-requires-clause-rule c =
    let e = c.loop-sender.end in
    let s = c.in-Some.sender in
    takes_over e.id (view e) s.end.id (view s.end) c.loop-sender.invariant.set

pub learn_as-requires-clause-rule : goal.learn_as-requires-clause-rule
learn_as-requires-clause-rule c =
    let i = c.loop-sender.invariant in
    let e = c.absorb.new.pass in
    let both = c.absorb.ensures.rule in
    first_part-learn e.id (view e) (ap (λ (v : Known). v.set) both ∙ i.set) (ap (λ (v : Known). v.receives) both ∙ i.receives)

pub loop-sender-preserved : goal.loop-sender-preserved
loop-sender-preserved c =
    let i = c.loop-sender.invariant in
    let among = i.among in
    let rest = c.pop.new.self.items in
    let s = c.in-Some.sender in
    let r = c.args.receiver in
    let pipe = c.args.self.now in
    let v = view c.loop-sender.end in
    let items : c.args.senders.items ≡ rest ++ s ∷ among.0 =
    among.1 ∙ ap (λ (l : List Sender). l ++ among.0) c.in-Some.ensures.items ∙ append_assoc rest (s ∷ []) among.0 in
    let E : Sender → Type 0 = λ x. IsSender pipe x × (x.pending ≡ None) in
    let mine : IsSender pipe s = (one-of E rest among.0 s (subst (All E) items c.requires.each)).0 in
    let distinct : AreDistinct (s ∷ among.0) = distinct-behind rest (s ∷ among.0) (subst AreDistinct items c.requires.distinct) in
    let both = c.absorb.ensures.rule in
    let both_taken = ap (λ (w : Known). w.taken) both ∙ i.taken in
    let first = c.learn_as.ensures.rule.1 s.number
    (omega (arith, ap (λ (w : Known). w.from) both, mine.from), omega (arith, ap (λ (w : Known). w.until) both, mine.until)) in
    let P : Sender → Type 0 = Told (popped_by r) c.set.new.self in
    let told : P s = (
      c.set.ensures.here ∙ mine.count,
      (first.0, ap (λ (w : Known). of_sender s.number w.sent) (sym both) ∙ first.1 ∙ ap (λ (l : List Note). of_sender s.number l ++ first.0) both_taken),
    ) in
    record {
      among = (
        s ∷ among.0,
        items,
        All-cons P s among.0 told
            (told-stays (popped_by r) c.loop-sender.sent c.set.new.self s.number among.0 c.set.ensures.others distinct.0 among.2),
        λ k other.
            c.set.ensures.others k (λ same. head-of (λ (x : Sender). x.number ≢ k) s among.0 other (sym same))
            ∙ among.3 k (λ j d below. other (suc j) d (omega arith)),
      );
      of = search rules;
      set = ap (λ (w : Known). w.set) (c.learn_as.ensures.queue.1 ∙ both) ∙ i.set;
      receives = ap (λ (w : Known). w.receives) (c.learn_as.ensures.queue.1 ∙ both) ∙ i.receives;
      taken = ap (λ (w : Known). w.taken) c.learn_as.ensures.queue.1 ∙ both_taken;
    }

pub returns : goal.returns
returns c =
    let among = c.loop-sender.invariant.among in
    let none : c.loop-sender.senders.items ≡ [] = search rules in
    let items : c.args.senders.items ≡ among.0 = among.1 ∙ ap (λ (l : List Sender). l ++ among.0) none in
    let r = c.args.receiver in
    let sent = c.loop-sender.sent in
    logged c.args.self.now r sent c.args.senders.items c.requires
    (subst (All (Told (popped_by r) sent)) (sym items) among.2)
    (λ k. subst (λ (l : List Sender). All (λ (s : Sender). s.number ≢ k) l → slice_index sent.counts k ≡ 0) (sym items) (among.3 k))
