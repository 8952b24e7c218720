use Rattle.std.proofs.Common.{ℕ, ◌≡◌, ◌∷◌, ◌++◌, [], List, Option, IfSome, None, Some, refl, sym, ◌∙◌, subst}
use Rattle.pool_model.specs.declared.event.Event.TheVariants.{TakeNone}
use Rattle.errand_steps.specs.declared.reply.Reply.TheVariants as reply
use Rattle.errand_steps.specs.Calls.{take}
use Rattle.live_heap.specs.declared.answers.Taken.TheVariants as taken
use Rattle.live_heap.specs.Answers.{TakeTells}
use Rattle.live_heap.specs.Passes.{seen}
use Rattle.live_heap.specs.Shelves.{MayLieOn}
use Rattle.block_pipe.specs.declared.note.Note.{Note}
use Rattle.block_pipe.specs.declared.pipe.Pipe.{Pipe}
use Rattle.block_pipe.specs.declared.receiver.Receiver.{Receiver}
use Rattle.block_pipe.specs.Answers.{HasComeTo, note_of}
use Rattle.block_pipe.specs.Ends.{ComesTo, IsNextIn, IsReceiver, popped_by}
use Rattle.block_pipe.proofs.receiver.Receiver.recv.Goals as goal

-- a receiver that has come to a note keeps it, and it is the last one popped
served : (pipe : Pipe) (r t : Receiver) (note : Note) → IsReceiver pipe t → t.kept ≡ Some note → ComesTo pipe r note t → HasComeTo pipe r note t
served pipe r t note is kept comes =
    let last : (before : List Note) × (popped_by t ≡ before ++ note ∷ []) × IsNextIn pipe before note =
    subst (λ (o : Option Note). IfSome o (λ n. (before : List Note) × (popped_by t ≡ before ++ n ∷ []) × IsNextIn pipe before n)) kept is.last in
    record { comes = comes; before = last.0; last = last.1; next = last.2 }

pub returns-in-Missed-clause-tells : goal.returns-in-Missed-clause-tells
returns-in-Missed-clause-tells g c =
    let note = c.in-Some.note in (
      note,
      served c.args.pipe.now c.args.self.now c.note.new.self note c.note.ensures.of c.in-Some.ensures.kept c.in-Some.ensures.note,
      c.in-Some.ensures.kept,
      c.in-Missed.ensures.tells,
    )

pub returns-in-Empty-clause-tells : goal.returns-in-Empty-clause-tells
returns-in-Empty-clause-tells g c =
    let p = c.args.pass.now in
    let q = c.take.new.pass in
    let note = c.in-Some.note in
    let s = served c.args.pipe.now c.args.self.now c.note.new.self note c.note.ensures.of c.in-Some.ensures.kept c.in-Some.ensures.note in
    let called = c.in-Empty.ensures.tells in (
      record { comes = s.comes; before = s.before; last = s.last; next = s.next },
      refl,
      called,
      c.passes_see_more.ensures.last p q (take note.shelf) 1 reply.Empty (TakeNone p.errand.caller note.shelf) called refl,
    )

pub returns-then-place-note-clause-tells : goal.returns-then-place-note-clause-tells
returns-then-place-note-clause-tells g c =
    let pipe = c.args.pipe.now in
    let r = c.args.self.now in
    let t = c.note.new.self in
    let block = c.in-Got.block in
    let note = c.in-Some.note in
    let s = served pipe r t note c.note.ensures.of c.in-Some.ensures.kept c.in-Some.ensures.note in
    let u : Receiver = record t { kept = None } in
    let serves : HasComeTo pipe r note u = record { comes = s.comes; before = s.before; last = s.last; next = s.next } in
    let place : note.place ≡ block.place = sym c.if-place-note.true ∙ c.place.ensures in
    let same : note ≡ note_of pipe note.sender note.seq block.place =
    λ i. record { sender = note.sender; seq = note.seq; shelf = s.next.shelf i; place = place i } in (
      subst (λ (n : Note). HasComeTo pipe r n u) same serves,
      refl,
      subst (λ (k : ℕ). TakeTells c.args.pass.now k (taken.Got block) c.take.new.pass) s.next.shelf c.in-Got.ensures.tells,
    )

pub returns-then-place-note-clause-words : goal.returns-then-place-note-clause-words
returns-then-place-note-clause-words g c =
    let q = c.take.new.pass in
    let note = c.in-Some.note in
    let s = served c.args.pipe.now c.args.self.now c.note.new.self note c.note.ensures.of c.in-Some.ensures.kept c.in-Some.ensures.note in
    subst (λ (k : ℕ). MayLieOn g.L.ShelfRule.allows (seen q) q.errand.caller c.in-Got.block.place k) s.next.shelf (c.in-Got.ensures.words c.in-Got.block refl)

pub returns-else-place-note-clause-words : goal.returns-else-place-note-clause-words
returns-else-place-note-clause-words g c = c.in-Got.ensures.words c.in-Got.block refl
