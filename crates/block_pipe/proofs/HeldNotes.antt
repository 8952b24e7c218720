-- What the rule of the notes tells an end of those in the queue.
use Rattle.std.proofs.Common.{ℕ, suc, ◌≡◌, ◌≤◌, List, [], ◌∷◌, ◌++◌, length, length-append, sym, ◌∙◌, ap, subst, subst₂, inl, inr, true, eq-eqb, append_assoc, arith, refl}
use Rattle.crossbeam_queue.specs.Passes.{view}
use Rattle.block_pipe.specs.declared.note.Note.{Note}
use Rattle.block_pipe.specs.declared.pipe.Pipe.{Pipe}
use Rattle.block_pipe.specs.declared.receiver.Receiver.{Receiver}
use Rattle.block_pipe.specs.declared.rule.Known.{Known}
use Rattle.block_pipe.specs.declared.sender.Sender.{Sender}
use Rattle.block_pipe.specs.Ends.{HasHeld, IsReceiver, IsSender, popped_by, pushed_by}
use Rattle.block_pipe.specs.Notes.{AreNumbered, EndsIn, Runs, RuleStands, of_sender}
use Rattle.block_pipe.proofs.NoteMoves.{not-first, of-append}

-- the queue goes where an end is set
runs-of : (v : Known) (items : List Note) → v.set ≡ true → (s : RuleStands v items) → Runs items s.1
runs-of v items is_set s = elim (s.2) [ inl first ↦ not-first s.1 s.0 v is_set first.1 s.3 | inr r ↦ r ]

pub pushed-last :
    (pipe : Pipe) (s : Sender) (items : List Note) → IsSender pipe s → RuleStands (view s.end) items
    → EndsIn (of_sender s.number items) (pushed_by s)
pushed-last pipe s items is stands =
    let r = runs-of (view s.end) items is.set stands in
    let m = (r.each stands.0 (view s.end) stands.3).sends s.number (omega (arith, is.from), omega (arith, is.until)) in
    (of_sender s.number r.got, m.2 ∙ ap (of_sender s.number) r.line ∙ of-append s.number r.got items)

pub popped-on :
    (pipe : Pipe) (r : Receiver) (items : List Note) → IsReceiver pipe r → RuleStands (view r.end) items
    → AreNumbered pipe.senders pipe.shelves (popped_by r ++ items)
popped-on pipe r items is stands =
    let v = view r.end in
    let runs = runs-of v items is.set stands in
    let fits = runs.each stands.0 v stands.3 in
    let sizes = fits.sizes is.set in
    let line : runs.all ≡ popped_by r ++ items = runs.line ∙ ap (λ (l : List Note). l ++ items) (sym (fits.receives is.receives).2) in
    subst₂ (λ (m n : ℕ). AreNumbered m n (popped_by r ++ items)) (sym sizes.0 ∙ is.senders) (sym sizes.1 ∙ is.shelves)
    (subst (AreNumbered runs.senders runs.shelves) line runs.numbered)

-- where all notes are of one sender, none is left out
all-of :
    (k : ℕ) (items : List Note) → ((front rest : List Note) (note : Note) → items ≡ front ++ note ∷ rest → note.sender ≡ k)
    → length (of_sender k items) ≡ length items
all-of k [] each = refl
all-of k (note ∷ items) each =
    let mine : note.sender ≡ k = each [] items note refl in
    let rest = all-of k items (λ front back x e. each (note ∷ front) back x (ap (λ (l : List Note). note ∷ l) e)) in
    rw (eq-eqb note.sender k mine) (ap suc rest)

pub alone-held :
    (pipe : Pipe) (s : Sender) (count : ℕ) → IsSender pipe s → pipe.senders ≡ 1 → HasHeld count (view s.end) → count ≤ length (pushed_by s)
alone-held pipe s count is one held =
    let items = held.0 in
    let v = view s.end in
    let stands = held.2 in
    let r = runs-of v items is.set stands in
    let sizes = (r.each stands.0 v stands.3).sizes is.set in
    let senders : r.senders ≡ 1 = sym sizes.0 ∙ is.senders ∙ one in
    let each : (front rest : List Note) (note : Note) → items ≡ front ++ note ∷ rest → note.sender ≡ s.number = λ front rest note e.
    let next = r.numbered (r.got ++ front) rest note (r.line ∙ ap (λ (l : List Note). r.got ++ l) e ∙ sym (append_assoc r.got front (note ∷ rest))) in
    omega (arith, next.sender, senders, is.has, one) in
    let ends = pushed-last pipe s items is stands in
    let total = ap length ends.1 ∙ length-append ends.0 (of_sender s.number items) in
    omega (arith, total, all-of s.number items each, held.1)
