-- How the receiver comes to a note, over receives that miss.
use Rattle.std.proofs.Common.{◌≡◌, ◌++◌, ◌⊎◌, List, [], ◌∷◌, Option, Some, None, sym, ap, ◌∙◌, subst, inl, inr}
use Rattle.std.proofs.lemmas.Option.{none-some}
use Rattle.live_heap.specs.declared.pass.Pass.{Pass}
use Rattle.block_pipe.specs.declared.note.Note.{Note}
use Rattle.block_pipe.specs.declared.pipe.Pipe.{Pipe}
use Rattle.block_pipe.specs.declared.receiver.Receiver.{Receiver}
use Rattle.block_pipe.specs.Ends.{ComesTo, IsNextIn, popped_by}
use Rattle.pipe_runner.specs.EndCalls.{GotNone, HasTried}
use Rattle.pipe_runner.proofs.EndLemmas.{tried-none}

-- the receiver has kept the note, which is the next one behind those that it had popped
pub record HasKept (pipe : Pipe) (r : Receiver) (note : Note) (t : Receiver) : Type 0 where
  pub kept : t.kept ≡ Some note
  pub popped : popped_by t ≡ popped_by r ++ note ∷ []
  pub next : IsNextIn pipe (popped_by r) note

-- the receiver has come to no note yet, or to one that it keeps
abbrev pub HasCome : Pipe → Receiver → Receiver → Type 0
HasCome pipe r t = ((t.kept ≡ None) × (popped_by t ≡ popped_by r)) ⊎ ((note : Note) × HasKept pipe r note t)

pub comes-to :
    (pipe : Pipe) (r t u : Receiver) (note : Note) → HasCome pipe r t → ComesTo pipe t note u
    → (popped_by u ≡ popped_by r ++ note ∷ []) × IsNextIn pipe (popped_by r) note
comes-to pipe r t u note (inl here) (inl comes) = absurd (none-some note (sym here.0 ∙ comes.0))
comes-to pipe r t u note (inl here) (inr comes) =
    (comes.1 ∙ ap (λ (l : List Note). l ++ note ∷ []) here.1, subst (λ (l : List Note). IsNextIn pipe l note) here.1 comes.2)
comes-to pipe r t u note (inr has) (inl comes) =
    let both : Some note ≡ Some has.0 = sym comes.0 ∙ has.1.kept in
    let same : note ≡ has.0 = cc in (
      comes.1 ∙ has.1.popped ∙ ap (λ (x : Note). popped_by r ++ x ∷ []) (sym same),
      subst (IsNextIn pipe (popped_by r)) (sym same) has.1.next,
    )
comes-to pipe r t u note (inr has) (inr comes) = absurd (none-some has.0 (sym comes.0 ∙ has.1.kept))

-- a receiver that finds the queue empty has come to no note
pub comes-to-nothing : (pipe : Pipe) (r t u : Receiver) → HasCome pipe r t → t.kept ≡ None → popped_by u ≡ popped_by t → popped_by u ≡ popped_by r
comes-to-nothing pipe r t u (inl here) none same = same ∙ here.1
comes-to-nothing pipe r t u (inr has) none same = absurd (none-some has.0 (sym none ∙ has.1.kept))

-- while the receiver keeps no note it has made no take; else takes that got none from the shelf of the note that it keeps
abbrev pub HasTriedFor : Option Note → Pass → Pass → Type 0
HasTriedFor None p q = q ≡ p
HasTriedFor (Some note) p q = HasTried (GotNone note.shelf) p q

-- the takes before those for the note that the receiver has come to
pub tried-for :
    (pipe : Pipe) (t u : Receiver) (note : Note) (p q : Pass) → HasTriedFor t.kept p q → ComesTo pipe t note u
    → HasTried (GotNone note.shelf) p q
tried-for pipe t u note p q tried (inl comes) = subst (λ (k : Option Note). HasTriedFor k p q) comes.0 tried
tried-for pipe t u note p q tried (inr comes) =
    let same : q ≡ p = subst (λ (k : Option Note). HasTriedFor k p q) comes.0 tried in
    subst (HasTried (GotNone note.shelf) p) (sym same) (tried-none (GotNone note.shelf) p)

-- a receiver that keeps no note has made no take
pub tried-nothing : (t : Receiver) (p q r : Pass) → HasTriedFor t.kept p q → t.kept ≡ None → r ≡ q → r ≡ p
tried-nothing t p q r tried none same = same ∙ subst (λ (k : Option Note). HasTriedFor k p q) none tried
