-- Runs with their replies, one slot longer.
use Rattle.std.proofs.Common.{ℕ, ◌≡◌, ◌<◌, ◌+◌, refl, ap, sym, ◌∙◌, subst, arith, List, [], ◌∷◌, ◌++◌, take, length, slice_index}
use Rattle.std.proofs.lemmas.List.{take_more}
use Rattle.std.proofs.lemmas.List.{append_assoc, append-nil}
use Rattle.errand_steps.specs.declared.reply.Reply.{Reply}
use Rattle.errand_steps.specs.Steps.{State, ScheduleSlot}
use Rattle.step_machine.specs.Replies.{RunReplies, Replies, replied_in}

-- a run with its replies, and one more slot
replies-push :
    (s m t : State) (first : List ℕ) (caller n k : ℕ) (replies : List (ℕ × Reply)) → RunReplies s first n replies m → ScheduleSlot m caller k t
    → RunReplies s (first ++ caller ∷ []) (n + k) (replies ++ replied_in m caller) t
replies-push s m t [] caller n k replies run turn =
    let T : State → Type 0 = λ x. ScheduleSlot x caller k t in (
      t,
      k,
      0,
      [],
      subst T run.2 turn,
      (refl, refl, refl),
      omega (arith, run.0),
      ap (λ r. r ++ replied_in m caller) run.1 ∙ (ap (λ x. replied_in x caller) run.2 ∙ sym (append-nil (replied_in s caller))),
    )
replies-push s m t (other ∷ first) caller n k replies run turn = (
  run.0,
  run.1,
  run.2 + k,
  run.3 ++ replied_in m caller,
  run.4,
  replies-push run.0 m t first caller run.2 k run.3 run.5 turn,
  omega (arith, run.6),
  ap (λ r. r ++ replied_in m caller) run.7 ∙ append_assoc (replied_in s other) run.3 (replied_in m caller),
)

-- a run with its replies goes on by the slot of the next caller of a list
pub replies-next :
    (s m t : State) (seats : List ℕ) (i caller n k : ℕ) (before after more : List (ℕ × Reply)) → i < length seats
    → caller ≡ slice_index seats i → Replies s (take i seats) n before after m → ScheduleSlot m caller k t → more ≡ after ++ replied_in m caller
    → Replies s (take (i + 1) seats) (n + k) before more t
replies-next s m t seats i caller n k before after more within is run turn are =
    let R : List ℕ → Type 0 = λ xs. RunReplies s xs (n + k) (run.0 ++ replied_in m caller) t in
    let W : ℕ → Type 0 = λ w. RunReplies s (take i seats ++ w ∷ []) (n + k) (run.0 ++ replied_in m caller) t in (
      run.0 ++ replied_in m caller,
      subst R (sym (take_more seats i 0 within)) (subst W is (replies-push s m t (take i seats) caller n k run.0 run.1 turn)),
      are ∙ (ap (λ a. a ++ replied_in m caller) run.2 ∙ append_assoc before run.0 (replied_in m caller)),
    )
