-- Whole calls one after the other, whoever makes them.
use Rattle.std.proofs.Common.{◌∷◌, ◌++◌, List, [], refl, sym, ap, subst}
use Rattle.errand_steps.specs.declared.reply.Reply.{Reply}
use Rattle.errand_steps.specs.Calls.{Call}
use Rattle.sound_laws.specs.events.Made.{LeadsBy, Made}

module _ {S : Type 0} (called : S → Call → Reply → S → Type 0) where
  -- calls and then others lead on from state to state
  pub leads-then :
      (s t u : S) (made more : List Made) → LeadsBy called s made t → LeadsBy called t more u → LeadsBy called s (made ++ more) u
  leads-then s t u [] more leads rest = subst (λ x. LeadsBy called x more u) leads rest
  leads-then s t u (m ∷ made) more (v, one, leads) rest = (v, one, leads-then v t u made more leads rest)

  -- and they can be cut in two
  pub leads-split : (s u : S) (made more : List Made) → LeadsBy called s (made ++ more) u → (t : S) × LeadsBy called s made t × LeadsBy called t more u
  leads-split s u [] more leads = (s, refl, leads)
  leads-split s u (m ∷ made) more (t, one, leads) = let rest = leads-split t u made more leads in (rest.0, (t, one, rest.1), rest.2)

-- calls of one kind that are calls of another one, on what their states stand for, as long as something holds of these
pub leads-of :
    {S T : Type 0} (one : S → Call → Reply → S → Type 0) (other : T → Call → Reply → T → Type 0) (of : S → T) (P : S → Type 0)
    → ((s t : S) (call : Call) (answer : Reply) → P s → one s call answer t → other (of s) call answer (of t) × P t)
    → (made : List Made) (s t : S) → P s → LeadsBy one s made t → LeadsBy other (of s) made (of t) × P t
leads-of one other of P step [] s t is same = (ap of same, subst P (sym same) is)
leads-of one other of P step (m ∷ made) s t is (u, called, leads) =
    let first = step s u m.call m.answer is called in
    let rest = leads-of one other of P step made u t first.1 leads in
    ((of u, first.0, rest.0), rest.1)
