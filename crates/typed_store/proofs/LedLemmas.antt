-- What calls on words show: what their pass has seen, its accesses, and its caller's events.
use Rattle.std.proofs.Common.{ℕ, ◌≡◌, ◌+◌, List, [], ◌∷◌, ◌++◌, length, sym, ◌∙◌, ap, subst, arith, inl, inr, append_assoc, append-nil}
use Rattle.std.specs.Prelude.{All}
use Rattle.std.proofs.lemmas.List.Elements.{All-head, All-tail}
use Rattle.pool_model.specs.declared.event.Event.{Event}
use Rattle.pool_model.specs.Histories.{Begins, own}
use Rattle.sound_laws.specs.events.Ends.{HasEnded}
use Rattle.sound_laws.specs.events.Made.{LeadsBy, Made}
use Rattle.live_heap.specs.Heaps.{HeapFields}
use Rattle.live_heap.specs.declared.pass.Pass.{Pass}
use Rattle.live_heap.specs.Passes.{accesses, seen}
use Rattle.live_heap.specs.Whole.{MadeByPass, by_steps}
use Rattle.live_heap.proofs.laws_for_builders.Events.{called-grows}
use Rattle.typed_store.specs.Walks.{IsOnWord, LedBy, event_of, events_of}
use Rattle.typed_store.proofs.CountLemmas.{read-adds, write-adds}

pub begins-self : (p q : Pass) → q ≡ p → Begins (seen p) (seen q)
begins-self p q same = ([], ap seen same ∙ sym (append-nil (seen p)))

pub begins-on : (xs ys zs : List Event) → Begins xs ys → Begins ys zs → Begins xs zs
begins-on xs ys zs a b = (a.0 ++ b.0, b.1 ∙ (ap (λ l. l ++ b.0) a.1 ∙ append_assoc xs a.0 b.0))

pub led-grows : (h : HeapFields) (p q : Pass) (made : List Made) → LedBy h p made q → Begins (seen p) (seen q)
led-grows h p q [] led = begins-self p q led
led-grows h p q (m ∷ made) (next, one, rest) =
    begins-on (seen p) (seen next) (seen q) (called-grows p next m.call 0 m.answer one.0) (led-grows h next q made rest)

pub led-accesses : (h : HeapFields) (p q : Pass) (made : List Made) → LedBy h p made q → accesses q ≡ length made + accesses p
led-accesses h p q [] led = omega (arith, ap accesses led)
led-accesses h p q (m ∷ made) (next, one, rest) = omega (arith, one.0.accesses, led-accesses h next q made rest)

-- what one call on a word adds
one-adds : (k : ℕ) (m : Made) (added : List Event) → IsOnWord m → HasEnded k m.call m.answer added → added ≡ event_of k m.call
one-adds k m added (inl (place, need, i, word, is)) has =
    read-adds k place i word need added (subst (λ (x : Made). HasEnded k x.call x.answer added) is has)
    ∙ ap (λ (x : Made). event_of k x.call) (sym is)
one-adds k m added (inr (place, need, i, v, is)) has =
    write-adds k place i v need added (subst (λ (x : Made). HasEnded k x.call x.answer added) is has)
    ∙ ap (λ (x : Made). event_of k x.call) (sym is)

pub led-events :
    (h : HeapFields) (p q : Pass) (made : List Made) → All IsOnWord made → LedBy h p made q
    → own p.errand.caller (seen q) ≡ own p.errand.caller (seen p) ++ events_of p.errand.caller made
led-events h p q [] on led = ap (λ (x : Pass). own p.errand.caller (seen x)) led ∙ sym (append-nil (own p.errand.caller (seen p)))
led-events h p q (m ∷ made) on (next, one, rest) =
    let k = p.errand.caller in
    let called = one.0 in
    let mine = own k (seen p) in
    let adds : called.added ≡ event_of k m.call = one-adds k m called.added (All-head IsOnWord m made on) called.ended in
    let others : own k (seen q) ≡ own k (seen next) ++ events_of k made =
    subst (λ n. own n (seen q) ≡ own n (seen next) ++ events_of n made) called.caller (led-events h next q made (All-tail IsOnWord m made on) rest) in
    others
    ∙ (ap (λ l. l ++ events_of k made) (called.events ∙ ap (λ l. mine ++ l) adds) ∙ append_assoc mine (event_of k m.call) (events_of k made))

-- calls of one access each are whole calls
pub led-made : (h : HeapFields) (p q : Pass) (made : List Made) → LedBy h p made q → LeadsBy MadeByPass p made q
led-made h p q [] led = led
led-made h p q (m ∷ made) (next, one, rest) = (next, by_steps (0, one.0), led-made h next q made rest)
