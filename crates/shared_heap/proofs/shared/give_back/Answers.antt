use Rattle.std.proofs.Common.{◌≡◌, ◌<◌, ◌+◌, ◌^◌, ◌%◌, [], ◌∷◌, Some, None, refl, sym, ap, ◌∙◌, subst, arith, rules}
use Rattle.heap_geometry.specs.declared.limits.TheConstants.{MAX_CALLERS}
use Rattle.atomic_table.specs.Table.{Allows, rest}
use Rattle.errand_steps.specs.Begins.{IsIdle}
use Rattle.shared_heap.specs.declared.places.Stand.TheVariants as stand
use Rattle.shared_heap.specs.Counted.{HasCounted}
use Rattle.shared_heap.specs.Places.{HasLaid, HasTaken, Holder, IsGiven, PlacesHold}
use Rattle.shared_heap.proofs.CountLemmas.{counts-pass}
use Rattle.shared_heap.proofs.PlaceLemmas.{lays-pass, takes-place}
use Rattle.shared_heap.proofs.shared.give_back.Goals as goal

pub store-requires : goal.store-requires
store-requires c =
    let t = c.args.places.now.shared in
    let place = c.args.ticket.caller in
    let caller : c.args.given.pass.errand.caller ≡ place = search rules in
    let served = c.requires.of.0.served in
    let has : place < t.key.layout.callers = omega (arith, caller, served.has) in
    let low : place < MAX_CALLERS = omega (arith, has, served.checked.callers.1) in (
      c.requires.ticket.0,
      omega (arith, low, c.requires.words),
      subst (λ (m : Holder). Allows (PlacesHold t.key) t.table_id.slots c.args.ticket.seat.id m place (λ _. 1) (λ _ after. HasTaken place m after))
          (sym c.requires.ticket.1) (takes-place t.key t.table_id.slots c.args.ticket.seat.id place (omega (arith, low, c.requires.slots)) has),
    )

pub store-requires-2 : goal.store-requires-2
store-requires-2 c =
    let t = c.args.places.now.shared in
    let place = c.args.ticket.caller in
    let own = c.args.given in
    let idle : IsIdle own.pass.errand = search rules in
    let caller : own.pass.errand.caller ≡ place = search rules in
    let served = c.requires.of.0.served in
    let low : place < MAX_CALLERS = omega (arith, caller, served.has, served.checked.callers.1) in
    let given : IsGiven t.key place own = (c.requires.of.0, idle, caller, c.requires.of.1) in
    let taken : c.store.new.seat.me ≡ ((t.key, stand.Takes place), (place, None) ∷ []) =
    c.store.ensures.2 ∙ ap (λ (m : Holder). ((m.0.0, stand.Takes place), (place, None) ∷ m.1)) c.requires.ticket.1 in
    let me : c.exchange.new.seat.me ≡ ((t.key, stand.Takes place), (place, Some own) ∷ []) =
    c.exchange.ensures.3 ∙ ap (λ (m : Holder). (m.0, (place, Some own) ∷ rest m.1)) taken in (
      c.exchange.ensures.0 ∙ (c.store.ensures.0 ∙ c.requires.ticket.0),
      omega (arith, low, c.requires.words),
      subst (λ (m : Holder). Allows (PlacesHold t.key) t.table_id.slots c.exchange.new.seat.id m place (λ _. 2) (λ _ after. HasLaid place m after))
          (sym me) (lays-pass t.key t.table_id.slots c.exchange.new.seat.id place own (omega (arith, low, c.requires.slots)) given),
    )

pub fetch_add-number-requires : goal.fetch_add-number-requires
fetch_add-number-requires c =
    let t = c.args.places.now.shared in
    let place = c.args.ticket.caller in
    let own = c.args.given in
    let served = c.requires.of.0.served in
    let taken : c.store.new.seat.me ≡ ((t.key, stand.Takes place), (place, None) ∷ []) =
    c.store.ensures.2 ∙ ap (λ (m : Holder). ((m.0.0, stand.Takes place), (place, None) ∷ m.1)) c.requires.ticket.1 in
    let me : c.exchange.new.seat.me ≡ ((t.key, stand.Takes place), (place, Some own) ∷ []) =
    c.exchange.ensures.3 ∙ ap (λ (m : Holder). (m.0, (place, Some own) ∷ rest m.1)) taken in
    let laid : c.store-2.new.seat.me ≡ ((t.key, stand.Laid own), []) =
    c.store-2.ensures.2 own (ap (λ (m : Holder). m.1) me) ∙ ap (λ (m : Holder). ((m.0.0, stand.Laid own), [])) me in (
      c.store-2.ensures.0 ∙ (c.exchange.ensures.0 ∙ (c.store.ensures.0 ∙ c.requires.ticket.0)),
      omega (arith, c.requires.words),
      subst (λ (m : Holder). Allows (PlacesHold t.key) t.table_id.slots c.store-2.new.seat.id m MAX_CALLERS (λ n. (n + 1) % 2 ^ 64) (HasCounted m))
          (sym laid) (counts-pass t.key t.table_id.slots c.store-2.new.seat.id own c.requires.slots served.checked.callers.1 served.has),
    )

pub returns-clause-laid : goal.returns-clause-laid
returns-clause-laid c =
    let t = c.args.places.now.shared in
    let place = c.args.ticket.caller in
    let own = c.args.given in
    let idle : IsIdle own.pass.errand = search rules in
    let taken : c.store.new.seat.me ≡ ((t.key, stand.Takes place), (place, None) ∷ []) =
    c.store.ensures.2 ∙ ap (λ (m : Holder). ((m.0.0, stand.Takes place), (place, None) ∷ m.1)) c.requires.ticket.1 in
    let me : c.exchange.new.seat.me ≡ ((t.key, stand.Takes place), (place, Some own) ∷ []) =
    c.exchange.ensures.3 ∙ ap (λ (m : Holder). (m.0, (place, Some own) ∷ rest m.1)) taken in
    let laid : c.store-2.new.seat.me ≡ ((t.key, stand.Laid own), []) =
    c.store-2.ensures.2 own (ap (λ (m : Holder). m.1) me) ∙ ap (λ (m : Holder). ((m.0.0, stand.Laid own), [])) me in
    let counted : HasCounted ((t.key, stand.Laid own), []) c.fetch_add-number.result c.fetch_add-number.new.seat.me =
    subst (λ (m : Holder). HasCounted m c.fetch_add-number.result c.fetch_add-number.new.seat.me) laid c.fetch_add-number.ensures.2 in (
      c.fetch_add-number.ensures.0 ∙ (c.store-2.ensures.0 ∙ (c.exchange.ensures.0 ∙ (c.store.ensures.0 ∙ c.requires.ticket.0))),
      (c.requires.of.0, idle, refl, c.requires.of.1),
      counted.0,
      counted.1,
    )
