use Rattle.std.proofs.Common.{suc, ◌≡◌, List, [], ◌∷◌, length, length-append, sym, ap, ◌∙◌, subst, arith, ◌+◌}
use Rattle.typed_store.specs.declared.slot.Slot.{Slot}
use Rattle.typed_store.specs.declared.slot.Slot.TheVariants.{Spare}
use Rattle.typed_store.specs.Nodes.{IsSpare, nodes_at, tokens_in}
use Rattle.typed_store.proofs.SlotLemmas.{nodes-push, tokens-push}
use Rattle.typed_store.proofs.StoreLemmas.{spare-none, spare-push}
use Rattle.typed_store.proofs.slot.make_room.Goals as goal

pub returns-in_ok-push-clause-spare : goal.returns-in_ok-push-clause-spare
returns-in_ok-push-clause-spare c =
    let was = c.args.slots.now.items in
    let spare : IsSpare was 0 = subst (IsSpare was) c.if-unused-eq0.true c.requires in
    let pushed : length c.push.new.self.items ≡ length was + 1 = ap (λ l. length l) c.in_ok-push.ensures.items ∙ length-append was (Spare 0 ∷ []) in
    let read : length c.as_slice.result.now ≡ length c.push.new.self.items = ap (λ l. length l) c.as_slice.ensures.value in
    let long : suc (length was) ≡ length c.as_slice.result.now = omega (arith, pushed, read) in
    subst (λ n. IsSpare c.push.new.self.items n) long (subst (λ (l : List Slot). IsSpare l (suc (length was))) (sym c.in_ok-push.ensures.items) (spare-push was spare))

pub returns-in_ok-push-clause-tokens : goal.returns-in_ok-push-clause-tokens
returns-in_ok-push-clause-tokens c = ap tokens_in c.in_ok-push.ensures.items ∙ tokens-push c.args.slots.now.items 0

pub returns-in_ok-push-clause-nodes : goal.returns-in_ok-push-clause-nodes
returns-in_ok-push-clause-nodes c = λ owned slot.
    ap (λ (l : List Slot). nodes_at owned l slot) c.in_ok-push.ensures.items ∙ nodes-push owned c.args.slots.now.items 0 slot

pub returns-in_ok-push-clause-many : goal.returns-in_ok-push-clause-many
returns-in_ok-push-clause-many c =
    let was = c.args.slots.now.items in
    let full = spare-none was (subst (IsSpare was) c.if-unused-eq0.true c.requires) in
    let pushed : length c.push.new.self.items ≡ length was + 1 = ap (λ l. length l) c.in_ok-push.ensures.items ∙ length-append was (Spare 0 ∷ []) in
    omega (arith, full, pushed)
