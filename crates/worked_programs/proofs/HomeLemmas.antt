-- No block's words go out with a pass in its whole calls: as many are out behind them as before.
use Rattle.std.proofs.Common.{ℕ, zero, suc, ◌≡◌, List, [], ◌∷◌, length, sym, ap, ◌∙◌, subst}
use Rattle.std.proofs.lemmas.List.{nil_from_length}
use mathlib.Core.Option.{some, some-ne-none}
use lib.ListN.{get_elem?}
use Rattle.errand_steps.specs.declared.reply.Reply.{Reply}
use Rattle.errand_steps.specs.Calls.{Call}
use Rattle.sound_laws.specs.events.Made.{LeadsBy, Made}
use Rattle.live_heap.specs.declared.block.Block.{Block}
use Rattle.live_heap.specs.Heaps.{HeapFields}
use Rattle.live_heap.specs.declared.pass.Pass.{Pass}
use Rattle.live_heap.specs.declared.view.Lent.{Lent}
use Rattle.live_heap.specs.Passes.{IsHome, IsOf, view}
use Rattle.live_heap.specs.Whole.{IsWhole, at_once, by_steps}
use Rattle.worked_programs.specs.Embedded.{Makes}

pub same-out : (h : HeapFields) (p q : Pass) → IsOf h p → IsOf h q → (view q).lent ≡ (view p).lent → q.out ≡ p.out
same-out h p q was is same = sym is.counted ∙ (ap (λ (l : List Lent). length l) same ∙ was.counted)

-- where nothing is out the words of each block are home
pub home-where : (h : HeapFields) (p : Pass) (place : ℕ) → IsOf h p → p.out ≡ 0 → IsHome p place
home-where h p place of out = λ n b found.
    let none : (view p).lent ≡ [] = nil_from_length (view p).lent (of.counted ∙ out) in
    absurd (some-ne-none b (sym (subst (λ (l : List Lent). get_elem? l n ≡ some b) none found)))

pub whole-out : (h : HeapFields) (p q : Pass) (call : Call) (answer : Reply) → IsOf h p → IsWhole h p call answer h q → q.out ≡ p.out
whole-out h p q call answer of whole =
    elim whole.0 [
      | by_steps ended ↦ same-out h p q of whole.3.0 ended.1.lent
      | at_once words is_alloc is_spent once ↦ ap (λ (r : Pass). r.out) once.same
    ]

pub leads-out : (h : HeapFields) (p q : Pass) (calls : List Made) → IsOf h p → LeadsBy (Makes h) p calls q → q.out ≡ p.out
leads-out h p q [] of same = ap (λ (r : Pass). r.out) same
leads-out h p q (made ∷ calls) of (next, m, rest) = leads-out h next q calls m.0.3.0 rest ∙ whole-out h p next made.call made.answer of m.0
