-- Behind all rounds and the flush no block's words are out with the cache's pass.
use Rattle.std.proofs.Common.{ℕ, zero, suc, ◌≡◌, List, [], ◌∷◌, sym, ap, ◌∙◌, subst}
use Rattle.errand_steps.specs.declared.reply.Reply.{Reply}
use Rattle.errand_steps.specs.Calls.{Call}
use Rattle.sound_laws.specs.events.Made.{LeadsBy, Made}
use Rattle.live_heap.specs.declared.block.Block.{Block}
use Rattle.live_heap.specs.Heaps.{HeapFields}
use Rattle.live_heap.specs.declared.pass.Pass.{Pass}
use Rattle.live_heap.specs.Passes.{IsOf}
use Rattle.block_cache.specs.declared.cache.Cache.{Cache}
use Rattle.block_cache.specs.Caches.{stacks_in}
use Rattle.block_cache.specs.Flushes.{Frees}
use Rattle.block_cache.specs.Magazines.{leaving}
use Rattle.block_cache.specs.Whole.{IsWholeCall, RestsAt, asked, kept, served}
use Rattle.worked_programs.specs.declared.embedded.TheConstants.{TRIES}
use Rattle.worked_programs.specs.declared.reuse.TheConstants.{ROUNDS}
use Rattle.worked_programs.specs.Reuse.{HasWorked, IsOpened, Makes, MakesRounds, round_calls}
use Rattle.worked_programs.proofs.HomeLemmas.{same-out, whole-out}
use Rattle.worked_programs.proofs.ReuseCalls.{round-rests}

cached-out : (h : HeapFields) (c d : Cache) (call : Call) (answer : Reply) → IsWholeCall h c call answer d → d.pass.out ≡ c.pass.out
cached-out h c d call answer whole =
    elim whole.made [
      | served words block is_alloc is_given has ↦ ap (λ (p : Pass). p.out) has.pass
      | kept block is_free is_freed held room has ↦ ap (λ (p : Pass). p.out) has.pass
      | asked asks made keeps ↦ whole-out h c.pass d.pass call answer whole.before.0.hand.of made
    ]

calls-out : (h : HeapFields) (c d : Cache) (calls : List Made) → LeadsBy (Makes h) c calls d → d.pass.out ≡ c.pass.out
calls-out h c d [] same = ap (λ (e : Cache). e.pass.out) same
calls-out h c d (made ∷ calls) (next, m, rest) = calls-out h next d calls rest ∙ cached-out h c next made.call made.answer m.0

rounds-out :
    (h : HeapFields) (c : Cache) (rounds : ℕ) (d : Cache) → RestsAt h c → MakesRounds h c rounds d → RestsAt h d × (d.pass.out ≡ c.pass.out)
rounds-out h c zero d rests same = (subst (RestsAt h) (sym same) rests, ap (λ (e : Cache). e.pass.out) same)
rounds-out h c (suc rounds) d rests (mid, made, round) = (
  round-rests h mid d rounds round,
  calls-out h mid d (round_calls round.0 rounds) round.1 ∙ (rounds-out h c rounds mid rests made).1,
)

frees-out : (h : HeapFields) (p q : Pass) (blocks : List Block) (tries : ℕ) → IsOf h p → Frees h p blocks tries q → q.out ≡ p.out
frees-out h p q [] tries of same = ap (λ (r : Pass). r.out) same
frees-out h p q (block ∷ blocks) tries was (next, of, tells, frees) =
    frees-out h next q blocks tries of frees ∙ same-out h p next was of tells.called.lent

pub worked-out : (h : HeapFields) (c : Cache) (sum : ℕ) (d : Cache) → IsOpened h c → HasWorked h c sum d → d.pass.out ≡ 0
worked-out h c sum d opened worked =
    let mid = rounds-out h c ROUNDS worked.mid opened.rests worked.rounds in
    frees-out h worked.mid.pass d.pass (leaving (stacks_in worked.mid)) TRIES mid.0.0.hand.of worked.flushed.1 ∙ (mid.1 ∙ opened.fresh.home)
