-- Magazines that are emptied, one interrupted free after the other.
use Rattle.std.proofs.Common.{ℕ, ◌≡◌, ◌∷◌, ◌++◌, List, [], refl, sym, ap, ◌∙◌, subst, append_assoc}
use Rattle.std.proofs.lemmas.List.{map-append}
use Rattle.errand_steps.specs.declared.reply.Reply.TheVariants as reply
use Rattle.errand_steps.specs.Calls.{free}
use Rattle.sound_laws.specs.events.Made.{LeadsBy, answered}
use Rattle.live_heap.specs.declared.answers.Resumed.{Resumed}
use Rattle.live_heap.specs.declared.block.Block.{Block}
use Rattle.live_heap.specs.Heaps.{HeapFields}
use Rattle.live_heap.specs.declared.pass.Pass.{Pass}
use Rattle.live_heap.specs.Whole.{IsAtRest, ResumesTo}
use Rattle.block_cache.specs.declared.cache.Cache.{Cache}
use Rattle.block_cache.specs.declared.magazines.Magazines.{Magazines}
use Rattle.block_cache.specs.Caches.{KeepsMagazines, cached_in, stacks_in}
use Rattle.block_cache.specs.Flushes.{Frees, HasStopped}
use Rattle.block_cache.specs.Magazines.{leaving, stacks_of}
use Rattle.block_cache.specs.Whole.{RestsAt}
use Rattle.lane_engine.specs.Caches.{HasEmptied, HasEndedAt, frees_of}
use Rattle.lane_engine.proofs.LeadsLemmas.{leads-of, leads-then}
use Rattle.lane_engine.proofs.ThroughLemmas.{free-resumes}

-- some of the blocks of the magazines were freed, and the others are left
pub record EmptiesSoFar (h : HeapFields) (c d : Cache) : Type 0 where
  pub freed : List Block
  pub order : leaving (stacks_in c) ≡ freed ++ leaving (stacks_in d)
  pub frees : LeadsBy (HasEndedAt h) c.pass (frees_of freed) d.pass
  pub hits : d.hits ≡ c.hits

pub empties-none : (h : HeapFields) (c : Cache) → EmptiesSoFar h c c
empties-none h c = record { freed = []; order = refl; frees = refl; hits = refl }

frees-lead : (h : HeapFields) (p q : Pass) (blocks : List Block) (tries : ℕ) → Frees h p blocks tries q → LeadsBy (HasEndedAt h) p (frees_of blocks) q
frees-lead h p q [] tries frees = frees
frees-lead h p q (block ∷ blocks) tries (next, of, tells, frees) =
    (next, ((tells.steps, tells.called), (of, tells.called.idle)), frees-lead h next q blocks tries frees)

frees-append : (xs ys : List Block) → frees_of (xs ++ ys) ≡ frees_of xs ++ frees_of ys
frees-append xs ys = map-append (λ (block : Block). answered (free block.place block.need) reply.Freed) xs ys

-- all blocks of the magazines were freed
pub empties-all :
    (h : HeapFields) (c now d : Cache) (tries : ℕ) → EmptiesSoFar h c now → Frees h now.pass (leaving (stacks_in now)) tries d.pass
    → d.hits ≡ now.hits → cached_in d ≡ [] → HasEmptied h c d
empties-all h c now d tries so frees hits none = record {
  frees =
      subst (λ blocks. LeadsBy (HasEndedAt h) c.pass (frees_of blocks) d.pass) (sym so.order)
      (subst (λ made. LeadsBy (HasEndedAt h) c.pass made d.pass) (sym (frees-append so.freed (leaving (stacks_in now))))
      (leads-then (HasEndedAt h) c.pass now.pass d.pass (frees_of so.freed) (frees_of (leaving (stacks_in now))) so.frees
      (frees-lead h now.pass d.pass (leaving (stacks_in now)) tries frees)));
  empty = none;
  hits = hits ∙ so.hits;
}

same-left : (c d : Cache) → KeepsMagazines c d → leaving (stacks_in d) ≡ leaving (stacks_in c)
same-left c d keeps = ap (λ (m : Magazines Block). leaving (stacks_of m.stacks.items)) keeps.magazines

-- the free that was interrupted has gone on to its end
pub empties-stopped :
    (h : HeapFields) (c now mid d : Cache) (tries : ℕ) (told : Resumed) → EmptiesSoFar h c now
    → (stopped : HasStopped h now.pass (leaving (stacks_in now)) (leaving (stacks_in mid)) tries mid.pass)
    → mid.hits ≡ now.hits → KeepsMagazines mid d → RestsAt h d
    → ResumesTo stopped.next (free stopped.block.place stopped.block.need) told d.pass → EmptiesSoFar h c d
empties-stopped h c now mid d tries told so stopped hits keeps rests resumes =
    let block = stopped.block in
    let before = stopped.freed in
    let all = before ++ block ∷ [] in
    let left = same-left mid d keeps in
    let ended = free-resumes stopped.next block.place block.need told d.pass resumes in
    let first = frees-lead h now.pass stopped.next before tries stopped.frees in
    let last : LeadsBy (HasEndedAt h) stopped.next (frees_of (block ∷ [])) d.pass = (d.pass, (ended, (rests.0.hand.of, rests.1)), refl) in
    let these : LeadsBy (HasEndedAt h) now.pass (frees_of all) d.pass =
    subst (λ made. LeadsBy (HasEndedAt h) now.pass made d.pass) (sym (frees-append before (block ∷ [])))
    (leads-then (HasEndedAt h) now.pass stopped.next d.pass (frees_of before) (frees_of (block ∷ [])) first last) in
    record {
      freed = so.freed ++ all;
      order =
          so.order
          ∙ (ap (λ xs. so.freed ++ xs) (stopped.order ∙ sym (append_assoc before (block ∷ []) (leaving (stacks_in mid))))
          ∙ (sym (append_assoc so.freed all (leaving (stacks_in mid))) ∙ ap (λ xs. (so.freed ++ all) ++ xs) (sym left)));
      frees =
          subst (λ made. LeadsBy (HasEndedAt h) c.pass made d.pass) (sym (frees-append so.freed all))
          (leads-then (HasEndedAt h) c.pass now.pass d.pass (frees_of so.freed) (frees_of all) so.frees these);
      hits = keeps.hits ∙ (hits ∙ so.hits);
    }

-- the pass that has freed them is of the heap and in no call, if it was so
pub frees-rest : (h : HeapFields) (p q : Pass) (blocks : List Block) (tries : ℕ) → IsAtRest h p → Frees h p blocks tries q → IsAtRest h q
frees-rest h p q blocks tries rests frees =
    (leads-of (HasEndedAt h) (HasEndedAt h) (λ x. x) (IsAtRest h) (λ s t call answer is one. (one, one.1)) (frees_of blocks) p q rests
    (frees-lead h p q blocks tries frees)).1
