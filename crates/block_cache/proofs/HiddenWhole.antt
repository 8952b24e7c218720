-- What whole calls and flushes make of the hidden pool.
use Rattle.std.proofs.Common.{ℕ, ◌≡◌, ◌≢◌, ◌++◌, inl, inr, List, [], ◌∷◌, Some, None, refl, sym, ap, ◌∙◌, subst, append-nil}
use Rattle.std.proofs.lemmas.Bool.{cases_eq}
use Rattle.std.proofs.lemmas.Option.{none-some}
use Rattle.heap_geometry.specs.declared.need.Need.{Need}
use Rattle.heap_geometry.specs.Place.{IsApart}
use Rattle.pool_model.specs.Owned.{if_of}
use Rattle.pool_model.specs.Pool.{Block as PoolBlock, block_at, fresh_block, pool_of, span_of}
use Rattle.pool_model.proofs.OwnedLemmas.{of-self, owned-found}
use Rattle.errand_steps.specs.declared.reply.Reply.{Reply}
use Rattle.errand_steps.specs.declared.reply.Reply.TheVariants as reply
use Rattle.errand_steps.specs.Calls.{Call, alloc, free}
use Rattle.live_heap.specs.declared.answers.FreeAnswer.TheVariants as free_answer
use Rattle.live_heap.specs.declared.block.Block.{Block}
use Rattle.live_heap.specs.Heaps.{HeapFields}
use Rattle.live_heap.specs.declared.pass.Pass.{Pass}
use Rattle.live_heap.specs.Contents.{HasChanged, owned_in}
use Rattle.live_heap.specs.Holdings.{Holds}
use Rattle.live_heap.specs.Passes.{IsOf, seen}
use Rattle.live_heap.specs.Whole.{HasEndedCall, IsWhole, MadeByPass, at_once, by_steps}
use Rattle.sound_laws.specs.events.Ends.{HasEnded}
use Rattle.pool_model.specs.declared.event.Event.{Event}
use Rattle.pool_model.proofs.WellFormedLemmas.{sound-of, separate-found}
use Rattle.pool_model.proofs.HistoryLemmas.{legal-weaker}
use Rattle.live_heap.proofs.laws_for_builders.Changing.{called-changes, whole-changes}
use Rattle.live_heap.proofs.laws_for_builders.Giving.{pass-apart}
use Rattle.live_heap.proofs.laws_for_builders.Hands.{hand-all, hand-left}
use Rattle.block_cache.specs.declared.cache.Cache.{Cache}
use Rattle.block_cache.specs.Caches.{HasKept, HasServed, IsCache, KeepsMagazines, cached_in, stacks_in}
use Rattle.block_cache.specs.Flushes.{FlushTells, Frees, HasStopped}
use Rattle.block_cache.specs.Hidden.{OwnsOneMore, OwnsOneLess, Shows, ShowsSame, hidden_at, hidden_pool_of}
use Rattle.block_cache.specs.Magazines.{leaving, stacks_of}
use Rattle.block_cache.specs.declared.magazines.Magazines.{Magazines}
use Rattle.block_cache.specs.Whole.{IsWholeCall, RestsAt, asked, kept, served}
use Rattle.block_cache.proofs.HiddenLemmas.{hidden-found, hidden-shown, shown, shown-all, shown-here, shown-none, shown-leaving, shown-past, shown-same}
use Rattle.block_cache.proofs.MagazineLemmas.{none-left, top-splits}
use Rattle.block_cache.proofs.WholeLemmas.{same-cached}

-- no word of a block of the caller's is one of another block that is shown
apart-from : (h : HeapFields) (d : Cache) (place : ℕ) (block : PoolBlock) → IsOf h d.pass → owned_in d.pass place ≡ Some block
    → (at : ℕ) (other : PoolBlock) → block_at at (hidden_pool_of d) ≡ Some other → at ≢ place → IsApart (span_of block) (span_of other)
apart-from h d place block of is at other found ne =
    let pool = pool_of (seen d.pass) in
    let own = owned-found d.pass.errand.caller (block_at place pool) block is in
    let legal = legal-weaker h.layout (seen d.pass) of.served.legal in
    (separate-found h.layout pool (sound-of h.layout (seen d.pass) legal) place at block other own.0 (hidden-found d at other found) (λ same. ne (sym same))).apart

-- where a magazine gave a block the caller owns one more
served-gains : (h : HeapFields) (c d : Cache) (words : ℕ) (block : Block) → RestsAt h c → IsCache h d → HasServed c words block d → OwnsOneMore c words block.place d
served-gains h c d words block rests is has =
    let p = c.pass in
    let split = top-splits has.class block (stacks_in c) (stacks_in d) has.top in
    let out = hand-left p split.front split.back block (subst (Holds p) split.with_it (rests.0.hand.holds rests.1)) in
    let owns = out.0.0 in
    let owned : owned_in p block.place ≡ Some owns.0 = ap (if_of p.errand.caller) owns.1 ∙ of-self p.errand.caller owns.0 owns.2 in
    let owned_then : owned_in d.pass block.place ≡ Some owns.0 = ap (λ (q : Pass). owned_in q block.place) has.pass ∙ owned in
    record {
      nothing =
          hidden-shown c block.place
          ∙ ap (λ (xs : List Block). shown p xs block.place) split.with_it ∙ shown-here p split.front split.back block;
      block = owns.0;
      here =
          hidden-shown d block.place
          ∙ ap (λ (xs : List Block). shown d.pass xs block.place) split.without_it
          ∙ shown-all d.pass (split.front ++ split.back) block.place out.1 ∙ owned_then;
      serves = owns.3 ∙ has.serves ∙ sym has.small;
      apart = apart-from h d block.place owns.0 is.hand.of owned_then;
      others = λ other ne.
          hidden-shown d other
          ∙ ap (λ (xs : List Block). shown d.pass xs other) split.without_it
          ∙ ap (λ (q : Pass). shown q (split.front ++ split.back) other) has.pass
          ∙ sym (shown-past p split.front split.back block other (λ same. ne (sym same)))
          ∙ ap (λ (xs : List Block). shown p xs other) (sym split.with_it) ∙ sym (hidden-shown c other);
    }

-- where a magazine kept a block the caller owns one less
kept-loses : (c d : Cache) (block : Block) → HasKept c block d → OwnsOneLess c block.place d
kept-loses c d block has =
    let p = c.pass in
    let split = top-splits has.class block (stacks_in d) (stacks_in c) has.top in
    record {
      here =
          hidden-shown d block.place
          ∙ ap (λ (xs : List Block). shown d.pass xs block.place) split.with_it ∙ shown-here d.pass split.front split.back block;
      others = λ other ne.
          hidden-shown d other
          ∙ ap (λ (xs : List Block). shown d.pass xs other) split.with_it
          ∙ shown-past d.pass split.front split.back block other (λ same. ne (sym same))
          ∙ ap (λ (q : Pass). shown q (split.front ++ split.back) other) has.pass
          ∙ ap (λ (xs : List Block). shown p xs other) (sym split.without_it) ∙ sym (hidden-shown c other);
    }

-- where the heap was asked, the same is shown where the same is owned, and nothing where nothing is
same-shown : (c d : Cache) (place : ℕ) → KeepsMagazines c d → owned_in d.pass place ≡ owned_in c.pass place → hidden_at d place ≡ hidden_at c place
same-shown c d place keeps same =
    hidden-shown d place
    ∙ ap (λ (xs : List Block). shown d.pass xs place) (same-cached c d keeps) ∙ shown-same c.pass d.pass (cached_in c) place same
    ∙ sym (hidden-shown c place)

none-shown : (c : Cache) (place : ℕ) → owned_in c.pass place ≡ None → hidden_at c place ≡ None
none-shown c place nothing = hidden-shown c place ∙ shown-none c.pass (cached_in c) place nothing

-- a free ends as freed
free-ends : (caller place : ℕ) (need : Need) (ended : Reply) (events : List Event) → HasEnded caller (free place need) ended events → ended ≡ reply.Freed
free-ends caller place need reply.Freed events h = refl
free-ends caller place need ended events h = absurd (none-some h.ended.0 h.ended.1)

free-made : (p : Pass) (place : ℕ) (need : Need) (ended : Reply) (q : Pass) → MadeByPass p (free place need) ended q → ended ≡ reply.Freed
free-made p place need ended q (by_steps made) = free-ends p.errand.caller place need ended made.1.added made.1.ended
free-made p place need ended q (at_once words is_alloc spent once) = let e : free place need ≡ alloc words = is_alloc in absurd (cc)

asked-shows : (h : HeapFields) (c d : Cache) (call : Call) (ended : Reply) → RestsAt h c → IsCache h d → IsWhole h c.pass call ended h d.pass
    → KeepsMagazines c d → HasChanged c.pass call ended d.pass → Shows c call ended d
asked-shows h c d (alloc words) (reply.Given place need) rests is whole keeps changed =
    let block = fresh_block c.pass.errand.caller words place in
    let apart =
    hand-all c.pass (λ other. other.place ≢ place)
    (λ other owns. pass-apart h h c.pass d.pass (alloc words) (reply.Given place need) place other.place need other.need whole (refl, refl) owns.0)
    (cached_in c) (rests.0.hand.holds rests.1) in
    record {
      nothing = none-shown c place changed.nothing;
      block = block;
      here =
          hidden-shown d place
          ∙ ap (λ (xs : List Block). shown d.pass xs place) (same-cached c d keeps) ∙ shown-all d.pass (cached_in c) place apart ∙ changed.given.here;
      serves = refl;
      apart = apart-from h d place block is.hand.of changed.given.here;
      others = λ other ne. same-shown c d other keeps (changed.given.others other ne);
    }
asked-shows h c d (alloc words) ended rests is whole keeps changed = λ place. same-shown c d place keeps (changed place)
asked-shows h c d (free place need) ended rests is whole keeps changed =
    let freed = free-made c.pass place need ended d.pass whole.0 in
    let but = subst (λ (r : Reply). HasChanged c.pass (free place need) r d.pass) freed changed in
    record { here = none-shown d place but.here; others = λ other ne. same-shown c d other keeps (but.others other ne) }
asked-shows h c d call ended rests is whole keeps changed = tt

pub whole-shows : (h : HeapFields) (c d : Cache) (call : Call) (ended : Reply) → IsWholeCall h c call ended d → Shows c call ended d
whole-shows h c d call ended w =
    elim w.made [
      | served words block is_alloc is_given has ↦
          subst (λ (x : Call). Shows c x ended d) (sym is_alloc)
          (subst (λ (r : Reply). Shows c (alloc words) r d) (sym is_given) (served-gains h c d words block w.before w.after.0 has))
      | kept block is_free is_freed held room has ↦
          subst (λ (x : Call). Shows c x ended d) (sym is_free)
          (subst (λ (r : Reply). Shows c (free block.place block.need) r d) (sym is_freed) (kept-loses c d block has))
      | asked asks whole keeps ↦ asked-shows h c d call ended w.before w.after.0 whole keeps (whole-changes h h c.pass d.pass call ended whole)
    ]

-- a block that is freed was not shown while it was in a magazine
freed-shown : (h : HeapFields) (p q : Pass) (block : Block) (blocks : List Block) → IsOf h q → HasEndedCall p (free block.place block.need) reply.Freed q
    → (place : ℕ) → shown q blocks place ≡ shown p (block ∷ blocks) place
freed-shown h p q block blocks of (steps, called) place =
    let but = called-changes h p q (free block.place block.need) steps reply.Freed of called in
    elim (cases_eq place block.place) [
      | inl here ↦
          subst (λ k. shown q blocks k ≡ shown p (block ∷ blocks) k) (sym here)
          (shown-none q blocks block.place but.here ∙ sym (shown-here p [] blocks block))
      | inr other ↦
          shown-same p q blocks place (but.others place other) ∙ sym (shown-past p [] blocks block place (λ same. other (sym same)))
    ]

frees-shown : (h : HeapFields) (p : Pass) (blocks : List Block) (tries : ℕ) (q : Pass) (rest : List Block) → Frees h p blocks tries q
    → (place : ℕ) → shown q rest place ≡ shown p (blocks ++ rest) place
frees-shown h p [] tries q rest frees place = ap (λ (r : Pass). shown r rest place) frees
frees-shown h p (b ∷ bs) tries q rest (next, of, freed, frees) place =
    frees-shown h next bs tries q rest frees place ∙ freed-shown h p next b (bs ++ rest) of (freed.steps, freed.called) place

pub flush-shows : (h : HeapFields) (c d : Cache) (tries : ℕ) → FlushTells h c tries free_answer.Freed d → ShowsSame c d
flush-shows h c d tries (empty, frees) place =
    hidden-shown d place
    ∙ ap (λ (xs : List Block). shown d.pass xs place) (none-left (stacks_in d) empty)
    ∙ frees-shown h c.pass (leaving (stacks_in c)) tries d.pass [] frees place
    ∙ ap (λ (xs : List Block). shown c.pass xs place) (append-nil (leaving (stacks_in c)))
    ∙ shown-leaving c.pass (stacks_in c) place ∙ sym (hidden-shown c place)

pub resumed-shows :
    (h : HeapFields) (c d e : Cache) (tries : ℕ) → IsOf h e.pass → (stopped : HasStopped h c.pass (leaving (stacks_in c)) (leaving (stacks_in d)) tries d.pass)
    → HasEndedCall stopped.next (free stopped.block.place stopped.block.need) reply.Freed e.pass → KeepsMagazines d e → ShowsSame c e
resumed-shows h c d e tries of s ended keeps place =
    hidden-shown e place
    ∙ sym (shown-leaving e.pass (stacks_in e) place)
    ∙ ap (λ (m : Magazines Block). shown e.pass (leaving (stacks_of m.stacks.items)) place) keeps.magazines
    ∙ freed-shown h s.next e.pass s.block (leaving (stacks_in d)) of ended place
    ∙ frees-shown h c.pass s.freed tries s.next (s.block ∷ leaving (stacks_in d)) s.frees place
    ∙ ap (λ (xs : List Block). shown c.pass xs place) (sym s.order)
    ∙ shown-leaving c.pass (stacks_in c) place ∙ sym (hidden-shown c place)
