use Rattle.std.proofs.Common.{◌≡◌, ℕ, ◌<◌, ◌⊎◌, List, Option, Some, None, length, false, true, sym, refl, ap, ◌∙◌, subst, arith, inl, inr, slice_index_or, get_or-set_same, get_or-set_other}
use Rattle.std.proofs.lemmas.Option.{same_Some}
use Rattle.std.specs.Vec.{with_item}
use Rattle.std.specs.Result.{IfErr}
use Rattle.errand_steps.specs.Begins.{IsBusy}
use Rattle.live_heap.specs.Heaps.{HeapFields}
use Rattle.memory_cache.specs.declared.page.Page.{Page}
use Rattle.memory_cache.specs.declared.paged.PagedCache.{PagedCache}
use Rattle.memory_cache.specs.Asking.{HasSettled}
use Rattle.memory_cache.specs.Caches.{IsCache}
use Rattle.memory_cache.specs.Paged.{HasSameOut, IsOut, page_at}
use Rattle.memory_cache.specs.Pages.{AllHome}
use Rattle.memory_cache.proofs.PagedLemmas.{held-block, moved-out, out-refl, out-there, sent-home, takes-in, with_cache}
use Rattle.memory_cache.proofs.TableLemmas.{page-read, table-is, within-table}
use Rattle.memory_cache.proofs.TakenPages.{comes-home, err-first}
use Rattle.memory_cache.proofs.paged.PagedCache.release.Goals as goal
use Rattle.memory_cache.proofs.paged.PagedCache.release.Goals.{then-not-is_whole-via-then-not-is_whole, then-not-is_whole-via-else-not-is_whole+then-not-settled}

pub returns-then-not-is_whole-clause-same : goal.returns-then-not-is_whole-clause-same
returns-then-not-is_whole-clause-same g c =
    let s = c.args.self.now in
    elim c.then-not-is_whole.branch [
      | then-not-is_whole-via-then-not-is_whole w ↦ subst (HasSameOut g.h s) (sym w.self-is) (out-refl g.h s c.requires.1.0)
      | then-not-is_whole-via-else-not-is_whole+then-not-settled w ↦
          let q = w.settled.new.self in
          subst (HasSameOut g.h s) (sym w.self-is)
          (moved-out g.h s (with_cache s q) c.requires.1.0 (subst (λ (x : HeapFields). IsCache x q) c.requires.0 w.settled.ensures.cache) w.settled.ensures.keeps
          w.settled.ensures.only (table-is s (with_cache s q) refl) w.settled.ensures.caller)
    ]

pub returns-then-not-is_whole-clause-stays : goal.returns-then-not-is_whole-clause-stays
returns-then-not-is_whole-clause-stays g c = λ told.
    let s = c.args.self.now in
    let page = c.in-Some-Some.page in
    let at : page_at s c.args.key ≡ Some page =
    sym (c.in-Some-Some.ensures.lookup.4 (omega arith) None ∙ ap (λ (l : List (Option Page)). slice_index_or l c.args.key None) c.deref.ensures.value)
    ∙ c.in-Some-Some.field-0-is in
    let P : PagedCache → Type 0 = λ d. IsBusy d.cache.pass.errand ⊎ ((first : ℕ) × (size : ℕ) × IsOut d first size) in
    elim c.then-not-is_whole.branch [
      | then-not-is_whole-via-then-not-is_whole w ↦
          let out = c.is_whole.ensures.no w.if-not-is_whole.true in
          subst P (sym w.self-is) (inr (out-there g.h s c.args.key page c.requires.1.0 at out.0 out.1 out.2))
      | then-not-is_whole-via-else-not-is_whole+then-not-settled w ↦ subst P (sym w.self-is) (inl (w.settled.ensures.busy w.if-not-settled.true))
    ]

pub into_memory-requires : goal.into_memory-requires
into_memory-requires g c =
    let s = c.args.self.now in
    let page = c.in-Some-Some.page in
    let mine = c.in-Some.page in
    let at : page_at s c.args.key ≡ Some page =
    sym (c.in-Some-Some.ensures.lookup.4 (omega arith) None ∙ ap (λ (l : List (Option Page)). slice_index_or l c.args.key None) c.deref.ensures.value)
    ∙ c.in-Some-Some.field-0-is in
    let within = within-table s.pages.items c.args.key page at in
    let there : page_at s c.args.key ≡ Some mine =
    page-read s c.args.key c.index_mut.result.now within c.index_mut.ensures.value ∙ sym c.take.ensures.value ∙ c.in-Some.is in
    let one : page ≡ mine = same_Some page mine (sym at ∙ there) in
    ((c.requires.1.0.pages c.args.key mine there).page, subst AllHome one (c.is_whole.ensures.yes c.if-not-is_whole.false))

pub give-requires-clause-held : goal.give-requires-clause-held
give-requires-clause-held g c =
    let s = c.args.self.now in
    let page = c.in-Some-Some.page in
    let mine = c.in-Some.page in
    let at : page_at s c.args.key ≡ Some page =
    sym (c.in-Some-Some.ensures.lookup.4 (omega arith) None ∙ ap (λ (l : List (Option Page)). slice_index_or l c.args.key None) c.deref.ensures.value)
    ∙ c.in-Some-Some.field-0-is in
    let within = within-table s.pages.items c.args.key page at in
    let there : page_at s c.args.key ≡ Some mine =
    page-read s c.args.key c.index_mut.result.now within c.index_mut.ensures.value ∙ sym c.take.ensures.value ∙ c.in-Some.is in
    let w = c.requires.1.0.pages c.args.key mine there in
    let block = c.into_memory.ensures.block in
    held-block c.settled.new.self w.memory c.into_memory.result (w.of.0 ∙ sym block.0) (w.of.1 ∙ sym block.1) (c.settled.ensures.keeps w.memory w.held)

pub returns-clause-same : goal.returns-clause-same
returns-clause-same g c =
    let s = c.args.self.now in
    let k = c.args.key in
    let page = c.in-Some-Some.page in
    let mine = c.in-Some.page in
    let q = c.settled.new.self in
    let m = c.into_memory.result in
    let at : page_at s k ≡ Some page =
    sym (c.in-Some-Some.ensures.lookup.4 (omega arith) None ∙ ap (λ (l : List (Option Page)). slice_index_or l k None) c.deref.ensures.value)
    ∙ c.in-Some-Some.field-0-is in
    let within : k < length s.pages.items = within-table s.pages.items k page at in
    let there : page_at s k ≡ Some mine =
    page-read s k c.index_mut.result.now within c.index_mut.ensures.value ∙ sym c.take.ensures.value ∙ c.in-Some.is in
    let home : AllHome mine = subst AllHome (same_Some page mine (sym at ∙ there)) (c.is_whole.ensures.yes c.if-not-is_whole.false) in
    let d : PagedCache = record { cache = c.give.new.self; pages = with_item s.pages k c.take.new.self; ready = s.ready; hits = s.hits; alloc = s.alloc } in
    let done : IfErr c.give.result (λ back. ⊥) =
    comes-home q m c.give.result (inr (c.settled.ensures.idle c.if-not-settled.false)) (λ room. (c.give.ensures.kept room).0)
    (err-first c.give.result (IsBusy q.pass.errand) (HasSettled c.args.heap.now q.pass c.args.tries false c.give.new.self.pass) c.give.ensures.cause) in
    sent-home g.h s d q k mine m c.give.result c.requires.1.0 there home c.into_memory.ensures.block.0 c.settled.ensures.keeps c.settled.ensures.only
    (subst (λ (x : HeapFields). IsCache x c.give.new.self) c.requires.0 c.give.ensures.cache) c.give.ensures.keeps c.give.ensures.only done
    (get_or-set_same s.pages.items k c.take.new.self None within ∙ c.take.ensures.after)
    (λ j ne. get_or-set_other s.pages.items k j c.take.new.self None ne) (c.give.ensures.caller ∙ c.settled.ensures.caller)

pub returns-clause-sends : goal.returns-clause-sends
returns-clause-sends g c = λ whole.
    let s = c.args.self.now in
    let k = c.args.key in
    let mine = c.in-Some.page in
    let q = c.settled.new.self in
    let m = c.into_memory.result in
    let at : page_at s k ≡ Some c.in-Some-Some.page =
    sym (c.in-Some-Some.ensures.lookup.4 (omega arith) None ∙ ap (λ (l : List (Option Page)). slice_index_or l k None) c.deref.ensures.value)
    ∙ c.in-Some-Some.field-0-is in
    let within : k < length s.pages.items = within-table s.pages.items k c.in-Some-Some.page at in
    let there : page_at s k ≡ Some mine =
    page-read s k c.index_mut.result.now within c.index_mut.ensures.value ∙ sym c.take.ensures.value ∙ c.in-Some.is in
    let done : IfErr c.give.result (λ back. ⊥) =
    comes-home q m c.give.result (inr (c.settled.ensures.idle c.if-not-settled.false)) (λ room. (c.give.ensures.kept room).0)
    (err-first c.give.result (IsBusy q.pass.errand) (HasSettled c.args.heap.now q.pass c.args.tries false c.give.new.self.pass) c.give.ensures.cause) in
    inr
    (record {
      page = mine;
      there = there;
      gone = get_or-set_same s.pages.items k c.take.new.self None within ∙ c.take.ensures.after;
      memory = m;
      of = c.into_memory.ensures.block;
      settled = q;
      has_settled = (
        subst (λ (x : HeapFields). HasSettled x s.cache.pass c.args.tries true q.pass) c.requires.0
            (subst (λ b. HasSettled c.args.heap.now s.cache.pass c.args.tries b q.pass) c.if-not-settled.false c.settled.ensures.tells),
        c.settled.ensures.same,
      );
      taken = takes-in c.args.heap.now g.h q m c.args.tries c.give.result c.give.new.self c.requires.0 done c.give.ensures.kept c.give.ensures.sent;
    })

pub returns-clause-behind : goal.returns-clause-behind
returns-clause-behind g c =
    let s = c.args.self.now in
    let at : page_at s c.args.key ≡ Some c.in-Some-Some.page =
    sym (c.in-Some-Some.ensures.lookup.4 (omega arith) None ∙ ap (λ (l : List (Option Page)). slice_index_or l c.args.key None) c.deref.ensures.value)
    ∙ c.in-Some-Some.field-0-is in
    inr
    (returns-clause-sends g c
    (record { page = c.in-Some-Some.page; there = at; home = c.is_whole.ensures.yes c.if-not-is_whole.false }))
