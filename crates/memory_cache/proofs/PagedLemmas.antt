-- A paged cache, through what is done with its pages.
use Rattle.std.proofs.Common.{ℕ, ◌≡◌, ◌≢◌, ◌+◌, ◌-◌, ◌*◌, ◌/◌, ◌%◌, ◌^◌, ◌<◌, ◌≤◌, List, [], Option, Some, None, Result, Ok, false, true, length, slice_index_or, refl, sym, ap, subst, ◌∙◌, arith, inl, inr}
use Rattle.std.specs.Prelude.{All, IfOk, slice_set}
use Rattle.std.specs.Result.{IfErr}
use Rattle.std.specs.Vec.{with_item}
use Rattle.std.specs.declared.alloc.AllocError.{AllocError}
use Rattle.std.proofs.lemmas.Bool.{cases_eq, cases_lt}
use Rattle.std.proofs.lemmas.List.{get_or_past}
use Rattle.std.proofs.lemmas.Nat.{mul-le}
use Rattle.std.proofs.lemmas.Option.{none-some, same_Some}
use Rattle.heap_geometry.specs.declared.need.Need.{Need}
use Rattle.heap_geometry.specs.Need.{usable_words}
use Rattle.live_heap.specs.declared.answers.AllocAnswer.{AllocAnswer}
use Rattle.live_heap.specs.declared.answers.AllocAnswer.TheVariants as answer
use Rattle.live_heap.specs.Heaps.{HeapFields}
use Rattle.live_heap.specs.Holdings.{HoldsExactly}
use Rattle.live_heap.specs.declared.plain.Memory.{Memory}
use Rattle.memory_cache.specs.declared.cache.MemoryCache.{MemoryCache}
use Rattle.memory_cache.specs.declared.page.Page.{Page}
use Rattle.memory_cache.specs.declared.page.Slot.{Slot}
use Rattle.memory_cache.specs.declared.page.Slot.TheVariants.{Out}
use Rattle.memory_cache.specs.declared.paged.PagedCache.{PagedCache}
use Rattle.memory_cache.specs.declared.piece.Piece.{Piece}
use Rattle.memory_cache.specs.Asking.{HasSettled, LiesElsewhere, SendsHome}
use Rattle.memory_cache.specs.Caches.{HasKept, HasRoom, IsCache, IsHeld, KeepsMagazines, kept_in}
use Rattle.memory_cache.specs.Paged.{ActsBehind, CameOf, GoesBehind, HasAt, HasCut, HasGiven, HasNewPage, HasPut, HasSameOut, HasSamePages, HasTakenIn, HasTold, IsIn, IsLastOut, IsOfPage, IsOtherReady, IsOut, IsOutBy, IsPageOf, IsPaged, IsReadyAt, IsWholeAt, PopsAt, PushesAt, SamePages, TakesBack, page_at, ready_for}
use Rattle.memory_cache.specs.Pages.{AllHome, AreHere, IsNear, IsOutAt, IsPageFor, IsPiece, IsSamePage, count_of, first_of, slot_at}
use Rattle.memory_cache.specs.Sizes.{page_words, piece_words}
use Rattle.memory_cache.proofs.SettledLemmas.{pass-of}
use Rattle.memory_cache.proofs.TableLemmas.{GoesOn, SameTable, at-is, at-keeps, at-only, at-out, at-set, elsewhere-back, elsewhere-keeps, elsewhere-on, elsewhere-only, for-same, last-home, out-on, out-same, page-back, page-on, page-popped, page-pushed, page-read, page-refl, page-same, pages-is, piece-popped, pops-fresh, pops-keeps, pops-only, pops-out, pushes-away, pushes-keeps, pushes-only, put-set, put-then, some-on, table-back, table-on, table-then, within-table}
use Rattle.memory_cache.proofs.TakenPages.{done-with, nothing-taken, taken-one}

-- where no page is, none is
not-some : (o : Option Page) → ((p : Page) → o ≡ Some p → ⊥) → o ≡ None
not-some None none = refl
not-some (Some p) none = absurd (none p refl)

none-back : (o p : Option Page) → SamePages o p → p ≡ None → o ≡ None
none-back None p same none = refl
none-back (Some o) None same none = absurd same
none-back (Some o) (Some p) same none = absurd (none-some p (sym none))

-- the first word of a piece says in which place of the table its page is, and is odd
module _ (size place : ℕ) (need : Need) (k n : ℕ) (for_it : IsPageFor size place need) (there : place ≡ 2048 * k) (below : n < usable_words need / size) where
  pub key-of : (place + n * size + 1) / 2048 ≡ k
  key-of = omega (arith, there, for_it.narrow n below)

  pub odd-of : (place + n * size + 1) % 2 ≡ 1
  odd-of = let even = for_it.even n below in omega (arith, there, even.1)

module _ (h : HeapFields) (c : PagedCache) (k : ℕ) (p : Page) (w : IsPageOf h c k p) where
  within-page : (n : ℕ) → n < count_of p → n < usable_words p.need / p.size
  within-page n within = subst (λ u. n < u) w.page.count within

  pub page-key : (n : ℕ) → n < count_of p → first_of p n / 2048 ≡ k
  page-key n within = key-of p.size p.place p.need k n w.for w.there (within-page n within)

  pub page-odd : (n : ℕ) → n < count_of p → first_of p n % 2 ≡ 1
  page-odd n within = odd-of p.size p.place p.need k n w.for w.there (within-page n within)

  -- a page has few pieces
  pub page-few : count_of p < 2 ^ 16
  page-few =
      elim (cases_lt 0 (count_of p)) [
        | inr none ↦ omega (arith, none)
        | inl some ↦
            let last : count_of p - 1 < count_of p = omega (arith, some) in
            let most : (count_of p - 1) * 1 ≤ (count_of p - 1) * p.size = mul-le (count_of p - 1) 1 (count_of p - 1) p.size (omega arith) (omega (arith, w.page.some)) in
            omega (arith, most, w.for.narrow (count_of p - 1) (within-page (count_of p - 1) last))
      ]

  -- it goes on in another table
  page-goes : (d : PagedCache) (q : Page) → GoesOn h p q → IsHeld d.cache w.memory → IsPageOf h d k q
  page-goes d q g held =
      record {
        page = g.page w.page;
        for = for-same h p q g w.for;
        there = g.place ∙ w.there;
        memory = w.memory;
        of = (w.of.0 ∙ sym g.place, w.of.1 ∙ sym g.need);
        held = held;
      }

-- two pages are in one place of the table where their blocks lie at one place
one-place : (h : HeapFields) (c : PagedCache) (k j : ℕ) (p q : Page) → IsPageOf h c k p → IsPageOf h c j q → p.place ≡ q.place → k ≡ j
one-place h c k j p q w v same = omega (arith, same, w.there, v.there)

-- a cache whose pages go on is one still
module _ (h : HeapFields) (c d : PagedCache) (is : IsPaged h c) (cache : IsCache h d.cache)
    (on : (m : Memory) → IsHeld c.cache m → IsHeld d.cache m) (back : (m : Memory) → IsHeld d.cache m → IsHeld c.cache m) where
  paged-goes :
      ((k : ℕ) (q : Page) → page_at d k ≡ Some q → (p : Page) × (page_at c k ≡ Some p) × GoesOn h p q)
      → ((k : ℕ) (p : Page) → page_at c k ≡ Some p → (q : Page) × (page_at d k ≡ Some q) × GoesOn h p q) → IsPaged h d
  paged-goes came goes =
      record {
        cache = cache;
        pages = λ k q at.
            let b = came k q at in
            let w = is.pages k b.0 b.1 in
            page-goes h c k b.0 w d q b.2 (on w.memory w.held);
        exact = λ m held.
            let e = is.exact m (back m held) in
            let n = goes e.0 e.1 e.2 in
            (e.0, n.0, n.1, (e.3.0 ∙ sym n.2.place, e.3.1 ∙ sym n.2.need));
      }

  pub paged-same : SameTable c d → IsPaged h d
  paged-same table =
      paged-goes
      (λ k q at. let r = table-on d c (table-back c d table) k q at in (r.0, r.1, page-same h r.0 q (page-back q r.0 r.2)))
      (λ k p at. let r = table-on c d table k p at in (r.0, r.1, page-same h p r.0 r.2))

  -- the same is out of it
  pub moved-out : SameTable c d → d.cache.pass.errand.caller ≡ c.cache.pass.errand.caller → HasSameOut h c d
  moved-out table caller =
      record { paged = paged-same table; caller = caller; keeps = out-on c d table; only = out-on d c (table-back c d table) }

caller-on : (c d : PagedCache) → d.cache ≡ c.cache → d.cache.pass.errand.caller ≡ c.cache.pass.errand.caller
caller-on c d same = ap (λ (m : MemoryCache). m.pass.errand.caller) same

cache-on : (h : HeapFields) (c d : PagedCache) → d.cache ≡ c.cache → IsCache h c.cache → IsCache h d.cache
cache-on h c d same is = subst (IsCache h) (sym same) is

held-on : (c d : PagedCache) → d.cache ≡ c.cache → (m : Memory) → IsHeld c.cache m → IsHeld d.cache m
held-on c d same m held = subst (λ (x : MemoryCache). IsHeld x m) (sym same) held

pub same-out : (h : HeapFields) (c d : PagedCache) → IsPaged h c → HasSamePages c d → HasSameOut h c d
same-out h c d is s =
    moved-out h c d is (cache-on h c d s.cache is.cache) (held-on c d s.cache) (held-on d c (sym s.cache)) s.pages (caller-on c d s.cache)

pub out-refl : (h : HeapFields) (c : PagedCache) → IsPaged h c → HasSameOut h c c
out-refl h c is = record { paged = is; caller = refl; keeps = λ first size o. o; only = λ first size o. o }

pub then-out : (h : HeapFields) (c d e : PagedCache) → HasSameOut h c d → HasSameOut h d e → HasSameOut h c e
then-out h c d e s t =
    record {
      paged = t.paged;
      caller = t.caller ∙ s.caller;
      keeps = λ first size o. t.keeps first size (s.keeps first size o);
      only = λ first size o. s.only first size (t.only first size o);
    }

pub then-same : (h : HeapFields) (c d e : PagedCache) → HasSameOut h c d → HasSamePages d e → HasSameOut h c e
then-same h c d e s t = then-out h c d e s (same-out h d e s.paged t)

-- one page goes on in its place
pub paged-at :
    (h : HeapFields) (c : PagedCache) (k : ℕ) (p q : Page) (d : PagedCache) → IsPaged h c → page_at c k ≡ Some p → HasAt c k (Some q) d → GoesOn h p q
    → IsPaged h d
paged-at h c k p q d is at a g =
    paged-goes h c d is (cache-on h c d a.cache is.cache) (held-on c d a.cache) (held-on d c (sym a.cache))
    (λ j r there. elim (cases_eq j k) [
      | inl here ↦
          let o = some-on (page_at d k) q a.now in
          let one : r ≡ o.0 = same_Some r o.0 (sym there ∙ ap (page_at d) here ∙ o.1) in
          (p, ap (page_at c) here ∙ at, subst (GoesOn h p) (sym one) (page-on h p q o.0 g o.2))
      | inr ne ↦ let b = elsewhere-back c k (Some q) d a j r ne there in (b.0, b.1, page-same h b.0 r b.2)
    ])
    (λ j r there. elim (cases_eq j k) [
      | inl here ↦
          let o = some-on (page_at d k) q a.now in
          let one : r ≡ p = same_Some r p (sym there ∙ ap (page_at c) here ∙ at) in
          (o.0, ap (page_at d) here ∙ o.1, subst (λ (x : Page). GoesOn h x o.0) (sym one) (page-on h p q o.0 g o.2))
      | inr ne ↦ let b = elsewhere-on c k (Some q) d a j r ne there in (b.0, b.1, page-same h r b.0 b.2)
    ])

-- a piece of a page that was ready is given
pub told-put :
    (h : HeapFields) (c : PagedCache) (x : Piece) (d : PagedCache) (words tries : ℕ) → IsPaged h c → HasPut c x d → x.size ≡ piece_words words
    → words ≤ piece_words words → HasTold h c words tries (Ok (answer.Given x)) d
told-put h c x d words tries is put size enough =
    let w = is.pages put.k put.page put.there in
    let a = put.changes in
    let pops = put.pops in
    let left : put.left.size ≡ put.page.size = pops.same.size in
    let key : x.first / 2048 ≡ put.k = ap (λ f. f / 2048) pops.first ∙ page-key h c put.k put.page w pops.number pops.within in
    let odd : x.first % 2 ≡ 1 = ap (λ f. f % 2) pops.first ∙ page-odd h c put.k put.page w pops.number pops.within in
    let out : IsOut d x.first x.size =
    subst (IsOut d x.first) (left ∙ sym pops.size)
    (at-out c put.k put.page put.left d put.there a left x.first key (pops-out put.page x put.left pops w.page.some)) in
    let fresh : (long : ℕ) → IsOut c x.first long → ⊥ = λ long o.
    let mine : o.page ≡ put.page = same_Some o.page put.page (sym o.there ∙ ap (page_at c) key ∙ put.there) in
    pops-fresh put.page x put.left pops (subst (λ (y : Page). IsOutAt y x.first) mine o.out) in
    record {
      paged = paged-at h c put.k put.page put.left d is put.there a (page-popped h put.page x put.left pops);
      caller = caller-on c d a.cache;
      given = λ y told.
          let same : x ≡ y = cc in
          let P : Piece → Type 0 = λ z. IsPiece h z × (z.size ≡ piece_words words) × (words ≤ z.size) × IsOut d z.first z.size in
          subst P same (piece-popped h put.page x put.left pops w.page, size, subst (λ n. words ≤ n) (sym size) enough, out);
      aligned = λ y told. let same : x ≡ y = cc in subst (λ (z : Piece). z.first % 2 ≡ 1) same odd;
      fresh = λ y long told o. let same : x ≡ y = cc in fresh long (subst (λ (z : Piece). IsOut c z.first long) (sym same) o);
      keeps = λ first long o.
          at-keeps c put.k put.page put.left d put.there a left first long (pops-keeps put.page x put.left pops first) o;
      only = λ first long o away.
          at-only c put.k put.page put.left d put.there a left first long (pops-only put.page x put.left pops first away) o;
      cause = tt;
    }

-- nothing was given
pub told-none :
    (h : HeapFields) (c d : PagedCache) (words tries : ℕ) (told : Result (AllocAnswer Piece) AllocError) → HasSameOut h c d
    → ((x : Piece) → told ≡ Ok (answer.Given x) → ⊥) → IfOk told (λ a. CameOf h c.cache.pass (page_words words) tries a d.cache.pass)
    → HasTold h c words tries told d
told-none h c d words tries told s none cause =
    record {
      paged = s.paged;
      caller = s.caller;
      given = λ x is. absurd (none x is);
      aligned = λ x is. absurd (none x is);
      fresh = λ x size is o. none x is;
      keeps = s.keeps;
      only = λ first size o away. s.only first size o;
      cause = cause;
    }

-- the cache was given memory, with which it went on to this one
pub record HasMore (h : HeapFields) (c : MemoryCache) (memory : Memory) (q : MemoryCache) : Type 0 where
  pub cache : IsCache h q
  pub caller : q.pass.errand.caller ≡ c.pass.errand.caller
  pub held : IsHeld q memory
  pub keeps : (other : Memory) → IsHeld c other → IsHeld q other
  pub only : (other : Memory) → IsHeld q other → other.block.place ≢ memory.block.place → IsHeld c other
  pub apart : (other : Memory) → IsHeld c other → other.block.place ≢ memory.block.place

pub has-more :
    (heap h : HeapFields) (c q : MemoryCache) (memory : Memory) (result : AllocAnswer Memory) → heap ≡ h → result ≡ answer.Given memory → IsCache heap q
    → q.pass.errand.caller ≡ c.pass.errand.caller → IsHeld q memory → ((other : Memory) → IsHeld c other → IsHeld q other)
    → ((other : Memory) → IsHeld q other → LiesElsewhere result other → IsHeld c other)
    → ((m other : Memory) → result ≡ answer.Given m → IsHeld c other → other.block.place ≢ m.block.place) → HasMore h c memory q
has-more heap h c q memory result at is cache caller held keeps only apart =
    record {
      cache = subst (λ (x : HeapFields). IsCache x q) at cache;
      caller = caller;
      held = held;
      keeps = keeps;
      only = λ other has away. only other has (subst (λ (a : AllocAnswer Memory). LiesElsewhere a other) (sym is) away);
      apart = λ other has. apart memory other is has;
    }

-- none was given: the same is out
pub none-more :
    (heap h : HeapFields) (c d : PagedCache) (result was : AllocAnswer Memory) → heap ≡ h → result ≡ was → IsPaged h c → SameTable c d
    → IsCache heap d.cache → d.cache.pass.errand.caller ≡ c.cache.pass.errand.caller → ((other : Memory) → IsHeld c.cache other → IsHeld d.cache other)
    → ((other : Memory) → IsHeld d.cache other → LiesElsewhere result other → IsHeld c.cache other)
    → ((other : Memory) → LiesElsewhere was other) → HasSameOut h c d
none-more heap h c d result was at told is table cache caller keeps only away =
    moved-out h c d is (subst (λ (x : HeapFields). IsCache x d.cache) at cache) keeps
    (λ other held. only other held (subst (λ (a : AllocAnswer Memory). LiesElsewhere a other) (sym told) (away other))) table caller

-- memory that was taken for a page, but not cut, went back
pub came-back :
    (h : HeapFields) (c b e d : PagedCache) (memory back : Memory) (result : Result (Unit {0}) Memory) → IsPaged h c → HasMore h c.cache memory b.cache
    → SameTable c b → back ≡ memory → HasSamePages b e → IsCache h d.cache → d.cache.pass.errand.caller ≡ e.cache.pass.errand.caller → SameTable e d
    → ((other : Memory) → IsHeld e.cache other → other.block.place ≢ back.block.place → IsHeld d.cache other)
    → ((other : Memory) → IsHeld d.cache other → IsHeld e.cache other × IfOk result (λ done. other.block.place ≢ back.block.place))
    → IfErr result (λ back. ⊥) → HasSameOut h c d
came-back h c b e d memory back result is more table same s cache caller after keeps only done =
    moved-out h c d is cache
    (λ other held. keeps other (held-on b e s.cache other (more.keeps other held)) (λ one. more.apart other held (one ∙ ap (λ (m : Memory). m.block.place) same)))
    (λ other held.
    let o = only other held in
    more.only other (held-on e b (sym s.cache) other o.0)
    (λ one. done-with result (other.block.place ≢ back.block.place) done o.1 (one ∙ ap (λ (m : Memory). m.block.place) (sym same))))
    (table-then c b d table (table-then b e d s.pages after)) (caller ∙ caller-on b e s.cache ∙ more.caller)

-- the page that memory is cut to
module _ (h : HeapFields) (c b d : PagedCache) (memory : Memory) (x : Piece) (is : IsPaged h c) (more : HasMore h c.cache memory b.cache)
    (table : SameTable c b) (for_it : IsPageFor x.size memory.block.place memory.block.need) (new : HasCut h b memory x d) where
  abbrev key : ℕ
  key = memory.block.place / 2048

  there : memory.block.place ≡ 2048 * key
  there = let unit = for_it.aligned in omega (arith, unit.1)

  -- no page was in its place
  nowhere : (p : Page) → page_at c key ≡ Some p → ⊥
  nowhere p at =
      let w = is.pages key p at in
      more.apart w.memory w.held (w.of.0 ∙ w.there ∙ sym there)

  before : (k : ℕ) (p : Page) → page_at b k ≡ Some p → (q : Page) × (page_at c k ≡ Some q) × IsSamePage q p
  before k p at = let r = table-on b c (table-back c b table) k p at in (r.0, r.1, page-back p r.0 r.2)

  left-page : GoesOn h new.cut new.left
  left-page = page-popped h new.cut x new.left new.pops

  changes : HasAt b key (Some new.left) d
  changes = new.changes

  cut-for : IsPageFor new.cut.size new.cut.place new.cut.need
  cut-for =
      let i = new.is_cut in
      subst (λ s. IsPageFor s new.cut.place new.cut.need) (sym i.sized)
      (subst (λ at. IsPageFor x.size at new.cut.need) (sym i.place) (subst (λ (n : Need). IsPageFor x.size memory.block.place n) (sym i.need) for_it))

  now : (q : Page) × (page_at d key ≡ Some q) × IsSamePage new.left q
  now = some-on (page_at d key) new.left changes.now

  now-goes : GoesOn h new.cut now.0
  now-goes = page-on h new.cut new.left now.0 left-page now.2

  now-of : IsOfPage memory now.0
  now-of = (sym (now-goes.place ∙ new.is_cut.place), sym (now-goes.need ∙ new.is_cut.need))

  now-page : IsPageOf h d key now.0
  now-page =
      let g = now-goes in
      let i = new.is_cut in
      record {
        page = g.page new.page;
        for = for-same h new.cut now.0 g cut-for;
        there = g.place ∙ i.place ∙ there;
        memory = memory;
        of = now-of;
        held = held-on b d changes.cache memory more.held;
      }

  other-page : (k : ℕ) (r : Page) → k ≢ key → page_at d k ≡ Some r → IsPageOf h d k r
  other-page k r ne at =
      let e = elsewhere-back b key (Some new.left) d changes k r ne at in
      let o = before k e.0 e.1 in
      let w = is.pages k o.0 o.1 in
      page-goes h c k o.0 w d r (page-on h o.0 e.0 r (page-same h o.0 e.0 o.2) e.2) (held-on b d changes.cache w.memory (more.keeps w.memory w.held))

  cut-paged : IsPaged h d
  cut-paged =
      record {
        cache = cache-on h b d changes.cache more.cache;
        pages = λ k r at. elim (cases_eq k key) [
          | inl here ↦
              let one : now.0 ≡ r = same_Some now.0 r (sym now.1 ∙ ap (page_at d) (sym here) ∙ at) in
              let P : ℕ → Page → Type 0 = λ j q. IsPageOf h d j q in
              subst (λ j. P j r) (sym here) (subst (P key) one now-page)
          | inr ne ↦ other-page k r ne at
        ];
        exact = λ m held.
            let mine = held-on d b (sym changes.cache) m held in
            elim (cases_eq m.block.place memory.block.place) [
              | inl same ↦
                  let need : m.block.need ≡ memory.block.need =
                  taken-one h b.cache.pass m memory (pass-of h b.cache.pass more.cache.pass) mine.0 more.held.0 same in
                  (key, now.0, now.1, (same ∙ now-of.0, need ∙ now-of.1))
              | inr away ↦
                  let e = is.exact m (more.only m mine away) in
                  let o = table-on c b table e.0 e.1 e.2 in
                  let ne : e.0 ≢ key = λ here. nowhere e.1 (ap (page_at c) (sym here) ∙ e.2) in
                  let r = elsewhere-on b key (Some new.left) d changes e.0 o.0 ne o.1 in
                  (e.0, r.0, r.1, (e.3.0 ∙ sym (r.2.place ∙ o.2.place), e.3.1 ∙ sym (r.2.need ∙ o.2.need)))
            ];
      }

  -- its first piece
  first-number : new.pops.number < usable_words new.cut.need / new.cut.size
  first-number = subst (λ u. new.pops.number < u) new.page.count new.pops.within

  first-key : x.first / 2048 ≡ key
  first-key =
      ap (λ f. f / 2048) new.pops.first
      ∙ key-of new.cut.size new.cut.place new.cut.need key new.pops.number cut-for (new.is_cut.place ∙ there) first-number

  first-odd : x.first % 2 ≡ 1
  first-odd =
      ap (λ f. f % 2) new.pops.first
      ∙ odd-of new.cut.size new.cut.place new.cut.need key new.pops.number cut-for (new.is_cut.place ∙ there) first-number

  first-out : IsOut d x.first x.size
  first-out =
      record {
        page = now.0;
        there = ap (page_at d) first-key ∙ now.1;
        out = out-same new.left now.0 x.first now.2 (pops-out new.cut x new.left new.pops new.page.some);
        sized = now.2.size ∙ new.pops.same.size ∙ sym new.pops.size;
      }

  new-keeps : (first size : ℕ) → IsOut c first size → IsOut d first size
  new-keeps first size o =
      elsewhere-keeps b key (Some new.left) d changes first size (λ here. nowhere o.page (ap (page_at c) (sym here) ∙ o.there)) (out-on c b table first size o)

  new-only : (first size : ℕ) → first ≢ x.first → IsOut d first size → IsOut c first size
  new-only first size away o =
      elim (cases_eq (first / 2048) key) [
        | inl here ↦
            let mine : o.page ≡ now.0 = same_Some o.page now.0 (sym o.there ∙ ap (page_at d) here ∙ now.1) in
            let out : IsOutAt new.left first =
            out-same now.0 new.left first (page-back new.left now.0 now.2) (subst (λ (q : Page). IsOutAt q first) mine o.out) in
            let was : IsOutAt new.cut first = pops-only new.cut x new.left new.pops first away out in
            absurd (new.is_cut.home was.number was.within was.out)
        | inr ne ↦ out-on b c (table-back c b table) first size (elsewhere-only b key (Some new.left) d changes first size ne o)
      ]

  -- it is given
  pub told-cut : (words tries : ℕ) → x.size ≡ piece_words words → words ≤ piece_words words → HasTold h c words tries (Ok (answer.Given x)) d
  told-cut words tries size enough =
      record {
        paged = cut-paged;
        caller = caller-on b d changes.cache ∙ more.caller;
        given = λ y told.
            let same : x ≡ y = cc in
            let P : Piece → Type 0 = λ z. IsPiece h z × (z.size ≡ piece_words words) × (words ≤ z.size) × IsOut d z.first z.size in
            subst P same (piece-popped h new.cut x new.left new.pops new.page, size, subst (λ n. words ≤ n) (sym size) enough, first-out);
        aligned = λ y told. let same : x ≡ y = cc in subst (λ (z : Piece). z.first % 2 ≡ 1) same first-odd;
        fresh = λ y long told o.
            let same : x ≡ y = cc in
            let was : IsOut c x.first long = subst (λ (z : Piece). IsOut c z.first long) (sym same) o in
            nowhere was.page (ap (page_at c) (sym first-key) ∙ was.there);
        keeps = new-keeps;
        only = λ first long o away. new-only first long away o;
        cause = tt;
      }

  -- it is of a new page
  pub new-page : (words tries : ℕ) → HasGiven h c.cache (page_words words) tries memory b.cache → HasNewPage h c words tries x.first d
  new-page words tries given =
      record {
        memory = memory;
        given = subst (λ (q : MemoryCache). HasGiven h c.cache (page_words words) tries memory q) (sym changes.cache) given;
        page = now.0;
        none = ap (page_at c) first-key ∙ not-some (page_at c key) nowhere;
        now = ap (page_at d) first-key ∙ now.1;
        of = now-of;
      }

-- a page whose pieces are all home is gone, and its block with it
module _ (h : HeapFields) (c d : PagedCache) (k : ℕ) (p : Page) (m : Memory) (is : IsPaged h c) (at : page_at c k ≡ Some p) (home : AllHome p)
    (block : m.block.place ≡ p.place) (cache : IsCache h d.cache)
    (on : (other : Memory) → IsHeld c.cache other → other.block.place ≢ m.block.place → IsHeld d.cache other)
    (back : (other : Memory) → IsHeld d.cache other → IsHeld c.cache other × (other.block.place ≢ m.block.place)) (gone : page_at d k ≡ None)
    (others : (j : ℕ) → j ≢ k → page_at d j ≡ page_at c j) where
  not-gone : (j : ℕ) (r : Page) → page_at d j ≡ Some r → j ≢ k
  not-gone j r there = λ here. none-some r (sym gone ∙ ap (page_at d) (sym here) ∙ there)

  out-elsewhere : (first size : ℕ) → IsOut c first size → first / 2048 ≢ k
  out-elsewhere first size o = λ here.
      let mine : o.page ≡ p = same_Some o.page p (sym o.there ∙ ap (page_at c) here ∙ at) in
      let out : IsOutAt p first = subst (λ (q : Page). IsOutAt q first) mine o.out in
      home out.number out.within out.out

  pub released-out : d.cache.pass.errand.caller ≡ c.cache.pass.errand.caller → HasSameOut h c d
  released-out caller =
      let here = is.pages k p at in
      record {
        paged = record {
          cache = cache;
          pages = λ j r there.
              let ne = not-gone j r there in
              let w = is.pages j r (sym (others j ne) ∙ there) in
              let away : w.memory.block.place ≢ m.block.place = λ same. ne (one-place h c j k r p w here (sym w.of.0 ∙ same ∙ block)) in
              page-goes h c j r w d r (page-same h r r (page-refl r)) (on w.memory w.held away);
          exact = λ other held.
              let b = back other held in
              let e = is.exact other b.0 in
              let ne : e.0 ≢ k = λ same.
              let one : e.1 ≡ p = same_Some e.1 p (sym e.2 ∙ ap (page_at c) same ∙ at) in
              b.1 (e.3.0 ∙ ap (λ (q : Page). q.place) one ∙ sym block) in
              (e.0, e.1, others e.0 ne ∙ e.2, e.3);
        };
        caller = caller;
        keeps = λ first size o.
            record { page = o.page; there = others (first / 2048) (out-elsewhere first size o) ∙ o.there; out = o.out; sized = o.sized };
        only = λ first size o.
            record { page = o.page; there = sym (others (first / 2048) (not-gone (first / 2048) o.page o.there)) ∙ o.there; out = o.out; sized = o.sized };
      }

-- a piece of a page that is out is out of the cache
pub out-there :
    (h : HeapFields) (c : PagedCache) (k : ℕ) (p : Page) → IsPaged h c → page_at c k ≡ Some p → (n : ℕ) → n < count_of p → slot_at p n ≡ Out
    → (first : ℕ) × (size : ℕ) × IsOut c first size
out-there h c k p is at n within out =
    let w = is.pages k p at in (
      first_of p n,
      p.size,
      record {
        page = p;
        there = ap (page_at c) (page-key h c k p w n within) ∙ at;
        out = record { some = w.page.some; number = n; within = within; out = out; there = refl };
        sized = refl;
      },
    )

pub takes-then : (h : HeapFields) (c : PagedCache) (gone : ℕ) (d e : PagedCache) → TakesBack h c gone d → HasSameOut h d e → TakesBack h c gone e
takes-then h c gone d e t s =
    record {
      paged = s.paged;
      caller = s.caller ∙ t.caller;
      keeps = λ first size o away. s.keeps first size (t.keeps first size o away);
      only = λ first size o. t.only first size (s.only first size o);
    }

pub takes-back :
    (h : HeapFields) (c d : PagedCache) (before after : Option Page) (x : Piece) → IsPaged h c → IsPiece h x → IsOut c x.first x.size
    → page_at c (x.first / 2048) ≡ before → PushesAt before x after → d.cache ≡ c.cache → d.pages.items ≡ slice_set c.pages.items (x.first / 2048) after
    → TakesBack h c x.first d
takes-back h c d before after x is piece o at came cache items =
    let k = x.first / 2048 in
    let p = came.page in
    let q = came.left in
    let pushes = came.pushes in
    let there : page_at c k ≡ Some p = at ∙ came.there in
    let mine : o.page ≡ p = same_Some o.page p (sym o.there ∙ there) in
    let size : p.size ≡ x.size = ap (λ (y : Page). y.size) (sym mine) ∙ o.sized in
    let a : HasAt c k (Some q) d =
    subst (λ (y : Option Page). HasAt c k y d) came.now (at-set c d k after (within-table c.pages.items k p there) cache items) in
    let left : q.size ≡ p.size = pushes.same.size in
    let words : AreHere h x.first p.size x.words = subst (λ s. AreHere h x.first s x.words) (sym size) piece in
    record {
      paged = paged-at h c k p q d is there a (page-pushed h p x q pushes words);
      caller = caller-on c d cache;
      keeps = λ first long out away. at-keeps c k p q d there a left first long (pushes-keeps p x q pushes first away) out;
      only = λ first long out. (
        at-only c k p q d there a left first long (pushes-only p x q pushes first) out,
        λ same. pushes-away p x q pushes
            (at-is c k p q d there a left x.first long refl (subst (λ f. IsOut d f long) same out)),
      );
    }

-- each piece of a page is home where the last that was out came back
pub pushed-whole :
    (h : HeapFields) (c : PagedCache) (x : Piece) (before after : Option Page) → IsPaged h c → page_at c (x.first / 2048) ≡ before → PushesAt before x after
    → IsLastOut c x.first → (q : Page) × (after ≡ Some q) × AllHome q
pushed-whole h c x before after is read came last =
    let k : ℕ = x.first / 2048 in
    let p = came.page in
    let there : page_at c k ≡ Some p = read ∙ came.there in
    let one : last.page ≡ p = same_Some last.page p (sym last.there ∙ there) in
    let w = is.pages k p there in
    let Last : Page → Type 0 = λ y. (n : ℕ) → n < count_of y → first_of y n ≢ x.first → slot_at y n ≢ Out in
    (came.left, came.now, last-home p x came.left came.pushes w.page.some (subst Last one last.last))

-- another page that is ready stands in the table
pub ready-within : (c : PagedCache) (k size : ℕ) → IsOtherReady c k size → ready_for c size < length c.pages.items
ready-within c k size other = within-table c.pages.items (ready_for c size) other.1 other.2

-- a piece that is out by its number is out
pub out-by : (h : HeapFields) (c : PagedCache) (number first size : ℕ) → IsPaged h c → IsOutBy c number first size → IsOut c first size
out-by h c number first size is o =
    let page = is.pages (first / 2048) o.page o.there in
    record {
      page = o.page;
      there = o.there;
      out = record { some = page.page.some; number = number; within = o.out.within; out = o.out.out; there = o.out.there };
      sized = o.sized;
    }

-- a page in the table has its pieces near
pub page-near : (h : HeapFields) (c : PagedCache) (k : ℕ) (p : Page) → IsPaged h c → page_at c k ≡ Some p → IsNear p
page-near h c k p is at =
    let w = is.pages k p at in
    record { some = w.page.some; narrow = λ number within. w.for.narrow number (within-page h c k p w number within) }

-- with no page in the table nothing is held
pub nothing-held :
    (h : HeapFields) (c : PagedCache) → IsPaged h c → ((k : ℕ) → k < length c.pages.items → page_at c k ≡ None) → (m : Memory) → IsHeld c.cache m → ⊥
nothing-held h c is none m held =
    let e = is.exact m held in
    elim (cases_lt e.0 (length c.pages.items)) [
      | inl within ↦ none-some e.1 (sym (none e.0 within) ∙ e.2)
      | inr past ↦ none-some e.1 (sym (get_or_past c.pages.items e.0 None past) ∙ e.2)
    ]

-- a cache with an empty table, whose pass holds nothing
pub opened :
    (h : HeapFields) (c : PagedCache) → IsCache h c.cache → HoldsExactly c.cache.pass [] → c.pages.items ≡ [] → IsPaged h c
opened h c cache exact empty =
    record {
      cache = cache;
      pages = λ k p at. absurd (none-some p (sym (ap (λ (l : List (Option Page)). slice_index_or l k None) empty) ∙ at));
      exact = λ m held. absurd (nothing-taken h c.cache.pass m (pass-of h c.cache.pass cache.pass) exact held.0);
    }

-- a block is held whatever its words are
pub held-block : (c : MemoryCache) (m n : Memory) → m.block.place ≡ n.block.place → m.block.need ≡ n.block.need → IsHeld c m → IsHeld c n
held-block c m n place need held =
    let t = held.0 in (
      (t.0, t.1, t.2, t.3 ∙ place, t.4 ∙ need),
      subst (λ at. All (λ (other : Memory). other.block.place ≢ at) (kept_in c)) place held.1,
    )

-- the block of a page whose pieces are all home is given back
pub sent-home :
    (h : HeapFields) (c d : PagedCache) (q : MemoryCache) (k : ℕ) (p : Page) (m : Memory) (result : Result (Unit {0}) Memory) → IsPaged h c
    → page_at c k ≡ Some p → AllHome p → m.block.place ≡ p.place → ((other : Memory) → IsHeld c.cache other → IsHeld q other)
    → ((other : Memory) → IsHeld q other → IsHeld c.cache other) → IsCache h d.cache
    → ((other : Memory) → IsHeld q other → other.block.place ≢ m.block.place → IsHeld d.cache other)
    → ((other : Memory) → IsHeld d.cache other → IsHeld q other × IfOk result (λ done. other.block.place ≢ m.block.place))
    → IfErr result (λ back. ⊥) → page_at d k ≡ None → ((j : ℕ) → j ≢ k → page_at d j ≡ page_at c j)
    → d.cache.pass.errand.caller ≡ c.cache.pass.errand.caller → HasSameOut h c d
sent-home h c d q k p m result is at home block on back cache keeps only done gone others caller =
    released-out h c d k p m is at home block cache (λ other held away. keeps other (on other held) away)
    (λ other held.
    let o = only other held in
    (back other o.0, done-with result (other.block.place ≢ m.block.place) done o.1))
    gone others caller

-- the same cache is behind, and what is in one place of the table is of the same block
pub record IsSameBehind (c : PagedCache) (k : ℕ) (d : PagedCache) : Type 0 where
  pub cache : d.cache ≡ c.cache
  pub page : (q : Page) → page_at d k ≡ Some q → (p : Page) × (page_at c k ≡ Some p) × (q.place ≡ p.place) × (q.need ≡ p.need)

pub same-behind : (c d : PagedCache) (k : ℕ) → HasSamePages c d → IsSameBehind c k d
same-behind c d k s =
    record {
      cache = s.cache;
      page = λ q at. let r = table-on d c (table-back c d s.pages) k q at in (r.0, r.1, sym r.2.place, sym r.2.need);
    }

pub pushed-behind : (c d : PagedCache) (k : ℕ) (p q : Page) → d.cache ≡ c.cache → page_at c k ≡ Some p → page_at d k ≡ Some q → q.place ≡ p.place → q.need ≡ p.need → IsSameBehind c k d
pushed-behind c d k p q cache there now place need =
    record {
      cache = cache;
      page = λ r at.
          let one : q ≡ r = same_Some q r (sym now ∙ at) in
          (p, there, ap (λ (x : Page). x.place) (sym one) ∙ place, ap (λ (x : Page). x.need) (sym one) ∙ need);
    }

-- what was done behind, seen from before and after such changes
pub acts-through :
    (h : HeapFields) (c b d e : PagedCache) (k tries : ℕ) → IsSameBehind c k b → ActsBehind h b k tries d → HasSamePages d e → ActsBehind h c k tries e
acts-through h c b d e k tries s acts t =
    let From : MemoryCache → MemoryCache → Type 0 = λ q r. HasSettled h q.pass tries false r.pass × KeepsMagazines q r in
    elim acts [
      | inl busy ↦ inl (subst (λ (q : MemoryCache). From q e.cache) s.cache (subst (From b.cache) (sym t.cache) busy))
      | inr sent ↦
          let p = s.page sent.page sent.there in
          inr
          (record {
            page = p.0;
            there = p.1;
            gone = none-back (page_at e k) (page_at d k) (table-back d e t.pages k) sent.gone;
            memory = sent.memory;
            of = (sent.of.0 ∙ p.2, sent.of.1 ∙ p.3);
            settled = sent.settled;
            has_settled = subst (λ (q : MemoryCache). HasSettled h q.pass tries true sent.settled.pass × KeepsMagazines q sent.settled) s.cache sent.has_settled;
            taken = subst (HasTakenIn h sent.settled sent.memory tries) (sym t.cache) sent.taken;
          })
    ]

pub behind-through :
    (h : HeapFields) (c b d e : PagedCache) (k tries : ℕ) → IsSameBehind c k b → GoesBehind h b k tries d → HasSamePages d e → GoesBehind h c k tries e
behind-through h c b d e k tries s g t =
    elim g [
      | inl same ↦ inl (t.cache ∙ same ∙ s.cache)
      | inr acts ↦ inr (acts-through h c b d e k tries s acts t)
    ]

-- a page that is whole is so behind a change of hints
pub whole-on : (c d : PagedCache) (k : ℕ) → HasSamePages c d → IsWholeAt c k → IsWholeAt d k
whole-on c d k s w =
    let r = table-on c d s.pages k w.page w.there in
    let slots = r.2.slots in
    record {
      page = r.0;
      there = r.1;
      home = λ n within.
          subst (λ (l : List Slot). slice_index_or l n Out ≢ Out) (sym slots) (w.home n (subst (λ (l : List Slot). n < length l) slots within));
    }

-- what the cache behind took back, in its own words
pub takes-in :
    (heap h : HeapFields) (c : MemoryCache) (memory : Memory) (tries : ℕ) (result : Result (Unit {0}) Memory) (d : MemoryCache) → heap ≡ h
    → IfErr result (λ back. ⊥) → (HasRoom c memory.block.need → IfErr result (λ back. ⊥) × HasKept c memory d)
    → ((¬ HasRoom c memory.block.need) → IfOk result (λ done. SendsHome heap c.pass memory tries d.pass) × KeepsMagazines c d) → HasTakenIn h c memory tries d
takes-in heap h c memory tries result d at done kept sent =
    subst (λ (x : HeapFields). HasTakenIn x c memory tries d) at
    (record {
      kept = λ room. (kept room).1;
      sent = λ full. let s = sent full in (done-with result (SendsHome heap c.pass memory tries d.pass) done s.0, s.1);
    })

-- the same cache with its inner one gone on, and with hits
abbrev pub with_cache : PagedCache → MemoryCache → PagedCache
with_cache c q = record { cache = q; pages = c.pages; ready = c.ready; hits = c.hits; alloc = c.alloc }

abbrev pub with_hits : PagedCache → ℕ → PagedCache
with_hits c n = record { cache = c.cache; pages = c.pages; ready = c.ready; hits = n; alloc = c.alloc }

-- a piece that is served counts as a hit
pub told-served :
    (h : HeapFields) (c : PagedCache) (x : Piece) (d : PagedCache) (n words asked tries : ℕ) → IsPaged h c → HasPut c x d × (x.size ≡ asked)
    → asked ≡ piece_words words → words ≤ asked → HasTold h c words tries (Ok (answer.Given x)) (with_hits d n)
told-served h c x d n words asked tries is put sized enough =
    told-put h c x (with_hits d n) words tries is (put-then c x d (with_hits d n) put.0 (pages-is d (with_hits d n) refl refl)) (put.1 ∙ sized)
    (subst (λ k. words ≤ k) sized enough)

-- the same cache with another page in one place of the table
abbrev pub with_page : PagedCache → ℕ → Option Page → PagedCache
with_page c k page = record { cache = c.cache; pages = with_item c.pages k page; ready = c.ready; hits = c.hits; alloc = c.alloc }

pub popped-put :
    (c : PagedCache) (x : Piece) (k size : ℕ) (before after : Option Page) → IsReadyAt c k size → before ≡ slice_index_or c.pages.items k before
    → PopsAt before x after → HasPut c x (with_page c k after) × (x.size ≡ size)
popped-put c x k size before after ready read came =
    let there : page_at c k ≡ before = page-read c k before (within-table c.pages.items k ready.page ready.there) read in
    let one : ready.page ≡ came.page = same_Some ready.page came.page (sym ready.there ∙ there ∙ came.there) in (
      put-set c (with_page c k after) k before after x there came refl refl,
      came.pops.size ∙ ap (λ (p : Page). p.size) (sym one) ∙ ready.sized,
    )

-- its page was there
pub popped-in : (h : HeapFields) (c : PagedCache) (x : Piece) (d : PagedCache) → IsPaged h c → HasPut c x d → IsIn c x.first x.size
popped-in h c x d is put =
    let pops = put.pops in
    let key : x.first / 2048 ≡ put.k =
    ap (λ f. f / 2048) pops.first ∙ page-key h c put.k put.page (is.pages put.k put.page put.there) pops.number pops.within in
    record { page = put.page; there = ap (page_at c) key ∙ put.there; sized = sym pops.size }

pub taken-in :
    (h : HeapFields) (c : PagedCache) (x : Piece) (before after : Option Page) → IsPaged h c → IsPiece h x → IsOut c x.first x.size
    → before ≡ slice_index_or c.pages.items (x.first / 2048) before → PushesAt before x after
    → TakesBack h c x.first (with_page c (x.first / 2048) after)
taken-in h c x before after is piece o read came =
    let k = x.first / 2048 in
    takes-back h c (with_page c k after) before after x is piece o (page-read c k before (within-table c.pages.items k o.page o.there) read) came refl refl
