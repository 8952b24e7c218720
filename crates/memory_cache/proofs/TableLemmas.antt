-- Pages in the table of a paged cache, and what is out of them.
use Rattle.std.proofs.Common.{ℕ, ◌≡◌, ◌≢◌, ◌+◌, ◌-◌, ◌*◌, ◌/◌, ◌<◌, List, Option, Some, None, length, refl, sym, ap, subst, ◌∙◌, arith, inl, inr, slice_index_or, get_or-set_same, get_or-set_other}
use Rattle.std.specs.Prelude.{slice_set}
use Rattle.std.proofs.lemmas.Bool.{cases_eq, cases_lt}
use Rattle.std.proofs.lemmas.List.{get_or_default, get_or_past, length-set}
use Rattle.std.proofs.lemmas.Nat.{same_from_place}
use Rattle.std.proofs.lemmas.Option.{none-some, same_Some}
use Rattle.heap_geometry.specs.declared.need.Need.{Need}
use Rattle.heap_geometry.specs.Need.{IsNeed, usable_words}
use Rattle.plain_words.specs.declared.plain.PlainWords.{PlainWords}
use Rattle.plain_words.specs.Places.{AllHere}
use Rattle.live_heap.specs.Heaps.{HeapFields}
use Rattle.live_heap.specs.declared.plain.Memory.{Memory}
use Rattle.memory_cache.specs.declared.page.Page.{Page}
use Rattle.memory_cache.specs.declared.page.Slot.{Slot}
use Rattle.memory_cache.specs.declared.page.Slot.TheVariants.{Out, Home}
use Rattle.memory_cache.specs.declared.paged.PagedCache.{PagedCache}
use Rattle.memory_cache.specs.declared.piece.Piece.{Piece}
use Rattle.memory_cache.specs.Paged.{HasAt, HasCut, HasPut, HasSamePages, IsOut, PopsAt, SamePages, page_at}
use Rattle.memory_cache.specs.Pages.{AllHome, AreHere, IsCut, IsOutAt, IsPage, IsPageFor, IsPiece, IsSameBut, IsSamePage, IsSlot, Pops, Pushes, count_of, first_of, slot_at}

-- what a table has lies within it
pub within-table : {A : Type 0} (xs : List (Option A)) (k : ℕ) (x : A) → slice_index_or xs k None ≡ Some x → k < length xs
within-table xs k x at =
    elim (cases_lt k (length xs)) [
      | inl within ↦ within
      | inr past ↦ absurd (none-some x (sym (get_or_past xs k None past) ∙ at))
    ]

-- what was read in the table
pub page-read : (c : PagedCache) (k : ℕ) (o : Option Page) → k < length c.pages.items → o ≡ slice_index_or c.pages.items k o → page_at c k ≡ o
page-read c k o within is = get_or_default c.pages.items k None o within ∙ sym is

-- pages that are the same but for hints
pub page-refl : (p : Page) → IsSamePage p p
page-refl p = record { place = refl; need = refl; size = refl; slots = refl; rest = refl }

pub page-back : (p q : Page) → IsSamePage p q → IsSamePage q p
page-back p q s = record { place = sym s.place; need = sym s.need; size = sym s.size; slots = sym s.slots; rest = sym s.rest }

pub page-then : (p q r : Page) → IsSamePage p q → IsSamePage q r → IsSamePage p r
page-then p q r s t =
    record { place = t.place ∙ s.place; need = t.need ∙ s.need; size = t.size ∙ s.size; slots = t.slots ∙ s.slots; rest = t.rest ∙ s.rest }

pub same-refl : (o : Option Page) → SamePages o o
same-refl None = tt
same-refl (Some p) = page-refl p

pub same-back : (o p : Option Page) → SamePages o p → SamePages p o
same-back None None s = tt
same-back None (Some q) s = absurd s
same-back (Some p) None s = absurd s
same-back (Some p) (Some q) s = page-back p q s

pub same-then : (o p q : Option Page) → SamePages o p → SamePages p q → SamePages o q
same-then None None None s t = tt
same-then None None (Some z) s t = absurd t
same-then None (Some y) q s t = absurd s
same-then (Some x) None q s t = absurd s
same-then (Some x) (Some y) None s t = absurd t
same-then (Some x) (Some y) (Some z) s t = page-then x y z s t

-- where a page is, so is the same one
pub some-on : (o : Option Page) (p : Page) → SamePages (Some p) o → (q : Page) × (o ≡ Some q) × IsSamePage p q
some-on None p s = absurd s
some-on (Some q) p s = (q, refl, s)

-- the words of pieces
firsts : (p q : Page) → q.place ≡ p.place → q.size ≡ p.size → (n : ℕ) → first_of q n ≡ first_of p n
firsts p q place size n = ap (λ x. x + n * q.size + 1) place ∙ ap (λ x. p.place + n * x + 1) size

pub one-number : (p : Page) → 0 < p.size → (m n : ℕ) → first_of p m ≡ first_of p n → m ≡ n
one-number p some m n same = (same_from_place m 0 n 0 p.size some some (omega arith)).0

-- what is out of one page is out of the same page
pub out-same : (p q : Page) (first : ℕ) → IsSamePage p q → IsOutAt p first → IsOutAt q first
out-same p q first s o =
    record {
      some = subst (λ n. 0 < n) (sym s.size) o.some;
      number = o.number;
      within = subst (λ (l : List Slot). o.number < length l) (sym s.slots) o.within;
      out = ap (λ (l : List Slot). slice_index_or l o.number Out) s.slots ∙ o.out;
      there = o.there ∙ sym (firsts p q s.place s.size o.number);
    }

-- a page with one slot changed
module _ (number : ℕ) (slot : Slot) (p q : Page) (same : IsSameBut number slot p q) where
  slot-here : number < count_of p → slot_at q number ≡ slot
  slot-here within = ap (λ (l : List Slot). slice_index_or l number Out) same.slots ∙ get_or-set_same p.slots.items number slot Out within

  slot-other : (n : ℕ) → n ≢ number → slot_at q n ≡ slot_at p n
  slot-other n ne = ap (λ (l : List Slot). slice_index_or l n Out) same.slots ∙ get_or-set_other p.slots.items number n slot Out ne

  count-same : count_of q ≡ count_of p
  count-same = ap (λ (l : List Slot). length l) same.slots ∙ length-set p.slots.items number slot

  -- what is out in another slot is out still, and was
  other-on : (first : ℕ) (o : IsOutAt p first) → o.number ≢ number → IsOutAt q first
  other-on first o ne =
      record {
        some = subst (λ n. 0 < n) (sym same.size) o.some;
        number = o.number;
        within = subst (λ n. o.number < n) (sym count-same) o.within;
        out = slot-other o.number ne ∙ o.out;
        there = o.there ∙ sym (firsts p q same.place same.size o.number);
      }

  other-back : (first : ℕ) (o : IsOutAt q first) → o.number ≢ number → IsOutAt p first
  other-back first o ne =
      record {
        some = subst (λ n. 0 < n) same.size o.some;
        number = o.number;
        within = subst (λ n. o.number < n) count-same o.within;
        out = sym (slot-other o.number ne) ∙ o.out;
        there = o.there ∙ firsts p q same.place same.size o.number;
      }

-- a piece that goes out of a page
module _ (p : Page) (x : Piece) (q : Page) (pops : Pops p x q) where
  pub pops-out : 0 < p.size → IsOutAt q x.first
  pops-out some =
      record {
        some = subst (λ n. 0 < n) (sym pops.same.size) some;
        number = pops.number;
        within = subst (λ n. pops.number < n) (sym (count-same pops.number Out p q pops.same)) pops.within;
        out = slot-here pops.number Out p q pops.same pops.within;
        there = pops.first ∙ sym (firsts p q pops.same.place pops.same.size pops.number);
      }

  pub pops-fresh : IsOutAt p x.first → ⊥
  pops-fresh o =
      let one : o.number ≡ pops.number = one-number p o.some o.number pops.number (sym o.there ∙ pops.first) in
      let out : slot_at p pops.number ≡ Out = subst (λ n. slot_at p n ≡ Out) one o.out in
      let home : slot_at p pops.number ≡ Home x.words pops.next = pops.home in
      cc

  pub pops-keeps : (first : ℕ) → IsOutAt p first → IsOutAt q first
  pops-keeps first o =
      elim (cases_eq o.number pops.number) [
        | inl one ↦ absurd (pops-fresh (subst (IsOutAt p) (o.there ∙ ap (first_of p) one ∙ sym pops.first) o))
        | inr other ↦ other-on pops.number Out p q pops.same first o other
      ]

  pub pops-only : (first : ℕ) → first ≢ x.first → IsOutAt q first → IsOutAt p first
  pops-only first away o =
      other-back pops.number Out p q pops.same first o
      (λ one. away (o.there ∙ firsts p q pops.same.place pops.same.size o.number ∙ ap (first_of p) one ∙ sym pops.first))

home-not-out : (words : PlainWords) (next : ℕ) → Home words next ≢ Out
home-not-out words next same = cc

-- a piece that comes home to a page
module _ (p : Page) (x : Piece) (q : Page) (pushes : Pushes p x q) where
  pub pushes-keeps : (first : ℕ) → first ≢ x.first → IsOutAt p first → IsOutAt q first
  pushes-keeps first away o =
      other-on pushes.number (Home x.words pushes.next) p q pushes.same first o
      (λ one. away (o.there ∙ ap (first_of p) one ∙ sym pushes.first))

  home-number : (first : ℕ) (o : IsOutAt q first) → o.number ≢ pushes.number
  home-number first o = λ one.
      let out : slot_at q pushes.number ≡ Out = subst (λ n. slot_at q n ≡ Out) one o.out in
      let home : slot_at q pushes.number ≡ Home x.words pushes.next = slot-here pushes.number (Home x.words pushes.next) p q pushes.same pushes.within in
      let no : ⊥ = cc in
      no

  pub pushes-only : (first : ℕ) → IsOutAt q first → IsOutAt p first
  pushes-only first o = other-back pushes.number (Home x.words pushes.next) p q pushes.same first o (home-number first o)

  pub pushes-away : IsOutAt q x.first → ⊥
  pushes-away o =
      home-number x.first o
      (one-number q o.some o.number pushes.number (sym o.there ∙ pushes.first ∙ sym (firsts p q pushes.same.place pushes.same.size pushes.number)))

  -- all are home where it was the last that was out
  pub last-home : 0 < p.size → ((n : ℕ) → n < count_of p → first_of p n ≢ x.first → slot_at p n ≢ Out) → AllHome q
  last-home some last n within =
      let slot : Slot = Home x.words pushes.next in
      elim (cases_eq n pushes.number) [
        | inl one ↦ λ out. home-not-out x.words pushes.next (sym (ap (slot_at q) one ∙ slot-here pushes.number slot p q pushes.same pushes.within) ∙ out)
        | inr ne ↦
            let other : slot_at q n ≡ slot_at p n = slot-other pushes.number slot p q pushes.same n ne in
            let was : n < count_of p = subst (λ k. n < k) (count-same pushes.number slot p q pushes.same) within in
            λ out. last n was (λ same. ne (one-number p some n pushes.number (same ∙ pushes.first))) (sym other ∙ out)
      ]

-- the second page lies where the first one lies, with as many words in pieces of the same size, and is a page where that is
pub record GoesOn (h : HeapFields) (p q : Page) : Type 0 where
  pub place : q.place ≡ p.place
  pub need : q.need ≡ p.need
  pub size : q.size ≡ p.size
  pub page : IsPage h p → IsPage h q

-- other slots in a page
page-with :
    (h : HeapFields) (p q : Page) → q.place ≡ p.place → q.need ≡ p.need → q.size ≡ p.size → count_of q ≡ count_of p → q.rest ≡ p.rest
    → ((n : ℕ) → IsSlot h (first_of p n) p.size (slot_at q n)) → IsPage h p → IsPage h q
page-with h p q place need size count rest slots is =
    let used : usable_words q.need ≡ usable_words p.need = ap usable_words need in
    record {
      need = subst IsNeed (sym need) is.need;
      some = subst (λ n. 0 < n) (sym size) is.some;
      fits = omega (arith, is.fits, size, used);
      count = count ∙ is.count ∙ ap (λ u. u / p.size) (sym used) ∙ ap (λ n. usable_words q.need / n) (sym size);
      slots = λ n.
          subst (λ s. IsSlot h (q.place + n * s + 1) s (slot_at q n)) (sym size)
          (subst (λ at. IsSlot h (at + n * p.size + 1) p.size (slot_at q n)) (sym place) (slots n));
      rest = record {
        at = ap (λ (w : PlainWords). w.at) rest ∙ is.rest.at;
        begins = ap (λ (w : PlainWords). w.first) rest ∙ is.rest.begins ∙ ap (λ n. p.place + n * p.size + 1) (sym count) ∙ sym (firsts p q place size (count_of q));
        long = ap (λ (w : PlainWords). length w.places) rest ∙ is.rest.long ∙ ap (λ u. u - count_of p * p.size) (sym used)
            ∙ ap (λ n. usable_words q.need - n * p.size) (sym count) ∙ ap (λ s. usable_words q.need - count_of q * s) (sym size);
        here = subst (λ (w : PlainWords). AllHere w.places) (sym rest) is.rest.here;
      };
    }

pub page-same : (h : HeapFields) (p q : Page) → IsSamePage p q → GoesOn h p q
page-same h p q s =
    record {
      place = s.place;
      need = s.need;
      size = s.size;
      page = λ is. page-with h p q s.place s.need s.size (ap (λ (l : List Slot). length l) s.slots) s.rest
          (λ n. subst (IsSlot h (first_of p n) p.size) (ap (λ (l : List Slot). slice_index_or l n Out) (sym s.slots)) (is.slots n)) is;
    }

pub page-on : (h : HeapFields) (p q r : Page) → GoesOn h p q → IsSamePage q r → GoesOn h p r
page-on h p q r g s =
    record { place = s.place ∙ g.place; need = s.need ∙ g.need; size = s.size ∙ g.size; page = λ is. (page-same h q r s).page (g.page is) }

pub page-popped : (h : HeapFields) (p : Page) (x : Piece) (q : Page) → Pops p x q → GoesOn h p q
page-popped h p x q pops =
    let s = pops.same in
    record {
      place = s.place;
      need = s.need;
      size = s.size;
      page = λ is. page-with h p q s.place s.need s.size (count-same pops.number Out p q s) s.rest
          (λ n. elim (cases_eq n pops.number) [
            | inl here ↦ subst (IsSlot h (first_of p n) p.size) (sym (ap (slot_at q) here ∙ slot-here pops.number Out p q s pops.within)) tt
            | inr other ↦ subst (IsSlot h (first_of p n) p.size) (sym (slot-other pops.number Out p q s n other)) (is.slots n)
          ]) is;
    }

pub page-pushed : (h : HeapFields) (p : Page) (x : Piece) (q : Page) → Pushes p x q → AreHere h x.first p.size x.words → GoesOn h p q
page-pushed h p x q pushes here =
    let s = pushes.same in
    let slot = Home x.words pushes.next in
    record {
      place = s.place;
      need = s.need;
      size = s.size;
      page = λ is. page-with h p q s.place s.need s.size (count-same pushes.number slot p q s) s.rest
          (λ n. elim (cases_eq n pushes.number) [
            | inl one ↦
                let words : AreHere h (first_of p n) p.size x.words =
                subst (λ f. AreHere h f p.size x.words) (pushes.first ∙ ap (first_of p) (sym one)) here in
                subst (IsSlot h (first_of p n) p.size) (sym (ap (slot_at q) one ∙ slot-here pushes.number slot p q s pushes.within)) words
            | inr other ↦ subst (IsSlot h (first_of p n) p.size) (sym (slot-other pushes.number slot p q s n other)) (is.slots n)
          ]) is;
    }

-- a piece that was home has its words
pub piece-popped : (h : HeapFields) (p : Page) (x : Piece) (q : Page) → Pops p x q → IsPage h p → IsPiece h x
piece-popped h p x q pops is =
    let words : AreHere h (first_of p pops.number) p.size x.words = subst (IsSlot h (first_of p pops.number) p.size) pops.home (is.slots pops.number) in
    subst (λ s. AreHere h x.first s x.words) (sym pops.size) (subst (λ f. AreHere h f p.size x.words) (sym pops.first) words)

-- what a page is cut for goes by its numbers
pub for-same :
    (h : HeapFields) (p q : Page) → GoesOn h p q → IsPageFor p.size p.place p.need → IsPageFor q.size q.place q.need
for-same h p q g f =
    subst (λ s. IsPageFor s q.place q.need) (sym g.size)
    (subst (λ at. IsPageFor p.size at q.need) (sym g.place) (subst (λ (n : Need). IsPageFor p.size p.place n) (sym g.need) f))

-- tables with the same pages
abbrev pub SameTable : PagedCache → PagedCache → Type 0
SameTable c d = (k : ℕ) → SamePages (page_at c k) (page_at d k)

pub table-back : (c d : PagedCache) → SameTable c d → SameTable d c
table-back c d s k = same-back (page_at c k) (page_at d k) (s k)

pub table-then : (c d e : PagedCache) → SameTable c d → SameTable d e → SameTable c e
table-then c d e s t k = same-then (page_at c k) (page_at d k) (page_at e k) (s k) (t k)

pub table-is : (c d : PagedCache) → d.pages.items ≡ c.pages.items → SameTable c d
table-is c d is k = subst (λ (l : List (Option Page)). SamePages (page_at c k) (slice_index_or l k None)) (sym is) (same-refl (page_at c k))

pub table-on : (c d : PagedCache) → SameTable c d → (k : ℕ) (p : Page) → page_at c k ≡ Some p → (q : Page) × (page_at d k ≡ Some q) × IsSamePage p q
table-on c d s k p at = some-on (page_at d k) p (subst (λ (o : Option Page). SamePages o (page_at d k)) at (s k))

pub pages-is : (c d : PagedCache) → d.cache ≡ c.cache → d.pages.items ≡ c.pages.items → HasSamePages c d
pages-is c d cache items = record { cache = cache; pages = table-is c d items }

-- what is out by one table is out by the other
pub out-on : (c d : PagedCache) → SameTable c d → (first size : ℕ) → IsOut c first size → IsOut d first size
out-on c d s first size o =
    let r = table-on c d s (first / 2048) o.page o.there in
    record { page = r.0; there = r.1; out = out-same o.page r.0 first r.2 o.out; sized = r.2.size ∙ o.sized }

-- a table with another page in one place
module _ (c : PagedCache) (k : ℕ) (page : Option Page) (d : PagedCache) (a : HasAt c k page d) where
  pub elsewhere-on : (other : ℕ) (p : Page) → other ≢ k → page_at c other ≡ Some p → (q : Page) × (page_at d other ≡ Some q) × IsSamePage p q
  elsewhere-on other p ne at = some-on (page_at d other) p (subst (λ (o : Option Page). SamePages o (page_at d other)) at (a.others other ne))

  pub elsewhere-back : (other : ℕ) (q : Page) → other ≢ k → page_at d other ≡ Some q → (p : Page) × (page_at c other ≡ Some p) × IsSamePage p q
  elsewhere-back other q ne at =
      let r =
      some-on (page_at c other) q
      (subst (λ (o : Option Page). SamePages o (page_at c other)) at (same-back (page_at c other) (page_at d other) (a.others other ne))) in
      (r.0, r.1, page-back q r.0 r.2)

  pub elsewhere-keeps : (first size : ℕ) → first / 2048 ≢ k → IsOut c first size → IsOut d first size
  elsewhere-keeps first size ne o =
      let r = elsewhere-on (first / 2048) o.page ne o.there in
      record { page = r.0; there = r.1; out = out-same o.page r.0 first r.2 o.out; sized = r.2.size ∙ o.sized }

  pub elsewhere-only : (first size : ℕ) → first / 2048 ≢ k → IsOut d first size → IsOut c first size
  elsewhere-only first size ne o =
      let r = elsewhere-back (first / 2048) o.page ne o.there in
      record { page = r.0; there = r.1; out = out-same o.page r.0 first (page-back r.0 o.page r.2) o.out; sized = sym r.2.size ∙ o.sized }

  -- such a table with other hints
  pub at-then : (e : PagedCache) → HasSamePages d e → HasAt c k page e
  at-then e s =
      record {
        now = same-then page (page_at d k) (page_at e k) a.now (s.pages k);
        others = λ other ne. same-then (page_at c other) (page_at d other) (page_at e other) (a.others other ne) (s.pages other);
        cache = s.cache ∙ a.cache;
      }

-- a page in whose place there is another now
module _ (c : PagedCache) (k : ℕ) (p q : Page) (d : PagedCache) (at : page_at c k ≡ Some p) (a : HasAt c k (Some q) d) (size : q.size ≡ p.size) where
  pub at-keeps : (first long : ℕ) → (IsOutAt p first → IsOutAt q first) → IsOut c first long → IsOut d first long
  at-keeps first long on o =
      elim (cases_eq (first / 2048) k) [
        | inl is ↦
            let mine : o.page ≡ p = same_Some o.page p (sym o.there ∙ ap (page_at c) is ∙ at) in
            let r = some-on (page_at d k) q a.now in
            record {
              page = r.0;
              there = ap (page_at d) is ∙ r.1;
              out = out-same q r.0 first r.2 (on (subst (λ (x : Page). IsOutAt x first) mine o.out));
              sized = r.2.size ∙ size ∙ ap (λ (x : Page). x.size) (sym mine) ∙ o.sized;
            }
        | inr ne ↦ elsewhere-keeps c k (Some q) d a first long ne o
      ]

  pub at-only : (first long : ℕ) → (IsOutAt q first → IsOutAt p first) → IsOut d first long → IsOut c first long
  at-only first long back o =
      elim (cases_eq (first / 2048) k) [
        | inl is ↦
            let r = some-on (page_at d k) q a.now in
            let mine : o.page ≡ r.0 = same_Some o.page r.0 (sym o.there ∙ ap (page_at d) is ∙ r.1) in
            record {
              page = p;
              there = ap (page_at c) is ∙ at;
              out = back (out-same r.0 q first (page-back q r.0 r.2) (subst (λ (x : Page). IsOutAt x first) mine o.out));
              sized = sym size ∙ sym r.2.size ∙ ap (λ (x : Page). x.size) (sym mine) ∙ o.sized;
            }
        | inr ne ↦ elsewhere-only c k (Some q) d a first long ne o
      ]

  -- what is out by that place
  pub at-is : (first long : ℕ) → first / 2048 ≡ k → IsOut d first long → IsOutAt q first
  at-is first long is o =
      let r = some-on (page_at d k) q a.now in
      let mine : o.page ≡ r.0 = same_Some o.page r.0 (sym o.there ∙ ap (page_at d) is ∙ r.1) in
      out-same r.0 q first (page-back q r.0 r.2) (subst (λ (x : Page). IsOutAt x first) mine o.out)

  pub at-out : (first : ℕ) → first / 2048 ≡ k → IsOutAt q first → IsOut d first q.size
  at-out first is out =
      let r = some-on (page_at d k) q a.now in
      record { page = r.0; there = ap (page_at d) is ∙ r.1; out = out-same q r.0 first r.2 out; sized = r.2.size }

-- a change behind one of hints
pub then-at : (c g : PagedCache) (k : ℕ) (page : Option Page) (d : PagedCache) → HasSamePages c g → HasAt g k page d → HasAt c k page d
then-at c g k page d s a =
    record {
      now = a.now;
      others = λ other ne. same-then (page_at c other) (page_at g other) (page_at d other) (s.pages other) (a.others other ne);
      cache = a.cache ∙ s.cache;
    }

-- one element of the table changes
pub at-set :
    (c d : PagedCache) (k : ℕ) (now : Option Page) → k < length c.pages.items → d.cache ≡ c.cache → d.pages.items ≡ slice_set c.pages.items k now
    → HasAt c k now d
at-set c d k now within cache items =
    let here : page_at d k ≡ now = ap (λ (l : List (Option Page)). slice_index_or l k None) items ∙ get_or-set_same c.pages.items k now None within in
    record {
      now = subst (SamePages now) (sym here) (same-refl now);
      others = λ other ne.
          let same : page_at d other ≡ page_at c other =
          ap (λ (l : List (Option Page)). slice_index_or l other None) items ∙ get_or-set_other c.pages.items k other now None ne in
          subst (SamePages (page_at c other)) (sym same) (same-refl (page_at c other));
      cache = cache;
    }

pub put-then : (c : PagedCache) (x : Piece) (d e : PagedCache) → HasPut c x d → HasSamePages d e → HasPut c x e
put-then c x d e put s =
    record { k = put.k; page = put.page; left = put.left; there = put.there; pops = put.pops; changes = at-then c put.k (Some put.left) d put.changes e s }

pub put-set :
    (c d : PagedCache) (k : ℕ) (before after : Option Page) (x : Piece) → page_at c k ≡ before → PopsAt before x after → d.cache ≡ c.cache
    → d.pages.items ≡ slice_set c.pages.items k after → HasPut c x d
put-set c d k before after x at pops cache items =
    let there : page_at c k ≡ Some pops.page = at ∙ pops.there in
    record {
      k = k;
      page = pops.page;
      left = pops.left;
      there = there;
      pops = pops.pops;
      changes = subst (λ (o : Option Page). HasAt c k o d) pops.now (at-set c d k after (within-table c.pages.items k pops.page there) cache items);
    }

-- it is laid in the table
pub cut-table :
    (h : HeapFields) (c g e d : PagedCache) (memory : Memory) (x : Piece) (page left : Page) (key : ℕ) → HasSamePages c g → key < length g.pages.items
    → key ≡ memory.block.place / 2048 → IsPage h page → IsCut memory x.size page → Pops page x left → e.cache ≡ g.cache
    → e.pages.items ≡ slice_set g.pages.items key (Some left) → HasSamePages e d → HasCut h c memory x d
cut-table h c g e d memory x page left key grown within is whole cut pops cache items then =
    record {
      cut = page;
      left = left;
      page = whole;
      is_cut = cut;
      pops = pops;
      changes = subst (λ k. HasAt c k (Some left) d) is
          (then-at c g key (Some left) d grown (at-then g key (Some left) e (at-set g e key (Some left) within cache items) d then));
    }
