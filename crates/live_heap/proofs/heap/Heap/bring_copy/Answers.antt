use Rattle.std.proofs.Common.{ℕ, suc, ◌≡◌, ◌≢◌, ◌<◌, ◌-◌, ◌^◌, List, [], ◌∷◌, length, slice_index, refl, sym, ap, ◌∙◌, subst, arith}
use Rattle.std.specs.Prelude.{slice_index_or}
use Rattle.std.proofs.lemmas.List.FromFn.{get_or-map-range_with_len}
use mathlib.Core.Option.{some}
use lib.ListN.{get_elem?}
use Rattle.heap_geometry.specs.Need.{usable_words}
use Rattle.plain_words.specs.Places.{numbers}
use Rattle.atomic_region.specs.Region.{Me}
use Rattle.errand_steps.specs.Begins.{IsIdle}
use Rattle.sound_laws.specs.events.Made.{Copies, LeadsBy, Made, copied}
use Rattle.live_heap.specs.Heaps.{HeapFields}
use Rattle.live_heap.specs.declared.pass.Pass.{Pass}
use Rattle.live_heap.specs.declared.plain.Memory.{Memory}
use Rattle.live_heap.specs.declared.view.Lent.{Lent}
use Rattle.live_heap.specs.declared.view.View.{View}
use Rattle.live_heap.specs.Lending.{AreElsewhere, ComesBy, HasReturned, LeadTo, copy_of, lent_block}
use Rattle.live_heap.specs.Memory.{HasTakenBoth, IsMemoryOf, all_but, before_taking}
use Rattle.live_heap.specs.Passes.{IsOf, OwnsAt, view}
use Rattle.live_heap.specs.Words.{CallsOnWord}
use Rattle.live_heap.proofs.Bringing.{calls-came_beside, of-left, of-more, owns-left, seat-left}
use Rattle.live_heap.proofs.Copying.{copies-all, copies_of, many, next_place, own-copies, words_read}
use Rattle.live_heap.proofs.OutBlocks.{all-but-first}
use Rattle.live_heap.proofs.Taking.{keeps-parted, long-numbers, numbers-laids, of-parted, others-else, owns-parted, parted, parted-before}
use Rattle.live_heap.proofs.WordCalls.{AreOnOwn, has-copied}
use Rattle.live_heap.proofs.heap.Heap.bring_copy.Goals as goal

-- two blocks that went out last, and the words of the one copied into the other
module _ (h : HeapFields) (p : Pass) (of : IsOf h p) (from to : Memory) (memory : IsMemoryOf h from) (memory_too : IsMemoryOf h to)
    (both : HasTakenBoth p from to) (copied_is : numbers to.words.places ≡ copy_of (numbers from.words.places) (usable_words to.block.need))
    (ws : List ℕ) (are : numbers to.words.places ≡ ws) (fits : (i : ℕ) → i < length ws → slice_index ws i < 2 ^ 64) where
  abbrev others : List Lent
  others = both.1

  abbrev source : Lent
  source = lent_block from.block.place from.block.need (numbers from.words.places)

  abbrev target : Lent
  target = lent_block to.block.place to.block.need both.0

  abbrev left : List Lent
  left = all_but to.block.place (view p).lent

  pub left_is : left ≡ source ∷ others
  left_is = ap (all_but to.block.place) both.2 ∙ all-but-first to.block.place target (source ∷ others) refl

  abbrev shown : List Lent
  shown = all_but (next_place left) left

  pub next_is : next_place left ≡ from.block.place
  next_is = ap next_place left_is

  pub shown_is : shown ≡ others
  shown_is = ap (λ (l : List Lent). all_but (next_place l) l) left_is ∙ all-but-first from.block.place source others refl

  once : AreElsewhere from.block.place others
  once n x at = others-else h p of (target ∷ []) source others both.2 (suc n) x at

  apart : from.block.place ≢ to.block.place
  apart same = others-else h p of (target ∷ []) source others both.2 0 target refl (sym same)

  long : length source.numbers ≡ usable_words from.block.need
  long = long-numbers memory.laid.0 from.words.places memory.laid.1 ∙ memory.long

  long_too : length (numbers to.words.places) ≡ usable_words to.block.need
  long_too = long-numbers memory_too.laid.0 to.words.places memory_too.laid.1 ∙ memory_too.long

  small : (i : ℕ) → i < usable_words to.block.need → slice_index_or source.numbers i 0 < 2 ^ 64
  small i inside =
      let value : slice_index (copy_of source.numbers (usable_words to.block.need)) i ≡ slice_index_or source.numbers i 0 =
      get_or-map-range_with_len (λ k. slice_index_or source.numbers k 0) 0 (usable_words to.block.need) i i 0 inside (omega arith) in
      let there : slice_index ws i ≡ slice_index_or source.numbers i 0 = ap (λ (l : List ℕ). slice_index l i) (sym are ∙ copied_is) ∙ value in
      subst (λ x. x < 2 ^ 64) there (fits i (omega (arith, inside, long_too, ap length are)))

  abbrev made : List Made
  made = copies_of to.block.place to.block.need left

  abbrev moves : List Made
  moves = copied from.block.place from.block.need to.block.place to.block.need (words_read source to.block.need) (usable_words to.block.need)

  pub made_is : made ≡ moves
  made_is = ap (copies_of to.block.place to.block.need) left_is

  abbrev block : Lent
  block = lent_block to.block.place to.block.need (numbers to.words.places)

  pub comes : ComesBy (view p).lent block made shown
  comes = record {
    front = [];
    back = source ∷ others;
    old = both.0;
    is = both.2;
    among = λ n x at. (suc n, subst (λ (l : List Lent). get_elem? l n ≡ some x) shown_is at);
    leads = λ many.
        subst (λ (l : List Lent). LeadTo to.block.place to.block.need [] (source ∷ others) l both.0 made (numbers to.words.places)) (sym shown_is)
        (subst (λ (ms : List Made). LeadTo to.block.place to.block.need [] (source ∷ others) others both.0 ms (numbers to.words.places)) (sym made_is)
        (subst (λ (l : List ℕ). LeadTo to.block.place to.block.need [] (source ∷ others) others both.0 moves l) (sym copied_is)
        (copies-all source to.block.place to.block.need others others long once apart once small both.0 many)));
  }

  abbrev one : Pass
  one = before_taking p to.block.place

  abbrev none : Pass
  none = before_taking one from.block.place

  module _ (of_one : IsOf h one) (mine : OwnsAt one to.block.place to.block.need) where
    none_is : none ≡ parted one others
    none_is = parted-before h one of_one [] source others left_is

    pub of_none : IsOf h none
    of_none = subst (IsOf h) (sym none_is) (of-parted h one of_one [] source others left_is)

    pub owns-source : OwnsAt none from.block.place from.block.need
    owns-source = subst (λ (r : Pass). OwnsAt r from.block.place from.block.need) (sym none_is) (owns-parted h one of_one [] source others left_is)

    pub owns-target : OwnsAt none to.block.place to.block.need
    owns-target =
        subst (λ (r : Pass). OwnsAt r to.block.place to.block.need) (sym none_is)
        (keeps-parted h one of_one [] source others left_is to.block.place to.block.need mine)

    pub own_moves : AreOnOwn none moves
    own_moves = own-copies source to.block.place to.block.need others others long once apart once small none owns-source owns-target

pub bring-requires-clause-comes : goal.bring-requires-clause-comes
bring-requires-clause-comes g c =
    let to = c.args.to in
    let are = ap numbers c.words.ensures.value ∙ numbers-laids c.words.result.now in
    comes c.args.self.now c.args.pass.now c.requires.of c.args.from.now to c.requires.memory.0 c.requires.memory.1 c.requires.taken c.requires.copied
    c.words.result.now are c.are_small.ensures

pub returns : goal.returns
returns g c =
    let h = c.args.self.now in
    let p = c.args.pass.now in
    let from = c.args.from.now in
    let to = c.args.to in
    let memory = c.requires.memory.0 in
    let memory_too = c.requires.memory.1 in
    let both = c.requires.taken in
    let is = c.requires.copied in
    let ws = c.words.result.now in
    let are = ap numbers c.words.ensures.value ∙ numbers-laids ws in
    let fits = c.are_small.ensures in
    let L = left h p c.requires.of from to memory memory_too both is ws are fits in
    let M = made h p c.requires.of from to memory memory_too both is ws are fits in
    let S = shown h p c.requires.of from to memory memory_too both is ws are fits in
    let B = block h p c.requires.of from to memory memory_too both is ws are fits in
    let left_eq = left_is h p c.requires.of from to memory memory_too both is ws are fits in
    let q = c.bring.new.pass in
    let e = c.bring.ensures in
    let one = before_taking p to.block.place in
    let none = before_taking one from.block.place in
    let of_one = of-left h p c.requires.of B M S q.seat e.returned in
    let mine = owns-left h p c.requires.of B M S q.seat e.returned in
    let of_none = of_none h p c.requires.of from to memory memory_too both is ws are fits of_one mine in
    let own = own_moves h p c.requires.of from to memory memory_too both is ws are fits of_one mine in
    let next = next_is h p c.requires.of from to memory memory_too both is ws are fits in
    let moves = copied from.block.place from.block.need to.block.place to.block.need
    (words_read (lent_block from.block.place from.block.need (numbers from.words.places)) to.block.need) (usable_words to.block.need) in
    let returned : HasReturned p.errand B moves (all_but from.block.place L) (view p) q.seat.me =
    subst (λ k. HasReturned p.errand B moves (all_but k L) (view p) q.seat.me) next
    (subst (λ (ms : List Made). HasReturned p.errand B ms S (view p) q.seat.me) (made_is h p c.requires.of from to memory memory_too both is ws are fits) e.returned) in
    let same : record { seat = q.seat; errand = p.errand; out = p.out - 1 } ≡ q = λ i. record { seat = q.seat; errand = sym e.errand i; out = sym e.out i } in
    let leads : LeadsBy (CallsOnWord h) none moves (before_taking q from.block.place) =
    subst (λ (x : Pass). LeadsBy (CallsOnWord h) none moves (before_taking x from.block.place)) same
    (calls-came_beside h p c.requires.of B moves from.block.place q.seat c.requires.idle returned e.seat.0 e.seat.1 of_none own) in
    let copies : Copies (CallsOnWord h) none from.block.place from.block.need to.block.place to.block.need (before_taking q from.block.place) = (
      words_read (lent_block from.block.place from.block.need (numbers from.words.places)) to.block.need,
      many (lent_block from.block.place from.block.need (numbers from.words.places)) to.block.place to.block.need both.1 both.1
          (long h p c.requires.of from to memory memory_too both is ws are fits) (once h p c.requires.of from to memory memory_too both is ws are fits)
          (apart h p c.requires.of from to memory memory_too both is ws are fits) (once h p c.requires.of from to memory memory_too both is ws are fits)
          (small h p c.requires.of from to memory memory_too both is ws are fits),
      leads,
    ) in
    let has = has-copied h none (before_taking q from.block.place) from.block.place from.block.need to.block.place to.block.need of_none c.requires.idle copies in
    let seat = seat-left h p c.requires.of B M S q.seat e.returned in
    let lent_now : (view q).lent ≡ lent_block from.block.place from.block.need (numbers from.words.places) ∷ both.1 =
    ap (λ (m : Me View). m.0.lent) seat ∙ left_eq in
    let idle : IsIdle q.errand = subst IsIdle (sym e.errand) c.requires.idle in
    record {
      of =
          of-more h q (lent_block from.block.place from.block.need (numbers from.words.places)) both.1 lent_now (ap (λ (m : Me View). m.1) seat)
          (let counts = c.requires.of.counted in let lent = ap length both.2 in omega (arith, e.out, counts, lent)) idle has.of
          (has.keeps from.block.place from.block.need
          (owns-source h p c.requires.of from to memory memory_too both is ws are fits of_one mine));
      idle = idle;
      block = e.block;
      stays = (both.1, lent_now);
      copied = copies;
    }
