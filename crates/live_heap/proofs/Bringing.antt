-- The words of a block have come back with a pass, and calls on words were made: what the pass is then.
use Rattle.std.proofs.Common.{ℕ, ◌≡◌, ◌≢◌, ◌<◌, ◌+◌, ◌-◌, ◌++◌, List, [], ◌∷◌, refl, sym, ap, ◌∙◌, subst, arith}
use mathlib.Core.Option.{some}
use lib.ListN.{get_elem?}
use Rattle.atomic_region.specs.Region.{Me}
use Rattle.atomic_region.specs.declared.shared.Seat.{Seat}
use Rattle.heap_geometry.specs.declared.need.Need.{Need}
use Rattle.errand_steps.specs.Begins.{IsIdle}
use Rattle.sound_laws.specs.events.Made.{LeadsBy, Made}
use Rattle.live_heap.specs.Heaps.{HeapFields}
use Rattle.live_heap.specs.declared.pass.Pass.{Pass}
use Rattle.live_heap.specs.declared.view.Lent.{Lent}
use Rattle.live_heap.specs.declared.view.View.{View}
use Rattle.live_heap.specs.Lending.{HasReturned, lent_block, with_lent}
use Rattle.live_heap.specs.Memory.{all_but, before_taking}
use Rattle.live_heap.specs.Passes.{IsOf, OwnsAt, view}
use Rattle.live_heap.specs.Words.{CallsOnWord}
use Rattle.live_heap.proofs.OutBlocks.{all-but-first, all-but-is}
use Rattle.live_heap.proofs.Taking.{keeps-parted, of-parted, of-taken, others-else, owns-parted, parted-before, stays-out, taken_by}
use Rattle.live_heap.proofs.WordCalls.{AreOnOwn, calls-lead}

-- a seat that has this view, and nothing out
pub seat-at : (s t : Seat View) (v : View) → t.region ≡ s.region → t.id ≡ s.id → t.me ≡ (v, []) → record s { me = (v, []) } ≡ t
seat-at s t v region id me = λ i. record s { region = sym region i; id = sym id i; me = sym me i }

module _ (h : HeapFields) (p : Pass) (of : IsOf h p) (block : Lent) (made : List Made) (shown : List Lent) (seat : Seat View)
    (back : HasReturned p.errand block made shown (view p) seat.me) where
  abbrev own : Lent
  own = lent_block block.place block.need back.1

  -- the pass, as it stands with the block out no more
  abbrev left : List Lent
  left = all_but block.place (view p).lent

  left_is : left ≡ back.0 ++ back.2
  left_is = ap (all_but block.place) back.3 ∙ all-but-is block.place back.0 own back.2 refl (others-else h p of back.0 own back.2 back.3)

  pub of-left : IsOf h (before_taking p block.place)
  of-left = subst (IsOf h) (sym (parted-before h p of back.0 own back.2 back.3)) (of-parted h p of back.0 own back.2 back.3)

  pub owns-left : OwnsAt (before_taking p block.place) block.place block.need
  owns-left =
      subst (λ (r : Pass). OwnsAt r block.place block.need) (sym (parted-before h p of back.0 own back.2 back.3))
      (owns-parted h p of back.0 own back.2 back.3)

  pub keeps-left : (other : ℕ) (had : Need) → OwnsAt p other had → OwnsAt (before_taking p block.place) other had
  keeps-left other had owned =
      subst (λ (r : Pass). OwnsAt r other had) (sym (parted-before h p of back.0 own back.2 back.3))
      (keeps-parted h p of back.0 own back.2 back.3 other had owned)

  pub stays-left : (n : ℕ) (x : Lent) → get_elem? (view p).lent n ≡ some x → x.place ≢ block.place → (m : ℕ) × (get_elem? left m ≡ some x)
  stays-left n x at else =
      let t = stays-out h p of back.0 own back.2 back.3 n x at else in (t.0, subst (λ (l : List Lent). get_elem? l t.0 ≡ some x) (sym left_is) t.1)

  -- what its seat is
  pub seat-left : ◌≡◌ {A = Me View} seat.me (with_lent back.4 left, [])
  seat-left = back.6 ∙ ap (λ (l : List Lent). let x : Me View = (with_lent back.4 l, []) in x) (sym left_is)

-- where no calls were made, the pass is as it would stand had it never taken the words out
pub came-back :
    (h : HeapFields) (p : Pass) (of : IsOf h p) (block : Lent) (shown : List Lent) (seat : Seat View)
    → HasReturned p.errand block [] shown (view p) seat.me → seat.region ≡ p.seat.region → seat.id ≡ p.seat.id
    → record { seat = seat; errand = p.errand; out = p.out - 1 } ≡ before_taking p block.place
came-back h p of block shown seat back region id =
    let left = all_but block.place (view p).lent in
    let same : with_lent back.4 left ≡ with_lent (view p) left = ap (λ (v : View). with_lent v left) back.5 in
    let me : ◌≡◌ {A = Me View} seat.me (with_lent (view p) left, []) =
    seat-left h p of block [] shown seat back ∙ ap (λ (v : View). let x : Me View = (v, []) in x) same in
    ap (λ (s : Seat View). let q : Pass = record { seat = s; errand = p.errand; out = p.out - 1 } in q)
    (sym (seat-at p.seat seat (with_lent (view p) left) region id me))

-- where just the blocks that are left are shown, the calls lead to the pass
pub calls-came :
    (h : HeapFields) (p : Pass) (of : IsOf h p) (block : Lent) (made : List Made) (seat : Seat View) → IsIdle p.errand
    → HasReturned p.errand block made (all_but block.place (view p).lent) (view p) seat.me → seat.region ≡ p.seat.region → seat.id ≡ p.seat.id
    → AreOnOwn (before_taking p block.place) made
    → LeadsBy (CallsOnWord h) (before_taking p block.place) made (record { seat = seat; errand = p.errand; out = p.out - 1 })
calls-came h p of block made seat idle back region id own =
    let r = before_taking p block.place in
    let left = all_but block.place (view p).lent in
    let v = with_lent back.4 left in
    subst (λ (s : Seat View). LeadsBy (CallsOnWord h) r made (record { seat = s; errand = p.errand; out = p.out - 1 }))
    (seat-at p.seat seat v region id (seat-left h p of block made left seat back))
    (calls-lead h r made v (of-left h p of block made left seat back) idle own back.5)

-- where another block is shown no more either, they lead to the pass as it would stand had it never taken that one's words out
pub calls-came_beside :
    (h : HeapFields) (p : Pass) (of : IsOf h p) (block : Lent) (made : List Made) (other : ℕ) (seat : Seat View) → IsIdle p.errand
    → HasReturned p.errand block made (all_but other (all_but block.place (view p).lent)) (view p) seat.me → seat.region ≡ p.seat.region
    → seat.id ≡ p.seat.id → IsOf h (before_taking (before_taking p block.place) other) → AreOnOwn (before_taking (before_taking p block.place) other) made
    → LeadsBy (CallsOnWord h) (before_taking (before_taking p block.place) other) made
    (before_taking (record { seat = seat; errand = p.errand; out = p.out - 1 }) other)
calls-came_beside h p of block made other seat idle back region id of_r own =
    let r = before_taking (before_taking p block.place) other in
    let left = all_but block.place (view p).lent in
    let shown = all_but other left in
    let v = with_lent back.4 left in
    subst (λ (s : Seat View). LeadsBy (CallsOnWord h) r made (before_taking (record { seat = s; errand = p.errand; out = p.out - 1 }) other))
    (seat-at p.seat seat v region id (seat-left h p of block made shown seat back))
    (calls-lead h r made (with_lent back.4 shown) of_r idle own back.5)

-- a pass that has a block's words out beside those that another pass has is of the heap where that is
pub of-more :
    (h : HeapFields) (q : Pass) (b : Lent) (others : List Lent) → (view q).lent ≡ b ∷ others → q.seat.me.1 ≡ [] → 0 < q.out → IsIdle q.errand
    → IsOf h (before_taking q b.place) → OwnsAt (before_taking q b.place) b.place b.need → IsOf h q
of-more h q b others is empty some_out idle of owned =
    let left : all_but b.place (view q).lent ≡ others = ap (all_but b.place) is ∙ all-but-first b.place b others refl in
    let r = before_taking q b.place in
    let counts : q.out - 1 + 1 ≡ q.out = omega (arith, some_out) in
    let lent : b ∷ all_but b.place (view q).lent ≡ (view q).lent = ap (λ (l : List Lent). b ∷ l) left ∙ sym is in
    let same : taken_by r b.place b.need b.numbers ≡ q = λ i. record {
      seat = record q.seat { me = (with_lent (view q) (lent i), sym empty i) };
      errand = q.errand;
      out = counts i;
    } in
    subst (IsOf h) same (of-taken h r b.place b.need b.numbers of idle owned)
