-- The words of a block go out with a pass, and come back: what the pass is meanwhile and after.
use Rattle.std.proofs.Common.{ℕ, zero, suc, ◌≡◌, ◌≢◌, ◌<◌, ◌≤◌, ◌+◌, ◌-◌, ◌^◌, List, [], ◌∷◌, ◌++◌, length, slice_index, take, drop, refl, sym, ap, ◌∙◌, subst, arith, append_assoc}
use Rattle.std.specs.Prelude.{slice_set}
use Rattle.std.proofs.lemmas.List.{append-nil, drop-drop, drop_all, length-append, length-drop, length-map, length-take-le, set_at, take-append-drop}
use mathlib.Core.Option.{some, some-injective}
use lib.ListN.{get_elem?}
use Rattle.heap_geometry.specs.declared.need.Need.{Need}
use Rattle.heap_geometry.specs.Need.{usable_words}
use Rattle.plain_words.specs.Places.{Place, laid, laids, numbers}
use Rattle.atomic_region.specs.Region.{Me, Range, rest}
use Rattle.atomic_region.specs.declared.shared.Seat.{Seat}
use Rattle.errand_steps.specs.Begins.{IsIdle}
use Rattle.sound_laws.specs.events.Made.{Made}
use Rattle.owned_words.proofs.Concerned.{idle-concerned}
use Rattle.step_machine.specs.Cores.{OwnsAfter}
use Rattle.live_heap.specs.Heaps.{HeapFields}
use Rattle.live_heap.specs.declared.pass.Pass.{Pass}
use Rattle.live_heap.specs.declared.plain.Memory.{Memory}
use Rattle.live_heap.specs.declared.view.Lent.{Lent}
use Rattle.live_heap.specs.declared.view.View.{View}
use Rattle.live_heap.specs.Lending.{ComesBy, HasLent, LeadTo, MayLend, MayReturn, TellsWritten, lent_block, with_lent}
use Rattle.live_heap.specs.Memory.{IsMemoryOf, IsTaken, all_but, before_taking, writes_from}
use Rattle.live_heap.specs.Passes.{IsOf, OwnsAt, seen, view}
use Rattle.live_heap.proofs.Gathering.{before-idle}
use Rattle.live_heap.proofs.LayLemmas.{range-is}
use Rattle.live_heap.proofs.OutBlocks.{all-but-first, all-but-is, cut-at, here-at, one-less, skip, skip-at, skip-once, skip-other, still-at}

-- a pass in no call may take the words of its block out
pub lends-own :
    (h : HeapFields) (p : Pass) (place : ℕ) (need : Need) → IsOf h p → IsIdle p.errand → OwnsAt p place need → MayLend (view p) p.errand place need
lends-own h p place need of idle owned = record {
  before = of.before;
  one = of.one;
  stands = before-idle (seen p) of.before.errand p.errand of.begun idle;
  idle = idle;
  owned = owned.0;
  home = owned.1;
}

-- the numbers of words that are laid with them
pub numbers-laids : (ns : List ℕ) → numbers (laids ns) ≡ ns
numbers-laids [] = refl
numbers-laids (n ∷ ns) = ap (λ (l : List ℕ). n ∷ l) (numbers-laids ns)

-- the words have gone out with the seat, and are lifted from it
module _ (p : Pass) (place : ℕ) (need : Need) (me : Me View) (lent : HasLent place need (view p) me) (first : ℕ) (places : List Place)
    (lifts : me.1 ≡ (first, places) ∷ rest me.1) where
  range : ◌≡◌ {A = Range} (first, places) (place + 1, laids lent.0)
  range = range-is me (place + 1) first (laids lent.0) places (ap (λ (m : Me View). m.1) lent.3) lifts

  pub first-lent : first ≡ place + 1
  first-lent = ap (λ (r : Range). r.0) range

  pub words-lent : places ≡ laids lent.0
  words-lent = ap (λ (r : Range). r.1) range

  pub long-lent : length places ≡ usable_words need
  long-lent = ap length words-lent ∙ length-map lent.0 laid ∙ lent.1

  pub told-lent : TellsWritten (seen p) place (numbers places)
  told-lent = subst (TellsWritten (seen p) place) (sym (ap numbers words-lent ∙ numbers-laids lent.0)) lent.2

  pub view-lent : ◌≡◌ {A = Me View} (me.0, rest me.1) (with_lent (view p) (lent_block place need lent.0 ∷ (view p).lent), [])
  view-lent = ap (λ (m : Me View). let x : Me View = (m.0, rest m.1) in x) lent.3

-- the pass that took the words of a block out
abbrev pub taken_by : Pass → ℕ → Need → List ℕ → Pass
taken_by p place need numbers = record {
  seat = record p.seat { me = (with_lent (view p) (lent_block place need numbers ∷ (view p).lent), []) };
  errand = p.errand;
  out = p.out + 1;
}

-- it is that of a seat that has this view
pub taken-is :
    (p : Pass) (place : ℕ) (need : Need) (numbers : List ℕ) (seat : Seat View) → seat.region ≡ p.seat.region → seat.id ≡ p.seat.id
    → seat.me ≡ (with_lent (view p) (lent_block place need numbers ∷ (view p).lent), [])
    → taken_by p place need numbers ≡ record { seat = seat; errand = p.errand; out = p.out + 1 }
taken-is p place need numbers seat region id me =
    λ i. record { seat = record seat { region = sym region i; id = sym id i; me = sym me i }; errand = p.errand; out = p.out + 1 }

module _ (h : HeapFields) (p : Pass) (place : ℕ) (need : Need) (old : List ℕ) (of : IsOf h p) (idle : IsIdle p.errand) (owned : OwnsAt p place need) where
  block : Lent
  block = lent_block place need old

  -- it is of its heap still
  pub of-taken : IsOf h (taken_by p place need old)
  of-taken = record {
    table = of.table;
    empty = refl;
    before = of.before;
    one = of.one;
    sight = of.sight;
    begun = of.begun;
    served = of.served;
    alone = of.alone;
    settled = of.settled;
    counted = omega (arith, of.counted);
    mine = mine_now;
    apart = λ n b at. idle-concerned p.errand b.place idle;
    once = once_now;
  }
    where
      mine_now : (n : ℕ) (b : Lent) → get_elem? (lent_block place need old ∷ (view p).lent) n ≡ some b → OwnsAfter (seen p) p.errand.caller b.place b.need
      mine_now zero b at = subst (λ (l : Lent). OwnsAfter (seen p) p.errand.caller l.place l.need) (some-injective (lent_block place need old) b at) owned.0
      mine_now (suc n) b at = of.mine n b at

      once_now :
          (m n : ℕ) (a b : Lent) → get_elem? (lent_block place need old ∷ (view p).lent) m ≡ some a
          → get_elem? (lent_block place need old ∷ (view p).lent) n ≡ some b → a.place ≡ b.place → m ≡ n
      once_now zero zero a b at-a at-b same = refl
      once_now zero (suc n) a b at-a at-b same =
          absurd (owned.1 n b at-b (sym same ∙ ap (λ (l : Lent). l.place) (sym (some-injective (lent_block place need old) a at-a))))
      once_now (suc m) zero a b at-a at-b same =
          absurd (owned.1 m a at-a (same ∙ ap (λ (l : Lent). l.place) (sym (some-injective (lent_block place need old) b at-b))))
      once_now (suc m) (suc n) a b at-a at-b same = ap suc (of.once m n a b at-a at-b same)

  -- it owns what it owned beside the block
  pub owns-else : (other : ℕ) (had : Need) → OwnsAt p other had → other ≢ place → OwnsAt (taken_by p place need old) other had
  owns-else other had (mine, home) else = (mine, home_now)
    where
      home_now : (n : ℕ) (b : Lent) → get_elem? (lent_block place need old ∷ (view p).lent) n ≡ some b → b.place ≢ other
      home_now zero b at same = else (sym same ∙ ap (λ (l : Lent). l.place) (sym (some-injective (lent_block place need old) b at)))
      home_now (suc n) b at same = home n b at same

  -- before it took the block's words out it was as it was
  pub was-before : before_taking (taken_by p place need old) place ≡ p
  was-before =
      let few : p.out + 1 - 1 ≡ p.out = omega arith in
      let kept = all-but-first place (lent_block place need old) (view p).lent refl in
      λ i. record { seat = record p.seat { me = (with_lent (view p) (kept i), sym of.empty i) }; errand = p.errand; out = few i }

-- the pass with these blocks' words out, one less
abbrev pub parted : Pass → List Lent → Pass
parted p blocks = record { seat = record p.seat { me = (with_lent (view p) blocks, []) }; errand = p.errand; out = p.out - 1 }

-- a pass of a heap, in no call, which has a block's words out
module _ (h : HeapFields) (p : Pass) (of : IsOf h p) (front : List Lent) (b : Lent) (back : List Lent) (split : (view p).lent ≡ front ++ b ∷ back) where
  stood : (m : ℕ) (x : Lent) → get_elem? (front ++ back) m ≡ some x → get_elem? (view p).lent (skip (length front) m) ≡ some x
  stood m x at = subst (λ (l : List Lent). get_elem? l (skip (length front) m) ≡ some x) (sym split) (skip-at front b back m x at)

  stands : get_elem? (view p).lent (length front) ≡ some b
  stands = subst (λ (l : List Lent). get_elem? l (length front) ≡ some b) (sym split) (here-at front b back)

  -- the others lie elsewhere
  pub others-else : (m : ℕ) (x : Lent) → get_elem? (front ++ back) m ≡ some x → x.place ≢ b.place
  others-else m x at same = skip-other (length front) m (of.once (skip (length front) m) (length front) x b (stood m x at) stands same)

  pub counts-more : p.out ≡ suc (length (front ++ back))
  counts-more = sym of.counted ∙ ap length split ∙ one-less front b back

  pub of-parted : IsOf h (parted p (front ++ back))
  of-parted = record {
    table = of.table;
    empty = refl;
    before = of.before;
    one = of.one;
    sight = of.sight;
    begun = of.begun;
    served = of.served;
    alone = of.alone;
    settled = of.settled;
    counted = let e = counts-more in omega arith;
    mine = λ m x at. of.mine (skip (length front) m) x (stood m x at);
    apart = λ m x at. of.apart (skip (length front) m) x (stood m x at);
    once = λ m n x y at-x at-y same.
        skip-once (length front) m n (of.once (skip (length front) m) (skip (length front) n) x y (stood m x at-x) (stood n y at-y) same);
  }

  pub owns-parted : OwnsAt (parted p (front ++ back)) b.place b.need
  owns-parted = (of.mine (length front) b stands, others-else)

  -- it owns what it owned
  pub keeps-parted : (other : ℕ) (had : Need) → OwnsAt p other had → OwnsAt (parted p (front ++ back)) other had
  keeps-parted other had (mine, home) = (mine, λ m x at. home (skip (length front) m) x (stood m x at))

  -- who had its words out, and isn't the block, has them out still
  pub stays-out :
      (n : ℕ) (x : Lent) → get_elem? (view p).lent n ≡ some x → x.place ≢ b.place → (m : ℕ) × (get_elem? (front ++ back) m ≡ some x)
  stays-out n x at else = still-at front b back n x (subst (λ (l : List Lent). get_elem? l n ≡ some x) split at) else

  -- it is the pass as it would stand had it never taken the words out
  pub parted-before : before_taking p b.place ≡ parted p (front ++ back)
  parted-before =
      ap (parted p) (ap (all_but b.place) split ∙ all-but-is b.place front b back refl others-else)

-- the pass owns a block whose words are out with it
pub taken-owned : (h : HeapFields) (p : Pass) (place : ℕ) (need : Need) → IsOf h p → IsTaken p place need → OwnsAfter (seen p) p.errand.caller place need
taken-owned h p place need of (n, b, at, is-place, is-need) =
    subst (λ m. OwnsAfter (seen p) p.errand.caller place m) is-need
    (subst (λ k. OwnsAfter (seen p) p.errand.caller k b.need) is-place (of.mine n b at))

-- a seat that carries the words of a block that is out with its pass may give them back
pub may-return :
    (h : HeapFields) (p : Pass) (block : Lent) (made : List Made) (shown : List Lent) (me : Me View) → IsOf h p → IsIdle p.errand
    → ComesBy (view p).lent block made shown → length block.numbers ≡ usable_words block.need
    → me ≡ (view p, (block.place + 1, laids block.numbers) ∷ []) → MayReturn me p.errand block made shown
may-return h p block made shown me of idle comes long is =
    subst (λ (m : Me View). MayReturn m p.errand block made shown) (sym is) (record {
      before = of.before;
      one = of.one;
      stands = before-idle (seen p) of.before.errand p.errand of.begun idle;
      idle = idle;
      mine = of.mine;
      comes = comes;
      others = others-else h p of comes.front (lent_block block.place block.need comes.old) comes.back comes.is;
      ranges = refl;
      long = long;
    })

-- where the words of a block are out with a pass, some calls lead to what is in them
pub comes-at :
    (h : HeapFields) (p : Pass) (block : Lent) (made : List Made) → IsOf h p → IsTaken p block.place block.need
    → ((front back : List Lent) (old : List ℕ) → length old ≡ usable_words block.need
    → LeadTo block.place block.need front back (all_but block.place (view p).lent) old made block.numbers)
    → ComesBy (view p).lent block made (all_but block.place (view p).lent)
comes-at h p block made of (n, b, at, is-place, is-need) leads =
    let cut = cut-at (view p).lent n b at in
    let same : b ≡ lent_block block.place block.need b.numbers = λ i. record { place = is-place i; need = is-need i; numbers = b.numbers } in
    let is : (view p).lent ≡ cut.0 ++ lent_block block.place block.need b.numbers ∷ cut.1 =
    cut.2 ∙ ap (λ (x : Lent). cut.0 ++ x ∷ cut.1) same in
    let left =
    ap (all_but block.place) is
    ∙ all-but-is block.place cut.0 (lent_block block.place block.need b.numbers) cut.1 refl
    (others-else h p of cut.0 (lent_block block.place block.need b.numbers) cut.1 is) in
    record {
      front = cut.0;
      back = cut.1;
      old = b.numbers;
      is = is;
      among = λ m x there. (m, subst (λ (l : List Lent). get_elem? l m ≡ some x) left there);
      leads = leads cut.0 cut.1 b.numbers;
    }

-- the writes of numbers lead a block to them, from one word on
writes-over :
    (place : ℕ) (need : Need) (before behind shown : List Lent) (front old numbers tail : List ℕ) → length old ≡ length numbers
    → length front + length numbers ≤ usable_words need → ((k : ℕ) → k < length numbers → slice_index numbers k < 2 ^ 64)
    → LeadTo place need before behind shown (front ++ (old ++ tail)) (writes_from place need (length front) numbers) (front ++ (numbers ++ tail))
writes-over place need before behind shown front [] [] tail same within small = refl
writes-over place need before behind shown front (o ∷ os) [] tail same within small = absurd (omega (arith, same))
writes-over place need before behind shown front [] (x ∷ xs) tail same within small = absurd (omega (arith, same))
writes-over place need before behind shown front (o ∷ os) (x ∷ xs) tail same within small =
    let long : length (front ++ x ∷ []) ≡ suc (length front) = omega (arith, length-append front (x ∷ [])) in
    let next : (front ++ x ∷ []) ++ (os ++ tail) ≡ slice_set (front ++ o ∷ (os ++ tail)) (length front) x =
    append_assoc front (x ∷ []) (os ++ tail) ∙ sym (set_at front o (os ++ tail) x (length front) refl) in
    let rest =
    writes-over place need before behind shown (front ++ x ∷ []) os xs tail (omega (arith, same)) (omega (arith, within, long))
    (λ k has. small (suc k) (omega (arith, has))) in
    let from : LeadTo place need before behind shown ((front ++ x ∷ []) ++ (os ++ tail)) (writes_from place need (suc (length front)) xs) ((front ++ x ∷ []) ++ (xs ++ tail)) =
    subst (λ n. LeadTo place need before behind shown ((front ++ x ∷ []) ++ (os ++ tail)) (writes_from place need n xs) ((front ++ x ∷ []) ++ (xs ++ tail))) long rest in (
      (front ++ x ∷ []) ++ (os ++ tail),
      (refl, refl, omega (arith, within), small 0 (omega arith), next),
      subst (λ (l : List ℕ). LeadTo place need before behind shown ((front ++ x ∷ []) ++ (os ++ tail)) (writes_from place need (suc (length front)) xs) l)
          (append_assoc front (x ∷ []) (xs ++ tail)) from,
    )

-- they lead the words from there on to them
pub writes-part :
    (place : ℕ) (need : Need) (before behind shown : List Lent) (old : List ℕ) (first : ℕ) (numbers : List ℕ) → first + length numbers ≤ length old
    → length old ≡ usable_words need → ((k : ℕ) → k < length numbers → slice_index numbers k < 2 ^ 64)
    → LeadTo place need before behind shown old (writes_from place need first numbers) (take first old ++ (numbers ++ drop (first + length numbers) old))
writes-part place need before behind shown old first numbers few long small =
    let n : ℕ = length numbers in
    let front : List ℕ = take first old in
    let behind_it : List ℕ = drop first old in
    let starts : length front ≡ first = length-take-le first old (omega (arith, few)) in
    let many : length (take n behind_it) ≡ n = length-take-le n behind_it (omega (arith, few, length-drop first old)) in
    let whole : front ++ (take n behind_it ++ drop n behind_it) ≡ old =
    ap (λ (l : List ℕ). front ++ l) (take-append-drop n behind_it) ∙ take-append-drop first old in
    let left : drop n behind_it ≡ drop (first + n) old = drop-drop n first old in
    let from =
    writes-over place need before behind shown front (take n behind_it) numbers (drop n behind_it) many (omega (arith, few, starts, long)) small in
    let one : LeadTo place need before behind shown (front ++ (take n behind_it ++ drop n behind_it)) (writes_from place need first numbers) (front ++ (numbers ++ drop n behind_it)) =
    subst (λ k. LeadTo place need before behind shown (front ++ (take n behind_it ++ drop n behind_it)) (writes_from place need k numbers) (front ++ (numbers ++ drop n behind_it))) starts
    from in
    let two : LeadTo place need before behind shown old (writes_from place need first numbers) (front ++ (numbers ++ drop n behind_it)) =
    subst (λ (l : List ℕ). LeadTo place need before behind shown l (writes_from place need first numbers) (front ++ (numbers ++ drop n behind_it))) whole one in
    subst (λ (l : List ℕ). LeadTo place need before behind shown old (writes_from place need first numbers) (front ++ (numbers ++ l))) left two

pub writes-all :
    (place : ℕ) (need : Need) (before behind shown : List Lent) (old numbers : List ℕ) → length old ≡ usable_words need
    → length numbers ≡ usable_words need → ((k : ℕ) → k < usable_words need → slice_index numbers k < 2 ^ 64)
    → LeadTo place need before behind shown old (writes_from place need 0 numbers) numbers
writes-all place need before behind shown old numbers long_old long small =
    subst (λ (l : List ℕ). LeadTo place need before behind shown old (writes_from place need 0 numbers) l)
    (ap (λ (l : List ℕ). numbers ++ l) (drop_all (0 + length numbers) old (omega (arith, long, long_old))) ∙ append-nil numbers)
    (writes-part place need before behind shown old 0 numbers (omega (arith, long, long_old)) long_old (λ k has. small k (omega (arith, has, long))))

-- a pass owns a block whose words come back
pub came-owned :
    (h : HeapFields) (p : Pass) (block : Lent) (made : List Made) (shown : List Lent) → IsOf h p → ComesBy (view p).lent block made shown
    → OwnsAfter (seen p) p.errand.caller block.place block.need
came-owned h p block made shown of comes =
    of.mine (length comes.front) (lent_block block.place block.need comes.old)
    (subst (λ (l : List Lent). get_elem? l (length comes.front) ≡ some (lent_block block.place block.need comes.old)) (sym comes.is)
    (here-at comes.front (lent_block block.place block.need comes.old) comes.back))

-- the words of memory are laid with their numbers, and as many as the block has
pub laid-numbers : (ns : List ℕ) (places : List Place) → places ≡ laids ns → places ≡ laids (numbers places)
laid-numbers ns places are = are ∙ ap laids (sym (ap numbers are ∙ numbers-laids ns))

pub long-numbers : (ns : List ℕ) (places : List Place) → places ≡ laids ns → length (numbers places) ≡ length places
long-numbers ns places are = ap length (ap numbers are ∙ numbers-laids ns) ∙ sym (length-map ns laid) ∙ ap length (sym are)

-- what a seat carries that has taken these words in
pub carries :
    (h : HeapFields) (p : Pass) (m : Memory) (me : Me View) → p.seat.me.1 ≡ [] → IsMemoryOf h m
    → me ≡ (p.seat.me.0, (m.words.first, m.words.places) ∷ p.seat.me.1) → me ≡ (view p, (m.block.place + 1, laids (numbers m.words.places)) ∷ [])
carries h p m me empty memory carry =
    let are = laid-numbers memory.laid.0 m.words.places memory.laid.1 in carry ∙ (λ i. (p.seat.me.0, (memory.first i, are i) ∷ empty i))
