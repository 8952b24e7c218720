-- Calls on the usable words of blocks that a pass owns, one after the other: each is one step, and leaves the pass what it owns.
use Rattle.std.proofs.Common.{ℕ, zero, suc, ◌≡◌, ◌<◌, ◌≤◌, ◌+◌, ◌%◌, ◌^◌, List, [], ◌∷◌, ◌++◌, length, slice_index, refl, sym, ap, ◌∙◌, subst, inl, inr, arith}
use Rattle.std.specs.Prelude.{map}
use Rattle.std.specs.List.{flat_map, range_with_len}
use Rattle.std.proofs.lemmas.Bool.{cases_lt}
use Rattle.std.proofs.lemmas.List.FromFn.{get_or-map-range_with_len, length-map-range_with_len}
use Rattle.heap_geometry.specs.declared.need.Need.{Need}
use Rattle.heap_geometry.specs.Need.{IsNeed, usable_words}
use Rattle.word_table.specs.Counts.{arena_words}
use Rattle.errand_steps.specs.declared.reply.Reply.{Reply}
use Rattle.errand_steps.specs.declared.reply.Reply.TheVariants as reply
use Rattle.errand_steps.specs.declared.told.Ending.TheVariants as ending
use Rattle.errand_steps.specs.declared.told.Stepped.TheVariants as stepped
use Rattle.errand_steps.specs.Begins.{IsIdle}
use Rattle.errand_steps.specs.Calls.{Call, begun_by, read, write}
use Rattle.sound_laws.specs.events.Made.{Copies, LeadsBy, Made, answered, copied, copied_word, wrote}
use Rattle.sound_laws.proofs.events_lemmas.CopyLemmas.{copied-past, copied-read}
use Rattle.step_machine.specs.Cores.{OwnsAfter}
use Rattle.step_machine.specs.Keeping.{LeavesPlace}
use Rattle.live_heap.specs.Going.{in_call}
use Rattle.live_heap.specs.Heaps.{HeapFields}
use Rattle.live_heap.specs.declared.pass.Pass.{Pass}
use Rattle.live_heap.specs.declared.view.View.{View}
use Rattle.live_heap.specs.Lending.{Finds, MakesOn, numbers_from}
use Rattle.live_heap.specs.Memory.{writes_from}
use Rattle.live_heap.specs.Passes.{IsHome, IsOf, OwnsAt, accesses, seen, view}
use Rattle.live_heap.specs.Sights.{TakesStep, found_in}
use Rattle.live_heap.specs.Words.{CallsOnWord}
use Rattle.live_heap.proofs.Begun.{heap-at, of-laid}
use Rattle.live_heap.proofs.CallsOne.{read-contents}
use Rattle.step_machine.proofs.ApartLemmas.{ended-spares, owns-on}
use Rattle.live_heap.proofs.LawsKept.{called-adds, stays-home}
use Rattle.live_heap.proofs.Shows.{arena-placed}
use Rattle.live_heap.proofs.Straight.{ends-at_once, payload-end, read-answers, read-settles, write-answers, write-settles}

-- the pass with this view, which carries no words
abbrev pub at_view : Pass → View → Pass
at_view p v = record { seat = record p.seat { me = (v, []) }; errand = p.errand; out = p.out }

-- one write of a pass is a call on a word
pub one-write :
    (h : HeapFields) (p : Pass) (place : ℕ) (need : Need) (i x n : ℕ) (u : View) → IsOf h p → IsIdle p.errand → OwnsAt p place need
    → i < usable_words need → x < 2 ^ 64 → TakesStep (begun_by p.errand (write place need i x)) n (view p) u
    → CallsOnWord h p (write place need i x) reply.Wrote (at_view p u)
one-write h p place need i x n u of idle owned word small step =
    let call : Call = write place need i x in
    let found = found_in (begun_by p.errand call) n in
    let w =
    ends-at_once h p (at_view p u) call n ending.Wrote of idle (record { block = owned.0 }, word, small) (λ at same. subst (IsHome p) same owned.1)
    (heap-at h p place need of owned.0) (λ words is. cc) (write-settles p.errand place need i x found idle)
    (write-answers p.errand place need i x found) tt step refl (sym of.empty) refl in
    record { called = w.called; owned = owned; of = w.of; contents = tt }

-- and so is one read
pub one-read :
    (h : HeapFields) (p : Pass) (place : ℕ) (need : Need) (i n : ℕ) (u : View) → IsOf h p → IsIdle p.errand → OwnsAt p place need
    → i < usable_words need → TakesStep (begun_by p.errand (read place need i)) n (view p) u
    → CallsOnWord h p (read place need i) (reply.Word n) (at_view p u)
one-read h p place need i n u of idle owned word step =
    let call : Call = read place need i in
    let found = found_in (begun_by p.errand call) n in
    let q = at_view p u in
    let w =
    ends-at_once h p q call n (ending.Word n) of idle (record { block = owned.0 }, word) (λ at same. subst (IsHome p) same owned.1)
    (heap-at h p place need of owned.0) (λ words is. cc) (read-settles p.errand place need i found idle)
    (read-answers p.errand place need i found) tt step refl (sym of.empty) refl in
    record {
      called = w.called;
      owned = owned;
      of = w.of;
      contents = read-contents p (in_call p call) q place need i n 0 (stepped.Done (ending.Word n)) refl w.stepped w.calling;
    }

-- a call on a word of a block that the pass owns
abbrev pub IsOnOwn : Pass → Call → Type 0
IsOnOwn p (write place need i x) = OwnsAt p place need × (i < usable_words need) × (x < 2 ^ 64)
IsOnOwn p (read place need i) = OwnsAt p place need × (i < usable_words need)
IsOnOwn p call = ⊥

abbrev pub AreOnOwn : Pass → List Made → Type 0
AreOnOwn p [] = Unit {0}
AreOnOwn p (made ∷ rest) = IsOnOwn p made.call × AreOnOwn p rest

-- a call on a word of some block
abbrev pub IsOnWord : Call → Type 0
IsOnWord (write place need i x) = Unit {0}
IsOnWord (read place need i) = Unit {0}
IsOnWord call = ⊥

abbrev pub AreOnWords : List Made → Type 0
AreOnWords [] = Unit {0}
AreOnWords (made ∷ rest) = IsOnWord made.call × AreOnWords rest

word-leaves : (call : Call) (place : ℕ) → IsOnWord call → LeavesPlace call place
word-leaves (write at n i x) place on = tt
word-leaves (read at n i) place on = tt
word-leaves call place on = absurd on

own-word : (p : Pass) (call : Call) → IsOnOwn p call → IsOnWord call
own-word p (write at n i x) own = tt
own-word p (read at n i) own = tt
own-word p call own = absurd own

-- the pass owns each of its blocks still
pub at-keeps :
    (h : HeapFields) (p q : Pass) (call : Call) (answer : Reply) (place : ℕ) (need : Need) → IsOf h p → IsOnWord call → CallsOnWord h p call answer q
    → OwnsAt p place need → OwnsAt q place need
at-keeps h p q call answer place need of on one (owned, home) =
    let leaves = word-leaves call place on in (
      subst (λ c. OwnsAfter (seen q) c place need) (sym one.called.caller)
          (owns-on h.layout p.errand.caller place need (seen p) (seen q) one.called.added one.of.served.legal (called-adds p q call 0 answer one.called)
          (ended-spares p.errand.caller place call answer one.called.added leaves one.called.ended) owned),
      stays-home p q place one.called.lent home,
    )

own-still :
    (h : HeapFields) (p q : Pass) (call : Call) (answer : Reply) (next : Call) → IsOf h p → IsOnOwn p call → CallsOnWord h p call answer q
    → IsOnOwn p next → IsOnOwn q next
own-still h p q call answer (write at n i x) of own one (owned, within, small) = (at-keeps h p q call answer at n of (own-word p call own) one owned, within, small)
own-still h p q call answer (read at n i) of own one (owned, within) = (at-keeps h p q call answer at n of (own-word p call own) one owned, within)
own-still h p q call answer next of own one bad = absurd bad

all-still :
    (h : HeapFields) (p q : Pass) (call : Call) (answer : Reply) (made : List Made) → IsOf h p → IsOnOwn p call → CallsOnWord h p call answer q
    → AreOnOwn p made → AreOnOwn q made
all-still h p q call answer [] of own one all = tt
all-still h p q call answer (next ∷ rest) of own one (first, more) =
    (own-still h p q call answer next.call of own one first, all-still h p q call answer rest of own one more)

-- one call of a pass
one-call :
    (h : HeapFields) (p : Pass) (call : Call) (answer : Reply) (n : ℕ) (u : View) → IsOf h p → IsIdle p.errand → IsOnOwn p call → Finds call answer n
    → TakesStep (begun_by p.errand call) n (view p) u → CallsOnWord h p call answer (at_view p u)
one-call h p (write at m i x) reply.Wrote n u of idle (owned, within, small) found step = one-write h p at m i x n u of idle owned within small step
one-call h p (read at m i) (reply.Word word) n u of idle (owned, within) found step =
    subst (λ w. CallsOnWord h p (read at m i) (reply.Word w) (at_view p u)) found (one-read h p at m i n u of idle owned within step)
one-call h p call answer n u of idle own found step = absurd found

-- calls of a pass lead from it to the pass with the view that they led to
pub calls-lead :
    (h : HeapFields) (p : Pass) (made : List Made) (w : View) → IsOf h p → IsIdle p.errand → AreOnOwn p made → MakesOn p.errand (view p) made w
    → LeadsBy (CallsOnWord h) p made (at_view p w)
calls-lead h p [] w of idle own on = λ k. record p { seat = record p.seat { me = (on k, sym of.empty k) } }
calls-lead h p (made ∷ rest) w of idle (first, more) (u, n, found, step, on) =
    let q = at_view p u in
    let one = one-call h p made.call made.answer n u of idle first found step in
    (q, one, calls-lead h q rest w one.of idle (all-still h p q made.call made.answer rest of first one more) on)

-- a pass that made calls on words, so many, is of its heap still, in no call, owns what it owned, and has the same blocks' words out
pub record HasFilled (h : HeapFields) (p : Pass) (count : ℕ) (q : Pass) : Type 0 where
  pub of : IsOf h q
  pub idle : IsIdle q.errand
  pub keeps : (other : ℕ) (had : Need) → OwnsAt p other had → OwnsAt q other had
  pub lent : (view q).lent ≡ (view p).lent
  pub accesses : accesses q ≡ count + accesses p

pub has-made :
    (h : HeapFields) (p q : Pass) (made : List Made) → IsOf h p → IsIdle p.errand → AreOnWords made → LeadsBy (CallsOnWord h) p made q
    → HasFilled h p (length made) q
has-made h p q [] of idle on same =
    subst (HasFilled h p 0) (sym same) (record { of = of; idle = idle; keeps = λ other had owned. owned; lent = refl; accesses = omega arith })
has-made h p q (made ∷ rest) of idle (first, more) (next, one, leads) =
    let r = has-made h next q rest one.of one.called.idle more leads in
    record {
      of = r.of;
      idle = r.idle;
      keeps = λ other had owned. r.keeps other had (at-keeps h p next made.call made.answer other had of first one owned);
      lent = r.lent ∙ one.called.lent;
      accesses = omega (arith, r.accesses, one.called.accesses);
    }

-- the writes of numbers to a block are such calls
pub own-writes :
    (p : Pass) (place : ℕ) (need : Need) (i : ℕ) (numbers : List ℕ) → OwnsAt p place need → i + length numbers ≤ usable_words need
    → ((k : ℕ) → k < length numbers → slice_index numbers k < 2 ^ 64) → AreOnOwn p (writes_from place need i numbers)
own-writes p place need i [] owned within small = tt
own-writes p place need i (x ∷ xs) owned within small =
    ((owned, omega (arith, within), small 0 (omega arith)), own-writes p place need (suc i) xs owned (omega (arith, within)) (λ k has. small (suc k) (omega (arith, has))))

pub on-writes : (place : ℕ) (need : Need) (i : ℕ) (numbers : List ℕ) → AreOnWords (writes_from place need i numbers)
on-writes place need i [] = tt
on-writes place need i (x ∷ xs) = (tt, on-writes place need (suc i) xs)

pub writes-long : (place : ℕ) (need : Need) (i : ℕ) (numbers : List ℕ) → length (writes_from place need i numbers) ≡ length numbers
writes-long place need i [] = refl
writes-long place need i (x ∷ xs) = ap suc (writes-long place need (suc i) xs)

-- a pass that wrote words with numbers counted from one on made the calls that a fill of them is
writes-counted :
    (place : ℕ) (need : Need) (f : ℕ → ℕ) (i count : ℕ)
    → writes_from place need i (map f (range_with_len i count)) ≡ map (λ k. answered (write place need k (f k)) reply.Wrote) (range_with_len i count)
writes-counted place need f i zero = refl
writes-counted place need f i (suc count) =
    let next : suc i ≡ i + 1 = omega arith in
    ap (λ ms. answered (write place need i (f i)) reply.Wrote ∷ ms)
    (ap (λ k. writes_from place need k (map f (range_with_len (i + 1) count))) next ∙ writes-counted place need f (i + 1) count)

-- there are so many of these numbers, each of 64 bits
pub counted-long : (from count : ℕ) → length (numbers_from from count) ≡ count
counted-long from count = length-map-range_with_len (λ i. (from + i) % 2 ^ 64) 0 count

pub counted-small : (from count k : ℕ) → k < count → slice_index (numbers_from from count) k < 2 ^ 64
counted-small from count k has =
    rw (get_or-map-range_with_len (λ i. (from + i) % 2 ^ 64) 0 count k k 0 has (omega arith)) (omega arith)

pub wrote-counted : (place : ℕ) (need : Need) (from count : ℕ) → writes_from place need 0 (numbers_from from count) ≡ wrote place need from count
wrote-counted place need from count = writes-counted place need (λ i. (from + i) % 2 ^ 64) 0 count

pub has-filled :
    (h : HeapFields) (p q : Pass) (place : ℕ) (need : Need) (from count : ℕ) → IsOf h p → IsIdle p.errand
    → LeadsBy (CallsOnWord h) p (wrote place need from count) q → HasFilled h p count q
has-filled h p q place need from count of idle on =
    let numbers = numbers_from from count in
    let by = subst (λ ms. LeadsBy (CallsOnWord h) p ms q) (sym (wrote-counted place need from count)) on in
    subst (λ n. HasFilled h p n q) (writes-long place need 0 numbers ∙ counted-long from count)
    (has-made h p q (writes_from place need 0 numbers) of idle (on-writes place need 0 numbers) by)

-- the usable words of a block that a pass owns lie in the region
pub own-within :
    (h : HeapFields) (p : Pass) (place : ℕ) (need : Need) → IsOf h p → OwnsAfter (seen p) p.errand.caller place need
    → IsNeed need × (place + 1 + usable_words need ≤ h.region.words)
own-within h p place need of owned =
    let own = heap-at h p place need of owned in
    let within : place + 1 + usable_words need ≤ arena_words h.layout =
    subst (λ g. place + 1 + usable_words need ≤ arena_words g) (of-laid h p of) (payload-end p.errand.geometry place need own) in
    (own.0, omega (arith, within, arena-placed h.layout, h.long))

-- the reads and writes of a copy are calls on words
copied-one :
    (from : ℕ) (from_need : Need) (to : ℕ) (to_need : Need) (words : List ℕ) (i : ℕ) (more : List Made) → AreOnWords more
    → AreOnWords (copied_word from from_need to to_need words i ++ more)
copied-one from from_need to to_need words i more on = elim (cases_lt i (length words)) [
  | inl inside ↦ subst (λ (ms : List Made). AreOnWords (ms ++ more)) (sym (copied-read from from_need to to_need words i inside)) (tt, (tt, on))
  | inr past ↦ subst (λ (ms : List Made). AreOnWords (ms ++ more)) (sym (copied-past from from_need to to_need words i past)) (tt, on)
]

copied-from :
    (from : ℕ) (from_need : Need) (to : ℕ) (to_need : Need) (words : List ℕ) (i n : ℕ)
    → AreOnWords (flat_map (copied_word from from_need to to_need words) (range_with_len i n))
copied-from from from_need to to_need words i zero = tt
copied-from from from_need to to_need words i (suc n) =
    copied-one from from_need to to_need words i (flat_map (copied_word from from_need to to_need words) (range_with_len (i + 1) n))
    (copied-from from from_need to to_need words (i + 1) n)

-- so who copied is of its heap still, and owns what it owned
pub has-copied :
    (h : HeapFields) (p q : Pass) (from : ℕ) (from_need : Need) (to : ℕ) (to_need : Need) → IsOf h p → IsIdle p.errand
    → (c : Copies (CallsOnWord h) p from from_need to to_need q) → HasFilled h p (length (copied from from_need to to_need c.0 (usable_words to_need))) q
has-copied h p q from from_need to to_need of idle c =
    has-made h p q (copied from from_need to to_need c.0 (usable_words to_need)) of idle
    (copied-from from from_need to to_need c.0 0 (usable_words to_need)) c.2
