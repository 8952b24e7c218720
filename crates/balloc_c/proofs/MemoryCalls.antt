-- What calls have come to by which memory goes out to C, or comes home.
use Rattle.std.proofs.Common.{ℕ, arith, ◌≡◌, ◌≤◌, true, false, true≢false, Bool, Option, Some, None, Result, Ok, Err, List, refl, sym, ap, ◌∙◌, subst, inl, inr}
use Rattle.std.specs.Prelude.{length, nat_lt, not}
use Rattle.std.proofs.lemmas.List.{length-map, length-replicate}
use Rattle.plain_words.specs.Places.{laid, laids}
use Rattle.live_heap.specs.Memory.{IsMemoryOf}
use Rattle.std.proofs.lemmas.Bool.{cases_Bool, cases_lt, ltb-false}
use Rattle.heap_geometry.specs.declared.limits.TheConstants.{LARGE_MOST, SMALL_MOST}
use Rattle.heap_geometry.specs.declared.need.Need.TheVariants.{Small}
use Rattle.heap_geometry.specs.Need.{need_of, usable_words}
use Rattle.errand_steps.specs.Begins.{IsIdle}
use Rattle.errand_steps.specs.Points.{is_idle}
use Rattle.plain_words.specs.declared.plain.PlainWords.{PlainWords}
use denote.RawPtr.{Ptr, null_ptr}
use Rattle.live_heap.specs.declared.block.Block.{Block}
use Rattle.live_heap.specs.declared.pass.Pass.{Pass}
use Rattle.live_heap.specs.declared.plain.Memory.{Memory}
use Rattle.live_heap.specs.Heaps.{HeapFields}
use Rattle.block_cache.specs.declared.cache.Cache.{Cache}
use Rattle.block_cache.specs.Caches.{stacks_in}
use Rattle.block_cache.proofs.MagazineLemmas.{for-or-not}
use Rattle.balloc_c.specs.declared.kept.Kept.{Kept}
use Rattle.balloc_c.specs.declared.kept.Kept.TheVariants as kept
use Rattle.balloc_c.specs.declared.lent.LentBlock.{LentBlock}
use Rattle.balloc_c.specs.declared.refusal.Refusal.{Refusal}
use Rattle.balloc_c.specs.declared.refusal.Refusal.TheVariants as refusal
use Rattle.balloc_c.specs.declared.table.Table.{Table}
use Rattle.balloc_c.specs.Kept.{block_of, is_out}
use Rattle.balloc_c.specs.declared.hand.Hand.{Hand}
use Rattle.balloc_c.specs.Handled.{IsBackOf}
use Rattle.balloc_c.specs.Hands.{heap_of}
use Rattle.balloc_c.specs.Lending.{AllocatesMemory, AreNumbers, GivesBack, HasComeHome, HasGoneOut, HasToldMemory, IsBackFor, IsRoomFor, NothingWhere, StayOut, StaysHome, TellsMemory, home_bar, memory_at, zeros}
use Rattle.balloc_c.specs.Numbers.{NamesOneMore, named}
use Rattle.balloc_c.specs.Outcomes.{Allocs, Answers, HasAllocated, HasAllocatedNew, alloc_bar, barred, is_busy}
use Rattle.balloc_c.proofs.BarLemmas.{makes, refuses, some-block}
use Rattle.balloc_c.proofs.Enough.{block-enough, no-class}

-- memory that is told, that is told again, and that isn't
abbrev Tells : HeapFields → Cache → Table → ℕ → Ptr → Option PlainWords → Result (Unit {0}) Refusal → Cache → Table → Type 0
Tells h c t number at words outcome e v = TellsMemory h c t number outcome at words e v

pub memory-answers :
    (h : HeapFields) (c : Cache) (t : Table) (number : ℕ) (at : Ptr) (words : Option PlainWords) (block : Block) (memory : Memory) (d : Cache) (u : Table)
    → is_idle c.pass.errand.point ≡ true → named t number ≡ Some (kept.Home block) → words ≡ Some memory.words → at ≡ memory_at h memory.block.place
    → HasGoneOut h c t number memory d u → HasToldMemory h c t number (Ok tt) at words d u
memory-answers h c t number at words block memory d u idle names is begins out = (
  makes (home_bar c t number) (Tells h c t number at words) c t (Ok tt) d u
      (some-block c.pass t number None (kept.Home block) idle names) (inl (memory, is, begins, out)),
  tt,
)

pub memory-again :
    (h : HeapFields) (c : Cache) (t : Table) (number : ℕ) (at : Ptr) (words : Option PlainWords) (lent : LentBlock) → is_idle c.pass.errand.point ≡ true
    → named t number ≡ Some (kept.Out lent) → at ≡ memory_at h lent.place → words ≡ None → HasToldMemory h c t number (Ok tt) at words c t
memory-again h c t number at words lent idle names begins none = (
  makes (home_bar c t number) (Tells h c t number at words) c t (Ok tt) c t
      (some-block c.pass t number None (kept.Out lent) idle names) (inr (lent, names, begins, none, refl, refl)),
  tt,
)

pub memory-refused :
    (h : HeapFields) (c : Cache) (t : Table) (number : ℕ) (cause : Refusal) (at : Ptr) (words : Option PlainWords) → home_bar c t number ≡ Some cause
    → at ≡ null_ptr → words ≡ None → HasToldMemory h c t number (Err cause) at words c t
memory-refused h c t number cause at words bar nowhere none =
    (refuses (home_bar c t number) cause (Tells h c t number at words) c t bar, (nowhere, none))

-- what is given back for a number that names no block whose words are out: nothing; and what for one that does
pub nothing-back : (h : HeapFields) (slot : Option Kept) (back : Option PlainWords) → is_out slot ≡ false → IsBackFor h slot back → back ≡ None
nothing-back h None back home is = is
nothing-back h (Some (kept.Home block)) back home is = is
nothing-back h (Some (kept.Out lent)) back home is = absurd (true≢false home)
nothing-back h (Some (kept.Resting block)) back home is = is
nothing-back h (Some (kept.Laid memory)) back home is = is

pub words-back :
    (h : HeapFields) (lent : LentBlock) (back : Option PlainWords) → IsBackFor h (Some (kept.Out lent)) back
    → (words : PlainWords) × (back ≡ Some words) × IsRoomFor h lent words
words-back h lent None is = absurd is
words-back h lent (Some words) is = (words, refl, is)

-- a call on a pass that is in a call, one for which nothing is given back, and one for which words come home
abbrev pub Calls : Type 1
Calls = Cache → Table → Result (Unit {0}) Refusal → Cache → Table → Type 0

pub stays-busy :
    (h : HeapFields) (c : Cache) (t : Table) (number : ℕ) (holding : PlainWords → List ℕ) (Call : Calls) (back : Option PlainWords)
    → is_busy c.pass ≡ true → Call c t (Err refusal.InCall) c t → GivesBack h c t number holding Call back (Err refusal.InCall) back c t
stays-busy h c t number holding Call None busy refused = (refl, refused)
stays-busy h c t number holding Call (Some words) busy refused = inl (busy, refl, refl, refl, refl)

pub gives-nothing :
    (h : HeapFields) (c : Cache) (t : Table) (number : ℕ) (holding : PlainWords → List ℕ) (Call : Calls) (back left : Option PlainWords)
    (result : Result (Unit {0}) Refusal) (d : Cache) (u : Table) → back ≡ None → left ≡ None → Call c t result d u
    → GivesBack h c t number holding Call back result left d u
gives-nothing h c t number holding Call back left result d u none left_none called =
    subst (λ (o : Option PlainWords). GivesBack h c t number holding Call o result left d u) (sym none) (left_none, called)

pub gives-words :
    (h : HeapFields) (c : Cache) (t : Table) (number : ℕ) (holding : PlainWords → List ℕ) (Call : Calls) (back left : Option PlainWords) (words : PlainWords)
    (result : Result (Unit {0}) Refusal) (e d : Cache) (v u : Table) → back ≡ Some words → left ≡ None → HasComeHome h c t number (holding words) e v
    → Call e v result d u → GivesBack h c t number holding Call back result left d u
gives-words h c t number holding Call back left words result e d v u is left_none home called =
    subst (λ (o : Option PlainWords). GivesBack h c t number holding Call o result left d u) (sym is) (inr (left_none, e, v, home, called))

-- a call that brings home what is home
pub stays-home :
    (c : Cache) (t : Table) (number : ℕ) (block : Kept) → is_idle c.pass.errand.point ≡ true → named t number ≡ Some block → StaysHome c t number (Ok tt) c t
stays-home c t number block idle names =
    makes (home_bar c t number) (λ outcome d u. (outcome ≡ Ok tt) × (d ≡ c) × (u ≡ t)) c t (Ok tt) c t (some-block c.pass t number None block idle names)
    (refl, refl, refl)

pub home-refused : (c : Cache) (t : Table) (number : ℕ) (cause : Refusal) → home_bar c t number ≡ Some cause → StaysHome c t number (Err cause) c t
home-refused c t number cause bar = refuses (home_bar c t number) cause (λ outcome d u. (outcome ≡ Ok tt) × (d ≡ c) × (u ≡ t)) c t bar

-- an allocation that gave a number: nothing barred it, and it leaves the pass in no call
pub record HasGiven (c : Cache) (t : Table) (words number : ℕ) (e : Cache) (v : Table) : Type 0 where
  pub block : Block
  pub names : NamesOneMore t number (kept.Home block) v
  pub enough : words ≤ usable_words block.need
  pub few : words ≤ LARGE_MOST
  pub idle : IsIdle e.pass.errand

answered : (bar : Option Refusal) (c : Cache) (t : Table) (words number : ℕ) (e : Cache) (v : Table)
    → Answers bar (Allocs c t words) c t (Ok number) e v → (bar ≡ None) × Allocs c t words (Ok number) e v
answered None c t words number e v made = (refl, made)
answered (Some cause) c t words number e v (is, same, other) = absurd (let no : Ok number ≡ Err cause = is in cc)

few-of : (words : ℕ) → nat_lt LARGE_MOST words ≡ false → words ≤ LARGE_MOST
few-of words is = ltb-false LARGE_MOST words is

barred-not : (b : Bool) (cause : Refusal) (rest : Option Refusal) → barred b cause rest ≡ None → (b ≡ false) × (rest ≡ None)
barred-not true cause rest is = absurd (let no : Some cause ≡ None = is in cc)
barred-not false cause rest is = (refl, is)

same-ok : (m n : ℕ) (one other : Result ℕ Refusal) → one ≡ Ok m → other ≡ Ok n → one ≡ other → m ≡ n
same-ok m n one other is_one is_other same = cc

few-small : (words class : ℕ) → need_of words ≡ Small class → words ≤ LARGE_MOST
few-small words class is =
    elim (cases_lt SMALL_MOST words) [
      | inl above ↦ absurd (no-class words class above is)
      | inr small ↦ omega (arith, small)
    ]

given-new : (c : Cache) (t : Table) (words number : ℕ) (e : Cache) (v : Table) → HasAllocatedNew c t words (Ok number) e v → HasGiven c t words number e v
given-new c t words number e v allocated =
    let made = answered (alloc_bar c.pass words) c t words number e v allocated in
    let one = barred-not (is_busy c.pass) refusal.InCall (barred (nat_lt LARGE_MOST words) refusal.TooLarge None) made.0 in
    let two = barred-not (nat_lt LARGE_MOST words) refusal.TooLarge None one.1 in
    let idle : IsIdle c.pass.errand =
    elim (cases_Bool (is_idle c.pass.errand.point)) [
      | inl idle ↦ idle
      | inr busy ↦ absurd (true≢false (sym (ap not busy) ∙ one.0))
    ] in
    let block = made.1.0 in
    let told = made.1.2 in
    record {
      block = block;
      names = made.1.1;
      enough = block-enough c e words block (few-of words two.0) told;
      few = few-of words two.0;
      idle = elim (for-or-not (stacks_in c) (need_of words)) [
        | inl has ↦ subst (λ (p : Pass). IsIdle p.errand) (sym (told.served has).2.pass) idle
        | inr none ↦ (told.asked none).0.0.called.idle
      ];
    }

pub has-given : (c : Cache) (t : Table) (words number : ℕ) (e : Cache) (v : Table) → HasAllocated c t words (Ok number) e v → HasGiven c t words number e v
has-given c t words number e v (inl (n, is, woke)) =
    let same : n ≡ number = sym (same-ok number n (Ok number) (Ok n) refl refl is) in
    record {
      block = woke.block;
      names = subst (λ (k : ℕ). NamesOneMore t k (kept.Home woke.block) v) same woke.again.more;
      enough = woke.enough;
      few = few-small words woke.ready.class woke.ready.small;
      idle = subst (λ (d : Cache). IsIdle d.pass.errand) (sym woke.still) woke.idle;
    }
has-given c t words number e v (inr (none, allocated)) = given-new c t words number e v allocated

pub alloc-nothing :
    (h : HeapFields) (c : Cache) (t : Table) (bytes : ℕ) (outcome : Result ℕ Refusal) (at : Ptr) (words : Option PlainWords) (d : Cache) (u : Table)
    → AllocatesMemory h c t bytes outcome at words d u → NothingWhere outcome at words
alloc-nothing h c t bytes (Ok number) at words d u made = tt
alloc-nothing h c t bytes (Err cause) at words d u (inl again) = absurd (let no : Err cause ≡ Ok again.0 = again.1 in cc)
alloc-nothing h c t bytes (Err cause) at words d u (inr made) = (made.1.0, made.1.1)

-- what a handle's pass has given out comes back for it
pub back-of : (was : Option Hand) (hand : Hand) (number : ℕ) (back : Option PlainWords) → was ≡ Some hand → IsBackOf was number back
    → IsBackFor (heap_of hand) (named hand.table number) back
back-of was hand number back is given = subst (λ (o : Option Hand). IsBackOf o number back) is given

-- the words of a block, each laid with 0, are its memory; and so are words that hold numbers
pub zeros-memory :
    (h : HeapFields) (lent : LentBlock) (words laid_words : PlainWords) → IsRoomFor h lent words → laid_words.at ≡ words.at → laid_words.first ≡ words.first
    → laid_words.places ≡ laids (zeros words) → IsMemoryOf h (record { block = block_of (kept.Out lent); words = laid_words })
zeros-memory h lent words laid_words room at first is =
    record {
      at = at ∙ room.at;
      first = first ∙ room.first;
      long = ap length is ∙ length-map (zeros words) laid ∙ length-replicate (length words.places) 0 ∙ room.long;
      laid = (zeros words, is);
    }

pub numbers-memory :
    (h : HeapFields) (lent : LentBlock) (words : PlainWords) → IsRoomFor h lent words → AreNumbers (Some words)
    → IsMemoryOf h (record { block = block_of (kept.Out lent); words = words })
numbers-memory h lent words room are =
    record { at = room.at; first = room.first; long = room.long; laid = are }

pub some-numbers : (back : Option PlainWords) (words : PlainWords) → back ≡ Some words → AreNumbers back → AreNumbers (Some words)
some-numbers back words is are = subst AreNumbers is are

-- no words are left out
pub nothing-left : (outcome : Result (Unit {0}) Refusal) (left : Option PlainWords) → left ≡ None → StayOut outcome left
nothing-left (Ok done) left none = none
nothing-left (Err refusal.InCall) left none = tt
nothing-left (Err cause) left none = none
