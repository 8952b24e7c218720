-- The blocks of a table are freed one after the other.
use Rattle.std.proofs.Common.{Bool, true, false, true≢false, ◌≢◌, ℕ, zero, suc, ◌≡◌, ◌<◌, ◌≤◌, ◌+◌, Option, Some, None, List, [], ◌∷◌, ◌++◌, length, take, drop, slice_index_or, refl, sym, ap, ◌∙◌, subst, append-nil, arith, inl, inr}
use Rattle.std.proofs.lemmas.List.{drop_all, take_all, take_more}
use Rattle.std.proofs.lemmas.Bool.Decides.{eqb_tells}
use Rattle.live_heap.specs.declared.answers.FreeAnswer.{FreeAnswer}
use Rattle.live_heap.specs.declared.answers.FreeAnswer.TheVariants as free_answer
use Rattle.live_heap.specs.declared.block.Block.{Block}
use Rattle.balloc_c.specs.declared.kept.Kept.{Kept}
use Rattle.balloc_c.specs.declared.kept.Kept.TheVariants as kept
use Rattle.balloc_c.specs.Kept.{block_of, content_of, is_laid, is_out}
use Rattle.balloc_c.specs.Tended.{Stands}
use Rattle.live_heap.specs.Heaps.{HeapFields}
use Rattle.live_heap.specs.Passes.{IsHome}
use Rattle.live_heap.specs.declared.pass.Pass.{Pass}
use Rattle.errand_steps.specs.Begins.{IsIdle}
use Rattle.block_cache.specs.declared.cache.Cache.{Cache}
use Rattle.block_cache.specs.Caches.{stacks_in}
use Rattle.block_cache.proofs.MagazineLemmas.{room-or-not}
use Rattle.balloc_c.specs.declared.table.Slot.{Slot}
use Rattle.balloc_c.specs.declared.table.Table.{Table}
use Rattle.std.specs.Prelude.{if◌then◌else◌}
use Rattle.std.proofs.lemmas.Bool.{cases_Bool}
use Rattle.errand_steps.specs.Points.{is_idle}
use Rattle.balloc_c.specs.declared.refusal.Refusal.TheVariants as refusal
use Rattle.balloc_c.specs.Closed.{FreesAll, FreesKept, FreesSlot, FreesTable, StopsAt, has_out, leave_bar}
use Rattle.balloc_c.specs.Outcomes.{barred}
use Rattle.balloc_c.proofs.BarLemmas.{barred-by, in-none, not-barred}
use Rattle.balloc_c.specs.Through.{IsFree}
use Rattle.balloc_c.specs.Slots.{block_at, block_in, blocks_of, list_of, no_slot, set_block, with_block}
use Rattle.balloc_c.proofs.Slots.{about, block-set_other, block-set_same, blocks-append, by_case}

frees-more :
    (p q r : Cache) (blocks : List Kept) (block : Kept) → FreesAll p blocks q → FreesKept q block free_answer.Freed r
    → FreesAll p (blocks ++ block ∷ []) r
frees-more p q r [] block freed one = (r, subst (λ (s : Cache). FreesKept s block free_answer.Freed r) freed one, refl)
frees-more p q r (b ∷ bs) block freed one = (freed.0, freed.1, frees-more freed.0 q r bs block freed.2 one)

frees-slot :
    (p q r : Cache) (blocks : List Kept) (slot : Option Kept) → FreesAll p blocks q → FreesSlot q slot free_answer.Freed r
    → FreesAll p (blocks ++ list_of slot) r
frees-slot p q r blocks None freed one =
    subst (λ (l : List Kept). FreesAll p l r) (sym (append-nil blocks)) (subst (FreesAll p blocks) (sym one.1) freed)
frees-slot p q r blocks (Some block) freed one = frees-more p q r blocks block freed one

-- the blocks of the first slots are freed, and that of one slot more
pub frees-next :
    (p q r : Cache) (slots : List Slot) (i : ℕ) → i < length slots → FreesAll p (blocks_of (take i slots)) q
    → FreesSlot q (block_at slots i) free_answer.Freed r → FreesAll p (blocks_of (take (i + 1) slots)) r
frees-next p q r slots i within freed one =
    let slot = slice_index_or slots i no_slot in
    subst (λ (l : List Kept). FreesAll p l r)
    (sym (ap blocks_of (take_more slots i no_slot within) ∙ blocks-append (take i slots) (slot ∷ [])))
    (frees-slot p q r (blocks_of (take i slots)) (block_in slot) freed one)

-- a block that is home is freed as it is, and all its words are home
pub frees-home :
    (c : Cache) (it : Kept) (answer : FreeAnswer) (d : Cache) → is_out (Some it) ≡ false → is_laid (Some it) ≡ false → IsFree c (block_of it) answer d
    → FreesKept c it answer d
frees-home c (kept.Home block) answer d out laid freed = freed
frees-home c (kept.Out lent) answer d out laid freed = absurd (true≢false out)
frees-home c (kept.Resting block) answer d out laid freed = freed
frees-home c (kept.Laid memory) answer d out laid freed = absurd (true≢false laid)

pub home-stands :
    (h : HeapFields) (p : Pass) (it : Kept) → is_out (Some it) ≡ false → is_laid (Some it) ≡ false → Stands h p (Some it) → IsHome p (block_of it).place
home-stands h p (kept.Home block) out laid home = home
home-stands h p (kept.Out lent) out laid stands = absurd (true≢false out)
home-stands h p (kept.Resting block) out laid home = home
home-stands h p (kept.Laid memory) out laid stands = absurd (true≢false laid)

same-blocks : (xs ys : List Slot) → length xs ≡ length ys → ((k : ℕ) → block_at xs k ≡ block_at ys k) → blocks_of xs ≡ blocks_of ys
same-blocks [] [] count each = refl
same-blocks [] (y ∷ ys) count each = absurd (omega (arith, count))
same-blocks (x ∷ xs) [] count each = absurd (omega (arith, count))
same-blocks (x ∷ xs) (y ∷ ys) count each =
    ap (λ (b : Option Kept). with_block b (blocks_of xs)) (each 0)
    ∙ ap (with_block (block_in y)) (same-blocks xs ys (omega (arith, count)) (λ k. each (suc k)))

-- the first slots have been emptied, and the others are as they were
pub left-behind :
    (before after : List Slot) (i : ℕ) → length after ≡ length before → ((k : ℕ) → k < i → block_at after k ≡ None)
    → ((k : ℕ) → i ≤ k → block_at after k ≡ block_at before k) → blocks_of after ≡ blocks_of (drop i before)
left-behind [] [] zero count empty rest = refl
left-behind [] [] (suc i) count empty rest = refl
left-behind [] (u ∷ us) i count empty rest = absurd (omega (arith, count))
left-behind (t ∷ ts) [] i count empty rest = absurd (omega (arith, count))
left-behind (t ∷ ts) (u ∷ us) zero count empty rest = same-blocks (u ∷ us) (t ∷ ts) count (λ k. rest k (omega arith))
left-behind (t ∷ ts) (u ∷ us) (suc i) count empty rest =
    ap (λ (b : Option Kept). with_block b (blocks_of us)) (empty 0 (omega arith))
    ∙ left-behind ts us i (omega (arith, count)) (λ k low. empty (suc k) (omega (arith, low))) (λ k high. rest (suc k) (omega (arith, high)))

-- one slot more is empty, and those behind it are as they were
pub empty-next :
    (before slots after : List Slot) (i : ℕ) → i < length slots → ((k : ℕ) → block_at after k ≡ block_at (set_block slots i None) k)
    → ((k : ℕ) → k < i → block_at slots k ≡ None) → (k : ℕ) → k < i + 1 → block_at after k ≡ None
empty-next before slots after i within now empty k low =
    let slot : Slot = record (slice_index_or slots i no_slot) { content = content_of None } in
    by_case
    (λ at. now k ∙ subst (λ (n : ℕ). block_at (set_block slots i None) n ≡ None) (sym at.1) (block-set_same slots i slot within))
    (λ apart. now k ∙ block-set_other slots i k slot apart.1 ∙ empty k (omega (arith, low, apart.1))) (eqb_tells k i)

pub rest-next :
    (before slots after : List Slot) (i : ℕ) → ((k : ℕ) → block_at after k ≡ block_at (set_block slots i None) k)
    → ((k : ℕ) → i ≤ k → block_at slots k ≡ block_at before k) → (k : ℕ) → i + 1 ≤ k → block_at after k ≡ block_at before k
rest-next before slots after i now rest k high =
    let slot : Slot = record (slice_index_or slots i no_slot) { content = content_of None } in
    let apart : k ≢ i = λ at. omega (arith, high, at) in
    now k ∙ block-set_other slots i k slot apart ∙ rest k (omega (arith, high))

-- the frees of the first slots, and what that of the next one came to
pub frees-on :
    (p q r : Cache) (before slots : List Slot) (i : ℕ) (answer : FreeAnswer) → i < length before
    → ((k : ℕ) → i ≤ k → block_at slots k ≡ block_at before k) → FreesAll p (blocks_of (take i before)) q
    → FreesSlot q (block_at slots i) answer r → answer ≡ free_answer.Freed → FreesAll p (blocks_of (take (i + 1) before)) r
frees-on p q r before slots i answer within rest freed one is =
    frees-next p q r before i within freed
    (subst (λ (a : FreeAnswer). FreesSlot q (block_at before i) a r) is
    (subst (λ (b : Option Kept). FreesSlot q b answer r) (rest i (omega arith)) one))

is_freed : FreeAnswer → Bool
is_freed free_answer.Freed = true
is_freed free_answer.Busy = false

busy≢freed : free_answer.Busy ≢ free_answer.Freed
unfolding is_freed
busy≢freed same = true≢false (sym (ap is_freed same))

stops : (p next q : Cache) (before after : List Slot) (i : ℕ) (slot : Option Kept) → i < length before → block_at before i ≡ slot
    → FreesAll p (blocks_of (take i before)) next → FreesSlot next slot free_answer.Busy q → blocks_of after ≡ blocks_of (drop (i + 1) before)
    → StopsAt p (blocks_of before) (blocks_of after) q
stops p next q before after i None within is freed one left = absurd (busy≢freed one.0)
stops p next q before after i (Some block) within is freed one left = record {
  freed = blocks_of (take i before);
  block = block;
  order =
      about before i within ∙ ap (λ (s : Option Kept). blocks_of (take i before) ++ with_block s (blocks_of (drop (i + 1) before))) is
      ∙ ap (λ (l : List Kept). blocks_of (take i before) ++ block ∷ l) (sym left);
  next = next;
  before = freed;
  stopped = one;
}

-- the frees of a table's blocks, where one is interrupted
pub stops-table :
    (p next q : Cache) (t u : Table) (slots : List Slot) (i : ℕ) (answer : FreeAnswer) → i < length t.slots.items
    → i < length slots → length u.slots.items ≡ length t.slots.items → ((k : ℕ) → k < i → block_at slots k ≡ None)
    → ((k : ℕ) → i ≤ k → block_at slots k ≡ block_at t.slots.items k)
    → ((k : ℕ) → block_at u.slots.items k ≡ block_at (set_block slots i None) k) → FreesAll p (blocks_of (take i t.slots.items)) next
    → FreesSlot next (block_at slots i) answer q → answer ≡ free_answer.Busy → FreesTable p t free_answer.Busy q u
stops-table p next q t u slots i answer within here count empty rest now freed one is =
    let before = t.slots.items in
    let after = u.slots.items in
    let left : blocks_of after ≡ blocks_of (drop (i + 1) before) =
    left-behind before after (i + 1) count (empty-next before slots after i here now empty) (rest-next before slots after i now rest) in
    stops p next q before after i (block_at before i) within refl freed
    (subst (λ (a : FreeAnswer). FreesSlot next (block_at before i) a q) is
    (subst (λ (b : Option Kept). FreesSlot next b answer q) (rest i (omega arith)) one)) left

-- the frees of a table's blocks, where all are freed
pub freed-table :
    (p q : Cache) (t u : Table) (i : ℕ) → length t.slots.items ≤ i → length u.slots.items ≡ length t.slots.items
    → ((k : ℕ) → k < i → block_at u.slots.items k ≡ None) → ((k : ℕ) → i ≤ k → block_at u.slots.items k ≡ block_at t.slots.items k)
    → FreesAll p (blocks_of (take i t.slots.items)) q → FreesTable p t free_answer.Freed q u
freed-table p q t u i past count empty rest freed =
    let before = t.slots.items in (
      subst (λ (l : List Slot). FreesAll p (blocks_of l) q) (take_all i before past) freed,
      left-behind before u.slots.items i count empty rest ∙ ap blocks_of (drop_all i before past),
    )

-- a free that has ended leaves the pass in no call
pub freed-idle :
    (c d : Cache) (block : Block) (answer : FreeAnswer) → IsIdle c.pass.errand → IsFree c block answer d → answer ≡ free_answer.Freed
    → IsIdle d.pass.errand
freed-idle c d block answer idle free is =
    let freed : IsFree c block free_answer.Freed d = subst (λ (a : FreeAnswer). IsFree c block a d) is free in
    elim (room-or-not c.magazines.depth (stacks_in c) block.need) [
      | inl room ↦ subst (λ (p : Pass). IsIdle p.errand) (sym (freed.kept room).1.pass) idle
      | inr none ↦ (freed.asked none).0.called.idle
    ]

-- no slot's block is out where none is, and one is where one is
out-or : (one rest : Bool) → (if one then true else rest) ≡ false → (one ≡ false) × (rest ≡ false)
out-or true rest none = absurd (true≢false none)
out-or false rest none = (refl, none)

pub home-at : (slots : List Slot) (i : ℕ) → has_out slots ≡ false → is_out (block_at slots i) ≡ false
home-at [] i none = refl
home-at (slot ∷ slots) zero none = (out-or (is_out (block_in slot)) (has_out slots) none).0
home-at (slot ∷ slots) (suc i) none = home-at slots i (out-or (is_out (block_in slot)) (has_out slots) none).1

pub none-out : (slots : List Slot) → ((i : ℕ) → i < length slots → is_out (block_at slots i) ≡ false) → has_out slots ≡ false
none-out [] each = refl
none-out (slot ∷ slots) each =
    ap (λ (b : Bool). if b then true else has_out slots) (each 0 (omega arith)) ∙ none-out slots (λ i low. each (suc i) (omega (arith, low)))

pub one-out : (slots : List Slot) (i : ℕ) → is_out (block_at slots i) ≡ true → has_out slots ≡ true
one-out slots i out =
    elim (cases_Bool (has_out slots)) [
      | inl some ↦ some
      | inr none ↦ absurd (true≢false (sym out ∙ home-at slots i none))
    ]

-- what bars the frees of all blocks
pub leave-made : (p : Pass) (t : Table) → is_idle p.errand.point ≡ true → has_out t.slots.items ≡ false → leave_bar p t ≡ None
leave-made p t idle home =
    in-none p (barred (has_out t.slots.items) refusal.Out None) idle ∙ not-barred (has_out t.slots.items) refusal.Out None home

pub leave-out : (p : Pass) (t : Table) → is_idle p.errand.point ≡ true → has_out t.slots.items ≡ true → leave_bar p t ≡ Some refusal.Out
leave-out p t idle out =
    in-none p (barred (has_out t.slots.items) refusal.Out None) idle ∙ barred-by (has_out t.slots.items) refusal.Out None out
