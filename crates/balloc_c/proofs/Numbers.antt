-- What numbers name behind a change of a slot.
use Rattle.std.proofs.Common.{ℕ, zero, suc, cond, arith, ◌≡◌, ◌≢◌, ◌<◌, ◌≤◌, true≢false, ◌+◌, ◌*◌, ◌%◌, ◌^◌, ◌==◌, if◌then◌else◌, Bool, true, false, Option, Some, None, List, [], ◌∷◌, ◌++◌, length, length-set, slice_index_or, refl, sym, ap, ◌∙◌, subst}
use Rattle.std.specs.Prelude.{count_by}
use Rattle.std.proofs.lemmas.Bool.{eq-eqb, ne_eqb}
use Rattle.std.proofs.lemmas.Bool.Decides.{eqb_tells, leb_tells}
use Rattle.std.proofs.lemmas.Nat.{mod-mul-add}
use Rattle.std.proofs.lemmas.List.Sums.{sum_by-append, sum_by_push}
use Rattle.std.proofs.Math.Nat.{add_assoc, mod-add-mod, mod-eq_of_lt, mod-lt}
use Rattle.live_heap.specs.declared.block.Block.{Block}
use Rattle.balloc_c.specs.declared.kept.Kept.{Kept}
use Rattle.balloc_c.specs.declared.kept.Kept.TheVariants as kept
use Rattle.balloc_c.specs.Kept.{content_of, seen}
use Rattle.balloc_c.specs.declared.table.Table.{Table}
use Rattle.balloc_c.specs.Numbers.{NamesOneMore, GaveAway, KeepsNumbers, NamesOneLess, named, number_at}
use Rattle.balloc_c.specs.declared.table.Slot.{Slot}
use Rattle.balloc_c.specs.Lending.{Renames}
use Rattle.balloc_c.specs.Packed.{HasOneMoreAtMost}
use Rattle.balloc_c.specs.Slots.{HasAged, IsVacant, age_at, block_at, blocks_of, no_slot, set_block}
use Rattle.balloc_c.proofs.Slots.{age-set, block-set_other, block-set_same, by_case, kept-back}

abbrev none : Option Kept
none = None

both_none : (b : Bool) → (if b then none else none) ≡ none
both_none true = refl
both_none false = refl

pub named-yes : (t : Table) (n : ℕ) → number_at t (n % 2 ^ 32) ≡ n → named t n ≡ seen (block_at t.slots.items (n % 2 ^ 32))
named-yes t n same = ap (λ (b : Bool). if b then seen (block_at t.slots.items (n % 2 ^ 32)) else None) (eq-eqb (number_at t (n % 2 ^ 32)) n same)

named-no : (t : Table) (n : ℕ) → number_at t (n % 2 ^ 32) ≢ n → named t n ≡ None
named-no t n other = ap (λ (b : Bool). if b then seen (block_at t.slots.items (n % 2 ^ 32)) else None) (ne_eqb (number_at t (n % 2 ^ 32)) n other)

named-empty : (t : Table) (n : ℕ) → seen (block_at t.slots.items (n % 2 ^ 32)) ≡ None → named t n ≡ None
named-empty t n empty =
    ap (λ (s : Option Kept). if number_at t (n % 2 ^ 32) == n then s else None) empty ∙ both_none (number_at t (n % 2 ^ 32) == n)

-- a number names the same where its slot is as it was
named-same :
    (t u : Table) (n : ℕ) → block_at u.slots.items (n % 2 ^ 32) ≡ block_at t.slots.items (n % 2 ^ 32)
    → age_at u.slots.items (n % 2 ^ 32) ≡ age_at t.slots.items (n % 2 ^ 32) → named u n ≡ named t n
named-same t u n block age =
    ap (λ (a : ℕ). if a * 2 ^ 32 + n % 2 ^ 32 % 2 ^ 32 == n then seen (block_at u.slots.items (n % 2 ^ 32)) else None) age
    ∙ ap (λ (s : Option Kept). if number_at t (n % 2 ^ 32) == n then seen s else None) block

-- a number that names a block is that of its slot
pub names-itself : (t : Table) (n : ℕ) → named t n ≢ None → number_at t (n % 2 ^ 32) ≡ n
names-itself t n names = by_case (λ same. same.1) (λ other. absurd (names (named-no t n other.1))) (eqb_tells (number_at t (n % 2 ^ 32)) n)

gave-none : (t u : Table) → ((j : ℕ) → age_at u.slots.items j ≡ age_at t.slots.items j) → GaveAway t [] u
gave-none t u ages j =
    let zero : age_at t.slots.items j + 0 ≡ age_at t.slots.items j = omega arith in
    ap (λ (a : ℕ). a % 2 ^ 32) (ages j ∙ sym zero)

-- numbers are kept where all slots are as they were
pub keeps :
    (t u : Table) → ((j : ℕ) → block_at u.slots.items j ≡ block_at t.slots.items j)
    → ((j : ℕ) → age_at u.slots.items j ≡ age_at t.slots.items j) → KeepsNumbers t u
keeps t u blocks ages = record {
  all = λ n. named-same t u n (blocks (n % 2 ^ 32)) (ages (n % 2 ^ 32));
  gave = gave-none t u ages;
}

slot-of : (t : Table) (i : ℕ) → i < 2 ^ 32 → number_at t i % 2 ^ 32 ≡ i
slot-of t i small =
    mod-mul-add (age_at t.slots.items i) (2 ^ 32) (i % 2 ^ 32) (mod-lt i (omega arith)) ∙ mod-eq_of_lt small

-- a table where a slot that nothing was seen in has a block now names one more
pub gains :
    (t u : Table) (i : ℕ) (block : Kept) → i < 2 ^ 32 → seen (block_at t.slots.items i) ≡ None → seen (block_at u.slots.items i) ≡ Some block
    → ((j : ℕ) → j ≢ i → block_at u.slots.items j ≡ block_at t.slots.items j)
    → ((j : ℕ) → age_at u.slots.items j ≡ age_at t.slots.items j) → NamesOneMore t (number_at u i) block u
gains t u i block small vacant full others ages =
    let number = number_at u i in
    let slot : number % 2 ^ 32 ≡ i = slot-of u i small in
    record {
      new = named-empty t number (ap (λ (j : ℕ). seen (block_at t.slots.items j)) slot ∙ vacant);
      here = named-yes u number (ap (number_at u) slot) ∙ ap (λ (j : ℕ). seen (block_at u.slots.items j)) slot ∙ full;
      others = λ n other. by_case
          (λ same.
          named-no u n (λ it. other (sym it ∙ ap (number_at u) same.1))
          ∙ sym (named-empty t n (ap (λ (j : ℕ). seen (block_at t.slots.items j)) same.1 ∙ vacant)))
          (λ apart. named-same t u n (others (n % 2 ^ 32) apart.1) (ages (n % 2 ^ 32)))
          (eqb_tells (n % 2 ^ 32) i);
      gave = gave-none t u ages;
    }

twice : (a : ℕ) → a % 2 ^ 32 % 2 ^ 32 ≡ a % 2 ^ 32
twice a = mod-eq_of_lt (mod-lt a (omega arith))

-- a table where a slot has given its block away names one less
pub loses :
    (t u : Table) (n : ℕ) → named t n ≢ None → seen (block_at u.slots.items (n % 2 ^ 32)) ≡ None
    → ((j : ℕ) → j ≢ n % 2 ^ 32 → block_at u.slots.items j ≡ block_at t.slots.items j)
    → age_at u.slots.items (n % 2 ^ 32) ≡ (age_at t.slots.items (n % 2 ^ 32) + 1) % 2 ^ 32
    → ((j : ℕ) → j ≢ n % 2 ^ 32 → age_at u.slots.items j ≡ age_at t.slots.items j) → NamesOneLess t n u
loses t u n names gone others older ages =
    let i = n % 2 ^ 32 in
    record {
      gone = named-empty u n gone;
      others = λ m other. by_case
          (λ same.
          named-empty u m (ap (λ (j : ℕ). seen (block_at u.slots.items j)) same.1 ∙ gone)
          ∙ sym (named-no t m (λ it. other (sym it ∙ ap (number_at t) same.1 ∙ names-itself t n names))))
          (λ apart. named-same t u m (others (m % 2 ^ 32) apart.1) (ages (m % 2 ^ 32) apart.1))
          (eqb_tells (m % 2 ^ 32) i);
      gave = λ j. by_case
          (λ same.
          let once : count_by (λ s. s == j) (i ∷ []) ≡ 1 =
          sum_by_push (λ s. cond (s == j) 1 0) [] i ∙ ap (λ (b : Bool). 0 + cond b 1 0) same.0 in
          let here : age_at u.slots.items j ≡ (age_at t.slots.items j + 1) % 2 ^ 32 =
          subst (λ (k : ℕ). age_at u.slots.items k ≡ (age_at t.slots.items k + 1) % 2 ^ 32) same.1 older in
          ap (λ (a : ℕ). a % 2 ^ 32) here ∙ twice (age_at t.slots.items j + 1) ∙ ap (λ (k : ℕ). (age_at t.slots.items j + k) % 2 ^ 32) (sym once))
          (λ apart.
          let never : count_by (λ s. s == j) (i ∷ []) ≡ 0 =
          sum_by_push (λ s. cond (s == j) 1 0) [] i ∙ ap (λ (b : Bool). 0 + cond b 1 0) apart.0 in
          let zero : age_at t.slots.items j + 0 ≡ age_at t.slots.items j = omega arith in
          ap (λ (a : ℕ). a % 2 ^ 32) (ages j (λ same. apart.1 (sym same)) ∙ sym zero) ∙ ap (λ (k : ℕ). (age_at t.slots.items j + k) % 2 ^ 32) (sym never))
          (eqb_tells i j);
    }

aged : (a b c r : ℕ) → b * 2 ^ 32 + r ≡ a * 2 ^ 32 + r → b % 2 ^ 32 ≡ (a + c) % 2 ^ 32 → 0 < c → c < 2 ^ 32 → ⊥
aged a b c r same older went few =
    let equal : b ≡ a = omega arith in
    let again : a % 2 ^ 32 ≡ (a + c) % 2 ^ 32 = subst (λ (k : ℕ). k % 2 ^ 32 ≡ (a + c) % 2 ^ 32) equal older in
    omega arith

-- an old number names nothing until its slot's age has come round
pub refused :
    (t u : Table) (slots : List ℕ) (n : ℕ) → named t n ≢ None → GaveAway t slots u → 0 < count_by (λ s. s == n % 2 ^ 32) slots
    → count_by (λ s. s == n % 2 ^ 32) slots < 2 ^ 32 → named u n ≡ None
refused t u slots n names gave some_went few =
    let i = n % 2 ^ 32 in
    by_case
    (λ same. absurd (aged (age_at t.slots.items i) (age_at u.slots.items i) (count_by (λ s. s == i) slots) (i % 2 ^ 32)
    (same.1 ∙ sym (names-itself t n names)) (gave i) some_went few))
    (λ other. named-no u n other.1) (eqb_tells (number_at u i) n)

-- what was given away in two runs
pub gave-more : (t u v : Table) (slots more : List ℕ) → GaveAway t slots u → GaveAway u more v → GaveAway t (slots ++ more) v
gave-more t u v slots more gave later i =
    let a = age_at t.slots.items i in
    let b = age_at u.slots.items i in
    let m = count_by (λ s. s == i) slots in
    let n = count_by (λ s. s == i) more in
    let both : count_by (λ s. s == i) (slots ++ more) ≡ m + n = sum_by-append (λ s. cond (s == i) 1 0) slots more in
    later i ∙ sym (mod-add-mod b (2 ^ 32) n) ∙ ap (λ (k : ℕ). (k + n) % 2 ^ 32) (gave i) ∙ mod-add-mod (a + m) (2 ^ 32) n
    ∙ ap (λ (k : ℕ). k % 2 ^ 32) (add_assoc a m n ∙ ap (λ (k : ℕ). a + k) (sym both))

-- a table keeps its own numbers
pub keeps-itself : (t : Table) → KeepsNumbers t t
keeps-itself t = keeps t t (λ j. refl) (λ j. refl)

-- a table where a block was put into a vacant slot names one more
pub gains-set :
    (t u : Table) (i : ℕ) (block : Block) → i < 2 ^ 32 → IsVacant t.slots.items i → u.slots.items ≡ set_block t.slots.items i (Some (kept.Home block))
    → NamesOneMore t (number_at u i) (kept.Home block) u
gains-set t u i block small vacant set =
    let slot : Slot = record (slice_index_or t.slots.items i no_slot) { content = content_of (Some (kept.Home block)) } in
    gains t u i (kept.Home block) small (ap seen vacant.1)
    (ap seen (ap (λ (l : List Slot). block_at l i) set ∙ block-set_same t.slots.items i slot vacant.0))
    (λ j other. ap (λ (l : List Slot). block_at l j) set ∙ block-set_other t.slots.items i j slot other)
    (λ j. ap (λ (l : List Slot). age_at l j) set ∙ age-set t.slots.items i (Some (kept.Home block)) j vacant.0)

-- a table where a block was taken out of its slot for good names one less
pub loses-set :
    (t u : Table) (l : List Slot) (n : ℕ) → named t n ≢ None → n % 2 ^ 32 < length t.slots.items → l ≡ set_block t.slots.items (n % 2 ^ 32) None
    → HasAged l (n % 2 ^ 32) u.slots.items → NamesOneLess t n u
loses-set t u l n names within set aged =
    let i = n % 2 ^ 32 in
    let slot : Slot = record (slice_index_or t.slots.items i no_slot) { content = content_of None } in
    let ages : (j : ℕ) → age_at l j ≡ age_at t.slots.items j =
    λ j. ap (λ (k : List Slot). age_at k j) set ∙ age-set t.slots.items i None j within in
    loses t u n names
    (ap seen (aged.same i ∙ ap (λ (k : List Slot). block_at k i) set ∙ block-set_same t.slots.items i slot within))
    (λ j other. aged.same j ∙ ap (λ (k : List Slot). block_at k j) set ∙ block-set_other t.slots.items i j slot other)
    (aged.here ∙ ap (λ (a : ℕ). (a + 1) % 2 ^ 32) (ages i))
    (λ j other. aged.others j other ∙ ages j)

-- a table where a block was taken out of its slot and put back keeps its numbers
pub keeps-set :
    (t u : Table) (l : List Slot) (i : ℕ) (block : Kept) → i < length t.slots.items → i < length l → block_at t.slots.items i ≡ Some block
    → l ≡ set_block t.slots.items i None → u.slots.items ≡ set_block l i (Some block) → KeepsNumbers t u
keeps-set t u l i block within still was out back =
    let none : Slot = record (slice_index_or t.slots.items i no_slot) { content = content_of None } in
    let some_block : Slot = record (slice_index_or l i no_slot) { content = content_of (Some block) } in
    keeps t u
    (λ j. by_case
    (λ same.
    ap (block_at u.slots.items) same.1 ∙ ap (λ (k : List Slot). block_at k i) back ∙ block-set_same l i some_block still ∙ kept-back (Some block) ∙ sym was
    ∙ sym (ap (block_at t.slots.items) same.1))
    (λ other.
    ap (λ (k : List Slot). block_at k j) back ∙ block-set_other l i j some_block other.1 ∙ ap (λ (k : List Slot). block_at k j) out
    ∙ block-set_other t.slots.items i j none other.1)
    (eqb_tells j i))
    (λ j.
    ap (λ (k : List Slot). age_at k j) back ∙ age-set l i (Some block) j still ∙ ap (λ (k : List Slot). age_at k j) out
    ∙ age-set t.slots.items i None j within)

-- a block comes behind a change in which none came or went
pub gains-behind : (t m : Table) (number : ℕ) (block : Kept) (u : Table) → KeepsNumbers t m → NamesOneMore m number block u → NamesOneMore t number block u
gains-behind t m number block u kept gained = record {
  new = sym (kept.all number) ∙ gained.new;
  here = gained.here;
  others = λ other apart. gained.others other apart ∙ kept.all other;
  gave = gave-more t m u [] [] kept.gave gained.gave;
}

pub some-not-none : (block : Kept) → Some block ≢ None
some-not-none block same = true≢false (ap is_there same)
  where
    is_there : Option Kept → Bool
    is_there None = false
    is_there (Some b) = true

-- what is seen in a slot is there
pub seen-some : (slot : Option Kept) (block : Kept) → seen slot ≡ Some block → slot ≡ Some block
seen-some None block is = is
seen-some (Some (kept.Home b)) block is = is
seen-some (Some (kept.Out l)) block is = is
seen-some (Some (kept.Resting b)) block is = absurd (some-not-none block (sym is))
seen-some (Some (kept.Laid m)) block is = absurd (some-not-none block (sym is))

pub some-of : (slot : Option Kept) → slot ≢ None → (block : Kept) × (slot ≡ Some block)
some-of None there = absurd (there refl)
some-of (Some block) there = (block, refl)

-- a number that names a block names that in its slot
pub slot-named :
    (t : Table) (n i : ℕ) (block : Kept) → i ≡ n % 2 ^ 32 → named t n ≡ Some block → named t n ≡ block_at t.slots.items i
slot-named t n i block at is =
    let here = named-yes t n (names-itself t n (λ none. some-not-none block (sym is ∙ none))) in
    is ∙ sym (seen-some (block_at t.slots.items (n % 2 ^ 32)) block (sym here ∙ is)) ∙ sym (ap (block_at t.slots.items) at)

-- what is found under a number is not memory that the pass keeps
pub found-seen :
    (t : Table) (n i : ℕ) → i ≡ n % 2 ^ 32 → named t n ≢ None → seen (block_at t.slots.items i) ≢ None
found-seen t n i at names none =
    names (named-yes t n (names-itself t n names) ∙ sym (ap (λ (j : ℕ). seen (block_at t.slots.items j)) at) ∙ none)

pub behind-none : (slots : List Slot) (i : ℕ) → length slots ≤ i → block_at slots i ≡ None
behind-none [] i past = refl
behind-none (x ∷ xs) zero past = absurd (omega (arith, past))
behind-none (x ∷ xs) (suc i) past = behind-none xs i (omega (arith, past))

-- the first number of a table without slots is 0
pub begins-at-zero :
    (t u : Table) (number : ℕ) (block : Kept) → t.slots.items ≡ [] → HasOneMoreAtMost t u → NamesOneMore t number block u → number < 2 ^ 64
    → number ≡ 0
begins-at-zero t u number block bare few gained small =
    let i = number % 2 ^ 32 in
    let names : named u number ≢ None = λ none. some-not-none block (sym gained.here ∙ none) in
    let is : number_at u i ≡ number = names-itself u number names in
    let here : block_at u.slots.items i ≡ Some block = seen-some (block_at u.slots.items i) block (sym (named-yes u number is) ∙ gained.here) in
    let there : i < length u.slots.items =
    by_case (λ past. absurd (some-not-none block (sym here ∙ behind-none u.slots.items i past.1))) (λ low. omega (arith, low.1)) (leb_tells (length u.slots.items) i) in
    let none : length t.slots.items ≡ 0 = ap length bare in
    let held : length (blocks_of t.slots.items) ≡ 0 = ap (λ (l : List Slot). length (blocks_of l)) bare in
    let most : length u.slots.items ≤ length (blocks_of t.slots.items) + 1 = few (omega (arith, none, there)) in
    let first : i ≡ 0 = omega (arith, most, held, there) in
    let age = age_at u.slots.items i in
    let old : age_at t.slots.items i ≡ 0 = ap (λ (l : List Slot). age_at l i) bare in
    let gave : age % 2 ^ 32 ≡ 0 = gained.gave i ∙ ap (λ (n : ℕ). (n + 0) % 2 ^ 32) old in
    let whole : age * 2 ^ 32 + i % 2 ^ 32 ≡ number = is in
    let low : age < 2 ^ 32 = omega (arith, whole, small) in
    let zero_age : age ≡ 0 = sym (mod-eq_of_lt low) ∙ gave in
    let rest : i % 2 ^ 32 ≡ 0 = ap (λ (n : ℕ). n % 2 ^ 32) first in
    omega (arith, whole, zero_age, rest)

-- a number names another block, or the same in another way, where its slot was set anew
renames-set :
    (t u : Table) (middle : List Slot) (number : ℕ) (was now : Kept) → number % 2 ^ 32 < length t.slots.items → named t number ≡ Some was
    → middle ≡ set_block t.slots.items (number % 2 ^ 32) None → u.slots.items ≡ set_block middle (number % 2 ^ 32) (Some now) → seen (Some now) ≡ Some now → Renames t number now u
renames-set t u middle number was now within names out back shows =
    let i = number % 2 ^ 32 in
    let slots = t.slots.items in
    let bare : Slot = record (slice_index_or slots i no_slot) { content = content_of None } in
    let full : Slot = record (slice_index_or middle i no_slot) { content = content_of (Some now) } in
    let still : i < length middle =
    subst (λ (l : List Slot). i < length l) (sym out) (subst (λ (n : ℕ). i < n) (sym (length-set slots i bare)) within) in
    let blocks : (j : ℕ) → j ≢ i → block_at u.slots.items j ≡ block_at slots j =
    λ j other.
    ap (λ (l : List Slot). block_at l j) back ∙ block-set_other middle i j full other ∙ ap (λ (l : List Slot). block_at l j) out
    ∙ block-set_other slots i j bare other in
    let ages : (j : ℕ) → age_at u.slots.items j ≡ age_at slots j =
    λ j. ap (λ (l : List Slot). age_at l j) back ∙ age-set middle i (Some now) j still ∙ ap (λ (l : List Slot). age_at l j) out ∙ age-set slots i None j within in
    let there : number_at t i ≡ number = names-itself t number (λ nothing. some-not-none was (sym names ∙ nothing)) in
    let now_there : number_at u i ≡ number = ap (λ (a : ℕ). a * 2 ^ 32 + i % 2 ^ 32) (ages i) ∙ there in
    record {
      here = named-yes u number now_there ∙ ap (λ (l : List Slot). seen (block_at l i)) back ∙ ap seen (block-set_same middle i full still ∙ kept-back (Some now)) ∙ shows;
      others = λ m other. by_case
          (λ same.
          named-no u m (λ it. other (sym it ∙ ap (number_at u) same.1 ∙ now_there))
          ∙ sym (named-no t m (λ it. other (sym it ∙ ap (number_at t) same.1 ∙ there))))
          (λ apart. named-same t u m (blocks (m % 2 ^ 32) apart.1) (ages (m % 2 ^ 32)))
          (eqb_tells (m % 2 ^ 32) i);
      gave = gave-none t u ages;
    }

pub renames-at :
    (t u : Table) (middle : List Slot) (i number : ℕ) (was now : Kept) → i ≡ number % 2 ^ 32 → i < length t.slots.items → named t number ≡ Some was
    → middle ≡ set_block t.slots.items i None → u.slots.items ≡ set_block middle i (Some now) → seen (Some now) ≡ Some now
    → Renames t number now u
renames-at t u middle i number was now is within names out back shows =
    renames-set t u middle number was now (subst (λ (k : ℕ). k < length t.slots.items) is within) names
    (subst (λ (k : ℕ). middle ≡ set_block t.slots.items k None) is out) (subst (λ (k : ℕ). u.slots.items ≡ set_block middle k (Some now)) is back) shows
