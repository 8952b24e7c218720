-- What bars a call, and what one has come to that nothing bars.
use Rattle.std.proofs.Common.{ℕ, ◌≡◌, ◌<◌, ◌≤◌, ◌+◌, Bool, true, false, Option, Some, None, Result, Err, refl, sym, ap, ◌∙◌, subst}
use Rattle.std.specs.Prelude.{not, nat_lt, nat_le, is_none}
use Rattle.std.proofs.lemmas.Bool.{le-ltb, lt-leb}
use Rattle.heap_geometry.specs.declared.limits.TheConstants.{LARGE_MOST, SHELVES}
use Rattle.heap_geometry.specs.Need.{usable_words}
use Rattle.errand_steps.specs.Points.{is_idle}
use Rattle.live_heap.specs.declared.block.Block.{Block}
use Rattle.balloc_c.specs.declared.kept.Kept.{Kept}
use Rattle.balloc_c.specs.declared.kept.Kept.TheVariants as kept
use Rattle.balloc_c.specs.declared.lent.LentBlock.{LentBlock}
use Rattle.balloc_c.specs.Kept.{is_out}
use Rattle.live_heap.specs.declared.pass.Pass.{Pass}
use Rattle.block_cache.specs.declared.cache.Cache.{Cache}
use Rattle.balloc_c.specs.declared.refusal.Refusal.{Refusal}
use Rattle.balloc_c.specs.declared.refusal.Refusal.TheVariants as refusal
use Rattle.balloc_c.specs.declared.table.Table.{Table}
use Rattle.balloc_c.specs.Numbers.{named}
use Rattle.balloc_c.specs.Outcomes.{Answers, alloc_bar, barred, free_bar, is_busy, lacks_word, names_none, names_out, put_bar, resume_bar, take_bar, word_bar}
use Rattle.balloc_c.specs.Ranges.{lacks_range, range_bar}

pub barred-by : (b : Bool) (cause : Refusal) (rest : Option Refusal) → b ≡ true → barred b cause rest ≡ Some cause
barred-by b cause rest is = ap (λ (x : Bool). barred x cause rest) is

pub not-barred : (b : Bool) (cause : Refusal) (rest : Option Refusal) → b ≡ false → barred b cause rest ≡ rest
not-barred b cause rest is = ap (λ (x : Bool). barred x cause rest) is

-- a call that is barred answers with its cause
pub refuses :
    {A : Type 0} (bar : Option Refusal) (cause : Refusal) (Makes : Result A Refusal → Cache → Table → Type 0) (c : Cache) (t : Table)
    → bar ≡ Some cause → Answers bar Makes c t (Err cause) c t
refuses bar cause Makes c t is = subst (λ (b : Option Refusal). Answers b Makes c t (Err cause) c t) (sym is) (refl, refl, refl)

-- a call that isn't barred answers with what it made
pub makes :
    {A : Type 0} (bar : Option Refusal) (Makes : Result A Refusal → Cache → Table → Type 0) (c : Cache) (t : Table)
    (result : Result A Refusal) (d : Cache) (u : Table) → bar ≡ None → Makes result d u → Answers bar Makes c t result d u
makes bar Makes c t result d u is made = subst (λ (b : Option Refusal). Answers b Makes c t result d u) (sym is) made

-- a pass in a call is barred, and one in none isn't
pub in-call : (p : Pass) (rest : Option Refusal) → is_idle p.errand.point ≡ false → barred (is_busy p) refusal.InCall rest ≡ Some refusal.InCall
in-call p rest busy = barred-by (is_busy p) refusal.InCall rest (ap not busy)

pub in-none : (p : Pass) (rest : Option Refusal) → is_idle p.errand.point ≡ true → barred (is_busy p) refusal.InCall rest ≡ rest
in-none p rest idle = not-barred (is_busy p) refusal.InCall rest (ap not idle)

-- a call on a number that names no block is barred
pub no-block :
    (p : Pass) (t : Table) (number : ℕ) (rest : Option Refusal) → is_idle p.errand.point ≡ true → named t number ≡ None
    → barred (is_busy p) refusal.InCall (barred (names_none t number) refusal.NoBlock rest) ≡ Some refusal.NoBlock
no-block p t number rest idle none =
    in-none p (barred (names_none t number) refusal.NoBlock rest) idle ∙ barred-by (names_none t number) refusal.NoBlock rest (ap is_none none)

pub some-block :
    (p : Pass) (t : Table) (number : ℕ) (rest : Option Refusal) (block : Kept) → is_idle p.errand.point ≡ true → named t number ≡ Some block
    → barred (is_busy p) refusal.InCall (barred (names_none t number) refusal.NoBlock rest) ≡ rest
some-block p t number rest block idle names =
    in-none p (barred (names_none t number) refusal.NoBlock rest) idle ∙ not-barred (names_none t number) refusal.NoBlock rest (ap is_none names)

-- one whose words are home isn't, by the first three causes; one whose words are out is, by the third
pub a-block :
    (p : Pass) (t : Table) (number : ℕ) (rest : Option Refusal) (block : Block) → is_idle p.errand.point ≡ true → named t number ≡ Some (kept.Home block)
    → barred (is_busy p) refusal.InCall (barred (names_none t number) refusal.NoBlock (barred (names_out t number) refusal.Out rest)) ≡ rest
a-block p t number rest block idle names =
    some-block p t number (barred (names_out t number) refusal.Out rest) (kept.Home block) idle names
    ∙ not-barred (names_out t number) refusal.Out rest (ap is_out names)

pub out-block :
    (p : Pass) (t : Table) (number : ℕ) (rest : Option Refusal) (lent : LentBlock) → is_idle p.errand.point ≡ true → named t number ≡ Some (kept.Out lent)
    → barred (is_busy p) refusal.InCall (barred (names_none t number) refusal.NoBlock (barred (names_out t number) refusal.Out rest)) ≡ Some refusal.Out
out-block p t number rest lent idle names =
    some-block p t number (barred (names_out t number) refusal.Out rest) (kept.Out lent) idle names
    ∙ barred-by (names_out t number) refusal.Out rest (ap is_out names)

-- calls that nothing bars
pub free-made : (p : Pass) (t : Table) (number : ℕ) (block : Block) → is_idle p.errand.point ≡ true → named t number ≡ Some (kept.Home block) → free_bar p t number ≡ None
free-made p t number block idle names = a-block p t number None block idle names

pub word-made :
    (p : Pass) (t : Table) (number i : ℕ) (block : Block) → is_idle p.errand.point ≡ true → named t number ≡ Some (kept.Home block)
    → i < usable_words block.need → word_bar p t number i ≡ None
word-made p t number i block idle names has =
    a-block p t number (barred (lacks_word (named t number) i) refusal.NoWord None) block idle names
    ∙ not-barred (lacks_word (named t number) i) refusal.NoWord None
    (ap (λ (slot : Option Kept). lacks_word slot i) names ∙ lt-leb (usable_words block.need) i has)

pub range-made :
    (p : Pass) (t : Table) (number from count : ℕ) (block : Block) → is_idle p.errand.point ≡ true → named t number ≡ Some (kept.Home block)
    → from + count ≤ usable_words block.need → range_bar p t number from count ≡ None
range-made p t number from count block idle names has =
    a-block p t number (barred (lacks_range (named t number) from count) refusal.NoWord None) block idle names
    ∙ not-barred (lacks_range (named t number) from count) refusal.NoWord None
    (ap (λ (slot : Option Kept). lacks_range slot from count) names ∙ le-ltb (usable_words block.need) (from + count) has)

pub put-made :
    (p : Pass) (t : Table) (number shelf : ℕ) (block : Block) → is_idle p.errand.point ≡ true → named t number ≡ Some (kept.Home block)
    → shelf < SHELVES → put_bar p t number shelf ≡ None
put-made p t number shelf block idle names has =
    a-block p t number (barred (nat_le SHELVES shelf) refusal.NoShelf None) block idle names
    ∙ not-barred (nat_le SHELVES shelf) refusal.NoShelf None (lt-leb SHELVES shelf has)

pub alloc-made : (p : Pass) (words : ℕ) → is_idle p.errand.point ≡ true → words ≤ LARGE_MOST → alloc_bar p words ≡ None
alloc-made p words idle has =
    in-none p (barred (nat_lt LARGE_MOST words) refusal.TooLarge None) idle
    ∙ not-barred (nat_lt LARGE_MOST words) refusal.TooLarge None (le-ltb LARGE_MOST words has)

pub take-made : (p : Pass) (shelf : ℕ) → is_idle p.errand.point ≡ true → shelf < SHELVES → take_bar p shelf ≡ None
take-made p shelf idle has =
    in-none p (barred (nat_le SHELVES shelf) refusal.NoShelf None) idle
    ∙ not-barred (nat_le SHELVES shelf) refusal.NoShelf None (lt-leb SHELVES shelf has)

pub resume-made : (p : Pass) → is_idle p.errand.point ≡ false → resume_bar p ≡ None
resume-made p busy = not-barred (is_idle p.errand.point) refusal.Idle None busy
