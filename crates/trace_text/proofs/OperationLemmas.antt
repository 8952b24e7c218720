-- What holds of each operation, and what follows of them all.
use Rattle.std.proofs.Common.{◌≡◌, ℕ, ◌^◌, ◌<◌, ◌≤◌, Bool, true, false, cond, eqb, List, [], ◌∷◌, length, Option, Some, None, refl, sym, ap, ◌∙◌, subst, arith, rules, inl, inr}
use Rattle.std.specs.List.{AllByRecursion}
use Rattle.std.proofs.lemmas.Bool.{cases_Bool, eqb-true}
use Rattle.trace_text.specs.declared.limits.TheConstants.{COMMENT}
use Rattle.trace_text.specs.declared.kinds.Kind.{Kind}
use Rattle.trace_text.specs.declared.kinds.Kind.TheVariants.{Register, Need, Value, Shelf}
use Rattle.trace_text.specs.declared.kinds.Kinds.{Kinds}
use Rattle.trace_text.specs.declared.kinds.Kinds.TheVariants as kinds
use Rattle.trace_text.specs.declared.kinds.Numbers.{Numbers}
use Rattle.trace_text.specs.declared.trace.Op.{Op}
use Rattle.trace_text.specs.declared.trace.Op.TheVariants.{Alloc}
use Rattle.trace_text.specs.declared.trace.Version.{Version}
use Rattle.trace_text.specs.declared.trace.Version.TheVariants.{One, Two}
use Rattle.trace_text.specs.Operations.{Written, Maker, written_of, written_by, makers, made_by, maker_in, maker_of, made_by_some, made_in, kinds_by, kinds_in, is_since, IsSince, IsKind, AreWithin, decimals, most_of}
use Rattle.trace_text.specs.Text.{op_fields}
use Rattle.trace_text.specs.Traces.{IsOp, IsAllowed}
use Rattle.trace_text.proofs.PrintedLemmas.{IsField, AreFields, IsField-decimal, is_graphic}

-- numbers, as far as there are kinds for them
abbrev pub cut : Kinds → Numbers → Numbers
cut (kinds.One a) n = record { first = n.first; second = 0; third = 0 }
cut (kinds.Two a b) n = record { first = n.first; second = n.second; third = 0 }
cut (kinds.Three a b c) n = n

-- what a maker makes of numbers is written with them, and but for them as all that it makes
abbrev pub IsWritten : Numbers → Maker → Type 0
IsWritten n maker = written_of (made_by maker n) ≡ record (written_by maker) { numbers = cut (written_by maker).kinds n }

-- ---- what holds of each operation, by its definition

all_written : (n : Numbers) → AllByRecursion (IsWritten n) makers
all_written n = search rules

-- an operation is what is made of its letter and its numbers
remade : (op : Op) → made_in (written_of op).letter (written_of op).numbers ≡ Some op
unfolding maker_in
remade (Alloc r need v) = refl
remade op = refl

-- a letter can be printed, and begins no comment
letter_is : (op : Op) → (is_graphic (written_of op).letter ≡ true) × (eqb (written_of op).letter COMMENT ≡ false)
letter_is (Alloc r need v) = (refl, refl)
letter_is op = (refl, refl)

-- ---- makers

some_is : {A : Type 0} (x y : A) (o : Option A) → o ≡ Some x → o ≡ Some y → x ≡ y
some_is x y o e f = cc

-- the maker that is found for a letter has it
found : (letter : ℕ) (n : Numbers) (ms : List Maker) (maker : Maker) → AllByRecursion (IsWritten n) ms → maker_in letter ms ≡ Some maker → (letter ≡ (written_by maker).letter) × IsWritten n maker
unfolding maker_in
found letter n [] maker all e = absurd cc
found letter n (first ∷ ms) maker all e =
    elim (cases_Bool (eqb letter (written_by first).letter)) [
      | inl same ↦
          let here : Some first ≡ Some maker = rw same at e in
          let is : first ≡ maker = cc in
          subst (λ m. (letter ≡ (written_by m).letter) × IsWritten n m) is (eqb-true _ _ same, all.0)
      | inr differs ↦ let rest : maker_in letter ms ≡ Some maker = rw differs at e in found letter n ms maker all.1 rest
    ]

-- what the maker of a letter makes of numbers is written so
pub made_as : (letter : ℕ) (n : Numbers) (maker : Maker) → maker_of letter ≡ Some maker → (letter ≡ (written_by maker).letter) × IsWritten n maker
made_as letter n maker e = found letter n makers maker (all_written n) e

-- what was made of a letter, was made by its maker
made_some : (o : Option Maker) (n : Numbers) (op : Op) → made_by_some o n ≡ Some op → (maker : Maker) × (o ≡ Some maker) × (made_by maker n ≡ op)
made_some None n op e = absurd cc
made_some (Some maker) n op e = (maker, refl, cc)

-- each operation has a maker
pub maker : (op : Op) → (maker : Maker) × (maker_of (written_of op).letter ≡ Some maker) × (made_by maker (written_of op).numbers ≡ op)
maker op = made_some (maker_of (written_of op).letter) (written_of op).numbers op (remade op)

pub kept_some : {A : Type 0} (b : Bool) (x y : A) → cond b (Some x) None ≡ Some y → (b ≡ true) × (x ≡ y)
kept_some true x y e = (refl, cc)
kept_some false x y e = absurd cc

-- the kinds behind a letter are those of its maker
pub kinds_some : (version : Version) (o : Option Maker) (k : Kinds) → kinds_by version o ≡ Some k → (maker : Maker) × (o ≡ Some maker) × (is_since (written_by maker).since version ≡ true) × ((written_by maker).kinds ≡ k)
kinds_some version None k e = absurd cc
kinds_some version (Some maker) k e = let both = kept_some (is_since (written_by maker).since version) (written_by maker).kinds k e in (maker, refl, both.0, both.1)

-- ---- numbers of their kinds

pub within_cut : (k : Kinds) (n : Numbers) → AreWithin k n → AreWithin k (cut k n)
within_cut (kinds.One a) n h = h
within_cut (kinds.Two a b) n h = h
within_cut (kinds.Three a b c) n h = h

decimals_cut : (k : Kinds) (n : Numbers) → decimals k (cut k n) ≡ decimals k n
decimals_cut (kinds.One a) n = refl
decimals_cut (kinds.Two a b) n = refl
decimals_cut (kinds.Three a b c) n = refl

-- a number of a kind is small
pub kind_small : (a : Kind) (n : ℕ) → IsKind a n → n < 2 ^ 64
kind_small Register n h = omega arith
kind_small Need n h = omega arith
kind_small Value n h = h
kind_small Shelf n h = omega arith

pub kind_most : (a : Kind) (n : ℕ) → IsKind a n → n ≤ most_of a
kind_most Register n h = omega arith
kind_most Need n h = h
kind_most Value n h = omega arith
kind_most Shelf n h = omega arith

pub most_kind : (a : Kind) (n : ℕ) → n ≤ most_of a → IsKind a n
most_kind Register n h = omega arith
most_kind Need n h = h
most_kind Value n h = omega arith
most_kind Shelf n h = omega arith

-- ---- versions

pub since_is : (since version : Version) → is_since since version ≡ true → IsSince since version
since_is One version e = tt
since_is Two One e = absurd cc
since_is Two Two e = refl

pub since_test : (since version : Version) → IsSince since version → is_since since version ≡ true
since_test One version h = refl
since_test Two One h = absurd cc
since_test Two Two h = refl

-- ---- what is made of a letter and numbers

-- an operation, by how it is written
abbrev pub IsBy : Version → ℕ → Kinds → Numbers → Op → Type 0
IsBy version letter k n op = IsOp op × IsAllowed version op × (op_fields op ≡ (letter ∷ []) ∷ decimals k n)

pub made_named :
    (version : Version) (letter : ℕ) (maker : Maker) (n : Numbers) → maker_of letter ≡ Some maker → is_since (written_by maker).since version ≡ true
    → AreWithin (written_by maker).kinds n → IsBy version letter (written_by maker).kinds n (made_by maker n)
unfolding op_fields
made_named version letter maker n e since h =
    let is = made_as letter n maker e in
    let k = (written_by maker).kinds in (
      subst (λ (w : Written). AreWithin w.kinds w.numbers) (sym is.1) (within_cut k n h),
      subst (λ (w : Written). IsSince w.since version) (sym is.1) (since_is (written_by maker).since version since),
      ap (λ (w : Written). (w.letter ∷ []) ∷ decimals w.kinds w.numbers) is.1
          ∙ ap (λ (l : ℕ). (l ∷ []) ∷ decimals k (cut k n)) (sym is.0)
          ∙ ap (λ ds. (letter ∷ []) ∷ ds) (decimals_cut k n),
    )

-- what the kinds behind a letter and the numbers there make
pub made_of_kinds :
    (version : Version) (letter : ℕ) (k : Kinds) (n : Numbers) (op : Op) → kinds_in version letter ≡ Some k → made_in letter n ≡ Some op → AreWithin k n
    → IsBy version letter k n op
made_of_kinds version letter k n op said made h =
    let one = kinds_some version (maker_of letter) k said in
    let other = made_some (maker_of letter) n op made in
    let same = some_is other.0 one.0 (maker_of letter) other.1 one.1 in
    let is : made_by one.0 n ≡ op = ap (λ m. made_by m n) (sym same) ∙ other.2 in
    let by = made_named version letter one.0 n one.1 one.2 (subst (λ k. AreWithin k n) (sym one.3) h) in
    subst (λ op. IsBy version letter k n op) is (subst (λ k. IsBy version letter k n (made_by one.0 n)) one.3 by)

-- ---- the fields of a line

decimals_fields : (k : Kinds) (n : Numbers) → AreWithin k n → AreFields (decimals k n)
decimals_fields (kinds.One a) n h = (IsField-decimal n.first (kind_small a n.first h), tt)
decimals_fields (kinds.Two a b) n h = (IsField-decimal n.first (kind_small a n.first h.0), (IsField-decimal n.second (kind_small b n.second h.1), tt))
decimals_fields (kinds.Three a b c) n h =
    (IsField-decimal n.first (kind_small a n.first h.0), (IsField-decimal n.second (kind_small b n.second h.1), (IsField-decimal n.third (kind_small c n.third h.2), tt)))

letter_field : (letter : ℕ) → is_graphic letter ≡ true → IsField (letter ∷ [])
letter_field letter e = record { some = refl; graphic = rw e refl }

pub op_are_fields : (op : Op) → IsOp op → AreFields (op_fields op)
unfolding op_fields
op_are_fields op h = (letter_field (written_of op).letter (letter_is op).0, decimals_fields (written_of op).kinds (written_of op).numbers h)

pub op_some : (op : Op) → 0 < length (op_fields op)
unfolding op_fields
op_some op = omega arith

-- the letter of an operation begins no comment
pub no_comment : (op : Op) → eqb (written_of op).letter COMMENT ≡ false
no_comment op = (letter_is op).1

-- the letter of a maker can be printed
pub letter_graphic : (letter : ℕ) (maker : Maker) → maker_of letter ≡ Some maker → is_graphic letter ≡ true
letter_graphic letter maker e =
    let zeros : Numbers = record { first = 0; second = 0; third = 0 } in
    ap is_graphic (made_as letter zeros maker e).0 ∙ (letter_is (made_by maker zeros)).0
