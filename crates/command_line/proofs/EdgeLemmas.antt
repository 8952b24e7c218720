-- Reading to the end, and writing in pieces.
use Rattle.std.proofs.Common.{ℕ, ◌≡◌, ◌≤◌, ◌+◌, ◌-◌, List, [], ◌∷◌, ◌++◌, Result, Ok, Err, OnErr, sum, Option, Some, None, IfSome, length, take, drop, append-nil, length-drop, refl, sym, ap, ◌∙◌, arith}
use Rattle.std.proofs.Math.Seq.{take-add, take_all}
use Rattle.std.proofs.KnownBytes.{Appends-trans}
use Rattle.std.specs.Io.KnownBytes.{Appends, Consumes, Keeps}
use Rattle.std.proofs.lemmas.List.Sums.{sum_by-cons}
use Rattle.edge_io.specs.declared.faults.Failed.{Failed}
use Rattle.edge_io.specs.Source.{IsZeroAtEnd}
use Rattle.command_line.specs.Input.{Brings}
use Rattle.command_line.specs.Output.{Offers}

-- what was taken before a read that takes none is all that there was
pub all-taken :
    (before middle : Option (List ℕ)) (bytes : List ℕ) → Consumes before middle bytes → IsZeroAtEnd middle 0
    → IfSome before (λ all. bytes ≡ all)
all-taken None middle bytes taken zero = tt
all-taken (Some xs) None bytes taken zero = absurd taken
all-taken (Some xs) (Some ys) bytes taken zero = sym (append-nil bytes) ∙ ap (λ rest. bytes ++ rest) (sym (zero.0 refl)) ∙ sym taken

-- what is left of a text behind its first bytes
pub rest-of : (text : List ℕ) (done : ℕ) → take (length text - done) (drop done text) ≡ drop done text
rest-of text done = take_all (length text - done) (drop done text) (omega (arith, length-drop done text))

-- a piece more of a text was written
pub written-more :
    (before middle after : Option (List ℕ)) (text : List ℕ) (done count : ℕ)
    → Appends before middle (take done text)
    → Appends middle after (take count (take (length text - done) (drop done text)))
    → Appends before after (take (done + count) text)
written-more before middle after text done count so_far piece =
    rw (take-add done count text) (Appends-trans before middle after _ _ so_far (rw rest-of at piece))

-- reads that each brought some bytes are not more than the bytes
pub brings-each :
    {S : Type 0} (gave : S → ℕ → Result ℕ Failed → S → Type 0) (most : ℕ) (from now : S) (counts : List ℕ) → Brings gave most from counts now
    → length counts ≤ sum counts
brings-each gave most from now [] brings = omega arith
brings-each gave most from now (count ∷ counts) brings =
    omega (arith, brings.3, brings-each gave most from brings.0 counts brings.1, sum_by-cons (λ n. n) count counts)

-- the reads that brought bytes are at most one more than the most bytes after which a read is made
pub brings-few :
    {S : Type 0} (gave : S → ℕ → Result ℕ Failed → S → Type 0) (most : ℕ) (from now : S) (counts : List ℕ) → Brings gave most from counts now
    → length counts ≤ most + 1
brings-few gave most from now [] brings = omega arith
brings-few gave most from now (count ∷ counts) brings = omega (arith, brings.2, brings-each gave most from brings.0 counts brings.1)

-- writes that each took some bytes are not more than the bytes
pub offers-few :
    {K : Type 0} (wrote : K → List ℕ → Result ℕ Failed → K → Type 0) (text : List ℕ) (from now : K) (counts : List ℕ)
    → Offers wrote text from counts now → length counts ≤ sum counts
offers-few wrote text from now [] offers = omega arith
offers-few wrote text from now (count ∷ counts) offers =
    omega (arith, offers.2, offers-few wrote text from offers.0 counts offers.1, sum_by-cons (λ n. n) count counts)

-- a fact that is so at an error as well
pub on-err : {T E : Type 0} {P : Type 0} (r : Result T E) → P → OnErr r P
on-err (Ok x) p = tt
on-err (Err e) p = p

-- a text was written, and nothing more
pub written-kept : (before middle after : Option (List ℕ)) (bytes : List ℕ) → Appends before middle bytes → Keeps middle after → Appends before after bytes
written-kept None middle after bytes so_far kept = tt
written-kept (Some xs) None after bytes so_far kept = absurd so_far
written-kept (Some xs) (Some ys) None bytes so_far kept = absurd kept
written-kept (Some xs) (Some ys) (Some zs) bytes so_far kept = kept ∙ so_far
