-- Fields of bits, joined and parted.
use Rattle.std.proofs.Common.{ℕ, ◌≡◌, ◌+◌, ◌*◌, ◌/◌, ◌%◌, ◌^◌, ◌<◌, List, [], ◌∷◌, sum, arith, refl, ap, lit<}
use Rattle.std.proofs.Math.Nat.{add_comm}
use Rattle.std.proofs.lemmas.Nat.{pow_pos, pow-add, mod_below, div-mul-add, mod-mul-add, mul-add-lt, shr_below}
use Rattle.std.proofs.lemmas.List.Sums.{sum_by-cons}
use Rattle.packed_words.specs.Fields.{Fit, joined, parted}

-- the low bits of a number under another
low_bits : (bits low high : ℕ) → low < 2 ^ bits → (low + high * 2 ^ bits) % 2 ^ bits ≡ low
low_bits bits low high fits = rw (add_comm low (high * 2 ^ bits)) (mod-mul-add high (2 ^ bits) low fits)

-- the high bits of a number above another
high_bits : (bits low high : ℕ) → low < 2 ^ bits → (low + high * 2 ^ bits) / 2 ^ bits ≡ high
high_bits bits low high fits = rw (add_comm low (high * 2 ^ bits)) (div-mul-add high (2 ^ bits) low fits)

-- the bits of some fields: those of the first, and those above it
sum-cons : (bits : ℕ) (more : List ℕ) → sum (bits ∷ more) ≡ bits + sum more
sum-cons = sum_by-cons (λ bits. bits)

-- numbers that fit make a word of all the bits
pub joined-below : (widths numbers : List ℕ) → Fit widths numbers → joined widths numbers < 2 ^ sum widths
unfolding joined
joined-below [] [] fit = lit< tt
joined-below [] (number ∷ rest) fit = elim fit [ ]
joined-below (bits ∷ more) [] fit = elim fit [ ]
joined-below (bits ∷ more) (number ∷ rest) fit =
    let below : joined more rest < 2 ^ sum more = joined-below more rest fit.1 in
    rw (sum-cons bits more)
    (omega (arith, pow-add 2 bits (sum more), mul-add-lt (joined more rest) (2 ^ bits) number (2 ^ sum more) below fit.0))

-- joined numbers part into themselves
pub parted-joined : (widths numbers : List ℕ) → Fit widths numbers → parted widths (joined widths numbers) ≡ numbers
unfolding joined parted
parted-joined [] [] fit = refl
parted-joined [] (number ∷ rest) fit = elim fit [ ]
parted-joined (bits ∷ more) [] fit = elim fit [ ]
parted-joined (bits ∷ more) (number ∷ rest) fit =
    rw (low_bits bits number (joined more rest) fit.0, high_bits bits number (joined more rest) fit.0)
    (ap (λ numbers. number ∷ numbers) (parted-joined more rest fit.1))

-- what a word parts into fits
pub Fit-parted : (widths : List ℕ) (word : ℕ) → Fit widths (parted widths word)
unfolding parted
Fit-parted [] word = tt
Fit-parted (bits ∷ more) word = (mod_below word (2 ^ bits) (pow_pos bits), Fit-parted more (word / 2 ^ bits))

-- the parts of a word make it again
pub joined-parted : (widths : List ℕ) (word : ℕ) → word < 2 ^ sum widths → joined widths (parted widths word) ≡ word
unfolding joined parted
joined-parted [] word below = omega arith
joined-parted (bits ∷ more) word below =
    let turned : word < 2 ^ (sum more + bits) = rw (add_comm (sum more) bits, ← sum-cons bits more) below in
    let again : joined more (parted more (word / 2 ^ bits)) ≡ word / 2 ^ bits =
    joined-parted more (word / 2 ^ bits) (shr_below word (sum more) bits turned) in
    rw again (omega (arith, pow_pos bits))
