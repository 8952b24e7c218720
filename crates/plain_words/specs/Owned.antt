-- What the tokens own, and what a `&` to one lends.
use Rattle.std.specs.Prelude.{ℕ, zero, suc, ◌+◌, ◌*◌, ◌%◌, ◌^◌, ◌<◌, List, [], ◌∷◌, length, Some, None}
use base.Fraction.{full_share}
use base.Fml.{Lft, Fml, ftrue, fsep, fex, fwand, froom}
use mir.Syntax.{Ty, w64, w128, ty_int, ty_array}
use denote.Builtin.{u64}
use denote.Memory.{part_at, shared_of}
use denote.RawPtr.{Ptr, block_of, count_of, InBlock}
use denote.Sharing.{nothing, beside, said}
use Rattle.plain_words.specs.Places.{Place}

abbrev pub fact : Type 0 → Fml
fact φ = fex φ (λ _. ftrue)

-- one word, o bytes into the block b
abbrev pub place : ℕ → ℕ → Place → Fml
place b o None = ftrue
place b o (Some None) = froom (ty_int w64) b o
place b o (Some (Some n)) = part_at u64 full_share n b o

-- the way from two words, o bytes into the block b, to room that is aligned as a pair is: 16 bytes
abbrev pub pairs_up : ℕ → ℕ → Fml
pairs_up b o = fwand (fsep (froom (ty_int w64) b o) (froom (ty_int w64) b (o + 8))) (froom (ty_int w128) b o)

abbrev pub if_odd : ℕ → Fml → Fml
if_odd zero φ = ftrue
if_odd (suc n) φ = φ

-- each odd word that is here has that way, for itself and the word behind it
abbrev pub mate : ℕ → ℕ → ℕ → Place → Fml
mate b c k None = ftrue
mate b c k (Some p) = if_odd (k % 2) (pairs_up b (k * 8 + c))

-- words side by side, the word k first, of memory that begins c bytes into the block b
abbrev pub row : ℕ → ℕ → ℕ → List Place → Fml
row b c k [] = ftrue
row b c k (p ∷ ps) = fsep (fsep (place b (k * 8 + c) p) (mate b c k p)) (row b c (suc k) ps)

abbrev pub place_lent : ℕ → ℕ → Place → Lft → Fml
place_lent b o None = nothing
place_lent b o (Some None) = nothing
place_lent b o (Some (Some n)) = shared_of u64 n b o

abbrev pub row_lent : ℕ → ℕ → ℕ → List Place → Lft → Fml
row_lent b c k [] = nothing
row_lent b c k (p ∷ ps) = beside (place_lent b (k * 8 + c) p) (row_lent b c (suc k) ps)

-- the first n words of p have an address
abbrev pub Lies : Ptr → ℕ → Type 0
Lies p n = InBlock p × (n * 8 < 2 ^ 63)

-- the row of ps, the words of p from the k-th on
abbrev pub row_from : Ptr → ℕ → List Place → Fml
row_from p k ps = row (block_of p) (count_of p) k ps

abbrev pub plain_owns : Ptr → ℕ → List Place → Fml
plain_owns p k ps = fsep (fact (Lies p (k + length ps))) (row_from p k ps)

abbrev pub plain_lent : Ptr → ℕ → List Place → Lft → Fml
plain_lent p k ps = beside (said (fact (Lies p (k + length ps)))) (row_lent (block_of p) (count_of p) k ps)

-- a block of n pairs of words, whose beginning is aligned as a pair is
abbrev pub pairs_ty : ℕ → Ty
pairs_ty n = ty_array (ty_int w128) n

-- what is kept of a block whose words are with a token: its first word, the way from that one and the next to a pair, and the right to free it
abbrev pub deed_owns : (Ty → Ptr → Fml) → Ptr → ℕ → Fml
deed_owns token p n = fsep (fact (InBlock p)) (fsep (froom (ty_int w64) (block_of p) (count_of p)) (fsep (pairs_up (block_of p) (count_of p)) (token (pairs_ty n) p)))
