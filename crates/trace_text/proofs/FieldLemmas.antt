-- The fields of a line, taken one after the other.
use Rattle.std.proofs.Common.{◌≡◌, ℕ, List, [], ◌∷◌, Some, Ok, refl}
use Rattle.trace_text.specs.Causes.{◌>>=◌}
use Rattle.trace_text.specs.Said.{some_in, none_in, numeral_in, one_in, two_in, three_in, heap_fields_in}

-- fields that are taken as at least one are the fields themselves
some_is : (fields taken : List (List ℕ)) → some_in fields ≡ Ok taken → fields ≡ taken
some_is [] taken e = absurd cc
some_is (a ∷ fields) taken e = cc

-- a heap line with a fourth field, and perhaps more behind it
pub four_fields :
    (fields one two three four : List (List ℕ)) (a b c d : List ℕ) → some_in fields ≡ Ok (a ∷ one) → some_in one ≡ Ok (b ∷ two) → some_in two ≡ Ok (c ∷ three)
    → three ≡ d ∷ four → heap_fields_in fields ≡ (none_in four >>= λ _. Ok (a, b, c, Some d))
four_fields fields one two three four a b c d e f g h =
    rw (some_is fields (a ∷ one) e, some_is one (b ∷ two) f, some_is two (c ∷ three) g, h) (rest four)
  where
    rest : (four : List (List ℕ)) → heap_fields_in (a ∷ b ∷ c ∷ d ∷ four) ≡ (none_in four >>= λ _. Ok (a, b, c, Some d))
    rest [] = refl
    rest (x ∷ four) = refl

three_found : (a b c : List ℕ) (rest : List (List ℕ)) → none_in rest ≡ Ok tt → three_in (a ∷ b ∷ c ∷ rest) ≡ (numeral_in a >>= λ a. numeral_in b >>= λ b. numeral_in c >>= λ c. Ok (a, b, c))
unfolding three_in
three_found a b c [] none = refl
three_found a b c (d ∷ rest) none = absurd cc

-- three fields and no more are their three numbers
pub three_fields :
    (fields one two three : List (List ℕ)) (a b c : List ℕ) → some_in fields ≡ Ok (a ∷ one) → some_in one ≡ Ok (b ∷ two) → some_in two ≡ Ok (c ∷ three)
    → none_in three ≡ Ok tt → three_in fields ≡ (numeral_in a >>= λ a. numeral_in b >>= λ b. numeral_in c >>= λ c. Ok (a, b, c))
three_fields fields one two three a b c e f g none =
    rw (some_is fields (a ∷ one) e, some_is one (b ∷ two) f, some_is two (c ∷ three) g) (three_found a b c three none)

-- one field and no more, whose number is known
pub one_known : (fields rest : List (List ℕ)) (a : List ℕ) (x : ℕ) → fields ≡ a ∷ rest → rest ≡ [] → numeral_in a ≡ Ok x → one_in fields ≡ Ok x
unfolding one_in
one_known fields rest a x e none n = rw (e, none, n) refl

-- two fields and no more, whose numbers are known
pub two_known :
    (fields one two : List (List ℕ)) (a b : List ℕ) (x y : ℕ) → fields ≡ a ∷ one → one ≡ b ∷ two → two ≡ []
    → numeral_in a ≡ Ok x → numeral_in b ≡ Ok y → two_in fields ≡ Ok (x, y)
unfolding two_in
two_known fields one two a b x y e f none n m = rw (e, f, none, n, m) refl

-- three fields and no more, whose numbers are known
pub three_known :
    (fields one two three : List (List ℕ)) (a b c : List ℕ) (x y z : ℕ) → fields ≡ a ∷ one → one ≡ b ∷ two → two ≡ c ∷ three → three ≡ []
    → numeral_in a ≡ Ok x → numeral_in b ≡ Ok y → numeral_in c ≡ Ok z → three_in fields ≡ Ok (x, y, z)
unfolding three_in
three_known fields one two three a b c x y z e f g none n m k = rw (e, f, g, none, n, m, k) refl
