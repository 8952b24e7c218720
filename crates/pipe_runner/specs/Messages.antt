-- The messages of a pipeline's senders, and the fold over them.
use Rattle.std.specs.Prelude.{ℕ, zero, suc, ◌≡◌, ◌+◌, ◌*◌, ◌%◌, ◌^◌, ◌++◌, List, [], ◌∷◌, All, Option, Some, None, map}
use Rattle.pool_model.specs.Parcels.{Parcel}

-- three words, each one more than the one before, modulo 2^64
abbrev pub three_from : ℕ → List (Option ℕ)
three_from first = Some first ∷ Some ((first + 1) % 2 ^ 64) ∷ Some ((first + 2) % 2 ^ 64) ∷ []

-- the first word of message i of a sender
abbrev pub first_word : ℕ → ℕ → ℕ → ℕ
first_word start sender i = (start + (1000 * sender + i)) % 2 ^ 64

-- what message i of a sender contains
abbrev pub message_of : ℕ → ℕ → ℕ → List (Option ℕ)
message_of start sender i = three_from (first_word start sender i)

-- the first messages of a sender, so many
abbrev pub messages : ℕ → ℕ → ℕ → List (List (Option ℕ))
messages start sender zero = []
messages start sender (suc count) = messages start sender count ++ message_of start sender count ∷ []

-- what parcels contain, wherever they lie
abbrev pub contents_of : List Parcel → List (List (Option ℕ))
contents_of parcels = map (λ parcel. parcel.contents) parcels

-- a word is folded in, modulo 2^64
abbrev pub with_word : ℕ → ℕ → ℕ
with_word fold word = (fold * 31 + word) % 2 ^ 64

-- all words of a block that were written are folded in, in their order
abbrev pub with_words : ℕ → List (Option ℕ) → ℕ
with_words fold [] = fold
with_words fold (Some word ∷ words) = with_words (with_word fold word) words
with_words fold (None ∷ words) = with_words fold words

-- all words of parcels that were written are folded in, one parcel after the other
abbrev pub fold_from : ℕ → List Parcel → ℕ
fold_from fold [] = fold
fold_from fold (parcel ∷ parcels) = fold_from (with_words fold parcel.contents) parcels

-- the fold over all words of parcels
abbrev pub fold_of : List Parcel → ℕ
fold_of parcels = fold_from 0 parcels

-- a block has three words, all of them written
abbrev pub HasThreeWords : List (Option ℕ) → Type 0
HasThreeWords contents = (a b c : ℕ) × (contents ≡ Some a ∷ Some b ∷ Some c ∷ [])

-- each of some parcels has three words, all of them written
abbrev pub HaveThreeWords : List Parcel → Type 0
HaveThreeWords parcels = All (λ parcel. HasThreeWords parcel.contents) parcels
