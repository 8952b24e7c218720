-- Lists of messages, and the fold over parcels.
use Rattle.std.proofs.Common.{ℕ, zero, suc, ◌≡◌, ◌++◌, List, [], ◌∷◌, length, refl, sym, subst, arith}
use Rattle.std.specs.Prelude.{All}
use Rattle.std.proofs.lemmas.List.{length-append, length-map, map-append}
use Rattle.std.proofs.lemmas.List.Elements.{All-append, All-cons, All-head, All-nil, All-tail}
use Rattle.pool_model.specs.Parcels.{Parcel}
use Rattle.pipe_runner.specs.Messages.{HasThreeWords, HaveThreeWords, contents_of, fold_from, message_of, messages, with_words}

pub contents-push : (parcels : List Parcel) (parcel : Parcel) → contents_of (parcels ++ parcel ∷ []) ≡ contents_of parcels ++ parcel.contents ∷ []
contents-push parcels parcel = map-append (λ (x : Parcel). x.contents) parcels (parcel ∷ [])

pub messages-count : (start sender count : ℕ) → length (messages start sender count) ≡ count
messages-count start sender zero = refl
messages-count start sender (suc count) =
    let before = messages-count start sender count in
    let long = length-append (messages start sender count) (message_of start sender count ∷ []) in
    omega (arith, before, long)

pub contents-count : (parcels : List Parcel) → length (contents_of parcels) ≡ length parcels
contents-count parcels = length-map parcels (λ (x : Parcel). x.contents)

pub fold-push : (fold : ℕ) (parcels : List Parcel) (parcel : Parcel) → fold_from fold (parcels ++ parcel ∷ []) ≡ with_words (fold_from fold parcels) parcel.contents
fold-push fold [] parcel = refl
fold-push fold (first ∷ parcels) parcel = fold-push (with_words fold first.contents) parcels parcel

-- what is so of all of a list with one more at its end is so of those before, and of that one
pub all-before : {X : Type 0} (P : X → Type 0) (xs : List X) (x : X) → All P (xs ++ x ∷ []) → All P xs × P x
all-before P [] x all = (All-nil P, All-head P x [] all)
all-before P (y ∷ ys) x all =
    let rest = all-before P ys x (All-tail P y (ys ++ x ∷ []) all) in (All-cons P y ys (All-head P y (ys ++ x ∷ []) all) rest.0, rest.1)

messages-three : (start sender count : ℕ) → All HasThreeWords (messages start sender count)
messages-three start sender zero = All-nil HasThreeWords
messages-three start sender (suc count) =
    All-append HasThreeWords (messages start sender count) (message_of start sender count ∷ []) (messages-three start sender count)
    (All-cons HasThreeWords (message_of start sender count) [] (_, _, _, refl) (All-nil HasThreeWords))

from-contents : (parcels : List Parcel) → All HasThreeWords (contents_of parcels) → HaveThreeWords parcels
from-contents [] all = All-nil (λ (x : Parcel). HasThreeWords x.contents)
from-contents (x ∷ xs) all =
    All-cons (λ (y : Parcel). HasThreeWords y.contents) x xs (All-head HasThreeWords x.contents (contents_of xs) all)
    (from-contents xs (All-tail HasThreeWords x.contents (contents_of xs) all))

-- messages have three words each
pub sent-three : (parcels : List Parcel) (start sender count : ℕ) → contents_of parcels ≡ messages start sender count → HaveThreeWords parcels
sent-three parcels start sender count is = from-contents parcels (subst (All HasThreeWords) (sym is) (messages-three start sender count))
