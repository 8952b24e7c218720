-- Records while they are written and read.
use Rattle.std.proofs.Common.{ℕ, zero, suc, ◌≡◌, ◌<◌, ◌-◌, List, [], ◌∷◌, ◌++◌, Some, length, refl, ◌∙◌, ap, subst, arith, inl, inr}
use Rattle.std.specs.List.{AllZip, slice_get}
use Rattle.std.proofs.lemmas.Bool.{cases_eq}
use Rattle.std.proofs.lemmas.Option.{none-some}
use Rattle.heap_geometry.specs.Need.{usable_words}
use Rattle.live_heap.specs.declared.block.Block.{Block}
use Rattle.live_heap.specs.Heaps.{HeapFields}
use Rattle.live_heap.specs.declared.pass.Pass.{Pass}
use Rattle.live_heap.specs.Holdings.{Holds}
use Rattle.live_heap.specs.Passes.{IsOf, Owns}
use Rattle.typed_store.specs.Records.{IsRecord}
use Rattle.typed_store.proofs.PassLemmas.{word-within}

-- a list has a word at each number below its length
pub got : {A : Type 0} (words : List A) (i : ℕ) → i < length words → (v : A) × (slice_get words i ≡ Some v)
got [] i within = absurd (omega (arith, within))
got (x ∷ xs) zero within = (x, refl)
got (x ∷ xs) (suc i) within = got xs i (omega (arith, within))

-- a record's block has a word more than the record
pub record-within : (h : HeapFields) (p : Pass) (block : Block) (words : List ℕ) → IsOf h p → Owns p block → IsRecord p block words → length words < usable_words block.need
record-within h p block words of owns is =
    elim (cases_eq (length words) 0) [
      | inl none ↦ let first = word-within h p block 0 (length words) of owns is.counted in omega (arith, none, first)
      | inr some ↦
          let i : ℕ = length words - 1 in
          let less : i < length words = omega (arith, some) in
          let v = got words i less in
          let last = word-within h p block (suc i) v.0 of owns (is.each i less ∙ v.1) in
          omega (arith, last, some)
    ]

-- lists with the same words are one
pub words-one : (xs ys : List ℕ) → length xs ≡ length ys → ((i : ℕ) → i < length xs → slice_get xs i ≡ slice_get ys i) → xs ≡ ys
words-one [] [] long same = refl
words-one [] (y ∷ ys) long same = absurd (omega (arith, long))
words-one (x ∷ xs) [] long same = absurd (omega (arith, long))
words-one (x ∷ xs) (y ∷ ys) long same =
    let first : Some x ≡ Some y = same 0 (omega arith) in
    let one : x ≡ y = cc in
    ap (λ z. z ∷ xs) one ∙ ap (λ l. y ∷ l) (words-one xs ys (omega (arith, long)) (λ i within. same (suc i) (omega (arith, within))))

-- there are as many records as blocks; one more of both; and the record of a number
pub records-counted : (p : Pass) (blocks : List Block) (records : List (List ℕ)) → AllZip (λ block words. IsRecord p block words) blocks records → length blocks ≡ length records
records-counted p [] [] are = refl
records-counted p [] (r ∷ rs) are = absurd are
records-counted p (b ∷ bs) [] are = absurd are
records-counted p (b ∷ bs) (r ∷ rs) are = ap suc (records-counted p bs rs are.1)

pub zip-push :
    (P : Block → List ℕ → Type 0) (blocks : List Block) (records : List (List ℕ)) (block : Block) (words : List ℕ) → AllZip P blocks records
    → P block words → AllZip P (blocks ++ block ∷ []) (records ++ words ∷ [])
zip-push P [] [] block words are is = (is, tt)
zip-push P [] (r ∷ rs) block words are is = absurd are
zip-push P (b ∷ bs) [] block words are is = absurd are
zip-push P (b ∷ bs) (r ∷ rs) block words are is = (are.0, zip-push P bs rs block words are.1 is)

pub record-at :
    (p : Pass) (blocks : List Block) (records : List (List ℕ)) (number : ℕ) (block : Block) → AllZip (λ block words. IsRecord p block words) blocks records
    → slice_get blocks number ≡ Some block → (words : List ℕ) × (slice_get records number ≡ Some words) × IsRecord p block words
record-at p [] [] number block are is = absurd (none-some block is)
record-at p [] (r ∷ rs) number block are is = absurd are
record-at p (b ∷ bs) [] number block are is = absurd are
record-at p (b ∷ bs) (r ∷ rs) zero block are is =
    let same : b ≡ block = cc in
    (r, refl, subst (λ (x : Block). IsRecord p x r) same are.0)
record-at p (b ∷ bs) (r ∷ rs) (suc number) block are is = record-at p bs rs number block are.1 is

-- a block behind others of the hand is owned
pub holds-back :
    (p : Pass) (xs ys : List Block) (number : ℕ) (block : Block) → Holds p (xs ++ ys) → slice_get ys number ≡ Some block → Owns p block
holds-back p [] [] number block held is = absurd (none-some block is)
holds-back p [] (y ∷ ys) zero block held is =
    let same : y ≡ block = cc in
    subst (Owns p) same held.0
holds-back p [] (y ∷ ys) (suc number) block held is = holds-back p [] ys number block held.2 is
holds-back p (x ∷ xs) ys number block held is = holds-back p xs ys number block held.2 is
