-- Whole calls one after the other, each with its answer.
use Rattle.std.specs.Prelude.{ℕ, suc, ◌≡◌, ◌+◌, ◌%◌, ◌^◌, ◌∷◌, List, [], map, sum, length, min, nat_lt, if◌then◌else◌}
use Rattle.std.specs.List.{flat_map, range_with_len, slice_index_or}
use Rattle.heap_geometry.specs.declared.need.Need.{Need}
use Rattle.heap_geometry.specs.Need.{usable_words}
use Rattle.errand_steps.specs.declared.reply.Reply.{Reply}
use Rattle.errand_steps.specs.declared.reply.Reply.TheVariants as reply
use Rattle.errand_steps.specs.Calls.{Call, write, read}

-- a whole call with its answer
pub record Made : Type 0 where
  pub call : Call
  pub answer : Reply

abbrev pub answered : Call → Reply → Made
answered call answer = record { call = call; answer = answer }

-- whole calls lead from one state to another, one after the other
abbrev pub LeadsBy : {S : Type 0} → (S → Call → Reply → S → Type 0) → S → List Made → S → Type 0
LeadsBy called before [] after = after ≡ before
LeadsBy called before (made ∷ rest) after = (next : _) × called before made.call made.answer next × LeadsBy called next rest after

-- a write for each of the first words of a block, in their order: word i with v + i
abbrev pub wrote : ℕ → Need → ℕ → ℕ → List Made
wrote place need v words = map (λ i. answered (write place need i ((v + i) % 2 ^ 64)) reply.Wrote) (range_with_len 0 words)

-- a read for each word of a block, from word i on, with the word that it found
abbrev pub found_from : ℕ → Need → ℕ → List ℕ → List Made
found_from place need i [] = []
found_from place need i (word ∷ words) = answered (read place need i) (reply.Word word) ∷ found_from place need (suc i) words

-- reads of a block's usable words, one after the other, led from one state to another; they add up to this
abbrev pub Sums : {S : Type 0} → (S → Call → Reply → S → Type 0) → S → ℕ → Need → ℕ → S → Type 0
Sums called before place need total after =
    (words : List ℕ) × (length words ≡ usable_words need) × (total ≡ sum words % 2 ^ 64)
    × LeadsBy called before (found_from place need 0 words) after

-- word i of a block is copied into another one, where these of its words are read: a read of the one, and then a write of what it found into
-- the other; where it is none of these, a write of 0
abbrev pub copied_word : ℕ → Need → ℕ → Need → List ℕ → ℕ → List Made
copied_word from from_need to to_need words i =
    if nat_lt i (length words) then
    answered (read from from_need i) (reply.Word (slice_index_or words i 0))
    ∷ answered (write to to_need i (slice_index_or words i 0)) reply.Wrote ∷ []
    else answered (write to to_need i 0) reply.Wrote ∷ []

-- the first words of a block, so many, are copied into another one, in their order
abbrev pub copied : ℕ → Need → ℕ → Need → List ℕ → ℕ → List Made
copied from from_need to to_need words count = flat_map (copied_word from from_need to to_need words) (range_with_len 0 count)

-- the copies of all usable words of a block led from one state to another: as many words are read as both blocks have
abbrev pub Copies : {S : Type 0} → (S → Call → Reply → S → Type 0) → S → ℕ → Need → ℕ → Need → S → Type 0
Copies called before from from_need to to_need after =
    (words : List ℕ) × (length words ≡ min (usable_words from_need) (usable_words to_need))
    × LeadsBy called before (copied from from_need to to_need words (usable_words to_need)) after
