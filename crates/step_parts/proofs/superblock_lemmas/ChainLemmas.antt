-- The chain of a superblock's free blocks.
use Rattle.std.proofs.Common.{ℕ, zero, suc, ◌≡◌, ◌≢◌, ◌+◌, ◌-◌, ◌<◌, ◌≤◌, List, ◌∷◌, length, arith, ap, refl, sym, subst, inl, inr, add-one}
use Rattle.std.proofs.lemmas.Bool.{cases_order}
use Rattle.std.proofs.lemmas.Bool.Decides.{nat_tests}
use Rattle.std.proofs.lemmas.Nat.{mul-le, pow_pos}
use Rattle.heap_geometry.specs.Need.{block_words_of}
use Rattle.heap_geometry.specs.Place.{block_place}
use Rattle.packed_words.specs.Prefix.{link_of}
use Rattle.word_table.specs.declared.name.WordName.{WordName}
use Rattle.word_table.specs.declared.name.WordName.TheVariants.{Arena}
use Rattle.word_table.specs.Words.{Writes}
use Rattle.word_table.specs.Occurs.{occurs}
use Rattle.step_parts.specs.superblock.Chains.{chain_of, prefix_name, link_in, chain_in}

-- a list that begins with an index has it once more than the rest
pub occurs-here : (i : ℕ) (xs : List ℕ) → occurs i (i ∷ xs) ≡ 1 + occurs i xs
occurs-here i xs = grind (arith, nat_tests)

-- an index of the rest is one of the list
pub occurs-more : (i x : ℕ) (xs : List ℕ) → occurs i xs ≤ occurs i (x ∷ xs)
occurs-more i x xs = omega arith

-- a chain has as many indexes as it is long
pub chain_of-length : (next : ℕ → ℕ) (k i : ℕ) → length (chain_of next k i) ≡ k
chain_of-length next zero i = refl
chain_of-length next (suc k) i = ap suc (chain_of-length next k (next i))

-- taking the first index off leaves the rest
pub chain_of-first : (next : ℕ → ℕ) (k i : ℕ) → 0 < k → chain_of next k i ≡ i ∷ chain_of next (k - 1) (next i)
chain_of-first next zero i some = absurd (omega arith)
chain_of-first next (suc k) i some =
    let less : k ≡ suc k - 1 = omega arith in ap (λ n. i ∷ chain_of next n (next i)) less

-- the links of the indexes that are on the chain decide it
pub chain_of-same :
    (next next' : ℕ → ℕ) (k i : ℕ) → ((j : ℕ) → 0 < occurs j (chain_of next k i) → next' j ≡ next j)
    → chain_of next' k i ≡ chain_of next k i
chain_of-same next next' zero i same = refl
chain_of-same next next' (suc k) i same =
    let here : next' i ≡ next i = same i (omega (arith, occurs-here i (chain_of next k (next i)))) in
    rw here (ap (λ xs. i ∷ xs)
    (chain_of-same next next' k (next i) (λ j on. same j (omega (arith, occurs-more j i (chain_of next k (next i)))))))

-- putting an index in front that is not on the chain, with a link to its first
pub chain_of-front :
    (next next' : ℕ → ℕ) (k i a : ℕ) → occurs i (chain_of next k a) ≡ 0 → next' i ≡ a
    → ((j : ℕ) → j ≢ i → next' j ≡ next j) → chain_of next' (suc k) i ≡ i ∷ chain_of next k a
chain_of-front next next' k i a off link others =
    let apart : (j : ℕ) → 0 < occurs j (chain_of next k a) → j ≢ i = λ j on e.
    let Off : ℕ → Type 0 = λ m. occurs m (chain_of next k a) ≡ 0 in
    let none : occurs j (chain_of next k a) ≡ 0 = subst Off (sym e) off in omega arith in
    rw link (ap (λ xs. i ∷ xs) (chain_of-same next next' k a (λ j on. others j (apart j on))))

-- the word of the arena that a name is of
abbrev arena_word : WordName → ℕ
arena_word (Arena word) = word
arena_word _ = 0

-- two blocks of a frame have two prefix words
pub prefix_name-apart : (frame class i j : ℕ) → i ≢ j → prefix_name frame class i ≢ prefix_name frame class j
prefix_name-apart frame class i j differ same =
    let words = block_words_of class in
    let places : block_place frame class i ≡ block_place frame class j = ap arena_word same in
    elim (cases_order i j) [
      | inl e ↦ differ e
      | inr (inl before) ↦ omega (arith, pow_pos (class + 1), mul-le (i + 1) words j words (omega arith) (omega arith))
      | inr (inr after) ↦ omega (arith, pow_pos (class + 1), mul-le (j + 1) words i words (omega arith) (omega arith))
    ]

-- a change of a word that is not a prefix word of the chain leaves the chain
pub chain_in-elsewhere :
    (words words' : WordName → ℕ) (name : WordName) (new frame class k i : ℕ) → Writes words name new words'
    → ((j : ℕ) → 0 < occurs j (chain_in words frame class k i) → prefix_name frame class j ≢ name)
    → chain_in words' frame class k i ≡ chain_in words frame class k i
chain_in-elsewhere words words' name new frame class k i writes apart =
    chain_of-same (link_in words frame class) (link_in words' frame class) k i
    (λ j on. ap link_of (writes.elsewhere (prefix_name frame class j) (apart j on)))

-- a write of a link to the chain's first index, in a block that is not on the chain, puts that block in front
pub chain_in-front :
    (words words' : WordName → ℕ) (new frame class k i : ℕ) → Writes words (prefix_name frame class i) new words'
    → occurs i (chain_in words frame class k (link_of new)) ≡ 0
    → chain_in words' frame class (k + 1) i ≡ i ∷ chain_in words frame class k (link_of new)
chain_in-front words words' new frame class k i writes off =
    rw add-one
    (chain_of-front (link_in words frame class) (link_in words' frame class) k i (link_of new) off (ap link_of writes.here)
    (λ j differ. ap link_of (writes.elsewhere (prefix_name frame class j) (prefix_name-apart frame class j i differ))))
