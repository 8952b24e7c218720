-- How many words the blocks have that spell a list and a record.
use Rattle.std.proofs.Common.{ℕ, ◌≡◌, ◌≢◌, ◌*◌, List, [], ◌∷◌, All, Option, Some, length, refl, ◌∙◌, ap, arith}
use Rattle.std.specs.Prelude.{sum_by}
use Rattle.std.proofs.lemmas.List.Elements.{All-head, All-tail}
use Rattle.std.proofs.lemmas.List.Sums.{sum_by-cons}
use Rattle.heap_geometry.specs.Need.{least, need_of, usable_words}
use Rattle.pool_model.specs.Pool.{Block as PoolBlock, Pool, block_at, live_words, without}
use Rattle.pool_model.proofs.CountLemmas.{length-without, live_words-without}
use Rattle.pool_model.proofs.PoolLemmas.{block_at-without_other}
use Rattle.live_heap.specs.declared.block.Block.{Block}
use Rattle.store_runner.specs.Ends.{AreOwned}

abbrev pub words_of : Block → ℕ
words_of token = usable_words token.need

three-words : usable_words (need_of 3) ≡ 3
unfolding need_of least
three-words = refl

-- blocks with three words each
pub three-each : (tokens : List Block) → All (λ token. token.need ≡ need_of 3) tokens → sum_by words_of tokens ≡ 3 * length tokens
three-each [] all = refl
three-each (t ∷ ts) all =
    let first : words_of t ≡ 3 = ap usable_words (All-head (λ (x : Block). x.need ≡ need_of 3) t ts all) ∙ three-words in
    let rest = three-each ts (All-tail (λ (x : Block). x.need ≡ need_of 3) t ts all) in
    omega (arith, sum_by-cons words_of t ts, first, rest)

-- a live block that serves the token's need lies at the place of each token, and no two of them are the same
abbrev AreLive : Pool → List Block → Type 0
AreLive pool [] = Unit {0}
AreLive pool (token ∷ tokens) =
    ((block : PoolBlock) × (block_at token.place pool ≡ Some block) × (block.need ≡ token.need)) × All (λ other. other.place ≢ token.place) tokens
    × AreLive pool tokens

are-live :
    (owned : ℕ → Option PoolBlock) (pool : Pool) (tokens : List Block)
    → ((place : ℕ) (block : PoolBlock) → owned place ≡ Some block → block_at place pool ≡ Some block) → AreOwned owned tokens → AreLive pool tokens
are-live owned pool [] live are = tt
are-live owned pool (t ∷ ts) live are = ((are.0.0, live t.place are.0.0 are.0.1, are.0.2), are.1, are-live owned pool ts live are.2)

live-without : (place : ℕ) (pool : Pool) (tokens : List Block) → All (λ other. other.place ≢ place) tokens → AreLive pool tokens → AreLive (without place pool) tokens
live-without place pool [] away are = tt
live-without place pool (t ∷ ts) away are =
    let Away : Block → Type 0 = λ x. x.place ≢ place in (
      (are.0.0, block_at-without_other place t.place pool (All-head Away t ts away) ∙ are.0.1, are.0.2),
      are.1,
      live-without place pool ts (All-tail Away t ts away) are.2,
    )

-- where there are as many of them as live blocks, these have as many words
all-live : (pool : Pool) (tokens : List Block) → AreLive pool tokens → length tokens ≡ length pool → live_words pool ≡ sum_by words_of tokens
all-live [] [] are many = refl
all-live (b ∷ bs) [] are many = absurd (omega (arith, many))
all-live pool (t ∷ ts) are many =
    let less = length-without t.place pool are.0.0 are.0.1 in
    let words = live_words-without t.place pool are.0.0 are.0.1 in
    let rest = all-live (without t.place pool) ts (live-without t.place pool ts are.1 are.2) (omega (arith, less, many)) in
    omega (arith, words, rest, ap usable_words are.0.2, sum_by-cons words_of t ts)

pub spelled-words :
    (owned : ℕ → Option PoolBlock) (pool : Pool) (tokens : List Block)
    → ((place : ℕ) (block : PoolBlock) → owned place ≡ Some block → block_at place pool ≡ Some block) → AreOwned owned tokens
    → length tokens ≡ length pool → live_words pool ≡ sum_by words_of tokens
spelled-words owned pool tokens live are many = all-live pool tokens (are-live owned pool tokens live are) many
