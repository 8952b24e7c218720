-- What lies on a shelf is what its word says.
use Rattle.std.proofs.Common.{ℕ, Some, ◌≡◌, ◌≢◌, ◌<◌, [], ◌∷◌, arith, sym, subst, inl, inr, ◌∙◌, ◌⊎◌}
use Rattle.sound_state.proofs.Common.{IsChecked, Geometry, Need, sound-of, block_at, pool_of, State, Lists, IsSoundWithoutCounts, IsSoundWith, IsLive, SHELVES, shelf-exact}
use Rattle.sound_state.proofs.Common.{IsShelfWord, shelf_word, every-each, every-found, sound-differ, found-itself, IsEmptyShelf, Pool, IsWellFormed, IsPlaceFor}
use Rattle.heap_geometry.specs.Need.{IsNeed}
use Rattle.packed_words.specs.declared.shelf.ShelfWord.TheVariants as shelf
use Rattle.word_table.specs.declared.name.WordName.TheVariants as name
use Rattle.pool_model.proofs.PoolLemmas.{Every}
use Rattle.pool_model.specs.Pool.{Block}
use Rattle.pool_model.specs.declared.owner.Owner.TheVariants.{Shelf}
use Rattle.sound_state.proofs.shared.OwnerLemmas.{is-shelf}

-- a shelf's word with a block isn't that of an empty one
pub shelf-some : (place : ℕ) (n : Need) → shelf_word (shelf.Block place n) ≡ shelf_word shelf.Nothing → ⊥
unfolding shelf_word
shelf-some place n same = omega (arith, same)

-- a live block's place and need fit a shelf's word
pub shelf-fits : (g : Geometry) (n : Need) (place : ℕ) → IsChecked g → IsNeed n → IsPlaceFor g n place → IsShelfWord (shelf.Block place n)
shelf-fits g n place checked is at = grind (arith, checked, is, at)

-- some block of a pool lies on the shelf, or none does
pub owned-or-none :
    (all pool : Pool) (k : ℕ) → Every (λ b. block_at b.place all ≡ Some b) pool
    → ((b : Block) × (block_at b.place all ≡ Some b) × (b.owner ≡ Shelf k)) ⊎ Every (λ b. b.owner ≢ Shelf k) pool
owned-or-none all [] k found = inr tt
owned-or-none all (b ∷ pool) k found =
    elim (is-shelf b.owner k) [
      | inl is ↦ inl (b, found.0, is)
      | inr differ ↦
          elim (owned-or-none all pool k found.1) [
            | inl one ↦ inl one
            | inr none ↦ inr (differ, none)
          ]
    ]

-- the block that a shelf's word names lies there
pub shelved-block :
    (g : Geometry) (s : State) (l : Lists) (k place : ℕ) (n : Need) → IsSoundWithoutCounts g s → IsSoundWith g s l → k < SHELVES
    → IsShelfWord (shelf.Block place n) → s.word (name.Shelf k) ≡ shelf_word (shelf.Block place n)
    → (b : Block) × IsLive s place b × (b.owner ≡ Shelf k) × (b.need ≡ n)
shelved-block g s l k place n sound old has fit word =
    let pool = sound-of g s.history sound.legal in
    elim (owned-or-none (pool_of s.history) (pool_of s.history) k (found-itself (pool_of s.history) (sound-differ g (pool_of s.history) pool))) [
      | inl one ↦
          let formed : IsWellFormed g one.0 = every-found (IsWellFormed g) one.0.place (pool_of s.history) one.0 pool.each one.1 in
          let says : shelf_word (shelf.Block one.0.place one.0.need) ≡ shelf_word (shelf.Block place n) =
          sym (old.tied.shelved k one.0.place one.0 has one.1 one.2) ∙ word in
          let same : shelf.Block one.0.place one.0.need ≡ shelf.Block place n =
          shelf-exact.one_word (shelf.Block one.0.place one.0.need) (shelf.Block place n)
          (shelf-fits g one.0.need one.0.place sound.checked formed.need formed.place) fit says in
          let here : one.0.place ≡ place = cc in
          (one.0, subst (λ p. IsLive s p one.0) here one.1, one.2, (cc))
      | inr none ↦
          absurd
          (shelf-some place n
          (sym word ∙ old.tied.bare_shelf k has (λ p b live on. every-each (λ x. x.owner ≢ Shelf k) (pool_of s.history) none p b live on)))
    ]

-- no block lies on a shelf whose word says so
pub empty-shelf :
    (g : Geometry) (s : State) (l : Lists) (k : ℕ) → IsSoundWith g s l → k < SHELVES → s.word (name.Shelf k) ≡ shelf_word shelf.Nothing
    → IsEmptyShelf (pool_of s.history) k
empty-shelf g s l k old has word place b live on = shelf-some place b.need (sym (old.tied.shelved k place b has live on) ∙ word)
