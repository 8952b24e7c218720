-- What each shared word says in a sound state, whoever reads it.
use Rattle.std.proofs.Common.{ℕ, ◌≡◌, ◌≢◌, ◌≤◌, ◌<◌, refl, inl, inr, IsSome}
use Rattle.sound_state.proofs.Common.{Geometry, pool_of, sound-of, active_of, WordName, name_of, descriptor_count, info_in, Partials, next_in, Exists, Point, plan_point_of}
use Rattle.sound_state.proofs.Common.{State, Lists, IsSoundWithoutCounts, IsSoundWith}
use Rattle.heap_geometry.specs.declared.limits.TheConstants.{SHELVES}
use Rattle.packed_words.specs.declared.shelf.ShelfWord.TheVariants as shelf
use Rattle.packed_words.specs.Shelf.{IsShelfWord, shelf_of}
use Rattle.packed_words.proofs.ExactLemmas.{back}
use Rattle.packed_words.proofs.ShelfLemmas.{shelf-exact}
use Rattle.word_table.specs.declared.name.WordName.TheVariants as name
use Rattle.pool_model.specs.declared.owner.Owner.TheVariants.{Shelf}
use Rattle.pool_model.specs.Pool.{Block}
use Rattle.pool_model.specs.WellFormed.{IsWellFormed}
use Rattle.pool_model.proofs.PoolLemmas.{every-each, every-found}
use Rattle.pool_model.proofs.WellFormedLemmas.{sound-differ, found-itself}
use Rattle.sound_state.proofs.shared.PointLemmas.{exists-at}
use Rattle.sound_state.proofs.shared.ShelfFacts.{owned-or-none, shelf-fits}
use Rattle.sound_state.proofs.shared.StackedLemmas.{top-exists}
use Rattle.sound_laws.proofs.bounds_lemmas.BlockFinds.{NamesDesc, names-desc}
use Rattle.sound_laws.proofs.bounds_lemmas.LeftDefs.{word_under}

-- a word that names a descriptor or frame names one of the heap, or none; a shelf's word is one
abbrev pub Says : Geometry → WordName → ℕ → Type 0
Says g (name.Info d) v = IsSome (info_in g v)
Says g (name.Next d) v = v ≤ descriptor_count g
Says g name.DescHead v = v ≤ descriptor_count g
Says g (name.Slot heap class) v = v ≤ descriptor_count g
Says g (name.Active heap class) v = NamesDesc g (active_of v)
Says g (name.FrameNext frame) v = v ≤ g.frames
Says g (name.Shelf k) v = IsSome (shelf_of v)
Says g n v = Unit {0}

-- a shelf's word is that of a block, or that of none
shelf-said :
    (g : Geometry) (s : State) (l : Lists) (k : ℕ) → IsSoundWithoutCounts g s → IsSoundWith g s l → k < SHELVES
    → IsSome (shelf_of (s.word (name.Shelf k)))
shelf-said g s l k sound old has =
    let pool = sound-of g s.history sound.legal in
    elim (owned-or-none (pool_of s.history) (pool_of s.history) k (found-itself (pool_of s.history) (sound-differ g (pool_of s.history) pool))) [
      | inl one ↦
          let b : Block = one.0 in
          let formed : IsWellFormed g b = every-found (IsWellFormed g) b.place (pool_of s.history) b pool.each one.1 in
          let fit : IsShelfWord (shelf.Block b.place b.need) = shelf-fits g b.need b.place sound.checked formed.need formed.place in
          let is = back shelf-exact (s.word (name.Shelf k)) (shelf.Block b.place b.need) fit (old.tied.shelved k b.place b has one.1 one.2) in
          rw is refl
      | inr none ↦
          let is =
          back shelf-exact (s.word (name.Shelf k)) shelf.Nothing tt
          (old.tied.bare_shelf k has (λ p b live on. every-each (λ x. x.owner ≢ Shelf k) (pool_of s.history) none p b live on)) in
          rw is refl
    ]

-- in a sound state a word of the heap says so
word-says : (g : Geometry) (s : State) (n : WordName) → IsSoundWithoutCounts g s → Exists g n → Says g n (s.word n)
word-says g s (name.Info d) sound has = sound.parts.1.chained.infos d has
word-says g s (name.Next d) sound has = sound.parts.1.listed.nexts d has
word-says g s name.DescHead sound has =
    let listed = sound.parts.1.listed in
    top-exists (next_in s.word Partials) (s.word name.DescHead) (descriptor_count g) sound.parts.0.available listed.available
    listed.available_exist
word-says g s (name.Slot heap class) sound has = sound.parts.1.kept.slot_words heap class has.0 has.1
word-says g s (name.Active heap class) sound has =
    let kept = sound.parts.1.kept in
    names-desc g (active_of (s.word (name.Active heap class))) (kept.active_words heap class has.0 has.1)
    (λ d credits is. (kept.active heap class d credits has.0 has.1 is).0)
word-says g s (name.FrameNext frame) sound has = sound.parts.1.listed.frame_nexts frame has
word-says g s (name.Shelf k) sound has = shelf-said g s sound.parts.0 k sound sound.parts.1 has
word-says g s n sound has = tt

-- the word that a caller's step is on says so
pub says-at :
    (g : Geometry) (s : State) (caller : ℕ) (p : Point) → IsSoundWithoutCounts g s → caller < g.callers → (s.errand caller).point ≡ p
    → Says g (name_of (plan_point_of p)) (word_under s p)
says-at g s caller p sound has stands = word-says g s (name_of (plan_point_of p)) sound (exists-at g s caller p sound has stands)
