-- What the loads in a superblock find in a sound state.
use Rattle.std.proofs.Common.{ℕ, Option, Some, None, ◌≡◌, ◌<◌, refl, arith, sym, subst, nat_lt, IsSome, IsTrue}
use Rattle.std.proofs.lemmas.Bool.{cond-true, lt-ltb, true≢false}
use Rattle.sound_state.proofs.Common.{Geometry, IsChecked, block_count_of, block_place, ActiveWord, Null, Held, Site, descriptor_count, SeatFields, IsSiteOf, Continuation}
use Rattle.sound_state.proofs.Common.{Block, State, Lists, IsLocated, IsSoundWith, anchor_for, is_bound}
use Rattle.packed_words.specs.declared.prefix.Prefix.TheVariants.{Small}
use Rattle.packed_words.specs.Prefix.{prefix_word, prefix_of}
use Rattle.packed_words.proofs.ExactLemmas.{back}
use Rattle.packed_words.proofs.PrefixLemmas.{prefix-exact}
use Rattle.word_table.specs.declared.name.WordName.TheVariants as name
use Rattle.word_table.specs.Seats.{anchor_in}
use Rattle.word_table.proofs.CountLemmas.{descriptor_count_within}
use Rattle.step_parts.specs.declared.superblock.point.BlockPoint.TheVariants as block
use Rattle.sound_state.proofs.shared.OwnerLemmas.{prefix-ties}

-- an active word says something, and names a descriptor of the heap if it holds one
abbrev pub NamesDesc : Geometry → Option ActiveWord → Type 0
NamesDesc g None = ⊥
NamesDesc g (Some Null) = Unit {0}
NamesDesc g (Some (Held d credits)) = d < descriptor_count g

-- a word that says something names a descriptor of the heap or none, if each that it may name exists
pub names-desc :
    (g : Geometry) (w : Option ActiveWord) → IsSome w → ((d credits : ℕ) → w ≡ Some (Held d credits) → d < descriptor_count g) → NamesDesc g w
names-desc g None some exists = absurd (true≢false (sym some))
names-desc g (Some Null) some exists = tt
names-desc g (Some (Held d credits)) some exists = exists d credits refl

-- the anchor of a superblock names one of its blocks
pub anchor-finds :
    (g : Geometry) (s : State) (l : Lists) (caller : ℕ) (at : Site) → IsSoundWith g s l → IsSiteOf g caller at → IsTrue (is_bound g s l at.desc)
    → IsLocated s at.desc at.frame at.seat.class → anchor_in at.seat.class (s.word (name.Anchor at.desc)) ≡ Some (anchor_for s at.desc)
anchor-finds g s l caller at old site bound located =
    let avail : (anchor_for s at.desc).avail < block_count_of at.seat.class =
    subst (λ c. (anchor_for s at.desc).avail < block_count_of c) located.class (old.chained.chained at.desc site.desc bound).avail in
    cond-true (nat_lt (anchor_for s at.desc).avail (block_count_of at.seat.class)) (Some (anchor_for s at.desc)) None (lt-ltb _ _ avail)

-- the prefix word of a block that a caller frees says which descriptor is its superblock's
pub prefix-finds :
    (g : Geometry) (s : State) (l : Lists) (caller : ℕ) (seat : SeatFields) (frame i : ℕ) (o : Continuation) → IsChecked g → IsSoundWith g s l
    → caller < g.callers → (s.errand caller).point ≡ Block (block.LoadPrefix seat frame i) o
    → (d : ℕ) × (d < descriptor_count g) × (prefix_of (s.word (name.Arena (block_place frame seat.class i))) ≡ Some (Small d))
unfolding prefix_word
prefix-finds g s l caller seat frame i o checked old has stands =
    let place : ℕ = block_place frame seat.class i in
    let (d, of, says) = prefix-ties g s l caller seat frame i o old has stands in (
      d,
      of.exists,
      back prefix-exact (s.word (name.Arena place)) (Small d) (omega (arith, of.exists, descriptor_count_within g checked)) (omega (arith, says)),
    )
