-- Who owns a block.
use Rattle.std.proofs.Common.{ℕ, ◌≡◌, ◌≢◌, ap, inl, inr, Option, Some, None, ◌∙◌, ◌<◌, sym, subst, false, ◌*◌, [], ◌⊎◌, All, IsTrue, arith}
use Rattle.std.proofs.lemmas.List.Elements.{All-head}
use Rattle.sound_state.proofs.Common.{block_place, Geometry, Need, SeatFields, block_at, pool_of, State, Continuation, Block, Holding, holds_of, Lists, IsOwned}
use Rattle.sound_state.proofs.Common.{IsSoundWith, Caller, Handed, Freed, IsExcepted, IsBlockOfDesc}
use Rattle.heap_geometry.specs.declared.need.Need.TheVariants as need
use Rattle.word_table.specs.declared.name.WordName.TheVariants as name
use Rattle.step_parts.specs.declared.superblock.point.BlockPoint.TheVariants as block
use Rattle.pool_model.specs.Pool.{Block as Live}
use Rattle.pool_model.specs.declared.owner.Owner.TheVariants.{Shelf}
use Rattle.pool_model.specs.declared.owner.Owner.{Owner}
use Rattle.sound_state.proofs.shared.ListFacts.{any-none, any-one}
use Rattle.sound_state.proofs.shared.StepLemmas.{HoldsException}

-- the number of the caller, or of the shelf, that owns
abbrev pub owner_number : Owner → ℕ
owner_number (Caller i) = i
owner_number (Shelf k) = k

-- an owner is this shelf, or another owner
pub is-shelf : (owner : Owner) (k : ℕ) → (owner ≡ Shelf k) ⊎ (owner ≢ Shelf k)
is-shelf owner k = grind (arith)

-- the number of the owner of the block that is live at a place, where one is
abbrev pub owner_there : Option Live → ℕ
owner_there None = 0
owner_there (Some b) = owner_number b.owner

pub owner-there : (s : State) (i place : ℕ) (n : Need) → IsOwned s i place n → owner_there (block_at place (pool_of s.history)) ≡ i
owner-there s i place n owned = ap owner_there owned.block.1 ∙ ap owner_number owned.block.2

-- a caller that excepts a block owns it
excepter-owns :
    (s : State) (j place : ℕ) (h : Holding) → All (λ x. IsOwned s j x.place x.need) h.hands → All (λ x. IsOwned s j x.place x.need) h.frees
    → HoldsException h place → (n : Need) × IsOwned s j place n
excepter-owns s j place h hands frees (inl a) =
    (a.1.need, subst (λ p. IsOwned s j p a.1.need) a.4 (subst (λ (x : Handed). IsOwned s j x.place x.need) a.3 (hands a.0 a.1 a.2)))
excepter-owns s j place h hands frees (inr a) =
    (a.1.need, subst (λ p. IsOwned s j p a.1.need) a.4.0 (subst (λ (x : Freed). IsOwned s j x.place x.need) a.3 (frees a.0 a.1 a.2)))

-- only its owner excepts a block
pub only-owner :
    (g : Geometry) (s : State) (l : Lists) (caller place : ℕ) (n : Need) → IsSoundWith g s l → IsOwned s caller place n → IsExcepted g s place
    → HoldsException (holds_of (s.errand caller).point) place
only-owner g s l caller place n old owned x =
    let j : ℕ = x.caller.0 in
    let has : j < g.callers = x.caller.1 in
    let excepts : HoldsException (holds_of (s.errand j).point) place = x.caller.2 in
    let his = excepter-owns s j place (holds_of (s.errand j).point) (old.tied.hands j has) (old.tied.frees j has) excepts in
    let same : j ≡ caller = sym (owner-there s j place his.0 his.1) ∙ owner-there s caller place n owned in
    subst (λ k. HoldsException (holds_of (s.errand k).point) place) same excepts

-- a caller that begins to free a block excepts none
pub begins-free : (seat : SeatFields) (frame i : ℕ) (o : Continuation) (place : ℕ) → HoldsException (holds_of (Block (block.LoadPrefix seat frame i) o)) place → ⊥
unfolding holds_of
begins-free seat frame i o place (inl a) = any-none (λ (b : Handed). b.place ≡ place) a
begins-free seat frame i o place (inr a) =
    let end : (block_place frame seat.class i ≡ place) × IsTrue false =
    any-one (λ (b : Freed). (b.place ≡ place) × IsTrue b.overwritten)
    (record { place = block_place frame seat.class i; need = need.Small seat.class; overwritten = false }) a in
    let bad : IsTrue false = end.1 in cc

-- a caller that begins to free a block owns it
pub begins-owned :
    (g : Geometry) (s : State) (l : Lists) (caller : ℕ) (seat : SeatFields) (frame i : ℕ) (o : Continuation) → IsSoundWith g s l → caller < g.callers
    → (s.errand caller).point ≡ Block (block.LoadPrefix seat frame i) o
    → IsOwned s caller (block_place frame seat.class i) (need.Small seat.class)
unfolding holds_of
begins-owned g s l caller seat frame i o old has stands =
    All-head (λ (b : Freed). IsOwned s caller b.place b.need)
    (record { place = block_place frame seat.class i; need = need.Small seat.class; overwritten = false }) []
    (subst (λ p. All (λ b. IsOwned s caller b.place b.need) (holds_of p).frees) stands (old.tied.frees caller has))

-- the prefix word of a block that is freed says whose superblock's it is
pub prefix-ties :
    (g : Geometry) (s : State) (l : Lists) (caller : ℕ) (seat : SeatFields) (frame i : ℕ) (o : Continuation) → IsSoundWith g s l → caller < g.callers
    → (s.errand caller).point ≡ Block (block.LoadPrefix seat frame i) o
    → (d : ℕ) × IsBlockOfDesc g s l (block_place frame seat.class i) seat.class d × (s.word (name.Arena (block_place frame seat.class i)) ≡ 2 * d)
prefix-ties g s l caller seat frame i o old has stands =
    let place : ℕ = block_place frame seat.class i in
    let owned : IsOwned s caller place (need.Small seat.class) = begins-owned g s l caller seat frame i o old has stands in
    let (d, of, excepted) = old.tied.small place seat.class owned.block.0 owned.block.1 owned.block.3 in
    elim excepted [
      | inl x ↦
          absurd (begins-free seat frame i o place
          (subst (λ p. HoldsException (holds_of p) place) stands (only-owner g s l caller place (need.Small seat.class) old owned x)))
      | inr says ↦ (d, of, says)
    ]
