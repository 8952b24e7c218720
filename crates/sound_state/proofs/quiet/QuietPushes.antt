-- Loads on the way to a push: the prefix word, the anchor and the owner.
use Rattle.std.proofs.Common.{ℕ, Bool, true, false, Option, Some, None, ◌≡◌, ◌<◌, ◌+◌, ◌*◌, ◌^◌, [], refl, arith, sym, subst, nat_lt, IsTrue}
use Rattle.std.proofs.lemmas.Bool.{cond_both}
use Rattle.std.proofs.lemmas.List.Elements.{All-nil, All-cons}
use Rattle.sound_state.proofs.Common.{Geometry, block_place, frame_of, frame_of-block_place, AnchorFields, Site, descriptor_count, SeatFields, Continuation, Point, Block}
use Rattle.sound_state.proofs.Common.{At, event_of, next_of, plan_point_of, State, IsHazard, IsGuard, holds_of, Lists, IsSo, IsLocated, IsOwned, recalls_of, IsSoundWith}
use Rattle.sound_state.proofs.Common.{is_bound, Prefix, prefix_word, prefix_of, reads, prefix-exact, is_last, after_push_anchor, if_stored, Freed}
use Rattle.heap_geometry.specs.declared.need.Need.TheVariants as need
use Rattle.packed_words.specs.declared.prefix.Prefix.TheVariants.{Small, Large}
use Rattle.packed_words.specs.Fields.{Reads}
use Rattle.packed_words.specs.Prefix.{IsPrefix}
use Rattle.word_table.specs.declared.name.WordName.TheVariants as name
use Rattle.step_parts.specs.declared.superblock.point.BlockPoint.TheVariants as block
use Rattle.step_parts.specs.superblock.Points.{after_prefix}
use Rattle.sound_state.proofs.quiet.QuietSteps.{StepsSteadily, leads-on, onward, quiet-steady, steadily}
use Rattle.sound_state.proofs.shared.OwnerLemmas.{begins-owned, prefix-ties, begins-free}
use Rattle.sound_state.proofs.shared.PointLemmas.{blocks-go, fits-at, hazard-at, weigh-stays, goes-on}
use Rattle.sound_state.proofs.shared.KeepsSound.{KeepsSound}

-- the load of the owner of a guarded descriptor keeps the state sound
pub load_guarded_owner-sound : (site : Site) (i : ℕ) (a : AnchorFields) (o : Continuation) → KeepsSound (Block (block.LoadOwner site i a) o)
unfolding plan_point_of next_of event_of holds_of recalls_of
load_guarded_owner-sound site i a o = onward _ (grind (arith)) (λ w. grind (arith))

-- a small prefix word is twice its descriptor
small-prefix-word : (word d : ℕ) → word < 2 ^ 64 → prefix_of word ≡ Some (Small d) → word ≡ 2 * d
unfolding prefix_word
small-prefix-word word d below is =
    let reads_it : Reads IsPrefix prefix_word word (Some (Small d)) = reads prefix-exact word (Some (Small d)) below (sym is) in
    omega (arith, reads_it.1)

-- a block that is freed is one of the superblock of the descriptor that its prefix word names
prefix-names :
    (g : Geometry) (s : State) (l : Lists) (caller : ℕ) (seat : SeatFields) (frame i : ℕ) (o : Continuation) (d : ℕ) → IsSoundWith g s l
    → caller < g.callers → (s.errand caller).point ≡ Block (block.LoadPrefix seat frame i) o
    → prefix_of (s.word (name.Arena (block_place frame seat.class i))) ≡ Some (Small d)
    → IsTrue (is_bound g s l d) × IsLocated s d frame seat.class
prefix-names g s l caller seat frame i o d old has stands is =
    let place : ℕ = block_place frame seat.class i in
    let fit = (fits-at g s l caller (Block (block.LoadPrefix seat frame i) o) old has stands).point in
    let (e, of, says) = prefix-ties g s l caller seat frame i o old has stands in
    let same : e ≡ d = omega (arith, says, small-prefix-word (s.word (name.Arena place)) d (old.formed.words (name.Arena place)) is) in
    let located : IsLocated s d (frame_of place) seat.class = subst (λ e. IsLocated s e (frame_of place) seat.class) same of.located in (
      subst (λ e. IsTrue (is_bound g s l e)) same of.bound,
      subst (λ f. IsLocated s d f seat.class) (frame_of-block_place frame seat.class i fit.2) located,
    )

-- what a small prefix of one of the heap's descriptors leads to
small-prefix-leads :
    (g : Geometry) (s : State) (caller : ℕ) (seat : SeatFields) (frame i : ℕ) (o : Continuation) (d : ℕ) → caller < g.callers
    → (s.errand caller).point ≡ Block (block.LoadPrefix seat frame i) o → prefix_of (s.word (name.Arena (block_place frame seat.class i))) ≡ Some
    (Small d)
    → StepsSteadily g s caller (Block (block.LoadPrefix seat frame i) o)
    (At (Block (block.LoadPushAnchor (record { seat = seat; desc = d; frame = frame }) i false) o))
unfolding holds_of recalls_of
small-prefix-leads g s caller seat frame i o d has stands is = record {
  plain = tt;
  weighs = λ w. weigh-stays _ w _ _ refl refl refl (λ class. refl);
  goes = λ l old. record {
    stands = record {
      point = record {
        kept = All-nil _;
        so = All-cons (IsSo g s l caller) _ [] (prefix-names g s l caller seat frame i o d old has stands is)
            (All-nil (IsSo g s l caller));
        hands = All-nil _;
        frees =
            All-cons (λ (b : Freed). IsOwned s caller b.place b.need)
            (record { place = block_place frame seat.class i; need = need.Small seat.class; overwritten = true }) []
            (begins-owned g s l caller seat frame i o old has stands) (All-nil _);
      };
      spare = refl;
      excepts = λ place x. absurd (begins-free seat frame i o place x);
      turn = grind (arith);
    };
    hazard = hazard-at g s l caller (Block (block.LoadPrefix seat frame i) o) old has stands;
    guard = λ d word guard. guard;
    pushed = refl;
    passed = refl;
    unread = refl;
  };
}

-- the load of a prefix word that isn't expected leaves the caller where it is
prefix-stays :
    (g : Geometry) (s : State) (caller : ℕ) (seat : SeatFields) (frame i : ℕ) (o : Continuation) → caller < g.callers → (s.errand caller).point ≡ Block
    (block.LoadPrefix seat frame i) o
    → StepsSteadily g s caller (Block (block.LoadPrefix seat frame i) o) (At (Block (block.LoadPrefix seat frame i) o))
unfolding holds_of recalls_of
prefix-stays g s caller seat frame i o has stands = quiet-steady g s caller _ _ has stands (leads-on g s caller _ _ has stands (grind (arith)))

prefix-said :
    (g : Geometry) (s : State) (caller : ℕ) (seat : SeatFields) (frame i : ℕ) (o : Continuation) (said : Option Prefix) → caller < g.callers
    → (s.errand caller).point ≡ Block (block.LoadPrefix seat frame i) o → prefix_of (s.word (name.Arena (block_place frame seat.class i))) ≡ said
    → StepsSteadily g s caller (Block (block.LoadPrefix seat frame i) o) (At (Block (after_prefix seat frame i said) o))
prefix-said g s caller seat frame i o None has stands is = prefix-stays g s caller seat frame i o has stands
prefix-said g s caller seat frame i o (Some (Large units)) has stands is = prefix-stays g s caller seat frame i o has stands
prefix-said g s caller seat frame i o (Some (Small d)) has stands is =
    cond_both (nat_lt d (descriptor_count seat.geometry)) (block.LoadPushAnchor (record { seat = seat; desc = d; frame = frame }) i false)
    (block.LoadPrefix seat frame i) (λ q. StepsSteadily g s caller (Block (block.LoadPrefix seat frame i) o) (At (Block q o)))
    (λ exists. small-prefix-leads g s caller seat frame i o d has stands is) (λ none. prefix-stays g s caller seat frame i o has stands)

-- the load of a freed block's prefix word keeps the state sound
pub load_prefix-sound : (seat : SeatFields) (frame i : ℕ) (o : Continuation) → KeepsSound (Block (block.LoadPrefix seat frame i) o)
unfolding plan_point_of next_of event_of
load_prefix-sound seat frame i o = steadily _ (grind (arith)) (λ g s caller has stands. prefix-said g s caller seat frame i o _ has stands refl)

-- a hazard word that names a descriptor was stored, and so guards
stored-guards : (stored : Bool) (e d word : ℕ) → IsHazard (if_stored stored e) word → word ≡ d + 1 → IsGuard (if_stored stored e)
stored-guards true e d word hazard names = tt
stored-guards false e d word hazard names = omega (arith, hazard, names)

-- what an anchor leads to that is read for a push that makes the superblock EMPTY
push_anchor-last :
    (g : Geometry) (s : State) (caller : ℕ) (site : Site) (i : ℕ) (stored : Bool) (o : Continuation) (a : AnchorFields) → caller < g.callers
    → (s.errand caller).point ≡ Block (block.LoadPushAnchor site i stored) o → StepsSteadily g s caller (Block (block.LoadPushAnchor site i stored) o)
    (At (Block (block.StoreGuard site i a) o))
unfolding holds_of recalls_of
push_anchor-last g s caller site i stored o a has stands =
    let p : Point = Block (block.LoadPushAnchor site i stored) o in
    record {
      plain = tt;
      weighs = λ w. weigh-stays _ w _ _ refl refl refl (λ class. refl);
      goes = λ l old.
          blocks-go g s l caller p (Block (block.StoreGuard site i a) o) old has stands (grind (arith)) tt
          (λ d word guard. stored-guards stored site.desc d (s.word (name.Hazard caller)) (hazard-at g s l caller p old has stands) word) (All-nil _)
          (goes-on g s l caller p (recalls_of (Block (block.StoreGuard site i a) o)) old has stands (λ so. grind (arith, so)));
    }

-- what an anchor leads to that is read for any push
push_anchor-said :
    (g : Geometry) (s : State) (caller : ℕ) (site : Site) (i : ℕ) (stored : Bool) (o : Continuation) (said : Option AnchorFields) → caller < g.callers
    → (s.errand caller).point ≡ Block (block.LoadPushAnchor site i stored) o → StepsSteadily g s caller (Block (block.LoadPushAnchor site i stored) o)
    (At (Block (after_push_anchor site i stored said) o))
unfolding holds_of recalls_of
push_anchor-said g s caller site i stored o None has stands = quiet-steady g s caller _ _ has stands (leads-on g s caller _ _ has stands (grind (arith)))
push_anchor-said g s caller site i stored o (Some a) has stands =
    cond_both (is_last site.seat.class a) (block.StoreGuard site i a) (block.StoreLink site i a stored 0)
    (λ q. StepsSteadily g s caller (Block (block.LoadPushAnchor site i stored) o) (At (Block q o)))
    (λ last. push_anchor-last g s caller site i stored o a has stands)
    (λ more. quiet-steady g s caller _ _ has stands (leads-on g s caller _ _ has stands (grind (arith))))

-- the load of an anchor for a push keeps the state sound
pub load_push_anchor-sound : (site : Site) (i : ℕ) (stored : Bool) (o : Continuation) → KeepsSound (Block (block.LoadPushAnchor site i stored) o)
unfolding plan_point_of next_of event_of
load_push_anchor-sound site i stored o = steadily _ (grind (arith)) (λ g s caller. push_anchor-said g s caller site i stored o _)
