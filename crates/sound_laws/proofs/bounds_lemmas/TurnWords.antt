-- What a step of an allocation's turn writes of a descriptor: few do, and none puts one back to the superblocks.
use Rattle.std.proofs.Common.{ℕ, Bool, true, false, ◌≡◌, ◌≢◌, ◌≤◌, ap, arith, ◌∙◌, ◌==◌, if◌then◌else◌, ◌&&◌}
use Rattle.sound_state.proofs.Common.{Geometry, Found, WordName, name_of, after_action, SeatFields, BlockPoint, Next, At, End, Retire, Pick, Unlist, Continuation, Point}
use Rattle.sound_state.proofs.Common.{Block, Stack, Desc, Partial, FitsPoint, next_of, plan_point_of, on_its_way, holds_of, in_turn, kept_among, Action, StackPoint}
use Rattle.sound_state.proofs.Common.{LargePoint, Large}
use Rattle.word_table.specs.declared.name.WordName.TheVariants as name
use Rattle.step_parts.specs.declared.superblock.point.BlockPoint.TheVariants as block
use Rattle.word_table.specs.declared.onward.Onward.{Onward}
use Rattle.word_table.specs.Onwards.{told_onward}
use Rattle.step_parts.specs.declared.superblock.exit.BlockExit.{BlockExit}
use Rattle.step_parts.specs.superblock.Points.{settle_block_of, seat_of_block, seat_of_block_exit}
use Rattle.step_parts.proofs.superblock_lemmas.PointLemmas.{settle-seat}
use Rattle.step_parts.specs.declared.hazard.point.DescPoint.TheVariants as desc
use Rattle.errand_steps.specs.declared.next.Next.TheVariants.{Turn}
use Rattle.errand_steps.specs.Nexts.{enter_block}
use Rattle.sound_laws.specs.bounds.Alone.{class_at}
use Rattle.sound_state.specs.TurnStages.{is_turn}
use Rattle.sound_laws.proofs.bounds_lemmas.WinDefs.{next_stage}
use Rattle.word_table.specs.declared.action.Action.TheVariants.{Load}
use Rattle.errand_steps.specs.Fits.{FitsInStack}

-- whether the word says where a descriptor is, or in what state its superblock is
abbrev pub tells : WordName → Bool
tells (name.Anchor d) = true
tells (name.Next d) = true
tells (name.Info d) = true
tells name.DescHead = true
tells n = false

-- whether the action may change its word; whether a point of a turn may so change a word that tells of a descriptor
abbrev is_change : Action → Bool
is_change (Load n) = false
is_change a = true

abbrev pub writes_told : Point → Bool
writes_told p = is_change (plan_point_of p) && tells (name_of (plan_point_of p)) && in_turn p

-- no turn changes a word that tells of a descriptor at a stack, or at a large block
pub stack-told : (g : Geometry) (caller : ℕ) (p : StackPoint) (o : Continuation) → FitsInStack g caller p o → writes_told (Stack p o) ≡ false
unfolding plan_point_of
stack-told g caller p o fits = grind (arith, fits.goes)

pub large-told : (p : LargePoint) (o : Continuation) → writes_told (Large p o) ≡ false
unfolding plan_point_of
large-told p o = grind (arith)

load-stays : (a : Action) (v : ℕ) → is_change a ≡ false → after_action a v ≡ v
load-stays a v is = grind (arith, is)

but-first : (a b c : Bool) → (a && b && c) ≡ false → b ≡ true → c ≡ true → a ≡ false
but-first a b c none second third = grind (arith, none, second, third)

-- a word that tells of a descriptor stays at all points of a turn that write none
pub told-stays :
    (p : Point) (v : ℕ) → in_turn p ≡ true → writes_told p ≡ false → tells (name_of (plan_point_of p)) ≡ true → after_action (plan_point_of p) v ≡ v
told-stays p v turn none told =
    let a = plan_point_of p in load-stays a v (but-first (is_change a) (tells (name_of a)) (in_turn p) none told turn)

-- how often a descriptor is on its way or retired where a caller goes on
abbrev pub next_ways : ℕ → Next → ℕ
next_ways d (At q) = kept_among on_its_way d (holds_of q).kept
next_ways d (Retire s k o) = if k == d then 1 else 0
next_ways d n = 0

-- whether the point is the store of a new superblock's anchor, after which its descriptor is out
abbrev pub puts_out : Point → Bool
puts_out (Block (block.StoreAnchor at) o) = true
puts_out p = false

-- a descriptor on its way stays so, or is retired, at all points of a turn but the store of a new superblock's anchor
pub point-ways :
    (g : Geometry) (caller : ℕ) (p : Point) (x : Found) (d : ℕ) → FitsPoint g caller p → puts_out p ≡ false → in_turn p ≡ true
    → kept_among on_its_way d (holds_of p).kept ≤ next_ways d (next_of p x)
unfolding next_of holds_of
point-ways g caller (Block p o) x d fits out turn = grind (arith, fits.goes, out, turn)
point-ways g caller (Stack p o) x d fits out turn = grind (arith, fits.goes, turn)
point-ways g caller (Desc p o) x d fits out turn = grind (arith, fits.goes, turn)
point-ways g caller (Partial p o) x d fits out turn = grind (arith, fits.goes, turn)
point-ways g caller p x d fits out turn = absurd (grind (arith, turn))

-- whether the point is the push of a retired descriptor, which takes it off a list
abbrev pub pushes_desc : Point → Bool
pushes_desc (Desc (desc.PushDesc s d top) o) = true
pushes_desc p = false

pub none-unlisted :
    (g : Geometry) (caller : ℕ) (p : Point) (x : Found) (seat : SeatFields) (k : ℕ) (continuation : Continuation) → FitsPoint g caller p → in_turn p ≡ true
    → pushes_desc p ≡ false → next_of p x ≢ Unlist seat k continuation
unfolding next_of
none-unlisted g caller p x seat k continuation fits turn other is = grind (arith, turn, other, is)

-- a point that writes no word which tells of a descriptor neither puts one out nor pushes one
pub quiet-points : (p : Point) → in_turn p ≡ true → writes_told p ≡ false → (puts_out p ≡ false) × (pushes_desc p ≡ false)
unfolding plan_point_of
quiet-points p turn none = (grind (arith, none), grind (arith, turn, none))

-- whether the caller is in a turn where it goes on
abbrev pub next_turn : Next → Bool
next_turn n = is_turn (next_stage n)

-- the class that a caller is at work on where it goes on
abbrev pub next_class : Next → ℕ
next_class (At q) = class_at q
next_class (End r) = 0
next_class (Turn s words) = s.class
next_class (Retire s d o) = s.class
next_class (Pick s held o) = s.class
next_class (Unlist s d o) = s.class

-- a turn that goes on after a step in a superblock is at work on the class of the seat there
entered-class :
    (n : Onward BlockPoint BlockExit) (o : Continuation) → next_turn (enter_block n o) ≡ true
    → next_class (enter_block n o) ≡ (told_onward seat_of_block seat_of_block_exit n).class
entered-class n o turn = grind (arith, turn)

-- a turn that goes on behind a step was under way before it, on the same class
pub turn-goes :
    (g : Geometry) (caller : ℕ) (p : Point) (x : Found) → FitsPoint g caller p → next_turn (next_of p x) ≡ true
    → (in_turn p ≡ true) × (next_class (next_of p x) ≡ class_at p)
unfolding next_of
turn-goes g caller (Block p o) x fits turn = (
  grind (arith, fits, turn),
  entered-class (settle_block_of p x) o turn ∙ ap (λ s. s.class) (settle-seat p x),
)
turn-goes g caller p x fits turn = (grind (arith, fits, turn), grind (arith, fits, turn))
