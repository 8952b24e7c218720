-- What the step from each point does to the tag in an anchor's word.
use Rattle.std.proofs.Common.{ℕ, Bool, false, ◌≡◌, ◌<◌, ◌≤◌, ◌+◌, ◌^◌, arith, ap, ◌⊎◌, ◌==◌, ◌&&◌, if◌then◌else◌, eq-eqb, ne_eqb}
use Rattle.sound_state.proofs.Common.{Geometry, AnchorFields, anchor_of, anchor_word, name_of, after_action, link_of, BlockPoint, Share, StackPoint, DescPoint, LargePoint}
use Rattle.sound_state.proofs.Common.{PartialPoint, Point, FitsPoint, plan_point_of, on_its_way, holds_of, kept_among, one_if, TAG_BITS, IsAnchor, anchor_of-anchor_word}
use Rattle.sound_state.proofs.Common.{Action, FitsBlock, plan_block_of, plan_stack_of, plan_desc_of, plan_large_of, plan_partial_of, block_holds}
use Rattle.word_table.specs.declared.name.WordName.TheVariants as name
use Rattle.word_table.specs.Actions.{is_won}
use Rattle.step_parts.specs.superblock.Anchors.{popped, pushed}
use Rattle.step_parts.specs.partial.Points.{FitsPartial}
use Rattle.errand_steps.specs.tables.Blocks.{pops_block}
use Rattle.sound_state.specs.Tags.{pops_at}
use Rattle.sound_state.proofs.shared.WrittenWords.{popped-fits, returned-fits, granted-fits, pushed-fits}

-- the tag in an anchor's word
abbrev tag_in : ℕ → ℕ
tag_in w = (anchor_of w).tag

-- the action leaves the tag of an anchor's word, or the next one where it pops
abbrev TagGoes : Action → Bool → ℕ → Type 0
TagGoes a pops w = tag_in (after_action a w) ≡ tag_in w + one_if (pops && is_won a w)

-- the word of an anchor has its tag
word-tag : (a : AnchorFields) → IsAnchor a → tag_in (anchor_word a) ≡ a.tag
word-tag a fits = ap (λ (x : AnchorFields). x.tag) (anchor_of-anchor_word a fits)

-- an exchange of an anchor for one with the same tag keeps the tag, won or lost
tag-kept :
    (w : ℕ) (a b : AnchorFields) → IsAnchor a → IsAnchor b → b.tag ≡ a.tag
    → tag_in (if w == anchor_word a then anchor_word b else w) ≡ tag_in w + 0
tag-kept w a b fits new same = grind (arith, fits, new, same, eq-eqb, word-tag, ne_eqb)

-- a push keeps the tag
pushed-keeps_tag : (class i : ℕ) (a : AnchorFields) → (pushed class i a).tag ≡ a.tag
pushed-keeps_tag class i a = grind (arith)

-- a pop that is won leaves the next tag
pop-goes :
    (w d e : ℕ) (share : Share) (a : AnchorFields) (prefix : ℕ) → IsAnchor a → tag_in w + 1 < 2 ^ TAG_BITS → e ≡ d
    → tag_in (if w == anchor_word a then anchor_word (popped share a (link_of prefix)) else w)
    ≡ tag_in w + one_if ((e == d) && (w == anchor_word a))
pop-goes w d e share a prefix fits room same = grind (arith, fits, room, same, word-tag, popped-fits, eq-eqb, ne_eqb)

-- the step in a superblock does so to an anchor's tag, or its caller keeps the descriptor on its way
tag-block :
    (g : Geometry) (caller d w : ℕ) (p : BlockPoint) → FitsBlock g caller p → tag_in w + 1 < 2 ^ TAG_BITS
    → name_of (plan_block_of p) ≡ name.Anchor d
    → TagGoes (plan_block_of p) (pops_block d p) w ⊎ (1 ≤ kept_among on_its_way d (block_holds p).kept)
tag-block g caller d w p fits room is = grind (arith, fits, room, is, pop-goes, tag-kept, returned-fits, pushed-fits, pushed-keeps_tag, eq-eqb)

-- no step at a stack is on an anchor
stack-not-anchor : (p : StackPoint) (d : ℕ) → name_of (plan_stack_of p) ≡ name.Anchor d → ⊥
stack-not-anchor p d is = grind (arith, is)

-- no step at the descriptors, the hazard words, a large block or a shelf is on an anchor
not-desc : (p : DescPoint) (d : ℕ) → name_of (plan_desc_of p) ≡ name.Anchor d → ⊥
not-desc p d is = grind (arith, is)

large-not-anchor : (p : LargePoint) (d : ℕ) → name_of (plan_large_of p) ≡ name.Anchor d → ⊥
large-not-anchor p d is = grind (arith, is)

-- the step at a partial superblock leaves the tag in an anchor's word
tag-partial :
    (g : Geometry) (caller d w : ℕ) (p : PartialPoint) → FitsPartial g caller p → name_of (plan_partial_of p) ≡ name.Anchor d
    → TagGoes (plan_partial_of p) false w
tag-partial g caller d w p fits is = grind (arith, fits, is, tag-kept, granted-fits)

-- the step at each point does so to an anchor's tag, or its caller keeps the descriptor on its way
pub tag-point :
    (g : Geometry) (caller d w : ℕ) (p : Point) → FitsPoint g caller p → tag_in w + 1 < 2 ^ TAG_BITS → name_of (plan_point_of p) ≡ name.Anchor d
    → TagGoes (plan_point_of p) (pops_at d p) w ⊎ (1 ≤ kept_among on_its_way d (holds_of p).kept)
unfolding plan_point_of holds_of
tag-point g caller d w p fits room is = grind (arith, fits, room, is, tag-block, stack-not-anchor, not-desc, tag-partial, large-not-anchor)

-- a pop is at the anchor of the superblock from which it pops
pub pops-point : (d : ℕ) (p : Point) → (name_of (plan_point_of p) ≡ name.Anchor d) ⊎ (pops_at d p ≡ false)
unfolding plan_point_of
pops-point d p = grind (arith)
