-- What a step leaves in its word is a word of 64 bits.
use Rattle.std.proofs.Common.{ℕ, None, Some, Option, ◌≡◌, ◌<◌, ◌+◌, ◌-◌, ◌%◌, ◌^◌, ◌==◌, arith, ap, inl, inr, eq-eqb, ne_eqb, subst}
use Rattle.std.specs.Prelude.{if◌then◌else◌}
use Rattle.std.proofs.lemmas.Bool.{cases_eq, cond_both}
use Rattle.packed_words.specs.declared.widths.TheConstants.{TOP_BITS}
use Rattle.packed_words.specs.declared.anchor.AnchorState.TheVariants as phase
use Rattle.packed_words.specs.declared.prefix.Prefix.TheVariants as prefix
use Rattle.packed_words.proofs.HeadLemmas.{head_word-below}
use Rattle.sound_state.proofs.Common.{Geometry, IsChecked, AnchorFields, IsAnchor, anchor_word-below, active_word, Null, Held, active-exact, info-exact, prefix-exact}
use Rattle.sound_state.proofs.Common.{shelf-exact, link_of, AVAIL_BITS, COUNT_BITS, CREDIT_BITS, WantFields, after_action, block_count_of-most, descriptor_count}
use Rattle.sound_state.proofs.Common.{descriptor_count_within, is_last, new_credits, first_wanted, Pile, Frames, Partials, pile_limit, Share, BlockPoint, StackPoint}
use Rattle.sound_state.proofs.Common.{DescPoint, PartialPoint, LargePoint, FitsBlock, plan_block_of, plan_stack_of, plan_desc_of, plan_partial_of, plan_large_of, Point}
use Rattle.sound_state.proofs.Common.{Idle, Block, Stack, Desc, Partial, Large, FitsPoint, plan_point_of, new_anchor, block_count_of}
use Rattle.step_parts.specs.declared.superblock.point.BlockPoint.TheVariants as block
use Rattle.step_parts.specs.superblock.Anchors.{popped, returned, pushed, pushed_state, new_link}
use Rattle.step_parts.specs.superblock.Points.{credit_taken}
use Rattle.step_parts.specs.stack.Points.{FitsStack}
use Rattle.step_parts.specs.hazard.Points.{FitsDesc}
use Rattle.step_parts.specs.declared.partial.point.PartialPoint.TheVariants as partial
use Rattle.step_parts.specs.partial.Grants.{granted}
use Rattle.step_parts.specs.partial.Points.{FitsPartial}
use Rattle.step_parts.specs.declared.large.point.LargePoint.TheVariants as large
use Rattle.step_parts.specs.large.Points.{FitsLarge, units_taken}
use Rattle.step_parts.specs.large.Units.{IsFirstRun}
use Rattle.step_parts.proofs.large_lemmas.LowestLemmas.{first_run-exact}
use Rattle.step_parts.proofs.large_lemmas.UnitLemmas.{with_run-below, without_run-below}
use Rattle.sound_state.proofs.shared.WordFacts.{held-fits, name-below, site-info}

-- an exchange leaves a word where the one that it would write is one
exchanged : (w expected new : ℕ) → w < 2 ^ 64 → (w ≡ expected → new < 2 ^ 64) → (if w == expected then new else w) < 2 ^ 64
exchanged w expected new word writes =
    elim (cases_eq w expected) [
      | inl is ↦ rw (eq-eqb w expected is) (writes is)
      | inr other ↦ rw (ne_eqb w expected other) word
    ]

-- the anchors that steps write fit their words
pub popped-fits : (share : Share) (a : AnchorFields) (prefix : ℕ) → IsAnchor a → IsAnchor (popped share a (link_of prefix))
popped-fits share a prefix fits = record { avail = omega arith; count = omega (arith, fits.count); tag = omega arith }

pub returned-fits : (more : ℕ) (a : AnchorFields) → IsAnchor a → IsAnchor (returned more a)
returned-fits more a fits = record { avail = fits.avail; count = omega arith; tag = fits.tag }

pub granted-fits : (a : AnchorFields) → IsAnchor a → IsAnchor (granted a)
granted-fits a fits = record { avail = fits.avail; count = omega (arith, fits.count); tag = fits.tag }

pub pushed-fits : (class i : ℕ) (a : AnchorFields) → IsAnchor a → IsAnchor (pushed class i a)
pushed-fits class i a fits =
    cond_both (is_last class a) (record { avail = i % 2 ^ AVAIL_BITS; count = a.count; state = phase.Empty; tag = a.tag })
    (record { avail = i % 2 ^ AVAIL_BITS; count = (a.count + 1) % 2 ^ COUNT_BITS; state = pushed_state a.state; tag = a.tag }) IsAnchor
    (λ last. record { avail = omega arith; count = fits.count; tag = fits.tag }) (λ more. record { avail = omega arith; count = omega arith; tag = fits.tag })

pub new_anchor-fits : (class : ℕ) → IsAnchor (new_anchor class)
new_anchor-fits class = record { avail = omega arith; count = omega (arith, block_count_of-most class); tag = omega arith }

-- so do the credits of a new superblock
pub credits-few : (class : ℕ) → new_credits class < 2 ^ CREDIT_BITS
credits-few class = grind (arith)

-- one credit less, or null
taken-below :
    (g : Geometry) (d credits : ℕ) → IsChecked g → d < descriptor_count g → credits < 2 ^ CREDIT_BITS → credit_taken d credits < 2 ^ 64
taken-below g d credits checked has few =
    cond_both (credits == 0) (active_word Null) (active_word (Held d (credits - 1))) (λ v. v < 2 ^ 64) (λ none. active-exact.fits Null tt)
    (λ some. active-exact.fits (Held d (credits - 1)) (held-fits g d (credits - 1) checked has (omega (arith, few))))

link-below : (class i : ℕ) → i < block_count_of class → new_link class i < 2 ^ 64
link-below class i within = grind (arith, within, block_count_of-most class)

-- an index of a stack, or nothing, fits a head
index-room : (g : Geometry) (p : Pile) → IsChecked g → pile_limit g p < 2 ^ TOP_BITS
index-room g Frames checked = omega (arith, checked.frames.1)
index-room g Partials checked = omega (arith, descriptor_count_within g checked)

units-below :
    (g : Geometry) (w : WantFields) (bits : ℕ) (first : Option ℕ) → IsChecked g → w.geometry ≡ g → bits < 2 ^ 64
    → IsFirstRun bits w.geometry.units w.units first → units_taken bits w.units first < 2 ^ 64
units-below g w bits None checked same word lowest = word
units-below g w bits (Some first) checked same word lowest =
    with_run-below bits first w.units (omega (arith, lowest.within, ap (λ h. h.units) same, checked.units.1)) word

-- what an action leaves at a point of each part
block-writes :
    (g : Geometry) (caller : ℕ) (p : BlockPoint) (w : ℕ) → IsChecked g → FitsBlock g caller p → w < 2 ^ 64 → after_action (plan_block_of p) w < 2 ^ 64
block-writes g caller (block.TakeCredit seat d credits) w checked fit word =
    exchanged w _ _ word (λ is. taken-below g d credits checked fit.0.desc fit.1)
block-writes g caller (block.StorePrefix at i) w checked fit word =
    prefix-exact.fits (prefix.Small at.desc) (omega (arith, fit.site.desc, descriptor_count_within g checked))
block-writes g caller (block.InstallCredits at i more) w checked fit word =
    exchanged w _ _ word
    (λ is. active-exact.fits (Held at.desc (more - 1)) (held-fits g at.desc (more - 1) checked fit.0.site.desc (omega (arith, fit.1.0, fit.1.1))))
block-writes g caller (block.InstallSuperblock at) w checked fit word =
    exchanged w _ _ word
    (λ is. active-exact.fits (Held at.desc (new_credits at.seat.class))
    (held-fits g at.desc (new_credits at.seat.class) checked fit.desc (credits-few at.seat.class)))
block-writes g caller (block.StoreGuard at i a) w checked fit word = name-below g at.desc checked fit.block.site.desc
block-writes g caller p w checked fit word =
    grind (arith, checked, fit, word, exchanged, anchor_word-below, popped-fits, returned-fits, pushed-fits, new_anchor-fits, link-below, info-exact.fits, site-info)

stack-writes :
    (g : Geometry) (caller : ℕ) (p : StackPoint) (w : ℕ) → IsChecked g → FitsStack g caller p → w < 2 ^ 64 → after_action (plan_stack_of p) w < 2 ^ 64
stack-writes g caller p w checked fit word =
    grind (arith, checked, fit, word, exchanged, index-room g Frames checked, index-room g Partials checked, head_word-below)

desc-writes :
    (g : Geometry) (caller : ℕ) (p : DescPoint) (w : ℕ) → IsChecked g → FitsDesc g caller p → w < 2 ^ 64 → after_action (plan_desc_of p) w < 2 ^ 64
desc-writes g caller p w checked fit word =
    grind (arith, checked, fit, word, exchanged, name-below, descriptor_count_within g checked)

partial-writes :
    (g : Geometry) (caller : ℕ) (p : PartialPoint) (w : ℕ) → IsChecked g → FitsPartial g caller p → w < 2 ^ 64
    → after_action (plan_partial_of p) w < 2 ^ 64
partial-writes g caller (partial.PutSlot seat d heap) w checked fit word = name-below g d checked fit.desc
partial-writes g caller p w checked fit word =
    grind (arith, checked, fit, word, exchanged, info-exact.fits, site-info, anchor_word-below, granted-fits, name-below)

large-writes :
    (g : Geometry) (p : LargePoint) (w : ℕ) → IsChecked g → FitsLarge g p → w < 2 ^ 64 → after_action (plan_large_of p) w < 2 ^ 64
large-writes g (large.TakeRun want bits) w checked fit word =
    exchanged w _ _ word
    (λ is. units-below g want bits (first_wanted want bits) checked fit.geometry (subst (λ v. v < 2 ^ 64) is word)
    (first_run-exact bits want.geometry.units want.units))
large-writes g p w checked fit word = grind (arith, checked, fit, word, exchanged, prefix-exact.fits, without_run-below, shelf-exact.fits)

-- what an action leaves is a word
pub writes-word :
    (g : Geometry) (caller : ℕ) (p : Point) (w : ℕ) → IsChecked g → FitsPoint g caller p → w < 2 ^ 64 → after_action (plan_point_of p) w < 2 ^ 64
unfolding plan_point_of
writes-word g caller Idle w checked fit word = word
writes-word g caller (Block p o) w checked fit word = block-writes g caller p w checked fit.point word
writes-word g caller (Stack p o) w checked fit word = stack-writes g caller p w checked fit.point word
writes-word g caller (Desc p o) w checked fit word = desc-writes g caller p w checked fit.point word
writes-word g caller (Partial p o) w checked fit word = partial-writes g caller p w checked fit.point word
writes-word g caller (Large p o) w checked fit word = large-writes g p w checked fit.point word
