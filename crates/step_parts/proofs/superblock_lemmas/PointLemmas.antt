-- Of every point: what it remembers exists in its heap before and after its step, and its seat stays.
use Rattle.std.proofs.Common.{ℕ, Bool, true, ◌+◌, false, ◌≡◌, ◌<◌, ◌≤◌, ◌^◌, Option, Some, None, arith, ap, refl}
use Rattle.std.specs.Prelude.{if◌then◌else◌}
use Rattle.std.proofs.lemmas.Bool.{cond_both}
use Rattle.std.proofs.lemmas.Bool.Decides.{nat_tests}
use Rattle.std.proofs.lemmas.Nat.{pow_pos}
use Rattle.heap_geometry.proofs.PlaceLemmas.{block-within}
use Rattle.heap_geometry.specs.declared.geometry.Geometry.{Geometry}
use Rattle.heap_geometry.specs.declared.limits.TheConstants.{CLASSES}
use Rattle.heap_geometry.specs.Geometry.{IsChecked}
use Rattle.heap_geometry.specs.Need.{block_count_of}
use Rattle.packed_words.specs.declared.active.ActiveWord.{ActiveWord}
use Rattle.packed_words.specs.declared.active.ActiveWord.TheVariants.{Null, Held}
use Rattle.packed_words.specs.declared.anchor.AnchorState.{AnchorState}
use Rattle.packed_words.specs.declared.anchor.AnchorState.TheVariants as state
use Rattle.packed_words.specs.declared.prefix.Prefix.{Prefix}
use Rattle.packed_words.specs.declared.prefix.Prefix.TheVariants.{Small, Large}
use Rattle.packed_words.specs.Active.{IsActiveWord, active_word, active_of}
use Rattle.packed_words.specs.Anchor.{AnchorFields}
use Rattle.packed_words.specs.Fields.{Reads}
use Rattle.packed_words.specs.Info.{info_of}
use Rattle.packed_words.specs.Prefix.{prefix_of}
use Rattle.packed_words.proofs.ActiveLemmas.{active-exact}
use Rattle.word_table.specs.declared.action.Found.{Found}
use Rattle.word_table.specs.declared.limits.TheConstants.{MOST_CREDITS}
use Rattle.word_table.specs.declared.onward.Onward.{Onward}
use Rattle.word_table.specs.declared.onward.Onward.TheVariants.{Stays, Leaves}
use Rattle.word_table.specs.declared.seat.Site.{Site}
use Rattle.word_table.specs.Actions.{name_of}
use Rattle.word_table.specs.Counts.{descriptor_count}
use Rattle.word_table.specs.Onwards.{IsOnward, told_onward}
use Rattle.word_table.specs.Seats.{SeatFields, heap_of, info_in, anchor_in}
use Rattle.word_table.specs.Sites.{IsSeatOf, IsSiteOf}
use Rattle.word_table.specs.Table.{Exists}
use Rattle.word_table.proofs.SeatLemmas.{heap_of-within, block_count_of-least, each-info, each-anchor}
use Rattle.step_parts.specs.declared.superblock.point.Share.{Share}
use Rattle.step_parts.specs.declared.superblock.point.Share.TheVariants.{Credit, LastCredit, Grant}
use Rattle.step_parts.specs.declared.superblock.point.BlockPoint.{BlockPoint}
use Rattle.step_parts.specs.declared.superblock.point.BlockPoint.TheVariants.{LoadActive, LoadInfo, LoadAnchor, PopBlock, LoadReturn, LoadPrefix, LoadPushAnchor, LoadOwner, PushBlock}
use Rattle.step_parts.specs.declared.superblock.exit.BlockExit.{BlockExit}
use Rattle.step_parts.specs.declared.superblock.exit.BlockExit.TheVariants.{BecameEmpty}
use Rattle.step_parts.specs.superblock.Anchors.{is_last, more_of}
use Rattle.step_parts.specs.superblock.Points.{IsHeldBy, IsBlockOf, IsShare, IsLastPush, FitsBlock, FitsBlockExit, plan_block_of, settle_block_of, after_active, after_info, after_anchor, after_pop, after_return_anchor, after_prefix, after_push_anchor, after_owner, after_push_to, after_push, seat_of_block, seat_of_block_exit}

-- the active word of a caller's processor heap exists
active-exists : (g : Geometry) (caller : ℕ) (s : SeatFields) → IsChecked g → IsSeatOf g caller s → (heap_of s < g.heaps) × (s.class < CLASSES)
active-exists g caller s checked seat =
    let same : s.geometry.heaps ≡ g.heaps = ap (λ x. x.heaps) seat.geometry in
    (omega (arith, heap_of-within s (omega (arith, checked.heaps.0)), same), seat.class)

-- the word that a point's action is on exists
pub plan-exists :
    (g : Geometry) (caller : ℕ) (p : BlockPoint) → IsChecked g → caller < g.callers → FitsBlock g caller p
    → Exists g (name_of (plan_block_of p))
plan-exists g caller p checked has h =
    let class : ℕ = (seat_of_block p).class in
    grind (arith, h, active-exists g caller (seat_of_block p) checked, block-within class, pow_pos (class + 1))

-- a choice of two points fits where both do
either :
    (g : Geometry) (caller : ℕ) (b : Bool) (x y : BlockPoint) → (b ≡ true → FitsBlock g caller x) → (b ≡ false → FitsBlock g caller y)
    → FitsBlock g caller (if b then x else y)
either g caller b x y = cond_both b x y (FitsBlock g caller)

-- what a step leads to fits
abbrev pub FitsOnward : Geometry → ℕ → Onward BlockPoint BlockExit → Type 0
FitsOnward g caller = IsOnward (FitsBlock g caller) (FitsBlockExit g caller)

-- a step fits where it does both won and lost
either-onward :
    (g : Geometry) (caller : ℕ) (b : Bool) (x y : Onward BlockPoint BlockExit) → (b ≡ true → FitsOnward g caller x)
    → (b ≡ false → FitsOnward g caller y) → FitsOnward g caller (if b then x else y)
either-onward g caller b x y = cond_both b x y (FitsOnward g caller)

-- the point or exit after an active word was read fits
fits-active :
    (g : Geometry) (caller : ℕ) (s : SeatFields) (word : ℕ) (o : Option ActiveWord) → IsSeatOf g caller s
    → Reads IsActiveWord active_word word o → FitsOnward g caller (after_active s o)
fits-active g caller s word None seat reads = seat
fits-active g caller s word (Some Null) seat reads = seat
fits-active g caller s word (Some (Held d credits)) seat reads =
    let same : descriptor_count s.geometry ≡ descriptor_count g = ap descriptor_count seat.geometry in
    grind (arith, nat_tests, seat, reads, same)

-- the point after a descriptor's word was read fits
fits-info :
    (g : Geometry) (caller : ℕ) (s : SeatFields) (d word : ℕ) (share : Share) → IsHeldBy g caller s d → IsShare share
    → FitsBlock g caller (after_info s d share (info_in s.geometry word))
fits-info g caller s d word share h paid =
    each-info s.geometry (λ o. FitsBlock g caller (after_info s d share o)) (info_of word) (h, paid)
    (λ i frame heap. (
      record { seat = h.seat; desc = h.desc; frame = omega (arith, frame, ap (λ x. x.frames) h.seat.geometry) },
      paid,
    ))

-- the point after the prefix word of a freed block was read fits
fits-prefix :
    (g : Geometry) (caller : ℕ) (s : SeatFields) (frame i : ℕ) (o : Option Prefix) → IsSeatOf g caller s → frame < g.frames
    → i < block_count_of s.class → FitsBlock g caller (after_prefix s frame i o)
fits-prefix g caller s frame i None seat has within = (seat, has, within)
fits-prefix g caller s frame i (Some (Large units)) seat has within = (seat, has, within)
fits-prefix g caller s frame i (Some (Small d)) seat has within =
    let same : descriptor_count s.geometry ≡ descriptor_count g = ap descriptor_count seat.geometry in
    grind (arith, nat_tests, seat, has, within, same)

-- the point after an anchor was read for a push fits
fits-push_anchor :
    (g : Geometry) (caller : ℕ) (at : Site) (i : ℕ) (stored : Bool) (word : ℕ) → IsChecked g → IsBlockOf g caller at i
    → FitsBlock g caller (after_push_anchor at i stored (anchor_in at.seat.class word))
fits-push_anchor g caller at i stored word checked h =
    each-anchor at.seat.class word (λ o. FitsBlock g caller (after_push_anchor at i stored o)) h
    (λ a anchor. grind (arith, h, anchor, checked.heaps.0))

-- the point after the word of a guarded descriptor was read fits
fits-owner :
    (g : Geometry) (caller : ℕ) (at : Site) (i : ℕ) (a : AnchorFields) (word : ℕ) → IsLastPush g caller at i a
    → FitsBlock g caller (after_owner at i a (info_in at.seat.geometry word))
fits-owner g caller at i a word h =
    each-info at.seat.geometry (λ o. FitsBlock g caller (after_owner at i a o)) (info_of word) h
    (λ info frame heap. record {
      block = h.block;
      anchor = h.anchor;
      owner = omega (arith, heap, ap (λ x. x.heaps) h.block.site.seat.geometry);
      before_last = λ last. refl;
    })

-- the exit of a push that does not make the superblock empty fits
fits-pushed : (g : Geometry) (caller : ℕ) (at : Site) (stored : Bool) (s : AnchorState) → IsSiteOf g caller at → FitsBlockExit g caller (after_push_to at stored s)
fits-pushed g caller at stored state.Active h = h.seat
fits-pushed g caller at stored state.Full h = h
fits-pushed g caller at stored state.Partial h = h.seat
fits-pushed g caller at stored state.Empty h = h.seat

-- the blocks that wait to be offered after a pop are no more than an active word can offer
more_of-within : (share : Share) (a : AnchorFields) → IsShare share → more_of share a ≤ MOST_CREDITS
more_of-within Credit a paid = omega arith
more_of-within LastCredit a paid = omega arith
more_of-within (Grant more) a paid = paid

-- the point after a pop fits
fits-pop :
    (g : Geometry) (caller : ℕ) (at : Site) (i more : ℕ) → IsBlockOf g caller at i → more ≤ MOST_CREDITS → FitsBlock g caller (after_pop at i more)
fits-pop g caller at i more block most = grind (arith, nat_tests, block, most)

-- the point after a step fits, or its exit
pub settle-fits :
    (g : Geometry) (caller : ℕ) (p : BlockPoint) (x : Found) → IsChecked g → x.value < 2 ^ 64 → FitsBlock g caller p
    → FitsOnward g caller (settle_block_of p x)
settle-fits g caller (LoadActive s) x checked word h =
    fits-active g caller s x.value (active_of x.value) h (active-exact.reads x.value word)
settle-fits g caller (LoadInfo s d share) x checked word h = fits-info g caller s d x.value share h.0 h.1
settle-fits g caller (LoadAnchor at share) x checked word h =
    each-anchor at.seat.class x.value (λ o. FitsBlock g caller (after_anchor at share o)) h
    (λ a anchor. record { site = h.0; paid = h.1; anchor = anchor })
settle-fits g caller (PopBlock at share a prefix) x checked word h =
    let block : IsBlockOf g caller at a.avail = record { site = h.site; index = h.anchor.avail } in
    either g caller x.won (after_pop at a.avail (more_of share a)) (LoadAnchor at share)
    (λ e. fits-pop g caller at a.avail (more_of share a) block (more_of-within share a h.paid))
    (λ e. (h.site, h.paid))
settle-fits g caller (LoadReturn at i more) x checked word h =
    each-anchor at.seat.class x.value (λ o. FitsBlock g caller (after_return_anchor at i more o)) h
    (λ a anchor. (h.0, h.1, anchor))
settle-fits g caller (LoadPrefix s frame i) x checked word h = fits-prefix g caller s frame i (prefix_of x.value) h.0 h.1 h.2
settle-fits g caller (LoadPushAnchor at i stored) x checked word h = fits-push_anchor g caller at i stored x.value checked h
settle-fits g caller (LoadOwner at i a) x checked word h = fits-owner g caller at i a x.value h
settle-fits g caller (PushBlock at i a stored heap) x checked word h =
    either-onward g caller x.won (Leaves (after_push at a stored heap)) (Stays (LoadPushAnchor at i stored))
    (λ e. cond_both (is_last at.seat.class a) (BecameEmpty at heap) (after_push_to at stored a.state) (FitsBlockExit g caller)
    (λ last. (h.block.site, h.owner))
    (λ not_last. fits-pushed g caller at stored a.state h.block.site))
    (λ e. h.block)
settle-fits g caller p x checked word h = grind (arith, h, nat_tests, block_count_of-least)

-- the seat of what a step leads to
abbrev pub seat_onward : Onward BlockPoint BlockExit → SeatFields
seat_onward = told_onward seat_of_block seat_of_block_exit

-- the point after a step, or its exit, has the seat of the point before it
pub settle-seat : (p : BlockPoint) (x : Found) → seat_onward (settle_block_of p x) ≡ seat_of_block p
settle-seat p x = grind arith
