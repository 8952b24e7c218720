-- In a superblock: what a caller expects after a step it expected before, or its step saw it or left it so.
use Rattle.std.proofs.Common.{ℕ, Bool, true, false, Option, Some, None, ◌≡◌, ◌≢◌, ◌<◌, ◌^◌, [], refl, arith, sym, ◌==◌, nat_lt, if◌then◌else◌}
use Rattle.std.specs.List.{AllByRecursion}
use Rattle.std.proofs.lemmas.Bool.{cond_both}
use Rattle.sound_state.proofs.Common.{ActiveWord, Null, Held, active_word, active_of, AnchorFields, anchor_word, WordName, Site, descriptor_count, SeatFields, info_in}
use Rattle.sound_state.proofs.Common.{active_name, BlockPoint, Share, Credit, LastCredit, Grant, Continuation, Point, Block, next_of, plan_point_of}
use Rattle.packed_words.specs.Active.{IsActiveWord}
use Rattle.packed_words.specs.Fields.{Reads}
use Rattle.packed_words.proofs.ActiveLemmas.{active-exact}
use Rattle.packed_words.proofs.ExactLemmas.{reads}
use Rattle.word_table.specs.declared.name.WordName.TheVariants as name
use Rattle.word_table.specs.Seats.{anchor_in}
use Rattle.step_parts.specs.declared.superblock.point.BlockPoint.TheVariants as block
use Rattle.step_parts.specs.superblock.Anchors.{more_of}
use Rattle.step_parts.specs.superblock.Points.{plan_block_of, after_active, after_info, after_anchor, after_pop, after_return_anchor, after_push_anchor, after_owner, after_link}
use Rattle.errand_steps.specs.Nexts.{enter_block}
use Rattle.errand_steps.specs.tables.Blocks.{block_expects, unless_credit, anchor_still}
use Rattle.sound_laws.specs.bounds.Expectations.{expects_of}
use Rattle.errand_steps.specs.tables.Expected.{continuation_expects, none_active}
use Rattle.sound_laws.proofs.bounds_lemmas.ExpectLemmas.{read-anchor, AllApart, unmoved, unmoved-carried, MayAll, SeesAs, expects-none, seen-more, load-sees, load-seen, rest-carried}
use Rattle.sound_laws.proofs.bounds_lemmas.ExpectLemmas.{option_both}
use Rattle.sound_laws.proofs.bounds_lemmas.WinDefs.{ExpectsOn, next_expects}

-- a step from p to q carries or sees all that its caller expects after it
abbrev BlockCarries : BlockPoint → Continuation → ℕ → BlockPoint → Type 0
BlockCarries p o v q = MayAll (Block p o) v (expects_of (Block q o))

-- a step that sees that no superblock is active sees what is expected by what waits behind a part
seen-continuation :
    (p : Point) (v : ℕ) (s : SeatFields) (o : Continuation) → SeesAs p v (active_name s) (active_word Null) → MayAll p v (continuation_expects s o)
seen-continuation p v s o seen = grind (arith, seen, seen-more, expects-none)

-- an active word that says something is the word that it was made of
active-said : (v : ℕ) (w : ActiveWord) → v < 2 ^ 64 → active_of v ≡ Some w → v ≡ active_word w
active-said v w below is =
    let has : Reads IsActiveWord active_word v (Some w) = reads active-exact v (Some w) below (sym is) in
    sym has.1

-- a load of an active word leads there and sees what is expected then
active-on :
    (s : SeatFields) (o : Continuation) (v : ℕ) (w : Option ActiveWord) → v < 2 ^ 64 → active_of v ≡ w
    → MayAll (Block (block.LoadActive s) o) v (next_expects (enter_block (after_active s w) o))
unfolding plan_point_of expects_of
active-on s o v None below is = expects-none (Block (block.LoadActive s) o) v
active-on s o v (Some Null) below is =
    seen-continuation (Block (block.LoadActive s) o) v s o
    (load-sees (Block (block.LoadActive s) o) v (active_name s) (active_word Null) refl (active-said v Null below is))
active-on s o v (Some (Held d credits)) below is =
    cond_both (nat_lt d (descriptor_count s.geometry)) (block.TakeCredit s d credits) (block.LoadActive s) (BlockCarries (block.LoadActive s) o v)
    (λ exists.
    load-seen (Block (block.LoadActive s) o) v (active_name s) (active_word (Held d credits)) [] refl (active-said v (Held d credits) below is)
    (expects-none (Block (block.LoadActive s) o) v))
    (λ none. expects-none (Block (block.LoadActive s) o) v)

-- a won take of a credit, the last one or not, carries or sees all that its caller expects after it
taken-on :
    (s : SeatFields) (d credits : ℕ) (o : Continuation) (v : ℕ) (last : Bool) → (v == active_word (Held d credits)) ≡ true → (credits == 0) ≡ last
    → BlockCarries (block.TakeCredit s d credits) o v (block.LoadInfo s d (if last then LastCredit else Credit))
unfolding plan_point_of expects_of active_word
taken-on s d credits o v false won last = expects-none (Block (block.TakeCredit s d credits) o) v
taken-on s d credits o v true won last =
    seen-more (Block (block.TakeCredit s d credits) o) v (active_name s) (active_word Null) []
    (record { word = refl; value = rw (won, last) refl; kept = rw won refl; noted = grind (arith, last) })
    (expects-none (Block (block.TakeCredit s d credits) o) v)

-- after a pop no superblock is expected to be active, or nothing is expected
offered-on :
    (p : BlockPoint) (o : Continuation) (v : ℕ) (at : Site) (i more : ℕ) → MayAll (Block p o) v (none_active at.seat)
    → MayAll (Block p o) v (block_expects (after_pop at i more))
offered-on p o v at i more offers = grind (arith, offers, expects-none (Block p o) v)

-- a pop that leads to an offer carries what its caller expects: it was paid for by the last credit or by a grant
pop-on :
    (at : Site) (share : Share) (a : AnchorFields) (prefix : ℕ) (o : Continuation) (v : ℕ)
    → BlockCarries (block.PopBlock at share a prefix) o v (after_pop at a.avail (more_of share a))
unfolding plan_point_of expects_of
pop-on at Credit a prefix o v = expects-none (Block (block.PopBlock at Credit a prefix) o) v
pop-on at LastCredit a prefix o v =
    let p = block.PopBlock at LastCredit a prefix in
    offered-on p o v at a.avail (more_of LastCredit a)
    (rest-carried (Block p o) v (record { word = name.Anchor at.desc; value = anchor_word a }) (none_active at.seat) refl (λ same. cc, tt))
pop-on at (Grant n) a prefix o v =
    let p = block.PopBlock at (Grant n) a prefix in
    offered-on p o v at a.avail (more_of (Grant n) a)
    (rest-carried (Block p o) v (record { word = name.Anchor at.desc; value = anchor_word a }) (none_active at.seat) refl (λ same. cc, tt))

-- what a share's caller expects to be null is no other word than its active word
credit-apart : (s : SeatFields) (share : Share) (n : WordName) → active_name s ≢ n → AllByRecursion (λ e. e.word ≢ n) (unless_credit s share)
credit-apart s share n apart = grind (arith, apart)

-- a step that is no exchange is on none of the words of which its caller expects something
block-apart : (p : BlockPoint) (o : Continuation) → AllApart (Block p o) (unmoved (plan_block_of p) (block_expects p))
unfolding plan_point_of
block-apart p o = grind (arith)

-- such a step carries what its caller expects
block-carried : (p : BlockPoint) (o : Continuation) (v : ℕ) → MayAll (Block p o) v (unmoved (plan_block_of p) (block_expects p))
unfolding plan_point_of expects_of
block-carried p o v = unmoved-carried (Block p o) v (block_expects p) refl (block-apart p o)

-- an anchor that is read for a push is expected to stay
anchor-pushed :
    (p : BlockPoint) (o : Continuation) (v : ℕ) (at : Site) (i : ℕ) (guarded : Bool) (a : AnchorFields) → MayAll (Block p o) v (anchor_still at.desc a [])
    → MayAll (Block p o) v (block_expects (after_push_anchor at i guarded (Some a)))
anchor-pushed p o v at i guarded a seen = grind (arith, seen)

-- after the link of a new superblock's block no superblock is expected to be active
linked-on :
    (p : BlockPoint) (o : Continuation) (v : ℕ) (at : Site) (i : ℕ) → MayAll (Block p o) v (none_active at.seat)
    → MayAll (Block p o) v (block_expects (after_link at i))
linked-on p o v at i none = grind (arith, none)

-- what a caller expects after a step in a superblock it expected before, or the step saw it or left it so
pub block-expects : (p : BlockPoint) (o : Continuation) (v : ℕ) → v < 2 ^ 64 → ExpectsOn (Block p o) v
unfolding plan_point_of next_of expects_of
block-expects (block.LoadActive s) o v below = active-on s o v (active_of v) below refl
block-expects (block.TakeCredit s d credits) o v below =
    let p = block.TakeCredit s d credits in
    cond_both (v == active_word (Held d credits)) (block.LoadInfo s d (if credits == 0 then LastCredit else Credit)) (block.LoadActive s)
    (BlockCarries p o v) (λ won. taken-on s d credits o v (credits == 0) won refl) (λ lost. expects-none (Block p o) v)
block-expects (block.LoadAnchor at share) o v below =
    let p = block.LoadAnchor at share in
    let all : MayAll (Block p o) v (unless_credit at.seat share) = block-carried p o v in
    option_both (after_anchor at share) (anchor_in at.seat.class v) (BlockCarries p o v) all
    (λ a is.
    load-seen (Block p o) v (name.Anchor at.desc) (anchor_word a) (unless_credit at.seat share) refl (read-anchor at.seat.class v a below is) all)
block-expects (block.PopBlock at share a prefix) o v below =
    let p = block.PopBlock at share a prefix in
    cond_both (v == anchor_word a) (after_pop at a.avail (more_of share a)) (block.LoadAnchor at share) (BlockCarries p o v)
    (λ won. pop-on at share a prefix o v)
    (λ lost.
    rest-carried (Block p o) v (record { word = name.Anchor at.desc; value = anchor_word a }) (unless_credit at.seat share) refl
    (credit-apart at.seat share (name.Anchor at.desc) (λ same. cc)))
block-expects (block.LoadReturn at i more) o v below =
    let p = block.LoadReturn at i more in
    option_both (after_return_anchor at i more) (anchor_in at.seat.class v) (BlockCarries p o v) (expects-none (Block p o) v)
    (λ a is.
    load-seen (Block p o) v (name.Anchor at.desc) (anchor_word a) [] refl (read-anchor at.seat.class v a below is) (expects-none (Block p o) v))
block-expects (block.LoadPushAnchor at i guarded) o v below =
    let p = block.LoadPushAnchor at i guarded in
    option_both (after_push_anchor at i guarded) (anchor_in at.seat.class v) (BlockCarries p o v) (expects-none (Block p o) v)
    (λ a is.
    let seen : MayAll (Block p o) v (anchor_still at.desc a []) =
    load-seen (Block p o) v (name.Anchor at.desc) (anchor_word a) [] refl (read-anchor at.seat.class v a below is) (expects-none (Block p o) v) in
    anchor-pushed p o v at i guarded a seen)
block-expects (block.LoadInfo s d share) o v below =
    let p = block.LoadInfo s d share in
    option_both (after_info s d share) (info_in s.geometry v) (BlockCarries p o v) (block-carried p o v) (λ i is. block-carried p o v)
block-expects (block.LoadOwner at i a) o v below =
    let p = block.LoadOwner at i a in
    option_both (after_owner at i a) (info_in at.seat.geometry v) (BlockCarries p o v) (block-carried p o v) (λ i is. block-carried p o v)
block-expects (block.LinkBlock at i) o v below =
    let p = block.LinkBlock at i in
    linked-on p o v at i (block-carried p o v)
block-expects p o v below = grind (arith, expects-none (Block p o) v, block-carried p o v)
