-- Of each operation: what its calls do to blocks; how it begins; from what it asked for and the answer its next request, or the calls of its outcome; and on whose blocks what it asks for is.
use Rattle.std.proofs.Common.{ℕ, ◌≡◌, ◌<◌, ◌∷◌, ◌++◌, List, [], Option, Some, None, length, min, refl, sym, ap, ◌∙◌, subst, arith, inl, inr}
use Rattle.trace_lane.proofs.Common.{Need, Reply, Call, KeepBlocks, LeadsBy, Made, HeldBlock, Op, IsOp, MadeFor, OnBlock, alloc, free, put, answered, copied}
use Rattle.trace_lane.proofs.Common.{wrote, range_with_len, set-get_or, set-set, held_in, registers_after, held_blocks, held_by, held_there, slice_index_or}
use Rattle.trace_lane.proofs.Common.{slice_set, usable_words, Outcome, Deed, Hands, LeavesPlace, take, found_from, deed_of}
use Rattle.heap_geometry.specs.Need.{need_of}
use Rattle.errand_steps.specs.declared.reply.Reply.TheVariants as reply
use Rattle.trace_text.specs.declared.trace.Op.TheVariants as op
use Rattle.lane_outcomes.specs.declared.outcome.Outcome.TheVariants as outcome
use Rattle.trace_lane.specs.declared.request.Answer.{Answer}
use Rattle.trace_lane.specs.declared.request.Answer.TheVariants as told
use Rattle.trace_lane.specs.declared.request.Next.TheVariants as onward
use Rattle.trace_lane.specs.declared.request.Request.{Request}
use Rattle.trace_lane.specs.declared.request.Request.TheVariants as request
use Rattle.trace_lane.specs.Made.{Asks, GoesOn, IsHeld, IsTakenOut}
use Rattle.trace_lane.specs.Requests.{FitsRequest, HasBlocks, Serves, held_of}
use Rattle.trace_lane.specs.Works.{rank}
use Rattle.trace_lane.proofs.EachCall.{AllCalls, Leaves, all-copied, leaves, IsLight, all-found, all-misses, all-takes, all-wrote, light, light-by, HoldsAll}
use Rattle.trace_lane.proofs.EachCall.{leads-keep}
use Rattle.trace_lane.proofs.PartLemmas.{set-there}
use Rattle.std.specs.Prelude.{◌⊎◌, ◌≢◌}
use Rattle.lane_outcomes.specs.Deeds as deed
use Rattle.std.proofs.Common.{◌+◌, ◌%◌, ◌^◌, append-nil, zero-add}
use Rattle.trace_lane.proofs.Common.{Geometry, Event, Put, Take, TakeNone, Caller, IsCall, Position, IsWord, Setting, own, register_of, filling}
use Rattle.pool_model.specs.Calls.{alloc_given, alloc_refused}
use Rattle.pool_model.specs.Calls as event_end
use Rattle.lane_outcomes.specs.Rows.{RowAt, CheckRow}
use Rattle.trace_lane.specs.Made.{Skips}
use Rattle.trace_lane.proofs.AddedLemmas.{HasAdded, HasKept, HasTakenOff, added-none, added-then, full-added, got-added, reads-kept, takes-added, whole-added, writes-added}
use Rattle.trace_lane.proofs.RowLemmas.{HasGone, IsBetween, gone, moment-first, moment-last, none-added, one-added, one-call, owns-it, refusal, setting_at, spending, zip-of}

-- a block is handed out by one call, and the others are on words, or takes
abbrev pub HandsOut : ℕ → Need → List Made → Type 0
HandsOut place need made =
    (first : List Made) × (call : Call) × (answer : Reply) × (rest : List Made) × (made ≡ first ++ answered call answer ∷ rest)
    × Hands answer place need × ((at : ℕ) → LeavesPlace call at) × AllCalls IsLight first × AllCalls IsLight rest

-- the block of a full register is given away by one call
abbrev pub GivesAway : Option HeldBlock → List Made → Type 0
GivesAway slot made =
    (held : HeldBlock) × (slot ≡ Some held) × (call : Call) × (answer : Reply) × (made ≡ answered call answer ∷ [])
    × ((at : ℕ) → at ≢ held.place → LeavesPlace call at)

-- what the calls of a deed do to blocks
abbrev pub HandlesBy : Option HeldBlock → Deed → List Made → Type 0
HandlesBy slot (deed.gives need v words place) made = HandsOut place (need_of need) made
HandlesBy slot (deed.takes words place need) made = HandsOut place need made
HandlesBy slot (deed.replaces need words place) made =
    (held : HeldBlock) × (slot ≡ Some held) × (copies : List Made) × AllCalls IsLight copies
    × (made ≡ answered (alloc need) (reply.Given place (need_of need)) ∷ copies ++ answered (free held.place held.need) reply.Freed ∷ [])
HandlesBy slot deed.frees made = GivesAway slot made
HandlesBy slot deed.lays made = GivesAway slot made
HandlesBy slot (deed.refuses need) made = made ≡ answered (alloc need) reply.Refused ∷ []
HandlesBy slot (deed.spends need) made = made ≡ answered (alloc need) reply.Spent ∷ []
HandlesBy slot deed.stays made =
    AllCalls IsLight made
    ⊎ ((place : ℕ) × (need : Need) × (shelf : ℕ) × (found : ℕ) × (made ≡ answered (put place need shelf) (reply.Full found) ∷ []))

-- what the calls of each operation with its outcome do to blocks
pub made-handles :
    (operation : Op) (result : Outcome) (slot : Option HeldBlock) (made : List Made) → MadeFor slot operation result made
    → HandlesBy slot (deed_of operation result) made
made-handles (op.Alloc r need v) outcome.Skipped slot made (skip, none) = inl (light-by made [] none tt)
made-handles operation outcome.Skipped slot made (skip, none) = inl (light-by made [] none tt)
made-handles (op.Alloc r need v) (outcome.Given words place) None made (words_are, calls) =
    ([], alloc need, reply.Given place (need_of need), wrote place (need_of need) v words, calls, (refl, refl), (λ at. tt), tt, all-wrote light place (need_of need) v words)
made-handles (op.Alloc r need v) outcome.Refused None made calls = calls
made-handles (op.Alloc r need v) outcome.Spent None made calls = calls
made-handles (op.Free r) outcome.Freed (Some held) made (words, calls) = (held, refl, free held.place held.need, reply.Freed, calls, λ at differ. differ)
made-handles (op.Fill r v) outcome.Filled (Some held) made (words, calls) =
    inl (light-by made (wrote held.place held.need v held.words) calls (all-wrote light held.place held.need v held.words))
made-handles (op.Check r) (outcome.Sum total) (Some held) made (words_are, (words, all, total_is, calls)) =
    inl (light-by made (found_from held.place held.need 0 words) calls (all-found light held.place held.need 0 words))
made-handles (op.Put r shelf) outcome.Put (Some held) made (words, calls) =
    (held, refl, put held.place held.need shelf, reply.Put, calls, λ at differ. differ)
made-handles (op.Put r shelf) outcome.ShelfFull (Some held) made (words, (found, calls)) = inr (held.place, held.need, shelf, found, calls)
made-handles (op.Take r shelf) (outcome.Took words place need) None made (misses, are, words_are, calls) =
    (misses, take shelf, reply.Got place need, [], calls, (refl, refl), (λ at. tt), all-misses light shelf misses are, tt)
made-handles (op.Take r shelf) outcome.ShelfEmpty None made (misses, are, calls) =
    inl (light-by made (misses ++ answered (take shelf) reply.Empty ∷ []) calls (all-takes light shelf misses reply.Empty are))
made-handles (op.Resize r need) (outcome.Kept words place) (Some held) made (serves, words_are, place_is, calls) = inl (light-by made [] calls tt)
made-handles (op.Resize r need) (outcome.Resized words place) (Some held) made (differ, words_are, has, found, all, calls) =
    let n = need_of need in (
      held,
      refl,
      copied held.place held.need place n found words,
      all-copied light held.place held.need place n found (range_with_len 0 words),
      calls,
    )
made-handles (op.Resize r need) outcome.Refused (Some held) made (differ, calls) = calls
made-handles (op.Resize r need) outcome.Spent (Some held) made (differ, calls) = calls
made-handles (op.Alloc r need v) result None made calls = absurd calls
made-handles operation result None made calls = absurd calls
made-handles operation result (Some held) made calls = absurd calls

-- a block that was taken out goes back
pub put-back :
    (before registers : List (Option HeldBlock)) (r : ℕ) (held back : HeldBlock) → IsTakenOut before registers r held → back ≡ held
    → slice_set registers r (Some back) ≡ before
put-back before registers r held back ((full, words), out) same =
    ap (λ rs. slice_set rs r (Some back)) out ∙ set-set before r None (Some back) ∙ ap (λ (h : HeldBlock). slice_set before r (Some h)) same
    ∙ ap (λ slot. slice_set before r slot) (sym full) ∙ set-get_or before r None

-- calls on the block of a register that held this one
held-block :
    (before : List (Option HeldBlock)) (r : ℕ) (held : HeldBlock) (P : HeldBlock → Need → Type 0) → IsHeld before r held → P held held.need
    → OnBlock (held_in before r) P
held-block before r held P is so = subst (λ slot. OnBlock slot P) (sym is.0) (is.1, so)

-- a block that serves a need, as a register's with its words
block-as :
    (held : HeldBlock) (place words : ℕ) (need : Need) → held ≡ held_of place need → words ≡ usable_words need
    → held ≡ (let h : HeldBlock = record { place = place; words = words; need = need } in h)
block-as held place words need is same =
    is ∙ ap (λ (n : ℕ). let h : HeldBlock = record { place = place; words = n; need = need } in h) (sym same)

-- an operation ends with a block that goes into its register
module _ {B : Type 0} (place_of : B → ℕ) (block_need : B → Need) (old new : List (Option B)) (r : ℕ) (block : B)
    (set : held_blocks place_of block_need new ≡ slice_set (held_blocks place_of block_need old) r (Some (held_by place_of block_need block))) where
  abbrev Ends : Op → Answer B → Outcome → Type 0
  Ends operation answer result = GoesOn place_of block_need operation old answer (onward.Told result) new

  pub alloc-filled :
      (need v words place : ℕ) → words ≡ usable_words (block_need block) → place ≡ place_of block
      → Ends (op.Alloc r need v) (told.Filled block) (outcome.Given words place)
  alloc-filled need v words place words_are place_is before (request.Fill given from) made more (same, none, as_before, fresh, made_is) (back, calls) =
      let n = need_of need in
      let at : given.place ≡ place = sym (place_is ∙ ap (λ (h : HeldBlock). h.place) back) in
      let block_is : given ≡ held_of place n = fresh ∙ ap (λ p. held_of p n) at in
      let words_so : words ≡ usable_words n = words_are ∙ ap (λ (h : HeldBlock). h.words) (back ∙ block_is) in
      let made_so : made ≡ answered (alloc need) (reply.Given place n) ∷ [] = made_is ∙ ap (λ p. answered (alloc need) (reply.Given p n) ∷ []) at in
      let calls_so : more ≡ wrote place n v words =
      calls ∙ ap (λ (h : HeldBlock). wrote h.place h.need from (usable_words h.need)) block_is ∙ ap (λ k. wrote place n k (usable_words n)) same
      ∙ ap (wrote place n v) (sym words_so) in (
        (
          rw none (words_so, ap (λ ms. ms ++ more) made_so ∙ ap (λ ms. answered (alloc need) (reply.Given place n) ∷ ms) calls_so),
          set ∙ ap (λ rs. slice_set rs r (Some (held_by place_of block_need block))) as_before
              ∙ ap (λ (h : HeldBlock). slice_set before r (Some h)) (back ∙ block-as given place words n block_is words_so),
        ),
        tt,
      )
  alloc-filled need v words place words_are place_is before (request.Allocate n) made more asks serves = absurd serves
  alloc-filled need v words place words_are place_is before asked made more asks serves = absurd asks

  pub fill-filled : (v : ℕ) → Ends (op.Fill r v) (told.Filled block) outcome.Filled
  fill-filled v before (request.Fill held from) made more (same, taken, nil) (back, calls) = (
    (
      held-block before r held (λ h need. made ++ more ≡ wrote h.place need v h.words) taken.0
          (ap (λ ms. ms ++ more) nil ∙ calls ∙ ap (λ k. wrote held.place held.need k (usable_words held.need)) same
          ∙ ap (wrote held.place held.need v) (sym taken.0.1)),
      set ∙ put-back before _ r held _ taken back,
    ),
    tt,
  )
  fill-filled v before asked made more asks serves = absurd asks

  pub check-summed : (total : ℕ) → Ends (op.Check r) (told.Summed block total) (outcome.Sum total)
  check-summed total before (request.Sum held) made more (taken, nil) (back, words, all, total_is, calls) = (
    (
      subst (λ slot. MadeFor slot (op.Check r) (outcome.Sum total) (made ++ more)) (sym taken.0.0)
          (taken.0.1, (words, all ∙ sym taken.0.1, total_is, ap (λ ms. ms ++ more) nil ∙ calls)),
      set ∙ put-back before _ r held _ taken back,
    ),
    tt,
  )
  check-summed total before asked made more asks serves = absurd asks

  pub put-full : (shelf : ℕ) → Ends (op.Put r shelf) (told.Full block) outcome.ShelfFull
  put-full shelf before (request.Put held on) made more (same, taken, nil) (back, found, calls) = (
    (
      held-block before r held (λ h need. (found : ℕ) × (made ++ more ≡ answered (put h.place need shelf) (reply.Full found) ∷ [])) taken.0
          (found, ap (λ ms. ms ++ more) nil ∙ calls ∙ ap (λ k. answered (put held.place held.need k) (reply.Full found) ∷ []) same),
      set ∙ put-back before _ r held _ taken back,
    ),
    tt,
  )
  put-full shelf before asked made more asks serves = absurd asks

module _ (before registers : List (Option HeldBlock)) where
  -- a resize
  pub resize-given :
      (r need : ℕ) (asked : Request HeldBlock) (held from : HeldBlock) (now : List (Option HeldBlock)) (made more : List Made)
      → Asks before registers (op.Resize r need) asked made → Serves asked (told.Given held) more → IsTakenOut registers now r from
      → Asks before now (op.Resize r need) (request.Copy from held) (made ++ more) × (rank asked < 1)
  resize-given r need (request.Allocate words) held from now made more (same, old, (full, old_words), differ, as_before, nil) (new, calls) ((there, words_are), out) =
      let here : held_in before r ≡ Some from = ap (λ rs. held_in rs r) (sym as_before) ∙ there in
      let one : old ≡ from = let e : Some old ≡ Some from = sym full ∙ here in cc in (
        (
          ((here, words_are), out ∙ ap (λ rs. slice_set rs r None) as_before),
          λ e. differ (e ∙ ap (λ (h : HeldBlock). h.need) (sym one)),
          new ∙ ap (λ n. held_of held.place (need_of n)) same,
          ap (λ ms. ms ++ more) nil ∙ calls ∙ ap (λ n. answered (alloc n) (reply.Given held.place (need_of n)) ∷ []) same,
        ),
        omega arith,
      )
  resize-given r need (request.Copy block to) held from now made more asks serves taken = absurd serves
  resize-given r need (request.Free block) held from now made more asks serves taken = absurd serves
  resize-given r need asked held from now made more asks serves taken = absurd asks

  pub resize-copied :
      (r need : ℕ) (asked : Request HeldBlock) (old new : HeldBlock) (made more : List Made) → Asks before registers (op.Resize r need) asked made
      → Serves asked (told.Copied old new) more
      → Asks before (slice_set registers r (Some new)) (op.Resize r need) (request.Free old) (made ++ more) × (rank asked < 2)
  resize-copied r need (request.Copy from to) old new made more ((is, out), differ, given, made_is) (old_is, new_is, found, all, calls) =
      let n = need_of need in
      let set : slice_set registers r (Some new) ≡ slice_set before r (Some (held_of to.place n)) =
      ap (λ rs. slice_set rs r (Some new)) out ∙ set-set before r None (Some new) ∙ ap (λ (h : HeldBlock). slice_set before r (Some h)) (new_is ∙ given) in
      let calls_so : made ++ more
      ≡ answered (alloc need) (reply.Given to.place n) ∷ copied from.place from.need to.place n found (usable_words n) =
      ap (λ ms. ms ++ more) made_is
      ∙ ap (λ ms. answered (alloc need) (reply.Given to.place n) ∷ ms)
      (calls ∙ ap (λ (h : HeldBlock). copied from.place from.need to.place h.need found (usable_words h.need)) given) in
      let all_so : length found ≡ min (usable_words from.need) (usable_words n) =
      all ∙ ap (λ (h : HeldBlock). min (usable_words from.need) (usable_words h.need)) given in (
        subst (λ h. Asks before (slice_set registers r (Some new)) (op.Resize r need) (request.Free h) (made ++ more)) (sym old_is)
            (is, differ, to.place, set, found, all_so, calls_so),
        omega arith,
      )
  resize-copied r need (request.Allocate words) old new made more asks serves = absurd serves
  resize-copied r need (request.Free block) old new made more asks serves = absurd serves
  resize-copied r need asked old new made more asks serves = absurd asks

  pub resize-freed :
      (r need words place : ℕ) (asked : Request HeldBlock) (made more : List Made) → r < length registers
      → Asks before registers (op.Resize r need) asked made → Serves asked told.Freed more → words ≡ (held_there (held_in registers r)).words
      → place ≡ (held_there (held_in registers r)).place
      → MadeFor (held_in before r) (op.Resize r need) (outcome.Resized words place) (made ++ more)
      × (registers ≡ registers_after before (op.Resize r need) (outcome.Resized words place))
  resize-freed r need words place (request.Free from) made more within ((full, from_words), differ, lies, set, found, all, made_is) calls words_are place_is =
      let n = need_of need in
      let there : held_there (held_in registers r) ≡ held_of lies n = ap held_there (set-there before registers r (held_of lies n) within set) in
      let words_so : words ≡ usable_words n = words_are ∙ ap (λ (h : HeldBlock). h.words) there in
      let place_so : lies ≡ place = sym (place_is ∙ ap (λ (h : HeldBlock). h.place) there) in
      let freed : List Made = answered (free from.place from.need) reply.Freed ∷ [] in
      let all_so : length found ≡ min from.words words =
      all ∙ ap (λ k. min k (usable_words n)) (sym from_words) ∙ ap (λ k. min from.words k) (sym words_so) in
      let calls_so : made ++ more
      ≡ answered (alloc need) (reply.Given place n) ∷ copied from.place from.need place n found words ++ freed =
      ap (λ ms. ms ++ more) made_is
      ∙ ap (λ ms. (answered (alloc need) (reply.Given lies n) ∷ copied from.place from.need lies n found (usable_words n)) ++ ms) calls
      ∙ ap (λ k. answered (alloc need) (reply.Given lies n) ∷ copied from.place from.need lies n found k ++ freed) (sym words_so)
      ∙ ap (λ p. answered (alloc need) (reply.Given p n) ∷ copied from.place from.need p n found words ++ freed) place_so in (
        rw full (differ, words_so, from_words, found, all_so, calls_so),
        set ∙ ap (λ p. slice_set before r (Some (held_of p n))) place_so
            ∙ ap (λ (h : HeldBlock). slice_set before r (Some h)) (block-as (held_of place n) place words n refl words_so),
      )
  resize-freed r need words place (request.Allocate n) made more within asks serves words_are place_is = absurd serves
  resize-freed r need words place (request.Copy from to) made more within asks serves words_are place_is = absurd serves
  resize-freed r need words place asked made more within asks serves words_are place_is = absurd asks

-- an allocation that found no turn left is the last call of its operation
abbrev first_answer : List Made → Reply
first_answer [] = reply.Refused
first_answer (m ∷ made) = m.answer

spent-first :
    (words : ℕ) (made calls : List Made) → made ≡ [] → made ++ answered (alloc words) reply.Spent ∷ [] ≡ calls → first_answer calls ≡ reply.Spent
spent-first words made calls nil is = ap first_answer (sym is ∙ ap (λ ms. ms ++ answered (alloc words) reply.Spent ∷ []) nil)

pub spent-ends :
    (before registers now : List (Option HeldBlock)) (operation : Op) (words : ℕ) (made : List Made) (asked : Request HeldBlock)
    → Asks before registers operation (request.Allocate words) made → Asks before now operation asked (made ++ answered (alloc words) reply.Spent ∷ []) → ⊥
spent-ends before registers now (op.Alloc r need v) words made (request.Allocate again) asks next =
    let e : reply.Refused ≡ reply.Spent = spent-first words made [] asks.3 next.3 in cc
spent-ends before registers now (op.Alloc r need v) words made (request.Fill held from) asks next =
    let e : reply.Given held.place (need_of need) ≡ reply.Spent = spent-first words made _ asks.3 next.4 in cc
spent-ends before registers now (op.Alloc r need v) words made asked asks next = next
spent-ends before registers now (op.Resize r need) words made (request.Allocate again) (same, old, is, differ, as_before, nil) (more, held, was, not, stays, none) =
    let e : reply.Refused ≡ reply.Spent = spent-first words made [] nil none in cc
spent-ends before registers now (op.Resize r need) words made (request.Copy from to) (same, old, is, differ, as_before, nil) (taken, not, given, calls) =
    let e : reply.Given to.place (need_of need) ≡ reply.Spent = spent-first words made _ nil calls in cc
spent-ends before registers now (op.Resize r need) words made (request.Free from) (same, old, is, differ, as_before, nil) (was, not, place, set, found, all, calls) =
    let e : reply.Given place (need_of need) ≡ reply.Spent = spent-first words made _ nil calls in cc
spent-ends before registers now (op.Resize r need) words made asked asks next = next
spent-ends before registers now operation words made asked asks next = asks

-- what an operation asks for is in its range
pub asks-fits :
    (before registers : List (Option HeldBlock)) (operation : Op) (asked : Request HeldBlock) (made : List Made) → IsOp operation
    → Asks before registers operation asked made → FitsRequest asked
asks-fits before registers (op.Alloc r need v) (request.Allocate words) made is asks = subst (λ n. FitsRequest (request.Allocate n)) (sym asks.0) is.1
asks-fits before registers (op.Put r shelf) (request.Put held on) made is asks = subst (λ k. FitsRequest (request.Put held k)) (sym asks.0) is.1
asks-fits before registers (op.Take r shelf) (request.Take off) made is asks = subst (λ k. FitsRequest (request.Take k)) (sym asks.0) is.1
asks-fits before registers (op.Resize r need) (request.Allocate words) made is asks = subst (λ n. FitsRequest (request.Allocate n)) (sym asks.0) is.1
asks-fits before registers operation (request.Allocate words) made is asks = absurd asks
asks-fits before registers operation (request.Put held on) made is asks = absurd asks
asks-fits before registers operation (request.Take off) made is asks = absurd asks
asks-fits before registers operation asked made is asks = tt

-- the blocks that an operation asks for something on are its caller's, through the calls that it has ended
module _ {S : Type 0} {called : S → Call → Reply → S → Type 0} {owns : S → ℕ → Need → Type 0} (laws : KeepBlocks called owns) (s t : S)
    (before registers : List (Option HeldBlock)) (holds : HoldsAll owns s before) where
  owned-still : (r : ℕ) (held : HeldBlock) (made : List Made) → IsHeld before r held → made ≡ [] → LeadsBy called s made t → owns t held.place held.need
  owned-still r held made is nil leads =
      subst (λ x. owns x held.place held.need) (sym (subst (λ ms. LeadsBy called s ms t) nil leads)) (holds.owned r held is.0)

  owned-new :
      (need : ℕ) (held : HeldBlock) (made : List Made) → held ≡ held_of held.place (need_of need)
      → made ≡ answered (alloc need) (reply.Given held.place (need_of need)) ∷ [] → LeadsBy called s made t → owns t held.place held.need
  owned-new need held made new is leads =
      let (u, one, same) = subst (λ ms. LeadsBy called s ms t) is leads in
      subst (λ (h : HeldBlock). owns t held.place h.need) (sym new)
      (subst (λ x. owns x held.place (need_of need)) (sym same) (laws.hands s u (alloc need) _ held.place (need_of need) one (refl, refl)))

  owned-old :
      (r : ℕ) (held : HeldBlock) (made calls : List Made) → IsHeld before r held → made ≡ calls → AllCalls (Leaves held.place) calls → LeadsBy called s made t
      → owns t held.place held.need
  owned-old r held made calls is same leave leads =
      leads-keep laws s t calls held.place held.need (subst (λ ms. LeadsBy called s ms t) same leads) leave (holds.owned r held is.0)

  pub asks-owned : (operation : Op) (asked : Request HeldBlock) (made : List Made) → Asks before registers operation asked made → LeadsBy called s made t
      → HasBlocks (owns t) asked
  asks-owned (op.Alloc r need v) (request.Fill held from) made (same, none, as_before, new, is) leads = owned-new need held made new is leads
  asks-owned (op.Free r) (request.Free held) made ((is, out), nil) leads = owned-still r held made is nil leads
  asks-owned (op.Fill r v) (request.Fill held from) made (same, (is, out), nil) leads = owned-still r held made is nil leads
  asks-owned (op.Check r) (request.Sum held) made ((is, out), nil) leads = owned-still r held made is nil leads
  asks-owned (op.Put r shelf) (request.Put held on) made (same, (is, out), nil) leads = owned-still r held made is nil leads
  asks-owned (op.Resize r need) (request.Copy from to) made ((is, out), differ, new, calls) leads =
      (owned-old r from made _ is calls (tt, tt) leads, owned-new need to made new calls leads)
  asks-owned (op.Resize r need) (request.Free from) made (is, differ, place, set, found, all, calls) leads =
      owned-old r from made _ is calls
      (tt, all-copied (leaves from.place) from.place from.need place (need_of need) found (range_with_len 0 (usable_words (need_of need)))) leads
  asks-owned operation (request.Allocate words) made asks leads = tt
  asks-owned operation (request.Take off) made asks leads = tt
  asks-owned operation asked made asks leads = absurd asks

-- a skipped operation's
skip-row :
    (setting : Setting) (position : Position) (operation : Op) (slot : Option HeldBlock) → Skips slot operation
    → RowAt setting position operation slot outcome.Skipped []
skip-row setting position (op.Alloc r need v) (Some held) skips = refl
skip-row setting position (op.Take r shelf) (Some held) skips = refl
skip-row setting position (op.Alloc r need v) None skips = absurd skips
skip-row setting position (op.Take r shelf) None skips = absurd skips
skip-row setting position operation None skips = refl
skip-row setting position operation (Some held) skips = absurd skips

-- a deed that neither gives a block for a need nor frees one
abbrev pub IsHeaps : Deed → Type 0
IsHeaps (deed.gives need v words place) = ⊥
IsHeaps (deed.replaces need words place) = ⊥
IsHeaps deed.frees = ⊥
IsHeaps done = Unit {0}

-- an operation that was made, whose block no magazine could give or keep
module _ (g : Geometry) (c d : Caller) (base : Position) (st : IsBetween g c base) where
  abbrev caller : ℕ
  caller = c.errand.caller

  abbrev Leads : List Made → Type 0
  Leads made = LeadsBy (IsCall g) c made d

  pub op-gone :
      (operation : Op) (result : Outcome) (slot : Option HeldBlock) (made : List Made) → held_in base.registers (register_of operation) ≡ slot
      → MadeFor slot operation result made → Leads made → IsHeaps (deed_of operation result) → HasGone g c d base operation result
  op-gone operation outcome.Skipped slot made is (skip, none) leads heaps =
      gone g c d base st operation outcome.Skipped slot [] is (none-added g c d base st (subst Leads none leads)) (skip-row (setting_at g c d) base operation slot skip) (λ is. absurd (cc))
  op-gone (op.Alloc r need v) (outcome.Given words place) slot made is for leads heaps = absurd heaps
  op-gone (op.Alloc r need v) outcome.Refused None made is calls leads heaps =
      let (piece, added, may, events) = refusal g c d base st need made calls leads in
      gone g c d base st (op.Alloc r need v) outcome.Refused None piece is added (may, events) (λ is. absurd (cc))
  op-gone (op.Alloc r need v) outcome.Spent None made is calls leads heaps =
      let (piece, added, row, limit) = spending g c d base st need made calls leads in
      gone g c d base st (op.Alloc r need v) outcome.Spent None piece is added row (λ is. limit)
  op-gone (op.Free r) outcome.Freed slot made is for leads heaps = absurd heaps
  op-gone (op.Fill r v) outcome.Filled (Some held) made is (words, calls) leads heaps =
      gone g c d base st (op.Fill r v) outcome.Filled (Some held) (filling caller held.place held.words v) is
      (writes-added g held.place held.need (λ (i : ℕ). (v + i) % 2 ^ 64) held.words 0 c d st.rests (subst Leads calls leads)) refl (λ is. absurd (cc))
  op-gone (op.Check r) (outcome.Sum total) (Some held) made is (words_are, (words, all, total_is, calls)) leads heaps =
      let (block, live, mine, long) = owns-it g c d base st r held is in
      let first : HasKept g c held.place block mine c [] = record { has = added-none g c st.rests; still = live } in
      let read = reads-kept g c held.place block mine held.need words 0 c d first (subst Leads calls leads) in
      let summed : CheckRow (setting_at g c d) base (Some held) (outcome.Sum total) [] = (
        refl,
        moment-first g c d base st [] read.0.has,
        block,
        live,
        record {
          words = words;
          each = zip-of block.contents words (long ∙ sym words_are ∙ sym all)
              (λ i below. subst (λ k. IsWord (slice_index_or block.contents k None) (slice_index_or words i 0)) (zero-add i) (read.1 i below));
          total_is = total_is;
        },
      ) in
      gone g c d base st (op.Check r) (outcome.Sum total) (Some held) [] is read.0.has summed (λ is. absurd (cc))
  op-gone (op.Put r shelf) outcome.Put (Some held) made is (words, calls) leads heaps =
      let piece : List Event = Put caller held.place shelf ∷ [] in
      gone g c d base st (op.Put r shelf) outcome.Put (Some held) piece is
      (one-added g c d base st made (put held.place held.need shelf) reply.Put (event_end.put_done held.place shelf) piece calls leads (λ words is spent. cc) refl
      (λ more is. is)) refl (λ is. absurd (cc))
  op-gone (op.Put r shelf) outcome.ShelfFull (Some held) made is (words, (found, calls)) leads heaps =
      let (added, lies) =
      full-added g c d held.place held.need shelf found (one-call g c d base st made (put held.place held.need shelf) (reply.Full found) calls leads) in
      gone g c d base st (op.Put r shelf) outcome.ShelfFull (Some held) [] is added (refl, moment-last g c d base st added, lies) (λ is. absurd (cc))
  op-gone (op.Take r shelf) (outcome.Took words place need) None made is (misses, are, words_are, calls) leads heaps =
      let (t, first, last) = takes-added g shelf (reply.Got place need) misses c d are st.rests (subst Leads calls leads) in
      let got = got-added g t d shelf place need last in
      let off : HasTakenOff t d shelf place need = got.1 in
      let same : t.errand.caller ≡ caller = first.moved.same_caller in
      let piece : List Event = Take caller shelf place ∷ [] in
      let one : HasAdded g t d piece = subst (λ k. HasAdded g t d (Take k shelf place ∷ [])) same got.0 in
      let whole : d.seen ≡ off.before ++ piece = subst (λ k. d.seen ≡ off.before ++ Take k shelf place ∷ []) same off.last in
      let own_before : own caller off.before ≡ base.done =
      subst (λ k. own k off.before ≡ own k t.seen) same off.own_before ∙ first.moved.own_events ∙ append-nil (own caller c.seen) ∙ st.done in
      gone g c d base st (op.Take r shelf) (outcome.Took words place need) None piece is (added-then g c t d [] piece first one) (
        refl,
        record { before = off.before; begins = (piece, whole); own_done = own_before },
        off.block,
        ([], whole ∙ sym (append-nil (off.before ++ piece))),
        off.lay,
        words_are ∙ ap usable_words off.need_is,
        off.need_is,
      ) (λ is. absurd (cc))
  op-gone (op.Take r shelf) outcome.ShelfEmpty None made is (misses, are, calls) leads heaps =
      let (t, first, last) = takes-added g shelf reply.Empty misses c d are st.rests (subst Leads calls leads) in
      let piece : List Event = TakeNone caller shelf ∷ [] in
      let one : HasAdded g t d piece =
      whole-added g t d (take shelf) reply.Empty (event_end.take_empty shelf) piece last (λ words is spent. cc) refl
      (λ more is. is ∙ ap (λ k. TakeNone k shelf ∷ []) first.moved.same_caller) in
      gone g c d base st (op.Take r shelf) outcome.ShelfEmpty None piece is (added-then g c t d [] piece first one) refl (λ is. absurd (cc))
  op-gone (op.Resize r need) (outcome.Kept words place) (Some held) made is (serves, words_are, place_is, calls) leads heaps =
      gone g c d base st (op.Resize r need) (outcome.Kept words place) (Some held) [] is (none-added g c d base st (subst Leads calls leads)) (refl, serves, words_are, place_is)
      (λ is. absurd (cc))
  op-gone (op.Resize r need) (outcome.Resized words place) slot made is for leads heaps = absurd heaps
  op-gone (op.Resize r need) outcome.Refused (Some held) made is (differ, calls) leads heaps =
      let (piece, added, may, events) = refusal g c d base st need made calls leads in
      gone g c d base st (op.Resize r need) outcome.Refused (Some held) piece is added (differ, may, events) (λ is. absurd (cc))
  op-gone (op.Resize r need) outcome.Spent (Some held) made is (differ, calls) leads heaps =
      let (piece, added, row, limit) = spending g c d base st need made calls leads in
      gone g c d base st (op.Resize r need) outcome.Spent (Some held) piece is added (differ, row) (λ is. limit)
  op-gone (op.Alloc r need v) result None made is calls leads heaps = absurd calls
  op-gone operation result None made is calls leads heaps = absurd calls
  op-gone operation result (Some held) made is calls leads heaps = absurd calls
