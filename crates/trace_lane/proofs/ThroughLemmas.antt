-- What one operation of a lane makes by whole calls through magazines, each of which these serve or keep, or the heap makes. A caller alone has empty ones without room.
use Rattle.std.proofs.Common.{ℕ, Bool, true, false, ◌≡◌, ◌<◌, ◌+◌, ◌-◌, ◌%◌, ◌^◌, ◌∷◌, ◌++◌, List, [], Option, Some, None, length, refl, sym, ap, ◌∙◌, subst, inl, inr, arith}
use Rattle.std.specs.Prelude.{◌⊎◌, ◌≢◌}
use Rattle.trace_lane.proofs.Common.{Geometry, Need, Event, Free, Reply, Call, LeadsBy, Made, HeldBlock, Op, Outcome, Position, Setting, FitsRow, Caller, IsAtRest, IsCall, KeepBlocks, MadeFor}
use Rattle.trace_lane.proofs.Common.{alloc, free, answered, copied, wrote, leads-split, filling, writing, held_in, register_of, deed_of, usable_words, min, range_with_len}
use Rattle.heap_geometry.specs.Need.{need_of}
use Rattle.pool_model.specs.Calls as event_end
use Rattle.errand_steps.specs.declared.reply.Reply.TheVariants as reply
use Rattle.trace_text.specs.declared.trace.Op.TheVariants as op
use Rattle.lane_outcomes.specs.declared.outcome.Outcome.TheVariants as outcome
use Rattle.lane_outcomes.specs.Cached.{CachedPosition, CachedRow, IsGivenBy, hit_of, magazines_after, served_for}
use Rattle.lane_outcomes.specs.Deeds as deed
use Rattle.lane_outcomes.specs.Magazines.{empty_magazines, freeing, given_from, is_kept, kept_with, magazines_freed, magazines_given, served_by}
use Rattle.lane_outcomes.proofs.RoomLemmas.{none-kept, none-served}
use Rattle.trace_lane.proofs.AddedLemmas.{HasAdded, added-none, added-then, value_of, whole-added, writes-added}
use Rattle.trace_lane.proofs.CallerLemmas.{Owns, caller-laws}
use Rattle.trace_lane.proofs.EachCall.{AllCalls, IsOnWords, all-copied, all-light, all-takes, all-wrote}
use Rattle.trace_lane.proofs.OperationLemmas.{HandlesBy, IsHeaps, made-handles, op-gone}
use Rattle.trace_lane.proofs.QuietLemmas.{AllQuiet, quiet-giving}
use Rattle.trace_lane.proofs.RowLemmas.{HasGone, IsBetween, copies, gives as heap-gives, none-added, setting_at}

-- a caller behind magazines: the places of their blocks, and how many allocations they have served
pub record View : Type 0 where
  pub caller : Caller
  pub places : List (List ℕ)
  pub hits : ℕ

-- a magazine served an allocation, one kept a freed block, or the heap was asked
pub record HasServed (v : View) (words : ℕ) (answer : Reply) (w : View) : Type 0 where
  pub place : ℕ
  pub need : Need
  pub given : answer ≡ reply.Given place need
  pub serves : served_by v.places (need_of words) ≡ Some place
  pub same : w.caller ≡ v.caller
  pub magazines : w.places ≡ magazines_given v.places (need_of words)
  pub counts : w.hits ≡ min (v.hits + 1) (2 ^ 64 - 1)

pub record HasLaid (depth : ℕ) (v : View) (place : ℕ) (need : Need) (w : View) : Type 0 where
  pub keeps : is_kept depth v.places need ≡ true
  pub same : w.caller ≡ v.caller
  pub magazines : w.places ≡ kept_with true v.places place need
  pub counts : w.hits ≡ v.hits

pub record HasAsked (g : Geometry) (v : View) (call : Call) (answer : Reply) (w : View) : Type 0 where
  pub one : IsCall g v.caller call answer w.caller
  pub magazines : w.places ≡ v.places
  pub counts : w.hits ≡ v.hits

-- a whole call through magazines so deep
abbrev pub Came : Geometry → ℕ → View → Call → Reply → View → Type 0
Came g depth v (alloc words) answer w =
    HasServed v words answer w ⊎ ((served_by v.places (need_of words) ≡ None) × HasAsked g v (alloc words) answer w)
Came g depth v (free place need) answer w =
    HasLaid depth v place need w ⊎ ((is_kept depth v.places need ≡ false) × HasAsked g v (free place need) answer w)
Came g depth v call answer w = HasAsked g v call answer w

-- who makes whole calls through magazines
pub record Through (S : Type 0) : Type 1 where
  pub geometry : Geometry
  pub depth : ℕ
  pub stands : S → Type 0
  pub owns : S → ℕ → Need → Type 0
  pub called : S → Call → Reply → S → Type 0
  pub view : S → View
  pub laws : KeepBlocks called owns
  pub owned : (s : S) (place : ℕ) (need : Need) → owns s place need → Owns (view s).caller place need
  pub rests : (s : S) → stands s → IsAtRest geometry (view s).caller
  pub came : (s t : S) (call : Call) (answer : Reply) → stands s → called s call answer t → Came geometry depth (view s) call answer (view t) × stands t

-- a caller alone does
abbrev pub bare : Caller → View
bare c = record { caller = c; places = empty_magazines; hits = 0 }

pub bare-came : (g : Geometry) (c d : Caller) (call : Call) (answer : Reply) → IsCall g c call answer d → Came g 0 (bare c) call answer (bare d)
bare-came g c d (alloc words) answer one = inr (none-served (need_of words), record { one = one; magazines = refl; counts = refl })
bare-came g c d (free place need) answer one = inr (none-kept empty_magazines need, record { one = one; magazines = refl; counts = refl })
bare-came g c d call answer one = record { one = one; magazines = refl; counts = refl }

abbrev pub alone : Geometry → Through Caller
alone g = record {
  geometry = g;
  depth = 0;
  stands = IsAtRest g;
  owns = Owns;
  called = IsCall g;
  view = bare;
  laws = caller-laws g;
  owned = λ c place need owned. owned;
  rests = λ c rests. rests;
  came = λ c d call answer rests one. (bare-came g c d call answer one, one.rests);
}

-- a call that is neither an allocation nor a free: the heap is asked
abbrev pub IsPlain : Call → Type 0
IsPlain (alloc words) = ⊥
IsPlain (free place need) = ⊥
IsPlain call = Unit {0}

plain : IsOnWords IsPlain
plain = record { writes = λ place need i value. tt; reads = λ place need i. tt; takes = λ shelf. tt }

-- the position of a lane that stands here
abbrev pub stands_at : View → Position → ℕ → CachedPosition
stands_at v base hits = record { base = base; magazines = v.places; hits = hits }

-- one hit more, far from the end of the count
counts-one : (hits one : ℕ) → one ≡ 1 → hits + one < 2 ^ 64 → min (hits + 1) (2 ^ 64 - 1) ≡ hits + one
counts-one hits one is less = omega (arith, is, less)

-- an operation with its outcome has led from one view to the other
pub record HasGoneOn (g : Geometry) (depth : ℕ) (v w : View) (base : Position) (hits : ℕ) (operation : Op) (result : Outcome) : Type 0 where
  pub piece : List Event
  pub added : HasAdded g v.caller w.caller piece
  pub row : CachedRow (setting_at g v.caller w.caller) depth (stands_at v base hits) operation result piece
  pub magazines : w.places ≡ magazines_after depth v.places base.registers operation result
  pub counts :
      v.hits + hit_of (served_for v.places operation result) < 2 ^ 64 → w.hits ≡ v.hits + hit_of (served_for v.places operation result)
  pub spent : result ≡ outcome.Spent → w.caller.errand.turns ≡ g.turn_limit

module _ (g : Geometry) (depth : ℕ) where
  plain-came : (v w : View) (call : Call) (answer : Reply) → IsPlain call → Came g depth v call answer w → HasAsked g v call answer w
  plain-came v w (alloc words) answer none came = absurd none
  plain-came v w (free place need) answer none came = absurd none
  plain-came v w call answer is came = came

  -- the heap was asked alone
  record AsksAll (v w : View) (made : List Made) : Type 0 where
    pub leads : LeadsBy (IsCall g) v.caller made w.caller
    pub magazines : w.places ≡ v.places
    pub counts : w.hits ≡ v.hits

  plain-leads : (made : List Made) (v w : View) → AllCalls IsPlain made → LeadsBy (Came g depth) v made w → AsksAll v w made
  plain-leads [] v w all same =
      record { leads = ap (λ (x : View). x.caller) same; magazines = ap (λ (x : View). x.places) same; counts = ap (λ (x : View). x.hits) same }
  plain-leads (m ∷ made) v w all (u, came, leads) =
      let first = plain-came v u m.call m.answer all.0 came in
      let rest = plain-leads made u w all.1 leads in
      record { leads = (u.caller, first.one, rest.leads); magazines = rest.magazines ∙ first.magazines; counts = rest.counts ∙ first.counts }

  -- a block was freed: its magazine kept it, or the heap has it
  record HasFreed (u w : View) (place : ℕ) (need : Need) : Type 0 where
    pub added : HasAdded g u.caller w.caller (freeing u.caller.errand.caller (is_kept depth u.places need) place)
    pub magazines : w.places ≡ kept_with (is_kept depth u.places need) u.places place need
    pub counts : w.hits ≡ u.hits

  frees : (u w : View) (place : ℕ) (need : Need) → IsAtRest g u.caller → Came g depth u (free place need) reply.Freed w → HasFreed u w place need
  frees u w place need rests came =
      let caller = u.caller.errand.caller in
      let Frees : Bool → Type 0 = λ keeps. HasAdded g u.caller w.caller (freeing caller keeps place) in
      elim came [
        | inl k ↦
            record {
              added = subst Frees (sym k.keeps) (subst (λ x. HasAdded g u.caller x []) (sym k.same) (added-none g u.caller rests));
              magazines = k.magazines ∙ ap (λ keeps. kept_with keeps u.places place need) (sym k.keeps);
              counts = k.counts;
            }
        | inr (none, asked) ↦
            record {
              added =
                  subst Frees (sym none)
                  (whole-added g u.caller w.caller (free place need) reply.Freed (event_end.freed place) (Free caller place ∷ []) asked.one
                  (λ words is spent. cc) refl (λ more is. is));
              magazines = asked.magazines ∙ ap (λ keeps. kept_with keeps u.places place need) (sym none);
              counts = asked.counts;
            }
      ]

  module _ (v w : View) (base : Position) (hits : ℕ) (st : IsBetween g v.caller base) where
    abbrev caller : ℕ
    caller = v.caller.errand.caller

    abbrev setting : Setting
    setting = setting_at g v.caller w.caller

    abbrev Leads : List Made → Type 0
    Leads made = LeadsBy (Came g depth) v made w

    abbrev Goes : Op → Outcome → Type 0
    Goes operation result = HasGoneOn g depth v w base hits operation result

    -- an allocation was given the block at this place
    record IsGiven (u : View) (need place : ℕ) : Type 0 where
      pub calls : List Event
      pub added : HasAdded g v.caller u.caller calls
      pub quiet : (at : ℕ) → AllQuiet at calls
      pub given : IsGivenBy (served_by v.places (need_of need)) setting (stands_at v base hits) need place calls
      pub magazines : u.places ≡ magazines_given v.places (need_of need)
      pub counts : v.hits + hit_of (served_by v.places (need_of need)) < 2 ^ 64 → u.hits ≡ v.hits + hit_of (served_by v.places (need_of need))

    gives : (u : View) (need place : ℕ) → Came g depth v (alloc need) (reply.Given place (need_of need)) u → IsGiven u need place
    gives u need place came =
        let n = need_of need in
        elim came [
          | inl s ↦
              let same : s.place ≡ place = let e : reply.Given place n ≡ reply.Given s.place s.need = s.given in cc in
              record {
                calls = [];
                added = none-added g v.caller u.caller base st s.same;
                quiet = λ at. tt;
                given = subst (λ by. IsGivenBy by setting (stands_at v base hits) need place []) (sym s.serves) (sym same, refl);
                magazines = s.magazines;
                counts = λ less. s.counts ∙ counts-one v.hits (hit_of (served_by v.places n)) (ap hit_of s.serves) less;
              }
          | inr (none, asked) ↦
              let x = heap-gives g v.caller w.caller base st need place u.caller asked.one in
              record {
                calls = x.calls;
                added = x.added;
                quiet = λ at. quiet-giving at caller need place n x.calls x.events;
                given = subst (λ by. IsGivenBy by setting (stands_at v base hits) need place x.calls) (sym none) (x.asks, x.events);
                magazines = asked.magazines ∙ ap (λ by. given_from by v.places n) (sym none);
                counts = λ less. let no_hit : hit_of (served_by v.places n) ≡ 0 = ap hit_of none in asked.counts ∙ omega (arith, no_hit);
              }
        ]

    freed : (r : ℕ) (held : HeldBlock) → held_in base.registers r ≡ Some held → Leads (answered (free held.place held.need) reply.Freed ∷ []) → Goes (op.Free r) outcome.Freed
    freed r held full leads =
        let f = frees v w held.place held.need st.rests (subst (λ x. Came g depth v (free held.place held.need) reply.Freed x) (sym leads.2) leads.1) in
        record {
          piece = freeing caller (is_kept depth v.places held.need) held.place;
          added = f.added;
          row = (held, full, refl);
          magazines = f.magazines ∙ ap (magazines_freed depth v.places) (sym full);
          counts = λ less. f.counts ∙ omega arith;
          spent = λ is. absurd (cc);
        }

    given :
        (r need value words place : ℕ) → held_in base.registers r ≡ None → words ≡ usable_words (need_of need)
        → Leads (answered (alloc need) (reply.Given place (need_of need)) ∷ wrote place (need_of need) value words)
        → Goes (op.Alloc r need value) (outcome.Given words place)
    given r need value words place empty words_are (u, one, leads) =
        let x = gives u need place one in
        let a = plain-leads (wrote place (need_of need) value words) u w (all-wrote plain place (need_of need) value words) leads in
        let fills = filling caller place words value in
        let wrote_so : HasAdded g u.caller w.caller fills =
        subst (λ k. HasAdded g u.caller w.caller (filling k place words value)) x.added.moved.same_caller
        (writes-added g place (need_of need) (λ (i : ℕ). (value + i) % 2 ^ 64) words 0 u.caller w.caller x.added.rests a.leads) in
        record {
          piece = x.calls ++ fills;
          added = added-then g v.caller u.caller w.caller x.calls fills x.added wrote_so;
          row = (empty, words_are, x.calls, x.given, refl);
          magazines = a.magazines ∙ x.magazines;
          counts = λ less. a.counts ∙ x.counts less;
          spent = λ is. absurd (cc);
        }

    resized :
        (r need words place : ℕ) (held : HeldBlock) (found : List ℕ) → held_in base.registers r ≡ Some held → need_of need ≢ held.need
        → words ≡ usable_words (need_of need) → held.words ≡ usable_words held.need → length found ≡ min held.words words → held.place ≢ place
        → Leads (answered (alloc need) (reply.Given place (need_of need))
        ∷ copied held.place held.need place (need_of need) found words ++ answered (free held.place held.need) reply.Freed ∷ [])
        → Goes (op.Resize r need) (outcome.Resized words place)
    resized r need words place held found full differ words_are has all apart (t, one, leads) =
        let n = need_of need in
        let release = free held.place held.need in
        let x = gives t need place one in
        let made = copied held.place held.need place n found words in
        let parts = leads-split (Came g depth) t w made (answered release reply.Freed ∷ []) leads in
        let u : View = parts.0 in
        let a = plain-leads made t u (all-copied plain held.place held.need place n found (range_with_len 0 words)) parts.1 in
        let writes = writing caller place words (value_of found) in
        let (copied_so, copy) = copies g v.caller w.caller base st r words place held n found t.caller u.caller x.calls full has all apart x.added
        (x.quiet held.place) a.leads in
        let f = frees u w held.place held.need copied_so.rests (subst (λ y. Came g depth u release reply.Freed y) (sym parts.2.2) parts.2.1) in
        let same_places : u.places ≡ magazines_given v.places n = a.magazines ∙ x.magazines in
        let keeps = is_kept depth (magazines_given v.places n) held.need in
        let frees_it = freeing caller keeps held.place in
        let freed_so : HasAdded g u.caller w.caller frees_it =
        subst (λ k. HasAdded g u.caller w.caller (freeing k keeps held.place)) copied_so.moved.same_caller
        (subst (λ ms. HasAdded g u.caller w.caller (freeing u.caller.errand.caller (is_kept depth ms held.need) held.place)) same_places f.added) in
        let piece = x.calls ++ writes ++ frees_it in
        let added = added-then g v.caller u.caller w.caller (x.calls ++ writes) frees_it copied_so freed_so in
        record {
          piece = piece;
          added = added;
          row = (held, full, differ, words_are, x.calls, x.given, value_of found, copy piece added, refl);
          magazines =
              f.magazines ∙ ap (λ ms. kept_with (is_kept depth ms held.need) ms held.place held.need) same_places
              ∙ ap (magazines_freed depth (magazines_given v.places n)) (sym full);
          counts = λ less. f.counts ∙ a.counts ∙ x.counts less;
          spent = λ is. absurd (cc);
        }

    -- the heap was asked alone: the row is that of a lane without magazines
    gone-plain :
        {operation : Op} {result : Outcome} → (gone : HasGone g v.caller w.caller base operation result) → w.places ≡ v.places → w.hits ≡ v.hits
        → CachedRow setting depth (stands_at v base hits) operation result gone.piece → served_for v.places operation result ≡ None
        → magazines_after depth v.places base.registers operation result ≡ v.places → Goes operation result
    gone-plain {operation = operation} {result = result} gone places still row none same = record {
      piece = gone.piece;
      added = gone.added;
      row = row;
      magazines = places ∙ sym same;
      counts = λ less. still ∙ (let no_hit : hit_of (served_for v.places operation result) ≡ 0 = ap hit_of none in omega (arith, no_hit));
      spent = gone.spent;
    }

    -- no magazine has to do with it
    plain-gone :
        {operation : Op} {result : Outcome} {slot : Option HeldBlock} {made calls : List Made} → held_in base.registers (register_of operation) ≡ slot
        → MadeFor slot operation result made → made ≡ calls → AllCalls IsPlain calls → Leads made → IsHeaps (deed_of operation result)
        → ((piece : List Event) → FitsRow setting base operation result piece → CachedRow setting depth (stands_at v base hits) operation result piece)
        → served_for v.places operation result ≡ None → magazines_after depth v.places base.registers operation result ≡ v.places
        → Goes operation result
    plain-gone {operation = operation} {result = result} {slot = slot} {made = made} is for are plain leads heaps row none same =
        let a = plain-leads made v w (subst (AllCalls IsPlain) (sym are) plain) leads in
        let gone = op-gone g v.caller w.caller base st operation result slot made is for a.leads heaps in
        gone-plain gone a.magazines a.counts (row gone.piece gone.row) none same

    -- an allocation was given no block: no magazine had one for it, and the heap was asked alone
    ungiven :
        {operation : Op} {result : Outcome} {slot : Option HeldBlock} (need : ℕ) (answer : Reply)
        → held_in base.registers (register_of operation) ≡ slot
        → MadeFor slot operation result (answered (alloc need) answer ∷ []) → Leads (answered (alloc need) answer ∷ [])
        → ((place : ℕ) (need : Need) → answer ≡ reply.Given place need → ⊥) → IsHeaps (deed_of operation result)
        → (served_by v.places (need_of need) ≡ None → (piece : List Event) → FitsRow setting base operation result piece
        → CachedRow setting depth (stands_at v base hits) operation result piece)
        → served_for v.places operation result ≡ None → magazines_after depth v.places base.registers operation result ≡ v.places
        → Goes operation result
    ungiven {operation = operation} {result = result} {slot = slot} need answer is for leads not heaps row none same =
        let came : Came g depth v (alloc need) answer w = subst (λ x. Came g depth v (alloc need) answer x) (sym leads.2) leads.1 in
        elim came [
          | inl s ↦ absurd (not s.place s.need s.given)
          | inr (no_block, asked) ↦
              let gone = op-gone g v.caller w.caller base st operation result slot (answered (alloc need) answer ∷ []) is for (w.caller, asked.one, refl) heaps in
              gone-plain gone asked.magazines asked.counts (row no_block gone.piece gone.row) none same
        ]

    -- each block stays where it is: no call has to do with a magazine
    stays-plain : (slot : Option HeldBlock) (made : List Made) → HandlesBy slot deed.stays made → AllCalls IsPlain made
    stays-plain slot made (inl stays) = all-light plain made stays
    stays-plain slot made (inr (place, need, shelf, found, calls)) = subst (AllCalls IsPlain) (sym calls) (tt, tt)

    -- an operation that was made, and gives no block that its register holds
    pub op-through :
        (operation : Op) (result : Outcome) (slot : Option HeldBlock) (made : List Made) → held_in base.registers (register_of operation) ≡ slot
        → MadeFor slot operation result made → Leads made
        → ((need place : ℕ) (held : HeldBlock) (rest : List Made) → slot ≡ Some held
        → made ≡ answered (alloc need) (reply.Given place (need_of need)) ∷ rest → held.place ≢ place) → Goes operation result
    op-through (op.Alloc r need value) (outcome.Given words place) None made is (words_are, calls) leads apart =
        given r need value words place is words_are (subst Leads calls leads)
    op-through (op.Alloc r need value) (outcome.Given words place) (Some held) made is for leads apart = absurd for
    op-through (op.Alloc r need value) outcome.Refused None made is calls leads apart =
        ungiven need reply.Refused is refl (subst Leads calls leads) (λ place n given. cc) tt (λ none piece row. (none, row)) refl refl
    op-through (op.Alloc r need value) outcome.Refused (Some held) made is for leads apart = absurd for
    op-through (op.Alloc r need value) outcome.Spent None made is calls leads apart =
        ungiven need reply.Spent is refl (subst Leads calls leads) (λ place n given. cc) tt (λ none piece row. (none, row)) refl refl
    op-through (op.Alloc r need value) outcome.Spent (Some held) made is for leads apart = absurd for
    op-through (op.Free r) outcome.Freed (Some held) made is (words, calls) leads apart = freed r held is (subst Leads calls leads)
    op-through (op.Free r) outcome.Freed None made is for leads apart = absurd for
    op-through (op.Put r shelf) outcome.Put (Some held) made is (words, calls) leads apart =
        plain-gone is (words, calls) calls (tt, tt) leads tt (λ piece row. row) refl refl
    op-through (op.Put r shelf) outcome.Put None made is for leads apart = absurd for
    op-through (op.Take r shelf) (outcome.Took words place need) None made is (misses, are, words_are, calls) leads apart =
        plain-gone is (misses, are, words_are, calls) calls (all-takes plain shelf misses (reply.Got place need) are) leads tt (λ piece row. row) refl refl
    op-through (op.Take r shelf) (outcome.Took words place need) (Some held) made is for leads apart = absurd for
    op-through (op.Resize r need) (outcome.Resized words place) (Some held) made is (differ, words_are, has, found, all, calls) leads apart =
        resized r need words place held found is differ words_are has all (apart need place held _ refl calls) (subst Leads calls leads)
    op-through (op.Resize r need) (outcome.Resized words place) None made is for leads apart = absurd for
    op-through (op.Resize r need) outcome.Refused (Some held) made is (differ, calls) leads apart =
        ungiven need reply.Refused is (differ, refl) (subst Leads calls leads) (λ place n given. cc) tt (λ none piece row. (none, row)) refl refl
    op-through (op.Resize r need) outcome.Refused None made is for leads apart = absurd for
    op-through (op.Resize r need) outcome.Spent (Some held) made is (differ, calls) leads apart =
        ungiven need reply.Spent is (differ, refl) (subst Leads calls leads) (λ place n given. cc) tt (λ none piece row. (none, row)) refl refl
    op-through (op.Resize r need) outcome.Spent None made is for leads apart = absurd for
    op-through operation result slot made is for leads apart =
        plain-gone is for refl (stays-plain slot made (made-handles operation result slot made for)) leads tt (λ piece row. row) refl refl
