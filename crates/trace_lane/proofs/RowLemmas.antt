-- What one operation of a lane makes, by the whole calls that were made for it.
use Rattle.std.proofs.Common.{ℕ, true, suc, ◌≡◌, ◌≢◌, ◌<◌, ◌≤◌, ◌+◌, ◌∷◌, ◌++◌, List, [], Option, Some, None, length, append-nil, refl, sym, ap, ◌∙◌, subst, inl, inr, arith}
use Rattle.trace_lane.proofs.Common.{Geometry, Need, Event, IsLegal, Block, Reply, Call, IsServed, LeadsBy, Made, Op, HeldBlock, Outcome, Ended}
use Rattle.trace_lane.proofs.Common.{EventsOf, IsWellFormed, EndsCall, Caller, IsAtRest, IsCall, MadeBy, OwnsFor, Position, IsSpent, MayAsk, Moment, FitsRow, IsWord}
use Rattle.trace_lane.proofs.Common.{Setting, min, block_at, pool_of, alloc, answered, copied, cases_lt, own, legal-weaker, alloc_answer, end_of}
use Rattle.trace_lane.proofs.Common.{register_of, setting_in, slice_index_or, get_or_default, get_or_past, usable_words, alloc_spent, every-found, sound-of}
use Rattle.trace_lane.proofs.Common.{begun_at, at_once, by_steps, writing, held_in}
use Rattle.std.specs.List.{AllZip}
use Rattle.std.proofs.Math.Nat.{min-le_left}
use Rattle.heap_geometry.specs.Need.{need_of}
use Rattle.pool_model.specs.declared.owner.Owner.TheVariants.{Caller as CallerOf}
use Rattle.pool_model.specs.Calls.{alloc_given, alloc_refused}
use Rattle.errand_steps.specs.declared.reply.Begun.TheVariants as begun
use Rattle.errand_steps.specs.declared.reply.Reply.TheVariants as reply
use Rattle.lane_outcomes.specs.declared.outcome.Outcome.TheVariants as outcome
use Rattle.lane_outcomes.specs.Rows.{RowAt, IsCopy}
use Rattle.trace_lane.proofs.AddedLemmas.{HasAdded, HasKept, added-none, called-added, copy-walk, ended-as, kept-on, value_of, whole-added}
use Rattle.trace_lane.proofs.AnswerLemmas.{alloc-not_begun, ends-spent_call}
use Rattle.trace_lane.proofs.CallerLemmas.{Owns, alloc-started, ends-called, steps-busy, steps-called}
use Rattle.trace_lane.proofs.EachCall.{HoldsAll}
use Rattle.trace_lane.proofs.QuietLemmas.{AllQuiet}
use Rattle.trace_lane.proofs.TurnLemmas.{answered_in, asked-unspent, is-spent, may-ask}

-- a live block has all its words
contents-long :
    (g : Geometry) (events : List Event) (place : ℕ) (block : Block) → IsLegal g events → block_at place (pool_of events) ≡ Some block
    → length block.contents ≡ usable_words block.need
contents-long g events place block legal live =
    (every-found (IsWellFormed g) place (pool_of events) block (sound-of g events (legal-weaker g events legal)).each live).full

-- words, each as a block holds it, are the block's
pub zip-of :
    (contents : List (Option ℕ)) (words : List ℕ) → length contents ≡ length words
    → ((i : ℕ) → i < length words → IsWord (slice_index_or contents i None) (slice_index_or words i 0)) → AllZip IsWord contents words
zip-of [] [] same each = tt
zip-of [] (word ∷ words) same each = absurd (omega (arith, same))
zip-of (content ∷ contents) [] same each = absurd (omega (arith, same))
zip-of (content ∷ contents) (word ∷ words) same each =
    (each 0 (omega arith), zip-of contents words (omega (arith, same)) (λ i below. each (suc i) (omega (arith, below))))

below-both : (i a b : ℕ) → i < a → i < b → i < min a b
below-both i a b one two = omega (arith, one, two)

-- words of a held block as it was at a moment, and 0 behind them
copy-of :
    (setting : Setting) (position : Position) (held : HeldBlock) (block : Block) (words : ℕ) (found : List ℕ) (moment : Moment setting position.done)
    → block_at held.place (pool_of moment.before) ≡ Some block → length block.contents ≡ held.words → length found ≡ min held.words words
    → ((j : ℕ) → 0 ≤ j → j < 0 + words → j < length found → IsWord (slice_index_or block.contents j None) (value_of found j))
    → IsCopy setting position held words (value_of found)
copy-of setting position held block words found moment live size all each = record {
  moment = moment;
  block = block;
  live = live;
  each = λ i inside.
      elim (cases_lt i held.words) [
        | inl below ↦
            let found_here : i < length found = subst (λ n. i < n) (sym all) (below-both i held.words words below inside) in
            subst (λ w. IsWord w (value_of found i)) (get_or_default block.contents i None (Some 0) (omega (arith, below, size)))
            (each i (omega arith) (omega (arith, inside)) found_here)
        | inr past ↦
            let short : length found ≤ held.words = subst (λ n. n ≤ held.words) (sym all) (min-le_left held.words words) in
            let none : slice_index_or block.contents i (Some 0) ≡ Some 0 = get_or_past block.contents i (Some 0) (omega (arith, past, size)) in
            subst (λ w. IsWord w (value_of found i)) (sym none) (get_or_past found i 0 (omega (arith, short, past)))
      ];
}

-- a lane between two operations, by its caller
pub record IsBetween (g : Geometry) (c : Caller) (base : Position) : Type 0 where
  pub rests : IsAtRest g c
  pub done : own c.errand.caller c.seen ≡ base.done
  pub answered : base.answered ≡ answered_in c.errand.caller base.done
  pub spent : base.spent ≡ true → c.errand.turns ≡ g.turn_limit
  pub holds : HoldsAll Owns c base.registers

-- what the outcome of an operation is held against, by the caller behind it
abbrev pub setting_at : Geometry → Caller → Caller → Setting
setting_at g c d = setting_in d.seen c.errand.caller g.turn_limit d.errand.lost

-- an operation with its outcome has led from one to the other
pub record HasGone (g : Geometry) (c d : Caller) (base : Position) (operation : Op) (result : Outcome) : Type 0 where
  pub piece : List Event
  pub added : HasAdded g c d piece
  pub row : FitsRow (setting_at g c d) base operation result piece
  pub spent : result ≡ outcome.Spent → d.errand.turns ≡ g.turn_limit

module _ (g : Geometry) (c d : Caller) (base : Position) (st : IsBetween g c base) where
  abbrev caller : ℕ
  caller = c.errand.caller

  abbrev setting : Setting
  setting = setting_at g c d

  abbrev Leads : List Made → Type 0
  Leads made = LeadsBy (IsCall g) c made d

  heap : c.errand.geometry ≡ g
  heap = st.rests.served.own_errand.geometry

  -- the caller's own events behind the operation
  pub own-later : (piece : List Event) → HasAdded g c d piece → own caller d.seen ≡ base.done ++ piece
  own-later piece added = added.moved.own_events ∙ ap (λ xs. xs ++ piece) st.done

  -- the moments before and behind the operation
  abbrev pub moment-first : (piece : List Event) → HasAdded g c d piece → Moment setting base.done
  moment-first piece added = record { before = c.seen; begins = (added.moved.rest, added.moved.seen); own_done = st.done }

  abbrev pub moment-last : HasAdded g c d [] → Moment setting base.done
  moment-last added =
      record { before = d.seen; begins = ([], sym (append-nil d.seen)); own_done = own-later [] added ∙ append-nil base.done }

  pub gone :
      (operation : Op) (result : Outcome) (slot : Option HeldBlock) (piece : List Event) → held_in base.registers (register_of operation) ≡ slot
      → HasAdded g c d piece → RowAt setting base operation slot result piece → (result ≡ outcome.Spent → d.errand.turns ≡ g.turn_limit)
      → HasGone g c d base operation result
  gone operation result slot piece is added row spent =
      record { piece = piece; added = added; row = subst (λ h. RowAt setting base operation h result piece) (sym is) row; spent = spent }

  pub none-added : d ≡ c → HasAdded g c d []
  none-added same = subst (λ x. HasAdded g c x []) (sym same) (added-none g c st.rests)

  pub one-call : (made : List Made) (call : Call) (answer : Reply) → made ≡ answered call answer ∷ [] → Leads made → IsCall g c call answer d
  one-call made call answer is leads =
      let one = subst Leads is leads in subst (λ x. IsCall g c call answer x) (sym one.2) one.1

  -- one call, whose events are known
  pub one-added :
      (made : List Made) (call : Call) (answer : Reply) (end : Ended) (piece : List Event) → made ≡ answered call answer ∷ [] → Leads made
      → ((words : ℕ) → call ≡ alloc words → answer ≡ reply.Spent → ⊥) → end_of call answer ≡ Some end
      → ((added : List Event) → EventsOf caller end added → added ≡ piece) → HasAdded g c d piece
  one-added made call answer end piece is leads = whole-added g c d call answer end piece (one-call made call answer is leads)

  -- the block that a register holds, as the caller owns it
  abbrev pub OwnsIt : HeldBlock → Type 0
  OwnsIt held =
      (block : Block) × (block_at held.place (pool_of c.seen) ≡ Some block) × (block.owner ≡ CallerOf caller)
      × (length block.contents ≡ usable_words held.need)

  pub owns-it : (r : ℕ) (held : HeldBlock) → held_in base.registers r ≡ Some held → OwnsIt held
  owns-it r held full =
      let owned = st.holds.owned r held full in (
        owned.0,
        owned.1,
        owned.2,
        contents-long g c.seen held.place owned.0 st.rests.served.legal owned.1 ∙ ap usable_words owned.3,
      )

  -- an allocation that made steps had turns left
  asks-made : (need : ℕ) (answer : Reply) (t : Caller) → EndsCall c (alloc need) answer t → MayAsk base need
  asks-made need answer t ends =
      let busy = steps-busy ends.in_call.steps (begun_at c (alloc need)) ends.last ends.in_call.on ends.in_call.busy in
      may-ask c.errand base need (λ is. st.spent is ∙ ap (λ (h : Geometry). h.turn_limit) (sym heap)) (alloc-started c.errand need st.rests.idle busy)

  asks-by : (need : ℕ) (answer : Reply) (t : Caller) → MadeBy c (alloc need) answer t → answer ≢ reply.Spent → MayAsk base need
  asks-by need answer t (by_steps ends) not = asks-made need answer t ends
  asks-by need answer t (at_once words is_alloc is_spent spent same) not = absurd (not is_spent)

  pub refusal :
      (need : ℕ) (made : List Made) → made ≡ answered (alloc need) reply.Refused ∷ [] → Leads made
      → (piece : List Event) × HasAdded g c d piece × MayAsk base need × EventsOf caller (alloc_refused need) piece
  refusal need made is leads =
      let one = one-call made (alloc need) reply.Refused is leads in
      let h = steps-called g c d (alloc need) reply.Refused one (λ words is spent. cc) in (
        h.added,
        called-added g c d (alloc need) reply.Refused one.rests h,
        asks-by need reply.Refused d one.made (λ is. cc),
        ended-as caller (alloc need) reply.Refused h.added (alloc_refused need) h.ended refl,
      )

  -- an allocation found no turn left
  spent-so :
      (need : ℕ) (piece : List Event) → HasAdded g c d piece → d.errand.turns ≡ g.turn_limit
      → EventsOf caller (alloc_spent need) piece → (base.spent ≡ true → piece ≡ []) → IsSpent setting base need piece base.spent
  spent-so need piece added limit events none =
      is-spent g caller d.seen d.errand base need piece (subst (λ k. IsServed g k d.errand d.seen) added.moved.same_caller added.rests.served) added.rests.idle
      limit (own-later piece added) st.answered events none

  spending-by :
      (need : ℕ) → OwnsFor c.seen caller (alloc need) → IsAtRest g d → MadeBy c (alloc need) reply.Spent d
      → (piece : List Event) × HasAdded g c d piece × IsSpent setting base need piece base.spent × (d.errand.turns ≡ g.turn_limit)
  spending-by need owned rests (by_steps ends) =
      let call = alloc need in
      let h = ends-called g c d call reply.Spent st.rests owned ends in
      let told = ends-spent_call h.last.errand d.errand h.last.seen d.seen h.moment in
      let added = called-added g c d call reply.Spent rests h in
      let limit : d.errand.turns ≡ g.turn_limit =
      told ∙ ap (λ (x : Geometry). x.turn_limit) (h.way.moved.same_geometry ∙ heap) in
      let events = ended-as caller call reply.Spent h.added (alloc_spent need) h.ended refl in (
        h.added,
        added,
        spent-so need h.added added limit events (asked-unspent base need caller h.added (asks-made need reply.Spent d ends) events),
        limit,
      )
  spending-by need owned rests (at_once words is_alloc is_spent spent same) =
      let same_words : words ≡ need = let e : alloc need ≡ alloc words = is_alloc in cc in
      let none = alloc-not_begun c.errand need (subst (λ n. alloc_answer c.errand n ≡ begun.Spent) same_words spent) in
      let added : HasAdded g c d [] = none-added same in
      let limit : d.errand.turns ≡ g.turn_limit =
      ap (λ (x : Caller). x.errand.turns) same ∙ none.limit ∙ ap (λ (x : Geometry). x.turn_limit) heap in
      ([], added, spent-so need [] added limit none.all (λ is. refl), limit)

  pub spending :
      (need : ℕ) (made : List Made) → made ≡ answered (alloc need) reply.Spent ∷ [] → Leads made
      → (piece : List Event) × HasAdded g c d piece × IsSpent setting base need piece base.spent × (d.errand.turns ≡ g.turn_limit)
  spending need made is leads =
      let one = one-call made (alloc need) reply.Spent is leads in spending-by need one.owned one.rests one.made

  -- an allocation that was given a block
  pub record IsGiven (need place : ℕ) (t : Caller) : Type 0 where
    pub calls : List Event
    pub added : HasAdded g c t calls
    pub asks : MayAsk base need
    pub events : EventsOf caller (alloc_given need place) calls

  pub gives : (need place : ℕ) (t : Caller) → IsCall g c (alloc need) (reply.Given place (need_of need)) t → IsGiven need place t
  gives need place t one =
      let answer : Reply = reply.Given place (need_of need) in
      let h = steps-called g c t (alloc need) answer one (λ words is spent. cc) in
      record {
        calls = h.added;
        added = called-added g c t (alloc need) answer one.rests h;
        asks = asks-by need answer t one.made (λ is. cc);
        events = ended-as caller (alloc need) answer h.added (alloc_given need place) h.ended refl;
      }

  -- the words of a register's block are copied into a new one, which these events gave
  pub copies :
      (r words place : ℕ) (held : HeldBlock) (need : Need) (found : List ℕ) (t u : Caller) (calls : List Event) → held_in base.registers r ≡ Some held
      → held.words ≡ usable_words held.need → length found ≡ min held.words words → held.place ≢ place → HasAdded g c t calls
      → AllQuiet held.place calls → LeadsBy (IsCall g) t (copied held.place held.need place need found words) u
      → HasAdded g c u (calls ++ writing caller place words (value_of found))
      × ((piece : List Event) → HasAdded g c d piece → IsCopy setting base held words (value_of found))
  copies r words place held need found t u calls full has all apart added quiet leads =
      let (block, live, mine, long) = owns-it r held full in
      let first : HasKept g c held.place block mine c [] = record { has = added-none g c st.rests; still = live } in
      let before : HasKept g c held.place block mine t calls = kept-on g c held.place block mine c t [] calls first added quiet in
      let walk = copy-walk g c held.place block mine held.need place need apart found words 0 t u calls before leads in
      (walk.0.has, λ piece more. copy-of setting base held block words found (moment-first piece more) live (long ∙ sym has) all walk.1)
