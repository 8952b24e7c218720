-- What whole calls of a caller add to its events, and what their answers say.
use Rattle.std.proofs.Common.{ℕ, zero, suc, ◌≡◌, ◌≢◌, ◌<◌, ◌≤◌, ◌+◌, ◌∷◌, ◌++◌, List, [], Some, None, length, map, refl, sym, ap, ◌∙◌, subst, inl, inr, arith, append_assoc, append-nil}
use Rattle.trace_lane.proofs.Common.{Geometry, Need, Event, Take, Write, Ended, EventsOf, Block, Reply, Call, HasEnded, Caller, IsAtRest, IsCall, AreMisses}
use Rattle.trace_lane.proofs.Common.{IsLegalWithoutCounts, LeadsBy, Made, IsFullShelf, IsWord, block_at, pool_of, alloc, put, read, take, write, end_of, cases_lt, own}
use Rattle.trace_lane.proofs.Common.{legal-weaker, own-append, leads-split, flat_map, range_with_len, slice_index_or, get_or_past, copied_word, answered, found_from}
use Rattle.trace_lane.proofs.Common.{copied-read, copied-past, put-offers, stage_of, take-none}
use Rattle.pool_model.specs.declared.owner.Owner.TheVariants.{Caller as CallerOf}
use Rattle.pool_model.specs.Calls as event_end
use Rattle.errand_steps.specs.declared.reply.Reply.TheVariants as reply
use Rattle.trace_lane.proofs.AnswerLemmas.{EndsGot, HasMovedOn, ends-full, ends-got, ends-read}
use Rattle.trace_lane.proofs.CallerLemmas.{HasCalled, moved-none, moved-then, steps-called}
use Rattle.trace_lane.proofs.QuietLemmas.{AllQuiet, quiet-keeps}

-- a caller rests later, and these are all events that it has added since
pub record HasAdded (g : Geometry) (c d : Caller) (added : List Event) : Type 0 where
  pub rests : IsAtRest g d
  pub moved : HasMovedOn c.errand d.errand c.seen d.seen added

pub added-none : (g : Geometry) (c : Caller) → IsAtRest g c → HasAdded g c c []
added-none g c rests = record { rests = rests; moved = moved-none c.errand c.seen }

pub added-then : (g : Geometry) (c d e : Caller) (one two : List Event) → HasAdded g c d one → HasAdded g d e two → HasAdded g c e (one ++ two)
added-then g c d e one two a b =
    record { rests = b.rests; moved = moved-then c.errand d.errand e.errand c.seen d.seen e.seen one two a.moved b.moved }

pub called-added : (g : Geometry) (c d : Caller) (call : Call) (answer : Reply) → IsAtRest g d → (h : HasCalled c call answer d) → HasAdded g c d h.added
called-added g c d call answer rests h = record { rests = rests; moved = h.moved }

pub ended-as :
    (caller : ℕ) (call : Call) (answer : Reply) (added : List Event) (end : Ended) → HasEnded caller call answer added → end_of call answer ≡ Some end
    → EventsOf caller end added
ended-as caller call answer added end h is =
    let same : h.ended.0 ≡ end = let both : Some h.ended.0 ≡ Some end = sym h.ended.1 ∙ is in cc in
    subst (λ (x : Ended). EventsOf caller x added) same h.ended.2

-- what a whole call adds whose events are known
pub whole-added :
    (g : Geometry) (c d : Caller) (call : Call) (answer : Reply) (end : Ended) (events : List Event) → IsCall g c call answer d
    → ((words : ℕ) → call ≡ alloc words → answer ≡ reply.Spent → ⊥) → end_of call answer ≡ Some end
    → ((added : List Event) → EventsOf c.errand.caller end added → added ≡ events) → HasAdded g c d events
whole-added g c d call answer end events one not is just =
    let h = steps-called g c d call answer one not in
    subst (HasAdded g c d) (just h.added (ended-as c.errand.caller call answer h.added end h.ended is)) (called-added g c d call answer one.rests h)

-- words are written, from word i on
abbrev pub Writes : ℕ → Need → (ℕ → ℕ) → ℕ → ℕ → List Made
Writes place need value i n = map (λ j. answered (write place need j (value j)) reply.Wrote) (range_with_len i n)

abbrev pub Written : ℕ → ℕ → (ℕ → ℕ) → ℕ → ℕ → List Event
Written caller place value i n = map (λ j. Write caller place j (value j)) (range_with_len i n)

pub writes-added :
    (g : Geometry) (place : ℕ) (need : Need) (value : ℕ → ℕ) (n i : ℕ) (c d : Caller) → IsAtRest g c → LeadsBy (IsCall g) c (Writes place need value i n) d
    → HasAdded g c d (Written c.errand.caller place value i n)
writes-added g place need value zero i c d rests same = subst (λ x. HasAdded g c x []) (sym same) (added-none g c rests)
writes-added g place need value (suc n) i c d rests (t, one, leads) =
    let caller = c.errand.caller in
    let first =
    whole-added g c t (write place need i (value i)) reply.Wrote (event_end.wrote place i (value i)) (Write caller place i (value i) ∷ []) one
    (λ words is spent. cc) refl (λ added is. is) in
    let rest = writes-added g place need value n (i + 1) t d first.rests leads in
    added-then g c t d (Write caller place i (value i) ∷ []) (Written caller place value (i + 1) n) first
    (subst (λ k. HasAdded g t d (Written k place value (i + 1) n)) first.moved.same_caller rest)

-- takes that missed, and one that did not
pub takes-added :
    (g : Geometry) (shelf : ℕ) (answer : Reply) (misses : List Made) (c d : Caller) → AreMisses shelf misses → IsAtRest g c
    → LeadsBy (IsCall g) c (misses ++ answered (take shelf) answer ∷ []) d → (t : Caller) × HasAdded g c t [] × IsCall g t (take shelf) answer d
takes-added g shelf answer [] c d are rests (t, one, same) =
    (c, added-none g c rests, subst (λ x. IsCall g c (take shelf) answer x) (sym same) one)
takes-added g shelf answer (m ∷ misses) c d are rests (t, one, leads) =
    let missed : Reply = reply.Missed are.0 are.1 in
    let first =
    whole-added g c t (take shelf) missed event_end.take_missed [] (subst (λ (x : Made). IsCall g c x.call x.answer t) are.2 one) (λ words is spent. cc) refl
    (λ added is. is) in
    let rest = takes-added g shelf answer misses t d are.3 first.rests leads in
    (rest.0, added-then g c t rest.0 [] [] first rest.1, rest.2)

-- a put that found a full shelf
pub full-added :
    (g : Geometry) (c d : Caller) (place : ℕ) (need : Need) (shelf found : ℕ) → IsCall g c (put place need shelf) (reply.Full found) d
    → HasAdded g c d [] × IsFullShelf (pool_of d.seen) shelf
full-added g c d place need shelf found one =
    let call = put place need shelf in
    let answer : Reply = reply.Full found in
    let h = steps-called g c d call answer one (λ words is spent. cc) in
    let told = ends-full h.last.errand d.errand h.last.seen d.seen h.way.added place need shelf found place need h.moment
    (put-offers h.last.errand.caller place need shelf h.last.errand.point h.way.added h.way.under_way) h.way.under_way in
    (whole-added g c d call answer event_end.put_full [] one (λ words is spent. cc) refl (λ added is. is), told.full)

-- the last event that a caller sees is its take of this block, which lay on the shelf just before
pub record HasTakenOff (c d : Caller) (shelf place : ℕ) (need : Need) : Type 0 where
  pub before : List Event
  pub last : d.seen ≡ before ++ Take c.errand.caller shelf place ∷ []
  pub own_before : own c.errand.caller before ≡ own c.errand.caller c.seen
  pub block : Block
  pub lay : block_at place (pool_of before) ≡ Some block
  pub need_is : need ≡ block.need

pub got-added :
    (g : Geometry) (c d : Caller) (shelf place : ℕ) (need : Need) → IsCall g c (take shelf) (reply.Got place need) d
    → HasAdded g c d (Take c.errand.caller shelf place ∷ []) × HasTakenOff c d shelf place need
got-added g c d shelf place need one =
    let caller = c.errand.caller in
    let call = take shelf in
    let answer : Reply = reply.Got place need in
    let h = steps-called g c d call answer one (λ words is spent. cc) in
    let told : EndsGot h.last.errand d.errand shelf place need h.last.seen d.seen h.way.added =
    ends-got h.last.errand d.errand h.last.seen d.seen h.way.added shelf place need h.moment h.way.under_way in
    let same : h.last.errand.caller ≡ caller = h.way.moved.same_caller in
    let none : h.way.added ≡ [] = take-none h.last.errand.caller shelf (stage_of h.last.errand.point) h.way.added h.way.under_way in
    let own_last : own caller h.last.seen ≡ own caller c.seen =
    h.way.moved.own_events ∙ ap (λ xs. own caller c.seen ++ xs) none ∙ append-nil (own caller c.seen) in
    let own_between : own caller told.between ≡ [] = subst (λ k. own k told.between ≡ []) same told.not_own in (
      whole-added g c d call answer (event_end.take_got shelf place) (Take caller shelf place ∷ []) one (λ words is spent. cc) refl (λ added is. is),
      record {
        before = h.last.seen ++ told.between;
        last = told.last ∙ ap (λ k. (h.last.seen ++ told.between) ++ Take k shelf place ∷ []) same;
        own_before =
            own-append caller h.last.seen told.between ∙ ap (λ xs. own caller h.last.seen ++ xs) own_between ∙ append-nil (own caller h.last.seen)
            ∙ own_last;
        block = told.block;
        lay = told.lay;
        need_is = sym told.block_need;
      },
    )

-- what a lane writes into the new block of a resize: the words that were read of the old one, and 0 behind them
abbrev pub value_of : List ℕ → ℕ → ℕ
value_of words i = slice_index_or words i 0

module _ (g : Geometry) (c : Caller) (at : ℕ) (block : Block) (mine : block.owner ≡ CallerOf c.errand.caller) where
  -- the caller has added these events since, and its block at this place is as it was
  pub record HasKept (t : Caller) (added : List Event) : Type 0 where
    pub has : HasAdded g c t added
    pub still : block_at at (pool_of t.seen) ≡ Some block

  -- it is so behind events that leave the block alone
  pub kept-on : (t u : Caller) (added more : List Event) → HasKept t added → HasAdded g t u more → AllQuiet at more → HasKept u (added ++ more)
  kept-on t u added more k a quiet = record {
    has = added-then g c t u added more k.has a;
    still =
        rw a.moved.seen (quiet-keeps g t.seen a.moved.rest t.errand.caller at block
        (subst (IsLegalWithoutCounts g) a.moved.seen (legal-weaker g u.seen a.rests.served.legal)) (subst (AllQuiet at) (sym a.moved.own_rest) quiet) k.still
        (mine ∙ ap CallerOf (sym k.has.moved.same_caller)));
  }

  -- a word of another block is written
  pub kept-write :
      (t u : Caller) (added : List Event) (place : ℕ) (need : Need) (i v : ℕ) → HasKept t added → at ≢ place
      → IsCall g t (write place need i v) reply.Wrote u → HasKept u (added ++ Write c.errand.caller place i v ∷ [])
  kept-write t u added place need i v k differ one =
      let a =
      whole-added g t u (write place need i v) reply.Wrote (event_end.wrote place i v) (Write t.errand.caller place i v ∷ []) one (λ words is spent. cc) refl
      (λ more is. is) in
      subst (λ k. HasKept u (added ++ Write k place i v ∷ [])) k.has.moved.same_caller (kept-on t u added (Write t.errand.caller place i v ∷ []) k a (differ, tt))

  -- a word of the kept block is read: it is what the block holds there
  pub kept-read :
      (t u : Caller) (added : List Event) (need : Need) (i word : ℕ) → HasKept t added → IsCall g t (read at need i) (reply.Word word) u
      → HasKept u added × IsWord (slice_index_or block.contents i None) word
  kept-read t u added need i word k one =
      let call = read at need i in
      let answer : Reply = reply.Word word in
      let h = steps-called g t u call answer one (λ words is spent. cc) in
      let a = whole-added g t u call answer event_end.read [] one (λ words is spent. cc) refl (λ more is. is) in
      let kept : HasKept u added = subst (HasKept u) (append-nil added) (kept-on t u added [] k a tt) in
      let found = ends-read h.last.errand u.errand h.last.seen u.seen h.way.added at need i word h.moment h.way.under_way in
      let same : found.block ≡ block = let both : Some found.block ≡ Some block = sym found.live ∙ kept.still in cc in
      (kept, subst (λ (b : Block). IsWord (slice_index_or b.contents i None) word) same found.is_word)

  -- each of some words is what the block holds there, from word i on
  abbrev pub AreFound : ℕ → List ℕ → Type 0
  AreFound i words = (j : ℕ) → j < length words → IsWord (slice_index_or block.contents (i + j) None) (slice_index_or words j 0)

  found-more :
      (i word : ℕ) (words : List ℕ) → IsWord (slice_index_or block.contents i None) word → AreFound (suc i) words → AreFound i (word ∷ words)
  found-more i word words first rest zero below =
      subst (λ k. IsWord (slice_index_or block.contents k None) word) (let same : i ≡ i + 0 = omega arith in same) first
  found-more i word words first rest (suc j) below =
      subst (λ k. IsWord (slice_index_or block.contents k None) (slice_index_or words j 0)) (let same : suc i + j ≡ i + suc j = omega arith in same)
      (rest j (omega (arith, below)))

  -- the words of the block are read
  pub reads-kept :
      (need : Need) (words : List ℕ) (i : ℕ) (t u : Caller) → HasKept t [] → LeadsBy (IsCall g) t (found_from at need i words) u
      → HasKept u [] × AreFound i words
  reads-kept need [] i t u k same = (subst (λ x. HasKept x []) (sym same) k, λ j below. absurd (omega (arith, below)))
  reads-kept need (word ∷ words) i t u k (s, one, leads) =
      let first = kept-read t s [] need i word k one in
      let rest = reads-kept need words (suc i) s u first.0 leads in
      (rest.0, found-more i word words first.1 rest.1)

  module _ (from_need : Need) (place : ℕ) (need : Need) (differ : at ≢ place) (words : List ℕ) where
    -- some words are copied, from word i on
    abbrev pub Copied : ℕ → ℕ → List Made
    Copied i n = flat_map (copied_word at from_need place need words) (range_with_len i n)

    abbrev pub CopiedWrites : ℕ → ℕ → List Event
    CopiedWrites i n = Written c.errand.caller place (value_of words) i n

    -- the words that are read from i on are what the block holds
    abbrev pub AreWords : ℕ → ℕ → Type 0
    AreWords i n = (j : ℕ) → i ≤ j → j < i + n → j < length words → IsWord (slice_index_or block.contents j None) (value_of words j)

    -- one word is copied
    copy-one :
        (i : ℕ) (t u : Caller) (added : List Event) → HasKept t added → LeadsBy (IsCall g) t (copied_word at from_need place need words i) u
        → HasKept u (added ++ Write c.errand.caller place i (value_of words i) ∷ [])
        × (i < length words → IsWord (slice_index_or block.contents i None) (value_of words i))
    copy-one i t u added k leads =
        elim (cases_lt i (length words)) [
          | inl inside ↦
              let v = value_of words i in
              let calls : LeadsBy (IsCall g) t (answered (read at from_need i) (reply.Word v) ∷ answered (write place need i v) reply.Wrote ∷ []) u =
              subst (λ ms. LeadsBy (IsCall g) t ms u) (copied-read at from_need place need words i inside) leads in
              let found = kept-read t calls.0 added from_need i v k calls.1 in
              let wrote : IsCall g calls.0 (write place need i v) reply.Wrote u =
              subst (λ x. IsCall g calls.0 (write place need i v) reply.Wrote x) (sym calls.2.2) calls.2.1 in
              (kept-write calls.0 u added place need i v found.0 differ wrote, λ below. found.1)
          | inr past ↦
              let calls : LeadsBy (IsCall g) t (answered (write place need i 0) reply.Wrote ∷ []) u =
              subst (λ ms. LeadsBy (IsCall g) t ms u) (copied-past at from_need place need words i past) leads in
              let none : value_of words i ≡ 0 = get_or_past words i 0 past in
              let wrote : IsCall g t (write place need i 0) reply.Wrote u =
              subst (λ x. IsCall g t (write place need i 0) reply.Wrote x) (sym calls.2) calls.1 in (
                subst (λ v. HasKept u (added ++ Write c.errand.caller place i v ∷ [])) (sym none) (kept-write t u added place need i 0 k differ wrote),
                λ below. absurd (omega (arith, past, below)),
              )
        ]

    -- so many words are copied, from word i on
    pub copy-walk :
        (n i : ℕ) (t u : Caller) (added : List Event) → HasKept t added → LeadsBy (IsCall g) t (Copied i n) u
        → HasKept u (added ++ CopiedWrites i n) × AreWords i n
    copy-walk zero i t u added k same = (
      subst (λ xs. HasKept u xs) (sym (append-nil added)) (subst (λ x. HasKept x added) (sym same) k),
      λ j from below inside. absurd (omega (arith, from, below)),
    )
    copy-walk (suc n) i t u added k leads =
        let parts = leads-split (IsCall g) t u (copied_word at from_need place need words i) (Copied (i + 1) n) leads in
        let first = copy-one i t parts.0 added k parts.1 in
        let write_here : List Event = Write c.errand.caller place i (value_of words i) ∷ [] in
        let rest = copy-walk n (i + 1) parts.0 u (added ++ write_here) first.0 parts.2 in (
          subst (λ xs. HasKept u xs) (append_assoc added write_here (CopiedWrites (i + 1) n)) rest.0,
          λ j from below inside.
              elim (cases_lt i j) [
                | inl above ↦ rest.1 j (omega (arith, above)) (omega (arith, below)) inside
                | inr here ↦
                    let same : i ≡ j = omega (arith, from, here) in
                    subst (λ k. k < length words → IsWord (slice_index_or block.contents k None) (value_of words k)) same first.1 inside
              ],
        )
