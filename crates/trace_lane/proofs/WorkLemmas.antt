-- A request that is served call by call: where the answer of a call leads it, on whose block the call under way is, and how far it is.
use Rattle.std.proofs.Common.{ℕ, ◌≡◌, ◌<◌, ◌≤◌, ◌+◌, ◌%◌, ◌^◌, ◌∷◌, ◌++◌, List, [], Option, Some, None, length, min, refl, sym, ap, ◌∙◌, subst, inl, inr, arith, append_assoc, append-nil, nat_lt, true}
use Rattle.trace_lane.proofs.Common.{Geometry, Need, Reply, Ending, IsLegal, Event, Call, LeadsBy, Made, Op, Caller, FitsCall, IsCall, OwnsFor, HeldBlock, IsNeed, IsOp}
use Rattle.trace_lane.proofs.Common.{DoingOf, write, read, answered, copied, wrote, cases_Bool, cases_lt, copied-past, ended_as, leads-split}
use Rattle.trace_lane.proofs.Common.{length-append, range_with_len, usable_words, option_map, begun_bound}
use Rattle.std.proofs.lemmas.Bool.{ltb-true, lt-ltb}
use Rattle.std.proofs.Math.Nat.{min-eq_left, min-eq_right}
use Rattle.errand_steps.specs.declared.reply.Reply.TheVariants as reply
use Rattle.errand_steps.specs.declared.told.Ending.TheVariants as ending
use Rattle.sound_laws.proofs.events_lemmas.MadeLemmas.{found-more, sum-one, wrote-more}
use Rattle.sound_laws.proofs.events_lemmas.CopyLemmas.{copied-more, copied-one}
use Rattle.trace_lane.specs.declared.request.Answer.TheVariants as told
use Rattle.trace_lane.specs.declared.request.Request.{Request}
use Rattle.trace_lane.specs.declared.request.Request.TheVariants as request
use Rattle.trace_lane.specs.declared.work.Work.{Work}
use Rattle.trace_lane.specs.declared.work.Work.TheVariants as work
use Rattle.trace_lane.specs.declared.work.Worked.{Worked}
use Rattle.trace_lane.specs.Requests.{FitsRequest, HasBlocks, Serves}
use Rattle.trace_lane.specs.Works.{AnswersCall, IsReadFor, IsServing, behind, call_in, calls_bound, calls_ended, WorksTo, rank, request_in, word_in, work_begun, work_held}
use Rattle.trace_lane.proofs.AnswerLemmas.{heap-block, owned-need}
use Rattle.trace_lane.proofs.OperationLemmas.{asks-fits, asks-owned}
use Rattle.trace_lane.proofs.CallerLemmas.{Owns, caller-laws}
use Rattle.trace_lane.proofs.EachCall.{AllCalls, HoldsAll, IsLight, leads-keep, all-append, all-copied, all-found, all-light, all-misses, all-wrote, leaves, light, light-by}
use Rattle.trace_lane.proofs.NeedLemmas.{need-some, need-words}

-- the word behind one of a block, or none
behind-some : (i words next : ℕ) → Some next ≡ behind i words → (next ≡ i + 1) × (i + 1 < words)
behind-some i words next is =
    elim (cases_Bool (nat_lt (i + 1) words)) [
      | inl below ↦ let e : Some next ≡ Some (i + 1) = rw below at is in let same : next ≡ i + 1 = cc in (same, ltb-true (i + 1) words below)
      | inr past ↦ absurd (let e : Some next ≡ None = rw past at is in cc)
    ]

behind-none : (i words : ℕ) → None ≡ behind i words → words ≤ i + 1
behind-none i words is =
    elim (cases_lt (i + 1) words) [
      | inl below ↦ absurd (let t : nat_lt (i + 1) words ≡ true = lt-ltb (i + 1) words below in let e : None ≡ Some (i + 1) = rw t at is in cc)
      | inr past ↦ past
    ]

-- calls with one more
abbrev pub with_answer : List Made → Call → Reply → List Made
with_answer made call answer = made ++ answered call answer ∷ []

-- how a call on a word ends
module _ {B : Type 0} (place_of : B → ℕ) (block_need : B → Need) where
  pub wrote-so :
      (place : ℕ) (need : Need) (i v : ℕ) (ended : Ending B) → AnswersCall place_of block_need (write place need i v) ended
      → (ended_as place_of block_need ended ≡ reply.Wrote) × (i < usable_words need)
  wrote-so place need i v ending.Wrote a = (refl, a)
  wrote-so place need i v ended a = absurd a

  pub word-so :
      (place : ℕ) (need : Need) (i : ℕ) (ended : Ending B) → AnswersCall place_of block_need (read place need i) ended
      → (ended_as place_of block_need ended ≡ reply.Word (word_in ended)) × (i < usable_words need)
  word-so place need i (ending.Word word) a = (refl, a)
  word-so place need i ended a = absurd a

  -- how far it is is the same of blocks in hand and of registers'
  pub begun-held : (at : Option (Work B)) → work_begun (option_map (work_held place_of block_need) at) ≡ work_begun at
  begun-held None = refl
  begun-held (Some (work.Allocating need)) = refl
  begun-held (Some (work.Freeing block)) = refl
  begun-held (Some (work.Filling block v next)) = refl
  begun-held (Some (work.Summing block next total)) = refl
  begun-held (Some (work.Reading from to next)) = refl
  begun-held (Some (work.Writing from to next word)) = refl
  begun-held (Some (work.Putting block shelf)) = refl
  begun-held (Some (work.Taking shelf)) = refl

-- a call of a request has ended, of blocks in hand
pub works-so :
    {B : Type 0} (place_of : B → ℕ) (block_need : B → Need) (self : Work B) (at : Work HeldBlock) (ended : Ending B) (answer : Reply) (to : Worked HeldBlock)
    → work_held place_of block_need self ≡ at → ended_as place_of block_need ended ≡ answer → WorksTo at answer to
    → WorksTo (work_held place_of block_need self) (ended_as place_of block_need ended) to
works-so place_of block_need self at ended answer to at_is told works =
    subst (λ w. WorksTo w (ended_as place_of block_need ended) to) (sym at_is) (subst (λ a. WorksTo at a to) (sym told) works)

-- a fill: its next word, or its end
pub fill-goes :
    (held : HeldBlock) (v i next : ℕ) → Some next ≡ behind i (usable_words held.need)
    → (i < next) × ((made : List Made) → IsServing (work.Filling held v i) made
    → IsServing (work.Filling held v next) (with_answer made (call_in (work.Filling held v i)) reply.Wrote))
fill-goes held v i next found =
    let so = behind-some i (usable_words held.need) next found in (
      omega (arith, so.0),
      λ made (inside, is). (
        λ positive. omega (arith, so.0, so.1),
        ap (λ ms. with_answer ms (call_in (work.Filling held v i)) reply.Wrote) is ∙ sym (wrote-more held.place held.need v i)
            ∙ ap (wrote held.place held.need v) (sym so.0),
      ),
    )

pub fill-ends :
    (held : HeldBlock) (v i : ℕ) → None ≡ behind i (usable_words held.need) → i < usable_words held.need → (made : List Made)
    → IsServing (work.Filling held v i) made
    → Serves (request.Fill held v) (told.Filled held) (with_answer made (call_in (work.Filling held v i)) reply.Wrote)
fill-ends held v i found below made (inside, is) =
    let last : i + 1 ≡ usable_words held.need = omega (arith, behind-none i (usable_words held.need) found, below) in (
      refl,
      ap (λ ms. with_answer ms (call_in (work.Filling held v i)) reply.Wrote) is ∙ sym (wrote-more held.place held.need v i)
          ∙ ap (wrote held.place held.need v) last,
    )

-- a sum
pub sum-goes :
    (held : HeldBlock) (i total word next : ℕ) → Some next ≡ behind i (usable_words held.need)
    → (i < next) × ((made : List Made) → IsServing (work.Summing held i total) made
    → IsServing (work.Summing held next ((total + word) % 2 ^ 64)) (with_answer made (read held.place held.need i) (reply.Word word)))
sum-goes held i total word next found =
    let so = behind-some i (usable_words held.need) next found in (
      omega (arith, so.0),
      λ made (inside, words, all, total_is, is).
          let longer = length-append words (word ∷ []) in (
            λ positive. omega (arith, so.0, so.1),
            words ++ word ∷ [],
            omega (arith, longer, all, so.0),
            sum-one words total word total_is,
            ap (λ ms. with_answer ms (read held.place held.need i) (reply.Word word)) is
                ∙ sym (found-more held.place held.need 0 words word i (omega (arith, all))),
          ),
    )

pub sum-ends :
    (held : HeldBlock) (i total word : ℕ) → None ≡ behind i (usable_words held.need) → i < usable_words held.need → (made : List Made)
    → IsServing (work.Summing held i total) made
    → Serves (request.Sum held) (told.Summed held ((total + word) % 2 ^ 64)) (with_answer made (read held.place held.need i) (reply.Word word))
sum-ends held i total word found below made (inside, words, all, total_is, is) =
    let longer = length-append words (word ∷ []) in
    let most = behind-none i (usable_words held.need) found in (
      refl,
      words ++ word ∷ [],
      omega (arith, longer, all, most, below),
      sum-one words total word total_is,
      ap (λ ms. with_answer ms (read held.place held.need i) (reply.Word word)) is
          ∙ sym (found-more held.place held.need 0 words word i (omega (arith, all))),
    )

-- a copy: these are the words that were read so far
pub record HasCopied (from to : HeldBlock) (i : ℕ) (calls : List Made) : Type 0 where
  pub words : List ℕ
  pub all : length words ≡ min (usable_words from.need) (i + 1)
  pub is : calls ≡ copied from.place from.need to.place to.need words (i + 1)

copied-so :
    (from to : HeldBlock) (i word : ℕ) (words : List ℕ) (got : List Made) → length words ≡ min (usable_words from.need) i → IsReadFor from i word got
    → HasCopied from to i (copied from.place from.need to.place to.need words i ++ (got ++ answered (write to.place to.need i word) reply.Wrote ∷ []))
copied-so from to i word words got all (inl (inside, is)) =
    let all_is : length words ≡ i = all ∙ min-eq_right (omega (arith, inside)) in
    let one = copied-one from.place from.need to.place to.need words word in
    record {
      words = words ++ word ∷ [];
      all = length-append words (word ∷ []) ∙ ap (λ k. k + 1) all_is ∙ sym (min-eq_right (omega (arith, inside)));
      is =
          ap (λ ms. copied from.place from.need to.place to.need words i ++ (ms ++ answered (write to.place to.need i word) reply.Wrote ∷ [])) is
          ∙ sym
          (subst
          (λ k. copied from.place from.need to.place to.need (words ++ word ∷ []) (k + 1)
          ≡ copied from.place from.need to.place to.need words k
          ++ answered (read from.place from.need k) (reply.Word word) ∷ answered (write to.place to.need k word) reply.Wrote ∷ []) all_is one);
    }
copied-so from to i word words got all (inr (past, zero_is, none)) =
    let all_is : length words ≡ usable_words from.need = all ∙ min-eq_left past in
    record {
      words = words;
      all = all_is ∙ sym (min-eq_left (omega (arith, past)));
      is =
          ap (λ ms. copied from.place from.need to.place to.need words i ++ (ms ++ answered (write to.place to.need i word) reply.Wrote ∷ [])) none
          ∙ ap (λ k. copied from.place from.need to.place to.need words i ++ answered (write to.place to.need i k) reply.Wrote ∷ []) zero_is
          ∙ sym
          (copied-more from.place from.need to.place to.need words i
          ∙ ap (λ ms. copied from.place from.need to.place to.need words i ++ ms)
          (copied-past from.place from.need to.place to.need words i (omega (arith, all_is, past))));
    }

pub copy-wrote :
    (from to : HeldBlock) (i word : ℕ) (made : List Made) → IsServing (work.Writing from to i word) made
    → HasCopied from to i (with_answer made (write to.place to.need i word) reply.Wrote)
copy-wrote from to i word made (inside, words, all, got, got_is, is) =
    let last : List Made = answered (write to.place to.need i word) reply.Wrote ∷ [] in
    subst (HasCopied from to i)
    (sym (ap (λ ms. ms ++ last) is ∙ append_assoc (copied from.place from.need to.place to.need words i) got last))
    (copied-so from to i word words got all got_is)

pub copy-reads :
    (from to : HeldBlock) (i next : ℕ) → Some next ≡ behind i (usable_words to.need) → next < usable_words from.need
    → (i < next) × ((calls : List Made) → HasCopied from to i calls → IsServing (work.Reading from to next) calls)
copy-reads from to i next found inside =
    let so = behind-some i (usable_words to.need) next found in (
      omega (arith, so.0),
      λ calls c. (
        λ positive. inside,
        λ positive. omega (arith, so.0, so.1),
        c.words,
        c.all ∙ min-eq_right (omega (arith, so.0, inside)) ∙ sym so.0,
        c.is ∙ ap (copied from.place from.need to.place to.need c.words) (sym so.0),
      ),
    )

pub copy-clears :
    (from to : HeldBlock) (i next : ℕ) → Some next ≡ behind i (usable_words to.need) → usable_words from.need ≤ next
    → (i < next) × ((calls : List Made) → HasCopied from to i calls → IsServing (work.Writing from to next 0) calls)
copy-clears from to i next found past =
    let so = behind-some i (usable_words to.need) next found in (
      omega (arith, so.0),
      λ calls c. (
        λ positive. omega (arith, so.0, so.1),
        c.words,
        c.all ∙ ap (min (usable_words from.need)) (sym so.0),
        [],
        inr (past, refl, refl),
        c.is ∙ ap (copied from.place from.need to.place to.need c.words) (sym so.0)
            ∙ sym (append-nil (copied from.place from.need to.place to.need c.words next)),
      ),
    )

pub copy-ends :
    (from to : HeldBlock) (i : ℕ) → None ≡ behind i (usable_words to.need) → i < usable_words to.need → (calls : List Made) → HasCopied from to i calls
    → Serves (request.Copy from to) (told.Copied from to) calls
copy-ends from to i found below calls c =
    let last : i + 1 ≡ usable_words to.need = omega (arith, behind-none i (usable_words to.need) found, below) in
    (refl, refl, c.words, c.all ∙ ap (min (usable_words from.need)) last, c.is ∙ ap (copied from.place from.need to.place to.need c.words) last)

-- the calls that a request under way has ended are on words, or takes
read-light : (from : HeldBlock) (i word : ℕ) (got : List Made) → IsReadFor from i word got → AllCalls IsLight got
read-light from i word got (inl (inside, is)) = light-by got (answered (read from.place from.need i) (reply.Word word) ∷ []) is (tt, tt)
read-light from i word got (inr (past, zero_is, none)) = light-by got [] none tt

serving-light : (at : Work HeldBlock) (done : List Made) → IsServing at done → AllCalls IsLight done
serving-light (work.Filling held v next) done (inside, is) = light-by done _ is (all-wrote light held.place held.need v next)
serving-light (work.Summing held next total) done (inside, words, all, total_is, is) = light-by done _ is (all-found light held.place held.need 0 words)
serving-light (work.Reading from to next) done (inside, within, words, all, is) =
    light-by done _ is (all-copied light from.place from.need to.place to.need words (range_with_len 0 next))
serving-light (work.Writing from to next word) done (inside, words, all, got, got_is, is) =
    light-by done _ is
    (all-append light (copied from.place from.need to.place to.need words next) got
    (all-copied light from.place from.need to.place to.need words (range_with_len 0 next)) (read-light from next word got got_is))
serving-light (work.Taking shelf) done are = all-misses light shelf done are
serving-light at done none = light-by done [] none tt

-- the call under way is on a block of its caller's
call-owned :
    (g : Geometry) (mid last : Caller) (at : Work HeldBlock) → HasBlocks (Owns mid) (request_in at)
    → ((held : HeldBlock) → Owns mid held.place held.need → Owns last held.place held.need) → OwnsFor last.seen last.errand.caller (call_in at)
call-owned g mid last (work.Allocating need) has keep = tt
call-owned g mid last (work.Freeing held) has keep = keep held has
call-owned g mid last (work.Filling held v next) has keep = keep held has
call-owned g mid last (work.Summing held next total) has keep = keep held has
call-owned g mid last (work.Reading from to next) has keep = keep from has.0
call-owned g mid last (work.Writing from to next word) has keep = keep to has.1
call-owned g mid last (work.Putting held shelf) has keep = keep held has
call-owned g mid last (work.Taking shelf) has keep = tt

-- a block that the caller owns has a need of blocks, and words
abbrev HasNeed : Call → Type 0
HasNeed (write place need i v) = IsNeed need × (0 < usable_words need)
HasNeed (read place need i) = IsNeed need × (0 < usable_words need)
HasNeed call = Unit {0}

owned-has : (g : Geometry) (events : List Event) (caller : ℕ) (call : Call) → IsLegal g events → OwnsFor events caller call → HasNeed call
owned-has g events caller (write place need i v) legal owned =
    (owned-need g events caller place need legal owned, need-some g place need (heap-block g events caller place need legal owned))
owned-has g events caller (read place need i) legal owned =
    (owned-need g events caller place need legal owned, need-some g place need (heap-block g events caller place need legal owned))
owned-has g events caller call legal owned = tt

-- its numbers are in their ranges
call-fits : (at : Work HeldBlock) (done : List Made) → FitsRequest (request_in at) → IsServing at done → HasNeed (call_in at) → FitsCall (call_in at)
call-fits (work.Allocating need) done fits serving has = fits
call-fits (work.Freeing held) done fits serving has = tt
call-fits (work.Filling held v next) done fits serving has = serving.0 has.1
call-fits (work.Summing held next total) done fits serving has = serving.0 has.1
call-fits (work.Reading from to next) done fits serving has = serving.0 has.1
call-fits (work.Writing from to next word) done fits serving has = serving.0 has.1
call-fits (work.Putting held shelf) done fits serving has = fits
call-fits (work.Taking shelf) done fits serving has = fits

-- and few calls of the request have ended
call-few : (at : Work HeldBlock) → FitsCall (call_in at) → HasNeed (call_in at) → calls_ended at < calls_bound
call-few (work.Filling held v next) fits has = omega (arith, fits, need-words held.need has.0)
call-few (work.Summing held next total) fits has = omega (arith, fits, need-words held.need has.0)
call-few (work.Reading from to next) fits has = omega (arith, fits, need-words from.need has.0)
call-few (work.Writing from to next word) fits has = omega (arith, fits, need-words to.need has.0)
call-few at fits has = omega arith

rank-most : (asked : Request HeldBlock) → rank asked ≤ 2
rank-most (request.Allocate need) = omega arith
rank-most (request.Free held) = omega arith
rank-most asked = omega arith

pub begun-few : (at : Work HeldBlock) → calls_ended at < calls_bound → work_begun (Some at) < begun_bound
begun-few at few = let most = rank-most (request_in at) in omega (arith, few, most)

pub few-held :
    {B : Type 0} (place_of : B → ℕ) (block_need : B → Need) (held : Option (Work B)) (at : Work HeldBlock)
    → option_map (work_held place_of block_need) held ≡ Some at → calls_ended at < calls_bound → work_begun held < begun_bound
few-held place_of block_need held at is few =
    subst (λ n. n < begun_bound) (sym (ap work_begun is) ∙ begun-held place_of block_need held) (begun-few at few)

-- an operation that is under way has begun
pub works-begun :
    {B : Type 0} (place_of : B → ℕ) (block_need : B → Need) (held : Option (Work B)) (at : Work HeldBlock)
    → option_map (work_held place_of block_need) held ≡ Some at → 0 < work_begun held
works-begun place_of block_need None at is = absurd (let e : None ≡ Some at = is in cc)
works-begun place_of block_need (Some work) at is = omega arith

-- so much is known of the call under way
pub record IsWorking (events : List Event) (caller : ℕ) (at : Work HeldBlock) : Type 0 where
  pub owned : OwnsFor events caller (call_in at)
  pub fits : FitsCall (call_in at)
  pub few : calls_ended at < calls_bound

pub doing-works :
    (g : Geometry) (before registers : List (Option HeldBlock)) (between last : Caller) → HoldsAll Owns between before → (operation : Op)
    (at : Work HeldBlock) (made : List Made) → IsOp operation → DoingOf before registers operation (Some at) made → LeadsBy (IsCall g) between made last
    → IsLegal g last.seen → IsWorking last.seen last.errand.caller at
doing-works g before registers between last holds operation at made is_op (asked, done, is, asks, serving) leads legal =
    let (mid, first, rest) = leads-split (IsCall g) between last asked done (subst (λ ms. LeadsBy (IsCall g) between ms last) is leads) in
    let has = asks-owned (caller-laws g) between mid before registers holds operation (request_in at) asked asks first in
    let owned = call-owned g mid last at has
    (λ held. leads-keep (caller-laws g) mid last done held.place held.need rest (all-light (leaves held.place) done (serving-light at done serving))) in
    let some = owned-has g last.seen last.errand.caller (call_in at) legal owned in
    let fits = call-fits at done (asks-fits before registers operation (request_in at) asked is_op asks) serving some in
    record { owned = owned; fits = fits; few = call-few at fits some }
