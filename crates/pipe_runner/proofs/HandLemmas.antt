-- Where a put and a take stand in what a pass has seen.
use Rattle.std.proofs.Common.{ℕ, ◌≡◌, ◌+◌, ◌++◌, List, [], ◌∷◌, Some, length, refl, sym, ap, ◌∙◌, subst, inl, inr, arith, append_assoc, eq-eqb}
use Rattle.std.proofs.lemmas.List.{append-nil, length-append, nil_from_length, same_from_push}
use Rattle.heap_geometry.specs.declared.need.Need.{Need}
use Rattle.pool_model.specs.declared.event.Event.{Event}
use Rattle.pool_model.specs.declared.event.Event.TheVariants.{Put, Take}
use Rattle.pool_model.specs.declared.owner.Owner.TheVariants.{Caller}
use Rattle.pool_model.specs.Calls as ended
use Rattle.pool_model.specs.Calls.{Ended, EventsOf}
use Rattle.pool_model.specs.Histories.{caller_of, own}
use Rattle.pool_model.specs.Legal.{IsLegalEventWithoutCounts, IsLegalWithoutCounts}
use Rattle.pool_model.specs.Pool.{Block as PoolBlock, block_at, handed_to, pool_of}
use Rattle.pool_model.proofs.HistoryLemmas.{EachAfter-cut, last_cases, legal-weaker, own-append}
use Rattle.pool_model.proofs.OwnedLemmas.{owned-found}
use Rattle.pool_model.proofs.OwnerLemmas.{others-keep_all}
use Rattle.errand_steps.specs.declared.reply.Reply.TheVariants as reply
use Rattle.errand_steps.specs.Calls.{put, take}
use Rattle.live_heap.specs.Heaps.{HeapFields}
use Rattle.live_heap.specs.declared.pass.Pass.{Pass}
use Rattle.live_heap.specs.Calls.{HasCalled}
use Rattle.live_heap.specs.Contents.{owned_in}
use Rattle.live_heap.specs.Passes.{IsOf, seen}
use Rattle.live_heap.proofs.laws_for_builders.Changing.{called-changes}
use Rattle.live_heap.proofs.laws_for_builders.Events.{called-grows}

hers : (c : ℕ) (event : Event) → caller_of event ≡ c → own c (event ∷ []) ≡ event ∷ []
hers c event is = rw (eq-eqb (caller_of event) c is) refl

-- one event more of a caller, which is the last one seen: what was seen before it begins with what was seen first, and has no other event of the caller
pub one-more :
    (c : ℕ) (h rest before : List Event) (event : Event) → caller_of event ≡ c → h ++ rest ≡ before ++ event ∷ []
    → own c (h ++ rest) ≡ own c h ++ event ∷ [] → (more : List Event) × (before ≡ h ++ more) × (own c more ≡ [])
one-more c h rest before event is whole owned =
    let long : length (own c (h ++ rest)) ≡ length (own c h) + 1 =
    ap (λ (l : List Event). length l) owned ∙ length-append (own c h) (event ∷ []) in
    elim (last_cases rest) [
      | inl nothing ↦
          let same : own c (h ++ rest) ≡ own c h = ap (λ (l : List Event). own c (h ++ l)) nothing ∙ ap (own c) (append-nil h) in
          let short = ap (λ (l : List Event). length l) same in
          absurd (omega (arith, long, short))
      | inr (more, last, ends) ↦
          let split : h ++ rest ≡ (h ++ more) ++ last ∷ [] = ap (λ (l : List Event). h ++ l) ends ∙ sym (append_assoc h more (last ∷ [])) in
          let both : (h ++ more) ++ last ∷ [] ≡ before ++ event ∷ [] = sym split ∙ whole in
          let pushed = same_from_push (h ++ more) before last event both in
          let same : last ≡ event = pushed.1 in
          let front : h ++ more ≡ before = pushed.0 in
          let parts : own c (h ++ rest) ≡ (own c h ++ own c more) ++ own c (last ∷ []) =
          ap (own c) split ∙ own-append c (h ++ more) (last ∷ []) ∙ ap (λ (l : List Event). l ++ own c (last ∷ [])) (own-append c h more) in
          let one : length (own c (last ∷ [])) ≡ 1 = ap (λ (e : Event). length (own c (e ∷ []))) same ∙ ap (λ (l : List Event). length l) (hers c event is) in
          let sum : length (own c (h ++ rest)) ≡ length (own c h ++ own c more) + length (own c (last ∷ [])) =
          ap (λ (l : List Event). length l) parts ∙ length-append (own c h ++ own c more) (own c (last ∷ [])) in
          let two = length-append (own c h) (own c more) in
          (more, sym front, nil_from_length (own c more) (omega (arith, long, one, sum, two)))
    ]

-- a block that lies at this place is handed over by the last event, behind what was seen and events of others
pub record IsHandedAt (c : ℕ) (h now : List Event) (event : Event) (place : ℕ) (b : PoolBlock) : Type 0 where
  pub own_more : own c now ≡ own c h ++ event ∷ []
  pub more : List Event
  pub grows : now ≡ (h ++ more) ++ event ∷ []
  pub others : own c more ≡ []
  pub there : block_at place (pool_of (h ++ more)) ≡ Some b

put-added :
    (last q : Pass) (place : ℕ) (need : Need) (shelf : ℕ) → HasCalled last (put place need shelf) 0 reply.Put q
    → own last.errand.caller (seen q) ≡ own last.errand.caller (seen last) ++ Put last.errand.caller place shelf ∷ []
put-added last q place need shelf called =
    let told = called.ended.ended in
    let both : Some (ended.put_done place shelf) ≡ Some told.0 = told.1 in
    let same : ended.put_done place shelf ≡ told.0 = cc in
    let added : called.added ≡ Put last.errand.caller place shelf ∷ [] =
    subst (λ (e : Ended). EventsOf last.errand.caller e called.added) (sym same) told.2 in
    called.events ∙ ap (λ (l : List Event). own last.errand.caller (seen last) ++ l) added

pub put-at :
    (h : HeapFields) (last q : Pass) (place : ℕ) (need : Need) (shelf : ℕ) (b : PoolBlock) → IsOf h q
    → HasCalled last (put place need shelf) 0 reply.Put q → owned_in last place ≡ Some b
    → IsHandedAt last.errand.caller (seen last) (seen q) (Put last.errand.caller place shelf) place b
put-at h last q place need shelf b of called there =
    let c = last.errand.caller in
    let event = Put c place shelf in
    let changed = called-changes h last q (put place need shelf) 0 reply.Put of called in
    let (before, ends) = changed.last in
    let (rest, grows) = called-grows last q (put place need shelf) 0 reply.Put called in
    let added = put-added last q place need shelf called in
    let (more, front, others) =
    one-more c (seen last) rest before event refl (sym grows ∙ ends) (ap (own c) (sym grows) ∙ added) in
    let found = owned-found c (block_at place (pool_of (seen last))) b there in
    let legal : IsLegalWithoutCounts h.layout (seen last ++ more) =
    EachAfter-cut (IsLegalEventWithoutCounts h.layout) (seen last ++ more) (event ∷ [])
    (subst (IsLegalWithoutCounts h.layout) (ends ∙ ap (λ (l : List Event). l ++ event ∷ []) front) (legal-weaker h.layout (seen q) of.served.legal)) in
    record {
      own_more = added;
      more = more;
      grows = ends ∙ ap (λ (l : List Event). l ++ event ∷ []) front;
      others = others;
      there = others-keep_all h.layout (seen last) more c place b legal others found.0 found.1;
    }

take-added :
    (last q : Pass) (place : ℕ) (need : Need) (shelf : ℕ) → HasCalled last (take shelf) 1 (reply.Got place need) q
    → own last.errand.caller (seen q) ≡ own last.errand.caller (seen last) ++ Take last.errand.caller shelf place ∷ []
take-added last q place need shelf called =
    let told = called.ended.ended in
    let both : Some (ended.take_got shelf place) ≡ Some told.0 = told.1 in
    let same : ended.take_got shelf place ≡ told.0 = cc in
    let added : called.added ≡ Take last.errand.caller shelf place ∷ [] =
    subst (λ (e : Ended). EventsOf last.errand.caller e called.added) (sym same) told.2 in
    called.events ∙ ap (λ (l : List Event). own last.errand.caller (seen last) ++ l) added

pub take-at :
    (h : HeapFields) (last q : Pass) (place : ℕ) (need : Need) (shelf : ℕ) → IsOf h q
    → HasCalled last (take shelf) 1 (reply.Got place need) q
    → (b : PoolBlock) × IsHandedAt last.errand.caller (seen last) (seen q) (Take last.errand.caller shelf place) place b
    × (owned_in q place ≡ Some (handed_to (Caller last.errand.caller) b))
take-at h last q place need shelf of called =
    let c = last.errand.caller in
    let event = Take c shelf place in
    let changed = called-changes h last q (take shelf) 1 (reply.Got place need) of called in
    let (rest, grows) = called-grows last q (take shelf) 1 (reply.Got place need) called in
    let added = take-added last q place need shelf called in
    let (more, front, others) =
    one-more c (seen last) rest changed.before event refl (sym grows ∙ changed.last) (ap (own c) (sym grows) ∙ added) in (
      changed.block,
      record {
        own_more = added;
        more = more;
        grows = changed.last ∙ ap (λ (l : List Event). l ++ event ∷ []) front;
        others = others;
        there = ap (λ (l : List Event). block_at place (pool_of l)) (sym front) ∙ changed.lay;
      },
      changed.got.here,
    )
