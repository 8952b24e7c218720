-- What the answers mean, at every point.
use Rattle.std.proofs.Common.{ℕ, true, false, Option, Some, None, [], ◌∷◌, ◌++◌, ◌≡◌, ◌≢◌, ◌<◌, ◌+◌, refl, arith, ap, sym, subst, inl, inr, ◌∙◌, ◌⊎◌, ◌==◌, eqb-true}
use Rattle.std.proofs.lemmas.Bool.{eqb-false}
use Rattle.sound_state.proofs.Common.{Geometry, Need, need_of, LargePoint, Event, IsLegalWithoutCounts, block_at, pool_of, place-found, sound-of, Continuation, Point}
use Rattle.sound_state.proofs.Common.{Large, Reply, event_of, next_of, plan_point_of, State, Step, with_event, holds_of, IsOwned, recalls_of, IsSoundWithoutCounts, IsLive}
use Rattle.sound_state.proofs.Common.{SHELVES, usable_words, shelf_word, shelf-exact, first_wanted, WantFields, RunFields, Refuse, Write, Put, Take, TakeNone, Caller}
use Rattle.sound_state.proofs.Common.{IsEmptyShelf, IsLegalEventWithoutCounts, handed_to, IsPlaceFor, IsWellFormed, every-each, found-itself, sound-differ, IsRunFor}
use Rattle.sound_state.proofs.Common.{event_at, Small, block_place, HeadFields, Site, SeatFields, BlockPoint, Pile, Frames, Partials, StackPoint, DescPoint, own, Next}
use Rattle.sound_state.proofs.Common.{Block, Stack, Desc, ErrandFields, settle_of, found_at, Done, answer_of, begins_turn, is_spent, FitsContinuation, EndsRefused}
use Rattle.heap_geometry.specs.declared.need.Need.TheVariants as need
use Rattle.packed_words.specs.declared.shelf.ShelfWord.TheVariants as lies
use Rattle.word_table.specs.declared.name.WordName.TheVariants as name
use Rattle.word_table.specs.declared.onward.Onward.TheVariants.{Stays}
use Rattle.step_parts.specs.declared.large.exit.LargeExit.TheVariants as exit
use Rattle.step_parts.specs.declared.large.point.LargePoint.TheVariants as large
use Rattle.step_parts.specs.large.Points.{after_take, payload_name}
use Rattle.pool_model.specs.declared.event.Event.TheVariants.{Free}
use Rattle.pool_model.specs.declared.owner.Owner.TheVariants.{Shelf}
use Rattle.pool_model.proofs.HistoryLemmas.{EachAfter-last}
use Rattle.errand_steps.specs.declared.continuation.Continuation.TheVariants as continuation
use Rattle.errand_steps.specs.declared.reply.Reply.TheVariants as reply
use Rattle.errand_steps.specs.tables.LargeBlocks.{run_event}
use Rattle.errand_steps.specs.Points.{asked as asked_by}
use Rattle.sound_state.specs.Answers.{continuation_at, ShelfHolds, ShelfIsEmpty, IsFreed, IsMeant, IsAboutToTake}
use Rattle.sound_state.proofs.answers.AnswerCourses.{EndsBy, IsResumed, answer-ends}
use Rattle.sound_state.proofs.answers.AnswerPoints.{either-ends, either-left, take-ends, block-ends, stack-ends, desc-ends, partial-ends}
use Rattle.sound_state.proofs.EveryStep.{steps-sound}
use Rattle.sound_state.proofs.large.TouchShelves.{changes-from}
use Rattle.sound_state.proofs.quiet.QuietLinks.{written-at}
use Rattle.sound_state.proofs.shared.PointLemmas.{fits-now, hands-at, recalled-at, the-alloc}
use Rattle.sound_state.proofs.shared.ShelfFacts.{owned-or-none, shelf-fits}
use Rattle.sound_state.proofs.shared.StepLemmas.{found_from}
use Rattle.sound_state.proofs.shared.WordFacts.{payload-uncut}
use Rattle.step_parts.specs.declared.superblock.point.BlockPoint.TheVariants as block
use Rattle.step_parts.specs.declared.stack.point.StackPoint.TheVariants as stack
use Rattle.step_parts.specs.declared.hazard.point.DescPoint.TheVariants as desc
use Rattle.sound_state.proofs.shared.EventFacts.{refused-ends}

-- a caller that has no turn left begins none
no-turn : (e : ErrandFields) (n : Next) → is_spent e ≡ true → begins_turn e n ≡ false
no-turn e n spent = grind (arith, spent)

-- a caller that allocates a run asks for words that as many units serve
run-for-alloc : (units : ℕ) (o : Continuation) → IsRunFor units o → (words : ℕ) × (o ≡ continuation.Alloc words) × (need_of words ≡ need.Large units)
run-for-alloc units o goes = grind (arith, goes)

-- the step of a caller from a sound state, behind which its answer is read
module _
    (g : Geometry) (s : State) (caller : ℕ) (after : State) (sound : IsSoundWithoutCounts g s) (has : caller < g.callers)
    (step : Step s caller after) where
  -- a step tells what its point says, and leaves the events where that is nothing
  event-told :
      (p : Point) (e : Option Event) → (s.errand caller).point ≡ p → event_of caller p (found_from s p) ≡ e → event_at s caller ≡ e
  event-told p e stands told = subst (λ q. event_of caller q (found_from s q) ≡ e) (sym stands) told

  past-stays : (p : Point) → (s.errand caller).point ≡ p → event_of caller p (found_from s p) ≡ None → after.history ≡ s.history
  past-stays p stands none = step.history ∙ ap (with_event s.history) (event-told p None stands none)

  owned-after : after.history ≡ s.history → (place : ℕ) (n : Need) → IsOwned s caller place n → IsOwned after caller place n
  owned-after same place n mine = grind (arith, same, mine)

  -- a shelf's word says what lies there
  shelf-says : (k : ℕ) → k < SHELVES → ShelfHolds s k (s.word (name.Shelf k)) ⊎ ShelfIsEmpty s k (s.word (name.Shelf k))
  shelf-says k in_heap =
      let tied = sound.parts.1.tied in
      let pool = sound-of g s.history sound.legal in
      elim (owned-or-none (pool_of s.history) (pool_of s.history) k (found-itself (pool_of s.history) (sound-differ g (pool_of s.history) pool))) [
        | inl one ↦ inl (one.0, one.1, one.2, tied.shelved k one.0.place one.0 in_heap one.1 one.2)
        | inr none ↦
            let empty : IsEmptyShelf (pool_of s.history) k = every-each (λ b. b.owner ≢ Shelf k) (pool_of s.history) none in
            inr (empty, tied.bare_shelf k in_heap empty)
      ]

  holds-stays : after.history ≡ s.history → (k word : ℕ) → ShelfHolds s k word → ShelfHolds after k word
  holds-stays same k word h = (h.0, ap (λ past. block_at h.0.place (pool_of past)) same ∙ h.1, h.2, h.3)

  -- the answer of a large block that was freed means so
  freed-meant : IsFreed s caller
  unfolding plan_point_of event_of
  freed-meant place run at = event-told (Large (large.FreeRun place run) at.0) (Some (Free caller place)) at.1 refl

  -- the answer that a run was given means so
  run-meant :
      (place : ℕ) (run : RunFields) (o : Continuation) → (s.errand caller).point ≡ Large (large.StoreRunPrefix place run) o
      → IsMeant g s caller (reply.Given place (need.Large run.units)) after
  unfolding plan_point_of event_of holds_of
  run-meant place run o stands =
      let p = Large (large.StoreRunPrefix place run) o in
      let asked = run-for-alloc run.units o (fits-now g s caller p sound has stands).goes in
      let mine : IsOwned s caller place (need.Large run.units) =
      hands-at g s sound.parts.0 caller p sound.parts.1 has stands 0 (record { place = place; need = need.Large run.units }) (omega arith) in
      let same = past-stays p stands refl in
      (asked.0, ap continuation_at stands ∙ asked.1, asked.2, owned-after same place (need.Large run.units) mine)

  -- the answer that no run is free means so
  no_run-meant :
      (w : WantFields) (bits : ℕ) (o : Continuation) → (s.errand caller).point ≡ Large (large.TakeRun w bits) o → (s.word name.Units == bits) ≡ true
      → first_wanted w bits ≡ None → IsMeant g s caller reply.Refused after
  unfolding plan_point_of event_of
  no_run-meant w bits o stands won none =
      let p = Large (large.TakeRun w bits) o in
      let asked = run-for-alloc w.units o (fits-now g s caller p sound has stands).goes in
      let refused : event_at s caller ≡ Some (Refuse caller asked.0) =
      event-told p (Some (Refuse caller asked.0)) stands
      (rw won
      (subst (λ f. Some (run_event caller (asked_by o) w f) ≡ Some (Refuse caller asked.0)) (sym none) (ap (λ q. Some (Refuse caller (asked_by q))) asked.1))) in
      inr (asked.0, w.units, ap continuation_at stands ∙ asked.1, asked.2, refused)

  -- the answer of a word that is read means so
  read-meant :
      (place i : ℕ) (o : Continuation) → (s.errand caller).point ≡ Large (large.LoadWord place i) o
      → IsMeant g s caller (reply.Word (found_from s (Large (large.LoadWord place i) o)).value) after
  unfolding plan_point_of event_of recalls_of
  read-meant place i o stands =
      let p = Large (large.LoadWord place i) o in
      let fits = fits-now g s caller p sound has stands in
      let (mine, none) = recalled-at g s sound.parts.0 caller p sound.parts.1 has stands in
      let same = past-stays p stands refl in
      let owned = owned-after same place mine.0 mine.1 in
      let b = owned.block.0 in
      let uncut : payload_name place i ≡ name.Arena (place + 1 + i) = ap name.Arena (payload-uncut g place i sound.checked fits.point) in
      let here : after.word (name.Arena (place + 1 + i)) ≡ s.word (payload_name place i) =
      ap after.word (sym uncut) ∙ (written-at s caller after p stands step).here in
      let live : IsLive s place b = ap (λ past. block_at place (pool_of past)) (sym same) ∙ owned.block.1 in (
        place,
        i,
        b,
        (o, stands),
        owned.block.1,
        owned.block.2,
        subst (λ n. i < usable_words n) (sym owned.block.3) mine.2,
        sym here,
        λ w set. ap s.word uncut ∙ sound.parts.1.tied.contents place i w b live set,
      )

  -- the answer of a put that finds the shelf full means so
  full-meant :
      (k place : ℕ) (n : Need) (o : Continuation) → (s.errand caller).point ≡ Large (large.PutBlock k place n) o
      → (s.word (name.Shelf k) == shelf_word lies.Nothing) ≡ false → IsMeant g s caller (reply.Full (s.word (name.Shelf k))) after
  unfolding plan_point_of event_of recalls_of
  full-meant k place n o stands lost =
      let p = Large (large.PutBlock k place n) o in
      let fits = fits-now g s caller p sound has stands in
      let same = past-stays p stands (rw lost refl) in
      let (mine, none) = recalled-at g s sound.parts.0 caller p sound.parts.1 has stands in
      elim (shelf-says k fits.point.shelf) [
        | inl holds ↦ (k, place, n, (o, stands), owned-after same place n mine, holds-stays same k (s.word (name.Shelf k)) holds)
        | inr empty ↦ absurd (eqb-false (s.word (name.Shelf k)) (shelf_word lies.Nothing) lost empty.1)
      ]

  -- the answer of a block that is taken from a shelf means so
  got-meant :
      (k place : ℕ) (n : Need) (o : Continuation) → (s.errand caller).point ≡ Large (large.TakeBlock k place n) o
      → (s.word (name.Shelf k) == shelf_word (lies.Block place n)) ≡ true → IsMeant g s caller (reply.Got place n) after
  unfolding plan_point_of event_of
  got-meant k place n o stands won =
      let p = Large (large.TakeBlock k place n) o in
      let old = sound.parts.1 in
      let fit = fits-now g s caller p sound has stands in
      let there : s.word (name.Shelf k) ≡ shelf_word (lies.Block place n) = eqb-true (s.word (name.Shelf k)) (shelf_word (lies.Block place n)) won in
      let taken : event_at s caller ≡ Some (Take caller k place) = event-told p (Some (Take caller k place)) stands (rw won refl) in
      let grown : after.history ≡ s.history ++ Take caller k place ∷ [] = step.history ∙ ap (with_event s.history) taken in
      let legal =
      EachAfter-last (IsLegalEventWithoutCounts g) s.history (Take caller k place)
      (subst (IsLegalWithoutCounts g) grown (steps-sound g s caller after sound has step).legal) in
      let b = legal.1.0.0 in
      let live = legal.1.0.1 in
      let owner = legal.1.0.2 in
      let formed = every-each (IsWellFormed g) (pool_of s.history) (sound-of g s.history sound.legal).each place b live in
      let at_place : b.place ≡ place = place-found place (pool_of s.history) b live in
      let formed_here = subst (λ q. IsPlaceFor g b.need q) at_place formed.place in
      let says : shelf_word (lies.Block place b.need) ≡ shelf_word (lies.Block place n) =
      sym (old.tied.shelved k place b fit.point.shelf live owner) ∙ there in
      let same : lies.Block place b.need ≡ lies.Block place n =
      shelf-exact.one_word (lies.Block place b.need) (lies.Block place n) (shelf-fits g b.need place sound.checked formed.need formed_here)
      fit.point.block says in
      let c = changes-from s after (Take caller k place) place (handed_to (Caller caller)) b grown refl (λ x. refl) (λ x. refl) live in
      (k, ((o, stands), taken), record { block = (handed_to (Caller caller) b, c.now, refl, (cc)) })

  -- the answer of a take that finds another word on the shelf than it saw means so
  missed-meant :
      (k saw : ℕ) (p : LargePoint) (o : Continuation) → k < SHELVES → (s.errand caller).point ≡ Large p o → IsAboutToTake s caller k saw
      → event_of caller (Large p o) (found_from s (Large p o)) ≡ None → (s.word (name.Shelf k) == saw) ≡ false
      → IsMeant g s caller (reply.Missed saw (s.word (name.Shelf k))) after
  missed-meant k saw p o in_heap stands takes none lost =
      grind (arith, in_heap, stands, takes, none, lost, past-stays, eqb-false, shelf-says, holds-stays)

  -- what an answer means is so of the one that is it; and at each point of a large block the answer means so
  answered : (q r : Reply) → r ≡ q → IsMeant g s caller q after → IsMeant g s caller r after
  answered q r is meant = subst (λ x. IsMeant g s caller x after) (sym is) meant

  large-meant :
      (p : LargePoint) (o : Continuation) (r : Reply) → (s.errand caller).point ≡ Large p o
      → EndsBy (s.errand caller) (next_of (Large p o) (found_from s (Large p o))) r → IsMeant g s caller r after
  unfolding plan_point_of next_of event_of
  large-meant (large.TakeRun w bits) o r stands ends =
      let e = s.errand caller in
      elim (either-ends e (s.word name.Units == bits) (after_take w (first_wanted w bits)) (Stays (large.LoadUnits w)) o r ends) [
        | inl won ↦
            let none = take-ends e w o (first_wanted w bits) r won.1 in
            answered reply.Refused r none.1 (no_run-meant w bits o stands won.0 none.0)
        | inr lost ↦ absurd lost.1
      ]
  large-meant (large.StoreRunPrefix place run) o r stands ends =
      answered (reply.Given place (need.Large run.units)) r ends (run-meant place run o stands)
  large-meant (large.FreeRun place run) o r stands ends = answered reply.Freed r ends freed-meant
  large-meant (large.StoreWord place i v) o r stands ends =
      answered reply.Wrote r ends
      (place, i, v, ((o, stands), event-told (Large (large.StoreWord place i v) o) (Some (Write caller place i v)) stands refl))
  large-meant (large.LoadWord place i) o r stands ends =
      answered (reply.Word (s.word (payload_name place i))) r ends (read-meant place i o stands)
  large-meant (large.PutBlock k place n) o r stands ends =
      let w = s.word (name.Shelf k) in
      elim (either-left (s.errand caller) (w == shelf_word lies.Nothing) exit.PutDone (exit.ShelfFull w) o r ends) [
        | inl won ↦
            answered reply.Put r won.1
            (place, k, n, ((o, stands), event-told (Large (large.PutBlock k place n) o) (Some (Put caller place k)) stands (rw (won.0) refl)))
        | inr lost ↦ answered (reply.Full w) r lost.1 (full-meant k place n o stands lost.0)
      ]
  large-meant (large.TakeBlock k place n) o r stands ends =
      let p = large.TakeBlock k place n in
      let w = s.word (name.Shelf k) in
      let saw = shelf_word (lies.Block place n) in
      let fits = fits-now g s caller (Large p o) sound has stands in
      elim (either-left (s.errand caller) (w == saw) (exit.Got place n) (exit.Missed saw w) o r ends) [
        | inl won ↦ answered (reply.Got place n) r won.1 (got-meant k place n o stands won.0)
        | inr lost ↦
            answered (reply.Missed saw w) r lost.1
            (missed-meant k saw p o fits.point.shelf stands (inl (place, n, (o, stands), refl)) (rw (lost.0) refl) lost.0)
      ]
  large-meant (large.ConfirmNothing k) o r stands ends =
      let p = large.ConfirmNothing k in
      let w = s.word (name.Shelf k) in
      let saw = shelf_word lies.Nothing in
      let fits = fits-now g s caller (Large p o) sound has stands in
      elim (either-left (s.errand caller) (w == saw) exit.NothingThere (exit.Missed saw w) o r ends) [
        | inl won ↦ answered reply.Empty r won.1 (k, ((o, stands), event-told (Large p o) (Some (TakeNone caller k)) stands (rw (won.0) refl)))
        | inr lost ↦ answered (reply.Missed saw w) r lost.1 (missed-meant k saw p o fits.point stands (inr ((o, stands), refl)) (rw (lost.0) refl) lost.0)
      ]
  large-meant p o r stands ends = absurd (grind (arith, ends))

  freed-answers : (r : Reply) → r ≡ reply.Freed → IsMeant g s caller r after
  freed-answers r is = answered reply.Freed r is freed-meant

  -- the answer that no turn is left means so
  spent-meant : is_spent (s.errand caller) ≡ true → IsMeant g s caller reply.Spent after
  unfolding settle_of
  spent-meant spent = grind (arith, spent, no-turn, eqb-true)

  -- the answer of a call that is resumed and ends means so, where a refusal was told
  resumed-meant :
      (o : Continuation) (r : Reply) → IsResumed (s.errand caller) o r → (o ≡ continuation.Refuse → IsMeant g s caller reply.Refused after)
      → IsMeant g s caller r after
  resumed-meant o r is refuses = grind (arith, is, refuses, answered, spent-meant, freed-answers)

  -- the answer that a small block was given means so
  given-meant :
      (at : Site) (i : ℕ) (o : Continuation) → (s.errand caller).point ≡ Block (block.StorePrefix at i) o
      → IsMeant g s caller (reply.Given (block_place at.frame at.seat.class i) (Small at.seat.class)) after
  unfolding plan_point_of event_of holds_of
  given-meant site i o stands =
      let p = Block (block.StorePrefix site i) o in
      let fits = fits-now g s caller p sound has stands in
      let alloc = the-alloc o fits.goes in
      let place = block_place site.frame site.seat.class i in
      let mine : IsOwned s caller place (Small site.seat.class) =
      hands-at g s sound.parts.0 caller p sound.parts.1 has stands 0 (record { place = place; need = Small site.seat.class }) (omega arith) in
      let same = past-stays p stands refl in (
        asked_by o,
        ap continuation_at stands ∙ alloc,
        subst (FitsContinuation g caller site.seat) alloc fits.continuation,
        owned-after same place (Small site.seat.class) mine,
      )

  block-meant :
      (p : BlockPoint) (o : Continuation) (r : Reply) → (s.errand caller).point ≡ Block p o
      → EndsBy (s.errand caller) (next_of (Block p o) (found_from s (Block p o))) r → IsMeant g s caller r after
  unfolding next_of
  block-meant p o r stands ends = grind (arith, stands, ends, answered, given-meant, freed-answers, block-ends)

  -- the answer that a small need was refused means so
  confirm-meant :
      (seat : SeatFields) (pile : Pile) (h : HeadFields) (o : Continuation) (r : Reply) → (s.errand caller).point ≡ Stack (stack.ConfirmEmpty seat pile h) o
      → EndsBy (s.errand caller) (next_of (Stack (stack.ConfirmEmpty seat pile h) o) (found_from s (Stack (stack.ConfirmEmpty seat pile h) o))) r
      → IsMeant g s caller r after
  unfolding plan_point_of next_of event_of recalls_of
  confirm-meant seat Frames h (continuation.TakeFrame words d) r stands ends =
      let p = Stack (stack.ConfirmEmpty seat Frames h) (continuation.TakeFrame words d) in
      let fits = fits-now g s caller p sound has stands in
      let won = stack-ends (s.errand caller) (stack.ConfirmEmpty seat Frames h) (continuation.TakeFrame words d) (found_from s p) r ends in
      let told = event-told p (Some (Refuse caller words)) stands (rw (won.0) refl) in
      let grown : after.history ≡ s.history ++ Refuse caller words ∷ [] = step.history ∙ ap (with_event s.history) told in
      let (ends_looked, rest) = recalled-at g s sound.parts.0 caller p sound.parts.1 has stands in
      let ended = refused-ends caller s.history words seat.class fits.continuation.0 ends_looked in
      answered reply.Refused r won.1 (inl (seat.class, subst (λ past. EndsRefused (own caller past) caller seat.class) (sym grown) ended))
  confirm-meant seat Partials h (continuation.Alloc words) r stands ends =
      let p = stack.ConfirmEmpty seat Partials h in
      absurd (stack-ends (s.errand caller) p (continuation.Alloc words) (found_from s (Stack p (continuation.Alloc words))) r ends)
  confirm-meant seat pile h o r stands ends =
      let bad : ⊥ = cc ((fits-now g s caller (Stack (stack.ConfirmEmpty seat pile h) o) sound has stands).goes) in absurd bad

  stack-meant :
      (p : StackPoint) (o : Continuation) (r : Reply) → (s.errand caller).point ≡ Stack p o
      → EndsBy (s.errand caller) (next_of (Stack p o) (found_from s (Stack p o))) r → IsMeant g s caller r after
  unfolding plan_point_of next_of
  stack-meant (stack.ConfirmEmpty seat pile h) o r stands ends = confirm-meant seat pile h o r stands ends
  stack-meant (stack.PushTop seat pile i h) (continuation.Discard words d) r stands ends =
      let p = stack.PushTop seat pile i h in
      let spent = stack-ends (s.errand caller) p (continuation.Discard words d) (found_from s (Stack p (continuation.Discard words d))) r ends in
      answered reply.Spent r spent.1 (spent-meant spent.0)
  stack-meant p o r stands ends =
      freed-answers r (stack-ends (s.errand caller) p o (found_from s (Stack p o)) r ends)

  -- what the answer means that a call gives behind the push of a retired descriptor
  push-meant :
      (seat : SeatFields) (d top : ℕ) (o : Continuation) (r : Reply) → (s.errand caller).point ≡ Desc (desc.PushDesc seat d top) o
      → (s.word name.DescHead == top) ≡ true → IsResumed (s.errand caller) o r → IsMeant g s caller r after
  unfolding plan_point_of event_of recalls_of
  push-meant seat d top o r stands won is =
      let p = Desc (desc.PushDesc seat d top) o in
      let same = past-stays p stands (rw won refl) in
      resumed-meant o r is
      (λ refuses.
      let q = Desc (desc.PushDesc seat d top) continuation.Refuse in
      let (said, (so, none)) =
      recalled-at g s sound.parts.0 caller q sound.parts.1 has (stands ∙ ap (λ z. Desc (desc.PushDesc seat d top) z) refuses) in
      inl (seat.class, subst (λ past. EndsRefused (own caller past) caller seat.class) (sym same) so))

  desc-meant :
      (p : DescPoint) (o : Continuation) (r : Reply) → (s.errand caller).point ≡ Desc p o
      → EndsBy (s.errand caller) (next_of (Desc p o) (found_from s (Desc p o))) r → IsMeant g s caller r after
  unfolding plan_point_of next_of
  desc-meant p o r stands ends = grind (arith, stands, ends, desc-ends, push-meant, freed-answers)

  point-meant :
      (p : Point) (r : Reply) → (s.errand caller).point ≡ p → EndsBy (s.errand caller) (next_of p (found_from s p)) r
      → IsMeant g s caller r after
  unfolding next_of
  point-meant p r stands ends = grind (arith, stands, ends, block-meant, stack-meant, desc-meant, fits-now, freed-answers, partial-ends, large-meant)

pub answers-meant :
    (g : Geometry) (s : State) (caller : ℕ) (r : Reply) (after : State) → IsSoundWithoutCounts g s → caller < g.callers → Step s caller after
    → answer_of (s.errand caller) (found_at s caller) ≡ Done r → IsMeant g s caller r after
answers-meant g s caller r after sound has step is =
    point-meant g s caller after sound has step (s.errand caller).point r refl (answer-ends (s.errand caller) (found_at s caller) r is)
