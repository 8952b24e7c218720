-- Steps at a caller's own hazard word, and scans of all of them, that keep the state sound.
use Rattle.std.proofs.Common.{ℕ, Option, Some, None, ◌≡◌, ◌<◌, ◌≤◌, ◌+◌, List, [], ◌∷◌, length, refl, arith, ap, sym, subst, inl, inr, ◌∙◌, length-set, get_or-set_other}
use Rattle.std.proofs.Common.{Contains, ◌==◌, slice_index, slice_set, nat_lt, true, false, eq-eqb, lt-ltb, le-ltb, ltb-true, ltb-false}
use Rattle.std.proofs.lemmas.Bool.{cond-true, cases_eq, cases_Bool}
use Rattle.std.proofs.lemmas.Option.{none-some, same_Some}
use Rattle.std.proofs.lemmas.List.{get_or_default}
use Rattle.std.proofs.lemmas.Grind.{get_or-set_at}
use Rattle.sound_state.proofs.Common.{Geometry, Site, descriptor_count, SeatFields, occurs, AnchorFields, Stacked, next_in, Frames, Partials, Continuation, At, End, Point}
use Rattle.sound_state.proofs.Common.{Block, Stack, Desc, event_of, next_of, plan_point_of, State, Step, holds_of, passed_by, held_by, Lists, recalls_of}
use Rattle.sound_state.proofs.Common.{IsSoundWithoutCounts, IsSoundWith, callers_sum, errand_away, named_in, first_unheld, Guards}
use Rattle.step_parts.proofs.hazard_lemmas.PickLemmas.{some-listed, some-free, named-here}
use Rattle.errand_steps.specs.declared.reply.Reply.TheVariants as reply
use Rattle.word_table.specs.declared.name.WordName.TheVariants as name
use Rattle.step_parts.specs.declared.superblock.point.BlockPoint.TheVariants as block
use Rattle.step_parts.specs.declared.stack.point.StackPoint.TheVariants as stack
use Rattle.step_parts.specs.declared.hazard.point.DescPoint.TheVariants as desc
use Rattle.errand_steps.specs.declared.continuation.Continuation.TheVariants as continuation
use Rattle.sound_state.proofs.hazards.HazardLemmas.{GoesHazard, picked_point, store-own, read-hazard, plain-guards, leads-at, picks-at}
use Rattle.sound_state.proofs.quiet.QuietDescs.{reload_desc_head_other-sound}
use Rattle.sound_state.proofs.shared.GuardEffects.{available-unretired, bound-unretired}
use Rattle.sound_state.proofs.shared.HasLemmas.{bound-away}
use Rattle.sound_state.proofs.shared.PointLemmas.{fits-at, fits-now, so-at, hazard-at, unread-at, noted-unread, retired-exists, recalled-at, goes-on}
use Rattle.sound_state.proofs.shared.ShownLemmas.{GuardsAnew}
use Rattle.sound_state.proofs.shared.KeepsSound.{KeepsSound, KeepsSoundWhere, either-sound}

-- the store of the name of the descriptor on top of the available ones keeps the state sound
pub store_hazard-sound : (seat : SeatFields) (d : ℕ) (o : Continuation) → KeepsSound (Desc (desc.StoreHazard seat d) o)
unfolding plan_point_of next_of event_of holds_of recalls_of
store_hazard-sound seat d o =
    store-own _ (At (Desc (desc.ReloadDescHead seat d) o)) seat.caller (d + 1) (grind (arith))
    (λ g caller fits. fits.point.seat.number) (λ g s l caller old has stands e is guard. absurd guard)

-- the load of the head again that still finds the descriptor on top keeps the state sound: it is available
top-occurs : (next : ℕ → ℕ) (d : ℕ) (xs : List ℕ) → Stacked next (d + 1) xs → 1 ≤ occurs d xs
top-occurs next d [] stack = omega (arith, stack)
top-occurs next d (x ∷ xs) stack =
    let here : x ≡ d = omega (arith, stack.0) in
    omega (arith, cond-true {A = ℕ} (x == d) 1 0 (eq-eqb x d here))

pub reload_desc_head_same-sound :
    (seat : SeatFields) (d : ℕ) (o : Continuation) → KeepsSoundWhere (Desc (desc.ReloadDescHead seat d) o) (λ s. s.word name.DescHead ≡ d + 1)
unfolding plan_point_of next_of event_of holds_of recalls_of
reload_desc_head_same-sound seat d o g s caller s' sound has stands same step =
    let yes_same = eq-eqb (s.word name.DescHead) (d + 1) same in
    let p = Desc (desc.ReloadDescHead seat d) o in
    let q = Desc (desc.LoadNextDesc seat d) o in
    read-hazard g s caller s' p q sound has stands (leads-at s caller p q stands (rw yes_same refl)) refl
    (λ l old.
    let named : s.word (name.Hazard caller) ≡ d + 1 = hazard-at g s l caller p old has stands in
    let fits = (fits-at g s l caller p old has stands).point in
    let on : 1 ≤ occurs d l.available =
    top-occurs (next_in s.word Partials) d l.available (subst (λ w. Stacked (next_in s.word Partials) w l.available) same old.listed.available) in
    let free = available-unretired g s l d old fits.desc on in
    record {
      event = refl;
      cleared = refl;
      holds = grind (arith);
      so = goes-on g s l caller p (recalls_of q) old has stands (λ so. grind (arith, so));
      guards =
          plain-guards g s caller q (s.errand caller).retired (s.word (name.Hazard caller)) named
          (λ e is guard.
          let one : d ≡ e = omega (arith, named, is) in
          inr (subst (GuardsAnew g s q) one (record { unretired = free; pushed = λ bad. cc; passed = refl }))) refl refl refl;
    })
    step

-- the load of the head of the available descriptors again keeps the state sound
pub reload_desc_head-sound : (seat : SeatFields) (d : ℕ) (o : Continuation) → KeepsSound (Desc (desc.ReloadDescHead seat d) o)
reload_desc_head-sound seat d o =
    either-sound _ name.DescHead (d + 1) (reload_desc_head_same-sound seat d o) (reload_desc_head_other-sound seat d o)

-- the clear of the hazard word after the pop of a descriptor keeps the state sound
clear_after_pop-alloc : (seat : SeatFields) (d words : ℕ) → KeepsSound (Desc (desc.ClearAfterPop seat d) (continuation.Alloc words))
unfolding plan_point_of next_of event_of holds_of recalls_of
clear_after_pop-alloc seat d words =
    store-own _ (At (Stack (stack.LoadTop seat Frames) (continuation.TakeFrame words d))) seat.caller 0 (grind (arith))
    (λ g caller fits. fits.point.seat.number) (λ g s l caller old has stands e is guard. absurd guard)

pub clear_after_pop-sound : (seat : SeatFields) (d : ℕ) (o : Continuation) → KeepsSound (Desc (desc.ClearAfterPop seat d) o)
clear_after_pop-sound seat d (continuation.Alloc words) = clear_after_pop-alloc seat d words
clear_after_pop-sound seat d o =
    λ g s caller s' sound has stands step. let bad : ⊥ = cc ((fits-now g s caller (Desc (desc.ClearAfterPop seat d) o) sound has stands).goes) in absurd bad

-- the clear of a free's hazard word that looks through the list, or ends the call, keeps the state sound
pub clear_hazard_looks-sound : (seat : SeatFields) → KeepsSound (Desc (desc.ClearHazard seat) continuation.Clear)
unfolding plan_point_of next_of event_of holds_of recalls_of
clear_hazard_looks-sound seat =
    store-own _ (At (Stack (stack.LoadTop seat Partials) continuation.Clear)) seat.caller 0 (grind (arith))
    (λ g caller fits. fits.point.number) (λ g s l caller old has stands e is guard. absurd guard)

pub clear_hazard_ends-sound : (seat : SeatFields) → KeepsSound (Desc (desc.ClearHazard seat) continuation.EndFree)
unfolding plan_point_of next_of event_of holds_of recalls_of
clear_hazard_ends-sound seat =
    store-own _ (End reply.Freed) seat.caller 0 (grind (arith))
    (λ g caller fits. fits.point.number) (λ g s l caller old has stands e is guard. absurd guard)

-- the store of the name of the descriptor whose superblock a free's push makes empty keeps the state sound
pub store_guard-sound : (site : Site) (i : ℕ) (a : AnchorFields) (o : Continuation) → KeepsSound (Block (block.StoreGuard site i a) o)
unfolding plan_point_of next_of event_of holds_of recalls_of
store_guard-sound site i a o =
    let d = site.desc in
    let q = Block (block.LoadOwner site i a) o in
    store-own _ (At q) site.seat.caller (d + 1) (grind (arith))
    (λ g caller fits. fits.point.block.site.seat.number)
    (λ g s l caller old has stands e is guard.
    let (bound, none_else) = recalled-at g s l caller (Block (block.StoreGuard site i a) o) old has stands in
    let none : callers_sum g (errand_away d) s.errand ≡ 0 = omega (arith, bound-away g s l d bound.0) in
    let one : d ≡ e = omega (arith, is) in
    subst (GuardsAnew g s q) one (record { unretired = bound-unretired g s l d old none; pushed = λ bad. cc; passed = refl }))

-- a scan at a point has noted what guards its retired descriptors where it has passed, and 0 where it hasn't
passed-at :
    (g : Geometry) (s : State) (l : Lists) (caller : ℕ) (p : Point) → IsSoundWith g s l → caller < g.callers → (s.errand caller).point ≡ p
    → (k d : ℕ) → k < g.callers → Guards s k d → Contains (s.errand caller).retired d → k < passed_by p → slice_index (held_by p) k ≡ d + 1
passed-at g s l caller p old has stands =
    subst (λ q. (k d : ℕ) → k < g.callers → Guards s k d → Contains (s.errand caller).retired d → k < passed_by q → slice_index (held_by q) k ≡ d + 1) stands
    (λ k d has_k guards listed below. old.guarded.passed k caller d has_k has guards listed below)

-- the step of a scan that reads the hazard word of the caller i
module _
    (g : Geometry) (s : State) (caller : ℕ) (s' : State) (seat : SeatFields) (held : List ℕ) (i : ℕ) (o : Continuation) (sound : IsSoundWithoutCounts g s)
    (has : caller < g.callers) (stands : (s.errand caller).point ≡ Desc (desc.ReadHazard seat held i) o) (step : Step s caller s') where
  -- the words that are noted then, for all of which there is room
  abbrev noted : List ℕ
  noted = slice_set held i (named_in seat.geometry (s.word (name.Hazard i)))

  room : (k : ℕ) → k < g.callers → k < length held
  room k has_k = omega (arith, sound.checked.callers.1, (fits-now g s caller (Desc (desc.ReadHazard seat held i) o) sound has stands).point.0.words, has_k)

  -- the scan has passed one more caller with the word that it reads
  noted-passed :
      (l : Lists) → IsSoundWith g s l → (k d : ℕ) → k < g.callers → Guards s k d → Contains (s.errand caller).retired d → k < i + 1
      → slice_index noted k ≡ d + 1
  noted-passed l old k d has_k guards listed below =
      let p = Desc (desc.ReadHazard seat held i) o in
      let new = named_in seat.geometry (s.word (name.Hazard i)) in
      let fit = (fits-at g s l caller p old has stands).point in
      elim (cases_eq k i) [
        | inl same ↦
            let exists : d < descriptor_count seat.geometry =
            subst (λ (h : Geometry). d < descriptor_count h) (sym fit.0.seat.geometry) (retired-exists g s l caller d old has listed) in
            get_or-set_at held i k new 0 same (room i fit.1)
            ∙ named-here seat.geometry (s.word (name.Hazard i)) d exists (ap (λ j. s.word (name.Hazard j)) (sym same) ∙ guards.word)
        | inr differ ↦
            get_or-set_other held i k new 0 differ ∙ passed-at g s l caller p old has stands k d has_k guards listed (omega (arith, below, differ))
      ]

  -- a scan that goes on to the next hazard word keeps the state sound
  read-next : i + 1 < g.callers → IsSoundWithoutCounts g s'
  unfolding plan_point_of next_of event_of holds_of recalls_of
  read-next more =
      let p = Desc (desc.ReadHazard seat held i) o in
      let q = Desc (desc.ReadHazard seat noted (i + 1)) o in
      let fits = (fits-now g s caller p sound has stands).point in
      let goes_on : nat_lt (i + 1) seat.geometry.callers ≡ true =
      subst (λ h. nat_lt (i + 1) h.callers ≡ true) (sym fits.0.seat.geometry) (lt-ltb (i + 1) g.callers more) in
      read-hazard g s caller s' p q sound has stands (leads-at s caller p q stands (rw goes_on refl)) refl
      (λ l old. record {
        event = refl;
        cleared = refl;
        holds = grind (arith);
        so = goes-on g s l caller p (recalls_of q) old has stands (λ so. grind (arith, so));
        guards = record {
          hazard = hazard-at g s l caller p old has stands;
          guard = λ d is guard. absurd guard;
          pushed = λ k d has_k guards is. absurd (none-some d is);
          passed = noted-passed l old;
          unread = noted-unread g s l caller seat held i o old has stands (named_in seat.geometry (s.word (name.Hazard i)));
        };
      })
      step

  -- where a scan ends it leaves the hazard word, and pushes what nobody guards
  picked-goes :
      (l : Lists) → IsSoundWith g s l → (r : Option ℕ) → g.callers ≤ i + 1 → first_unheld noted (s.errand caller).retired ≡ r
      → GoesHazard g s l caller (Desc (desc.ReadHazard seat held i) o) (picked_point (Desc (desc.ReadHazard seat held i) o) seat o r) (s.word (name.Hazard caller))
  unfolding plan_point_of next_of event_of holds_of recalls_of
  picked-goes l old None last pick =
      let p = Desc (desc.ReadHazard seat held i) o in
      record {
        event = refl;
        cleared = refl;
        holds = grind (arith);
        so = so-at g s l caller p old has stands;
        guards = record {
          hazard = hazard-at g s l caller p old has stands;
          guard = λ d is guard. absurd guard;
          pushed = λ k d has_k guards is. absurd (none-some d is);
          passed = passed-at g s l caller p old has stands;
          unread = unread-at g s l caller p old has stands;
        };
      }
  picked-goes l old (Some d) last pick =
      let p = Desc (desc.ReadHazard seat held i) o in
      let listed : Contains (s.errand caller).retired d = some-listed noted (s.errand caller).retired d pick in
      record {
        event = refl;
        cleared = refl;
        holds = grind (arith);
        so = so-at g s l caller p old has stands;
        guards = record {
          hazard = hazard-at g s l caller p old has stands;
          guard = λ e is guard. absurd guard;
          pushed = λ k e has_k guards is.
              let mine : Guards s k d = subst (Guards s k) (sym (same_Some d e is)) guards in
              let named : slice_index noted k ≡ d + 1 = noted-passed l old k d has_k mine listed (omega (arith, has_k, last)) in
              let long : k < length noted = omega (arith, length-set held i (named_in seat.geometry (s.word (name.Hazard i))), room k has_k) in
              some-free noted (s.errand caller).retired d pick (k, long, get_or_default noted k (d + 1) 0 long ∙ named);
          passed = λ k e has_k guards in_list below. let bad : ⊥ = omega (arith, below) in absurd bad;
          unread = λ k from below. let bad : ⊥ = omega (arith, below) in absurd bad;
        };
      }

  -- a scan that has passed all hazard words picks what nobody guards
  read-picks : (r : Option ℕ) → g.callers ≤ i + 1 → first_unheld noted (s.errand caller).retired ≡ r → IsSoundWithoutCounts g s'
  unfolding plan_point_of next_of event_of holds_of recalls_of
  read-picks r last pick =
      let p = Desc (desc.ReadHazard seat held i) o in
      let fits = (fits-now g s caller p sound has stands).point in
      let ends : nat_lt (i + 1) seat.geometry.callers ≡ false =
      subst (λ h. nat_lt (i + 1) h.callers ≡ false) (sym fits.0.seat.geometry) (le-ltb (i + 1) g.callers last) in
      read-hazard g s caller s' p (picked_point p seat o r) sound has stands (picks-at s caller p seat noted o r stands (rw ends refl) pick) refl
      (λ l old. picked-goes l old r last pick) step

-- the read of a hazard word keeps the state sound
pub read_hazard-sound : (seat : SeatFields) (held : List ℕ) (i : ℕ) (o : Continuation) → KeepsSound (Desc (desc.ReadHazard seat held i) o)
read_hazard-sound seat held i o g s caller s' sound has stands step =
    elim (cases_Bool (nat_lt (i + 1) g.callers)) [
      | inl more ↦ read-next g s caller s' seat held i o sound has stands step (ltb-true (i + 1) g.callers more)
      | inr none ↦ read-picks g s caller s' seat held i o sound has stands step _ (ltb-false (i + 1) g.callers none) refl
    ]
