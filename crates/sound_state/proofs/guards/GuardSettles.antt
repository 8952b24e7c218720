-- What a caller has noted and pushes after its step, whatever its retired list says.
use Rattle.std.proofs.Common.{ℕ, Option, Some, None, ◌≡◌, ◌<◌, ◌+◌, List, refl, arith, sym, ◌∙◌, length, ◌≢◌, Contains, slice_index}
use Rattle.std.proofs.lemmas.List.{get_or_default}
use Rattle.std.proofs.lemmas.Option.{none-some}
use Rattle.sound_state.proofs.Common.{Found, SeatFields, Continuation, Next, At, End, Retire, Pick, Unlist, Point, ErrandFields, settle_of, course_of, pushed_by, next_of}
use Rattle.sound_state.proofs.Common.{passed_by, held_by, first_unheld, Turn, after_list, after_turn, picked, turned, point_after, resumed}
use Rattle.step_parts.proofs.hazard_lemmas.PickLemmas.{some-listed, some-free}
use Rattle.errand_steps.specs.declared.point.Point.TheVariants as point
use Rattle.errand_steps.specs.Errands.{list_after}
use Rattle.sound_state.proofs.guards.GuardNexts.{NextNotes, next_pushed, pushed-next}

-- a caller that has retired d has noted d + 1 as the hazard word of k, where its scan has passed that
abbrev pub HasNoted : ℕ → ℕ → ErrandFields → Type 0
HasNoted k d e = Contains e.retired d → k < passed_by e.point → slice_index (held_by e.point) k ≡ d + 1

-- nothing is pushed at the point, and no scan has passed anything
record IsBlank (p : Point) : Type 0 where
  pub pushed : pushed_by p ≡ None
  pub passed : passed_by p ≡ 0

-- nothing is pushed and no scan has passed anything where a call goes on after a retirement, a turn begins, or a scan does
resumed-blank : (e : ErrandFields) (s : SeatFields) (o : Continuation) → IsBlank (point_after (after_turn e (resumed s o)))
resumed-blank e s o = record { pushed = grind (arith); passed = grind (arith) }

turned-blank : (e : ErrandFields) (s : SeatFields) (need : ℕ) → IsBlank (point_after (turned e s need))
turned-blank e s need = record { pushed = grind (arith); passed = grind (arith) }

retired-blank : (e : ErrandFields) (s : SeatFields) (d : ℕ) (o : Continuation) → IsBlank (point_after (after_turn e (after_list e (Retire s d o))))
retired-blank e s d o = grind (arith, resumed-blank)

-- a descriptor that a scan picks isn't one that the noted words name
picked-free :
    (k d : ℕ) (held ds : List ℕ) → (Contains ds d → (k < length held) × (slice_index held k ≡ d + 1)) → first_unheld held ds ≡ Some d → ⊥
picked-free k d held ds notes pick =
    let noted = notes (some-listed held ds d pick) in
    some-free held ds d pick (k, noted.0, get_or_default held k (d + 1) 0 noted.0 ∙ noted.1)

-- an errand and what its step finds, for what it has noted and pushes after the step
module _ (k d : ℕ) (e : ErrandFields) (x : Found) where
  -- at the point a caller with this list has noted d + 1 for k, if it has retired d and its scan has passed k
  abbrev NotedAt : List ℕ → Point → Type 0
  NotedAt ds p = Contains ds d → k < passed_by p → slice_index (held_by p) k ≡ d + 1

  blank-notes : (ds : List ℕ) (p : Point) → IsBlank p → NotedAt ds p
  blank-notes ds p blank listed below = let bad : ⊥ = omega (arith, below, blank.passed) in absurd bad

  pick-notes :
      (s : SeatFields) (o : Continuation) (r : Option ℕ) → HasNoted k d e → NotedAt e.retired (point_after (after_turn e (picked e s o r)))
  pick-notes s o r noted = grind (arith, noted)

  list-notes :
      (n : Next) → HasNoted k d e → (Contains e.retired d → NextNotes k d n)
      → NotedAt (list_after e.retired n) (point_after (after_turn e (after_list e n)))
  list-notes (At p) noted next = next
  list-notes (End r) noted next = blank-notes e.retired point.Idle (record { pushed = refl; passed = refl })
  list-notes (Turn s need) noted next = blank-notes _ _ (turned-blank e s need)
  list-notes (Retire s f o) noted next = blank-notes _ _ (retired-blank e s f o)
  list-notes (Pick s held o) noted next = pick-notes s o (first_unheld held e.retired) noted
  list-notes (Unlist s f o) noted next = blank-notes _ _ (resumed-blank e s o)

  pub settled-notes : HasNoted k d e → (Contains e.retired d → NextNotes k d (next_of e.point x)) → HasNoted k d (settle_of e x)
  unfolding settle_of course_of
  settled-notes noted next = list-notes (next_of e.point x) noted next

  -- what a caller pushes after its scan isn't what the noted words name
  pick-pushes :
      (s : SeatFields) (held : List ℕ) (o : Continuation) (r : Option ℕ) → first_unheld held e.retired ≡ r
      → (Contains e.retired d → (k < length held) × (slice_index held k ≡ d + 1)) → pushed_by e.point ≢ Some d
      → pushed_by (point_after (after_turn e (picked e s o r))) ≢ Some d
  pick-pushes s held o r pick notes free = grind (arith, pick, notes, free, picked-free)

  blank-pushes : (p : Point) → IsBlank p → pushed_by p ≢ Some d
  blank-pushes p blank is = none-some d (sym blank.pushed ∙ is)

  list-pushes :
      (n : Next) → pushed_by e.point ≢ Some d → next_pushed n ≢ Some d → (Contains e.retired d → NextNotes k d n)
      → pushed_by (point_after (after_turn e (after_list e n))) ≢ Some d
  list-pushes n free none notes = grind (arith, free, none, notes, blank-pushes, turned-blank, retired-blank, pick-pushes, resumed-blank)

  pub settled-pushes :
      pushed_by e.point ≢ Some d → (Contains e.retired d → NextNotes k d (next_of e.point x)) → pushed_by (settle_of e x).point ≢ Some d
  unfolding settle_of course_of
  settled-pushes free notes = list-pushes (next_of e.point x) free (λ is. free (pushed-next e.point x d is)) notes
