-- A call that begins keeps the state sound.
use Rattle.std.proofs.Common.{ℕ, false, ◌≡◌, ◌<◌, ◌+◌, List, [], ◌∷◌, refl, arith, sym, subst, inl, inr, ◌^◌, All}
use Rattle.std.proofs.Math.Path.{fun_ext}
use Rattle.std.proofs.lemmas.Bool.{cases_eq, cases_Bool, cond-true, cond-false}
use Rattle.std.proofs.lemmas.List.Elements.{All-nil, All-cons}
use Rattle.std.proofs.lemmas.Option.{none-some}
use Rattle.sound_state.proofs.Common.{Geometry, Need, Small, need_of, block_place, frame_of, pool_of, place-found, sound-of, WordName, Writes, Point, Idle, ErrandFields}
use Rattle.sound_state.proofs.Common.{State, Moves, Holding, holds_of, IsKeptAs, IsWithout, Lists, IsSo, IsOwned, recalls_of, IsSoundWith, IsSoundWithoutCounts}
use Rattle.sound_state.proofs.Common.{turn_stage_of, in_turn, is_unneeded, one_if, pops_left, SHELVES, TooLarge, usable_words, index_of, IsWellFormed, every-each, IsIdle}
use Rattle.sound_state.proofs.Common.{begins_alloc, alloc_begun, free_begun, write_begun, read_begun, put_begun, take_begun, IsErrand, is_spent, one_more, Freed, nothing}
use Rattle.sound_state.proofs.Common.{with_errands, lacks_frame, lacks_partial, lacks_answer, out_of_turn}
use Rattle.heap_geometry.specs.declared.need.Need.TheVariants.{Large}
use Rattle.heap_geometry.proofs.PlaceLemmas.{block_place-split}
use Rattle.word_table.specs.declared.name.WordName.TheVariants as name
use Rattle.errand_steps.specs.Begins.{IsHeapBlock}
use Rattle.errand_steps.proofs.BegunErrands.{idle-is, alloc-errand, free-errand, write-errand, read-errand, put-errand, take-errand}
use Rattle.sound_state.proofs.shared.ShownLemmas.{MayGoOn, MayGuard}
use Rattle.sound_state.proofs.shared.StepLemmas.{HoldsException, actives-stay}
use Rattle.sound_state.proofs.shared.WeighLemmas.{WeighAlike, WeighMost, alike-most, weigh-alike, weigh-emptied}
use Rattle.sound_state.proofs.shared.TurnEffects.{IsQuiet, OwnCounts, own-counts}
use Rattle.sound_state.proofs.shared.FormedLemmas.{formed-begun}
use Rattle.sound_state.proofs.SoundSteps.{sound-alike}

-- what a caller holds that holds nothing but blocks which it frees
abbrev pub freeing : List Freed → Holding
freeing blocks = record nothing { frees = blocks }

-- a point at which a caller holds nothing but these blocks that it frees, and has not looked, pushed or scanned
pub record HoldsOnlyFrees (p : Point) (blocks : List Freed) : Type 0 where
  pub holds : holds_of p ≡ freeing blocks
  pub quiet : IsQuiet p
  pub pops : pops_left p ≡ 0

-- a call may begin at this point: what the caller frees there is its own, and what it remembers is so
pub record BeginsAt (g : Geometry) (s : State) (l : Lists) (caller : ℕ) (p : Point) (blocks : List Freed) : Type 0 where
  pub fresh : HoldsOnlyFrees p blocks
  pub frees : All (λ x. IsOwned s caller x.place x.need) blocks
  pub so : All (IsSo g s l caller) (recalls_of p)

-- a call that begins at the point takes so many turns, none or one, and is in as many there
pub record TakesTurns (p : Point) (t before after : ℕ) : Type 0 where
  pub turns : after ≡ before + t
  pub under_way : one_if (in_turn p) ≡ t
  pub discards : one_if (is_unneeded (turn_stage_of p)) ≡ 0
  pub unanswered : one_if (lacks_answer (turn_stage_of p)) ≡ t
  pub unframed : one_if (lacks_frame (turn_stage_of p)) ≡ t
  pub unlisted : one_if (lacks_partial (turn_stage_of p)) ≡ t

idle-takes : TakesTurns Idle 0 0 0
idle-takes = record { turns = refl; under_way = refl; discards = refl; unanswered = refl; unframed = refl; unlisted = refl }

-- an errand at the point where a call begins weighs what the idle one weighed
pub begun-weighs :
    (g : Geometry) (s : State) (l : Lists) (caller : ℕ) (a : ErrandFields) (p : Point) (turns : ℕ) (blocks : List Freed) → IsIdle a
    → BeginsAt g s l caller p blocks → (n : WordName) (w : ℕ) → WeighAlike n w w a (record a { point = p; turns = turns })
unfolding holds_of
begun-weighs g s l caller a p turns blocks idle b n w = grind (arith, idle, b, idle-is)

-- a caller that holds nothing excepts no block
not-excepts : (place : ℕ) → HoldsException nothing place → ⊥
not-excepts place (inl x) = omega (arith, x.2)
not-excepts place (inr x) = omega (arith, x.2)

-- a caller that begins a call may go on to its first point
begun-may :
    (g : Geometry) (s : State) (l : Lists) (caller : ℕ) (a : ErrandFields) (p : Point) (t turns : ℕ) (blocks : List Freed)
    → IsSoundWith g s l → caller < g.callers → s.errand caller ≡ a → IsIdle a → BeginsAt g s l caller p blocks
    → TakesTurns p t a.turns turns → MayGoOn g s l caller a (record a { point = p; turns = turns })
unfolding holds_of
begun-may g s l caller a p t turns blocks sound has stands idle b takes =
    let was = idle-is a.point idle in
    let counts : OwnCounts caller s.history a = subst (OwnCounts caller s.history) stands (own-counts g s l caller sound.turned has) in
    let idle_takes : TakesTurns a.point 0 0 0 = subst (λ q. TakesTurns q 0 0 0) (sym was) idle-takes in
    record {
      stands = record {
        point = record {
          kept = subst (λ h. All (λ k. IsKeptAs s k.status k.desc k.class) h.kept) (sym b.fresh.holds)
              (All-nil (λ k. IsKeptAs s k.status k.desc k.class));
          so = b.so;
          hands = subst (λ h. All (λ x. IsOwned s caller x.place x.need) h.hands) (sym b.fresh.holds) (All-nil (λ x. IsOwned s caller x.place x.need));
          frees = subst (λ h. All (λ x. IsOwned s caller x.place x.need) h.frees) (sym b.fresh.holds) b.frees;
        };
        retired = subst (λ e. All (IsWithout s) e.retired) stands (sound.kept.retired caller has);
        full = λ is. let bad : ⊥ = omega (arith, is, b.fresh.quiet.spare) in absurd bad;
      };
      excepts = λ place x. absurd (not-excepts place (subst (λ q. HoldsException (holds_of q) place) was x));
      counts = record {
        own = record {
          turns = omega (arith, counts.turns, takes.turns, takes.under_way);
          lost = omega (arith, counts.lost, takes.turns, takes.discards, takes.unanswered, idle_takes.unanswered);
          answers = omega (arith, counts.answers, takes.turns, takes.unanswered);
        };
        frame_turns = omega (arith, takes.turns, takes.unframed);
        list_turns = omega (arith, takes.turns, takes.unlisted, b.fresh.pops);
      };
    }

-- a caller at the point where a call begins guards nothing, nor does it push or scan
begun-guards :
    (g : Geometry) (s : State) (l : Lists) (caller : ℕ) (p : Point) (retired : List ℕ) (blocks : List Freed) → IsSoundWith g s l
    → caller < g.callers → IsIdle (s.errand caller) → BeginsAt g s l caller p blocks → MayGuard g s caller p retired (s.word (name.Hazard caller))
unfolding holds_of
begun-guards g s l caller p retired blocks sound has idle b = grind (arith, sound, has, idle, b, holds_of, idle-is, none-some)

-- a caller that begins a call keeps the state sound
begun-sound :
    (g : Geometry) (s : State) (caller : ℕ) (p : Point) (t turns : ℕ) (blocks : List Freed) (errands' : ℕ → ErrandFields)
    → IsSoundWithoutCounts g s → caller < g.callers → IsIdle (s.errand caller)
    → ((l : Lists) → BeginsAt g s l caller p blocks) → IsErrand (record (s.errand caller) { point = p; turns = turns })
    → TakesTurns p t (s.errand caller).turns turns → Moves s.errand caller (record (s.errand caller) { point = p; turns = turns }) errands'
    → IsSoundWithoutCounts g (with_errands s errands')
begun-sound g s caller p t turns blocks errands' sound has idle begins rule takes moves =
    let l = sound.parts.0 in
    let old = sound.parts.1 in
    let e = record (s.errand caller) { point = p; turns = turns } in
    let word = s.word name.FrameHead in
    let stays : Writes s.word name.FrameHead word s.word = record { here = refl; elsewhere = λ other differ. refl } in
    let weigh : WeighMost name.FrameHead word word (s.errand caller) e =
    alike-most name.FrameHead word word (s.errand caller) e
    (begun-weighs g s l caller (s.errand caller) p turns blocks idle (begins l) name.FrameHead word) in
    record {
      checked = sound.checked;
      legal = sound.legal;
      parts = (
        l,
        sound-alike g s l caller e (with_errands s errands')
            (record {
              in_heap = has;
              moves = moves;
              alike = weigh-alike g s l caller name.FrameHead word e (with_errands s errands') tt has stays moves refl weigh;
              may = begun-may g s l caller (s.errand caller) p t turns blocks old has refl idle (begins l) takes;
              others = λ i differ. refl;
              guards = begun-guards g s l caller p (s.errand caller).retired blocks old has idle (begins l);
              actives = actives-stay g s l s.word old.kept (λ n. refl);
              emptied = omega (arith, weigh-emptied g s l caller name.FrameHead word e (with_errands s errands') has stays moves weigh);
            })
            old (formed-begun g s caller p turns errands' old.formed has rule moves),
      );
    }

-- a call that begins at a point without a turn keeps the state sound
no-turn-sound :
    (g : Geometry) (s : State) (caller : ℕ) (p : Point) (blocks : List Freed) (errands' : ℕ → ErrandFields) → IsSoundWithoutCounts g s
    → caller < g.callers → IsIdle (s.errand caller) → ((l : Lists) → BeginsAt g s l caller p blocks) → IsErrand (record (s.errand caller) { point = p })
    → turn_stage_of p ≡ out_of_turn → Moves s.errand caller (record (s.errand caller) { point = p }) errands' → IsSoundWithoutCounts g (with_errands s errands')
no-turn-sound g s caller p blocks errands' sound has idle begins rule no_turn moves =
    begun-sound g s caller p 0 (s.errand caller).turns blocks errands' sound has idle begins rule
    (record {
      turns = omega arith;
      under_way = rw no_turn refl;
      discards = rw no_turn refl;
      unanswered = rw no_turn refl;
      unframed = rw no_turn refl;
      unlisted = rw no_turn refl;
    })
    moves

-- a call that begins at a point without a turn, and frees no block, keeps the state sound
bare-sound :
    (g : Geometry) (s : State) (caller : ℕ) (p : Point) (errands' : ℕ → ErrandFields) → IsSoundWithoutCounts g s → caller < g.callers
    → IsIdle (s.errand caller) → HoldsOnlyFrees p [] → ((l : Lists) → All (IsSo g s l caller) (recalls_of p)) → IsErrand (record (s.errand caller) { point = p })
    → turn_stage_of p ≡ out_of_turn → Moves s.errand caller (record (s.errand caller) { point = p }) errands' → IsSoundWithoutCounts g (with_errands s errands')
bare-sound g s caller p errands' sound has idle fresh so rule no_turn moves =
    no-turn-sound g s caller p [] errands' sound has idle
    (λ l. record { fresh = fresh; frees = All-nil (λ x. IsOwned s caller x.place x.need); so = so l }) rule no_turn moves

-- an errand that stays as it is keeps the state sound
stays-sound :
    (g : Geometry) (s : State) (caller : ℕ) (errands' : ℕ → ErrandFields) → IsSoundWithoutCounts g s → Moves s.errand caller (s.errand caller) errands'
    → IsSoundWithoutCounts g (with_errands s errands')
stays-sound g s caller errands' sound moves =
    let same : errands' ≡ s.errand =
    fun_ext (λ i. elim (cases_eq i caller) [
      | inl is ↦ subst (λ j. errands' j ≡ s.errand j) (sym is) moves.here
      | inr differ ↦ moves.elsewhere i differ
    ]) in
    subst (λ e. IsSoundWithoutCounts g (with_errands s e)) (sym same) sound

alloc-from :
    (g : Geometry) (s : State) (caller words : ℕ) (n : Need) (errands' : ℕ → ErrandFields) → need_of words ≡ n → IsSoundWithoutCounts g s
    → caller < g.callers → IsIdle (s.errand caller) → IsErrand (begins_alloc (s.errand caller) words n)
    → Moves s.errand caller (begins_alloc (s.errand caller) words n) errands' → IsSoundWithoutCounts g (with_errands s errands')
unfolding holds_of recalls_of
alloc-from g s caller words (Small class) errands' is sound has idle rule moves =
    let e = s.errand caller in
    let own = sound.parts.1.formed.errands caller has in
    elim (cases_Bool (is_spent e)) [
      | inl spent ↦
          stays-sound g s caller errands' sound
          (subst (λ f. Moves s.errand caller f errands') (cond-true (is_spent e) e _ spent) moves)
      | inr left ↦
          let more = cond-false (is_spent e) e _ left in
          begun-sound g s caller _ 1 (one_more e.turns) [] errands' sound has idle
          (λ l. record {
            fresh = grind (arith);
            frees = All-nil (λ x. IsOwned s caller x.place x.need);
            so = All-nil (IsSo g s l caller);
          })
          (subst IsErrand more rule)
          (record {
            turns = let most = own.rule.turns in let limit = own.rule.geometry.turn_limit in grind (arith, left, most, limit);
            under_way = refl;
            discards = refl;
            unanswered = refl;
            unframed = refl;
            unlisted = refl;
          })
          (subst (λ f. Moves s.errand caller f errands') more moves)
    ]
alloc-from g s caller words (Large units) errands' is sound has idle rule moves =
    bare-sound g s caller _ errands' sound has idle (grind (arith)) (λ l. All-nil (IsSo g s l caller)) rule refl moves
alloc-from g s caller words TooLarge errands' is sound has idle rule moves = stays-sound g s caller errands' sound moves

-- an allocation that begins keeps the state sound
pub alloc-sound :
    (g : Geometry) (s : State) (caller words : ℕ) (errands' : ℕ → ErrandFields) → IsSoundWithoutCounts g s → caller < g.callers → IsIdle (s.errand caller)
    → Moves s.errand caller (alloc_begun (s.errand caller) words) errands' → IsSoundWithoutCounts g (with_errands s errands')
unfolding alloc_begun
alloc-sound g s caller words errands' sound has idle moves =
    alloc-from g s caller words (need_of words) errands' refl sound has idle
    (alloc-errand (s.errand caller) words (sound.parts.1.formed.errands caller has).rule idle) moves

-- an owned block is one of the heap's
pub owned-block :
    (g : Geometry) (s : State) (caller place : ℕ) (n : Need) → IsSoundWithoutCounts g s → IsOwned s caller place n → IsHeapBlock g place n
owned-block g s caller place n sound owned =
    let b = owned.block.0 in
    let live = owned.block.1 in
    let formed =
    every-each (IsWellFormed g) (pool_of s.history) (sound-of g s.history sound.legal).each place b live in
    let stands : b.place ≡ place = place-found place (pool_of s.history) b live in
    subst (λ m. IsHeapBlock g place m) owned.block.3 (subst (λ p. IsHeapBlock g p b.need) stands (formed.need, formed.place))

-- a block that a caller owns is one of the heap that its errand is in
pub errand-block :
    (g : Geometry) (s : State) (caller place : ℕ) (n : Need) → IsSoundWithoutCounts g s → caller < g.callers → IsOwned s caller place n
    → IsHeapBlock (s.errand caller).geometry place n
errand-block g s caller place n sound has owned =
    subst (λ h. IsHeapBlock h place n) (sym (sound.parts.1.formed.errands caller has).geometry) (owned-block g s caller place n sound owned)

-- a free that begins keeps the state sound
pub free-sound :
    (g : Geometry) (s : State) (caller place : ℕ) (n : Need) (errands' : ℕ → ErrandFields) → IsSoundWithoutCounts g s → caller < g.callers
    → IsIdle (s.errand caller) → IsOwned s caller place n → Moves s.errand caller (free_begun (s.errand caller) place n) errands'
    → IsSoundWithoutCounts g (with_errands s errands')
unfolding free_begun holds_of recalls_of
free-sound g s caller place (Small class) errands' sound has idle owned moves =
    let block = owned-block g s caller place (Small class) sound owned in
    let own = sound.parts.1.formed.errands caller has in
    let stands : block_place (frame_of place) class (index_of class place) ≡ place =
    block_place-split class place
    (block.1.0, block.1.1, omega (arith, block.1.2, sound.checked.frames.1), block.1.3, block.1.4) in
    let freed : Freed = record { place = block_place (frame_of place) class (index_of class place); need = Small class; overwritten = false } in
    no-turn-sound g s caller _ (freed ∷ []) errands' sound has idle
    (λ l. record {
      fresh = grind (arith);
      frees =
          All-cons (λ x. IsOwned s caller x.place x.need) freed [] (subst (λ p. IsOwned s caller p (Small class)) (sym stands) owned)
          (All-nil (λ x. IsOwned s caller x.place x.need));
      so = All-nil (IsSo g s l caller);
    })
    (free-errand (s.errand caller) place (Small class) (errand-block g s caller place (Small class) sound has owned) own.rule idle)
    refl moves
free-sound g s caller place (Large units) errands' sound has idle owned moves =
    let own = sound.parts.1.formed.errands caller has in
    let freed : Freed = record { place = place; need = Large units; overwritten = false } in
    no-turn-sound g s caller _ (freed ∷ []) errands' sound has idle
    (λ l. record {
      fresh = grind (arith);
      frees = All-cons (λ x. IsOwned s caller x.place x.need) freed [] owned (All-nil (λ x. IsOwned s caller x.place x.need));
      so = All-nil (IsSo g s l caller);
    })
    (free-errand (s.errand caller) place (Large units) (errand-block g s caller place (Large units) sound has owned) own.rule idle)
    refl moves
free-sound g s caller place TooLarge errands' sound has idle owned moves = absurd (owned-block g s caller place TooLarge sound owned).1

-- a write, a read, a put and a take that begin keep the state sound
pub write-sound :
    (g : Geometry) (s : State) (caller place : ℕ) (n : Need) (i v : ℕ) (errands' : ℕ → ErrandFields) → IsSoundWithoutCounts g s → caller < g.callers
    → IsIdle (s.errand caller) → IsOwned s caller place n → i < usable_words n → v < 2 ^ 64
    → Moves s.errand caller (write_begun (s.errand caller) place i v) errands' → IsSoundWithoutCounts g (with_errands s errands')
unfolding write_begun holds_of recalls_of
write-sound g s caller place n i v errands' sound has idle owned below word moves =
    let own = sound.parts.1.formed.errands caller has in
    bare-sound g s caller _ errands' sound has idle (grind (arith)) (λ l. All-cons (IsSo g s l caller) _ [] (n, owned, below) (All-nil (IsSo g s l caller)))
    (write-errand (s.errand caller) place n i v (errand-block g s caller place n sound has owned) below word own.rule idle) refl moves

pub read-sound :
    (g : Geometry) (s : State) (caller place : ℕ) (n : Need) (i : ℕ) (errands' : ℕ → ErrandFields) → IsSoundWithoutCounts g s → caller < g.callers
    → IsIdle (s.errand caller) → IsOwned s caller place n → i < usable_words n
    → Moves s.errand caller (read_begun (s.errand caller) place i) errands' → IsSoundWithoutCounts g (with_errands s errands')
unfolding read_begun holds_of recalls_of
read-sound g s caller place n i errands' sound has idle owned below moves =
    let own = sound.parts.1.formed.errands caller has in
    bare-sound g s caller _ errands' sound has idle (grind (arith)) (λ l. All-cons (IsSo g s l caller) _ [] (n, owned, below) (All-nil (IsSo g s l caller)))
    (read-errand (s.errand caller) place n i (errand-block g s caller place n sound has owned) below own.rule idle) refl moves

pub put-sound :
    (g : Geometry) (s : State) (caller place : ℕ) (n : Need) (k : ℕ) (errands' : ℕ → ErrandFields) → IsSoundWithoutCounts g s → caller < g.callers
    → IsIdle (s.errand caller) → IsOwned s caller place n → k < SHELVES
    → Moves s.errand caller (put_begun (s.errand caller) place n k) errands' → IsSoundWithoutCounts g (with_errands s errands')
unfolding put_begun holds_of recalls_of
put-sound g s caller place n k errands' sound has idle owned shelf moves =
    let own = sound.parts.1.formed.errands caller has in
    bare-sound g s caller _ errands' sound has idle (grind (arith)) (λ l. All-cons (IsSo g s l caller) _ [] owned (All-nil (IsSo g s l caller)))
    (put-errand (s.errand caller) place n k (errand-block g s caller place n sound has owned) shelf own.rule idle) refl moves

pub take-sound :
    (g : Geometry) (s : State) (caller k : ℕ) (errands' : ℕ → ErrandFields) → IsSoundWithoutCounts g s → caller < g.callers → IsIdle (s.errand caller)
    → k < SHELVES → Moves s.errand caller (take_begun (s.errand caller) k) errands' → IsSoundWithoutCounts g (with_errands s errands')
unfolding take_begun holds_of recalls_of
take-sound g s caller k errands' sound has idle shelf moves =
    let own = sound.parts.1.formed.errands caller has in
    bare-sound g s caller _ errands' sound has idle (grind (arith)) (λ l. All-nil (IsSo g s l caller))
    (take-errand (s.errand caller) k shelf own.rule idle) refl moves
