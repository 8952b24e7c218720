-- The step at a large block, a usable word or a shelf, and what it leaves.
use Rattle.std.proofs.Common.{ℕ, false, Option, Some, arith, eq-eqb, ◌≡◌, ◌≢◌, ◌<◌, [], ◌∷◌, ◌++◌, refl, ap, sym, subst, ◌∙◌, IsTrue}
use Rattle.sound_state.proofs.Common.{Geometry, block_count_of, block_place, WordName, name_of, after_action, descriptor_count, Writes, prefix_name, Event, block_at}
use Rattle.sound_state.proofs.Common.{pool_of, LargePoint, Continuation, Large, Idle, Cas, holds_of, Point, settle_of, counts_lost, counts_cleared, event_of, next_of}
use Rattle.sound_state.proofs.Common.{plan_point_of, State, Step, Moves, found_at, with_event, Lists, recalls_of, IsSoundWith, info_for, is_bound, is_there, gives_small}
use Rattle.sound_state.proofs.Common.{refuses_small, caller_of, IsAllowed, pool_after, pool_of-push, is_small_alloc, is_small_free}
use Rattle.sound_state.proofs.Common.{Part}
use Rattle.word_table.specs.declared.name.WordName.TheVariants as name
use Rattle.pool_model.proofs.OwnerLemmas.{others-keep}
use Rattle.sound_state.proofs.shared.BackedRecalls.{AllRead}
use Rattle.sound_state.proofs.shared.EventFacts.{counted-not, told-own}
use Rattle.sound_state.proofs.shared.CreditLemmas.{won_with}
use Rattle.sound_state.proofs.shared.TieLemmas.{IsBareHanded}
use Rattle.sound_state.proofs.shared.StepLemmas.{at_point, found_from, keeps-counts}
use Rattle.sound_state.proofs.large.TouchEffects.{IsAwayWord, IsAsidePoint, Stays, Touches, LeavesOthers}
use Rattle.sound_state.proofs.shared.WonEffects.{settle-leads, LeadsTo}

pub leaves-same : (g : Geometry) (s : State) (l : Lists) (caller : ℕ) → LeavesOthers g s l caller s.history
leaves-same g s l caller = grind (arith)

-- the event is the caller's, and is of no small block that is given, refused or freed
pub record IsAsideEvent (g : Geometry) (caller : ℕ) (event : Event) : Type 0 where
  pub number : caller_of event ≡ caller
  pub gives : (i : ℕ) → gives_small i event ≡ false
  pub refuses : (i : ℕ) → refuses_small i event ≡ false
  pub allocs : is_small_alloc event ≡ false
  pub freed : is_small_free g event ≡ false

pub leaves-event :
    (g : Geometry) (s : State) (l : Lists) (caller : ℕ) (event : Event) → IsAsideEvent g caller event → IsAllowed g s.history event
    → ((d i : ℕ) → d < descriptor_count g → IsTrue (is_bound g s l d) → i < block_count_of (info_for s d).class
    → is_there (block_at (block_place (info_for s d).frame (info_for s d).class i) (pool_after (pool_of s.history) event))
    ≡ is_there (block_at (block_place (info_for s d).frame (info_for s d).class i) (pool_of s.history)))
    → LeavesOthers g s l caller (s.history ++ event ∷ [])
leaves-event g s l caller event aside allowed live =
    let pool = pool_of-push s.history event in
    let apart = λ (i : ℕ) (other : i ≢ caller) (same : caller_of event ≡ i). other (sym same ∙ aside.number) in
    record {
      others = λ i place b other found owned.
          ap (block_at place) pool ∙ others-keep g s.history event i place b allowed (apart i other) found owned;
      live = λ d i has bound lt. ap (λ x. is_there (block_at (block_place (info_for s d).frame (info_for s d).class i) x)) pool ∙ live d i has bound lt;
      events = λ i other. told-own i s.history event (apart i other);
      gives = λ i. counted-not (gives_small i) s.history event (aside.gives i);
      refuses = λ i. counted-not (refuses_small i) s.history event (aside.refuses i);
      allocs = counted-not is_small_alloc s.history event aside.allocs;
      freed = counted-not (is_small_free g) s.history event aside.freed;
    }

-- the step from p leads to q, writes this into its word, counts no loss, clears nothing, and tells this event, or none
pub record Does (s : State) (caller : ℕ) (p q : Point) (n : WordName) (new : ℕ) (event : Option Event) : Type 0 where
  pub leads : LeadsTo (next_of p (found_from s p)) q
  pub here : name_of (plan_point_of p) ≡ n
  pub written : after_action (plan_point_of p) (s.word (name_of (plan_point_of p))) ≡ new
  pub lost : counts_lost p (found_from s p) ≡ false
  pub cleared : counts_cleared p (found_from s p) ≡ false
  pub told : event_of caller p (found_from s p) ≡ event

-- an exchange that is won does so
pub won-does :
    (s : State) (caller : ℕ) (p q : Point) (n : WordName) (expected new : ℕ) (event : Option Event) → plan_point_of p ≡ Cas n expected new
    → s.word n ≡ expected → LeadsTo (next_of p (won_with (s.word n))) q → counts_lost p (won_with (s.word n)) ≡ false
    → counts_cleared p (won_with (s.word n)) ≡ false → event_of caller p (won_with (s.word n)) ≡ event → Does s caller p q n new event
won-does s caller p q n expected new event plan is leads lost cleared told = grind (arith, plan, is, leads, lost, cleared, told, eq-eqb)

-- a touch from p to q by a step that writes this into its word, none of a list or a superblock, and tells this event, or none
pub record TouchesAt (g : Geometry) (s : State) (l : Lists) (caller : ℕ) (p q : Point) (n : WordName) (new : ℕ) (event : Option Event) : Type 0 where
  pub does : Does s caller p q n new event
  pub touched : IsAwayWord n → ⊥
  pub leaves : LeavesOthers g s l caller (with_event s.history event)
  pub before : IsAsidePoint p
  pub after : IsAsidePoint q
  pub recalls : recalls_of q ≡ []
  pub prefixes :
      (words' : WordName → ℕ) → Writes s.word n new words' → (d i : ℕ) → d < descriptor_count g → IsTrue (is_bound g s l d)
      → i < block_count_of (info_for s d).class
      → words' (prefix_name (info_for s d).frame (info_for s d).class i) ≡ s.word (prefix_name (info_for s d).frame (info_for s d).class i)
  pub stays :
      (words' : WordName → ℕ) → Writes s.word n new words' → (i : ℕ) → i < g.callers → i ≢ caller → AllRead (Stays s words') (s.errand i).point

pub record Touched (g : Geometry) (s : State) (l : Lists) (caller : ℕ) (q : Point) (n : WordName) (new : ℕ) (event : Option Event) (s' : State) : Type 0 where
  pub touches : Touches g s l caller (at_point (s.errand caller) (found_at s caller) q) s'
  pub word : Writes s.word n new s'.word
  pub history : s'.history ≡ with_event s.history event

pub touched-step :
    (g : Geometry) (s : State) (l : Lists) (caller : ℕ) (s' : State) (p q : Point) (n : WordName) (new : ℕ) (event : Option Event) → IsSoundWith g s l
    → caller < g.callers → (s.errand caller).point ≡ p → TouchesAt g s l caller p q n new event → Step s caller s' → Touched g s l caller q n new event s'
touched-step g s l caller s' p q n new event old has stands given step =
    let r = (s.errand caller).point in
    let x = found_at s caller in
    let h : TouchesAt g s l caller r q n new event = subst (λ r. TouchesAt g s l caller r q n new event) (sym stands) given in
    let moved : settle_of (s.errand caller) x ≡ at_point (s.errand caller) x q = settle-leads (s.errand caller) x q h.does.leads in
    let writes : Writes s.word n new s'.word =
    subst (λ m. Writes s.word m new s'.word) h.does.here (subst (λ v. Writes s.word (name_of (plan_point_of r)) v s'.word) h.does.written step.word) in
    let history : s'.history ≡ with_event s.history event = step.history ∙ ap (with_event s.history) h.does.told in
    record {
      touches = record {
        in_heap = has;
        moves = subst (λ f. Moves s.errand caller f s'.errand) moved step.errand;
        word = λ m away. writes.elsewhere m (λ same. h.touched (subst IsAwayWord same away));
        prefixes = h.prefixes s'.word writes;
        stays = h.stays s'.word writes;
        leaves = subst (LeavesOthers g s l caller) (sym history) h.leaves;
        own = keeps-counts (s.errand caller) r x q refl h.does.lost h.does.cleared;
        before = h.before;
        after = h.after;
        recalls = h.recalls;
      };
      word = writes;
      history = history;
    }

-- a caller at a point of large blocks, or in no call, reserves, keeps, guards and pushes nothing
pub large-aside : (p : LargePoint) (o : Continuation) → IsAsidePoint (Large p o)
unfolding holds_of
large-aside p o = grind (arith)

pub idle-aside : IsAsidePoint Idle
unfolding holds_of
idle-aside = grind (arith)

pub idle-bare-handed : IsBareHanded Idle
unfolding holds_of
idle-bare-handed = grind (arith)

pub idle-recalls : recalls_of Idle ≡ []
unfolding recalls_of
idle-recalls = refl

-- the word is that of the units or of a shelf
abbrev pub IsSideWord : WordName → Type 0
IsSideWord name.Units = Unit {0}
IsSideWord (name.Shelf k) = Unit {0}
IsSideWord n = ⊥

side-touched : (n : WordName) → IsSideWord n → IsAwayWord n → ⊥
side-touched n side away = grind (arith, side, away)

-- a store into the units or a shelf leaves each word that recalls name, and all that is read word by word
module _ (s : State) (n : WordName) (new : ℕ) (words' : WordName → ℕ) (w : Writes s.word n new words') (side : IsSideWord n) where
  still-part : (q : Part) → Stays s words' q
  still-part q = grind (arith)

-- a step at a large block that writes the units or a shelf, and tells an event that leaves live blocks in place, touches nothing else
pub side-touches :
    (g : Geometry) (s : State) (l : Lists) (caller : ℕ) (p : LargePoint) (o : Continuation) (q : Point) (n : WordName) (new : ℕ) (event : Event)
    → Does s caller (Large p o) q n new (Some event) → IsSideWord n → IsAsidePoint q → recalls_of q ≡ [] → IsAsideEvent g caller event
    → IsAllowed g s.history event
    → ((d i : ℕ) → d < descriptor_count g → IsTrue (is_bound g s l d) → i < block_count_of (info_for s d).class
    → is_there (block_at (block_place (info_for s d).frame (info_for s d).class i) (pool_after (pool_of s.history) event))
    ≡ is_there (block_at (block_place (info_for s d).frame (info_for s d).class i) (pool_of s.history)))
    → TouchesAt g s l caller (Large p o) q n new (Some event)
side-touches g s l caller p o q n new event does side after recalls aside allowed live = record {
  does = does;
  touched = side-touched n side;
  leaves = leaves-event g s l caller event aside allowed live;
  before = large-aside p o;
  after = after;
  recalls = recalls;
  prefixes = λ words' w d i has bound lt. w.elsewhere _ (λ same. subst IsSideWord (sym same) side);
  stays = λ words' w i has differ k d lt. still-part s n new words' w side _;
}
