-- Which steps tell a look or a refusal; each of these has its number where what it stands on has it.
use Rattle.std.proofs.Common.{ℕ, Bool, true, false, Option, Some, None, ◌≡◌, ◌<◌, [], refl, arith, ap, subst, ◌∙◌, ◌==◌, if◌then◌else◌, IsTrue, eqb-true}
use Rattle.std.proofs.lemmas.Option.{none-some}
use Rattle.sound_state.proofs.Common.{Geometry, CLASSES, Need, HeadFields, head_of, SeatFields, BlockPoint, Pile, StackPoint, head_name, LargePoint, Event, pool_of}
use Rattle.sound_state.proofs.Common.{Continuation, Point, event_of, FitsPoint, asked, plan_point_of, State, found_at, Holding, holds_of, Lists, IsSoundWith, IsHead}
use Rattle.sound_state.proofs.Common.{head_word, head_of-head_word, Pool, FitsInStack, confirms, stack_holds, continuation_holds}
use Rattle.step_parts.specs.stack.Points.{IsBare}
use Rattle.pool_model.specs.Legal.{IsCounted, IsCountedFor, IsCrowded, IsWorn}
use Rattle.errand_steps.specs.declared.point.Point.TheVariants as point
use Rattle.errand_steps.specs.Events.{won_event}
use Rattle.errand_steps.specs.tables.Blocks.{block_event}
use Rattle.errand_steps.specs.tables.Stacks.{stack_event, empty_event}
use Rattle.errand_steps.specs.tables.LargeBlocks.{large_event, GoesLarge}
use Rattle.sound_state.specs.Sound.{TellsCounted}
use Rattle.sound_state.proofs.shared.PointLemmas.{fits-at}
use Rattle.sound_state.proofs.shared.StackedLemmas.{stacked-none}
use Rattle.sound_state.proofs.shared.StepLemmas.{found_from}

-- the event, if there is one, has its number
abbrev HasCount : Geometry → Pool → Option Event → Type 0
HasCount g pool None = Unit {0}
HasCount g pool (Some e) = IsCounted g pool e

-- a look has its number where the class's list is empty and nothing is held; a refusal where no frame is left or held
abbrev LooksWorn : Geometry → State → Lists → Holding → Type 0
LooksWorn g s l h =
    (class : ℕ) → class < CLASSES → l.partials class ≡ [] → h.kept ≡ [] → h.credits ≡ [] → IsWorn g (pool_of s.history) class

abbrev RefusesCrowded : Geometry → State → Lists → Holding → Type 0
RefusesCrowded g s l h = l.frames ≡ [] → h.frames ≡ [] → h.credits ≡ [] → IsCrowded g (pool_of s.history)

-- a head that is found again has the top that it had: none
found-top : (word : ℕ) (h : HeadFields) → IsHead h → h.top ≡ 0 → (word == head_word h) ≡ true → (head_of word).top ≡ 0
found-top word h head none won =
    ap (λ w. (head_of w).top) (eqb-true word (head_word h) won) ∙ ap (λ x. x.top) (head_of-head_word h head) ∙ none

-- a point in a superblock tells no look and no refusal
block-tells : (g : Geometry) (pool : Pool) (caller words : ℕ) (p : BlockPoint) → HasCount g pool (block_event caller words p)
block-tells g pool caller words p = grind (arith)

-- a refusal at a large block is of a large need, and needs no count
large-tells : (g : Geometry) (pool : Pool) (caller : ℕ) (p : LargePoint) (o : Continuation) → GoesLarge p o → HasCount g pool (large_event caller (asked o) p)
large-tells g pool caller p o goes = grind (arith, goes)

-- crowded is enough for a refusal of any need
refuses : (g : Geometry) (pool : Pool) (need : Need) → IsCrowded g pool → IsCountedFor g pool need
refuses g pool need crowded = grind (arith, crowded)

-- what a confirmation that a stack is empty tells has its number
confirms-tells :
    (g : Geometry) (s : State) (l : Lists) (caller : ℕ) (seat : SeatFields) (pile : Pile) (h : HeadFields) (o : Continuation) → IsSoundWith g s l
    → IsBare g caller seat h → IsTrue (confirms pile o) → LooksWorn g s l (continuation_holds seat o) → RefusesCrowded g s l (continuation_holds seat o)
    → (s.word (head_name seat pile) == head_word h) ≡ true → IsCounted g (pool_of s.history) (empty_event caller (asked o) pile seat.class)
confirms-tells g s l caller seat pile h o sound bare goes worn crowded won =
    grind (arith, sound, bare, goes, worn, crowded, won, stacked-none, found-top, refuses)

stack-tells :
    (g : Geometry) (s : State) (l : Lists) (caller : ℕ) (p : StackPoint) (o : Continuation) → IsSoundWith g s l → FitsInStack g caller p o
    → LooksWorn g s l (stack_holds p o) → RefusesCrowded g s l (stack_holds p o) → (found_from s (point.Stack p o)).won ≡ true
    → HasCount g (pool_of s.history) (stack_event caller (asked o) p)
unfolding plan_point_of
stack-tells g s l caller p o sound fits worn crowded won = grind (arith, sound, fits, worn, crowded, won, confirms-tells)

-- what a step at any point tells that isn't lost has its number
point-tells :
    (g : Geometry) (s : State) (l : Lists) (caller : ℕ) (p : Point) → IsSoundWith g s l → FitsPoint g caller p
    → LooksWorn g s l (holds_of p) → RefusesCrowded g s l (holds_of p) → (found_from s p).won ≡ true
    → HasCount g (pool_of s.history) (won_event caller p)
unfolding holds_of
point-tells g s l caller p sound fits worn crowded won = grind (arith, sound, fits, worn, crowded, won, block-tells, stack-tells, large-tells)

-- a step that is lost tells nothing, and so has its number where a won one has it
won-counts :
    (g : Geometry) (pool : Pool) (won : Bool) (told : Option Event) (e : Event) → (won ≡ true → HasCount g pool told)
    → (if won then told else None) ≡ Some e → IsCounted g pool e
won-counts g pool true told e counts is = subst (HasCount g pool) is (counts refl)
won-counts g pool false told e counts is = absurd (none-some e is)

-- what a caller tells next has its number, where the two counts hold
pub tells-counted :
    (g : Geometry) (s : State) (l : Lists) (caller : ℕ) → IsSoundWith g s l → caller < g.callers
    → ((class : ℕ) → class < CLASSES → l.partials class ≡ [] → (holds_of (s.errand caller).point).kept ≡ []
    → (holds_of (s.errand caller).point).credits ≡ [] → IsWorn g (pool_of s.history) class)
    → (l.frames ≡ [] → (holds_of (s.errand caller).point).frames ≡ [] → (holds_of (s.errand caller).point).credits ≡ []
    → IsCrowded g (pool_of s.history)) → TellsCounted g s caller
unfolding event_of
tells-counted g s l caller sound has worn crowded e is =
    let p = (s.errand caller).point in
    won-counts g (pool_of s.history) (found_at s caller).won (won_event caller p) e
    (λ won. point-tells g s l caller p sound (fits-at g s l caller p sound has refl) worn crowded won) is
