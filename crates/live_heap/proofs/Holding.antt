-- The blocks of a hand stay its own through calls, but for the one that a free or a put is about.
use Rattle.std.proofs.Common.{ℕ, suc, ◌≡◌, ◌≢◌, ◌<◌, ◌+◌, inl, inr, List, [], ◌∷◌, ◌++◌, Result, Ok, Err, length, take, drop, slice_index_or, sym, ap, ◌∙◌, subst, append-nil, true≢false}
use Rattle.std.specs.Prelude.{All, IfOk}
use Rattle.std.specs.Result.{IfErr}
use Rattle.std.proofs.lemmas.List.{take-append-drop, drop_more}
use Rattle.std.proofs.lemmas.List.Elements.{All-nil, All-cons, All-head, All-tail, All-push}
use Rattle.errand_steps.specs.declared.reply.Reply.{Reply}
use Rattle.errand_steps.specs.declared.reply.Reply.TheVariants as reply
use Rattle.errand_steps.specs.Begins.{IsBusy, IsIdle}
use Rattle.errand_steps.specs.Calls.{Call, alloc, free, put, take as take_call}
use Rattle.errand_steps.specs.Errands.{ErrandFields}
use Rattle.step_machine.specs.Keeping.{LeavesPlace}
use Rattle.live_heap.specs.declared.answers.AllocAnswer.{AllocAnswer}
use Rattle.live_heap.specs.declared.answers.AllocAnswer.TheVariants as alloc_answer
use Rattle.live_heap.specs.declared.answers.FreeAnswer.{FreeAnswer}
use Rattle.live_heap.specs.declared.answers.FreeAnswer.TheVariants as free_answer
use Rattle.live_heap.specs.declared.answers.Full.{Full}
use Rattle.live_heap.specs.declared.answers.Resumed.{Resumed}
use Rattle.live_heap.specs.declared.answers.Resumed.TheVariants as resumed
use Rattle.live_heap.specs.declared.answers.Taken.{Taken}
use Rattle.live_heap.specs.declared.answers.Taken.TheVariants as taken
use Rattle.live_heap.specs.declared.block.Block.{Block}
use Rattle.live_heap.specs.Heaps.{HeapFields}
use Rattle.live_heap.specs.declared.pass.Pass.{Pass}
use Rattle.live_heap.specs.Answers.{AllocTells, FreeTells, IsTried, PutTellsFull, ResumeTells, TakeTells}
use Rattle.live_heap.specs.Calls.{EndsInTime, HasCalled, IsCalling, IsInterrupted}
use Rattle.live_heap.specs.Hands.{IsHand, IsWaiting, given_by, resumed_by, returned_by, taken_by}
use Rattle.live_heap.specs.Holdings.{Holds}
use Rattle.live_heap.specs.Passes.{IsOf, Owns}
use Rattle.live_heap.proofs.LawsKept.{called-given, called-got, called-keeps}

-- who is idle isn't busy
pub idle-free : (e : ErrandFields) → IsIdle e → IsBusy e → ⊥
idle-free e idle busy = true≢false (sym idle ∙ busy)

-- blocks that are kept one by one are held on
pub holds-kept :
    (L : Block → Type 0) (p q : Pass) → ((block : Block) → L block → Owns p block → Owns q block)
    → (blocks : List Block) → All L blocks → Holds p blocks → Holds q blocks
holds-kept L p q keep [] left held = tt
holds-kept L p q keep (b ∷ bs) left held =
    (keep b (All-head L b bs left) held.0, held.1, holds-kept L p q keep bs (All-tail L b bs left) held.2)

-- what is so of each owned block is so of all that are held
pub holds-all : (p : Pass) (P : Block → Type 0) → ((block : Block) → Owns p block → P block) → (blocks : List Block) → Holds p blocks → All P blocks
holds-all p P each [] held = All-nil P
holds-all p P each (b ∷ bs) held = All-cons P b bs (each b held.0) (holds-all p P each bs held.2)

-- a block that lies elsewhere can be added
holds-push :
    (p : Pass) (block : Block) → Owns p block → (blocks : List Block) → All (λ other. other.place ≢ block.place) blocks
    → Holds p blocks → Holds p (blocks ++ block ∷ [])
holds-push p block owns [] apart held = (owns, All-nil _, tt)
holds-push p block owns (b ∷ bs) apart held =
    let here : b.place ≢ block.place = All-head (λ (other : Block). other.place ≢ block.place) b bs apart in (
      held.0,
      All-push (λ (other : Block). other.place ≢ b.place) bs block held.1 (λ same. here (sym same)),
      holds-push p block owns bs (All-tail (λ (other : Block). other.place ≢ block.place) b bs apart) held.2,
    )

-- what is so of all blocks is so of one, and of the others
pub all-out : (P : Block → Type 0) (before after : List Block) (block : Block) → All P (before ++ block ∷ after) → P block × All P (before ++ after)
all-out P [] after block all = (All-head P block after all, All-tail P block after all)
all-out P (b ∷ bs) after block all =
    let rest = all-out P bs after block (All-tail P b (bs ++ block ∷ after) all) in
    (rest.0, All-cons P b (bs ++ after) (All-head P b (bs ++ block ∷ after) all) rest.1)

-- a block that is taken out of the hand is owned, it lies apart from the others, and these are held
pub holds-out :
    (p : Pass) (before after : List Block) (block : Block) → Holds p (before ++ block ∷ after)
    → Owns p block × All (λ other. other.place ≢ block.place) (before ++ after) × Holds p (before ++ after)
holds-out p [] after block held = held
holds-out p (b ∷ bs) after block held =
    let rest = holds-out p bs after block held.2 in
    let out = all-out (λ other. other.place ≢ b.place) bs after block held.1 in (
      rest.0,
      All-cons (λ (other : Block). other.place ≢ block.place) b (bs ++ after) (λ same. out.0 (sym same)) rest.1,
      (held.0, out.1, rest.2),
    )

-- what is so of a block and of the others is so of all; a block that is owned and lies apart joins the hand
pub all-in : (P : Block → Type 0) (before after : List Block) (block : Block) → P block → All P (before ++ after) → All P (before ++ block ∷ after)
all-in P [] after block here all = All-cons P block after here all
all-in P (b ∷ bs) after block here all =
    All-cons P b (bs ++ block ∷ after) (All-head P b (bs ++ after) all) (all-in P bs after block here (All-tail P b (bs ++ after) all))

pub holds-in :
    (p : Pass) (before after : List Block) (block : Block)
    → Owns p block × All (λ other. other.place ≢ block.place) (before ++ after) × Holds p (before ++ after) → Holds p (before ++ block ∷ after)
holds-in p [] after block held = held
holds-in p (b ∷ bs) after block held =
    let here : b.place ≢ block.place = All-head (λ (other : Block). other.place ≢ block.place) b (bs ++ after) held.1 in
    let rest : Holds p (b ∷ bs ++ after) = held.2 in (
      rest.0,
      all-in (λ other. other.place ≢ b.place) bs after block (λ same. here (sym same)) rest.1,
      holds-in p bs after block (held.0, All-tail (λ (other : Block). other.place ≢ block.place) b (bs ++ after) held.1, rest.2),
    )

-- a list and its element at a number
at-split : (blocks : List Block) (number : ℕ) (block : Block) → number < length blocks → block ≡ slice_index_or blocks number block
    → blocks ≡ take number blocks ++ block ∷ drop (number + 1) blocks
at-split blocks number block within is =
    sym (take-append-drop number blocks)
    ∙ ap (λ (rest : List Block). take number blocks ++ rest)
    (drop_more blocks number block within ∙ ap (λ (x : Block). x ∷ drop (number + 1) blocks) (sym is))

-- the block at a number of the hand is owned
pub holds-at :
    (p : Pass) (blocks : List Block) (number : ℕ) (block : Block) → number < length blocks → block ≡ slice_index_or blocks number block
    → Holds p blocks → Owns p block
holds-at p blocks number block within is held =
    (holds-out p (take number blocks) (drop (number + 1) blocks) block (subst (Holds p) (at-split blocks number block within is) held)).0

-- the hand is held without the block at a number
pub holds-removed :
    (p : Pass) (blocks rest : List Block) (number : ℕ) (block : Block) → number < length blocks → block ≡ slice_index_or blocks number block
    → rest ≡ take number blocks ++ drop (number + 1) blocks → Holds p blocks
    → Owns p block × All (λ other. other.place ≢ block.place) rest × Holds p rest
holds-removed p blocks rest number block within is left held =
    subst (λ (bs : List Block). Owns p block × All (λ other. other.place ≢ block.place) bs × Holds p bs) (sym left)
    (holds-out p (take number blocks) (drop (number + 1) blocks) block (subst (Holds p) (at-split blocks number block within is) held))

-- a call that has ended leaves in the hand what it gives not away
pub ended-hand :
    (h : HeapFields) (p q : Pass) (blocks : List Block) (call : Call) (steps : ℕ) (answer : Reply) → IsOf h p → IsOf h q
    → HasCalled p call steps answer q → All (λ block. LeavesPlace call block.place) blocks → Holds p blocks → IsHand h q blocks
ended-hand h p q blocks call steps answer of of_new called leaves held =
    record {
      of = of_new;
      holds = λ idle.
          holds-kept (λ block. LeavesPlace call block.place) p q
          (λ block left owns. called-keeps h p q call steps answer block of of_new called left owns) blocks leaves held;
      waits = λ busy. absurd (idle-free q.errand called.idle busy);
    }

-- calls that leave the pass each of its blocks leave the hand
pub kept-hand :
    (h : HeapFields) (p q : Pass) (blocks : List Block) → IsOf h q → IsIdle q.errand → ((block : Block) → Owns p block → Owns q block)
    → Holds p blocks → IsHand h q blocks
kept-hand h p q blocks of idle keeps held =
    record {
      of = of;
      holds = λ still. holds-kept (Owns p) p q (λ block owned. keeps block) blocks (holds-all p (Owns p) (λ block owns. owns) blocks held) held;
      waits = λ busy. absurd (idle-free q.errand idle busy);
    }

-- a block that lies apart from the others is added to the hand
pub brought-hand :
    (h : HeapFields) (q : Pass) (blocks : List Block) (block : Block) → IsIdle q.errand → Owns q block
    → All (λ other. other.place ≢ block.place) blocks → IsHand h q blocks → IsHand h q (blocks ++ block ∷ [])
brought-hand h q blocks block idle owns apart hand =
    record {
      of = hand.of;
      holds = λ still. holds-push q block owns blocks apart (hand.holds idle);
      waits = λ busy. absurd (idle-free q.errand idle busy);
    }

-- a call that is interrupted waits with the blocks that it doesn't give away
pub interrupted-hand :
    (h : HeapFields) (first p q : Pass) (blocks : List Block) (call : Call) (made tries : ℕ) → IsOf h first → IsOf h q
    → IsInterrupted first call made p tries q → IsTried call → All (λ block. LeavesPlace call block.place) blocks → Holds first blocks
    → IsHand h q blocks
interrupted-hand h first p q blocks call made tries of of_new i tried leaves held =
    record {
      of = of_new;
      holds = λ idle. absurd (idle-free q.errand idle i.calling.busy);
      waits = λ busy.
          record {
            first = first;
            of = of;
            holds = held;
            call = call;
            steps = suc i.steps;
            calling = i.calling;
            tried = tried;
            leaves = leaves;
          };
    }

-- a hand to which nothing comes
pub plus-nothing : (h : HeapFields) (q : Pass) (blocks : List Block) → IsHand h q blocks → IsHand h q (blocks ++ [])
plus-nothing h q blocks hand = subst (IsHand h q) (sym (append-nil blocks)) hand

-- an allocation gives no block away
alloc-leaves : (need : ℕ) (blocks : List Block) → All (λ block. LeavesPlace (alloc need) block.place) blocks
alloc-leaves need blocks k d within = tt

-- a resumed or a first allocation or free: what it was given is in the hand
pub resume-hand :
    (h : HeapFields) (first p q : Pass) (blocks : List Block) (call : Call) (made tries : ℕ) (answer : Resumed) → IsOf h first → IsOf h q
    → ResumeTells first call made p tries answer q → IsTried call → All (λ block. LeavesPlace call block.place) blocks → Holds first blocks
    → IsHand h q (blocks ++ resumed_by answer)
resume-hand h first p q blocks call made tries (resumed.Given block) of of_new tells tried leaves held =
    let e : EndsInTime first call made p tries (reply.Given block.place block.need) q = tells.0 in
    brought-hand h q blocks block e.called.idle tells.1
    (holds-all first (λ other. other.place ≢ block.place)
    (λ other owns. called-given h first q call e.steps block.place block.need other of of_new e.called owns) blocks held)
    (ended-hand h first q blocks call e.steps _ of of_new e.called leaves held)
resume-hand h first p q blocks call made tries resumed.Freed of of_new tells tried leaves held =
    plus-nothing h q blocks (ended-hand h first q blocks call tells.steps _ of of_new tells.called leaves held)
resume-hand h first p q blocks call made tries resumed.Refused of of_new tells tried leaves held =
    plus-nothing h q blocks (ended-hand h first q blocks call tells.steps _ of of_new tells.called leaves held)
resume-hand h first p q blocks call made tries resumed.Spent of of_new tells tried leaves held =
    plus-nothing h q blocks (ended-hand h first q blocks call tells.0.steps _ of of_new tells.0.called leaves held)
resume-hand h first p q blocks call made tries resumed.Busy of of_new tells tried leaves held =
    plus-nothing h q blocks (interrupted-hand h first p q blocks call made tries of of_new tells tried leaves held)

-- a resumed call that was waiting: what it was given is in the hand
pub waiting-hand :
    (h : HeapFields) (p q : Pass) (blocks : List Block) (tries : ℕ) (answer : Resumed) → IsWaiting h p blocks → IsOf h q
    → ((first : Pass) (call : Call) (made : ℕ) → IsOf h first → IsCalling first call made p → ResumeTells first call made p tries answer q)
    → IsHand h q (blocks ++ resumed_by answer)
waiting-hand h p q blocks tries answer w of_new tells =
    resume-hand h w.first p q blocks w.call w.steps tries answer w.of of_new (tells w.first w.call w.steps w.of w.calling) w.tried w.leaves w.holds

-- the hand of an idle pass that has changed in nothing
same-hand : (h : HeapFields) (p q : Pass) (blocks : List Block) → q ≡ p → IsIdle p.errand → IsOf h q → Holds p blocks → IsHand h q (blocks ++ [])
same-hand h p q blocks same idle of_new held =
    plus-nothing h q blocks
    (record {
      of = of_new;
      holds = λ still. subst (λ (x : Pass). Holds x blocks) (sym same) held;
      waits = λ busy. absurd (idle-free p.errand idle (subst (λ (x : Pass). IsBusy x.errand) same busy));
    })

-- the hand behind an allocation: what it was given is in it
pub alloc-hand :
    (h : HeapFields) (p q : Pass) (blocks : List Block) (need tries : ℕ) (answer : AllocAnswer Block) → IsOf h p → IsIdle p.errand → Holds p blocks
    → IsOf h q → AllocTells p need tries answer q → IsHand h q (blocks ++ given_by answer)
alloc-hand h p q blocks need tries (alloc_answer.Given block) of idle held of_new tells =
    resume-hand h p p q blocks (alloc need) 0 tries (resumed.Given block) of of_new tells tt (alloc-leaves need blocks) held
alloc-hand h p q blocks need tries alloc_answer.Refused of idle held of_new tells =
    resume-hand h p p q blocks (alloc need) 0 tries resumed.Refused of of_new tells tt (alloc-leaves need blocks) held
alloc-hand h p q blocks need tries alloc_answer.TooLarge of idle held of_new tells = same-hand h p q blocks tells idle of_new held
alloc-hand h p q blocks need tries alloc_answer.Spent of idle held of_new (inl at_once) = same-hand h p q blocks at_once.same idle of_new held
alloc-hand h p q blocks need tries alloc_answer.Spent of idle held of_new (inr later) =
    resume-hand h p p q blocks (alloc need) 0 tries resumed.Spent of of_new later tt (alloc-leaves need blocks) held
alloc-hand h p q blocks need tries alloc_answer.Busy of idle held of_new tells =
    resume-hand h p p q blocks (alloc need) 0 tries resumed.Busy of of_new tells tt (alloc-leaves need blocks) held

-- the hand behind a free of a block that lies apart from the others
pub free-hand :
    (h : HeapFields) (p q : Pass) (blocks : List Block) (block : Block) (tries : ℕ) (answer : FreeAnswer) → IsOf h p
    → All (λ other. other.place ≢ block.place) blocks → Holds p blocks → IsOf h q → FreeTells p block tries answer q → IsHand h q blocks
free-hand h p q blocks block tries free_answer.Freed of apart held of_new tells =
    ended-hand h p q blocks (free block.place block.need) tells.steps _ of of_new tells.called apart held
free-hand h p q blocks block tries free_answer.Busy of apart held of_new tells =
    interrupted-hand h p p q blocks (free block.place block.need) 0 tries of of_new tells tt apart held

-- the hand behind a put, from which the block may come back
pub put-hand :
    {A : Type 0} (h : HeapFields) (p q : Pass) (blocks : List Block) (block : Block) (shelf : ℕ) (answer : Result A Full) → IsOf h p
    → All (λ other. other.place ≢ block.place) blocks → Holds p blocks → IsOf h q
    → IfOk answer (λ _. HasCalled p (put block.place block.need shelf) 0 reply.Put q)
    → IfErr answer (λ full. PutTellsFull p block shelf full q) → IsHand h q (blocks ++ returned_by answer)
put-hand h p q blocks block shelf (Ok _) of apart held of_new lies back =
    plus-nothing h q blocks (ended-hand h p q blocks (put block.place block.need shelf) 0 _ of of_new lies apart held)
put-hand h p q blocks block shelf (Err full) of apart held of_new lies back =
    brought-hand h q blocks full.block back.called.idle back.owned
    (subst (λ (x : Block). All (λ other. other.place ≢ x.place) blocks) (sym back.same) apart)
    (ended-hand h p q blocks (put block.place block.need shelf) 0 _ of of_new back.called apart held)

-- the hand behind a take: what it got is in it
pub take-hand :
    (h : HeapFields) (p q : Pass) (blocks : List Block) (shelf : ℕ) (answer : Taken Block) → IsOf h p → Holds p blocks → IsOf h q
    → TakeTells p shelf answer q → IsHand h q (blocks ++ taken_by answer)
take-hand h p q blocks shelf (taken.Got block) of held of_new tells =
    brought-hand h q blocks block tells.0.idle tells.1
    (holds-all p (λ other. other.place ≢ block.place)
    (λ other owns. called-got h p q (take_call shelf) 1 block.place block.need other of of_new tells.0 owns) blocks held)
    (ended-hand h p q blocks (take_call shelf) 1 _ of of_new tells.0 (λ k d within. tt) held)
take-hand h p q blocks shelf taken.Empty of held of_new tells =
    plus-nothing h q blocks (ended-hand h p q blocks (take_call shelf) 1 _ of of_new tells (λ k d within. tt) held)
take-hand h p q blocks shelf (taken.Missed expected found) of held of_new tells =
    plus-nothing h q blocks (ended-hand h p q blocks (take_call shelf) 1 _ of of_new tells.0 (λ k d within. tt) held)
