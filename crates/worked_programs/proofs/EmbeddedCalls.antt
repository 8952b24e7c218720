-- The program's calls are whole calls, one after the other, and its blocks stay its own meanwhile.
use Rattle.std.proofs.Common.{ℕ, ◌≡◌, ◌≢◌, ◌≤◌, List, [], ◌∷◌, ◌++◌, Result, Ok, Err, IfErr, IsErrAnd, refl, sym, ◌∙◌, subst}
use Rattle.heap_geometry.specs.declared.need.Need.{Need}
use Rattle.heap_geometry.specs.Need.{usable_words}
use Rattle.errand_steps.specs.declared.reply.Reply.{Reply}
use Rattle.errand_steps.specs.declared.reply.Reply.TheVariants as reply
use Rattle.errand_steps.specs.Begins.{IsIdle}
use Rattle.errand_steps.specs.Calls.{Call, alloc, read, take, write}
use Rattle.errand_steps.specs.Errands.{ErrandFields}
use Rattle.sound_laws.specs.events.Made.{LeadsBy, Made, answered}
use Rattle.step_machine.specs.Cores.{OwnsAfter}
use Rattle.step_machine.specs.Keeping.{Hands, LeavesPlace}
use Rattle.live_heap.specs.Heaps.{HeapFields}
use Rattle.live_heap.specs.declared.pass.Pass.{Pass}
use Rattle.live_heap.specs.Answers.{IsContents}
use Rattle.live_heap.specs.Calls.{HasCalled}
use Rattle.live_heap.specs.Passes.{IsFresh, IsOf, OwnsAt, seen}
use Rattle.live_heap.specs.Whole.{IsAtRest, IsWhole, OwnsFor, by_steps}
use Rattle.live_heap.specs.Words.{TellsContents}
use Rattle.worked_programs.specs.declared.embedded.Stop.{Stop}
use Rattle.worked_programs.specs.Embedded.{HasStopped, Makes, Stops}
use Rattle.worked_programs.proofs.EmbeddedCounts.{called-of}
use Rattle.worked_programs.proofs.EmbeddedWays.{HasEnough}
use Rattle.worked_programs.proofs.HomeLemmas.{home-where, whole-out}

-- the caller of the pass owns the block that lies there, whether or not its words are home
abbrev pub OwnsThere : Pass → ℕ → Need → Type 0
OwnsThere p place need = OwnsAfter (seen p) p.errand.caller place need

-- the laws of whole calls on which these lemmas stand
abbrev pub KeepsBlocks : Type 0
KeepsBlocks =
    (h k : HeapFields) (p q : Pass) (call : Call) (answer : Reply) (place : ℕ) (need : Need) → IsWhole h p call answer k q → LeavesPlace call place
    → OwnsThere p place need → OwnsThere q place need

abbrev pub HandsBlocks : Type 0
HandsBlocks =
    (h k : HeapFields) (p q : Pass) (call : Call) (answer : Reply) (place : ℕ) (need : Need) → IsWhole h p call answer k q → Hands answer place need
    → OwnsThere q place need

abbrev pub HandsOthers : Type 0
HandsOthers =
    (h k : HeapFields) (p q : Pass) (call : Call) (answer : Reply) (place other : ℕ) (need had : Need) → IsWhole h p call answer k q
    → Hands answer place need → OwnsThere p other had → other ≢ place

pub rest-of : (h : HeapFields) (p q : Pass) (call : Call) (answer : Reply) → Makes h p call answer q → IsAtRest h q
rest-of h p q call answer made = let (whole, tells) = made in let (by, owned, same, rest) = whole in rest

pub fresh-rest : (h : HeapFields) (p : Pass) → IsFresh h p → IsAtRest h p
fresh-rest h p fresh = (fresh.of, subst (λ (e : ErrandFields). IsIdle e) (sym fresh.errand) refl)

pub makes-of :
    (h : HeapFields) (p q : Pass) (call : Call) (answer : Reply) (steps : ℕ) → HasCalled p call steps answer q → OwnsFor p call → IsOf h q
    → TellsContents call answer q → Makes h p call answer q
makes-of h p q call answer steps called owned of tells = ((by_steps (steps, called), owned, refl, (of, called.idle)), tells)

pub given-words :
    (h : HeapFields) (p q : Pass) (words place : ℕ) (need : Need) → HasEnough → Makes h p (alloc words) (reply.Given place need) q → words ≤ usable_words need
given-words h p q words place need enough made =
    let called = called-of p q (alloc words) (reply.Given place need) made.0.0 (λ (e : reply.Given place need ≡ reply.Spent). cc) in
    enough p q words called.0 place need called.1

-- no block's words are out behind a call where none were before
pub none-out : (h : HeapFields) (p q : Pass) (call : Call) (answer : Reply) → IsOf h p → p.out ≡ 0 → Makes h p call answer q → q.out ≡ 0
none-out h p q call answer of out made = whole-out h p q call answer of made.0 ∙ out

-- so a block that a call hands out, and one that it leaves, is the pass's, and its words are home
handed-owned :
    (h : HeapFields) (p q : Pass) (call : Call) (answer : Reply) (place : ℕ) (need : Need) → HandsBlocks → IsOf h p → p.out ≡ 0 → Makes h p call answer q
    → Hands answer place need → OwnsAt q place need
handed-owned h p q call answer place need hands of out made is =
    (hands h h p q call answer place need made.0 is, home-where h q place (rest-of h p q call answer made).0 (none-out h p q call answer of out made))

kept-owned :
    (h : HeapFields) (p q : Pass) (call : Call) (answer : Reply) (place : ℕ) (need : Need) → KeepsBlocks → IsOf h p → p.out ≡ 0 → Makes h p call answer q
    → LeavesPlace call place → OwnsAt p place need → OwnsAt q place need
kept-owned h p q call answer place need keeps of out made leaves owned = (
  keeps h h p q call answer place need made.0 leaves owned.0,
  home-where h q place (rest-of h p q call answer made).0 (none-out h p q call answer of out made),
)

pub given-owned :
    (h : HeapFields) (p q : Pass) (words place : ℕ) (need : Need) → HandsBlocks → IsOf h p → p.out ≡ 0
    → Makes h p (alloc words) (reply.Given place need) q → OwnsAt q place need
given-owned h p q words place need hands of out made =
    handed-owned h p q (alloc words) (reply.Given place need) place need hands of out made (refl, refl)

push :
    (h : HeapFields) (p q r : Pass) (calls : List Made) (call : Call) (answer : Reply) → LeadsBy (Makes h) p calls q → Makes h q call answer r
    → LeadsBy (Makes h) p (calls ++ answered call answer ∷ []) r
push h p q r [] call answer is made = (r, subst (λ (x : Pass). Makes h x call answer r) is made, refl)
push h p q r (first ∷ calls) call answer leads made =
    let (next, m, rest) = leads in (next, m, push h next q r calls call answer rest made)

-- a pass has made these calls since it stood as `from`, is in none, has no block's words out, and owns the block that lies there
pub record Has (h : HeapFields) (from : Pass) (calls : List Made) (p : Pass) (place : ℕ) (need : Need) : Type 0 where
  pub made : LeadsBy (Makes h) from calls p
  pub rest : IsAtRest h p
  pub out : p.out ≡ 0
  pub owned : OwnsAt p place need

-- a call more, which leaves the block
pub has-more :
    (h : HeapFields) (from p q : Pass) (calls : List Made) (place : ℕ) (need : Need) (call : Call) (answer : Reply) → KeepsBlocks
    → Has h from calls p place need → LeavesPlace call place → Makes h p call answer q → Has h from (calls ++ answered call answer ∷ []) q place need
has-more h from p q calls place need call answer keeps has leaves made = record {
  made = push h from p q calls call answer has.made made;
  rest = rest-of h p q call answer made;
  out = none-out h p q call answer has.rest.0 has.out made;
  owned = kept-owned h p q call answer place need keeps has.rest.0 has.out made leaves has.owned;
}

-- an allocation and a write of its block
pub has-written :
    (h : HeapFields) (p q r : Pass) (words place : ℕ) (need : Need) (i v : ℕ) → KeepsBlocks → HandsBlocks → IsOf h p → p.out ≡ 0
    → Makes h p (alloc words) (reply.Given place need) q → HasCalled q (write place need i v) 0 reply.Wrote r → IsOf h r
    → Has h p (answered (alloc words) (reply.Given place need) ∷ answered (write place need i v) reply.Wrote ∷ []) r place need
has-written h p q r words place need i v keeps hands was none made wrote of =
    let owned = given-owned h p q words place need hands was none made in
    let still = (rest-of h p q (alloc words) (reply.Given place need) made).0 in
    let out = none-out h p q (alloc words) (reply.Given place need) was none made in
    let m2 = makes-of h q r (write place need i v) reply.Wrote 0 wrote owned of tt in
    record {
      made = (q, made, (r, m2, refl));
      rest = (of, wrote.idle);
      out = none-out h q r (write place need i v) reply.Wrote still out m2;
      owned = kept-owned h q r (write place need i v) reply.Wrote place need keeps still out m2 tt owned;
    }

-- behind a first block another one is given and written, and the first one stays
pub has-both :
    (h : HeapFields) (from p q r : Pass) (calls : List Made) (place words other : ℕ) (need wide : Need) (i v : ℕ) → KeepsBlocks → HandsBlocks
    → Has h from calls p place need → Makes h p (alloc words) (reply.Given other wide) q
    → HasCalled q (write other wide i v) 0 reply.Wrote r → IsOf h r
    → Has h from ((calls ++ answered (alloc words) (reply.Given other wide) ∷ []) ++ answered (write other wide i v) reply.Wrote ∷ []) r place need
has-both h from p q r calls place words other need wide i v keeps hands has made wrote of =
    let given = has-more h from p q calls place need (alloc words) (reply.Given other wide) keeps has tt made in
    let m = makes-of h q r (write other wide i v) reply.Wrote 0 wrote (given-owned h p q words other wide hands has.rest.0 has.out made) of tt in
    has-more h from q r (calls ++ answered (alloc words) (reply.Given other wide) ∷ []) place need (write other wide i v) reply.Wrote keeps given tt m

-- a block that is taken from the shelf
pub has-taken :
    (h : HeapFields) (p q : Pass) (shelf place : ℕ) (need : Need) → HandsBlocks → IsOf h p → p.out ≡ 0
    → Makes h p (take shelf) (reply.Got place need) q → Has h p (answered (take shelf) (reply.Got place need) ∷ []) q place need
has-taken h p q shelf place need hands of out made = record {
  made = (q, made, refl);
  rest = rest-of h p q (take shelf) (reply.Got place need) made;
  out = none-out h p q (take shelf) (reply.Got place need) of out made;
  owned = handed-owned h p q (take shelf) (reply.Got place need) place need hands of out made (refl, refl);
}

-- one more read of the block
pub has-read :
    (h : HeapFields) (from p q : Pass) (calls : List Made) (place : ℕ) (need : Need) (i word : ℕ) → KeepsBlocks → Has h from calls p place need
    → HasCalled p (read place need i) 0 (reply.Word word) q → IsOf h q → IsContents q place i word
    → Has h from (calls ++ answered (read place need i) (reply.Word word) ∷ []) q place need
has-read h from p q calls place need i word keeps has called of contents =
    has-more h from p q calls place need (read place need i) (reply.Word word) keeps has tt
    (makes-of h p q (read place need i) (reply.Word word) 0 called has.owned of contents)

-- the call behind the calls of a pass is the last one, or was answered so that the program goes no further
pub ends-behind :
    (h : HeapFields) (from p q : Pass) (calls : List Made) (place : ℕ) (need : Need) (call : Call) (answer : Reply) → Has h from calls p place need
    → Makes h p call answer q → LeadsBy (Makes h) from (calls ++ answered call answer ∷ []) q
ends-behind h from p q calls place need call answer has made = push h from p q calls call answer has.made made

pub stops-behind :
    (h : HeapFields) (from p q : Pass) (calls : List Made) (place : ℕ) (need : Need) (IsNext : List Made → Call → Type 0) (call : Call) (stop : Stop)
    → Has h from calls p place need → IsNext calls call → Stops h p call stop q → HasStopped h from IsNext stop q
stops-behind h from p q calls place need IsNext call stop has next stops =
    record { calls = calls; last = p; made = has.made; call = call; next = next; stops = stops }

-- an error that goes on through a `?`
pub err-as : {A : Type 0} (r : Result A Stop) (stop : Stop) (P : Stop → Type 0) → IsErrAnd r (λ s. s ≡ stop) → P stop → IfErr r P
err-as (Ok x) stop P is had = absurd is
err-as (Err s) stop P is had = subst P (sym is) had
