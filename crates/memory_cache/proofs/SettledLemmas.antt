-- A pass whose blocks have all their words out, through the calls of its heap.
use Rattle.std.proofs.Common.{ℕ, zero, suc, ◌≡◌, ◌≢◌, List, [], ◌∷◌, Option, Some, None, refl, sym, ap, ◌∙◌, subst, inl, inr, arith, length, true, false, true≢false, eq-eqb, ne_eqb}
use Rattle.std.proofs.lemmas.Bool.{cases_Bool, cases_eq}
use Rattle.std.proofs.lemmas.List.Elements.{All-nil}
use Rattle.std.proofs.lemmas.Option.{none-some}
use mathlib.Core.Option.{some, some-injective, some-ne-none}
use lib.ListN.{get_elem?}
use Rattle.heap_geometry.specs.declared.need.Need.{Need}
use Rattle.pool_model.specs.declared.event.Event.{Event}
use Rattle.pool_model.specs.Pool.{Block as PoolBlock, fresh_block}
use Rattle.errand_steps.specs.declared.reply.Reply.TheVariants as reply
use Rattle.errand_steps.specs.Begins.{IsBusy, IsIdle}
use Rattle.errand_steps.specs.Errands.{ErrandFields}
use Rattle.errand_steps.specs.Points.{is_idle}
use Rattle.errand_steps.specs.Calls.{Call, alloc, free, write}
use Rattle.sound_laws.specs.events.Made.{LeadsBy}
use Rattle.live_heap.specs.declared.answers.AllocAnswer.{AllocAnswer}
use Rattle.live_heap.specs.declared.answers.AllocAnswer.TheVariants as alloc_answer
use Rattle.live_heap.specs.declared.answers.Resumed.{Resumed}
use Rattle.live_heap.specs.declared.answers.Resumed.TheVariants as resumed
use Rattle.live_heap.specs.declared.block.Block.{Block}
use Rattle.live_heap.specs.Heaps.{HeapFields}
use Rattle.live_heap.specs.declared.pass.Pass.{Pass}
use Rattle.live_heap.specs.declared.plain.Memory.{Memory}
use Rattle.live_heap.specs.declared.view.Lent.{Lent}
use Rattle.live_heap.specs.Answers.{AllocTells, IsResumable, IsTried, ResumeTells}
use Rattle.live_heap.specs.Calls.{HasCalled, IsCalling}
use Rattle.live_heap.specs.Contents.{OwnsBut, OwnsSame, owned_after, owned_in}
use Rattle.live_heap.specs.Holdings.{HoldsExactly}
use Rattle.live_heap.specs.Memory.{HasTaken, IsLastTaken, all_but, before_taking, writes_from}
use Rattle.live_heap.specs.Passes.{IsFresh, IsHome, IsOf, Owns, OwnsAt, seen, view}
use Rattle.live_heap.specs.Words.{CallsOnWord}
use Rattle.live_heap.proofs.laws_for_builders.AllBlocks.{fresh-exact}
use Rattle.live_heap.proofs.laws_for_builders.Changing.{called-changes}
use Rattle.live_heap.proofs.laws_for_builders.Hands.{idle-not_busy}
use Rattle.live_heap.proofs.laws_for_builders.Keeping.{stays-home}
use Rattle.memory_cache.specs.Asking.{FreesGiven, HasAsked, HasSettled, SendsHome, TakeTells}
use Rattle.memory_cache.specs.Settled.{HasAllOut, HasAllOutBut, IsPassFor, IsSettled, IsSettledBut, IsUnderWay, StandsBefore}

-- the same blocks' words are out
abbrev pub LentSame : Pass → Pass → Type 0
LentSame p q = (view q).lent ≡ (view p).lent

-- a cache's pass is settled where it is in no call; in one, that is under way
pub settled-of : (h : HeapFields) (p : Pass) → IsIdle p.errand → IsPassFor h p → IsSettled h p
settled-of h p idle (inl settled) = settled
settled-of h p idle (inr way) = absurd (idle-not_busy p.errand idle way.calling.busy)

pub under_way-of : (h : HeapFields) (p : Pass) → IsBusy p.errand → IsPassFor h p → IsUnderWay h p
under_way-of h p busy (inl settled) = absurd (idle-not_busy p.errand settled.idle busy)
under_way-of h p busy (inr way) = way

pub pass-of : (h : HeapFields) (p : Pass) → IsPassFor h p → IsOf h p
pass-of h p (inl settled) = settled.of
pass-of h p (inr way) = way.of

-- what is said of the pass from which a call begins
pub first-of : (h : HeapFields) (p : Pass) (call : Call) → StandsBefore h p call → IsOf h p
first-of h p (alloc words) stands = stands.of
first-of h p (free place need) stands = stands.of
first-of h p call stands = absurd stands

first-tried : (h : HeapFields) (p : Pass) (call : Call) → StandsBefore h p call → IsTried call
first-tried h p (alloc words) stands = tt
first-tried h p (free place need) stands = tt
first-tried h p call stands = absurd stands

pub resumable : (h : HeapFields) (p : Pass) → IsUnderWay h p → IsResumable p
resumable h p way =
    record { first = way.first; call = way.call; steps = way.steps; calling = way.calling; tried = first-tried h way.first way.call way.stands }

-- what has its words out where nothing changes, where a block is given, where one is freed
out-same : (p q : Pass) → LentSame p q → OwnsSame p q → HasAllOut p → HasAllOut q
out-same p q lent same out place home = same place ∙ out place (stays-home q p place (sym lent) home)

out-given : (p q : Pass) (place : ℕ) (now : Option PoolBlock) → LentSame p q → OwnsBut p q place now → HasAllOut p → HasAllOutBut q place
out-given p q place now lent but out other ne home = but.others other ne ∙ out other (stays-home q p other (sym lent) home)

out-still : (p q : Pass) (place : ℕ) (now : Option PoolBlock) → LentSame p q → OwnsBut p q place now → HasAllOutBut p place → HasAllOutBut q place
out-still p q place now lent but out other ne home = but.others other ne ∙ out other ne (stays-home q p other (sym lent) home)

out-freed : (p q : Pass) (place : ℕ) → LentSame p q → OwnsBut p q place None → HasAllOutBut p place → HasAllOut q
out-freed p q place lent but out other home =
    elim (cases_eq other place) [
      | inl here ↦ ap (owned_in q) here ∙ but.here
      | inr ne ↦ but.others other ne ∙ out other ne (stays-home q p other (sym lent) home)
    ]

-- a pass behind an allocation that was given a block
pub given-settled :
    (h : HeapFields) (p q : Pass) (words steps : ℕ) (block : Block) → IsSettled h p → IsOf h q
    → HasCalled p (alloc words) steps (reply.Given block.place block.need) q → Owns q block → IsSettledBut h q block.place block.need
given-settled h p q words steps block s of called owned =
    let given = called-changes h p q (alloc words) steps (reply.Given block.place block.need) of called in
    record {
      of = of;
      idle = called.idle;
      owned = owned;
      out = out-given p q block.place (Some (fresh_block p.errand.caller words block.place)) called.lent given.given s.out;
    }

-- and behind one that was given none
pub refused-settled :
    (h : HeapFields) (p q : Pass) (words steps : ℕ) → IsSettled h p → IsOf h q → HasCalled p (alloc words) steps reply.Refused q → IsSettled h q
refused-settled h p q words steps s of called =
    record {
      of = of;
      idle = called.idle;
      out = out-same p q called.lent (called-changes h p q (alloc words) steps reply.Refused of called) s.out;
    }

pub spent-settled :
    (h : HeapFields) (p q : Pass) (words steps : ℕ) → IsSettled h p → IsOf h q → HasCalled p (alloc words) steps reply.Spent q → IsSettled h q
spent-settled h p q words steps s of called =
    record {
      of = of;
      idle = called.idle;
      out = out-same p q called.lent (called-changes h p q (alloc words) steps reply.Spent of called) s.out;
    }

-- a pass behind a free
pub freed-settled :
    (h : HeapFields) (p q : Pass) (place : ℕ) (need : Need) (steps : ℕ) → IsSettledBut h p place need → IsOf h q
    → HasCalled p (free place need) steps reply.Freed q → IsSettled h q
freed-settled h p q place need steps s of called =
    record {
      of = of;
      idle = called.idle;
      out = out-freed p q place called.lent (called-changes h p q (free place need) steps reply.Freed of called) s.out;
    }

-- how a call that is resumed leaves the pass
abbrev pub Leaves : HeapFields → Resumed → Pass → Type 0
Leaves h (resumed.Given block) q = IsSettledBut h q block.place block.need
Leaves h resumed.Busy q = IsUnderWay h q
Leaves h answer q = IsSettled h q

pub resumed-leaves :
    (h : HeapFields) (first p q : Pass) (call : Call) (made tries : ℕ) (answer : Resumed) → IsOf h q → StandsBefore h first call
    → ResumeTells first call made p tries answer q → Leaves h answer q
resumed-leaves h first p q (alloc words) made tries (resumed.Given block) of s tells =
    given-settled h first q words tells.0.steps block s of tells.0.called tells.1
resumed-leaves h first p q (alloc words) made tries resumed.Freed of s tells =
    absurd (none-some tells.called.ended.ended.0 tells.called.ended.ended.1)
resumed-leaves h first p q (alloc words) made tries resumed.Refused of s tells = refused-settled h first q words tells.steps s of tells.called
resumed-leaves h first p q (alloc words) made tries resumed.Spent of s tells = spent-settled h first q words tells.0.steps s of tells.0.called
resumed-leaves h first p q (alloc words) made tries resumed.Busy of s tells =
    record { of = of; first = first; call = alloc words; steps = suc tells.steps; stands = s; calling = tells.calling }
resumed-leaves h first p q (free place need) made tries (resumed.Given block) of s tells =
    absurd (none-some tells.0.called.ended.ended.0 tells.0.called.ended.ended.1)
resumed-leaves h first p q (free place need) made tries resumed.Freed of s tells =
    freed-settled h first q place need tells.steps s of tells.called
resumed-leaves h first p q (free place need) made tries resumed.Refused of s tells =
    absurd (none-some tells.called.ended.ended.0 tells.called.ended.ended.1)
resumed-leaves h first p q (free place need) made tries resumed.Spent of s tells =
    absurd (none-some tells.0.called.ended.ended.0 tells.0.called.ended.ended.1)
resumed-leaves h first p q (free place need) made tries resumed.Busy of s tells =
    record { of = of; first = first; call = free place need; steps = suc tells.steps; stands = s; calling = tells.calling }
resumed-leaves h first p q call made tries answer of s tells = absurd s

pub leaves-settled :
    (h : HeapFields) (answer : Resumed) (q : Pass) → (answer ≡ resumed.Busy → ⊥) → ((block : Block) → answer ≡ resumed.Given block → ⊥)
    → Leaves h answer q → IsSettled h q
leaves-settled h (resumed.Given block) q busy given leaves = absurd (given block refl)
leaves-settled h resumed.Busy q busy given leaves = absurd (busy refl)
leaves-settled h resumed.Freed q busy given leaves = leaves
leaves-settled h resumed.Refused q busy given leaves = leaves
leaves-settled h resumed.Spent q busy given leaves = leaves

-- where a resumed call that has ended was given no block, none is freed
pub frees-none :
    (answer : Resumed) (q : Pass) (tries : ℕ) → (answer ≡ resumed.Busy → ⊥) → ((block : Block) → answer ≡ resumed.Given block → ⊥)
    → FreesGiven answer q tries true q
frees-none (resumed.Given block) q tries busy given = absurd (given block refl)
frees-none resumed.Busy q tries busy given = absurd (busy refl)
frees-none resumed.Freed q tries busy given = (refl, refl)
frees-none resumed.Refused q tries busy given = (refl, refl)
frees-none resumed.Spent q tries busy given = (refl, refl)

-- the same blocks' words are out behind a call that is resumed
pub resumed-lent :
    (first p q : Pass) (call : Call) (made tries : ℕ) (answer : Resumed) → ResumeTells first call made p tries answer q → LentSame first q
resumed-lent first p q call made tries (resumed.Given block) tells = tells.0.called.lent
resumed-lent first p q call made tries resumed.Freed tells = tells.called.lent
resumed-lent first p q call made tries resumed.Refused tells = tells.called.lent
resumed-lent first p q call made tries resumed.Spent tells = tells.0.called.lent
resumed-lent first p q call made tries resumed.Busy tells = tells.calling.lent

-- a block of which words are out lies at no place where they are home
pub taken-elsewhere :
    (p q : Pass) (place : ℕ) (other : Memory) → LentSame p q → IsHome q place → HasTaken p other → other.block.place ≢ place
taken-elsewhere p q place other lent home taken same =
    home taken.0 taken.1 (ap (λ (l : List Lent). get_elem? l taken.0) lent ∙ taken.2) (taken.3 ∙ same)

-- words that are out stay out
pub taken-on : (p q : Pass) (other : Memory) → LentSame p q → HasTaken p other → HasTaken q other
taken-on p q other lent taken =
    (taken.0, taken.1, ap (λ (l : List Lent). get_elem? l taken.0) lent ∙ taken.2, taken.3, taken.4)

-- a pass that has taken the words of its one home block out is settled
pub taken-settled :
    (h : HeapFields) (q r : Pass) (m : Memory) (ns : List ℕ) → HasAllOutBut q m.block.place → IsOf h r → IsIdle r.errand
    → IsLastTaken r m ns (view q).lent → before_taking r m.block.place ≡ q → seen r ≡ seen q → IsSettled h r
taken-settled h q r m ns out of idle last before same =
    let caller : r.errand.caller ≡ q.errand.caller = ap (λ (x : Pass). x.errand.caller) before in
    record {
      of = of;
      idle = idle;
      out = λ place home.
          let elsewhere : place ≢ m.block.place = λ is. home 0 _ (ap (λ (l : List Lent). get_elem? l 0) last) (sym is) in
          let there : IsHome q place = λ n b at. home (suc n) b (ap (λ (l : List Lent). get_elem? l (suc n)) last ∙ at) in
          let owned : owned_in r place ≡ owned_in q place =
          ap (λ (l : List Event). owned_after l r.errand.caller place) same ∙ ap (λ (k : ℕ). owned_after (seen q) k place) caller in
          owned ∙ out place elsewhere there;
    }

-- who stands in the list and lies at another place is left
still-among :
    (place : ℕ) (bs : List Lent) (n : ℕ) (b : Lent) → get_elem? bs n ≡ some b → b.place ≢ place
    → (m : ℕ) × (get_elem? (all_but place bs) m ≡ some b)
still-among place [] n b at ne = absurd (some-ne-none b (sym at))
still-among place (x ∷ bs) zero b at ne =
    let same : x ≡ b = some-injective x b at in
    let other : x.place ≢ place = λ is. ne (ap (λ (l : Lent). l.place) (sym same) ∙ is) in
    (0, rw (ne_eqb x.place place other) at)
still-among place (x ∷ bs) (suc n) b at ne =
    elim (cases_eq x.place place) [
      | inl here ↦ (n, rw (eq-eqb x.place place here) at)
      | inr other ↦ let t = still-among place bs n b at ne in (suc t.0, rw (ne_eqb x.place place other) t.1)
    ]

before-out : (p : Pass) (place : ℕ) → HasAllOut p → HasAllOutBut (before_taking p place) place
before-out p place out other ne home =
    out other (λ n b at is.
    let t = still-among place (view p).lent n b at (λ there. ne (sym is ∙ there)) in
    home t.0 b t.1 is)

writes-out :
    (h : HeapFields) (place : ℕ) (need : Need) (i : ℕ) (ns : List ℕ) (p q : Pass) → HasAllOutBut p place
    → LeadsBy (CallsOnWord h) p (writes_from place need i ns) q → HasAllOutBut q place
writes-out h place need i [] p q out leads = subst (λ (x : Pass). HasAllOutBut x place) (sym leads) out
writes-out h place need i (n ∷ ns) p q out leads =
    let next : Pass = leads.0 in
    let made : CallsOnWord h p (write place need i n) reply.Wrote next = leads.1 in
    let but = called-changes h p next (write place need i n) 0 reply.Wrote made.of made.called in
    writes-out h place need (suc i) ns next q (out-still p next place _ made.called.lent but out) leads.2

-- a pass to which the words of one block came home
pub home-settled :
    (h : HeapFields) (p q : Pass) (place : ℕ) (need : Need) (ns : List ℕ) → HasAllOut p → IsOf h q → IsIdle q.errand → OwnsAt q place need
    → LeadsBy (CallsOnWord h) (before_taking p place) (writes_from place need 0 ns) q → IsSettledBut h q place need
home-settled h p q place need ns out of idle owned leads =
    record { of = of; idle = idle; owned = owned; out = writes-out h place need 0 ns (before_taking p place) q (before-out p place out) leads }

-- a settled pass has settled at once
pub at-once : (h : HeapFields) (p : Pass) (tries : ℕ) → IsSettled h p → HasSettled h p tries true p
at-once h p tries settled =
    record {
      pass = inl settled;
      idle = settled.idle;
      same = λ idle. refl;
      resumed = λ busy. absurd (idle-not_busy p.errand settled.idle busy);
    }

-- and what has settled is
pub has-settled : (h : HeapFields) (p : Pass) (tries : ℕ) (q : Pass) → HasSettled h p tries true q → IsSettled h q
has-settled h p tries q s = settled-of h q s.idle s.pass

-- what settles in two goes settles in one, since a pass in no call stays as it is
pub settles-on : (h : HeapFields) (p : Pass) (tries : ℕ) (q r : Pass) → HasSettled h p tries true q → HasSettled h q tries true r → HasSettled h p tries true r
settles-on h p tries q r first then = subst (HasSettled h p tries true) (sym (then.same first.idle)) first

pub asks-on :
    (h : HeapFields) (p : Pass) (words tries : ℕ) (told : AllocAnswer Block) (q r : Pass) → HasSettled h p tries true q → HasAsked h q words tries told r
    → HasAsked h p words tries told r
asks-on h p words tries told q r first asked =
    record { settled = asked.settled; has_settled = settles-on h p tries q asked.settled first asked.has_settled; tells = asked.tells }

pub takes-on :
    (h : HeapFields) (p : Pass) (words tries : ℕ) (told : AllocAnswer Memory) (q r : Pass) → HasSettled h p tries true q → TakeTells h q words tries told r
    → TakeTells h p words tries told r
takes-on h p words tries (alloc_answer.Given memory) q r first tells =
    asks-on h p words tries (alloc_answer.Given memory.block) q (before_taking r memory.block.place) first tells
takes-on h p words tries alloc_answer.Refused q r first tells = asks-on h p words tries alloc_answer.Refused q r first tells
takes-on h p words tries alloc_answer.TooLarge q r first tells = tells
takes-on h p words tries alloc_answer.Spent q r first tells = (asks-on h p words tries alloc_answer.Spent q r first tells.0, tells.1)
takes-on h p words tries alloc_answer.Busy q r first (inl stopped) =
    absurd (true≢false (sym (subst (λ (x : Pass). is_idle x.errand.point ≡ true) (sym (stopped.same first.idle)) first.idle) ∙ stopped.idle))
takes-on h p words tries alloc_answer.Busy q r first (inr asked) = inr (asks-on h p words tries alloc_answer.Busy q r first asked)

pub sends-on :
    (h : HeapFields) (p : Pass) (m : Memory) (tries : ℕ) (q r : Pass) → HasSettled h p tries true q → SendsHome h q m tries r → SendsHome h p m tries r
sends-on h p m tries q r first sent =
    record {
      settled = sent.settled;
      has_settled = settles-on h p tries q sent.settled first sent.has_settled;
      home = sent.home;
      wrote = sent.wrote;
      told = sent.told;
      frees = sent.frees;
    }

-- what isn't settled was in a call
pub was-busy : (h : HeapFields) (p : Pass) (tries : ℕ) (q : Pass) → HasSettled h p tries false q → IsBusy p.errand
was-busy h p tries q s =
    elim (cases_Bool (is_idle p.errand.point)) [
      | inl idle ↦ absurd (true≢false (sym idle ∙ ap (λ (x : Pass). is_idle x.errand.point) (sym (s.same idle)) ∙ s.idle))
      | inr busy ↦ busy
    ]

-- how a call that is resumed leaves the pass of a cache, and what is out then
pub way-leaves :
    (h : HeapFields) (p q : Pass) (tries : ℕ) (answer : Resumed) → IsUnderWay h p → IsOf h q
    → ((first : Pass) (call : Call) (made : ℕ) → IsOf h first → IsCalling first call made p → ResumeTells first call made p tries answer q)
    → Leaves h answer q
way-leaves h p q tries answer way of tells =
    resumed-leaves h way.first p q way.call way.steps tries answer of way.stands
    (tells way.first way.call way.steps (first-of h way.first way.call way.stands) way.calling)

pub way-lent :
    (h : HeapFields) (p q : Pass) (tries : ℕ) (answer : Resumed) → IsUnderWay h p
    → ((first : Pass) (call : Call) (made : ℕ) → IsOf h first → IsCalling first call made p → ResumeTells first call made p tries answer q)
    → LentSame p q
way-lent h p q tries answer way tells =
    resumed-lent way.first p q way.call way.steps tries answer
    (tells way.first way.call way.steps (first-of h way.first way.call way.stands) way.calling)
    ∙ sym way.calling.lent

-- a pass behind an allocation for which no turn was left
pub spent-tells :
    (h : HeapFields) (p q : Pass) (words tries : ℕ) → IsSettled h p → IsOf h q → AllocTells p words tries alloc_answer.Spent q
    → IsSettled h q × (q.errand.turns ≡ q.errand.geometry.turn_limit)
spent-tells h p q words tries s of (inl once) =
    let P : Pass → Type 0 = λ x. IsSettled h x × (x.errand.turns ≡ x.errand.geometry.turn_limit) in subst P (sym once.same) (s, once.over)
spent-tells h p q words tries s of (inr later) = (spent-settled h p q words later.0.steps s of later.0.called, later.1)

-- a pass that holds nothing has all that it owns out; and one that has nothing out and is settled holds nothing
pub nothing-settled : (h : HeapFields) (p : Pass) → IsOf h p → IsIdle p.errand → HoldsExactly p [] → IsSettled h p
nothing-settled h p of idle exact = record { of = of; idle = idle; out = λ place home. exact.1 place (All-nil _) }

none-at : (bs : List Lent) (n : ℕ) (b : Lent) → length bs ≡ 0 → get_elem? bs n ≡ some b → ⊥
none-at [] n b none at = some-ne-none b (sym at)
none-at (x ∷ bs) n b none at = absurd (omega (arith, none))

pub settled-nothing : (h : HeapFields) (p : Pass) → IsSettled h p → p.out ≡ 0 → HoldsExactly p []
settled-nothing h p s none =
    (tt, λ place apart. s.out place (λ n b at. absurd (none-at (view p).lent n b (s.of.counted ∙ none) at)))

-- the calls that a write home makes leave what is out
writes-lent :
    (h : HeapFields) (place : ℕ) (need : Need) (i : ℕ) (ns : List ℕ) (p q : Pass) → LeadsBy (CallsOnWord h) p (writes_from place need i ns) q → LentSame p q
writes-lent h place need i [] p q leads = ap (λ (x : Pass). (view x).lent) leads
writes-lent h place need i (n ∷ ns) p q leads =
    let next : Pass = leads.0 in
    let made : CallsOnWord h p (write place need i n) reply.Wrote next = leads.1 in
    writes-lent h place need (suc i) ns next q leads.2 ∙ made.called.lent

-- who is left stood in the list
among-still : (place : ℕ) (bs : List Lent) (n : ℕ) (b : Lent) → get_elem? (all_but place bs) n ≡ some b → (m : ℕ) × (get_elem? bs m ≡ some b)
among-still place [] n b at = (n, at)
among-still place (x ∷ bs) zero b at =
    elim (cases_eq x.place place) [
      | inl here ↦ (1, rw (eq-eqb x.place place here) at at)
      | inr other ↦ (0, rw (ne_eqb x.place place other) at at)
    ]
among-still place (x ∷ bs) (suc n) b at =
    elim (cases_eq x.place place) [
      | inl here ↦ (suc (suc n), rw (eq-eqb x.place place here) at at)
      | inr other ↦ let t = among-still place bs n b (rw (ne_eqb x.place place other) at at) in (suc t.0, t.1)
    ]

-- what is out once a block is home was out before, and lies elsewhere
pub home-only :
    (h : HeapFields) (p q : Pass) (place : ℕ) (need : Need) (ns : List ℕ) (other : Memory) → IsHome q place
    → LeadsBy (CallsOnWord h) (before_taking p place) (writes_from place need 0 ns) q → HasTaken q other
    → HasTaken p other × (other.block.place ≢ place)
home-only h p q place need ns other home leads taken =
    let lent = writes-lent h place need 0 ns (before_taking p place) q leads in
    let t = among-still place (view p).lent taken.0 taken.1 (ap (λ (l : List Lent). get_elem? l taken.0) (sym lent) ∙ taken.2) in
    ((t.0, taken.1, t.1, taken.3, taken.4), λ same. home taken.0 taken.1 taken.2 (taken.3 ∙ same))

-- what is out once a block's words went out was out before, or is the block's
pub lent-only :
    (q r : Pass) (m other : Memory) (ns : List ℕ) → IsLastTaken r m ns (view q).lent → HasTaken r other → other.block.place ≢ m.block.place → HasTaken q other
lent-only q r m other ns last (zero, b, at, there, serves) ne =
    let first = some-injective _ _ (sym (ap (λ (l : List Lent). get_elem? l 0) last) ∙ at) in
    absurd (ne (sym there ∙ ap (λ (l : Lent). l.place) (sym first)))
lent-only q r m other ns last (suc n, b, at, there, serves) ne =
    (n, b, sym (ap (λ (l : List Lent). get_elem? l (suc n)) last) ∙ at, there, serves)

-- a pass that has made no step is settled
pub fresh-settled : (h : HeapFields) (p : Pass) → IsFresh h p → IsSettled h p
fresh-settled h p fresh = nothing-settled h p fresh.of (ap (λ (e : ErrandFields). is_idle e.point) fresh.errand) (fresh-exact h p fresh)

-- a pass stays its caller's
abbrev pub CallerSame : Pass → Pass → Type 0
CallerSame p q = q.errand.caller ≡ p.errand.caller

resumed-caller :
    (first p q : Pass) (call : Call) (made tries : ℕ) (answer : Resumed) → ResumeTells first call made p tries answer q → CallerSame first q
resumed-caller first p q call made tries (resumed.Given block) tells = tells.0.called.caller
resumed-caller first p q call made tries resumed.Freed tells = tells.called.caller
resumed-caller first p q call made tries resumed.Refused tells = tells.called.caller
resumed-caller first p q call made tries resumed.Spent tells = tells.0.called.caller
resumed-caller first p q call made tries resumed.Busy tells = tells.calling.caller

pub way-caller :
    (h : HeapFields) (p q : Pass) (tries : ℕ) (answer : Resumed) → IsUnderWay h p
    → ((first : Pass) (call : Call) (made : ℕ) → IsOf h first → IsCalling first call made p → ResumeTells first call made p tries answer q)
    → CallerSame p q
way-caller h p q tries answer way tells =
    resumed-caller way.first p q way.call way.steps tries answer
    (tells way.first way.call way.steps (first-of h way.first way.call way.stands) way.calling)
    ∙ sym way.calling.caller

pub spent-caller : (p q : Pass) (words tries : ℕ) → AllocTells p words tries alloc_answer.Spent q → CallerSame p q
spent-caller p q words tries (inl once) = ap (λ (x : Pass). x.errand.caller) once.same
spent-caller p q words tries (inr later) = later.0.called.caller

pub writes-caller :
    (h : HeapFields) (place : ℕ) (need : Need) (i : ℕ) (ns : List ℕ) (p q : Pass) → LeadsBy (CallsOnWord h) p (writes_from place need i ns) q
    → CallerSame p q
writes-caller h place need i [] p q leads = ap (λ (x : Pass). x.errand.caller) leads
writes-caller h place need i (n ∷ ns) p q leads =
    let next : Pass = leads.0 in
    let made : CallsOnWord h p (write place need i n) reply.Wrote next = leads.1 in
    writes-caller h place need (suc i) ns next q leads.2 ∙ made.called.caller
