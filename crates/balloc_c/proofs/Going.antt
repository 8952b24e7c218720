-- What calls make of a cache, of all blocks of its caller, and of the words that are out.
use Rattle.std.proofs.Common.{ℕ, zero, suc, ◌≡◌, ◌+◌, ◌%◌, ◌^◌, ◌++◌, ◌∙◌, List, [], ◌∷◌, Option, Some, None, Result, Ok, Err, refl, sym, ap, subst, inl, inr, append_assoc}
use Rattle.std.specs.Prelude.{IfOk, map}
use Rattle.std.specs.List.{range_with_len}
use Rattle.std.specs.Result.{IfErr}
use lib.ListN.{get_elem?}
use Rattle.heap_geometry.specs.declared.need.Need.{Need}
use Rattle.heap_geometry.specs.Need.{need_of}
use Rattle.errand_steps.specs.declared.reply.Reply.{Reply}
use Rattle.errand_steps.specs.declared.reply.Reply.TheVariants as reply
use Rattle.errand_steps.specs.Begins.{IsBusy, IsIdle}
use Rattle.errand_steps.specs.Calls.{Call, put, read, write}
use Rattle.sound_laws.specs.events.Made.{LeadsBy, Made, answered, found_from, wrote}
use Rattle.live_heap.specs.declared.answers.AllocAnswer.{AllocAnswer}
use Rattle.live_heap.specs.declared.answers.AllocAnswer.TheVariants as alloc_answer
use Rattle.live_heap.specs.declared.answers.FreeAnswer.{FreeAnswer}
use Rattle.live_heap.specs.declared.answers.FreeAnswer.TheVariants as free_answer
use Rattle.live_heap.specs.declared.answers.Full.{Full}
use Rattle.live_heap.specs.declared.answers.Resumed.{Resumed}
use Rattle.live_heap.specs.declared.answers.Resumed.TheVariants as resumed
use Rattle.live_heap.specs.declared.answers.Taken.{Taken}
use Rattle.live_heap.specs.declared.answers.Taken.TheVariants as taken
use Rattle.live_heap.specs.declared.block.Block.{Block}
use Rattle.live_heap.specs.declared.view.Lent.{Lent as OutBlock}
use Rattle.live_heap.specs.Heaps.{HeapFields}
use Rattle.live_heap.specs.declared.pass.Pass.{Pass}
use Rattle.live_heap.specs.Answers.{AllocTells, FreeTells, PutTellsFull, ResumeTells, TakeTells}
use Rattle.live_heap.specs.Calls.{HasCalled, IsCalling}
use Rattle.live_heap.specs.Hands.{given_by, resumed_by, returned_by, taken_by}
use Rattle.live_heap.specs.Holdings.{ChangesHand, Holds}
use Rattle.live_heap.specs.Memory.{writes_from}
use Rattle.live_heap.specs.Passes.{IsHome, IsOf, Owns, view}
use Rattle.live_heap.specs.Words.{CallsOnWord}
use Rattle.live_heap.proofs.laws_for_builders.Hands.{hand-left}
use Rattle.live_heap.proofs.laws_for_builders.Keeping.{stays-home}
use Rattle.block_cache.specs.declared.cache.Cache.{Cache}
use Rattle.block_cache.specs.declared.magazines.Magazines.{Magazines}
use Rattle.block_cache.specs.Caches.{IsCache, KeepsMagazines, cached_in, stacks_in}
use Rattle.block_cache.specs.Magazines.{all_in, stacks_of}
use Rattle.block_cache.proofs.MagazineLemmas.{for-or-not, room-or-not, top-splits}
use Rattle.balloc_c.specs.declared.calls.TheConstants.{TRIES}
use Rattle.balloc_c.specs.declared.kept.Kept.{Kept}
use Rattle.balloc_c.specs.declared.kept.Kept.TheVariants as kept
use Rattle.balloc_c.specs.Tended.{HasAll, Stands, at_home}
use Rattle.balloc_c.specs.Through.{IsAllocation, IsFree}
use Rattle.balloc_c.proofs.AllBlocks.{alloc-all, comes-all, ended-all, ended-home, free-all, home-of, leaves-all, put-all, take-all, waiting-all}

-- the same blocks' words are out
abbrev pub LentSame : Pass → Pass → Type 0
LentSame p q = (view q).lent ≡ (view p).lent

-- how a slot's block stands stays so
pub stands-on : (h : HeapFields) (p q : Pass) (slot : Option Kept) → LentSame p q → Stands h p slot → Stands h q slot
stands-on h p q None lent stands = tt
stands-on h p q (Some (kept.Home block)) lent home = stays-home p q block.place lent home
stands-on h p q (Some (kept.Out out)) lent ((n, b, at, there, serves), lies, even) =
    ((n, b, ap (λ (l : List OutBlock). get_elem? l n) lent ∙ at, there, serves), lies, even)
stands-on h p q (Some (kept.Resting block)) lent home = stays-home p q block.place lent home
stands-on h p q (Some (kept.Laid memory)) lent (((n, b, at, there, serves), lies, even), room) =
    (((n, b, ap (λ (l : List OutBlock). get_elem? l n) lent ∙ at, there, serves), lies, even), room)

-- a call has made these blocks of those, and takes no words out
pub record Goes (h : HeapFields) (c d : Cache) (had has : List Block) : Type 0 where
  pub lent : LentSame c.pass d.pass
  pub all : HasAll h c.pass (had ++ cached_in c) → HasAll h d.pass (has ++ cached_in d)

pub kept-cached : (c d : Cache) → KeepsMagazines c d → cached_in d ≡ cached_in c
kept-cached c d keeps = ap (λ (m : Magazines Block). all_in (stacks_of m.stacks.items)) keeps.magazines

pass-same : (h : HeapFields) (c d : Cache) (blocks : List Block) → d.pass ≡ c.pass → HasAll h c.pass blocks → HasAll h d.pass blocks
pass-same h c d blocks same all = subst (λ (p : Pass). HasAll h p blocks) (sym same) all

lent-same : (c d : Cache) → d.pass ≡ c.pass → LentSame c.pass d.pass
lent-same c d same = ap (λ (p : Pass). (view p).lent) same

-- the heap was asked: what was held and what comes, in front of what lies in magazines
asked-goes :
    (h : HeapFields) (c d : Cache) (brought held : List Block) → LentSame c.pass d.pass → KeepsMagazines c d
    → (HasAll h c.pass (held ++ cached_in c) → HasAll h d.pass (brought ++ (held ++ cached_in c))) → Goes h c d held (brought ++ held)
asked-goes h c d brought held lent keeps goes =
    record {
      lent = lent;
      all = λ all.
          subst (λ (xs : List Block). HasAll h d.pass ((brought ++ held) ++ xs)) (sym (kept-cached c d keeps))
          (subst (HasAll h d.pass) (sym (append_assoc brought held (cached_in c))) (goes all));
    }

-- which words are out behind each call
alloc-lent : (p q : Pass) (words tries : ℕ) (answer : AllocAnswer Block) → AllocTells p words tries answer q → LentSame p q
alloc-lent p q words tries (alloc_answer.Given block) tells = tells.0.called.lent
alloc-lent p q words tries alloc_answer.Refused tells = tells.called.lent
alloc-lent p q words tries alloc_answer.TooLarge tells = ap (λ (x : Pass). (view x).lent) tells
alloc-lent p q words tries alloc_answer.Spent (inl once) = ap (λ (x : Pass). (view x).lent) once.same
alloc-lent p q words tries alloc_answer.Spent (inr later) = later.0.called.lent
alloc-lent p q words tries alloc_answer.Busy tells = tells.calling.lent

free-lent : (p q : Pass) (block : Block) (tries : ℕ) (answer : FreeAnswer) → FreeTells p block tries answer q → LentSame p q
free-lent p q block tries free_answer.Freed tells = tells.called.lent
free-lent p q block tries free_answer.Busy tells = tells.calling.lent

resumed-lent :
    (first p q : Pass) (call : Call) (made tries : ℕ) (answer : Resumed) → ResumeTells first call made p tries answer q → LentSame first q
resumed-lent first p q call made tries (resumed.Given block) tells = tells.0.called.lent
resumed-lent first p q call made tries resumed.Freed tells = tells.called.lent
resumed-lent first p q call made tries resumed.Refused tells = tells.called.lent
resumed-lent first p q call made tries resumed.Spent tells = tells.0.called.lent
resumed-lent first p q call made tries resumed.Busy tells = tells.calling.lent

-- an allocation
pub alloc-goes :
    (h : HeapFields) (c d : Cache) (words : ℕ) (answer : AllocAnswer Block) (held : List Block) → IsCache h c → IsCache h d → IsIdle c.pass.errand
    → IsAllocation c words answer d → Goes h c d held (given_by answer ++ held)
alloc-goes h c d words answer held was is idle told =
    elim (for-or-not (stacks_in c) (need_of words)) [
      | inl has ↦
          let served = told.served has in
          let s = served.2 in
          let split = top-splits s.class served.0 (stacks_in c) (stacks_in d) s.top in
          subst (λ (a : AllocAnswer Block). Goes h c d held (given_by a ++ held)) (sym served.1)
          (record {
            lent = lent-same c d s.pass;
            all = λ all. pass-same h c d (served.0 ∷ (held ++ cached_in d)) s.pass (leaves-all h c.pass held (cached_in c) (cached_in d) served.0 split all);
          })
      | inr none ↦
          let asked = told.asked none in
          asked-goes h c d (given_by answer) held (alloc-lent c.pass d.pass words TRIES answer asked.0) asked.1
          (alloc-all h c.pass d.pass (held ++ cached_in c) words TRIES answer idle was.hand.of is.hand.of asked.0)
    ]

pub same-given : (a b : Block) → alloc_answer.Given a ≡ alloc_answer.Given b → a ≡ b
same-given a b same = cc

-- the words of a block that is given are home
pub given-home :
    (h : HeapFields) (c d : Cache) (words : ℕ) (block : Block) → IsCache h c → IsIdle c.pass.errand
    → IsAllocation c words (alloc_answer.Given block) d → IsHome d.pass block.place
given-home h c d words block was idle told =
    elim (for-or-not (stacks_in c) (need_of words)) [
      | inl has ↦
          let served = told.served has in
          let s = served.2 in
          let split = top-splits s.class served.0 (stacks_in c) (stacks_in d) s.top in
          let owns : Owns c.pass served.0 =
          (hand-left c.pass split.front split.back served.0 (subst (Holds c.pass) split.with_it (was.hand.holds idle))).0 in
          let same : block ≡ served.0 = same-given block served.0 served.1 in
          subst (λ (p : Pass). IsHome p block.place) (sym s.pass) (subst (λ (b : Block). IsHome c.pass b.place) (sym same) owns.1)
      | inr none ↦ (told.asked none).0.1.1
    ]

-- a free
pub free-goes :
    (h : HeapFields) (c d : Cache) (block : Block) (answer : FreeAnswer) (held : List Block) → IsCache h c → IsCache h d → IsIdle c.pass.errand
    → IsFree c block answer d → Goes h c d (block ∷ held) held
free-goes h c d block answer held was is idle told =
    elim (room-or-not c.magazines.depth (stacks_in c) block.need) [
      | inl room ↦
          let s = (told.kept room).1 in
          let split = top-splits s.class block (stacks_in d) (stacks_in c) s.top in
          record {
            lent = lent-same c d s.pass;
            all = λ all. pass-same h c d (held ++ cached_in d) s.pass (comes-all h c.pass held (cached_in d) (cached_in c) block split all);
          }
      | inr none ↦
          let asked = told.asked none in
          record {
            lent = free-lent c.pass d.pass block TRIES answer asked.0;
            all = λ all.
                subst (λ (xs : List Block). HasAll h d.pass (held ++ xs)) (sym (kept-cached c d asked.1))
                (free-all h c.pass d.pass block (held ++ cached_in c) TRIES answer idle was.hand.of is.hand.of asked.0 all);
          }
    ]

-- a call that is gone on with
abbrev pub GoesOn : HeapFields → Cache → Resumed → Cache → Type 0
GoesOn h c answer d =
    (first : Pass) (call : Call) (made : ℕ) → IsOf h first → IsCalling first call made c.pass → ResumeTells first call made c.pass TRIES answer d.pass

pub resume-goes :
    (h : HeapFields) (c d : Cache) (answer : Resumed) (held : List Block) → IsCache h c → IsCache h d → IsBusy c.pass.errand → GoesOn h c answer d
    → KeepsMagazines c d → Goes h c d held (resumed_by answer ++ held)
resume-goes h c d answer held was is busy tells keeps =
    let w = was.hand.waits busy in
    let lent = resumed-lent w.first c.pass d.pass w.call w.steps TRIES answer (tells w.first w.call w.steps w.of w.calling) in
    asked-goes h c d (resumed_by answer) held (lent ∙ sym w.calling.lent) keeps
    (waiting-all h c.pass d.pass (held ++ cached_in c) TRIES answer busy is.hand.of tells)

pub resumed-home :
    (h : HeapFields) (c d : Cache) (block : Block) → IsCache h c → IsBusy c.pass.errand → GoesOn h c (resumed.Given block) d → IsHome d.pass block.place
resumed-home h c d block was busy tells = let w = was.hand.waits busy in (tells w.first w.call w.steps w.of w.calling).1.1

-- a put, and a take
put-lent :
    {A : Type 0} (p q : Pass) (block : Block) (shelf : ℕ) (answer : Result A Full) → IfOk answer (λ _. HasCalled p (put block.place block.need shelf) 0 reply.Put q)
    → IfErr answer (λ full. PutTellsFull p block shelf full q) → LentSame p q
put-lent p q block shelf (Ok done) lies back = lies.lent
put-lent p q block shelf (Err full) lies back = back.called.lent

pub put-goes :
    {A : Type 0} (h : HeapFields) (c d : Cache) (block : Block) (shelf : ℕ) (answer : Result A Full) (held : List Block) → IsCache h c → IsCache h d
    → IsIdle c.pass.errand → IfOk answer (λ _. HasCalled c.pass (put block.place block.need shelf) 0 reply.Put d.pass)
    → IfErr answer (λ full. PutTellsFull c.pass block shelf full d.pass) → KeepsMagazines c d → Goes h c d (block ∷ held) (returned_by answer ++ held)
put-goes h c d block shelf answer held was is idle lies back keeps =
    record {
      lent = put-lent c.pass d.pass block shelf answer lies back;
      all = λ all.
          subst (λ (xs : List Block). HasAll h d.pass ((returned_by answer ++ held) ++ xs)) (sym (kept-cached c d keeps))
          (subst (HasAll h d.pass) (sym (append_assoc (returned_by answer) held (cached_in c)))
          (put-all h c.pass d.pass block (held ++ cached_in c) shelf answer idle was.hand.of is.hand.of lies back all));
    }

take-lent : (p q : Pass) (shelf : ℕ) (answer : Taken Block) → TakeTells p shelf answer q → LentSame p q
take-lent p q shelf (taken.Got block) tells = tells.0.lent
take-lent p q shelf taken.Empty tells = tells.lent
take-lent p q shelf (taken.Missed expected found) tells = tells.0.lent

pub take-goes :
    (h : HeapFields) (c d : Cache) (shelf : ℕ) (answer : Taken Block) (held : List Block) → IsCache h c → IsCache h d → IsIdle c.pass.errand
    → TakeTells c.pass shelf answer d.pass → KeepsMagazines c d → Goes h c d held (taken_by answer ++ held)
take-goes h c d shelf answer held was is idle tells keeps =
    asked-goes h c d (taken_by answer) held (take-lent c.pass d.pass shelf answer tells) keeps
    (take-all h c.pass d.pass (held ++ cached_in c) shelf answer idle was.hand.of is.hand.of tells)

-- calls on words
abbrev IsOnWord : Call → Type 0
IsOnWord (write place need i value) = Unit {0}
IsOnWord (read place need i) = Unit {0}
IsOnWord call = ⊥

abbrev pub AreOnWords : List Made → Type 0
AreOnWords [] = Unit {0}
AreOnWords (made ∷ rest) = IsOnWord made.call × AreOnWords rest

on-same : (call : Call) (answer : Reply) (blocks : List Block) → IsOnWord call → ChangesHand call answer blocks blocks
on-same (write at n i value) answer blocks on = refl
on-same (read at n i) answer blocks on = refl
on-same call answer blocks on = absurd on

-- a pass that made calls on words
pub record HasMade (h : HeapFields) (p q : Pass) : Type 0 where
  pub lent : LentSame p q
  pub all : (blocks : List Block) → HasAll h p blocks → HasAll h q blocks

pub has-made :
    (h : HeapFields) (p : Pass) (made : List Made) (q : Pass) → IsOf h (at_home p) → IsIdle p.errand → AreOnWords made → LeadsBy (CallsOnWord h) p made q → HasMade h p q
has-made h p [] q of idle on same =
    subst (HasMade h p) (sym same) (record { lent = refl; all = λ blocks all. all })
has-made h p (one ∷ rest) q of idle (first, others) (next, called, leads) =
    let more = has-made h next rest q (home-of h next called.of) called.called.idle others leads in
    record {
      lent = more.lent ∙ called.called.lent;
      all = λ blocks all.
          more.all blocks
          (ended-home h p next one.call 0 one.answer blocks blocks of called.of called.called (on-same one.call one.answer blocks first) (all.at_rest idle));
    }

pub words-goes :
    (h : HeapFields) (c d : Cache) (made : List Made) (held : List Block) → IsCache h c → IsIdle c.pass.errand → AreOnWords made
    → LeadsBy (CallsOnWord h) c.pass made d.pass → KeepsMagazines c d → Goes h c d held held
words-goes h c d made held was idle on leads keeps =
    let m = has-made h c.pass made d.pass (home-of h c.pass was.hand.of) idle on leads in
    record {
      lent = m.lent;
      all = λ all. subst (λ (xs : List Block). HasAll h d.pass (held ++ xs)) (sym (kept-cached c d keeps)) (m.all (held ++ cached_in c) all);
    }

pub word-goes :
    (h : HeapFields) (c d : Cache) (call : Call) (answer : Reply) (held : List Block) → IsCache h c → IsCache h d → IsIdle c.pass.errand → IsOnWord call
    → HasCalled c.pass call 0 answer d.pass → KeepsMagazines c d → Goes h c d held held
word-goes h c d call answer held was is idle on called keeps =
    record {
      lent = called.lent;
      all = λ all.
          subst (λ (xs : List Block). HasAll h d.pass (held ++ xs)) (sym (kept-cached c d keeps))
          (ended-all h c.pass d.pass call 0 answer _ _ was.hand.of is.hand.of called (on-same call answer (held ++ cached_in c) on) (all.at_rest idle));
    }

-- rows of such calls
pub writes-on : (place : ℕ) (need : Need) (i : ℕ) (words : List ℕ) → AreOnWords (writes_from place need i words)
writes-on place need i [] = tt
writes-on place need i (word ∷ words) = (tt, writes-on place need (suc i) words)

pub found-on : (place : ℕ) (need : Need) (i : ℕ) (words : List ℕ) → AreOnWords (found_from place need i words)
found-on place need i [] = tt
found-on place need i (word ∷ words) = (tt, found-on place need (suc i) words)

each-on :
    (place : ℕ) (need : Need) (f : ℕ → ℕ) (i count : ℕ)
    → AreOnWords (map (λ k. answered (write place need k (f k)) reply.Wrote) (range_with_len i count))
each-on place need f i zero = tt
each-on place need f i (suc count) = (tt, each-on place need f (i + 1) count)

pub filled-on : (place : ℕ) (need : Need) (from count : ℕ) → AreOnWords (wrote place need from count)
filled-on place need from count = each-on place need (λ i. (from + i) % 2 ^ 64) 0 count
