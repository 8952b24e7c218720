-- What the answers of a call that goes on make of a store that waited for it.
use Rattle.std.proofs.Common.{ℕ, suc, ◌≡◌, ◌≢◌, ◌<◌, ◌≤◌, ◌+◌, ◌∷◌, Some, None, refl, sym, ◌∙◌, subst}
use Rattle.std.specs.Vec.{vec_capacity, vec_len}
use Rattle.std.proofs.lemmas.Option.{none-some}
use Rattle.heap_geometry.specs.Need.{usable_words}
use Rattle.pool_model.specs.Pool.{fresh_block}
use Rattle.errand_steps.specs.declared.reply.Reply.TheVariants as reply
use Rattle.errand_steps.specs.Begins.{IsIdle}
use Rattle.errand_steps.specs.Calls.{Call, alloc, free}
use Rattle.live_heap.specs.declared.answers.Resumed.TheVariants as resumed
use Rattle.live_heap.specs.declared.block.Block.{Block}
use Rattle.live_heap.specs.Heaps.{HeapFields}
use Rattle.live_heap.specs.declared.pass.Pass.{Pass}
use Rattle.live_heap.specs.Answers.{ResumeTells}
use Rattle.live_heap.specs.Calls.{HasCalled, IsCalling, IsInterrupted}
use Rattle.live_heap.specs.Contents.{owned_in}
use Rattle.live_heap.specs.Holdings.{HoldsExactly}
use Rattle.live_heap.specs.Passes.{IsOf}
use Rattle.live_heap.proofs.laws_for_builders.AllBlocks.{called-exact}
use Rattle.typed_store.specs.declared.store.Pending.TheVariants.{Pair, Record, Free}
use Rattle.typed_store.specs.declared.store.Store.{Store}
use Rattle.typed_store.specs.Stores.{IsBuilt, IsReady, IsUnderWay, IsWaitingFor, blocks_of}
use Rattle.typed_store.proofs.AskLemmas.{given-to, refused-stays, spent-called-stays}
use Rattle.typed_store.proofs.PassLemmas.{StaysSame}
use Rattle.typed_store.proofs.StayLemmas.{SameFor, calling-alloc-same, calling-free-same, freed-same, same-all, same-since}
use Rattle.typed_store.proofs.StoreLemmas.{built-stays}

-- the store waits for a block of so many words
pub record AsksFor (h : HeapFields) (s : Store) (words : ℕ) : Type 0 where
  pub first : Pass
  pub was : IsOf h first
  pub steps : ℕ
  pub calling : IsCalling first (alloc words) steps s.pass
  pub exactly : HoldsExactly first (blocks_of s)

pub asks-pair :
    (h : HeapFields) (s : Store) (key value : ℕ) → IsUnderWay h s → s.pending ≡ Pair key value → AsksFor h s 3 × (s.unused ≢ 0)
asks-pair h s key value u is =
    let w : IsWaitingFor s u.first u.call (Pair key value) = subst (IsWaitingFor s u.first u.call) is u.waits in (
      record {
        first = u.first;
        was = u.was;
        steps = u.steps;
        calling = subst (λ k. IsCalling u.first k u.steps s.pass) w.0 u.calling;
        exactly = w.1;
      },
      w.2,
    )

pub asks-record :
    (h : HeapFields) (s : Store) (many : ℕ) → IsUnderWay h s → s.pending ≡ Record many
    → AsksFor h s (many + 1) × (vec_len s.records < vec_capacity s.records) × (s.recorded < 1000000)
asks-record h s many u is =
    let w : IsWaitingFor s u.first u.call (Record many) = subst (IsWaitingFor s u.first u.call) is u.waits in (
      record {
        first = u.first;
        was = u.was;
        steps = u.steps;
        calling = subst (λ k. IsCalling u.first k u.steps s.pass) w.0 u.calling;
        exactly = w.1;
      },
      w.2,
      w.3,
    )

-- the block that a waiting store is given
pub record GivenNow (s : Store) (words : ℕ) (block : Block) (q : Pass) : Type 0 where
  pub idle : IsIdle q.errand
  pub exactly : HoldsExactly q (block ∷ blocks_of s)
  pub enough : words ≤ usable_words block.need
  pub blank : owned_in q block.place ≡ Some (fresh_block q.errand.caller words block.place)
  pub same : SameFor s.pass q (blocks_of s)

pub resumed-given :
    (h : HeapFields) (s : Store) (words tries : ℕ) (block : Block) (q : Pass) → (a : AsksFor h s words) → IsOf h s.pass → IsOf h q
    → ResumeTells a.first (alloc words) a.steps s.pass tries (resumed.Given block) q → GivenNow s words block q
resumed-given h s words tries block q a of_s of tells =
    let called = tells.0.called in
    let g = given-to h a.first q words tells.0.steps (blocks_of s) block a.was of called a.exactly in
    record {
      idle = called.idle;
      exactly = g.exactly;
      enough = g.enough;
      blank = g.blank;
      same = same-since a.first s.pass q (blocks_of s) (calling-alloc-same h a.first s.pass words a.steps (blocks_of s) of_s a.calling a.exactly.0) g.same;
    }

-- the store's call is over, and all that the store holds is as before
pub record IsOver (h : HeapFields) (s : Store) (q : Pass) : Type 0 where
  pub ready : IsReady h (record s { pass = q })
  pub same : SameFor s.pass q (blocks_of s)

over : (h : HeapFields) (s : Store) (words : ℕ) (q : Pass) → (a : AsksFor h s words) → IsOf h s.pass → StaysSame h a.first q → IsBuilt s → IsOver h s q
over h s words q a of_s stays built =
    let same =
    same-since a.first s.pass q (blocks_of s) (calling-alloc-same h a.first s.pass words a.steps (blocks_of s) of_s a.calling a.exactly.0)
    (same-all a.first q stays.same (blocks_of s)) in
    record {
      ready = record {
        of = stays.of;
        idle = stays.idle;
        exactly = stays.hand (blocks_of s) a.exactly;
        built = built-stays s q s.pending same built;
      };
      same = same;
    }

pub resumed-refused :
    (h : HeapFields) (s : Store) (words tries : ℕ) (q : Pass) → (a : AsksFor h s words) → IsOf h s.pass → IsOf h q → IsBuilt s
    → ResumeTells a.first (alloc words) a.steps s.pass tries resumed.Refused q → IsOver h s q
resumed-refused h s words tries q a of_s of built tells =
    over h s words q a of_s (refused-stays h a.first q words tells.steps a.was of tells.called) built

pub resumed-spent :
    (h : HeapFields) (s : Store) (words tries : ℕ) (q : Pass) → (a : AsksFor h s words) → IsOf h s.pass → IsOf h q → IsBuilt s
    → ResumeTells a.first (alloc words) a.steps s.pass tries resumed.Spent q → IsOver h s q
resumed-spent h s words tries q a of_s of built tells =
    over h s words q a of_s (spent-called-stays h a.first q words tells.0.steps a.was of tells.0.called) built

pub asked-again :
    (h : HeapFields) (s : Store) (words tries : ℕ) (q : Pass) → (a : AsksFor h s words) → IsOf h s.pass → IsOf h q
    → IsInterrupted a.first (alloc words) a.steps s.pass tries q → SameFor s.pass q (blocks_of s)
asked-again h s words tries q a of_s of tells =
    same-since a.first s.pass q (blocks_of s) (calling-alloc-same h a.first s.pass words a.steps (blocks_of s) of_s a.calling a.exactly.0)
    (calling-alloc-same h a.first q words (suc tells.steps) (blocks_of s) of tells.calling a.exactly.0)

-- the store waits on where its call is interrupted again
pub busy-on :
    (h : HeapFields) (s : Store) (tries : ℕ) (q : Pass) → (u : IsUnderWay h s) → SameFor s.pass q (blocks_of s) → IsOf h q
    → IsInterrupted u.first u.call u.steps s.pass tries q → IsUnderWay h (record s { pass = q })
busy-on h s tries q u same of tells = record {
  of = of;
  first = u.first;
  was = u.was;
  call = u.call;
  steps = suc tells.steps;
  calling = tells.calling;
  waits = u.waits;
  built = built-stays s q s.pending same u.built;
}

-- an allocation frees nothing, and a free gives, refuses and spends nothing
pub never : (p q : Pass) (call : Call) (steps : ℕ) (answer : Rattle.errand_steps.specs.declared.reply.Reply.Reply)
    → Rattle.sound_laws.specs.events.Ends.end_of call answer ≡ None → HasCalled p call steps answer q → ⊥
never p q call steps answer none called = none-some called.ended.ended.0 (sym none ∙ called.ended.ended.1)

-- the store waits for the free of a block
pub record FreesNow (h : HeapFields) (s : Store) : Type 0 where
  pub first : Pass
  pub was : IsOf h first
  pub block : Block
  pub steps : ℕ
  pub calling : IsCalling first (free block.place block.need) steps s.pass
  pub exactly : HoldsExactly first (block ∷ blocks_of s)

pub frees : (h : HeapFields) (s : Store) → IsUnderWay h s → s.pending ≡ Free → FreesNow h s
frees h s u is =
    let w : IsWaitingFor s u.first u.call Free = subst (IsWaitingFor s u.first u.call) is u.waits in
    record {
      first = u.first;
      was = u.was;
      block = w.0;
      steps = u.steps;
      calling = subst (λ k. IsCalling u.first k u.steps s.pass) w.1 u.calling;
      exactly = w.2;
    }

pub resumed-freed :
    (h : HeapFields) (s : Store) (tries : ℕ) (q : Pass) → (f : FreesNow h s) → IsOf h s.pass → IsOf h q → IsBuilt s
    → ResumeTells f.first (free f.block.place f.block.need) f.steps s.pass tries resumed.Freed q → IsOver h s q
resumed-freed h s tries q f of_s of built tells =
    let called = tells.called in
    let same =
    same-since f.first s.pass q (blocks_of s) (calling-free-same h f.first s.pass f.block f.steps (blocks_of s) of_s f.calling f.exactly.0.1)
    (freed-same h f.first q f.block tells.steps (blocks_of s) of called f.exactly.0.1) in
    record {
      ready = record {
        of = of;
        idle = called.idle;
        exactly =
            called-exact h f.first q (free f.block.place f.block.need) tells.steps reply.Freed (f.block ∷ blocks_of s) (blocks_of s) f.was of called
            (f.block, refl, refl) f.exactly;
        built = built-stays s q s.pending same built;
      };
      same = same;
    }

pub freed-again :
    (h : HeapFields) (s : Store) (tries : ℕ) (q : Pass) → (f : FreesNow h s) → IsOf h s.pass → IsOf h q
    → IsInterrupted f.first (free f.block.place f.block.need) f.steps s.pass tries q → SameFor s.pass q (blocks_of s)
freed-again h s tries q f of_s of tells =
    same-since f.first s.pass q (blocks_of s) (calling-free-same h f.first s.pass f.block f.steps (blocks_of s) of_s f.calling f.exactly.0.1)
    (calling-free-same h f.first q f.block (suc tells.steps) (blocks_of s) of tells.calling f.exactly.0.1)
