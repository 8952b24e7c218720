-- Eight lanes that work alone make a roomy trace.
use Rattle.std.proofs.Common.{ℕ, zero, suc, ◌+◌, ◌*◌, ◌/◌, ◌%◌, ◌≤◌, ◌≡◌, Bool, true, false, cond, count_by, sum_by, List, [], ◌∷◌, ◌++◌, length, refl, ap, arith, nat_lt}
use Rattle.std.proofs.lemmas.List.{length_push}
use Rattle.std.proofs.lemmas.List.Elements.{All-nil, All-push}
use Rattle.std.proofs.lemmas.List.Sums.{sum_by_push}
use Rattle.std.specs.List.{All}
use Rattle.rand_pcg.specs.Lcg.{Lcg}
use Rattle.trace_text.specs.declared.trace.Op.{Op}
use Rattle.workloads.specs.declared.kind.Kind.{Kind}
use Rattle.workloads.specs.declared.kind.Kind.TheVariants as kinds
use Rattle.workloads.specs.declared.making.TheConstants.{MAX_SIZE}
use Rattle.workloads.specs.Draws.{seeded_by}
use Rattle.workloads.specs.Made.{rounds_of, lanes_of, made}
use Rattle.heap_geometry.specs.declared.limits.TheConstants.{CLASSES}
use Rattle.roomy_traces.specs.Through.{IsRoomyThrough}
use Rattle.roomy_traces.specs.Roomy.{IsPlain, may_allocate, most_held, no_blocks, IsRoomy}
use Rattle.roomy_traces.proofs.generated_lemmas.NarrowLemmas.{lane-most}
use Rattle.roomy_traces.proofs.generated_lemmas.LaneLemmas.{IsSlim, lane-slim}
use Rattle.roomy_traces.proofs.through_lemmas.RoomLemmas.{roomy-through}

-- lanes that are plain, with no more allocations in all than so many lanes of `most`, and no more blocks than so many of 64
record AreSlim (many most : ℕ) (lanes : List (List Op)) : Type 0 where
  plain : All (All IsPlain) lanes
  turns : sum_by (count_by may_allocate) lanes ≤ many * most
  frames : sum_by (most_held no_blocks) lanes ≤ many * 64
  long : length lanes ≡ many

lanes-none : (most : ℕ) → AreSlim 0 most []
lanes-none most = record { plain = All-nil (All IsPlain); turns = omega arith; frames = omega arith; long = refl }

lanes-push :
    (many most rounds : ℕ) (lanes : List (List Op)) (operations : List Op) → rounds ≤ most → AreSlim many most lanes → IsSlim rounds operations
    → AreSlim (suc many) most (lanes ++ operations ∷ [])
lanes-push many most rounds lanes operations below are is =
    record {
      plain = All-push (All IsPlain) lanes operations are.plain is.plain;
      turns = omega (arith, sum_by_push (count_by may_allocate) lanes operations, are.turns, is.few);
      frames = omega (arith, sum_by_push (most_held no_blocks) lanes operations, are.frames, lane-most 64 operations is.low);
      long = omega (arith, length_push lanes operations, are.long);
    }

one-more : (test : Bool) → cond test 1 0 ≤ 1
one-more true = omega arith
one-more false = omega arith

rounds-most : (size lane : ℕ) → rounds_of size lane ≤ size / 8 + 1
rounds-most size lane = omega (arith, one-more (nat_lt lane (size % 8)))

lanes-slim :
    (kind : Kind) (size lanes : ℕ) → (kind ≡ kinds.Pipeline → ⊥) → (g : Lcg) → AreSlim lanes (size / 8 + 1) (lanes_of kind size lanes g).0
unfolding lanes_of
lanes-slim kind size zero alone g = lanes-none (size / 8 + 1)
lanes-slim kind size (suc lane) alone g =
    lanes-push lane (size / 8 + 1) (rounds_of size lane) _ _ (rounds-most size lane) (lanes-slim kind size lane alone g)
    (lane-slim kind lane (rounds_of size lane) alone (lanes_of kind size lane g).1)

-- a workload's trace is roomy where its lanes work alone
pub made-roomy : (kind : Kind) (size start : ℕ) → size ≤ MAX_SIZE → (kind ≡ kinds.Pipeline → ⊥) → IsRoomy (made kind size start)
unfolding made
made-roomy kind size start small alone =
    let are = lanes-slim kind size 8 alone (seeded_by start) in
    record {
      plain = are.plain;
      turns = omega (arith, are.turns);
      frames = omega (arith, are.frames);
    }

-- and it is roomy through caches that keep at most four blocks of a class
pub made-roomy_through :
    (kind : Kind) (size start depth : ℕ) → size ≤ MAX_SIZE → (kind ≡ kinds.Pipeline → ⊥) → depth ≤ 4 → IsRoomyThrough depth (made kind size start)
unfolding made
made-roomy_through kind size start depth small alone shallow =
    let are = lanes-slim kind size 8 alone (seeded_by start) in
    let room : ℕ = CLASSES * depth in
    let all : length (lanes_of kind size 8 (seeded_by start)).0 * room ≡ 8 * room = ap (λ n. n * room) are.long in
    roomy-through depth (made kind size start) (made-roomy kind size start small alone) (omega (arith, are.frames, all, shallow))
