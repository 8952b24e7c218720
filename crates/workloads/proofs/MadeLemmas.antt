-- Lane behind lane.
use Rattle.std.proofs.Common.{◌≡◌, ℕ, ◌+◌, List, [], ◌∷◌, ◌++◌, false, refl, add-one}
use Rattle.rand_pcg.specs.Lcg.{Lcg}
use Rattle.trace_text.specs.declared.trace.Op.{Op}
use Rattle.trace_text.specs.declared.trace.OrderRun.{OrderRun}
use Rattle.trace_text.specs.declared.trace.Version.TheVariants.{One}
use Rattle.workloads.specs.declared.kind.Kind.{Kind}
use Rattle.workloads.specs.Draws.{just, ◌>>=◌, seeded_by}
use Rattle.workloads.specs.Made.{rounds_of, lane_of, lanes_of, workload_heap, made}
use Rattle.workloads.proofs.DrawLemmas.{followed}

pub lanes-more :
    (kind : Kind) (size lane rounds : ℕ) (before : List (List Op)) (ops : List Op) (g h k : Lcg) → (before, h) ≡ lanes_of kind size lane g
    → rounds ≡ rounds_of size lane → (ops, k) ≡ lane_of kind lane rounds h → (before ++ ops ∷ [], k) ≡ lanes_of kind size (lane + 1) g
unfolding lanes_of
lanes-more kind size lane rounds before ops g h k is share e =
    rw add-one
    (followed (lanes_of kind size lane) (λ before. lane_of kind lane (rounds_of size lane) >>= λ ops. just (before ++ ops ∷ [])) g h before _ is
    (followed (lane_of kind lane (rounds_of size lane)) (λ ops. just (before ++ ops ∷ [])) h k ops _ (rw share at e) refl))

pub trace-made :
    (kind : Kind) (size start : ℕ) (lanes listed : List (List Op)) (orders : List OrderRun) (g h : Lcg) → g ≡ seeded_by start
    → (lanes, h) ≡ lanes_of kind size 8 g → listed ≡ lanes → orders ≡ []
    → record { version = One; heap = workload_heap; named_limit = false; lanes = listed; orders = orders } ≡ made kind size start
unfolding made
trace-made kind size start lanes listed orders g h seeded is same none = rw (same, none, ← seeded, ← is) refl
