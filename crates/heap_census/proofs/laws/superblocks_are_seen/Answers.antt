use Rattle.std.proofs.Common.{sym, ◌∙◌}
use Rattle.heap_census.specs.Census.{closed_state}
use Rattle.heap_census.proofs.RestLemmas.{closed-rests, bound-same}
use Rattle.heap_census.proofs.ActiveLemmas.{named-once}
use Rattle.heap_census.proofs.SeenLemmas.{named-active, seen-is}
use Rattle.heap_census.proofs.laws.superblocks_are_seen.Goals as goal

pub returns-clause-seen : goal.returns-clause-seen
returns-clause-seen c = λ closed l d resting listed has.
    let (k, rests) = closed-rests closed resting in
    let same = bound-same closed.geometry (closed_state closed) l k listed rests.parts.listed d in
    let is = seen-is closed.geometry (closed_state closed) k d rests has in
    (λ bound. is.0 (sym same ∙ bound), λ seen. same ∙ is.1 seen)

pub returns-clause-once : goal.returns-clause-once
returns-clause-once c = λ closed d resting a b.
    let (l, rests) = closed-rests closed resting in
    named-once closed.geometry (closed_state closed) l d rests a b

pub returns-clause-class : goal.returns-clause-class
returns-clause-class c = λ closed d resting a.
    let (l, rests) = closed-rests closed resting in
    (named-active closed.geometry (closed_state closed) l d rests a).1.class
