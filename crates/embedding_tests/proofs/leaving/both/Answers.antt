use Rattle.std.proofs.Common.{ℕ, suc, ◌≡◌, List, [], ◌∷◌, ◌++◌, subst}
use Rattle.live_heap.specs.Heaps.{HeapFields}
use Rattle.live_heap.specs.declared.pass.Pass.{Pass}
use Rattle.live_heap.specs.Passes.{AreFrom, IsOf}
use Rattle.embedding_tests.proofs.leaving.both.Goals as goal

-- the last pass of a new heap, and those before it
last-from : (h : HeapFields) (caller : ℕ) (ps : List Pass) (p : Pass) → AreFrom h caller (ps ++ p ∷ []) → AreFrom h caller ps × IsOf h p
last-from h caller [] p from = (tt, from.0.of)
last-from h caller (q ∷ ps) p from = let rest = last-from h (suc caller) ps p from.2 in ((from.0, from.1, rest.0), rest.1)

pub returns : goal.returns
returns c h from =
    let all : c.args.passes.items ≡ c.pop.new.self.items ++ c.in_ok-second.second ∷ [] = c.in_ok-second.ensures.items in
    let one : c.pop.new.self.items ≡ c.pop-2.new.self.items ++ c.in_ok-first.first ∷ [] = c.in_ok-first.ensures.items in
    let last = last-from h 0 c.pop.new.self.items c.in_ok-second.second (subst (AreFrom h 0) all from) in
    let before = last-from h 0 c.pop-2.new.self.items c.in_ok-first.first (subst (AreFrom h 0) one last.0) in
    (before.1, last.1)
