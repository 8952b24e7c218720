use Rattle.std.proofs.Common.{ℕ, ◌≡◌, ◌∙◌, subst, rules}
use Rattle.heap_geometry.specs.declared.geometry.Geometry.{Geometry}
use Rattle.balloc_malloc.specs.Opened.{HoldNew}
use Rattle.balloc_malloc.proofs.opening.open_all.Goals as goal

pub returns-in-Ok : goal.returns-in-Ok
returns-in-Ok c =
    let opened = c.in-Ok.ensures in
    let same : c.in-Some.geometry ≡ c.args.geometry = c.in-Some.ensures.some.0 in
    let deep : c.in-Some.depth ≡ c.args.depth = c.in-Some.ensures.some.1 in
    record {
      empty = c.are_empty.ensures.yes (search rules);
      fit = c.in-Some.ensures.some.2;
      heap = opened.0;
      layout = opened.1 ∙ same;
      begins = opened.2;
      new = subst (λ (g : Geometry). HoldNew opened.0 c.args.depth g.callers c.give_all.new.seats) same
          (subst (λ (n : ℕ). HoldNew opened.0 n c.in-Some.geometry.callers c.give_all.new.seats) deep opened.3);
    }
