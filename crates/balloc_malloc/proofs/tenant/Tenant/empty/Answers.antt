use Rattle.std.proofs.Common.{◌≡◌, ◌∙◌, ◌++◌, ◌∷◌, [], List, ap, refl, subst}
use Rattle.std.specs.List.{AllByRecursion}
use Rattle.std.proofs.lemmas.List.{append_assoc}
use Rattle.balloc_malloc.specs.declared.entry.Entry.{Entry}
use Rattle.balloc_malloc.specs.Bundles.{IsOfHeap, bundled}
use Rattle.balloc_malloc.specs.Entries.{entry}
use Rattle.balloc_malloc.specs.Tenants.{heap_of}
use Rattle.balloc_malloc.proofs.Emptying.{all_but_last, one_more}
use Rattle.balloc_malloc.proofs.tenant.Tenant.empty.Goals as goal

pub loop-first-preserved : goal.loop-first-preserved
loop-first-preserved c =
    let before = c.args.self.now in
    let inv = c.loop-first.invariant in
    let x : Entry = entry c.in-Some.first c.in-Some.size c.in-Some.words in
    let left : List Entry = bundled c.pop.new.self in
    let popped : bundled c.loop-first.bundle ≡ left ++ x ∷ [] = c.in-Some.ensures.some in
    let back = c.in_default-take_back.ensures.back refl in record {
      taken = x ∷ inv.taken;
      all = inv.all ∙ ap (λ (had : List Entry). had ++ inv.taken) popped ∙ append_assoc left (x ∷ []) inv.taken;
      has = one_more before c.loop-first.self _ inv.taken x inv.has back.0 back.1;
      home = (all_but_last (IsOfHeap (heap_of before)) left x (subst (AllByRecursion (IsOfHeap (heap_of before))) popped inv.home)).0;
    }
