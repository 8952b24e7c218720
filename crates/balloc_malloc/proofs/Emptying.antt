-- What a bundle is emptied of.
use Rattle.std.proofs.Common.{◌∙◌, List, [], ◌∷◌, ◌++◌, refl}
use Rattle.std.specs.List.{AllByRecursion}
use Rattle.balloc_malloc.specs.declared.entry.Entry.{Entry}
use Rattle.balloc_malloc.specs.declared.tenant.Tenant.{Tenant}
use Rattle.balloc_malloc.specs.Bundles.{HasTaken, IsOutOf}
use Rattle.balloc_malloc.specs.Gives.{IsBack}

pub all_but_last : {X : Type 0} (P : X → Type 0) (xs : List X) (x : X) → AllByRecursion P (xs ++ x ∷ []) → AllByRecursion P xs × P x
all_but_last P [] x all = (tt, all.0)
all_but_last P (y ∷ ys) x all = let rest = all_but_last P ys x all.1 in ((all.0, rest.0), rest.1)

pub none_taken : (t : Tenant) → HasTaken t [] t
none_taken t = record { were = tt; keeps = λ first size out elsewhere. out; only = λ first size out. (out, tt); heap = refl }

-- a piece that was out goes back as well
pub one_more : (before mid after : Tenant) (taken : List Entry) (x : Entry) → HasTaken before taken mid → IsOutOf mid x → IsBack mid x.first after → HasTaken before (x ∷ taken) after
one_more before mid after taken x has out back = record {
  were = ((has.only x.first x.size out).0, has.were);
  keeps = λ first size was elsewhere. back.keeps first size (has.keeps first size was elsewhere.1) elsewhere.0;
  only = λ first size is. let b = back.only first size is in let o = has.only first size b.0 in (o.0, (b.1, o.1));
  heap = back.heap ∙ has.heap;
}
