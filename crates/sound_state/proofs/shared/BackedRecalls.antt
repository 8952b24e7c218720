-- What stands beside each recall of a point, and so what callers remember after an effect.
use Rattle.std.proofs.Common.{ℕ, ◌≢◌, ◌<◌, List, arith, subst, All}
use Rattle.std.specs.List.{AllByRecursion}
use Rattle.std.proofs.lemmas.List.Elements.{All-from_recursion, recursion_from_All}
use Rattle.sound_state.proofs.Common.{ErrandFields, FitsPoint, Geometry, IsOwnErrand, IsSo, Lists, Moves, Point, Recall, State, recalls_of, IsRemembered, IsFormed}
use Rattle.sound_state.proofs.Common.{Part}
use Rattle.sound_state.proofs.shared.CallerLemmas.{each-other}
use Rattle.sound_state.proofs.shared.RecallFrame.{IsBacked, PartStays, Reads, so-stays}

-- what follows of each thing from what holds of each
pub for-each : (P Q : Recall → Type 0) → ((r : Recall) → P r → Q r) → (rs : List Recall) → AllByRecursion P rs → All Q rs
for-each P Q goes rs each = λ k d lt. goes _ (All-from_recursion P rs each k d lt)

-- all that a caller recalls at the point reads such parts
abbrev pub AllRead : (Part → Type 0) → Point → Type 0
AllRead P p = All (Reads P) (recalls_of p)

-- a caller's errand is at a point that fits it
pub fits-own : (g : Geometry) (i : ℕ) (e : ErrandFields) → IsOwnErrand g i e → FitsPoint g i e.point
fits-own g i e own = subst (λ h. FitsPoint h i e.point) own.geometry (subst (λ j. FitsPoint e.geometry j e.point) own.number own.rule.point)

-- so is the one with which a caller goes on to a formed state
pub fits-next :
    (g : Geometry) (s : State) (caller : ℕ) (e : ErrandFields) (s' : State) → IsFormed g s' → caller < g.callers → Moves s.errand caller e s'.errand
    → FitsPoint g caller e.point
fits-next g s caller e s' formed has moves =
    subst (λ f. FitsPoint g caller f.point) moves.here (fits-own g caller (s'.errand caller) (formed.errands caller has))

-- each recall of a point has what stands beside it
module _ (g : Geometry) (s : State) (l : Lists) (i : ℕ) where
  backed-point : (p : Point) → FitsPoint g i p → AllByRecursion (IsSo g s l i) (recalls_of p) → AllByRecursion (IsBacked g s l) (recalls_of p)
  unfolding recalls_of
  backed-point p fit so = grind (arith, fit, so)

  -- what a caller remembers at a point stays so, where what it reads stays
  pub recalls-stay :
      (s' : State) (l' : Lists) (p : Point) → FitsPoint g i p → All (IsSo g s l i) (recalls_of p) → AllRead (PartStays g s l s' l' i) p
      → All (IsSo g s' l' i) (recalls_of p)
  recalls-stay s' l' p fit so parts =
      let rs = recalls_of p in
      let backed = All-from_recursion (IsBacked g s l) rs (backed-point p fit (recursion_from_All (IsSo g s l i) rs so)) in
      λ k d lt. so-stays g s l s' l' i _ (parts k d lt) (backed k d lt) (so k d lt)

-- what all callers but one remember is so
abbrev pub OthersRemember : Geometry → State → Lists → ℕ → Type 0
OthersRemember g s l caller = (i : ℕ) → i < g.callers → i ≢ caller → All (IsSo g s l i) (recalls_of (s.errand i).point)

-- everything that is remembered after a step is so, where its caller has what it needs, and what the others read stays
pub remembered-stays :
    (g : Geometry) (s : State) (l : Lists) (caller : ℕ) (e : ErrandFields) (s' : State) (l' : Lists) → Moves s.errand caller e s'.errand
    → ((i : ℕ) → i < g.callers → IsOwnErrand g i (s.errand i)) → OthersRemember g s l caller → All (IsSo g s' l' caller) (recalls_of e.point)
    → ((i : ℕ) → i < g.callers → i ≢ caller → AllRead (PartStays g s l s' l' i) (s.errand i).point) → IsRemembered g s' l'
remembered-stays g s l caller e s' l' moves own old mine parts = record {
  so =
      each-other g (λ i e. All (IsSo g s' l' i) (recalls_of e.point)) s.errand caller e s'.errand moves mine
      (λ i has ne. recalls-stay g s l i s' l' (s.errand i).point (fits-own g i (s.errand i) (own i has)) (old i has ne) (parts i has ne));
}
