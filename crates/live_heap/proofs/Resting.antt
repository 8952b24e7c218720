-- A pass that has no block's words out says so by its caller's mark: the rule holds still.
use Rattle.std.proofs.Common.{ℕ, ◌≡◌, ◌≢◌, ◌<◌, ◌+◌, None, List, [], ◌∷◌, length, refl, arith, sym, ap, subst, ◌∙◌, get_or-set_other, length-set}
use Rattle.std.specs.Prelude.{slice_set}
use mathlib.Core.Option.{some, some-injective}
use lib.ListN.{get_elem?}
use Rattle.atomic_table.proofs.Lists.{set_again}
use Rattle.heap_geometry.specs.declared.geometry.Geometry.{Geometry}
use Rattle.heap_geometry.specs.Geometry.{IsChecked}
use Rattle.live_heap.specs.placement.Places.{words_at}
use Rattle.plain_words.specs.Places.{Place, laid, number, place_at}
use Rattle.atomic_region.specs.Region as region
use Rattle.atomic_region.specs.Region.{State as RegionState}
use Rattle.atomic_region.specs.Region.Act.{keeps}
use Rattle.live_heap.specs.declared.view.Lent.{Lent}
use Rattle.live_heap.specs.declared.view.Standing.{Standing}
use Rattle.live_heap.specs.declared.view.View.{View}
use Rattle.live_heap.specs.Lending.{MayRest}
use Rattle.live_heap.specs.Pieces.{AreLaidOut, AreLent, IsOut, PiecesHold, caller_mark, mark_of, mark_place}
use Rattle.live_heap.specs.Pieces.Status.{blank}
use Rattle.live_heap.specs.Rule.{KeptTable}
use Rattle.live_heap.specs.Shelves.{AllowedWords}
use Rattle.live_heap.proofs.LentPlaces.{home-behind, none-out, out-on, set-alike}
use Rattle.live_heap.proofs.LentViews.{laid-marked}
use Rattle.live_heap.proofs.Shows.{arena-placed, shown-mark}

module _ {rule : AllowedWords} (g : Geometry) (table : List ℕ) (whole places : List Place) (views : List View) (id : ℕ) (v : View) (x : Standing)
    (k : KeptTable rule g (words_at g table) views) (a : AreLaidOut g table whole views) (l : AreLent g k.events whole places views) (at : get_elem? views id ≡ some v)
    (one : v.callers ≡ x ∷ []) (home : v.lent ≡ []) where
  abbrev caller : ℕ
  caller = x.errand.caller

  abbrev p : ℕ
  p = mark_place g (caller_mark g caller)

  has : caller < g.callers
  has = ((k.each id v at).each 0 x (ap (λ (m : List Standing). get_elem? m 0) one)).has

  p-within : p < length places
  p-within = omega (arith, l.long, a.long, has)

  p-laid : place_at places p ≡ laid (mark_of (a.status (caller_mark g caller)))
  p-laid =
      home-behind g k.events whole places views p l (omega (arith, arena-placed g)) p-within ∙ a.each p (omega (arith, p-within, l.long))
      ∙ shown-mark g table a.status (caller_mark g caller)

  abbrev whole_now : List Place
  whole_now = slice_set whole p (laid 0)

  abbrev places_now : List Place
  places_now = slice_set places p (laid 0)

  -- whose words are out is another caller
  differs : (j n : ℕ) (u : View) (b : Lent) → get_elem? views j ≡ some u → get_elem? u.lent n ≡ some b → (o : IsOut g k.events whole u b) → o.owner.errand.caller ≢ caller
  differs j n u b at_u at_b o same =
      let hers = (k.each j u at_u).each o.number o.owner o.stands in
      let mine = (k.each id v at).each 0 x (ap (λ (m : List Standing). get_elem? m 0) one) in
      let here : j ≡ id = ap (λ (q : ℕ × ℕ). q.0) (sym hers.at_place ∙ ap k.place same ∙ mine.at_place) in
      let is : u ≡ v = some-injective u v (sym at_u ∙ ap (get_elem? views) here ∙ at) in
      none-out v n b home (subst (λ (w : View). get_elem? w.lent n ≡ some b) is at_b)

  lent-now : AreLent g k.events whole_now places_now views
  lent-now = record {
    long = length-set places p (laid 0) ∙ l.long ∙ sym (length-set whole p (laid 0));
    home = λ i inside not_lent.
        set-alike places whole p i (laid 0) p-within (sym l.long) (λ other. l.home i (omega (arith, inside, length-set places p (laid 0))) not_lent);
    blocks = λ j n u b at_u at_b.
        let o = l.blocks j n u b at_u at_b in
        out-on g k.events k.events whole whole_now u u b o o.stands o.owned
        (get_or-set_other whole p (mark_place g (caller_mark g o.owner.errand.caller)) (laid 0) None
        (λ same. differs j n u b at_u at_b o (omega (arith, same))))
        (λ i below. get_or-set_other whole p (b.place + 1 + i) (laid 0) None (λ same. omega (arith, same, o.within, below, arena-placed g)));
  }

-- such a pass may clear the mark
pub may-rest :
    {rule : AllowedWords} (g : Geometry) (size id : ℕ) (me : region.Me View) (mark : ℕ) → IsChecked g → MayRest g me mark
    → region.Allows (PiecesHold rule g) size id me mark (λ _. 0) (λ _ after. after ≡ me)
may-rest {rule} g size id me mark _ r =
    subst (λ m. region.Allows (PiecesHold rule g) size id me m (λ _. 0) (λ _ after. after ≡ me)) (sym r.lies) rests
  where
    rests : region.Allows (PiecesHold rule g) size id me (mark_place g (caller_mark g r.before.errand.caller)) (λ _. 0) (λ _ after. after ≡ me)
    rests s good _ at =
        let words : List ℕ = good.0 in
        let whole : List Place = good.2 in
        let a = good.3 in
        let l = good.4 in
        let caller : ℕ = r.before.errand.caller in
        let q : ℕ = mark_place g (caller_mark g caller) in
        let laid_is = p-laid g words whole s.places s.views id me.0 r.before good.1.1 a l at r.one r.home in
        let now = lent-now g words whole s.places s.views id me.0 r.before good.1.1 a l at r.one r.home in
        let holds : PiecesHold rule g record { places = slice_set s.places q (laid 0); views = s.views } = (
          words,
          good.1,
          slice_set whole q (laid 0),
          laid-marked g words whole s.views caller blank (has g words whole s.places s.views id me.0 r.before good.1.1 a l at r.one r.home) a,
          now,
        ) in (
          laid_is ∙ ap laid (sym (ap number laid_is)),
          λ small. (
            me.0,
            keeps,
            tt,
            subst (λ (vs : List View). PiecesHold rule g record { places = slice_set s.places q (laid 0); views = vs }) (sym (set_again s.views id me.0 at)) holds,
            refl,
          ),
        )
