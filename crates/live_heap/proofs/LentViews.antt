-- What blocks a pass has out matters neither to the table nor to the pieces; and a caller's mark is no piece's.
-- An `unfolding` line with the lemma's name shows that the events, the errands and the run stay, and the pieces' status.
use Rattle.std.proofs.Common.{ℕ, zero, suc, ◌≡◌, ◌≢◌, ◌<◌, List, [], ◌∷◌, length, refl, arith, sym, ap, subst, inl, inr, ◌∙◌, ⊎_elim, get_or-set_same, get_or-set_other, length-set}
use Rattle.std.specs.Prelude.{slice_set, None}
use Rattle.std.proofs.lemmas.Bool.{cases_eq}
use mathlib.Core.Option.{some, some-injective, some-ne-none}
use lib.ListN.{get_elem?}
use Rattle.atomic_table.proofs.Lists.{at_set, set_else, set_here}
use Rattle.heap_geometry.specs.declared.geometry.Geometry.{Geometry}
use Rattle.word_table.specs.Occurs.{occurs}
use Rattle.plain_words.specs.Places.{Place, laid, place_at}
use Rattle.sound_laws.specs.uses.Pieces.{piece_count, piece_of}
use Rattle.sound_laws.proofs.uses_lemmas.PieceLemmas.{word-among}
use Rattle.live_heap.specs.declared.view.Lent.{Lent}
use Rattle.live_heap.specs.declared.view.View.{View}
use Rattle.live_heap.specs.Lending.{with_lent}
use Rattle.live_heap.specs.Pieces.{AreLaidOut, IsOpened, IsOpener, Status, caller_mark, mark_of, mark_place, shown}
use Rattle.live_heap.specs.Rule.{KeptTable, Stands}
use Rattle.live_heap.specs.Shelves.{AllowedWords}
use Rattle.live_heap.proofs.Shows.{shown-mark, shows-still, status-else, status-here, with_status}

-- who is found in a list stands in it
pub view-within : (views : List View) (id : ℕ) (v : View) → get_elem? views id ≡ some v → id < length views
view-within [] id v e = absurd (some-ne-none v (sym e))
view-within (x ∷ xs) zero v e = omega arith
view-within (x ∷ xs) (suc id) v e = omega (arith, view-within xs id v e)

module _ (g : Geometry) (words : List ℕ) (views : List View) (id : ℕ) (v : View) (blocks : List Lent) where
  abbrev now : View
  now = with_lent v blocks

  abbrev views_now : List View
  views_now = slice_set views id now

  -- the rule of the machine speaks of no block that is out
  pub kept-mine : {rule : AllowedWords} (k : KeptTable rule g words views) → get_elem? views id ≡ some v → Stands g k.errands k.events k.run.wins.list k.run.moves k.place id now
  kept-mine k at =
      let mine = k.each id v at in
      record {
        seen = mine.seen;
        wins_seen = mine.wins_seen;
        each = λ number x is. let y = mine.each number x is in record {
          has = y.has;
          at_place = y.at_place;
          errand = y.errand;
          seen = y.seen;
          own_seen = y.own_seen;
          seen_within = y.seen_within;
          wins_seen = y.wins_seen;
          counted = y.counted;
        };
      }

  unfoldable pub kept-lent : {rule : AllowedWords} → get_elem? views id ≡ some v → KeptTable rule g words views → KeptTable rule g words views_now
  kept-lent at k = record {
    whole = k.whole;
    errands = k.errands;
    nobody = k.nobody;
    events = k.events;
    made = k.made;
    run = k.run;
    opened = k.opened;
    place = k.place;
    by_rule = k.by_rule;
    each = λ j u is. ⊎_elim
        (λ (t : (j ≡ id) × (now ≡ u)).
        subst (λ (y : ℕ × View). Stands g k.errands k.events k.run.wins.list k.run.moves k.place y.0 y.1) (λ i. (sym t.0 i, t.1 i)) (kept-mine k at))
        (λ (t : (j ≢ id) × (get_elem? views j ≡ some u)). k.each j u t.1)
        (at_set views id j now u is);
  }

  pub opened-still : (j : ℕ) → get_elem? views id ≡ some v → IsOpened g views j → IsOpened g views_now j
  opened-still j at (i, u, at_u, opens_u) =
      elim (cases_eq i id) [
        | inl same ↦
            let mine : v ≡ u = some-injective v u (sym at ∙ ap (get_elem? views) (sym same) ∙ at_u) in
            (id, now, set_here views id now (view-within views id v at), subst (λ (w : View). IsOpener g w j) (sym mine) opens_u)
        | inr other ↦ (i, u, set_else views id i now other ∙ at_u, opens_u)
      ]

  -- a view after the change was there before, but for its blocks
  abbrev Was : ℕ → View → Type 0
  Was i u = (w : View) × (get_elem? views i ≡ some w) × (w.lays ≡ u.lays) × (w.ready ≡ u.ready)

  pub was : get_elem? views id ≡ some v → (i : ℕ) (u : View) → get_elem? views_now i ≡ some u → Was i u
  was at i u is = ⊎_elim
      (λ (t : (i ≡ id) × (now ≡ u)). (v, ap (get_elem? views) t.0 ∙ at, ap (λ (z : View). z.lays) t.1, ap (λ (z : View). z.ready) t.1))
      (λ (t : (i ≢ id) × (get_elem? views i ≡ some u)). (u, t.1, refl, refl))
      (at_set views id i now u is)

  unfoldable pub laid-lent : (places : List Place) → get_elem? views id ≡ some v → AreLaidOut g words places views → AreLaidOut g words places views_now
  laid-lent places at a = record {
    status = a.status;
    long = a.long;
    each = a.each;
    spare = λ k has unused. let s = a.spare k has unused in record { unused = ⊎_elim (λ x. inl x) (λ x. inr (opened-still k at x)) s.unused; zeros = s.zeros };
    layer = λ k has gone.
        let old = a.layer k has gone in
        elim (cases_eq old.0 id) [
          | inl mine ↦
              let u : v ≡ old.1 = some-injective v old.1 (sym at ∙ ap (get_elem? views) (sym mine) ∙ old.2) in (
                id,
                now,
                set_here views id now (view-within views id v at),
                ap (λ (x : View). x.lays) u ∙ old.3,
                subst (λ (x : View). IsOpener g x k) (sym u) old.4,
              )
          | inr else ↦ (old.0, old.1, set_else views id old.0 now else ∙ old.2, old.3, old.4)
        ];
    lays = λ i u k there_is laying. let o = was at i u there_is in a.lays i o.0 k o.1 (o.2 ∙ laying);
    once = λ i j x y k there_i there_j laying_i laying_j.
        let o = was at i x there_i in
        let q = was at j y there_j in
        a.once i j o.0 q.0 k o.1 q.1 (o.2 ∙ laying_i) (q.2 ∙ laying_j);
    ready = λ i u k there_is has. let o = was at i u there_is in a.ready i o.0 k o.1 (subst (λ (l : List ℕ). 0 < occurs k l) (sym o.3) has);
  }

-- a caller's mark is no piece's
pub mark-apart : (g : Geometry) (c k : ℕ) → k < piece_count g → k ≢ caller_mark g c
mark-apart g c k has same = omega (arith, has, same)

-- a caller's mark says that its block is out, or is home, and each piece is as far as it was
unfoldable pub laid-marked :
    (g : Geometry) (words : List ℕ) (places : List Place) (views : List View) (c : ℕ) (st : Status) → c < g.callers → AreLaidOut g words places views
    → AreLaidOut g words (slice_set places (mark_place g (caller_mark g c)) (laid (mark_of st))) views
laid-marked g words places views c st _ a =
    let m : ℕ = caller_mark g c in
    let p : ℕ = mark_place g m in
    let after : List Place = slice_set places p (laid (mark_of st)) in
    let long : length after ≡ length places = length-set places p (laid (mark_of st)) in
    let now : ℕ → Status = with_status a.status m st in
    let still : (k : ℕ) → k < piece_count g → now k ≡ a.status k = λ k has. status-else a.status m k st (mark-apart g c k has) in
    record {
      status = now;
      long = long ∙ a.long;
      each = λ i inside.
          let short : i < length places = omega (arith, inside, long) in
          elim (cases_eq i p) [
            | inl mark ↦
                ap (place_at after) mark ∙ get_or-set_same places p (laid (mark_of st)) None (omega (arith, short, mark))
                ∙ sym (ap (shown g words now) mark ∙ shown-mark g words now m ∙ ap (λ x. laid (mark_of x)) (status-here a.status m st))
            | inr other ↦
                get_or-set_other places p i (laid (mark_of st)) None other ∙ a.each i short
                ∙ sym (shows-still g words a.status m i st (λ inside_arena. mark-apart g c (piece_of g i) (word-among g i inside_arena).0) other)
          ];
      spare = λ k has unused. a.spare k has (λ e. unused (still k has ∙ e));
      layer = λ k has gone. a.layer k has (sym (still k has) ∙ gone);
      lays = λ i u k there_is laying. let old = a.lays i u k there_is laying in (old.0, still k old.0 ∙ old.1);
      once = a.once;
      ready = λ i u k there_is has. let old = a.ready i u k there_is has in (old.0, still k old.0 ∙ old.1);
    }
