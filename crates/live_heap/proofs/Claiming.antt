-- The two steps by which a piece is laid: its mark is claimed, which takes its words out where they were never laid; and they come back as zeros.
use Rattle.std.proofs.Common.{ℕ, zero, suc, ◌≡◌, ◌≢◌, ◌<◌, ◌≤◌, ◌+◌, ◌-◌, Option, Some, None, List, [], ◌∷◌, length, replicate, eqb, refl, arith, sym, ap, subst, inl, inr, ◌∙◌, ⊎_elim, get_or-set_same, get_or-set_other, length-set, ne_eqb}
use Rattle.std.specs.Prelude.{slice_index, slice_set}
use Rattle.std.proofs.lemmas.Bool.{cases_eq, cases_lt}
use Rattle.std.proofs.lemmas.List.{length-map, length-replicate, get_or-replicate}
use mathlib.Core.Option.{some, some-injective}
use lib.ListN.{get_elem?}
use prog.Atomic.{either}
use Rattle.atomic_table.proofs.Lists.{at_set, set_else, set_here}
use Rattle.heap_geometry.specs.declared.geometry.Geometry.{Geometry}
use Rattle.word_table.specs.Occurs.{occurs}
use Rattle.live_heap.specs.placement.Places.{words_at}
use Rattle.plain_words.proofs.Rows.{length-put}
use Rattle.plain_words.specs.Places.{Place, laid, laids, blanks, outs, number, number_at, place_at, put, run}
use Rattle.atomic_region.specs.Region as region
use Rattle.atomic_region.specs.Region.{with_number, Goes}
use Rattle.atomic_region.specs.Region.Act.{keeps, takes, gives}
use Rattle.sound_state.proofs.CountedLemmas.{without-counts}
use Rattle.sound_laws.specs.uses.Pieces.{piece_count, piece_start, piece_words}
use Rattle.errand_steps.specs.Openers.{Opens}
use Rattle.sound_laws.proofs.uses_lemmas.Opened.{opened-by_one}
use Rattle.sound_laws.proofs.uses_lemmas.PieceLemmas.{word-inside}
use Rattle.step_machine.proofs.CoreLemmas.{run-sound}
use Rattle.pool_model.specs.declared.event.Event.{Event}
use Rattle.live_heap.specs.declared.view.Lent.{Lent}
use Rattle.live_heap.specs.declared.view.Standing.{Standing}
use Rattle.live_heap.specs.declared.view.View.{View}
use Rattle.live_heap.specs.Pieces.{AreLaidOut, AreLent, Claimed, IsLent, IsOpened, IsOpener, IsOut, IsSpare, PiecesHold, Status, caller_mark, mark_of, mark_place, place_as, shown, with_pieces, zeros_of}
use Rattle.live_heap.specs.Pieces.Status.{blank, out, used}
use Rattle.live_heap.specs.Rule.{KeptTable, Stands, state_with}
use Rattle.live_heap.specs.Shelves.{AllowedWords}
use Rattle.live_heap.proofs.LentPlaces.{home-behind, lent-laid, out-still, put-alike, set-alike}
use Rattle.live_heap.proofs.PutPlaces.{at-put_before, at-put_behind, run-all}
use Rattle.live_heap.proofs.Shows.{arena-placed, piece-end, relaid, shown-arena, shown-mark, status-else, status-here, with_status}

-- the rule of the machine speaks of no piece
kept-mine :
    {rule : AllowedWords} (g : Geometry) (words : List ℕ) (views : List View) (id : ℕ) (v : View) (lays : Option ℕ) (ready : List ℕ) (k : KeptTable rule g words views)
    → get_elem? views id ≡ some v → Stands g k.errands k.events k.run.wins.list k.run.moves k.place id (with_pieces v lays ready)
kept-mine g words views id v lays ready k at =
    let mine = k.each id v at in
    record {
      seen = mine.seen;
      wins_seen = mine.wins_seen;
      each = λ number x is. let y = mine.each number x is in record {
        has = y.has;
        at_place = y.at_place;
        errand = y.errand;
        seen = y.seen;
        own_seen = y.own_seen;
        seen_within = y.seen_within;
        wins_seen = y.wins_seen;
        counted = y.counted;
      };
    }

pub kept-pieces :
    {rule : AllowedWords} (g : Geometry) (words : List ℕ) (views : List View) (id : ℕ) (v : View) (lays : Option ℕ) (ready : List ℕ) → get_elem? views id ≡ some v
    → KeptTable rule g words views → KeptTable rule g words (slice_set views id (with_pieces v lays ready))
kept-pieces g words views id v lays ready at k = record {
  whole = k.whole;
  errands = k.errands;
  nobody = k.nobody;
  events = k.events;
  made = k.made;
  run = k.run;
  opened = k.opened;
  place = k.place;
  by_rule = k.by_rule;
  each = λ j u is. ⊎_elim
      (λ (t : (j ≡ id) × (with_pieces v lays ready ≡ u)).
      subst (λ (y : ℕ × View). Stands g k.errands k.events k.run.wins.list k.run.moves k.place y.0 y.1) (λ i. (sym t.0 i, t.1 i)) (kept-mine g words views id v lays ready k at))
      (λ (t : (j ≢ id) × (get_elem? views j ≡ some u)). k.each j u t.1)
      (at_set views id j (with_pieces v lays ready) u is);
}

-- a piece has one opener
pub one-opener :
    {rule : AllowedWords} (g : Geometry) (words : List ℕ) (views : List View) (i j k : ℕ) (u v : View) → KeptTable rule g words views → get_elem? views i ≡ some u
    → get_elem? views j ≡ some v → IsOpener g u k → IsOpener g v k → i ≡ j
one-opener g words views i j k u v kept at_u at_v (n, x, at_x, opens_x) (m, y, at_y, opens_y) =
    let a = (kept.each i u at_u).each n x at_x in
    let b = (kept.each j v at_v).each m y at_y in
    let state = state_with g words kept.errands kept.events in
    let sound = without-counts g state (run-sound g state kept.made kept.run) in
    let same : x.errand.caller ≡ y.errand.caller =
    opened-by_one g state x.errand.caller y.errand.caller k sound a.has b.has
    (subst (λ e. Opens g e.point k) (sym a.errand) opens_x) (subst (λ e. Opens g e.point k) (sym b.errand) opens_y) in
    ap (λ (p : ℕ × ℕ). p.0) (sym a.at_place ∙ ap kept.place same ∙ b.at_place)

in-views : (l : List View) (i : ℕ) (a : View) → get_elem? l i ≡ some a → i < length l
in-views [] i a e = absurd (let no : ⊥ = cc in no)
in-views (x ∷ xs) zero a e = omega arith
in-views (x ∷ xs) (suc i) a e = omega (arith, in-views xs i a e)

pub unlike : (j : ℕ) → Some j ≡ None → ⊥
unlike j is = let e : ◌≡◌ {A = Option ℕ} (Some j) None = is in cc

same-number : (i j : ℕ) → Some i ≡ Some j → i ≡ j
same-number i j is = let e : ◌≡◌ {A = Option ℕ} (Some i) (Some j) = is in cc

pub blank-out : blank ≡ out → ⊥
blank-out e = let bad : ◌≡◌ {A = ℕ} 0 1 = ap mark_of e in omega (arith, bad)

pub blank-used : blank ≡ used → ⊥
blank-used e = let bad : ◌≡◌ {A = ℕ} 0 2 = ap mark_of e in omega (arith, bad)

pub out-used : out ≡ used → ⊥
out-used e = let bad : ◌≡◌ {A = ℕ} 1 2 = ap mark_of e in omega (arith, bad)

module _ (g : Geometry) (words : List ℕ) (views : List View) (id k : ℕ) (v : View) (before : Standing)
    (one : v.callers ≡ before ∷ []) (opens : Opens g before.errand.point k) (below : k < piece_count g) (at : get_elem? views id ≡ some v)
    (lays : Option ℕ) (ready : List ℕ) where
  abbrev now : View
  now = with_pieces v lays ready

  abbrev views_now : List View
  views_now = slice_set views id now

  opener : IsOpener g v k
  opener = (0, before, ap (λ (l : List Standing). get_elem? l 0) one, opens)

  there : id < length views
  there = in-views views id v at

  -- an opener is one still
  opened-still : (j : ℕ) → IsOpened g views j → IsOpened g views_now j
  opened-still j (i, u, at_u, opens_u) =
      elim (cases_eq i id) [
        | inl same ↦
            let mine : v ≡ u = some-injective v u (sym at ∙ ap (get_elem? views) (sym same) ∙ at_u) in
            (id, now, set_here views id now there, subst (λ (w : View). IsOpener g w j) (sym mine) opens_u)
        | inr other ↦ (i, u, set_else views id i now other ∙ at_u, opens_u)
      ]

  spare-still : (j : ℕ) → IsSpare g words views j → IsSpare g words views_now j
  spare-still j s = record { unused = ⊎_elim (λ x. inl x) (λ x. inr (opened-still j x)) s.unused; zeros = s.zeros }

-- a range that is put back leaves the length
put-long :
    (ps qs : List Place) (i start : ℕ) (p : Place) → start + length qs ≤ length (slice_set ps i p) → length (put (slice_set ps i p) start qs) ≡ length ps
put-long ps qs i start p within = length-put (slice_set ps i p) start qs within ∙ length-set ps i p

-- a piece lies within the places
within :
    (g : Geometry) (words : List ℕ) (places : List Place) (views : List View) (k : ℕ) → k < piece_count g → AreLaidOut g words places views
    → (qs : List Place) (i : ℕ) (p : Place) → length qs ≡ piece_words g k → piece_start g k + length qs ≤ length (slice_set places i p)
within g words places views k below a qs i p size =
    omega (arith, size, piece-end g k below, arena-placed g, a.long, length-set places i p)

set-there : (ps : List Place) (i : ℕ) (p : Place) → i < length ps → place_at (slice_set ps i p) i ≡ p
set-there ps i p inside = get_or-set_same ps i p None inside

-- a number that a list has behind another first one
past : (x j : ℕ) (xs : List ℕ) → x ≢ j → 0 < occurs j (x ∷ xs) → 0 < occurs j xs
past x j xs differ among = grind (arith, among, ne_eqb x j differ)

at-zeros : (n j : ℕ) → j < n → place_at (laids (replicate n 0)) j ≡ laid 0
at-zeros zero j lt = absurd (omega (arith, lt))
at-zeros (suc n) zero lt = refl
at-zeros (suc n) (suc j) lt = at-zeros n j (omega (arith, lt))

-- a piece that was never laid is out
claimed-laid :
    (g : Geometry) (words : List ℕ) (places : List Place) (views : List View) (id k : ℕ) (v : View) (before : Standing) → v.callers ≡ before ∷ []
    → Opens g before.errand.point k → k < piece_count g → get_elem? views id ≡ some v → v.lays ≡ None → (a : AreLaidOut g words places views) → a.status k ≡ blank
    → AreLaidOut g words (put (slice_set places (mark_place g k) (laid 1)) (piece_start g k) (outs (piece_words g k))) (slice_set views id (with_pieces v (Some k) v.ready))
claimed-laid g words places views id k v before one opens below at settled a is =
    let w : View = with_pieces v (Some k) v.ready in
    let after : List Place = put (slice_set places (mark_place g k) (laid 1)) (piece_start g k) (outs (piece_words g k)) in
    let size : length (outs (piece_words g k)) ≡ piece_words g k = length-replicate (piece_words g k) None in
    let long : length after ≡ length places = put-long places (outs (piece_words g k)) (mark_place g k) (piece_start g k) (laid 1) (within g words places views k below a (outs (piece_words g k)) (mark_place g k) (laid 1) size) in
    let still : (j : ℕ) → j ≢ k → with_status a.status k out j ≡ a.status j = λ j differ. status-else a.status k j out differ in
    record {
      status = with_status a.status k out;
      long = long ∙ a.long;
      each = λ i inside.
          relaid g words places (outs (piece_words g k)) a.status k out below a.long a.each size (λ j short. get_or-replicate (piece_words g k) j None None short) i
          (omega (arith, inside, long));
      spare = λ j has unused. elim (cases_eq j k) [
        | inl same ↦ spare-still g words views id k v before one opens below at (Some k) v.ready j (a.spare j has (λ e. blank-used (sym is ∙ ap a.status (sym same) ∙ e)))
        | inr other ↦ spare-still g words views id k v before one opens below at (Some k) v.ready j (a.spare j has (λ e. unused (still j other ∙ e)))
      ];
      layer = λ j has gone. elim (cases_eq j k) [
        | inl same ↦ (
          id,
          w,
          set_here views id w (there g words views id k v before one opens below at (Some k) v.ready),
          ap Some (sym same),
          subst (IsOpener g w) (sym same) (opener g words views id k v before one opens below at (Some k) v.ready),
        )
        | inr other ↦
            let old = a.layer j has (sym (still j other) ∙ gone) in
            elim (cases_eq old.0 id) [
              | inl mine ↦
                  let u : v ≡ old.1 = some-injective v old.1 (sym at ∙ ap (get_elem? views) (sym mine) ∙ old.2) in
                  absurd (unlike j (sym old.3 ∙ ap (λ (x : View). x.lays) (sym u) ∙ settled))
              | inr else ↦ (old.0, old.1, set_else views id old.0 w else ∙ old.2, old.3, old.4)
            ]
      ];
      lays = λ i u j there_is laying. ⊎_elim
          (λ (t : (i ≡ id) × (w ≡ u)).
          let same : k ≡ j = same-number k j (ap (λ (x : View). x.lays) t.1 ∙ laying) in
          (subst (λ n. n < piece_count g) same below, ap (with_status a.status k out) (sym same) ∙ status-here a.status k out))
          (λ (t : (i ≢ id) × (get_elem? views i ≡ some u)).
          let old = a.lays i u j t.1 laying in
          (old.0, still j (λ same. blank-out (sym is ∙ ap a.status (sym same) ∙ old.1)) ∙ old.1))
          (at_set views id i w u there_is);
      once = λ i j x y n there_i there_j laying_i laying_j. ⊎_elim
          (λ (t : (i ≡ id) × (w ≡ x)). ⊎_elim
          (λ (q : (j ≡ id) × (w ≡ y)). t.0 ∙ sym q.0)
          (λ (q : (j ≢ id) × (get_elem? views j ≡ some y)).
          let same : k ≡ n = same-number k n (ap (λ (z : View). z.lays) t.1 ∙ laying_i) in
          absurd (blank-out (sym is ∙ ap a.status same ∙ (a.lays j y n q.1 laying_j).1)))
          (at_set views id j w y there_j))
          (λ (t : (i ≢ id) × (get_elem? views i ≡ some x)). ⊎_elim
          (λ (q : (j ≡ id) × (w ≡ y)).
          let same : k ≡ n = same-number k n (ap (λ (z : View). z.lays) q.1 ∙ laying_j) in
          absurd (blank-out (sym is ∙ ap a.status same ∙ (a.lays i x n t.1 laying_i).1)))
          (λ (q : (j ≢ id) × (get_elem? views j ≡ some y)). a.once i j x y n t.1 q.1 laying_i laying_j)
          (at_set views id j w y there_j))
          (at_set views id i w x there_i);
      ready = λ i u j there_is has. ⊎_elim
          (λ (t : (i ≡ id) × (w ≡ u)).
          let old = a.ready id v j at (subst (λ (l : List ℕ). 0 < occurs j l) (sym (ap (λ (x : View). x.ready) t.1)) has) in
          (old.0, still j (λ same. blank-used (sym is ∙ ap a.status (sym same) ∙ old.1)) ∙ old.1))
          (λ (t : (i ≢ id) × (get_elem? views i ≡ some u)).
          let old = a.ready i u j t.1 has in (old.0, still j (λ same. blank-used (sym is ∙ ap a.status (sym same) ∙ old.1)) ∙ old.1))
          (at_set views id i w u there_is);
    }

-- a piece that was laid is known to be
known-laid :
    (g : Geometry) (words : List ℕ) (places : List Place) (views : List View) (id k : ℕ) (v : View) (before : Standing) → v.callers ≡ before ∷ []
    → Opens g before.errand.point k → k < piece_count g → get_elem? views id ≡ some v → (a : AreLaidOut g words places views) → a.status k ≡ used
    → AreLaidOut g words (slice_set places (mark_place g k) (laid 2)) (slice_set views id (with_pieces v v.lays (k ∷ v.ready)))
known-laid g words places views id k v before one opens below at a is =
    let w : View = with_pieces v v.lays (k ∷ v.ready) in
    let p = mark_place g k in
    record {
      status = a.status;
      long = length-set places p (laid 2) ∙ a.long;
      each = λ i inside.
          let short : i < length places = omega (arith, inside, length-set places p (laid 2)) in
          elim (cases_eq i p) [
            | inl mark ↦
                ap (place_at (slice_set places p (laid 2))) mark ∙ set-there places p (laid 2) (omega (arith, a.long, below))
                ∙ sym (ap (shown g words a.status) mark ∙ shown-mark g words a.status k ∙ ap (λ x. laid (mark_of x)) is)
            | inr other ↦ get_or-set_other places p i (laid 2) None other ∙ a.each i short
          ];
      spare = λ j has unused. spare-still g words views id k v before one opens below at v.lays (k ∷ v.ready) j (a.spare j has unused);
      layer = λ j has gone.
          let old = a.layer j has gone in
          elim (cases_eq old.0 id) [
            | inl mine ↦
                let u : v ≡ old.1 = some-injective v old.1 (sym at ∙ ap (get_elem? views) (sym mine) ∙ old.2) in (
                  id,
                  w,
                  set_here views id w (there g words views id k v before one opens below at v.lays (k ∷ v.ready)),
                  ap (λ (x : View). x.lays) u ∙ old.3,
                  subst (λ (x : View). IsOpener g x j) (sym u) old.4,
                )
            | inr else ↦ (old.0, old.1, set_else views id old.0 w else ∙ old.2, old.3, old.4)
          ];
      lays = λ i u j there_is laying. ⊎_elim
          (λ (t : (i ≡ id) × (w ≡ u)). a.lays id v j at (ap (λ (x : View). x.lays) t.1 ∙ laying))
          (λ (t : (i ≢ id) × (get_elem? views i ≡ some u)). a.lays i u j t.1 laying)
          (at_set views id i w u there_is);
      once = λ i j x y n there_i there_j laying_i laying_j. ⊎_elim
          (λ (t : (i ≡ id) × (w ≡ x)). ⊎_elim
          (λ (q : (j ≡ id) × (w ≡ y)). t.0 ∙ sym q.0)
          (λ (q : (j ≢ id) × (get_elem? views j ≡ some y)). t.0 ∙ a.once id j v y n at q.1 (ap (λ (z : View). z.lays) t.1 ∙ laying_i) laying_j)
          (at_set views id j w y there_j))
          (λ (t : (i ≢ id) × (get_elem? views i ≡ some x)). ⊎_elim
          (λ (q : (j ≡ id) × (w ≡ y)). a.once i id x v n t.1 at laying_i (ap (λ (z : View). z.lays) q.1 ∙ laying_j) ∙ sym q.0)
          (λ (q : (j ≢ id) × (get_elem? views j ≡ some y)). a.once i j x y n t.1 q.1 laying_i laying_j)
          (at_set views id j w y there_j))
          (at_set views id i w x there_i);
      ready = λ i u j there_is has. ⊎_elim
          (λ (t : (i ≡ id) × (w ≡ u)).
          let among : 0 < occurs j (k ∷ v.ready) = subst (λ (l : List ℕ). 0 < occurs j l) (sym (ap (λ (x : View). x.ready) t.1)) has in
          elim (cases_eq k j) [
            | inl same ↦ (subst (λ n. n < piece_count g) same below, ap a.status (sym same) ∙ is)
            | inr other ↦ a.ready id v j at (past k j v.ready other among)
          ])
          (λ (t : (i ≢ id) × (get_elem? views i ≡ some u)). a.ready i u j t.1 has)
          (at_set views id i w u there_is);
    }

-- a piece that comes back as zeros is laid
published-laid :
    (g : Geometry) (words : List ℕ) (places : List Place) (views : List View) (id k : ℕ) (v : View) (before : Standing) → v.callers ≡ before ∷ []
    → Opens g before.errand.point k → k < piece_count g → get_elem? views id ≡ some v → v.lays ≡ Some k → (a : AreLaidOut g words places views)
    → AreLaidOut g words (put (slice_set places (mark_place g k) (laid 2)) (piece_start g k) (zeros_of g k)) (slice_set views id (with_pieces v None (k ∷ v.ready)))
published-laid g words places views id k v before one opens below at laying a =
    let w : View = with_pieces v None (k ∷ v.ready) in
    let is : a.status k ≡ out = (a.lays id v k at laying).1 in
    let spare = a.spare k below (λ e. out-used (sym is ∙ e)) in
    let after : List Place = put (slice_set places (mark_place g k) (laid 2)) (piece_start g k) (zeros_of g k) in
    let size : length (zeros_of g k) ≡ piece_words g k = length-map (replicate (piece_words g k) 0) laid ∙ length-replicate (piece_words g k) 0 in
    let long : length after ≡ length places = put-long places (zeros_of g k) (mark_place g k) (piece_start g k) (laid 2) (within g words places views k below a (zeros_of g k) (mark_place g k) (laid 2) size) in
    let still : (j : ℕ) → j ≢ k → with_status a.status k used j ≡ a.status j = λ j differ. status-else a.status k j used differ in
    record {
      status = with_status a.status k used;
      long = long ∙ a.long;
      each = λ i inside.
          relaid g words places (zeros_of g k) a.status k used below a.long a.each size
          (λ j short. at-zeros (piece_words g k) j short ∙ ap laid (sym (spare.zeros j short))) i (omega (arith, inside, long));
      spare = λ j has unused. elim (cases_eq j k) [
        | inl same ↦ absurd (unused (ap (with_status a.status k used) same ∙ status-here a.status k used))
        | inr other ↦ spare-still g words views id k v before one opens below at None (k ∷ v.ready) j (a.spare j has (λ e. unused (still j other ∙ e)))
      ];
      layer = λ j has gone. elim (cases_eq j k) [
        | inl same ↦ absurd (out-used (sym gone ∙ ap (with_status a.status k used) same ∙ status-here a.status k used))
        | inr other ↦
            let old = a.layer j has (sym (still j other) ∙ gone) in
            elim (cases_eq old.0 id) [
              | inl mine ↦
                  let u : v ≡ old.1 = some-injective v old.1 (sym at ∙ ap (get_elem? views) (sym mine) ∙ old.2) in
                  absurd (other (same-number j k (sym old.3 ∙ ap (λ (x : View). x.lays) (sym u) ∙ laying)))
              | inr else ↦ (old.0, old.1, set_else views id old.0 w else ∙ old.2, old.3, old.4)
            ]
      ];
      lays = λ i u j there_is here. ⊎_elim
          (λ (t : (i ≡ id) × (w ≡ u)). absurd (unlike j (sym here ∙ sym (ap (λ (x : View). x.lays) t.1))))
          (λ (t : (i ≢ id) × (get_elem? views i ≡ some u)).
          let old = a.lays i u j t.1 here in
          (old.0, still j (λ same. t.0 (a.once i id u v k t.1 at (here ∙ ap Some same) laying)) ∙ old.1))
          (at_set views id i w u there_is);
      once = λ i j x y n there_i there_j laying_i laying_j. ⊎_elim
          (λ (t : (i ≡ id) × (w ≡ x)). absurd (unlike n (sym laying_i ∙ sym (ap (λ (z : View). z.lays) t.1))))
          (λ (t : (i ≢ id) × (get_elem? views i ≡ some x)). ⊎_elim
          (λ (q : (j ≡ id) × (w ≡ y)). absurd (unlike n (sym laying_j ∙ sym (ap (λ (z : View). z.lays) q.1))))
          (λ (q : (j ≢ id) × (get_elem? views j ≡ some y)). a.once i j x y n t.1 q.1 laying_i laying_j)
          (at_set views id j w y there_j))
          (at_set views id i w x there_i);
      ready = λ i u j there_is has. ⊎_elim
          (λ (t : (i ≡ id) × (w ≡ u)).
          let among : 0 < occurs j (k ∷ v.ready) = subst (λ (l : List ℕ). 0 < occurs j l) (sym (ap (λ (x : View). x.ready) t.1)) has in
          elim (cases_eq j k) [
            | inl same ↦ (subst (λ n. n < piece_count g) (sym same) below, ap (with_status a.status k used) same ∙ status-here a.status k used)
            | inr other ↦ let old = a.ready id v j at (past k j v.ready (λ e. other (sym e)) among) in (old.0, still j other ∙ old.1)
          ])
          (λ (t : (i ≢ id) × (get_elem? views i ≡ some u)).
          let old = a.ready i u j t.1 has in
          elim (cases_eq j k) [
            | inl same ↦ (old.0, ap (with_status a.status k used) same ∙ status-here a.status k used)
            | inr other ↦ (old.0, still j other ∙ old.1)
          ])
          (at_set views id i w u there_is);
    }

-- a piece's mark is no caller's
mark-apart : (g : Geometry) (k : ℕ) → k < piece_count g → (caller : ℕ) → mark_place g (caller_mark g caller) ≢ mark_place g k
mark-apart g k below caller same = omega (arith, same, below)

-- what is out with passes is so still where a piece's mark is set, its words are put anew that weren't laid, and a pass knows so
module _ (g : Geometry) (events : List Event) (words : List ℕ) (whole places : List Place) (views : List View) (id k : ℕ) (v : View) (at : get_elem? views id ≡ some v)
    (below : k < piece_count g) (a : AreLaidOut g words whole views) (l : AreLent g events whole places views) (lays : Option ℕ) (ready : List ℕ) where
  abbrev m : ℕ
  m = mark_place g k

  marked-within : m < length places
  marked-within = omega (arith, l.long, a.long, below)

  still-lent : (i : ℕ) → IsLent views i → IsLent (slice_set views id (with_pieces v lays ready)) i
  still-lent i (j, u, n, b, there, found, above, under) =
      elim (cases_eq j id) [
        | inr other ↦ (j, u, n, b, set_else views id j (with_pieces v lays ready) other ∙ there, found, above, under)
        | inl same ↦
            let mine : u ≡ v = some-injective u v (sym there ∙ ap (get_elem? views) same ∙ at) in
            (id, with_pieces v lays ready, n, b, set_here views id (with_pieces v lays ready) (in-views views id v at), ap (λ (z : View). get_elem? z.lent n) (sym mine) ∙ found, above, under)
      ]

  still-out :
      (now : List Place) → ((i x : ℕ) → i ≢ m → place_at whole i ≡ laid x → place_at now i ≡ laid x) → (j n : ℕ) (u : View) (b : Lent)
      → get_elem? (slice_set views id (with_pieces v lays ready)) j ≡ some u → get_elem? u.lent n ≡ some b → IsOut g events now u b
  still-out now still j n u b there found = ⊎_elim
      (λ (t : (j ≡ id) × (with_pieces v lays ready ≡ u)).
      subst (λ (z : View). IsOut g events now z b) t.1
      (out-still g events whole now v (with_pieces v lays ready) b m (omega (arith, arena-placed g)) (mark-apart g k below) still refl
      (l.blocks id n v b at (ap (λ (z : View). get_elem? z.lent n) t.1 ∙ found))))
      (λ (t : (j ≢ id) × (get_elem? views j ≡ some u)).
      out-still g events whole now u u b m (omega (arith, arena-placed g)) (mark-apart g k below) still refl (l.blocks j n u b t.1 found))
      (at_set views id j (with_pieces v lays ready) u there)

  abbrev marked : List Place → ℕ → List Place
  marked ps x = slice_set ps m (laid x)

  mark-lent : (x : ℕ) → AreLent g events (marked whole x) (marked places x) (slice_set views id (with_pieces v lays ready))
  mark-lent x = record {
    long = length-set places m (laid x) ∙ l.long ∙ sym (length-set whole m (laid x));
    home = λ i inside free.
        set-alike places whole m i (laid x) marked-within (sym l.long)
        (λ other. l.home i (omega (arith, inside, length-set places m (laid x))) (λ lent. free (still-lent i lent)));
    blocks = still-out (marked whole x) (λ i y other is. get_or-set_other whole m i (laid x) None other ∙ is);
  }

  -- the words of the piece aren't laid
  module _ (st : Status) (is : a.status k ≡ st) (no : (x n : ℕ) → place_as st n ≡ laid x → ⊥) (qs : List Place) (size : length qs ≡ piece_words g k) (x : ℕ) where
    abbrev relaid_now : List Place → List Place
    relaid_now ps = put (marked ps x) (piece_start g k) qs

    within-places : piece_start g k + length qs ≤ length (marked places x)
    within-places = omega (arith, size, piece-end g k below, arena-placed g, l.long, a.long, length-set places m (laid x))

    within-whole : piece_start g k + length qs ≤ length (marked whole x)
    within-whole = omega (arith, size, piece-end g k below, arena-placed g, a.long, length-set whole m (laid x))

    -- a word that is laid lies outside
    outside : (i y : ℕ) → place_at whole i ≡ laid y → piece_start g k ≤ i → i < piece_start g k + length qs → ⊥
    outside i y laid_is from to =
        let j : ℕ = i - piece_start g k in
        let number : piece_start g k + j ≡ i = omega (arith, from) in
        let there = word-inside g k j below (omega (arith, to, from, size)) in
        no y (slice_index words (piece_start g k + j))
        (ap (λ (s : Status). place_as s (slice_index words (piece_start g k + j))) (sym (ap a.status there.1 ∙ is))
        ∙ sym (a.each (piece_start g k + j) (omega (arith, there.0, arena-placed g, a.long)) ∙ shown-arena g words a.status (piece_start g k + j) there.0)
        ∙ ap (place_at whole) number ∙ laid_is)

    relaid-lent : AreLent g events (relaid_now whole) (relaid_now places) (slice_set views id (with_pieces v lays ready))
    relaid-lent = record {
      long = put-long places qs m (piece_start g k) (laid x) within-places ∙ l.long ∙ sym (put-long whole qs m (piece_start g k) (laid x) within-whole);
      home = λ i inside free.
          let alike : place_at (marked places x) i ≡ place_at (marked whole x) i =
          set-alike places whole m i (laid x) marked-within (sym l.long)
          (λ other. l.home i (omega (arith, inside, put-long places qs m (piece_start g k) (laid x) within-places)) (λ lent. free (still-lent i lent))) in
          put-alike (marked places x) (marked whole x) qs (piece_start g k) i within-places
          (length-set whole m (laid x) ∙ sym l.long ∙ sym (length-set places m (laid x))) (λ before. alike) (λ behind. alike);
      blocks = still-out (relaid_now whole)
          (λ i y other is.
          let same : place_at (marked whole x) i ≡ laid y = get_or-set_other whole m i (laid x) None other ∙ is in
          elim (cases_lt i (piece_start g k)) [
            | inl before ↦ at-put_before (marked whole x) qs (piece_start g k) i within-whole before ∙ same
            | inr from ↦
                elim (cases_lt i (piece_start g k + length qs)) [
                  | inl to ↦ absurd (outside i y is from to)
                  | inr behind ↦ at-put_behind (marked whole x) qs (piece_start g k) i within-whole behind ∙ same
                ]
          ]);
    }

never-blank : (x n : ℕ) → place_as blank n ≡ laid x → ⊥
never-blank x n same = let no : ◌≡◌ {A = Place} (Some None) (laid x) = same in cc

never-out : (x n : ℕ) → place_as out n ≡ laid x → ⊥
never-out x n same = let no : ◌≡◌ {A = Place} None (laid x) = same in cc

module _ (g : Geometry) (size id k : ℕ) (v : View) (before : Standing) (one : v.callers ≡ before ∷ []) (opens : Opens g before.errand.point k)
    (below : k < piece_count g) where
  abbrev p : ℕ
  p = mark_place g k

  -- what the mark says
  at-mark :
      (events : List Event) (words : List ℕ) (whole places : List Place) (views : List View) (a : AreLaidOut g words whole views) → AreLent g events whole places views
      → place_at places p ≡ laid (mark_of (a.status k))
  at-mark events words whole places views a l =
      home-behind g events whole places views p l (omega (arith, arena-placed g)) (omega (arith, l.long, a.long, below))
      ∙ a.each p (omega (arith, a.long, below)) ∙ shown-mark g words a.status k

  pub claim : {rule : AllowedWords} → v.lays ≡ None → region.Allows (PiecesHold rule g) size id (v, []) p (λ n. either (eqb n 0) 1 n) (λ n. Claimed g k v n)
  unfolding kept-pieces
  claim {rule} settled s good long at =
      let words : List ℕ = good.0 in
      let h = good.1 in
      let whole : List Place = good.2 in
      let a = good.3 in
      let l = good.4 in
      let mark = at-mark h.1.events words whole s.places s.views a l in
      let is : number_at s.places p ≡ mark_of (a.status k) = ap number mark in
      let F : ℕ → Type 0 = λ x. Goes (PiecesHold rule g) s (with_number s.places p (either (eqb x 0) 1 x)) id (v, []) (Claimed g k v x) in
      let goes : (st : Status) → a.status k ≡ st → F (mark_of st) = λ st. elim st as (λ x. a.status k ≡ x → F (mark_of x)) [
        | blank ↦ λ found. (
          with_pieces v (Some k) v.ready,
          takes (piece_start g k) (piece_words g k),
          omega (arith, piece-end g k below, arena-placed g, l.long, a.long, length-set s.places p (laid 1)),
          (
            words,
            (h.0, kept-pieces g (words_at g words) s.views id v (Some k) v.ready at h.1),
            put (slice_set whole p (laid 1)) (piece_start g k) (outs (piece_words g k)),
            claimed-laid g words whole s.views id k v before one opens below at settled a found,
            relaid-lent g h.1.events words whole s.places s.views id k v at below a l (Some k) v.ready blank found never-blank (outs (piece_words g k)) (length-replicate (piece_words g k) None) 1,
          ),
          ((λ zero_is. ap (λ (r : List Place). let x : region.Me View = (with_pieces v (Some k) v.ready, (piece_start g k, r) ∷ []) in x) (blank-run h.1.events words whole s.places s.views a l found)), (λ some. absurd (some refl))),
        )
        | out ↦ λ found.
            let by = a.layer k below found in
            let mine : by.0 ≡ id = one-opener g (words_at g words) s.views by.0 id k by.1 v h.1 by.2 at by.4 (0, before, ap (λ (l : List Standing). get_elem? l 0) one, opens) in
            let same : v ≡ by.1 = some-injective v by.1 (sym at ∙ ap (get_elem? s.views) (sym mine) ∙ by.2) in
            absurd (unlike k (sym by.3 ∙ ap (λ (x : View). x.lays) (sym same) ∙ settled))
        | used ↦ λ found. (
          with_pieces v v.lays (k ∷ v.ready),
          keeps,
          tt,
          (
            words,
            (h.0, kept-pieces g (words_at g words) s.views id v v.lays (k ∷ v.ready) at h.1),
            slice_set whole p (laid 2),
            known-laid g words whole s.views id k v before one opens below at a found,
            mark-lent g h.1.events words whole s.places s.views id k v at below a l v.lays (k ∷ v.ready) 2,
          ),
          ((λ zero_is. absurd (let no : ⊥ = omega (arith, zero_is) in no)), (λ some. refl)),
        )
      ] in
      (mark ∙ ap laid (sym is), λ small. subst F (sym is) (goes (a.status k) refl))
    where
      blank-run :
          (es : List Event) (ws : List ℕ) (rs ps : List Place) (us : List View) (a : AreLaidOut g ws rs us) → AreLent g es rs ps us → a.status k ≡ blank
          → run (slice_set ps p (laid 1)) (piece_start g k) (piece_words g k) ≡ blanks (piece_words g k)
      blank-run es ws rs ps us a l found =
          run-all (slice_set ps p (laid 1)) (piece_start g k) (piece_words g k) (Some None)
          (omega (arith, length-set ps p (laid 1), l.long, a.long, piece-end g k below, arena-placed g))
          (λ j short.
          let inside = word-inside g k j below short in
          let i : ℕ = piece_start g k + j in
          let apart : i ≢ p = λ same. omega (arith, same, inside.0, arena-placed g) in
          let free : IsLent us i → ⊥ = λ lent.
          let bad = (lent-laid g es rs ps us i l lent).1 in
          never-blank bad.0 (slice_index ws i)
          (ap (λ x. place_as x (slice_index ws i)) (sym (ap a.status inside.1 ∙ found))
          ∙ sym (a.each i (omega (arith, inside.0, arena-placed g, a.long)) ∙ shown-arena g ws a.status i inside.0) ∙ bad.1) in
          get_or-set_other ps p i (laid 1) None apart ∙ l.home i (omega (arith, inside.0, arena-placed g, l.long, a.long)) free
          ∙ a.each i (omega (arith, inside.0, arena-placed g, a.long))
          ∙ shown-arena g ws a.status i inside.0 ∙ ap (λ x. place_as x (slice_index ws i)) (ap a.status inside.1 ∙ found))

  pub publish :
      {rule : AllowedWords} → v.lays ≡ Some k
      → region.Allows (PiecesHold rule g) size id (v, (piece_start g k, zeros_of g k) ∷ []) p (λ _. 2) (λ _ me. me ≡ (with_pieces v None (k ∷ v.ready), []))
  unfolding kept-pieces
  publish laying s good long at =
      let words : List ℕ = good.0 in
      let h = good.1 in
      let whole : List Place = good.2 in
      let a = good.3 in
      let l = good.4 in
      let mark = at-mark h.1.events words whole s.places s.views a l in (
        mark ∙ ap laid (sym (ap number mark)),
        λ small. (
          with_pieces v None (k ∷ v.ready),
          gives,
          tt,
          (
            words,
            (h.0, kept-pieces g (words_at g words) s.views id v None (k ∷ v.ready) at h.1),
            put (slice_set whole p (laid 2)) (piece_start g k) (zeros_of g k),
            published-laid g words whole s.views id k v before one opens below at laying a,
            relaid-lent g h.1.events words whole s.places s.views id k v at below a l None (k ∷ v.ready) out (a.lays id v k at laying).1 never-out (zeros_of g k)
                (length-map (replicate (piece_words g k) 0) laid ∙ length-replicate (piece_words g k) 0) 2,
          ),
          refl,
        ),
      )
