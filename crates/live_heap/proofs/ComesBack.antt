-- The usable words of a block come back with their pass: calls on words are made in the machine's run, one after the other, and then they are home. The caller's mark stays as it is.
use Rattle.std.proofs.Common.{ℕ, zero, suc, ◌≡◌, ◌≢◌, ◌<◌, ◌≤◌, ◌+◌, ◌-◌, ◌^◌, ◌⊎◌, None, Some, List, [], ◌∷◌, ◌++◌, length, refl, arith, sym, ap, subst, inl, inr, ◌∙◌, ⊎_elim, get_or-set_same, get_or-set_other, length-set}
use Rattle.std.specs.Prelude.{slice_index, slice_set}
use Rattle.std.proofs.lemmas.Bool.{cases_eq, cases_lt}
use Rattle.std.proofs.lemmas.List.{length-map, set-get_or, set-set}
use mathlib.Core.Option.{some, some-injective}
use lib.ListN.{get_elem?}
use Rattle.atomic_table.proofs.Lists.{at_set, set_again, set_else, set_here}
use Rattle.heap_geometry.specs.declared.geometry.Geometry.{Geometry}
use Rattle.heap_geometry.specs.declared.need.Need.{Need}
use Rattle.heap_geometry.specs.Geometry.{IsChecked}
use Rattle.heap_geometry.specs.Need.{usable_words}
use Rattle.word_table.specs.Counts.{arena_words}
use Rattle.live_heap.specs.placement.Places.{placed_count, words_at}
use Rattle.plain_words.proofs.Rows.{length-put}
use Rattle.plain_words.specs.Places.{Place, laid, laids, number, number_at, place_at, put}
use Rattle.atomic_region.specs.Region as region
use Rattle.atomic_region.specs.Region.{Goes, Range, given_back, rest, with_number}
use Rattle.atomic_region.specs.Region.Act.{gives}
use Rattle.errand_steps.specs.Begins.{IsIdle}
use Rattle.errand_steps.specs.declared.reply.Reply.{Reply}
use Rattle.errand_steps.specs.declared.reply.Reply.TheVariants as reply
use Rattle.errand_steps.specs.Calls.{Call, begun_by, read, write}
use Rattle.errand_steps.specs.Errands.{ErrandFields}
use Rattle.sound_laws.specs.events.Made.{Made}
use Rattle.live_heap.specs.declared.view.Lent.{Lent}
use Rattle.live_heap.specs.declared.view.Standing.{Standing}
use Rattle.live_heap.specs.declared.view.View.{View}
use Rattle.live_heap.specs.Lending.{AreAmong, AreElsewhere, ComesBy, Finds, HasReturned, LeadTo, LeadsTo, MakesOn, MayReturn, lent_block, with_lent}
use Rattle.live_heap.specs.Pieces.{AreLaidOut, AreLent, IsLent, IsOut, PiecesHold, caller_mark, mark_of, mark_place}
use Rattle.live_heap.specs.Pieces.Status.{out}
use Rattle.live_heap.specs.Rule.{KeptTable}
use Rattle.live_heap.specs.Sights.{TakesStep}
use Rattle.live_heap.specs.Shelves.{AllowedWords}
use Rattle.live_heap.proofs.LentPlaces.{out-on}
use Rattle.live_heap.proofs.LentViews.{kept-lent, laid-lent, laid-marked, view-within}
use Rattle.live_heap.proofs.PutPlaces.{at-put_before, at-put_behind, at-put_in}
use Rattle.live_heap.proofs.Shows.{arena-placed}
use Rattle.live_heap.proofs.OneWord.{HasAway, middle-else, middle-here, middle-or, sole, word-made}

-- who stands where a list begins is its first one
first-of : (b x : Lent) (rest : List Lent) → get_elem? (b ∷ rest) 0 ≡ some x → x ≡ b
first-of b x rest at = sym (some-injective b x at)

-- the rule where a call on a word has been made, and where several have, one after the other
HasMadeOne :
    AllowedWords → Geometry → List Place → List View → ℕ → View → ErrandFields → ℕ → Need → List ℕ → List Lent → List Lent → List Lent → Call → Reply → Type 0
HasMadeOne rule g places views id v e place need new front back shown call answer =
    (u : View) × (n : ℕ) × Finds call answer n × TakesStep (begun_by e call) n (with_lent v shown) (with_lent u shown)
    × HasAway rule g places (slice_set views id u) id u e place need new front back

HasMade :
    AllowedWords → Geometry → List Place → List View → ℕ → View → ErrandFields → ℕ → Need → List ℕ → List Lent → List Lent → List Lent → List Made → Type 0
HasMade rule g places views id v e place need new front back shown made =
    (w : View) × MakesOn e (with_lent v shown) made (with_lent w shown)
    × HasAway rule g places (slice_set views id w) id w e place need new front back

module _ {rule : AllowedWords} (g : Geometry) (places : List Place) (id : ℕ) (e : ErrandFields) (place : ℕ) (need : Need) (front back shown : List Lent)
    (checked : IsChecked g) (idle : IsIdle e) (others : AreElsewhere place (front ++ back)) (among : AreAmong shown (front ++ back)) where
  -- a write to the block
  wrote-one :
      (views : List View) (v : View) (old : List ℕ) (i x : ℕ) → HasAway rule g places views id v e place need old front back → i < usable_words need
      → x < 2 ^ 64 → HasMadeOne rule g places views id v e place need (slice_set old i x) front back shown (write place need i x) reply.Wrote
  unfolding HasMadeOne
  wrote-one views v old i x s inside small =
      let one = word-made g places views id v e place need old front back i (Some x) checked idle inside small others s shown among in
      (one.0, slice_index old i, tt, one.2, one.1)

  -- a read of it
  read-own :
      (views : List View) (v : View) (old : List ℕ) (i : ℕ) → HasAway rule g places views id v e place need old front back → i < usable_words need
      → HasMadeOne rule g places views id v e place need old front back shown (read place need i) (reply.Word (slice_index old i))
  unfolding HasMadeOne
  read-own views v old i s inside =
      let one = word-made g places views id v e place need old front back i None checked idle inside tt others s shown among in
      let still : slice_set old i (slice_index old i) ≡ old = set-get_or old i 0 in (
        one.0,
        slice_index old i,
        refl,
        one.2,
        subst (λ (l : List ℕ). HasAway rule g places (slice_set views id one.0) id one.0 e place need l front back) still one.1,
      )

  -- a read of the one next to it
  module _ (views : List View) (v : View) (old : List ℕ) (b : Lent) (rest : List Lent) (first : front ≡ []) (second : back ≡ b ∷ rest)
      (once : AreElsewhere b.place rest) (apart : b.place ≢ place) (hidden : AreElsewhere b.place shown) (i : ℕ) (inside : i < usable_words b.need)
      (s : HasAway rule g places views id v e place need old front back) where
    abbrev own : Lent
    own = lent_block place need old

    order : front ++ own ∷ back ≡ own ∷ b ∷ rest
    order = ap (λ (l : List Lent). l ++ own ∷ back) first ∙ ap (λ (l : List Lent). own ∷ l) second

    other_away : HasAway rule g places views id v e b.place b.need b.numbers (own ∷ []) rest
    other_away = record {
      words = s.words;
      held = s.held;
      whole = s.whole;
      laid_out = s.laid_out;
      lent = s.lent;
      at = s.at;
      before = s.before;
      one = s.one;
      stands = s.stands;
      mine = s.mine;
      away = s.away ∙ order;
    }

    elsewhere : AreElsewhere b.place (own ∷ rest)
    elsewhere zero x at same = apart (sym (ap (λ (l : Lent). l.place) (some-injective own x at) ∙ same))
    elsewhere (suc n) x at same = once n x at same

    seen_among : AreAmong shown (own ∷ rest)
    seen_among n x at =
        let m = among n x at in
        let there : get_elem? (b ∷ rest) m.0 ≡ some x =
        subst (λ (l : List Lent). get_elem? l m.0 ≡ some x) (ap (λ (l : List Lent). l ++ back) first ∙ second) m.1 in
        behind m.0 there
      where
        behind : (m : ℕ) → get_elem? (b ∷ rest) m ≡ some x → (k : ℕ) × (get_elem? (own ∷ rest) k ≡ some x)
        behind zero there = absurd (hidden n x at (ap (λ (l : Lent). l.place) (first-of b x rest there)))
        behind (suc m) there = (suc m, there)

    read-one : HasMadeOne rule g places views id v e place need old front back shown (read b.place b.need i) (reply.Word (slice_index b.numbers i))
    unfolding HasMadeOne
    read-one =
        let one = word-made g places views id v e b.place b.need b.numbers (own ∷ []) rest i None checked idle inside tt elsewhere other_away shown seen_among in
        let z = one.0 in
        let t = one.1 in
        let still : slice_set b.numbers i (slice_index b.numbers i) ≡ b.numbers = set-get_or b.numbers i 0 in
        let same : z.lent ≡ front ++ own ∷ back =
        t.away ∙ ap (λ (l : List ℕ). own ∷ lent_block b.place b.need l ∷ rest) still ∙ sym order in
        let now : HasAway rule g places (slice_set views id z) id z e place need old front back = record {
          words = t.words;
          held = t.held;
          whole = t.whole;
          laid_out = t.laid_out;
          lent = t.lent;
          at = t.at;
          before = t.before;
          one = t.one;
          stands = t.stands;
          mine = t.mine;
          away = same;
        } in
        (z, slice_index b.numbers i, refl, one.2, now)

  one-made :
      (views : List View) (v : View) (old new : List ℕ) (call : Call) (answer : Reply) → LeadsTo place need front back shown old call answer new
      → HasAway rule g places views id v e place need old front back → HasMadeOne rule g places views id v e place need new front back shown call answer
  one-made views v old new (write at n i x) reply.Wrote (here, serves, inside, small, is) s =
      subst (λ (l : List ℕ). HasMadeOne rule g places views id v e place need l front back shown (write at n i x) reply.Wrote) (sym is)
      (subst (λ k. HasMadeOne rule g places views id v e place need (slice_set old i x) front back shown (write k n i x) reply.Wrote) (sym here)
      (subst (λ m. HasMadeOne rule g places views id v e place need (slice_set old i x) front back shown (write place m i x) reply.Wrote) (sym serves)
      (wrote-one views v old i x s inside small)))
  one-made views v old new (read at n i) (reply.Word word) (inl (here, serves, inside, is), same) s =
      subst (λ (l : List ℕ). HasMadeOne rule g places views id v e place need l front back shown (read at n i) (reply.Word word)) (sym same)
      (subst (λ w. HasMadeOne rule g places views id v e place need old front back shown (read at n i) (reply.Word w)) is
      (subst (λ k. HasMadeOne rule g places views id v e place need old front back shown (read k n i) (reply.Word (slice_index old i))) (sym here)
      (subst (λ m. HasMadeOne rule g places views id v e place need old front back shown (read place m i) (reply.Word (slice_index old i))) (sym serves)
      (read-own views v old i s inside))))
  one-made views v old new (read at n i) (reply.Word word) (inr (b, (first, rest, second, once), apart, hidden, here, serves, inside, is), same) s =
      subst (λ (l : List ℕ). HasMadeOne rule g places views id v e place need l front back shown (read at n i) (reply.Word word)) (sym same)
      (subst (λ w. HasMadeOne rule g places views id v e place need old front back shown (read at n i) (reply.Word w)) is
      (subst (λ k. HasMadeOne rule g places views id v e place need old front back shown (read k n i) (reply.Word (slice_index b.numbers i))) (sym here)
      (subst (λ m. HasMadeOne rule g places views id v e place need old front back shown (read b.place m i) (reply.Word (slice_index b.numbers i))) (sym serves)
      (read-one views v old b rest first second once apart hidden i inside s))))
  one-made views v old new call answer bad s = absurd bad

  makes-on :
      (views : List View) (v : View) (old new : List ℕ) (made : List Made) → LeadTo place need front back shown old made new
      → HasAway rule g places views id v e place need old front back → HasMade rule g places views id v e place need new front back shown made
  unfolding HasMade HasMadeOne
  makes-on views v old new [] same s =
      let now : HasAway rule g places views id v e place need new front back =
      subst (λ (l : List ℕ). HasAway rule g places views id v e place need l front back) (sym same) s in
      (v, refl, subst (λ (vs : List View). HasAway rule g places vs id v e place need new front back) (sym (set_again views id v s.at)) now)
  makes-on views v old new (one ∷ more) (next, leads, rest) s =
      let done = one-made views v old next one.call one.answer leads s in
      let u = done.0 in
      let t = makes-on (slice_set views id u) u next new more rest done.4 in (
        t.0,
        (with_lent u shown, done.1, done.2, done.3, t.1),
        subst (λ (vs : List View). HasAway rule g places vs id t.0 e place need new front back) (set-set views id u t.0) t.2,
      )

-- a number of a row that is laid
at-laids : (ns : List ℕ) (j : ℕ) → j < length ns → place_at (laids ns) j ≡ laid (slice_index ns j)
at-laids [] j below = absurd (omega (arith, below))
at-laids (n ∷ ns) zero below = refl
at-laids (n ∷ ns) (suc j) below = at-laids ns j (omega (arith, below))

-- the last act: the words are home, and the caller's mark is as it was
module _ {rule : AllowedWords} (g : Geometry) (places : List Place) (views : List View) (id : ℕ) (v : View) (e : ErrandFields) (place : ℕ) (need : Need) (numbers : List ℕ)
    (front back : List Lent) (s : HasAway rule g places views id v e place need numbers front back) where
  abbrev k : KeptTable rule g (words_at g s.words) views
  k = s.held.1

  block : IsOut g k.events s.whole v (lent_block place need numbers)
  block =
      s.lent.blocks id (length front) v (lent_block place need numbers) s.at
      (ap (λ (l : List Lent). get_elem? l (length front)) s.away ∙ middle-here front back (lent_block place need numbers))

  owner_is : block.owner ≡ s.before
  owner_is = sole v.callers s.before block.owner block.number s.one block.stands

  caller_is : block.owner.errand.caller ≡ e.caller
  caller_is = ap (λ (y : Standing). y.errand.caller) owner_is ∙ ap (λ (f : ErrandFields). f.caller) s.stands

  has : e.caller < g.callers
  has = subst (λ (f : ErrandFields). f.caller < g.callers) s.stands ((k.each id v s.at).each 0 s.before (ap (λ (l : List Standing). get_elem? l 0) s.one)).has

  abbrev p : ℕ
  p = mark_place g (caller_mark g e.caller)

  long : length places ≡ length s.whole
  long = s.lent.long

  mark_within : p < length places
  mark_within = omega (arith, has, long, s.laid_out.long)

  arena_within : arena_words g ≤ placed_count g
  arena_within = arena-placed g

  -- the mark is home, and says that the block is out
  pub marked : place_at places p ≡ laid 1
  marked =
      let free : ¬ IsLent views p = λ t.
      let o = s.lent.blocks t.0 t.2 t.1 t.3 t.4 t.5 in
      omega (arith, o.within, t.7, arena_within) in
      s.lent.home p mark_within free
      ∙ subst (λ c. place_at s.whole (mark_place g (caller_mark g c)) ≡ laid (mark_of out)) caller_is block.marked

  abbrev w : View
  w = with_lent v (front ++ back)

  abbrev views_now : List View
  views_now = slice_set views id w

  abbrev marks : List Place
  marks = slice_set places p (laid 1)

  abbrev places_now : List Place
  places_now = put marks (place + 1) (laids numbers)

  abbrev whole_now : List Place
  whole_now = slice_set s.whole p (laid 1)

  held_now : KeptTable rule g (words_at g s.words) views_now
  held_now = kept-lent g (words_at g s.words) views id v (front ++ back) s.at k

  laid_now : AreLaidOut g s.words whole_now views_now
  laid_now = laid-marked g s.words s.whole views_now e.caller out has (laid-lent g s.words views id v (front ++ back) s.whole s.at s.laid_out)

  size : length (laids numbers) ≡ usable_words need
  size = length-map numbers laid ∙ block.long

  within : place + 1 + length (laids numbers) ≤ length marks
  within = omega (arith, size, block.within, arena_within, length-set places p (laid 1), long, s.laid_out.long)

  -- outside the block the words out are those that were
  still_free : (j : ℕ) → (j < place + 1) ⊎ (place + 1 + usable_words need ≤ j) → ¬ IsLent views_now j → ¬ IsLent views j
  still_free j aside free (m, y, n, b, at_y, at_b, from, below) =
      elim (cases_eq m id) [
        | inr other ↦ free (m, y, n, b, set_else views id m w other ∙ at_y, at_b, from, below)
        | inl mine ↦
            let y_is : y ≡ v = some-injective y v (sym at_y ∙ ap (get_elem? views) mine ∙ s.at) in
            let found : get_elem? (front ++ lent_block place need numbers ∷ back) n ≡ some b =
            subst (λ (l : List Lent). get_elem? l n ≡ some b) (ap (λ (z : View). z.lent) y_is ∙ s.away) at_b in
            elim (middle-or front back (lent_block place need numbers) b n found) [
              | inr beside ↦ free (id, w, beside.0, b, set_here views id w (view-within views id v s.at), beside.1, from, below)
              | inl b_is ↦
                  let after : place < j = subst (λ (c : Lent). c.place < j) b_is from in
                  let before : j < place + 1 + usable_words need = subst (λ (c : Lent). j < c.place + 1 + usable_words c.need) b_is below in
                  elim aside [
                    | inl early ↦ omega (arith, early, after)
                    | inr late ↦ omega (arith, late, before)
                  ]
            ]
      ]

  whole_else : (j : ℕ) → j ≢ p → place_at whole_now j ≡ place_at s.whole j
  whole_else j other = get_or-set_other s.whole p j (laid 1) None other

  -- what is outside the block is as it was, but for the mark
  outside :
      (j : ℕ) → j < length places → (j < place + 1) ⊎ (place + 1 + usable_words need ≤ j) → ¬ IsLent views_now j → place_at marks j ≡ place_at whole_now j
  outside j has_j aside free = elim (cases_eq j p) [
    | inl same ↦
        ap (place_at marks) same ∙ get_or-set_same places p (laid 1) None mark_within
        ∙ sym (ap (place_at whole_now) same ∙ get_or-set_same s.whole p (laid 1) None (omega (arith, mark_within, long)))
    | inr other ↦
        get_or-set_other places p j (laid 1) None other ∙ s.lent.home j has_j (still_free j aside free) ∙ sym (whole_else j other)
  ]

  home_now : (j : ℕ) → j < length places_now → ¬ IsLent views_now j → place_at places_now j ≡ place_at whole_now j
  home_now j has_j free =
      let short : j < length places = omega (arith, has_j, length-put marks (place + 1) (laids numbers) within, length-set places p (laid 1)) in
      elim (cases_lt j (place + 1)) [
        | inl early ↦ at-put_before marks (laids numbers) (place + 1) j within early ∙ outside j short (inl early) free
        | inr from ↦ elim (cases_lt j (place + 1 + usable_words need)) [
          | inr late ↦
              at-put_behind marks (laids numbers) (place + 1) j within (omega (arith, late, size)) ∙ outside j short (inr late) free
          | inl below ↦
              let i : ℕ = j - (place + 1) in
              let number_is : place + 1 + i ≡ j = omega (arith, from) in
              let inside : i < usable_words need = omega (arith, below, from) in
              let differ : place + 1 + i ≢ p = λ same. omega (arith, same, inside, block.within, arena_within) in
              subst (λ m. place_at places_now m ≡ place_at whole_now m) number_is
              (at-put_in marks (laids numbers) (place + 1) i within (omega (arith, inside, size)) ∙ at-laids numbers i (omega (arith, inside, block.long))
              ∙ sym (block.words i inside) ∙ sym (whole_else (place + 1 + i) differ))
        ]
      ]

  -- the caller's mark says so still
  mark_still : place_at whole_now p ≡ laid (mark_of out)
  mark_still = get_or-set_same s.whole p (laid 1) None (omega (arith, mark_within, long))

  words_still :
      (y : View) (b : Lent) → IsOut g k.events s.whole y b → (j : ℕ) → j < usable_words b.need
      → place_at whole_now (b.place + 1 + j) ≡ place_at s.whole (b.place + 1 + j)
  words_still y b o j below = whole_else (b.place + 1 + j) (λ same. omega (arith, same, below, o.within, arena_within))

  -- so a block before or behind it is out still, and so is a block of another pass
  beside_out : (n : ℕ) (b : Lent) → get_elem? (front ++ back) n ≡ some b → IsOut g k.events whole_now w b
  beside_out n b found =
      let t = middle-else front back (lent_block place need numbers) b n found in
      let o = s.lent.blocks id t.0 v b s.at (ap (λ (l : List Lent). get_elem? l t.0) s.away ∙ t.1) in
      let hers : o.owner.errand.caller ≡ e.caller =
      ap (λ (y : Standing). y.errand.caller) (sole v.callers s.before o.owner o.number s.one o.stands) ∙ ap (λ (f : ErrandFields). f.caller) s.stands in
      out-on g k.events k.events s.whole whole_now v w b o o.stands o.owned
      (ap (λ c. place_at whole_now (mark_place g (caller_mark g c))) hers ∙ mark_still ∙ sym o.marked) (words_still v b o)

  others_out :
      (m n : ℕ) (y : View) (b : Lent) → m ≢ id → get_elem? views m ≡ some y → get_elem? y.lent n ≡ some b → IsOut g k.events whole_now y b
  others_out m n y b other at_y at_b =
      let o = s.lent.blocks m n y b at_y at_b in
      let hers = (k.each m y at_y).each o.number o.owner o.stands in
      let mine = (k.each id v s.at).each 0 s.before (ap (λ (l : List Standing). get_elem? l 0) s.one) in
      let differ : o.owner.errand.caller ≢ e.caller = λ same.
      other (ap (λ (q : ℕ × ℕ). q.0) (sym hers.at_place ∙ ap k.place (same ∙ ap (λ (f : ErrandFields). f.caller) (sym s.stands)) ∙ mine.at_place)) in
      out-on g k.events k.events s.whole whole_now y y b o o.stands o.owned
      (whole_else (mark_place g (caller_mark g o.owner.errand.caller)) (λ same. differ (omega (arith, same)))) (words_still y b o)

  lent_now : AreLent g k.events whole_now places_now views_now
  lent_now = record {
    long =
        length-put marks (place + 1) (laids numbers) within ∙ length-set places p (laid 1) ∙ long
        ∙ sym (length-set s.whole p (laid 1));
    home = home_now;
    blocks = λ m n y b at_y at_b. ⊎_elim
        (λ (t : (m ≡ id) × (w ≡ y)).
        subst (λ (z : View). IsOut g k.events whole_now z b) t.1
        (beside_out n b (subst (λ (l : List Lent). get_elem? l n ≡ some b) (ap (λ (z : View). z.lent) (sym t.1)) at_b)))
        (λ (t : (m ≢ id) × (get_elem? views m ≡ some y)). others_out m n y b t.0 t.1 at_b)
        (at_set views id m w y at_y);
  }

  -- the rule holds
  pub home-again : PiecesHold rule g record { places = places_now; views = views_now }
  unfolding held_now kept-lent
  home-again = (s.words, (s.held.0, held_now), whole_now, laid_now, lent_now)

-- the words of a block that are out with a pass come back by a load of the caller's mark, and the calls are made
module _ {rule : AllowedWords} (g : Geometry) (id : ℕ) (me : region.Me View) (e : ErrandFields) (own : Lent) (made : List Made) (shown : List Lent) (checked : IsChecked g)
    (may : MayReturn me e own made shown) (s : region.State View) (good : PiecesHold rule g s) (at : get_elem? s.views id ≡ some me.0) where
  abbrev c : ComesBy me.0.lent own made shown
  c = may.comes

  away : HasAway rule g s.places s.views id me.0 e own.place own.need c.old c.front c.back
  away = record {
    words = good.0;
    held = good.1;
    whole = good.2;
    laid_out = good.3;
    lent = good.4;
    at = at;
    before = may.before;
    one = may.one;
    stands = may.stands;
    mine = may.mine;
    away = c.is;
  }

  abbrev mark : ℕ
  mark = mark_place g (caller_mark g e.caller)

  mark_is : place_at s.places mark ≡ laid 1
  mark_is = marked g s.places s.views id me.0 e own.place own.need c.old c.front c.back away

  goes-back : Goes (PiecesHold rule g) s (with_number s.places mark 1) id me (λ after. HasReturned e own made shown me.0 after)
  unfolding HasMade
  goes-back =
      let out_block = block g s.places s.views id me.0 e own.place own.need c.old c.front c.back away in
      let t =
      makes-on g s.places id e own.place own.need c.front c.back shown checked may.idle may.others c.among s.views me.0 c.old own.numbers made
      (c.leads out_block.long) away in
      let ps : List Place = with_number s.places mark 1 in
      let w : View = with_lent t.0 (c.front ++ c.back) in
      let H : List Range → Type 0 = λ r. PiecesHold rule g record { places = given_back ps r; views = slice_set s.views id w } in (
        w,
        gives,
        tt,
        subst H (sym may.ranges)
            (subst (λ (vs : List View). PiecesHold rule g record { places = put ps (own.place + 1) (laids own.numbers); views = vs })
            (set-set s.views id t.0 w)
            (home-again g s.places (slice_set s.views id t.0) id t.0 e own.place own.need own.numbers c.front c.back t.2)),
        (c.front, c.old, c.back, c.is, t.0, t.1, ap (λ (r : List Range). let x : region.Me View = (w, r) in x) (ap rest may.ranges)),
      )

-- a seat that carries the words of a block that is out with its pass may give them back by such a load
pub may-return :
    {rule : AllowedWords} (g : Geometry) (size id : ℕ) (me : region.Me View) (e : ErrandFields) (block : Lent) (made : List Made) (shown : List Lent)
    → IsChecked g → MayReturn me e block made shown
    → region.Allows (PiecesHold rule g) size id me (mark_place g (caller_mark g e.caller)) (λ n. n) (λ _ after. HasReturned e block made shown me.0 after)
may-return {rule} g _ id me e block made shown checked may s good _ at =
    let is = mark_is g id me e block made shown checked may s good at in
    let stays : 1 ≡ number_at s.places (mark_place g (caller_mark g e.caller)) = sym (ap number is) in
    let F : ℕ → Type 0 = λ x.
    Goes (PiecesHold rule g) s (with_number s.places (mark_place g (caller_mark g e.caller)) x) id me (λ after. HasReturned e block made shown me.0 after) in
    (is ∙ ap laid stays, λ small. subst F stays (goes-back g id me e block made shown checked may s good at))
