-- A step of a pass on a region whose pieces are laid as they are used first.
use Rattle.std.proofs.Common.{ℕ, zero, suc, ◌≡◌, ◌≢◌, ◌<◌, ◌≤◌, ◌+◌, ◌-◌, ◌⊎◌, None, List, [], ◌∷◌, length, refl, arith, sym, ap, subst, inl, inr, ◌∙◌, ⊎_elim, get_or-set_same, get_or-set_other, length-set}
use Rattle.std.specs.Prelude.{Contains, slice_index, slice_set, nat_lt, if◌then◌else◌}
use Rattle.std.proofs.lemmas.Bool.{cases_eq}
use mathlib.Core.Option.{some, some-injective}
use lib.ListN.{get_elem?}
use Rattle.atomic_table.proofs.Lists.{at_set, set_else, set_here}
use Rattle.heap_geometry.specs.declared.geometry.Geometry.{Geometry}
use Rattle.heap_geometry.specs.Geometry.{IsChecked}
use Rattle.word_table.specs.declared.name.WordName.{WordName}
use Rattle.word_table.specs.declared.name.WordName.TheVariants.{Arena, Anchor, Next, Info, Active, Slot, ListHead, FrameNext, FrameHead, DescHead, Hazard, Units, Shelf}
use Rattle.word_table.specs.Actions.{name_of, after_action}
use Rattle.word_table.specs.Counts.{arena_words, word_count}
use Rattle.word_table.specs.Occurs.{occurs}
use Rattle.word_table.specs.Table.{Exists, word_index, start_of, words_in}
use Rattle.word_table.specs.Words.{word_in}
use Rattle.word_table.proofs.TableLemmas.{word_index-within}
use Rattle.live_heap.specs.placement.Places.{place, placed_count, words_at}
use Rattle.live_heap.proofs.placement_lemmas.KindLemmas.{start-place}
use Rattle.live_heap.proofs.placement_lemmas.PlaceLemmas.{place-least, place-within}
use Rattle.live_heap.proofs.placement_lemmas.WordsLemmas.{at-words_at, set-words_at}
use Rattle.plain_words.specs.Places.{Place, laid, number, number_at, place_at}
use Rattle.atomic_region.specs.Region as region
use Rattle.atomic_region.specs.Region.{with_number, Goes}
use Rattle.atomic_region.specs.Region.Act.{keeps}
use Rattle.errand_steps.specs.Begins.{IsBusy}
use Rattle.errand_steps.specs.Errands.{ErrandFields, plan_of}
use Rattle.sound_laws.specs.uses.Pieces.{piece_count, piece_of, piece_start, piece_words}
use Rattle.errand_steps.specs.Openers.{Opens}
use Rattle.sound_laws.specs.uses.Uses.{IsUnused}
use Rattle.sound_laws.proofs.uses_lemmas.PieceLemmas.{word-inside, word-among}
use Rattle.heap_geometry.specs.Need.{usable_words}
use Rattle.pool_model.specs.declared.event.Event.{Event}
use Rattle.pool_model.specs.declared.owner.Owner.TheVariants.{Caller}
use Rattle.live_heap.specs.declared.view.Lent.{Lent}
use Rattle.live_heap.specs.declared.view.Standing.{Standing}
use Rattle.live_heap.specs.declared.view.View.{View}
use Rattle.live_heap.specs.Pieces.{AreLaidOut, AreLent, IsLent, IsOpened, IsOut, IsOpener, IsSpare, PiecesHold, Status, caller_mark, mark_of, mark_place, place_as, shown}
use Rattle.live_heap.specs.Pieces.Status.{blank, out, used}
use Rattle.live_heap.specs.Rule.{KeptTable}
use Rattle.owned_words.specs.Leaving.{concerned}
use Rattle.owned_words.proofs.Concerned.{accesses-concerned}
use Rattle.step_machine.specs.Cores.{OwnsAfter}
use Rattle.step_machine.proofs.MomentAnswers.{settle-caller}
use Rattle.live_heap.specs.Sights.{AreApart, IsBegun, SawByRule, TakesStep}
use Rattle.live_heap.specs.Shelves.{AllowedWords, PutsByRule}
use Rattle.live_heap.proofs.Claiming.{out-used, blank-used}
use Rattle.live_heap.proofs.LentPlaces.{out-on, set-alike}
use Rattle.live_heap.proofs.Moves.{always_then, events_now, is_begun-caller, kept_then, mine-own, opener_mine, opens-before, others-own, standing_then, steps_then, events_then, there, unused_never, unused_then, view-mine, view_then, word-mine, words_then}
use Rattle.live_heap.proofs.Shows.{shown-arena, shown-own}

-- a word is one of the arena, or stands behind it
pub arena-or : (g : Geometry) (n : WordName) → ((w : ℕ) × (n ≡ Arena w)) ⊎ (arena_words g ≤ word_index g n)
unfolding word_index start_of words_in
arena-or g (Arena w) = inl (w, refl)
arena-or g (Anchor d) = inr (omega arith)
arena-or g (Next d) = inr (omega arith)
arena-or g (Info d) = inr (omega arith)
arena-or g (Active heap class) = inr (omega arith)
arena-or g (Slot heap class) = inr (omega arith)
arena-or g (ListHead class) = inr (omega arith)
arena-or g (FrameNext f) = inr (omega arith)
arena-or g FrameHead = inr (omega arith)
arena-or g DescHead = inr (omega arith)
arena-or g (Hazard caller) = inr (omega arith)
arena-or g Units = inr (omega arith)
arena-or g (Shelf shelf) = inr (omega arith)

-- the place is that of a word which is laid: behind the arena, or in a piece that is used
abbrev pub IsUsable : Geometry → (ℕ → Status) → ℕ → Type 0
IsUsable g status p = ((arena_words g ≤ p) × (p < placed_count g)) ⊎ ((p < arena_words g) × (status (piece_of g p) ≡ used))

pub usable-shown : (g : Geometry) (words : List ℕ) (status : ℕ → Status) (p : ℕ) → IsUsable g status p → shown g words status p ≡ laid (slice_index words p)
usable-shown g words status p (inl own) = shown-own g words status p own.0 own.1
usable-shown g words status p (inr piece) = shown-arena g words status p piece.0 ∙ ap (λ x. place_as x (slice_index words p)) piece.1

-- what a place shows depends on its own word alone
word-shown : (g : Geometry) (words words' : List ℕ) (status : ℕ → Status) (i : ℕ) → slice_index words' i ≡ slice_index words i → shown g words' status i ≡ shown g words status i
word-shown g words words' status i same =
    ap (λ n. if nat_lt i (arena_words g) then place_as (status (piece_of g i)) n else (if nat_lt i (placed_count g) then laid n else laid (mark_of (status (i - placed_count g))))) same

one-of : (x : Standing) (n : ℕ) (y : Standing) → get_elem? (x ∷ []) n ≡ some y → y ≡ x
one-of x zero y found = sym (some-injective x y found)
one-of x (suc n) y found = absurd (let no : ⊥ = cc in no)

only-one : (l : List Standing) (x : Standing) (n : ℕ) (y : Standing) → l ≡ x ∷ [] → get_elem? l n ≡ some y → y ≡ x
only-one l x n y is found = one-of x n y (subst (λ (m : List Standing). get_elem? m n ≡ some y) is found)

module _ {rule : AllowedWords} (g : Geometry) (words : List ℕ) (places : List Place) (views : List View) (id : ℕ) (v : View) (before : Standing) (e : ErrandFields)
    (k : KeptTable rule g (words_at g words) views) (at : get_elem? views id ≡ some v) (one : v.callers ≡ before ∷ []) (b : IsBegun v.seen before.errand e)
    (busy : IsBusy e) (checked : IsChecked g) (whole : length words ≡ placed_count g) (ready : (piece : ℕ) → Opens g e.point piece → 0 < occurs piece v.ready)
    (a : AreLaidOut g words places views) where
  abbrev table : List ℕ
  table = words_at g words

  abbrev i : ℕ
  i = word_index g (name_of (plan_of e))

  abbrev p : ℕ
  p = place g i

  abbrev new : ℕ
  new = after_action (plan_of e) (slice_index words p)

  abbrev w : View
  w = view_then g table views id v before e k at one b busy

  pub exists : Exists g (name_of (plan_of e))
  exists = there g table views id v before e k at one b busy

  pub below : i < word_count g
  below = word_index-within g (name_of (plan_of e)) exists

  -- a piece that the pass's own caller is about to use first is laid
  mine-used : (piece : ℕ) → Opens g before.errand.point piece → a.status piece ≡ used
  mine-used piece opens = (a.ready id v piece at (ready piece (opens-before g table views id v before e k at one b busy piece opens))).1

  spare-never : (word : ℕ) → name_of (plan_of e) ≡ Arena word → (a.status (piece_of g word) ≡ used → ⊥) → IsSpare g words views (piece_of g word) → ⊥
  spare-never word is not_used s = ⊎_elim
      (λ unused. unused_never g table views id v before e k at one b busy word is unused)
      (λ (t : IsOpened g views (piece_of g word)).
      let mine = opener_mine g table views id v before e k at one b busy word is t.0 t.1 t.3.0 t.3.1 t.2 t.3.2 t.3.3 in
      not_used (mine-used (piece_of g word) (subst (λ (x : Standing). Opens g x.errand.point (piece_of g word)) mine.1 t.3.3)))
      s.unused

  used-piece : (word : ℕ) → name_of (plan_of e) ≡ Arena word → piece_of g word < piece_count g → a.status (piece_of g word) ≡ used
  used-piece word is has =
      let piece = piece_of g word in
      let by : (st : Status) → a.status piece ≡ st → a.status piece ≡ used = λ st. elim st as (λ x. a.status piece ≡ x → a.status piece ≡ used) [
        | blank ↦ λ found. let no : a.status piece ≡ used → ⊥ = λ u. blank-used (sym found ∙ u) in absurd (spare-never word is no (a.spare piece has no))
        | out ↦ λ found. let no : a.status piece ≡ used → ⊥ = λ u. out-used (sym found ∙ u) in absurd (spare-never word is no (a.spare piece has no))
        | used ↦ λ found. found
      ] in by (a.status piece) refl

  pub usable : IsUsable g a.status p
  usable = ⊎_elim
      (λ (t : (word : ℕ) × (name_of (plan_of e) ≡ Arena word)).
      let word = t.0 in
      let there_is : Exists g (Arena word) = subst (Exists g) t.1 exists in
      let p_is : p ≡ word = ap (λ n. place g (word_index g n)) t.1 ∙ sym (start-place g (Arena word) checked there_is) in
      inr (omega (arith, p_is, there_is), ap (λ n. a.status (piece_of g n)) p_is ∙ used-piece word t.1 (word-among g word there_is).0))
      (λ behind. inl (omega (arith, behind, place-least g i), place-within g i below))
      (arena-or g (name_of (plan_of e)))

  pub short : p < length places
  short = omega (arith, a.long, place-within g i below)

  abbrev words_now : List ℕ
  words_now = slice_set words p new

  pub same-word : (j : ℕ) → j ≢ p → slice_index words_now j ≡ slice_index words j
  same-word j other = get_or-set_other words p j new 0 other

  pub here-word : slice_index words_now p ≡ new
  here-word = get_or-set_same words p new 0 (omega (arith, whole, place-within g i below))

  pub table_now : words_at g words_now ≡ words_then g table views id v before e k at one b busy
  table_now = set-words_at g words i new whole below ∙ ap (λ n. slice_set table i (after_action (plan_of e) n)) (sym (at-words_at g words i below))

  pub id_there : id < length views
  id_there = get-within views id v at
    where
      get-within : (l : List View) (n : ℕ) (x : View) → get_elem? l n ≡ some x → n < length l
      get-within [] n x is = absurd (let no : ⊥ = cc in no)
      get-within (y ∷ ys) zero x is = omega arith
      get-within (y ∷ ys) (suc n) x is = omega (arith, get-within ys n x is)

  mine-never : (piece : ℕ) → (a.status piece ≡ used → ⊥) → (u : View) → u ≡ v → IsOpener g u piece → ⊥
  mine-never piece not_used u u_is o =
      let x_is : o.1 ≡ before = only-one v.callers before o.0 o.1 one (subst (λ (z : View). get_elem? z.callers o.0 ≡ some o.1) u_is o.2) in
      not_used (mine-used piece (subst (λ (z : Standing). Opens g z.errand.point piece) x_is o.3))

  -- a piece that isn't laid has its opener still, or has it now
  opened-still : (piece : ℕ) → (a.status piece ≡ used → ⊥) → IsOpened g views piece → IsOpened g (slice_set views id w) piece
  opened-still piece not_used t =
      elim (cases_eq t.0 id) [
        | inr other ↦ (t.0, t.1, set_else views id t.0 w other ∙ t.2, t.3)
        | inl same ↦
            let u_is : t.1 ≡ v = some-injective t.1 v (sym t.2 ∙ ap (get_elem? views) same ∙ at) in absurd (mine-never piece not_used t.1 u_is t.3)
      ]

  unused-still :
      (piece : ℕ) → (a.status piece ≡ used → ⊥) → IsUnused g (word_in g table) piece ⊎ IsOpened g views piece
      → IsUnused g (word_in g (words_at g words_now)) piece ⊎ IsOpened g (slice_set views id w) piece
  unused-still piece not_used spare = ⊎_elim
      (λ unused. ⊎_elim
      (λ still. inl (subst (λ t. IsUnused g (word_in g t) piece) (sym table_now) still))
      (λ opens. inr (id, w, set_here views id w id_there, (0, standing_then g table views id v before e k at one b busy, refl, opens)))
      (unused_then g table views id v before e k at one b busy piece unused))
      (λ opened. inr (opened-still piece not_used opened))
      spare

  apart : (piece j : ℕ) → piece < piece_count g → (a.status piece ≡ used → ⊥) → j < piece_words g piece → piece_start g piece + j ≢ p
  apart piece j has not_used inside same =
      let at_piece = word-inside g piece j has inside in ⊎_elim
      (λ own. omega (arith, own.0, same, at_piece.0))
      (λ laid_is. not_used (ap a.status (sym at_piece.1 ∙ ap (piece_of g) same) ∙ laid_is.1))
      usable

  pub stepped : AreLaidOut g words_now (slice_set places p (laid new)) (slice_set views id w)
  stepped = record {
    status = a.status;
    long = length-set places p (laid new) ∙ a.long;
    each = λ j inside. elim (cases_eq j p) [
      | inl same ↦
          ap (place_at (slice_set places p (laid new))) same ∙ get_or-set_same places p (laid new) None short
          ∙ sym (ap (shown g words_now a.status) same ∙ usable-shown g words_now a.status p usable ∙ ap laid here-word)
      | inr other ↦
          get_or-set_other places p j (laid new) None other ∙ a.each j (omega (arith, inside, length-set places p (laid new)))
          ∙ sym (word-shown g words words_now a.status j (same-word j other))
    ];
    spare = λ piece has not_used.
        let old = a.spare piece has not_used in record {
          unused = unused-still piece not_used old.unused;
          zeros = λ j inside. same-word (piece_start g piece + j) (apart piece j has not_used inside) ∙ old.zeros j inside;
        };
    layer = λ piece has gone.
        let old = a.layer piece has gone in
        let not_used : a.status piece ≡ used → ⊥ = λ u. out-used (sym gone ∙ u) in
        elim (cases_eq old.0 id) [
          | inr other ↦ (old.0, old.1, set_else views id old.0 w other ∙ old.2, old.3, old.4)
          | inl same ↦ let u_is : old.1 ≡ v = some-injective old.1 v (sym old.2 ∙ ap (get_elem? views) same ∙ at) in absurd (mine-never piece not_used old.1 u_is old.4)
        ];
    lays = λ j u piece there_is laying. ⊎_elim
        (λ (t : (j ≡ id) × (w ≡ u)). a.lays id v piece at (ap (λ (z : View). z.lays) t.1 ∙ laying))
        (λ (t : (j ≢ id) × (get_elem? views j ≡ some u)). a.lays j u piece t.1 laying)
        (at_set views id j w u there_is);
    once = λ m n x y piece there_m there_n laying_m laying_n. ⊎_elim
        (λ (t : (m ≡ id) × (w ≡ x)). ⊎_elim
        (λ (q : (n ≡ id) × (w ≡ y)). t.0 ∙ sym q.0)
        (λ (q : (n ≢ id) × (get_elem? views n ≡ some y)). t.0 ∙ a.once id n v y piece at q.1 (ap (λ (z : View). z.lays) t.1 ∙ laying_m) laying_n)
        (at_set views id n w y there_n))
        (λ (t : (m ≢ id) × (get_elem? views m ≡ some x)). ⊎_elim
        (λ (q : (n ≡ id) × (w ≡ y)). a.once m id x v piece t.1 at laying_m (ap (λ (z : View). z.lays) q.1 ∙ laying_n) ∙ sym q.0)
        (λ (q : (n ≢ id) × (get_elem? views n ≡ some y)). a.once m n x y piece t.1 q.1 laying_m laying_n)
        (at_set views id n w y there_n))
        (at_set views id m w x there_m);
    ready = λ j u piece there_is has. ⊎_elim
        (λ (t : (j ≡ id) × (w ≡ u)). a.ready id v piece at (subst (λ (l : List ℕ). 0 < occurs piece l) (sym (ap (λ (z : View). z.ready) t.1)) has))
        (λ (t : (j ≢ id) × (get_elem? views j ≡ some u)). a.ready j u piece t.1 has)
        (at_set views id j w u there_is);
  }

same-caller : (one other : ℕ) → Caller one ≡ Caller other → one ≡ other
same-caller one other is = cc

-- what is out with other passes is so still behind the step
module _ {rule : AllowedWords} (g : Geometry) (words : List ℕ) (whole places : List Place) (views : List View) (id : ℕ) (v : View) (before : Standing) (e : ErrandFields)
    (k : KeptTable rule g (words_at g words) views) (at : get_elem? views id ≡ some v) (one : v.callers ≡ before ∷ []) (b : IsBegun v.seen before.errand e)
    (busy : IsBusy e) (checked : IsChecked g) (long : length words ≡ placed_count g) (ready : (piece : ℕ) → Opens g e.point piece → 0 < occurs piece v.ready)
    (a : AreLaidOut g words whole views) (apart : AreApart v e) (l : AreLent g k.events whole places views) where
  abbrev at_place : ℕ
  at_place = place g (word_index g (name_of (plan_of e)))

  abbrev after_it : ℕ
  after_it = after_action (plan_of e) (slice_index words at_place)

  abbrev u : View
  u = view_then g (words_at g words) views id v before e k at one b busy

  -- a block that is out is another caller's, or it is out with the pass, and the caller's call isn't about it
  whose : (j n : ℕ) (w : View) (x : Lent) (there : get_elem? views j ≡ some w) (found : get_elem? w.lent n ≡ some x)
      → ((l.blocks j n w x there found).owner.errand.caller ≢ e.caller) ⊎ (((l.blocks j n w x there found).owner.errand.caller ≡ e.caller) × (w ≡ v) × (¬ Contains (concerned e.point) x.place))
  whose j n w x there found =
      let o = l.blocks j n w x there found in
      elim (cases_eq o.owner.errand.caller e.caller) [
        | inr other ↦ inl other
        | inl same ↦
            let mine : w ≡ v = view-mine g (words_at g words) views id v before e k at one b busy j w o.number o.owner there o.stands same in
            inr (same, mine, apart n x (ap (λ (z : View). get_elem? z.lent n) (sym mine) ∙ found))
      ]

  -- so the step is on no word that is out
  pub never-lent : IsLent views at_place → ⊥
  never-lent (j, w, n, x, there_is, found, above, under) =
      let o = l.blocks j n w x there_is found in
      let index = word_index g (name_of (plan_of e)) in ⊎_elim
      (λ (t : (word : ℕ) × (name_of (plan_of e) ≡ Arena word)).
      let exists_is : Exists g (Arena t.0) = subst (Exists g) t.1 (exists g words whole views id v before e k at one b busy checked long ready a) in
      let is : at_place ≡ t.0 = ap (λ m. place g (word_index g m)) t.1 ∙ sym (start-place g (Arena t.0) checked exists_is) in
      let serves : usable_words o.owned.0.need ≡ usable_words x.need = ap usable_words o.owned.3 in
      let i : ℕ = at_place - (x.place + 1) in
      let so =
      word-mine g (words_at g words) views id v before e k at one b busy t.0 x.place i o.owned.0 t.1 o.owned.1
      (omega (arith, is, above)) (omega (arith, serves, above, under)) in
      elim (whose j n w x there_is found) [
        | inl other ↦ other (same-caller o.owner.errand.caller e.caller (sym o.owned.2 ∙ so.0))
        | inr own ↦ own.2 (accesses-concerned e.point x.place i so.1)
      ])
      (λ behind. omega (arith, behind, place-least g index, under, o.within))
      (arena-or g (name_of (plan_of e)))

  -- a mark is no word of the table
  mark-else : (caller : ℕ) → mark_place g (caller_mark g caller) ≢ at_place
  mark-else caller same =
      omega (arith, same, place-within g (word_index g (name_of (plan_of e))) (below g words whole views id v before e k at one b busy checked long ready a))

  -- the caller owned the blocks that are out with its pass
  pub owned-out : (n : ℕ) (x : Lent) → get_elem? v.lent n ≡ some x → OwnsAfter k.events e.caller x.place x.need
  owned-out n x found =
      let o = l.blocks id n v x at found in
      let mine : o.owner ≡ before = only-one v.callers before o.number o.owner one o.stands in
      subst (λ c. OwnsAfter k.events c x.place x.need) (ap (λ (y : Standing). y.errand.caller) mine ∙ sym (is_begun-caller v.seen before.errand e b)) o.owned

  abbrev whole_now : List Place
  whole_now = slice_set whole at_place (laid after_it)

  mark-still : (caller : ℕ) → place_at whole_now (mark_place g (caller_mark g caller)) ≡ place_at whole (mark_place g (caller_mark g caller))
  mark-still caller = get_or-set_other whole at_place (mark_place g (caller_mark g caller)) (laid after_it) None (mark-else caller)

  words-still : (j n : ℕ) (w : View) (x : Lent) → get_elem? views j ≡ some w → get_elem? w.lent n ≡ some x → (i : ℕ) → i < usable_words x.need
      → place_at whole_now (x.place + 1 + i) ≡ place_at whole (x.place + 1 + i)
  words-still j n w x there_is found i short_is =
      get_or-set_other whole at_place (x.place + 1 + i) (laid after_it) None
      (λ same. never-lent (j, w, n, x, there_is, found, omega (arith, same), omega (arith, same, short_is)))

  pub still-lent :
      AreLent g (events_now g (words_at g words) views id v before e k at one b busy) whole_now (slice_set places at_place (laid after_it)) (slice_set views id u)
  still-lent =
      let inside : at_place < length whole = short g words whole views id v before e k at one b busy checked long ready a in
      let later = events_now g (words_at g words) views id v before e k at one b busy in
      record {
        long = length-set places at_place (laid after_it) ∙ l.long ∙ sym (length-set whole at_place (laid after_it));
        home = λ i within free.
            set-alike places whole at_place i (laid after_it) (omega (arith, inside, l.long)) (sym l.long)
            (λ other. l.home i (omega (arith, within, length-set places at_place (laid after_it))) (λ lent. free (lent-still i lent)));
        blocks = λ j n w x there_is found. ⊎_elim
            (λ (t : (j ≡ id) × (u ≡ w)).
            let was : get_elem? v.lent n ≡ some x = ap (λ (z : View). get_elem? z.lent n) t.1 ∙ found in
            subst (λ (z : View). IsOut g later whole_now z x) t.1 (mine-out n x was))
            (λ (t : (j ≢ id) × (get_elem? views j ≡ some w)).
            let o = l.blocks j n w x t.1 found in
            let owned : OwnsAfter later o.owner.errand.caller x.place x.need =
            elim (whose j n w x t.1 found) [
              | inl other ↦ others-own g (words_at g words) views id v before e k at one b busy o.owner.errand.caller x.place x.need other o.owned
              | inr own ↦
                  subst (λ c. OwnsAfter later c x.place x.need) (sym own.0)
                  (mine-own g (words_at g words) views id v before e k at one b busy x.place x.need own.2 (subst (λ c. OwnsAfter k.events c x.place x.need) own.0 o.owned))
            ] in
            out-on g k.events later whole whole_now w w x o o.stands owned (mark-still o.owner.errand.caller) (words-still j n w x t.1 found))
            (at_set views id j u w there_is);
      }
    where
      lent-still : (i : ℕ) → IsLent views i → IsLent (slice_set views id u) i
      lent-still i (j, w, n, x, there_is, found, above, under) =
          elim (cases_eq j id) [
            | inr other ↦ (j, w, n, x, set_else views id j u other ∙ there_is, found, above, under)
            | inl same ↦
                let mine : w ≡ v = some-injective w v (sym there_is ∙ ap (get_elem? views) same ∙ at) in
                (id, u, n, x, set_here views id u (id_there g words whole views id v before e k at one b busy checked long ready a), ap (λ (z : View). get_elem? z.lent n) (sym mine) ∙ found, above, under)
          ]

      -- a block that is out with the pass is owned by the pass's caller as it stands now
      mine-out : (n : ℕ) (x : Lent) → get_elem? v.lent n ≡ some x → IsOut g (events_now g (words_at g words) views id v before e k at one b busy) whole_now u x
      mine-out n x was =
          let o = l.blocks id n v x at was in
          let now = standing_then g (words_at g words) views id v before e k at one b busy in
          let number : now.errand.caller ≡ e.caller = settle-caller e _ in
          let first : o.owner ≡ before = only-one v.callers before o.number o.owner one o.stands in
          let was_number : o.owner.errand.caller ≡ e.caller = ap (λ (y : Standing). y.errand.caller) first ∙ sym (is_begun-caller v.seen before.errand e b) in
          let same : now.errand.caller ≡ o.owner.errand.caller = number ∙ sym was_number in
          record {
            number = 0;
            owner = now;
            stands = refl;
            owned = subst (λ c. OwnsAfter (events_now g (words_at g words) views id v before e k at one b busy) c x.place x.need) (sym number)
                (mine-own g (words_at g words) views id v before e k at one b busy x.place x.need (apart n x was) (owned-out n x was));
            within = o.within;
            marked = subst (λ c. place_at whole_now (mark_place g (caller_mark g c)) ≡ laid (mark_of out)) (sym same) (mark-still o.owner.errand.caller ∙ o.marked);
            long = o.long;
            words = λ i short_is. words-still id n v x at was i short_is ∙ o.words i short_is;
          }

-- a step of the errand may be made on the region, where each piece that its caller is about to use first is known to be laid, and whose call is about no block whose words are out with the pass
pub may-memory :
    {rule : AllowedWords} (g : Geometry) (size id : ℕ) (me : region.Me View) (before : Standing) (e : ErrandFields) → IsChecked g → me.0.callers ≡ before ∷ [] → AreApart me.0 e
    → IsBegun me.0.seen before.errand e → IsBusy e → ((piece : ℕ) → Opens g e.point piece → 0 < occurs piece me.0.ready) → PutsByRule rule me.0.seen e
    → region.Allows (PiecesHold rule g) size id me (place g (word_index g (name_of (plan_of e)))) (after_action (plan_of e)) (λ n. SawByRule rule e n me)
may-memory {rule} g size id me before e checked one apart b busy ready puts s good long at =
    let words : List ℕ = good.0 in
    let h = good.1 in
    let whole : List Place = good.2 in
    let a = good.3 in
    let l = good.4 in
    let v = me.0 in
    let t = words_at g words in
    let p : ℕ = place g (word_index g (name_of (plan_of e))) in
    let lies = usable-shown g words a.status p (usable g words whole s.views id v before e h.1 at one b busy checked h.0 ready a) in
    let inside = short g words whole s.views id v before e h.1 at one b busy checked h.0 ready a in
    let mark : place_at s.places p ≡ laid (slice_index words p) =
    l.home p (omega (arith, inside, l.long)) (never-lent g words whole s.places s.views id v before e h.1 at one b busy checked h.0 ready a apart l)
    ∙ a.each p inside ∙ lies in
    let is : number_at s.places p ≡ slice_index words p = ap number mark in
    let below_is = below g words whole s.views id v before e h.1 at one b busy checked h.0 ready a in
    let same : slice_index t (word_index g (name_of (plan_of e))) ≡ slice_index words p = at-words_at g words (word_index g (name_of (plan_of e))) below_is in
    let kept =
    kept-as g (slice_set s.views id (view_then g t s.views id v before e h.1 at one b busy)) _ _
    (sym (table_now g words whole s.views id v before e h.1 at one b busy checked h.0 ready a)) (kept_then g t s.views id v before e h.1 at one b busy puts) in
    let F : ℕ → Type 0 = λ x. Goes (PiecesHold rule g) s (with_number s.places p (after_action (plan_of e) x)) id me (SawByRule rule e x me) in (
      mark ∙ ap laid (sym is),
      λ small. subst F (sym is) (
        view_then g t s.views id v before e h.1 at one b busy,
        keeps,
        tt,
        (
          slice_set words p (after_action (plan_of e) (slice_index words p)),
          (length-set words p (after_action (plan_of e) (slice_index words p)) ∙ h.0, kept.0),
          slice_set whole p (laid (after_action (plan_of e) (slice_index words p))),
          stepped g words whole s.views id v before e h.1 at one b busy checked h.0 ready a,
          subst
              (λ (es : List Event). AreLent g es (slice_set whole p (laid (after_action (plan_of e) (slice_index words p))))
              (slice_set s.places p (laid (after_action (plan_of e) (slice_index words p)))) (slice_set s.views id (view_then g t s.views id v before e h.1 at one b busy)))
              (sym (kept.1 ∙ events_then g t s.views id v before e h.1 at one b busy puts)) (still-lent g words whole s.places s.views id v before e h.1 at one b busy checked h.0 ready a apart l),
        ),
        (
          (
            subst (λ n. TakesStep e n v (view_then g t s.views id v before e h.1 at one b busy)) same
                (steps_then g t s.views id v before e h.1 at one b busy v.lent (owned-out g words whole s.places s.views id v before e h.1 at one b busy checked h.0 ready a apart l) apart),
            refl,
          ),
          always_then g t s.views id v before e h.1 at one b busy puts,
        ),
      ),
    )
  where
    -- the same table by another name has the same events
    kept-as :
        {rule : AllowedWords} (g : Geometry) (views : List View) (ws vs : List ℕ) → ws ≡ vs → (k : KeptTable rule g ws views)
        → (q : KeptTable rule g vs views) × (q.events ≡ k.events)
    kept-as {rule} g views ws vs same k = let P : List ℕ → Type 0 = λ us. (q : KeptTable rule g us views) × (q.events ≡ k.events) in subst P same (k, refl)
