-- The step by which a block's usable words go out with the pass of its owner.
use Rattle.std.proofs.Common.{ℕ, zero, suc, ◌≡◌, ◌≢◌, ◌<◌, ◌≤◌, ◌+◌, ◌%◌, ◌^◌, List, [], ◌∷◌, ◌++◌, length, take, drop, refl, arith, sym, ap, subst, inl, inr, ◌∙◌, ⊎_elim, get_or-set_same, get_or-set_other, length-set, length-take, length-drop, get_or-drop, get_or-take}
use Rattle.std.specs.Prelude.{slice_index, slice_index_or, slice_set, Option, None, Some}
use Rattle.std.proofs.lemmas.Bool.{cases_eq, cases_lt}
use Rattle.std.proofs.lemmas.List.{length-map, length-replicate, set-get_or}
use mathlib.Core.Option.{some, some-injective, some-ne-none}
use lib.ListN.{get_elem?}
use lib.Seq.{ext_get_or}
use Rattle.atomic_table.proofs.Lists.{at_set, set_again, set_else, set_here}
use Rattle.heap_geometry.specs.declared.geometry.Geometry.{Geometry}
use Rattle.heap_geometry.specs.declared.need.Need.{Need}
use Rattle.heap_geometry.specs.Geometry.{IsChecked}
use Rattle.heap_geometry.specs.Need.{usable_words}
use Rattle.word_table.specs.Counts.{arena_words}
use Rattle.word_table.specs.Table.{word_index}
use Rattle.word_table.specs.Words.{word_in}
use Rattle.word_table.specs.declared.name.WordName.TheVariants.{Arena}
use Rattle.word_table.proofs.TableLemmas.{word_index-within}
use Rattle.word_table.proofs.WordLemmas.{word_in-there}
use Rattle.live_heap.specs.placement.Places.{placed_count, words_at}
use Rattle.live_heap.proofs.placement_lemmas.KindLemmas.{start-place}
use Rattle.live_heap.proofs.placement_lemmas.WordsLemmas.{at-words_at}
use Rattle.plain_words.proofs.Rows.{length-put}
use Rattle.plain_words.specs.Places.{IsLaid, Place, laid, laids, outs, number, number_at, place_at, put, run}
use Rattle.atomic_region.specs.Region as region
use Rattle.atomic_region.specs.Region.{State as RegionState, with_number}
use Rattle.atomic_region.specs.Region.Act.{keeps, takes}
use Rattle.pool_model.specs.declared.owner.Owner.{Owner}
use Rattle.pool_model.specs.declared.owner.Owner.TheVariants.{Caller}
use Rattle.pool_model.specs.Histories.{own}
use Rattle.pool_model.specs.Legal.{IsLegal}
use Rattle.pool_model.specs.Pool.{Block, block_at, pool_of}
use Rattle.pool_model.proofs.HistoryLemmas.{legal-weaker}
use Rattle.pool_model.proofs.OwnerLemmas.{others-keep_all}
use Rattle.pool_model.proofs.PoolLemmas.{place-found}
use Rattle.step_parts.specs.declared.large.point.LargePoint.TheVariants as large
use Rattle.errand_steps.specs.declared.continuation.Continuation.TheVariants.{Nothing}
use Rattle.errand_steps.specs.declared.point.Point.TheVariants as point
use Rattle.errand_steps.specs.Begins.{IsHeapBlock, IsIdle, read_begun}
use Rattle.errand_steps.specs.Calls.{Call, begun_by, read}
use Rattle.errand_steps.specs.Errands.{ErrandFields}
use Rattle.errand_steps.specs.Openers.{Opens}
use Rattle.errand_steps.specs.Points.{plan_point_of}
use Rattle.errand_steps.specs.Steps.{State}
use Rattle.sound_state.specs.Runs.{BeginsCall, begins}
use Rattle.sound_state.specs.Sound.{IsSoundWithoutCounts}
use Rattle.sound_state.proofs.CountedLemmas.{without-counts}
use Rattle.sound_state.proofs.shared.ListFacts.{written-within}
use Rattle.sound_state.proofs.shared.OverlapLemmas.{formed-at, live-apart}
use Rattle.sound_state.proofs.shared.TieLemmas.{one-live}
use Rattle.sound_laws.specs.uses.Pieces.{piece_of}
use Rattle.sound_laws.specs.uses.Uses.{IsUnused}
use Rattle.sound_laws.proofs.uses_lemmas.InUse.{InUse, point-in_use}
use Rattle.sound_laws.proofs.uses_lemmas.PieceLemmas.{word-among}
use Rattle.step_machine.specs.Cores.{OwnsAfter, made_with}
use Rattle.step_machine.proofs.CoreLemmas.{run-longer, run-sound}
use Rattle.live_heap.specs.declared.view.Lent.{Lent}
use Rattle.live_heap.specs.declared.view.Standing.{Standing}
use Rattle.live_heap.specs.declared.view.View.{View}
use Rattle.live_heap.specs.Lending.{HasLent, LendsWhere, MayLend, TellsWritten, lent_block, with_lent}
use Rattle.live_heap.specs.Pieces.{AreLaidOut, AreLent, IsLent, IsOpened, IsOut, PiecesHold, Status, caller_mark, mark_count, mark_of, mark_place, place_as}
use Rattle.live_heap.specs.Pieces.Status.{blank, out, used}
use Rattle.live_heap.specs.Rule.{IsStanding, KeptTable, Stands, state_with}
use Rattle.live_heap.specs.Shelves.{AllowedWords}
use Rattle.live_heap.proofs.Claiming.{blank-used, out-used}
use Rattle.live_heap.proofs.Growing.{own-between, rest-none}
use Rattle.live_heap.proofs.LentPlaces.{out-on}
use Rattle.live_heap.proofs.LentViews.{kept-lent, laid-lent, laid-marked, view-within}
use Rattle.live_heap.proofs.Moves.{idle-opens, moved, moves-moved}
use Rattle.live_heap.proofs.PutPlaces.{at-put_before, at-put_behind}
use Rattle.live_heap.proofs.Shows.{arena-placed, shown-arena, shown-mark}
use Rattle.live_heap.proofs.Straight.{arena-short, payload-end}

-- the numbers of so many words from one on
abbrev pub numbers_of : List ℕ → ℕ → ℕ → List ℕ
numbers_of words first count = take count (drop first words)

pub numbers-long : (words : List ℕ) (first count : ℕ) → first + count ≤ length words → length (numbers_of words first count) ≡ count
numbers-long words first count within = omega (arith, length-take count (drop first words), length-drop first words, within)

pub numbers-at : (words : List ℕ) (first count i : ℕ) → i < count → slice_index (numbers_of words first count) i ≡ slice_index words (first + i)
numbers-at words first count i below = get_or-take count (drop first words) i 0 below ∙ get_or-drop first words i 0

at-laids : (ns : List ℕ) (i : ℕ) → i < length ns → place_at (laids ns) i ≡ laid (slice_index ns i)
at-laids [] i below = absurd (omega (arith, below))
at-laids (n ∷ ns) zero below = refl
at-laids (n ∷ ns) (suc i) below = at-laids ns i (omega (arith, below))

-- a range whose places are laid with the numbers of these words
run-laid :
    (ps : List Place) (words : List ℕ) (first count : ℕ) → first + count ≤ length ps → first + count ≤ length words
    → ((i : ℕ) → i < count → place_at ps (first + i) ≡ laid (slice_index words (first + i))) → run ps first count ≡ laids (numbers_of words first count)
run-laid ps words first count within words_within each =
    let ns : List ℕ = numbers_of words first count in
    let many : length ns ≡ count = numbers-long words first count words_within in
    let long : length (run ps first count) ≡ count = omega (arith, length-take count (drop first ps), length-drop first ps, within) in
    ext_get_or None (run ps first count) (laids ns) (long ∙ sym (length-map ns laid ∙ many))
    (λ i below. let inside : i < count = omega (arith, below, long) in
    get_or-take count (drop first ps) i None inside ∙ get_or-drop first ps i None ∙ each i inside
    ∙ sym (at-laids ns i (omega (arith, inside, many)) ∙ ap laid (numbers-at words first count i inside)))

same-caller : (c d : ℕ) → Caller c ≡ Caller d → c ≡ d
same-caller c d is = let e : ◌≡◌ {A = Owner} (Caller c) (Caller d) = is in cc

pub same-block : (a b : Block) (o : Option Block) → o ≡ Some a → o ≡ Some b → a ≡ b
same-block a b o one other = let e : Some a ≡ Some b = sym one ∙ other in cc

in-one : (x y : Standing) (n : ℕ) → get_elem? (x ∷ []) n ≡ some y → x ≡ y
in-one x y zero found = some-injective x y found
in-one x y (suc n) found = absurd (some-ne-none y (sym found))

only-there : (l : List Standing) (x y : Standing) (n : ℕ) → l ≡ x ∷ [] → get_elem? l n ≡ some y → x ≡ y
only-there l x y n is found = in-one x y n (subst (λ (m : List Standing). get_elem? m n ≡ some y) is found)

first-there : (l : List Lent) → 0 < length l → (b : Lent) × (get_elem? l 0 ≡ some b)
first-there [] more = absurd (omega (arith, more))
first-there (b ∷ bs) more = (b, refl)

-- the word of the arena at a place of the words in memory
at-arena :
    (g : Geometry) (table : List ℕ) (word : ℕ) → IsChecked g → word < arena_words g
    → word_in g (words_at g table) (Arena word) ≡ slice_index table word
at-arena g table word checked inside =
    word_in-there g (words_at g table) (Arena word) inside ∙ at-words_at g table (word_index g (Arena word)) (word_index-within g (Arena word) inside)
    ∙ ap (slice_index table) (sym (start-place g (Arena word) checked inside))

-- each block that is out with the pass lies at another place
abbrev pub LieElse : View → ℕ → Type 0
LieElse v place = (n : ℕ) (b : Lent) → get_elem? v.lent n ≡ some b → b.place ≢ place

-- the caller owns the block by the last events that its pass saw, and is in no call
module _ {rule : AllowedWords} (g : Geometry) (words : List ℕ) (views : List View) (id : ℕ) (v : View) (before : Standing) (place : ℕ) (need : Need) (k : KeptTable rule g words views)
    (at : get_elem? views id ≡ some v) (one : v.callers ≡ before ∷ []) (idle : IsIdle before.errand)
    (owned : OwnsAfter v.seen before.errand.caller place need) where
  abbrev caller : ℕ
  caller = before.errand.caller

  abbrev state : State
  state = state_with g words k.errands k.events

  mine : Stands g k.errands k.events k.run.wins.list k.run.moves k.place id v
  mine = k.each id v at

  first : IsStanding g k.errands k.events k.run.wins.list k.run.moves k.place id v 0 before
  first = mine.each 0 before (ap (λ (l : List Standing). get_elem? l 0) one)

  own_before : own caller v.seen ≡ own caller k.events
  own_before = own-between caller before.seen v.seen k.events first.seen_within mine.seen first.own_seen

  between_none : own caller mine.seen.0 ≡ []
  between_none = rest-none caller v.seen mine.seen.0 (own_before ∙ ap (own caller) mine.seen.1)

  legal : IsLegal g (v.seen ++ mine.seen.0)
  legal = subst (IsLegal g) mine.seen.1 (run-sound g state k.made k.run).legal

  sound : IsSoundWithoutCounts g state
  sound = without-counts g state (run-sound g state k.made k.run)

  -- its block is as it was by the events that the pass saw
  block-still : block_at place (pool_of k.events) ≡ Some owned.0
  block-still =
      subst (λ h. block_at place (pool_of h) ≡ Some owned.0) (sym mine.seen.1)
      (others-keep_all g v.seen mine.seen.0 caller place owned.0 (legal-weaker g (v.seen ++ mine.seen.0) legal) between_none owned.1 owned.2)

  -- it owns the block still
  pub owned-now : OwnsAfter k.events caller place need
  owned-now = (owned.0, block-still, owned.2, owned.3)

  -- it is one of the heap's
  pub is-heap_block : IsHeapBlock g place need
  is-heap_block =
      let b = owned-now.0 in
      let formed = formed-at g state place b sound owned-now.1 in
      subst (λ m. IsHeapBlock g place m) owned-now.3
      (subst (λ q. IsHeapBlock g q b.need) (place-found place (pool_of k.events) b owned-now.1) (formed.need, formed.place))

  pub ends-within : place + 1 + usable_words need ≤ arena_words g
  ends-within = payload-end g place need is-heap_block

  -- the pass stands for no caller but this one, and no other pass does
  owner-here : (i n : ℕ) (u : View) (x : Standing) → get_elem? views i ≡ some u → get_elem? u.callers n ≡ some x → x.errand.caller ≡ caller → i ≡ id
  owner-here i n u x at_u at_x same = ap (λ (q : ℕ × ℕ). q.0) (sym ((k.each i u at_u).each n x at_x).at_place ∙ ap k.place same ∙ first.at_place)

  module _ (i : ℕ) (below : i < usable_words need) where
    abbrev call : Call
    call = read place need i

    abbrev errand : ErrandFields
    errand = begun_by (k.errands caller) call

    -- the state in which the caller has begun to read the word
    abbrev reading : State
    reading = state_with g words (moved k.errands caller errand) k.events

    sound_reading : IsSoundWithoutCounts g reading
    sound_reading =
        let starts : BeginsCall state caller call reading = record {
          idle = subst IsIdle (sym first.errand) idle;
          may = (record { block = owned-now }, below);
          errands = moved k.errands caller errand;
          moves = moves-moved k.errands caller errand;
          after = refl;
        } in
        let longer = run-longer g state reading k.made k.run (begins caller call) (first.has, starts) in
        without-counts g reading (run-sound g reading (made_with k.made (begins caller call)) longer.0)

    abbrev word : ℕ
    word = place + 1 + i

    in_arena : word < arena_words g
    in_arena = omega (arith, ends-within, below)

    stands_reading : (reading.errand caller).point ≡ point.Large (large.LoadWord place i) Nothing
    unfolding read_begun
    stands_reading = ap (λ (e : ErrandFields). e.point) (moves-moved k.errands caller errand).here

    in_use : InUse g reading caller (piece_of g word)
    unfolding plan_point_of
    in_use =
        let short : word % 2 ^ 32 ≡ word = omega (arith, arena-short g word k.run.checked in_arena) in
        subst (λ w. InUse g reading caller (piece_of g w)) short
        (point-in_use g reading caller (word % 2 ^ 32) (point.Large (large.LoadWord place i) Nothing) sound_reading first.has stands_reading refl)

    -- so the word's piece is in use, and nobody is about to use it first
    opened_never : IsOpened g views (piece_of g word) → ⊥
    opened_never (j, u, at_u, (n, x, at_x, opens)) =
        let y = (k.each j u at_u).each n x at_x in
        elim (cases_eq x.errand.caller caller) [
          | inl same ↦
              let is : x.errand ≡ before.errand = sym y.errand ∙ ap k.errands same ∙ first.errand in
              idle-opens g x.errand.point (piece_of g word) (subst IsIdle (sym is) idle) opens
          | inr other ↦
              let is : reading.errand x.errand.caller ≡ x.errand = (moves-moved k.errands caller errand).elsewhere x.errand.caller other ∙ y.errand in
              other (in_use.alone x.errand.caller y.has (subst (λ (e : ErrandFields). Opens g e.point (piece_of g word)) (sym is) opens))
        ]

    -- a block that is out has no word in common with this one
    lent_never :
        (whole : List Place) (j n : ℕ) (u : View) (b : Lent) → LieElse v place → get_elem? views j ≡ some u → get_elem? u.lent n ≡ some b
        → IsOut g k.events whole u b → b.place < word → word < b.place + 1 + usable_words b.need → ⊥
    lent_never whole j n u b home at_u at_b is after_place before_end =
        let a = owned-now in
        let c = is.owned in
        let at_a = place-found place (pool_of k.events) a.0 a.1 in
        let at_c = place-found b.place (pool_of k.events) c.0 c.1 in
        elim (cases_eq b.place place) [
          | inl same ↦
              let blocks : a.0 ≡ c.0 = one-live state place b.place a.0 c.0 a.1 same c.1 in
              let callers : is.owner.errand.caller ≡ caller = same-caller _ _ (sym c.2 ∙ sym (ap (λ (x : Block). x.owner) blocks) ∙ a.2) in
              let here : j ≡ id = owner-here j is.number u is.owner at_u is.stands callers in
              let u_is : u ≡ v = some-injective u v (sym at_u ∙ ap (get_elem? views) here ∙ at) in
              home n b (subst (λ (x : View). get_elem? x.lent n ≡ some b) u_is at_b) same
          | inr other ↦
              elim (live-apart g state sound b.place place c.0 a.0 c.1 a.1 other) [
                | inl ends ↦ omega (arith, ends, at_a, at_c, ap usable_words c.3, before_end, after_place)
                | inr starts ↦ omega (arith, starts, at_a, at_c, ap usable_words a.3, before_end, after_place, below)
              ]
        ]

    -- what the caller wrote in the word is there still
    word-written :
        (b : Block) (n : ℕ) → block_at place (pool_of v.seen) ≡ Some b → slice_index_or b.contents i None ≡ Some n
        → word_in g words (Arena word) ≡ n
    word-written b n there is =
        let same : owned.0 ≡ b = same-block owned.0 b (block_at place (pool_of v.seen)) owned.1 there in
        sound.parts.1.tied.contents place i n b (block-still ∙ ap (λ (x : Block). Some x) same) is

  -- a word that the caller wrote is a usable one
  written-short :
      (b : Block) (i n : ℕ) → block_at place (pool_of v.seen) ≡ Some b → slice_index_or b.contents i None ≡ Some n → i < usable_words need
  written-short b i n there is =
      let same : owned.0 ≡ b = same-block owned.0 b (block_at place (pool_of v.seen)) owned.1 there in
      let full = (formed-at g state place b sound (block-still ∙ ap (λ (x : Block). Some x) same)).full in
      let needs : b.need ≡ need = ap (λ (x : Block). x.need) (sym same) ∙ owned.3 in
      omega (arith, written-within b.contents i n is, full, ap usable_words needs)

  -- the words of the block, which are at home, are laid
  module _ (table : List ℕ) (whole places : List Place) (h : length table ≡ placed_count g) (a : AreLaidOut g table whole views) (is : words ≡ words_at g table)
      (l : AreLent g k.events whole places views) (home : LieElse v place) where
    used-piece : (i : ℕ) → i < usable_words need → a.status (piece_of g (place + 1 + i)) ≡ used
    used-piece i below =
        let piece : ℕ = piece_of g (place + 1 + i) in
        let has = (word-among g (place + 1 + i) (in_arena i below)).0 in
        let never : (a.status piece ≡ used → ⊥) → ⊥ = λ not_used. ⊎_elim
        (λ unused. (in_use i below).used (subst (λ (t : List ℕ). IsUnused g (word_in g t) piece) (sym is) unused))
        (λ opened. opened_never i below opened)
        (a.spare piece has not_used).unused in
        let by : (st : Status) → a.status piece ≡ st → a.status piece ≡ used = λ st. elim st as (λ x. a.status piece ≡ x → a.status piece ≡ used) [
          | blank ↦ λ found. absurd (never (λ u. blank-used (sym found ∙ u)))
          | out ↦ λ found. absurd (never (λ u. out-used (sym found ∙ u)))
          | used ↦ λ found. found
        ] in by (a.status piece) refl

    long : length places ≡ placed_count g + mark_count g
    long = l.long ∙ a.long

    whole-laid : (i : ℕ) → i < usable_words need → place_at whole (place + 1 + i) ≡ laid (slice_index table (place + 1 + i))
    whole-laid i below =
        a.each (place + 1 + i) (omega (arith, a.long, in_arena i below, arena-placed g)) ∙ shown-arena g table a.status (place + 1 + i) (in_arena i below)
        ∙ ap (λ x. place_as x (slice_index table (place + 1 + i))) (used-piece i below)

    home-laid : (i : ℕ) → i < usable_words need → place_at places (place + 1 + i) ≡ laid (slice_index table (place + 1 + i))
    home-laid i below =
        l.home (place + 1 + i) (omega (arith, long, in_arena i below, arena-placed g))
        (λ (t : IsLent views (place + 1 + i)). lent_never i below whole t.0 t.2 t.1 t.3 home t.4 t.5 (l.blocks t.0 t.2 t.1 t.3 t.4 t.5) t.6 t.7)
        ∙ whole-laid i below

    abbrev p : ℕ
    p = mark_place g (caller_mark g caller)

    abbrev count : ℕ
    count = usable_words need

    abbrev numbers : List ℕ
    numbers = numbers_of table (place + 1) count

    abbrev block : Lent
    block = lent_block place need numbers

    abbrev now : View
    now = with_lent v (block ∷ v.lent)

    abbrev views_now : List View
    views_now = slice_set views id now

    abbrev marked : List Place
    marked = with_number places p 1

    abbrev places_now : List Place
    places_now = put marked (place + 1) (outs count)

    abbrev whole_now : List Place
    whole_now = slice_set whole p (laid 1)

    table-long : place + 1 + count ≤ length table
    table-long = omega (arith, h, ends-within, arena-placed g)

    -- what the caller wrote counts among them
    tells : TellsWritten v.seen place numbers
    tells b i n there written =
        let short = written-short b i n there written in
        numbers-at table (place + 1) count i short ∙ sym (at-arena g table (place + 1 + i) k.run.checked (in_arena i short))
        ∙ sym (ap (λ (t : List ℕ). word_in g t (Arena (place + 1 + i))) is) ∙ word-written i short b n there written

    -- the mark lies behind all words
    p-within : p < length places
    p-within = omega (arith, long, first.has)

    p-behind : (i : ℕ) → i < arena_words g → i ≢ p
    p-behind i inside same = omega (arith, inside, same, arena-placed g)

    p-home : place_at places p ≡ laid (mark_of (a.status (caller_mark g caller)))
    p-home =
        l.home p p-within
        (λ (t : IsLent views p).
        let ends = (l.blocks t.0 t.2 t.1 t.3 t.4 t.5).within in
        p-behind (t.3.place + usable_words t.3.need) (omega (arith, ends)) (omega (arith, ends, t.7, arena-placed g)))
        ∙ a.each p (omega (arith, p-within, l.long)) ∙ shown-mark g table a.status (caller_mark g caller)

    range-within : place + 1 + length (outs count) ≤ length marked
    range-within = omega (arith, length-replicate {A = Place} count None, length-set places p (laid 1), long, ends-within, arena-placed g)

    taken : run marked (place + 1) count ≡ laids numbers
    taken =
        run-laid marked table (place + 1) count (omega (arith, range-within, length-replicate {A = Place} count None)) table-long
        (λ i below. get_or-set_other places p (place + 1 + i) (laid 1) None (p-behind (place + 1 + i) (in_arena i below)) ∙ home-laid i below)

    now-there : get_elem? views_now id ≡ some now
    now-there = set_here views id now (view-within views id v at)

    -- a word that was out is out still
    lent-still : (i : ℕ) → IsLent views i → IsLent views_now i
    lent-still i (j, u, n, b, at_u, at_b, after_place, before_end) =
        elim (cases_eq j id) [
          | inl same ↦
              let u_is : u ≡ v = some-injective u v (sym at_u ∙ ap (get_elem? views) same ∙ at) in
              (id, now, suc n, b, now-there, subst (λ (x : View). get_elem? x.lent n ≡ some b) u_is at_b, after_place, before_end)
          | inr other ↦ (j, u, n, b, set_else views id j now other ∙ at_u, at_b, after_place, before_end)
        ]

    -- a place that is no word of the block is as it was, but for the mark
    place-still : (i : ℕ) → i < length places → place_at places_now i ≡ place_at marked i → ¬ IsLent views i → place_at places_now i ≡ place_at whole_now i
    place-still i inside same not_lent =
        elim (cases_eq i p) [
          | inl mark ↦
              same ∙ ap (place_at marked) mark ∙ get_or-set_same places p (laid 1) None p-within
              ∙ sym (ap (place_at whole_now) mark ∙ get_or-set_same whole p (laid 1) None (omega (arith, p-within, l.long)))
          | inr other ↦ same ∙ get_or-set_other places p i (laid 1) None other ∙ l.home i inside not_lent ∙ sym (get_or-set_other whole p i (laid 1) None other)
        ]

    home-now : (i : ℕ) → i < length places_now → ¬ IsLent views_now i → place_at places_now i ≡ place_at whole_now i
    home-now i inside not_lent =
        let size : length (outs count) ≡ count = length-replicate count None in
        let short : i < length places = omega (arith, inside, length-put marked (place + 1) (outs count) range-within, length-set places p (laid 1)) in
        let before_not : ¬ IsLent views i = λ t. not_lent (lent-still i t) in
        elim (cases_lt i (place + 1)) [
          | inl less ↦ place-still i short (at-put_before marked (outs count) (place + 1) i range-within less) before_not
          | inr from ↦
              elim (cases_lt i (place + 1 + count)) [
                | inl less ↦ absurd (not_lent (id, now, 0, block, now-there, refl, omega (arith, from), less))
                | inr behind ↦ place-still i short (at-put_behind marked (outs count) (place + 1) i range-within (omega (arith, behind, size))) before_not
              ]
        ]

    -- the block is out
    block-out : IsOut g k.events whole_now now block
    block-out = record {
      number = 0;
      owner = before;
      stands = ap (λ (m : List Standing). get_elem? m 0) one;
      owned = owned-now;
      within = ends-within;
      marked = get_or-set_same whole p (laid 1) None (omega (arith, p-within, l.long));
      long = numbers-long table (place + 1) count table-long;
      words = λ i below.
          get_or-set_other whole p (place + 1 + i) (laid 1) None (p-behind (place + 1 + i) (in_arena i below)) ∙ whole-laid i below
          ∙ ap laid (sym (numbers-at table (place + 1) count i below));
    }

    -- and those that were out are so still
    out-still :
        (j n : ℕ) (u w : View) (b : Lent) → get_elem? views j ≡ some u → get_elem? u.lent n ≡ some b → w.callers ≡ u.callers
        → IsOut g k.events whole_now w b
    out-still j n u w b at_u at_b same =
        let o = l.blocks j n u b at_u at_b in
        let mark : ℕ = mark_place g (caller_mark g o.owner.errand.caller) in
        let marked : place_at whole_now mark ≡ place_at whole mark =
        elim (cases_eq mark p) [
          | inl here ↦ ap (place_at whole_now) here ∙ get_or-set_same whole p (laid 1) None (omega (arith, p-within, l.long)) ∙ sym o.marked
          | inr other ↦ get_or-set_other whole p mark (laid 1) None other
        ] in
        out-on g k.events k.events whole whole_now u w b o (ap (λ (m : List Standing). get_elem? m o.number) same ∙ o.stands) o.owned marked
        (λ i below. get_or-set_other whole p (b.place + 1 + i) (laid 1) None (p-behind (b.place + 1 + i) (omega (arith, o.within, below))))

    own-out : (n : ℕ) (b : Lent) → get_elem? (block ∷ v.lent) n ≡ some b → IsOut g k.events whole_now now b
    own-out zero b found = subst (IsOut g k.events whole_now now) (some-injective block b found) block-out
    own-out (suc n) b found = out-still id n v now b at found refl

    lent-now : AreLent g k.events whole_now places_now views_now
    lent-now = record {
      long =
          length-put marked (place + 1) (outs count) range-within ∙ length-set places p (laid 1) ∙ l.long ∙ sym (length-set whole p (laid 1));
      home = home-now;
      blocks = λ j n u b at_u at_b. ⊎_elim
          (λ (t : (j ≡ id) × (now ≡ u)).
          subst (λ (y : View). IsOut g k.events whole_now y b) t.1 (own-out n b (subst (λ (y : View). get_elem? y.lent n ≡ some b) (sym t.1) at_b)))
          (λ (t : (j ≢ id) × (get_elem? views j ≡ some u)). out-still j n u u b t.1 at_b refl)
          (at_set views id j now u at_u);
    }

-- the step by which they go out, of the pass of a caller that owns the block: one that leaves the number of its mark at 1
lends-own :
    {rule : AllowedWords} (g : Geometry) (id : ℕ) (v : View) (x : Standing) (place : ℕ) (need : Need) → v.callers ≡ x ∷ [] → IsIdle x.errand
    → OwnsAfter v.seen x.errand.caller place need → LieElse v place → (s : RegionState View) → PiecesHold rule g s → get_elem? s.views id ≡ some v
    → IsLaid s.places (mark_place g (caller_mark g x.errand.caller))
    × region.Goes (PiecesHold rule g) s (with_number s.places (mark_place g (caller_mark g x.errand.caller)) 1) id (v, []) (λ me. HasLent place need v me)
unfolding kept-lent
lends-own {rule} g id v x place need one idle owned home s good at =
    let table : List ℕ = good.0 in
    let h = good.1 in
    let whole : List Place = good.2 in
    let a = good.3 in
    let l = good.4 in
    let words : List ℕ = words_at g table in
    let views : List View = s.views in
    let caller : ℕ = x.errand.caller in
    let p : ℕ = mark_place g (caller_mark g caller) in
    let count : ℕ = usable_words need in
    let ns : List ℕ = numbers_of table (place + 1) count in
    let blocks : List Lent = lent_block place need ns ∷ v.lent in
    let w : View = with_lent v blocks in
    let has : caller < g.callers = (first g words views id v x place need h.1 at one idle owned).has in
    let mark = p-home g words views id v x place need h.1 at one idle owned table whole s.places h.0 a refl l home in
    let within = range-within g words views id v x place need h.1 at one idle owned table whole s.places h.0 a refl l home in
    let many = length-replicate {A = Place} count None in
    let is_taken = taken g words views id v x place need h.1 at one idle owned table whole s.places h.0 a refl l home in (
      mark ∙ ap laid (sym (ap number mark)),
      (
        w,
        takes (place + 1) count,
        omega (arith, within, many),
        (
          table,
          (h.0, kept-lent g words views id v blocks at h.1),
          slice_set whole p (laid 1),
          laid-lent g table views id v blocks (slice_set whole p (laid 1)) at (laid-marked g table whole views caller out has a),
          lent-now g words views id v x place need h.1 at one idle owned table whole s.places h.0 a refl l home,
        ),
        (
          ns,
          numbers-long table (place + 1) count (table-long g words views id v x place need h.1 at one idle owned table whole s.places h.0 a refl l home),
          tells g words views id v x place need h.1 at one idle owned table whole s.places h.0 a refl l home,
          ap (λ (ps : List Place). let r : region.Me View = (w, (place + 1, ps) ∷ []) in r) is_taken,
        ),
      ),
    )

-- the same of a pass that may lend its block
lends-may :
    {rule : AllowedWords} (g : Geometry) (id : ℕ) (v : View) (e : ErrandFields) (place : ℕ) (need : Need) → MayLend v e place need → (s : RegionState View)
    → PiecesHold rule g s → get_elem? s.views id ≡ some v
    → IsLaid s.places (mark_place g (caller_mark g e.caller))
    × region.Goes (PiecesHold rule g) s (with_number s.places (mark_place g (caller_mark g e.caller)) 1) id (v, []) (λ me. HasLent place need v me)
lends-may {rule} g id v e place need m s good at =
    let is : m.before.errand ≡ e = m.stands in
    subst
    (λ (f : ErrandFields).
    IsLaid s.places (mark_place g (caller_mark g f.caller))
    × region.Goes (PiecesHold rule g) s (with_number s.places (mark_place g (caller_mark g f.caller)) 1) id (v, []) (λ me. HasLent place need v me)) is
    (lends-own g id v m.before place need m.one (subst IsIdle (sym is) m.idle)
    (subst (λ (f : ErrandFields). OwnsAfter v.seen f.caller place need) (sym is) m.owned) m.home s good at)

-- so it may make the step that takes the block's usable words out: it sets the caller's mark
pub may-lend_first :
    {rule : AllowedWords} (g : Geometry) (size id : ℕ) (v : View) (e : ErrandFields) (place : ℕ) (need : Need) → IsChecked g → MayLend v e place need
    → region.Allows (PiecesHold rule g) size id (v, []) (mark_place g (caller_mark g e.caller)) (λ _. 1) (λ _ me. HasLent place need v me)
may-lend_first g size id v e place need _ m s good _ at = let t = lends-may g id v e place need m s good at in (t.0, λ small. t.1)

-- or a load of the mark, where it is set; where it isn't, nothing has changed
pub may-lend_marked :
    {rule : AllowedWords} (g : Geometry) (size id : ℕ) (v : View) (e : ErrandFields) (place : ℕ) (need : Need) → IsChecked g → MayLend v e place need
    → region.Allows (PiecesHold rule g) size id (v, []) (mark_place g (caller_mark g e.caller)) (λ n. n) (λ n me. LendsWhere place need n (v, []) me)
may-lend_marked {rule} g size id v e place need _ m s good _ at =
    let t = lends-may g id v e place need m s good at in
    let p : ℕ = mark_place g (caller_mark g e.caller) in
    let n : ℕ = number_at s.places p in
    let Goes : ℕ → (region.Me View → Type 0) → Type 0 = λ x then. region.Goes (PiecesHold rule g) s (with_number s.places p x) id (v, []) then in (
      t.0,
      λ small.
          elim (cases_eq n 1) [
            | inl set ↦
                let gone : Goes n (λ me. HasLent place need v me) = subst (λ x. Goes x (λ me. HasLent place need v me)) (sym set) t.1 in
                (gone.0, gone.1, gone.2, gone.3, ((λ _. gone.4), (λ other. absurd (other set))))
            | inr other ↦
                let same : with_number s.places p n ≡ s.places = ap (slice_set s.places p) (sym t.0) ∙ set-get_or s.places p None in
                let kept : PiecesHold rule g record { places = with_number s.places p n; views = slice_set s.views id v } =
                subst (λ (ps : List Place). PiecesHold rule g record { places = ps; views = slice_set s.views id v }) (sym same)
                (subst (λ (vs : List View). PiecesHold rule g record { places = s.places; views = vs }) (sym (set_again s.views id v at)) good) in
                (v, keeps, tt, kept, ((λ is. absurd (other is)), (λ _. refl)))
          ],
    )
