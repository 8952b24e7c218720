-- One usable word of a block that is out with its owner's pass is written or read, in the machine's run: the word is out, so the region's places stay as they are. The blocks before and behind it stay out.
use Rattle.std.proofs.Common.{ℕ, eqb, zero, suc, ◌≡◌, ◌≢◌, ◌<◌, ◌+◌, ◌^◌, Option, Some, None, List, [], ◌∷◌, ◌++◌, ◌⊎◌, length, refl, arith, sym, ap, subst, inl, inr, ◌∙◌, ⊎_elim, get_or-set_same, get_or-set_other, length-set}
use Rattle.std.specs.Prelude.{Contains, slice_index, slice_set}
use Rattle.std.proofs.lemmas.Bool.{cases_Bool, cases_eq}
use Rattle.std.proofs.lemmas.List.{set-set}
use mathlib.Core.Option.{some, some-injective, some-ne-none}
use lib.ListN.{get_elem?}
use Rattle.atomic_table.proofs.Lists.{at_set, set_else, set_here}
use Rattle.heap_geometry.specs.declared.geometry.Geometry.{Geometry}
use Rattle.heap_geometry.specs.declared.need.Need.{Need}
use Rattle.heap_geometry.specs.Geometry.{IsChecked}
use Rattle.heap_geometry.specs.Need.{usable_words}
use Rattle.word_table.specs.declared.action.Action.{Action}
use Rattle.word_table.specs.declared.action.Found.{Found as Find}
use Rattle.word_table.specs.declared.name.WordName.TheVariants.{Arena}
use Rattle.word_table.specs.Actions.{name_of, after_action}
use Rattle.word_table.specs.Counts.{arena_words}
use Rattle.word_table.specs.Table.{word_index}
use Rattle.live_heap.specs.placement.Places as placed
use Rattle.live_heap.specs.placement.Places.{words_at}
use Rattle.live_heap.proofs.placement_lemmas.KindLemmas.{start-place}
use Rattle.live_heap.proofs.placement_lemmas.WordsLemmas.{at-words_at}
use Rattle.plain_words.specs.Places.{Place, laid, number, place_at}
use Rattle.pool_model.specs.declared.event.Event.{Event}
use Rattle.pool_model.specs.declared.event.Event.TheVariants.{Write}
use Rattle.pool_model.specs.declared.owner.Owner.TheVariants.{Caller}
use Rattle.pool_model.specs.Histories.{caller_of}
use Rattle.pool_model.specs.Legal.{IsLegalWithoutCounts}
use Rattle.pool_model.specs.Pool.{Block, pool_of}
use Rattle.pool_model.proofs.PoolLemmas.{place-found}
use Rattle.errand_steps.specs.Begins.{IsBusy, IsIdle, read_begun, write_begun}
use Rattle.errand_steps.specs.Calls.{Call, begun_by, read, write}
use Rattle.errand_steps.specs.Errands.{ErrandFields, plan_of, settle_of}
use Rattle.errand_steps.specs.Events.{event_of}
use Rattle.errand_steps.specs.Steps.{State, with_event}
use Rattle.sound_state.specs.Recalls.{IsOwned}
use Rattle.sound_state.specs.Runs.{MayBegin}
use Rattle.sound_state.specs.Sound.{IsSoundWithoutCounts}
use Rattle.sound_state.proofs.CountedLemmas.{without-counts}
use Rattle.sound_state.proofs.shared.OverlapLemmas.{live-apart}
use Rattle.sound_state.proofs.shared.TieLemmas.{one-live}
use Rattle.owned_words.specs.Leaving.{concerned}
use Rattle.step_machine.specs.Cores.{OwnsAfter}
use Rattle.step_machine.specs.Keeping.{Spares}
use Rattle.step_machine.proofs.CoreLemmas.{run-sound}
use Rattle.step_machine.proofs.KeepLemmas.{owns-rest}
use Rattle.live_heap.specs.declared.view.Lent.{Lent}
use Rattle.live_heap.specs.declared.view.Standing.{Standing}
use Rattle.live_heap.specs.declared.view.View.{View}
use Rattle.live_heap.specs.Lending.{AreAmong, AreElsewhere, lent_block, with_lent}
use Rattle.live_heap.specs.Pieces.{AreLaidOut, AreLent, IsLent, IsOut, IsReady, caller_mark, mark_of, mark_place}
use Rattle.live_heap.specs.Pieces.Status.{out}
use Rattle.live_heap.specs.Rule.{KeptTable, WordsHold, state_with}
use Rattle.live_heap.specs.Sights.{AreOwned, IsBegun, TakesStep, after_events}
use Rattle.live_heap.specs.Shelves.{AllowedWords, PutsByRule}
use Rattle.live_heap.proofs.LentPlaces.{out-on}
use Rattle.live_heap.proofs.LentViews.{kept-lent, laid-lent, view-within}
use Rattle.live_heap.proofs.Memory.{below, stepped, table_now, usable, usable-shown}
use Rattle.live_heap.proofs.ShelvesKept.{read-puts, write-puts}
use Rattle.live_heap.proofs.Moves.{begun-caller, event, events_now, events_then, kept_then, standing_then, steps_then, view_then, words_then}
use Rattle.live_heap.proofs.Shows.{arena-placed}
use Rattle.live_heap.proofs.Straight.{arena-short, read-busy, read-plan, read-ready, read-settles, write-busy, write-plan, write-ready, write-settles}

in-one : (place at : ℕ) → Contains (place ∷ []) at → at ≡ place
in-one place at (zero, below, is) = sym is
in-one place at (suc k, below, is) = absurd (omega arith)

-- the rule of the region where the pass `id` has this view: it stands for one caller, whose errand is e, and has the words of this block out, and of those before and behind it
pub record HasAway (rule : AllowedWords) (g : Geometry) (places : List Place) (views : List View) (id : ℕ) (v : View) (e : ErrandFields) (place : ℕ) (need : Need) (numbers : List ℕ) (front back : List Lent) : Type 0 where
  pub words : List ℕ
  pub held : WordsHold rule g words views
  pub whole : List Place
  pub laid_out : AreLaidOut g words whole views
  pub lent : AreLent g held.1.events whole places views
  pub at : get_elem? views id ≡ some v
  pub before : Standing
  pub one : v.callers ≡ before ∷ []
  pub stands : before.errand ≡ e
  pub mine : AreOwned v e.caller
  pub away : v.lent ≡ front ++ lent_block place need numbers ∷ back

-- who is found in a list of one is that one
pub sole : {A : Type 0} (l : List A) (x y : A) (n : ℕ) → l ≡ x ∷ [] → get_elem? l n ≡ some y → y ≡ x
sole {A} l x y n is found = in-one n (subst (λ (m : List A). get_elem? m n ≡ some y) is found)
  where
    in-one : (n : ℕ) → get_elem? (x ∷ []) n ≡ some y → y ≡ x
    in-one zero e = sym (some-injective x y e)
    in-one (suc n) e = absurd (some-ne-none y (sym e))

-- a list with one more in its middle: it stands there, and each other is one of those before and behind it
pub middle-here : {A : Type 0} (front back : List A) (x : A) → get_elem? (front ++ x ∷ back) (length front) ≡ some x
middle-here [] back x = refl
middle-here (y ∷ ys) back x = middle-here ys back x

pub middle-or :
    {A : Type 0} (front back : List A) (x y : A) (n : ℕ) → get_elem? (front ++ x ∷ back) n ≡ some y
    → (y ≡ x) ⊎ ((m : ℕ) × (get_elem? (front ++ back) m ≡ some y))
middle-or [] back x y zero found = inl (sym (some-injective x y found))
middle-or [] back x y (suc n) found = inr (n, found)
middle-or (z ∷ zs) back x y zero found = inr (0, found)
middle-or {A} (z ∷ zs) back x y (suc n) found =
    ⊎_elim (λ same. inl same) (λ (t : (m : ℕ) × (get_elem? (zs ++ back) m ≡ some y)). inr (suc t.0, t.1)) (middle-or zs back x y n found)

pub middle-else :
    {A : Type 0} (front back : List A) (x y : A) (m : ℕ) → get_elem? (front ++ back) m ≡ some y → (n : ℕ) × (get_elem? (front ++ x ∷ back) n ≡ some y)
middle-else [] back x y m found = (suc m, found)
middle-else (z ∷ zs) back x y zero found = (0, found)
middle-else (z ∷ zs) back x y (suc m) found = let t = middle-else zs back x y m found in (suc t.0, t.1)

-- the call that writes this number to the word, or where there is none reads it; and the number that is in it then
abbrev pub on_word : ℕ → Need → ℕ → Option ℕ → Call
on_word place need i (Some x) = write place need i x
on_word place need i None = read place need i

abbrev pub left_by : Option ℕ → ℕ → ℕ
left_by (Some x) n = x
left_by None n = n

-- what it writes is a number of 64 bits
abbrev pub IsSmall : Option ℕ → Type 0
IsSmall (Some x) = x < 2 ^ 64
IsSmall None = Unit {0}

on-busy : (e : ErrandFields) (place : ℕ) (n : Need) (i : ℕ) (does : Option ℕ) → IsBusy (begun_by e (on_word place n i does))
on-busy e place n i (Some x) = write-busy e place n i x
on-busy e place n i None = read-busy e place n i

on-ready : (g : Geometry) (e : ErrandFields) (place : ℕ) (n : Need) (i : ℕ) (does : Option ℕ) (u : View) → IsReady g (begun_by e (on_word place n i does)).point u
on-ready g e place n i (Some x) u = write-ready g e place n i x u
on-ready g e place n i None u = read-ready g e place n i u

on-puts :
    (rule : AllowedWords) (seen : List Event) (e : ErrandFields) (place : ℕ) (n : Need) (i : ℕ) (does : Option ℕ)
    → PutsByRule rule seen (begun_by e (on_word place n i does))
on-puts rule seen e place n i (Some x) = write-puts rule seen e place n i x
on-puts rule seen e place n i None = read-puts rule seen e place n i

on-settles :
    (e : ErrandFields) (place : ℕ) (n : Need) (i : ℕ) (does : Option ℕ) (x : Find) → IsIdle e → e ≡ settle_of (begun_by e (on_word place n i does)) x
on-settles e place n i (Some v) x idle = write-settles e place n i v x idle
on-settles e place n i None x idle = read-settles e place n i x idle

on-names :
    (e : ErrandFields) (place : ℕ) (n : Need) (i : ℕ) (does : Option ℕ) → place + 1 + i < 2 ^ 32
    → name_of (plan_of (begun_by e (on_word place n i does))) ≡ Arena (place + 1 + i)
on-names e place n i (Some x) short = ap name_of (write-plan e place n i x short)
on-names e place n i None short = ap name_of (read-plan e place n i short)

on-leaves :
    (e : ErrandFields) (place : ℕ) (n : Need) (i : ℕ) (does : Option ℕ) (found : ℕ) → place + 1 + i < 2 ^ 32
    → after_action (plan_of (begun_by e (on_word place n i does))) found ≡ left_by does found
on-leaves e place n i (Some x) found short = ap (λ (a : Action). after_action a found) (write-plan e place n i x short)
on-leaves e place n i None found short = ap (λ (a : Action). after_action a found) (read-plan e place n i short)

on-may :
    (s : State) (caller place : ℕ) (n : Need) (i : ℕ) (does : Option ℕ) → IsOwned s caller place n → i < usable_words n → IsSmall does
    → MayBegin s caller (on_word place n i does)
on-may s caller place n i (Some x) owned inside small = (owned, inside, small)
on-may s caller place n i None owned inside small = (owned, inside)

-- it is about its own block
on-concerned : (e : ErrandFields) (place : ℕ) (n : Need) (i : ℕ) (does : Option ℕ) (at : ℕ) → Contains (concerned (begun_by e (on_word place n i does)).point) at → at ≡ place
unfolding write_begun read_begun
on-concerned e place n i (Some x) at there = in-one place at there
on-concerned e place n i None at there = in-one place at there

-- a read makes no event, and a write gives no block away
read-spares :
    (e : ErrandFields) (place : ℕ) (n : Need) (i : ℕ) (x : Find) (caller at : ℕ) (it : Event)
    → event_of caller (begun_by e (read place n i)).point x ≡ Some it → Spares at it
unfolding read_begun event_of
read-spares e place n i x caller at it is = elim (cases_Bool x.won) [
  | inl won ↦ let said : None ≡ Some it = rw won at is in absurd (let no : ⊥ = cc in no)
  | inr lost ↦ let said : None ≡ Some it = rw lost at is in absurd (let no : ⊥ = cc in no)
]

write-spares :
    (e : ErrandFields) (place : ℕ) (n : Need) (i v : ℕ) (x : Find) (caller at : ℕ) (it : Event)
    → event_of caller (begun_by e (write place n i v)).point x ≡ Some it → Spares at it
unfolding write_begun event_of
write-spares e place n i v x caller at it is = elim (cases_Bool x.won) [
  | inl won ↦
      let said : Some (Write caller place i v) ≡ Some it = rw won at is in
      subst (Spares at) (let same : Write caller place i v ≡ it = cc in same) tt
  | inr lost ↦ let said : None ≡ Some it = rw lost at is in absurd (let no : ⊥ = cc in no)
]

-- a caller's block stays its own through an event that gives it not away
owns-next :
    (g : Geometry) (log : List Event) (it : Option Event) (caller at : ℕ) (need : Need) → IsLegalWithoutCounts g (with_event log it)
    → ((x : Event) → it ≡ Some x → Spares at x) → OwnsAfter log caller at need → OwnsAfter (with_event log it) caller at need
owns-next g log None caller at need legal spares owns = owns
owns-next g log (Some x) caller at need legal spares owns =
    owns-rest g log (x ∷ []) caller at need legal
    (elim (cases_Bool (eqb (caller_of x) caller)) [
      | inl hers ↦ rw hers (spares x refl, tt)
      | inr other ↦ rw other tt
    ])
    owns

on-spares :
    (e : ErrandFields) (place : ℕ) (n : Need) (i : ℕ) (does : Option ℕ) (x : Find) (caller at : ℕ) (it : Event)
    → event_of caller (begun_by e (on_word place n i does)).point x ≡ Some it → Spares at it
on-spares e place n i (Some v) x caller at it is = write-spares e place n i v x caller at it is
on-spares e place n i None x caller at it is = read-spares e place n i x caller at it is

-- the usable words of two blocks are apart
owned-apart :
    (g : Geometry) (s : State) (c d p q : ℕ) (n m : Need) (i j : ℕ) → IsSoundWithoutCounts g s → OwnsAfter s.history c p n → OwnsAfter s.history d q m
    → ¬ ((c ≡ d) × (p ≡ q)) → i < usable_words n → j < usable_words m → p + 1 + i ≢ q + 1 + j
owned-apart g s c d p q n m i j sound (a, live_a, owner_a, need_a) (b, live_b, owner_b, need_b) differ below_i below_j same =
    let at_a : a.place ≡ p = place-found p (pool_of s.history) a live_a in
    let at_b : b.place ≡ q = place-found q (pool_of s.history) b live_b in
    let words_a : usable_words a.need ≡ usable_words n = ap usable_words need_a in
    let words_b : usable_words b.need ≡ usable_words m = ap usable_words need_b in
    elim (cases_eq p q) [
      | inl one ↦
          let owners : Caller c ≡ Caller d = sym owner_a ∙ ap (λ (x : Block). x.owner) (one-live s p q a b live_a (sym one) live_b) ∙ owner_b in
          differ ((let callers : c ≡ d = cc in callers), one)
      | inr apart ↦
          elim (live-apart g s sound p q a b live_a live_b apart) [
            | inl ahead ↦ omega (arith, ahead, at_a, at_b, words_a, words_b, below_i, below_j, same)
            | inr behind ↦ omega (arith, behind, at_a, at_b, words_a, words_b, below_i, below_j, same)
          ]
    ]

-- the table's rule with these events
HeldWith : AllowedWords → Geometry → List ℕ → List View → List Event → Type 0
HeldWith rule g words views events = (k : KeptTable rule g words views) × (k.events ≡ events)

module _ {rule : AllowedWords} (g : Geometry) (places : List Place) (views : List View) (id : ℕ) (v : View) (e : ErrandFields) (place : ℕ) (need : Need) (old : List ℕ) (front back : List Lent) (i : ℕ)
    (does : Option ℕ) (checked : IsChecked g) (idle : IsIdle e) (inside : i < usable_words need) (small : IsSmall does)
    (others : AreElsewhere place (front ++ back)) (s : HasAway rule g places views id v e place need old front back) where
  abbrev call : Call
  call = on_word place need i does

  -- the number that is in the word, before and then
  abbrev was : ℕ
  was = slice_index old i

  abbrev x : ℕ
  x = left_by does was

  abbrev begun : ErrandFields
  begun = begun_by e call

  abbrev k : KeptTable rule g (words_at g s.words) views
  k = s.held.1

  abbrev table : List ℕ
  table = words_at g s.words

  among_out : get_elem? v.lent (length front) ≡ some (lent_block place need old)
  among_out = ap (λ (l : List Lent). get_elem? l (length front)) s.away ∙ middle-here front back (lent_block place need old)

  may : IsBegun v.seen s.before.errand begun
  may = inr (
    call,
    subst IsIdle (sym s.stands) idle,
    on-may (after_events v.seen) s.before.errand.caller place need i does
        (record { block = subst (λ (f : ErrandFields). OwnsAfter v.seen f.caller place need) (sym s.stands) (s.mine (length front) (lent_block place need old) among_out) }) inside small,
    ap (λ (f : ErrandFields). begun_by f call) (sym s.stands),
  )

  busy : IsBusy begun
  busy = on-busy e place need i does

  -- the block as it was out
  block : IsOut g k.events s.whole v (lent_block place need old)
  block =
      s.lent.blocks id (length front) v (lent_block place need old) s.at among_out

  -- a block that is out with the pass is its caller's
  owner_is : (b : Lent) (o : IsOut g k.events s.whole v b) → o.owner ≡ s.before
  owner_is b o = sole v.callers s.before o.owner o.number s.one o.stands

  caller_is : (b : Lent) (o : IsOut g k.events s.whole v b) → o.owner.errand.caller ≡ e.caller
  caller_is b o = ap (λ (y : Standing). y.errand.caller) (owner_is b o) ∙ ap (λ (f : ErrandFields). f.caller) s.stands

  owned_was : (b : Lent) → IsOut g k.events s.whole v b → OwnsAfter k.events e.caller b.place b.need
  owned_was b o = subst (λ c. OwnsAfter k.events c b.place b.need) (caller_is b o) o.owned

  -- a block before or behind it was out too
  other_out : (n : ℕ) (b : Lent) → get_elem? (front ++ back) n ≡ some b → IsOut g k.events s.whole v b
  other_out n b found =
      let t = middle-else front back (lent_block place need old) b n found in
      s.lent.blocks id t.0 v b s.at (ap (λ (l : List Lent). get_elem? l t.0) s.away ∙ t.1)

  in_arena : place + 1 + i < arena_words g
  in_arena = omega (arith, block.within, inside)

  short : place + 1 + i < 2 ^ 32
  short = arena-short g (place + 1 + i) checked in_arena

  -- the word's place, and what is stored there
  abbrev p : ℕ
  p = placed.place g (word_index g (name_of (plan_of begun)))

  at_word : p ≡ place + 1 + i
  at_word = ap (λ n. placed.place g (word_index g n)) (on-names e place need i does short) ∙ sym (start-place g (Arena (place + 1 + i)) checked in_arena)

  -- the word holds the block's number
  holds : slice_index s.words p ≡ was
  holds =
      let ready = on-ready g e place need i does v in
      ap number
      (sym (usable-shown g s.words s.laid_out.status p (usable g s.words s.whole views id v s.before begun k s.at s.one may busy checked s.held.0 ready s.laid_out))
      ∙ sym (s.laid_out.each p (omega (arith, at_word, in_arena, s.laid_out.long, arena-placed g)))
      ∙ ap (place_at s.whole) at_word ∙ block.words i inside)

  abbrev new : ℕ
  new = after_action (plan_of begun) (slice_index s.words p)

  new_is : new ≡ x
  new_is = on-leaves e place need i does (slice_index s.words p) short ∙ ap (left_by does) holds

  abbrev words_now : List ℕ
  words_now = slice_set s.words p new

  abbrev whole_now : List Place
  whole_now = slice_set s.whole p (laid new)

  abbrev numbers_now : List ℕ
  numbers_now = slice_set old i x

  abbrev blocks_now : List Lent
  blocks_now = front ++ lent_block place need numbers_now ∷ back

  abbrev w : View
  w = view_then g table views id v s.before begun k s.at s.one may busy

  abbrev u : View
  u = with_lent w blocks_now

  abbrev views_then : List View
  views_then = slice_set views id w

  abbrev views_now : List View
  views_now = slice_set views id u

  abbrev events_after : List Event
  events_after = events_now g table views id v s.before begun k s.at s.one may busy

  id_there : id < length views
  id_there = view-within views id v s.at

  there : get_elem? views_then id ≡ some w
  there = set_here views id w id_there

  held_now : HeldWith rule g (words_at g words_now) views_now events_after
  unfolding HeldWith kept-lent
  held_now =
      let words_after = words_then g table views id v s.before begun k s.at s.one may busy in
      let kept = kept_then g table views id v s.before begun k s.at s.one may busy (on-puts rule v.seen e place need i does) in
      subst (λ (vs : List View). HeldWith rule g (words_at g words_now) vs events_after) (set-set views id w u)
      (subst (λ (ws : List ℕ). HeldWith rule g ws (slice_set views_then id u) events_after)
      (sym (table_now g s.words s.whole views id v s.before begun k s.at s.one may busy checked s.held.0 (on-ready g e place need i does v) s.laid_out)) (
        kept-lent g words_after views_then id w blocks_now there kept,
        events_then g table views id v s.before begun k s.at s.one may busy (on-puts rule v.seen e place need i does),
      ))

  laid_now : AreLaidOut g words_now whole_now views_now
  laid_now =
      subst (AreLaidOut g words_now whole_now) (set-set views id w u)
      (laid-lent g words_now views_then id w blocks_now whole_now there
      (stepped g s.words s.whole views id v s.before begun k s.at s.one may busy checked s.held.0 (on-ready g e place need i does v) s.laid_out))

  legal_now : IsLegalWithoutCounts g events_after
  unfolding HeldWith
  legal_now =
      let t : KeptTable rule g (words_at g words_now) views_now = held_now.0 in
      subst (IsLegalWithoutCounts g) held_now.1 (without-counts g _ (run-sound g (state_with g (words_at g words_now) t.errands t.events) t.made t.run)).legal

  -- whoever owned a block owns it still
  owned_now : (c q : ℕ) (n : Need) → OwnsAfter k.events c q n → OwnsAfter events_after c q n
  owned_now c q n owns =
      owns-next g k.events (event g table views id v s.before begun k s.at s.one may busy) c q n legal_now
      (λ it is. on-spares e place need i does _ _ q it is) owns

  -- what isn't the word's place is as it was
  elsewhere : (j : ℕ) → j ≢ p → place_at whole_now j ≡ place_at s.whole j
  elsewhere j other = get_or-set_other s.whole p j (laid new) None other

  long_now : length whole_now ≡ length s.whole
  long_now = length-set s.whole p (laid new)

  here : place_at whole_now p ≡ laid x
  here =
      get_or-set_same s.whole p (laid new) None (omega (arith, at_word, in_arena, s.laid_out.long, arena-placed g)) ∙ ap laid new_is

  mark_apart : (c : ℕ) → mark_place g (caller_mark g c) ≢ p
  mark_apart c same = omega (arith, same, at_word, in_arena, arena-placed g)

  -- the block stands among those that are out
  here_now : get_elem? blocks_now (length front) ≡ some (lent_block place need numbers_now)
  here_now = middle-here front back (lent_block place need numbers_now)

  still_lent : (j : ℕ) → IsLent views j → IsLent views_now j
  still_lent j (m, y, n, b, at_y, at_b, from, below) =
      elim (cases_eq m id) [
        | inl mine ↦
            let y_is : y ≡ v = some-injective y v (sym at_y ∙ ap (get_elem? views) mine ∙ s.at) in
            let found : get_elem? (front ++ lent_block place need old ∷ back) n ≡ some b =
            subst (λ (l : List Lent). get_elem? l n ≡ some b) (ap (λ (z : View). z.lent) y_is ∙ s.away) at_b in
            elim (middle-or front back (lent_block place need old) b n found) [
              | inl same ↦ (
                id,
                u,
                length front,
                lent_block place need numbers_now,
                set_here views id u id_there,
                here_now,
                subst (λ (c : Lent). c.place < j) same from,
                subst (λ (c : Lent). j < c.place + 1 + usable_words c.need) same below,
              )
              | inr aside ↦
                  let t = middle-else front back (lent_block place need numbers_now) b aside.0 aside.1 in
                  (id, u, t.0, b, set_here views id u id_there, t.1, from, below)
            ]
        | inr other ↦ (m, y, n, b, set_else views id m u other ∙ at_y, at_b, from, below)
      ]

  settled : e ≡ (standing_then g table views id v s.before begun k s.at s.one may busy).errand
  settled = on-settles e place need i does _ idle

  mark_still : (c : ℕ) → place_at whole_now (mark_place g (caller_mark g c)) ≡ place_at s.whole (mark_place g (caller_mark g c))
  mark_still c = elsewhere (mark_place g (caller_mark g c)) (mark_apart c)

  -- the caller's mark says so still, and its blocks are its own
  mark_now :
      place_at whole_now (mark_place g (caller_mark g (standing_then g table views id v s.before begun k s.at s.one may busy).errand.caller))
      ≡ laid (mark_of out)
  mark_now =
      subst (λ (f : ErrandFields). place_at whole_now (mark_place g (caller_mark g f.caller)) ≡ laid (mark_of out)) settled
      (subst (λ c. place_at whole_now (mark_place g (caller_mark g c)) ≡ laid (mark_of out)) (caller_is (lent_block place need old) block)
      (mark_still block.owner.errand.caller ∙ block.marked))

  owned_own :
      (b : Lent) → IsOut g k.events s.whole v b
      → OwnsAfter events_after (standing_then g table views id v s.before begun k s.at s.one may busy).errand.caller b.place b.need
  owned_own b o =
      subst (λ (f : ErrandFields). OwnsAfter events_after f.caller b.place b.need) settled (owned_now e.caller b.place b.need (owned_was b o))

  mine_out : IsOut g events_after whole_now u (lent_block place need numbers_now)
  mine_out = record {
    number = 0;
    owner = standing_then g table views id v s.before begun k s.at s.one may busy;
    stands = refl;
    owned = owned_own (lent_block place need old) block;
    within = block.within;
    marked = mark_now;
    long = length-set old i x ∙ block.long;
    words = λ j below. elim (cases_eq j i) [
      | inl same ↦
          ap (λ n. place_at whole_now (place + 1 + n)) same ∙ ap (place_at whole_now) (sym at_word) ∙ here
          ∙ ap laid (sym (ap (slice_index numbers_now) same ∙ get_or-set_same old i x 0 (omega (arith, block.long, inside))))
      | inr other ↦
          elsewhere (place + 1 + j) (λ same. other (omega (arith, same, at_word))) ∙ block.words j below
          ∙ ap laid (sym (get_or-set_other old i j x 0 other))
    ];
  }

  -- the words of another block that is out are as they were
  words_still :
      (y : View) (b : Lent) (o : IsOut g k.events s.whole y b) → ¬ ((o.owner.errand.caller ≡ block.owner.errand.caller) × (b.place ≡ place))
      → (j : ℕ) → j < usable_words b.need → place_at whole_now (b.place + 1 + j) ≡ place_at s.whole (b.place + 1 + j)
  words_still y b o differ j below =
      let st = state_with g table k.errands k.events in
      let sound = without-counts g st (run-sound g st k.made k.run) in
      elsewhere (b.place + 1 + j)
      (λ same. owned-apart g st o.owner.errand.caller block.owner.errand.caller b.place place b.need need j i sound o.owned block.owned differ below inside (same ∙ at_word))

  -- so a block before or behind it is out still
  beside_out : (n : ℕ) (b : Lent) → get_elem? (front ++ back) n ≡ some b → IsOut g events_after whole_now u b
  beside_out n b found =
      let o = other_out n b found in
      record {
        number = 0;
        owner = standing_then g table views id v s.before begun k s.at s.one may busy;
        stands = refl;
        owned = owned_own b o;
        within = o.within;
        marked = mark_now;
        long = o.long;
        words = λ j below. words_still v b o (λ t. others n b found t.1) j below ∙ o.words j below;
      }

  own_out : (n : ℕ) (b : Lent) → get_elem? blocks_now n ≡ some b → IsOut g events_after whole_now u b
  own_out n b found =
      elim (middle-or front back (lent_block place need numbers_now) b n found) [
        | inl same ↦ subst (IsOut g events_after whole_now u) (sym same) mine_out
        | inr aside ↦ beside_out aside.0 b aside.1
      ]

  -- and so is a block of another pass
  others_out :
      (m n : ℕ) (y : View) (b : Lent) → m ≢ id → get_elem? views m ≡ some y → get_elem? y.lent n ≡ some b → IsOut g events_after whole_now y b
  others_out m n y b other at_y at_b =
      let o = s.lent.blocks m n y b at_y at_b in
      let hers = (k.each m y at_y).each o.number o.owner o.stands in
      let mine = (k.each id v s.at).each 0 s.before (ap (λ (l : List Standing). get_elem? l 0) s.one) in
      let differ : o.owner.errand.caller ≢ block.owner.errand.caller = λ same.
      other
      (ap (λ (q : ℕ × ℕ). q.0)
      (sym hers.at_place ∙ ap k.place (same ∙ ap (λ (z : Standing). z.errand.caller) (owner_is (lent_block place need old) block)) ∙ mine.at_place)) in
      out-on g k.events events_after s.whole whole_now y y b o o.stands (owned_now o.owner.errand.caller b.place b.need o.owned)
      (mark_still o.owner.errand.caller) (words_still y b o (λ t. differ t.0))

  lent_now : AreLent g events_after whole_now places views_now
  lent_now = record {
    long = s.lent.long ∙ sym long_now;
    home = λ j has free.
        let other : j ≢ p = λ same. free (
          id,
          u,
          length front,
          lent_block place need numbers_now,
          set_here views id u id_there,
          here_now,
          omega (arith, same, at_word),
          omega (arith, same, at_word, inside),
        ) in
        s.lent.home j has (λ lent. free (still_lent j lent)) ∙ sym (elsewhere j other);
    blocks = λ m n y b at_y at_b. ⊎_elim
        (λ (t : (m ≡ id) × (u ≡ y)).
        subst (λ (z : View). IsOut g events_after whole_now z b) t.1
        (own_out n b (subst (λ (l : List Lent). get_elem? l n ≡ some b) (ap (λ (z : View). z.lent) (sym t.1)) at_b)))
        (λ (t : (m ≢ id) × (get_elem? views m ≡ some y)). others_out m n y b t.0 t.1 at_b)
        (at_set views id m u y at_y);
  }

  -- the caller owns what is out with it
  mine_now : AreOwned u e.caller
  mine_now n b at = elim (middle-or front back (lent_block place need numbers_now) b n at) [
    | inl same ↦
        subst (λ (c : Lent). OwnsAfter events_after e.caller c.place c.need) (sym same)
        (owned_now e.caller place need (owned_was (lent_block place need old) block))
    | inr aside ↦ owned_now e.caller b.place b.need (owned_was b (other_out aside.0 b aside.1))
  ]

  -- the number that the step finds
  abbrev found : ℕ
  found = slice_index table (word_index g (name_of (plan_of begun)))

  found_is : found ≡ was
  found_is =
      at-words_at g s.words (word_index g (name_of (plan_of begun)))
      (below g s.words s.whole views id v s.before begun k s.at s.one may busy checked s.held.0 (on-ready g e place need i does v) s.laid_out)
      ∙ holds

  -- the step is made: the block's number for the word is x, and the caller is in no call again. It is seen where no blocks are out but some of those before and behind it
  pub word-made :
      (shown : List Lent) → AreAmong shown (front ++ back) → (z : View) × HasAway rule g places (slice_set views id z) id z e place need (slice_set old i x) front back
      × TakesStep (begun_by e call) was (with_lent v shown) (with_lent z shown)
  unfolding HeldWith
  word-made shown among =
      let after = standing_then g table views id v s.before begun k s.at s.one may busy in (
        u,
        record {
          words = words_now;
          held = (length-set s.words p new ∙ s.held.0, held_now.0);
          whole = whole_now;
          laid_out = laid_now;
          lent = subst (λ (events : List Event). AreLent g events whole_now places views_now) (sym held_now.1) lent_now;
          at = set_here views id u id_there;
          before = after;
          one = refl;
          stands = sym settled;
          mine = mine_now;
          away = refl;
        },
        subst (λ n. TakesStep begun n (with_lent v shown) (with_lent u shown)) found_is
            (steps_then g table views id v s.before begun k s.at s.one may busy shown
            (λ n b at. let m = among n b at in subst (λ c. OwnsAfter k.events c b.place b.need) (sym (begun-caller e call)) (owned_was b (other_out m.0 b m.1)))
            (λ n b at there. let m = among n b at in others m.0 b m.1 (on-concerned e place need i does b.place there))),
      )
