-- The words of a block are lifted by a pass that doesn't count them as out, and laid again: what the pass is then, and which calls were made.
use Rattle.std.proofs.Common.{ℕ, zero, suc, ◌≡◌, ◌<◌, ◌≤◌, ◌+◌, ◌-◌, List, [], ◌∷◌, length, take, drop, slice_index, refl, sym, ap, ◌∙◌, subst, inl, inr, arith}
use Rattle.std.specs.Prelude.{slice_set}
use Rattle.std.specs.List.{drop-map}
use Rattle.std.proofs.lemmas.List.{length-map, map-set, take-map, take_all}
use mathlib.Core.Option.{some}
use lib.ListN.{get_elem?}
use Rattle.heap_geometry.specs.declared.need.Need.{Need}
use Rattle.heap_geometry.specs.Need.{usable_words}
use Rattle.plain_words.specs.Places.{IsLaidRun, Place, laid, laids, number, numbers, place_at, run}
use Rattle.plain_words.specs.declared.plain.PlainWords.{PlainWords}
use Rattle.atomic_region.specs.Region.{Me}
use Rattle.atomic_region.specs.declared.shared.Seat.{Seat}
use Rattle.errand_steps.specs.declared.reply.Reply.{Reply}
use Rattle.errand_steps.specs.declared.reply.Reply.TheVariants as reply
use Rattle.errand_steps.specs.Begins.{IsIdle}
use Rattle.errand_steps.specs.Calls.{Call, read, write}
use Rattle.sound_laws.specs.events.Made.{LeadsBy, Made, found_from}
use Rattle.live_heap.specs.Heaps.{HeapFields}
use Rattle.live_heap.specs.declared.pass.Pass.{Pass}
use Rattle.live_heap.specs.declared.view.Lent.{Lent}
use Rattle.live_heap.specs.declared.view.View.{View}
use Rattle.live_heap.specs.Lending.{ComesBy, HasReturned, LeadTo, LeadsTo, MayReturn, lent_block, with_lent}
use Rattle.live_heap.specs.Memory.{AreWordsOf, IsLifted, LeadsLifted, all_but, before_taking, lifted_from}
use Rattle.live_heap.specs.Passes.{IsOf, OwnsAt, view}
use Rattle.live_heap.specs.Words.{CallsOnWord}
use Rattle.live_heap.proofs.Begun.{of-laid}
use Rattle.live_heap.proofs.Bringing.{calls-came}
use Rattle.live_heap.proofs.OutBlocks.{all-but-first}
use Rattle.live_heap.proofs.Taking.{laid-numbers, long-numbers, may-return, numbers-laids, of-taken, taken_by, was-before}
use Rattle.live_heap.proofs.WordCalls.{AreOnOwn, AreOnWords, IsOnOwn, own-within}

-- the pass of a seat that has this view
pub lifted-is :
    (p : Pass) (place : ℕ) (need : Need) (numbers : List ℕ) (seat : Seat View) → seat.region ≡ p.seat.region → seat.id ≡ p.seat.id
    → seat.me ≡ (with_lent (view p) (lent_block place need numbers ∷ (view p).lent), [])
    → lifted_from p place need numbers ≡ record { seat = seat; errand = p.errand; out = p.out }
lifted-is p place need numbers seat region id me =
    λ i. record { seat = record seat { region = sym region i; id = sym id i; me = sym me i }; errand = p.errand; out = p.out }

-- the pass from which words were lifted
abbrev pub lifts :
    (h : HeapFields) (p q : Pass) (place : ℕ) (need : Need) (words : PlainWords) → IsOf h p → IsIdle p.errand → OwnsAt p place need → AreWordsOf h place need words
    → q ≡ lifted_from p place need (numbers words.places) → IsLifted h p place need q
lifts h p q place need words of idle owned w is = record {
  of = of;
  idle = idle;
  owned = owned;
  old = numbers words.places;
  long = long-numbers w.laid.0 words.places w.laid.1 ∙ w.long;
  is = is;
}

-- calls that lead from some numbers in the block to others are on the pass's own words
own-one :
    (p : Pass) (place : ℕ) (need : Need) (others : List Lent) (old : List ℕ) (call : Call) (answer : Reply) (new : List ℕ) → OwnsAt p place need
    → LeadsTo place need [] others others old call answer new → IsOnOwn p call
own-one p place need others old (write at n i x) reply.Wrote new owned (here, serves, inside, small, is) =
    (subst (λ m. OwnsAt p at m) (sym serves) (subst (λ k. OwnsAt p k need) (sym here) owned), subst (λ m. i < usable_words m) (sym serves) inside, small)
own-one p place need others old (read at n i) (reply.Word word) new owned (inl (here, serves, inside, is), same) =
    (subst (λ m. OwnsAt p at m) (sym serves) (subst (λ k. OwnsAt p k need) (sym here) owned), subst (λ m. i < usable_words m) (sym serves) inside)
own-one p place need others old (read at n i) (reply.Word word) new owned (inr (b, (first, rest, second, once), apart, hidden, at_b, serves, inside, is), same) =
    absurd (hidden 0 b (ap (λ (l : List Lent). get_elem? l 0) second) refl)
own-one p place need others old call answer new owned bad = absurd bad

own-all :
    (p : Pass) (place : ℕ) (need : Need) (others : List Lent) (old : List ℕ) (made : List Made) (new : List ℕ) → OwnsAt p place need
    → LeadTo place need [] others others old made new → AreOnOwn p made
own-all p place need others old [] new owned leads = tt
own-all p place need others old (m ∷ made) new owned (next, one, leads) =
    (own-one p place need others old m.call m.answer next owned one, own-all p place need others next made new owned leads)

-- words that have been lifted, and calls that lead to what is in them
module _ (h : HeapFields) (place : ℕ) (need : Need) (made : List Made) (words : PlainWords) (q : Pass) (w : AreWordsOf h place need words)
    (x : LeadsLifted h place need made words q) where
  abbrev p : Pass
  p = x.before

  abbrev l : IsLifted h p place need q
  l = x.lifted

  abbrev block : Lent
  block = lent_block place need (numbers words.places)

  pub lifted-region : q.seat.region ≡ h.region
  lifted-region = ap (λ (r : Pass). r.seat.region) l.is ∙ l.of.table

  pub lifted-caller : q.errand.caller < q.errand.geometry.callers → q.errand.caller < h.layout.callers
  lifted-caller has = subst (λ g. q.errand.caller < g.callers) (ap (λ (r : Pass). r.errand.geometry) l.is ∙ of-laid h p l.of) has

  pub lifted-within : words.first + length words.places ≤ h.region.words
  lifted-within = let own = own-within h p place need l.of l.owned.0 in omega (arith, own.1, w.first, w.long)

  -- the seat that carries them may give them back
  pub lifted-may :
      (me : Me View) → me ≡ (q.seat.me.0, (words.first, words.places) ∷ q.seat.me.1) → MayReturn me q.errand block made (all_but place (view q).lent)
  lifted-may =
      let T : Pass → Type 0 = λ r.
      (me : Me View) → me ≡ (r.seat.me.0, (words.first, words.places) ∷ r.seat.me.1) → MayReturn me r.errand block made (all_but place (view r).lent) in
      subst T (sym l.is) at_lifted
    where
      t : Pass
      t = taken_by p place need l.old

      left : all_but place (lent_block place need l.old ∷ (view p).lent) ≡ (view p).lent
      left = all-but-first place (lent_block place need l.old) (view p).lent refl

      comes : ComesBy (view t).lent block made (all_but place (view t).lent)
      comes = record {
        front = [];
        back = (view p).lent;
        old = l.old;
        is = refl;
        among = λ n b at. (n, subst (λ (m : List Lent). get_elem? m n ≡ some b) left at);
        leads = λ _. subst (λ (m : List Lent). LeadTo place need [] (view p).lent m l.old made (numbers words.places)) (sym left) x.leads;
      }

      at_lifted :
          (me : Me View) → me ≡ (view t, (words.first, words.places) ∷ []) → MayReturn me p.errand block made (all_but place (view t).lent)
      at_lifted me is =
          let are = laid-numbers w.laid.0 words.places w.laid.1 in
          may-return h t block made (all_but place (view t).lent) me (of-taken h p place need l.old l.of l.idle l.owned) l.idle comes
          (long-numbers w.laid.0 words.places w.laid.1 ∙ w.long) (is ∙ (λ i. (view t, (w.first i, are i) ∷ [])))

  -- once it has, the calls have led from the pass that lifted them
  pub lifted-leads :
      (before : Pass) → IsLifted h before place need q → (seat : Seat View) → HasReturned q.errand block made (all_but place (view q).lent) (view q) seat.me
      → seat.region ≡ q.seat.region → seat.id ≡ q.seat.id → LeadsBy (CallsOnWord h) before made (record { seat = seat; errand = q.errand; out = q.out })
  lifted-leads before b seat back region id =
      let T : Pass → Type 0 = λ r.
      HasReturned r.errand block made (all_but place (view r).lent) (view r) seat.me → seat.region ≡ r.seat.region → seat.id ≡ r.seat.id
      → LeadsBy (CallsOnWord h) before made (record { seat = seat; errand = r.errand; out = r.out }) in
      subst T (sym b.is) at_lifted back region id
    where
      t : Pass
      t = taken_by before place need b.old

      own : AreOnOwn before made
      own = own-all before place need (view p).lent l.old made (numbers words.places) b.owned x.leads

      was : before_taking t place ≡ before
      was = was-before h before place need b.old b.of b.idle b.owned

      few : before.out + 1 - 1 ≡ before.out
      few = omega arith

      at_lifted :
          HasReturned before.errand block made (all_but place (view t).lent) (view t) seat.me → seat.region ≡ before.seat.region → seat.id ≡ before.seat.id
          → LeadsBy (CallsOnWord h) before made (record { seat = seat; errand = before.errand; out = before.out })
      at_lifted returned same_region same_id =
          let came =
          calls-came h t (of-taken h before place need b.old b.of b.idle b.owned) block made seat b.idle returned same_region same_id
          (subst (λ (r : Pass). AreOnOwn r made) (sym was) own) in
          subst (λ (r : Pass). LeadsBy (CallsOnWord h) r made (record { seat = seat; errand = before.errand; out = before.out })) was
          (subst (λ n. LeadsBy (CallsOnWord h) (before_taking t place) made (record { seat = seat; errand = before.errand; out = n })) few came)

-- reads of words, from one on, leave the numbers
pub reads-from :
    (place : ℕ) (need : Need) (front back shown : List Lent) (ns : List ℕ) (i : ℕ) (words : List ℕ) → i + length words ≤ usable_words need
    → ((k : ℕ) → k < length words → slice_index ns (i + k) ≡ slice_index words k) → LeadTo place need front back shown ns (found_from place need i words) ns
reads-from place need front back shown ns i [] within are = refl
reads-from place need front back shown ns i (word ∷ words) within are =
    let first : i + 0 ≡ i = omega arith in (
      ns,
      (inl (refl, refl, omega (arith, within), subst (λ k. slice_index ns k ≡ word) first (are 0 (omega arith))), refl),
      reads-from place need front back shown ns (suc i) words (omega (arith, within))
          (λ k below. let next : i + suc k ≡ suc i + k = omega arith in subst (λ m. slice_index ns m ≡ slice_index words k) next (are (suc k) (omega (arith, below)))),
    )

-- one call leads from a pass to another
pub one-made :
    (h : HeapFields) (p q : Pass) (made : Made) → LeadsBy (CallsOnWord h) p (made ∷ []) q → CallsOnWord h p made.call made.answer q
one-made h p q made (next, one, same) = subst (CallsOnWord h p made.call made.answer) (sym same) one

-- a word of words that are laid with these numbers
pub at-laids : (ns : List ℕ) (i : ℕ) → i < length ns → place_at (laids ns) i ≡ laid (slice_index ns i)
at-laids [] i below = absurd (omega (arith, below))
at-laids (n ∷ ns) zero below = refl
at-laids (n ∷ ns) (suc i) below = at-laids ns i (omega (arith, below))

pub word-laid : (h : HeapFields) (place : ℕ) (need : Need) (words : PlainWords) (i : ℕ) → AreWordsOf h place need words → i < usable_words need
    → place_at words.places i ≡ laid (slice_index (numbers words.places) i)
word-laid h place need words i w inside =
    let are = laid-numbers w.laid.0 words.places w.laid.1 in
    ap (λ (ps : List Place). place_at ps i) are ∙ at-laids (numbers words.places) i (omega (arith, inside, long-numbers w.laid.0 words.places w.laid.1, w.long))

-- a slice of words from one on
pub part-laid :
    (h : HeapFields) (place : ℕ) (need : Need) (words : PlainWords) (first from len : ℕ) → AreWordsOf h place need words → from ≡ place + 1 + first
    → first + len ≤ usable_words need → IsLaidRun words.places (from - words.first) len
part-laid h place need words first from len w at few =
    let start : from - words.first ≡ first = omega (arith, at, w.first) in
    let ns : List ℕ = numbers words.places in
    let are = laid-numbers w.laid.0 words.places w.laid.1 in
    let all : run words.places first len ≡ laids (take len (drop first ns)) =
    ap (λ (ps : List Place). run ps first len) are ∙ ap (take len) (drop-map laid first ns) ∙ take-map laid len (drop first ns) in
    (omega (arith, start, few, w.long), (take len (drop first ns), ap (λ k. run words.places k len) start ∙ all))

pub part-is :
    (h : HeapFields) (place : ℕ) (need : Need) (words : PlainWords) (first from len : ℕ) (ns : List ℕ) → AreWordsOf h place need words → from ≡ place + 1 + first
    → run words.places (from - words.first) len ≡ laids ns → take len (drop first (numbers words.places)) ≡ ns
part-is h place need words first from len ns w at is =
    let start : from - words.first ≡ first = omega (arith, at, w.first) in
    ap (take len) (drop-map number first words.places) ∙ take-map number len (drop first words.places)
    ∙ ap numbers (ap (λ k. run words.places k len) (sym start) ∙ is) ∙ numbers-laids ns

-- a slice of all of them
pub slice-laid :
    (h : HeapFields) (place : ℕ) (need : Need) (words : PlainWords) (from len : ℕ) → AreWordsOf h place need words → from ≡ place + 1 → len ≡ usable_words need
    → IsLaidRun words.places (from - words.first) len
slice-laid h place need words from len w at many = part-laid h place need words 0 from len w (omega (arith, at)) (omega (arith, many))

pub slice-is :
    (h : HeapFields) (place : ℕ) (need : Need) (words : PlainWords) (from len : ℕ) (ns : List ℕ) → AreWordsOf h place need words → from ≡ place + 1
    → len ≡ usable_words need → run words.places (from - words.first) len ≡ laids ns → numbers words.places ≡ ns
slice-is h place need words from len ns w at many is =
    sym (take_all len (numbers words.places) (omega (arith, many, long-numbers w.laid.0 words.places w.laid.1, w.long)))
    ∙ part-is h place need words 0 from len ns w (omega (arith, at)) is

-- a slice has as many numbers as there are words that are laid with it
pub slice-long : (words : PlainWords) (ns : List ℕ) → words.places ≡ laids ns → length ns ≡ length words.places
slice-long words ns are = sym (ap length are ∙ length-map ns laid)

-- the numbers where one word is laid with another one
pub numbers-set : (ps : List Place) (i n : ℕ) → numbers (slice_set ps i (laid n)) ≡ slice_set (numbers ps) i n
numbers-set ps i n = map-set number ps i (laid n)

pub laids-set : (ns : List ℕ) (i n : ℕ) → slice_set (laids ns) i (laid n) ≡ laids (slice_set ns i n)
laids-set ns i n = sym (map-set laid ns i n)

-- reads are calls on words
pub on-founds : (place : ℕ) (need : Need) (i : ℕ) (words : List ℕ) → AreOnWords (found_from place need i words)
on-founds place need i [] = tt
on-founds place need i (word ∷ words) = (tt, on-founds place need (suc i) words)

pub founds-long : (place : ℕ) (need : Need) (i : ℕ) (words : List ℕ) → length (found_from place need i words) ≡ length words
founds-long place need i [] = refl
founds-long place need i (word ∷ words) = ap suc (founds-long place need (suc i) words)
