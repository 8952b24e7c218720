-- How a pass makes itself ready for a step that is the first to use pieces.
use Rattle.std.proofs.Common.{ℕ, zero, suc, ◌≡◌, ◌≢◌, ◌<◌, ◌≤◌, ◌+◌, Option, Some, None, List, [], ◌∷◌, length, inl, inr, eq-eqb, refl, arith, sym, ap, ◌∙◌, subst}
use Rattle.std.specs.Prelude.{◌==◌, replicate}
use Rattle.std.proofs.lemmas.List.{length-replicate}
use Rattle.std.proofs.lemmas.Bool.{cases_eq}
use prog.Atomic.{either}
use Rattle.heap_geometry.specs.declared.geometry.Geometry.{Geometry}
use Rattle.plain_words.specs.Places.{Place, blanks, laids, AllHere}
use Rattle.live_heap.specs.placement.Places.{placed_count}
use Rattle.sound_laws.specs.uses.Pieces.{piece_count, piece_start, piece_words}
use Rattle.atomic_region.specs.Region as region
use Rattle.atomic_region.specs.Region.{Me, Range, rest}
use Rattle.errand_steps.specs.declared.point.Pieces.{Pieces}
use Rattle.errand_steps.specs.Errands.{ErrandFields}
use Rattle.errand_steps.specs.Openers.{Opens}
use Rattle.word_table.specs.Occurs.{occurs}
use Rattle.word_table.specs.declared.action.Found.{Found as Find}
use Rattle.live_heap.specs.declared.view.View.{View}
use Rattle.live_heap.specs.Going.{HasFound}
use Rattle.live_heap.specs.Pieces.{Claimed, EachOf, HasLaid, IsSoleOpener, KnowsMore, PiecesHold, mark_count, mark_place, with_pieces, zeros_of}
use Rattle.live_heap.specs.Sights.{IsSightOf, TakesStep}
use Rattle.live_heap.specs.Shelves.{AllowedWords}
use Rattle.live_heap.proofs.Claiming.{claim, publish}
use Rattle.live_heap.proofs.Moves.{opens-since}
use Rattle.live_heap.proofs.Shows.{arena-placed, piece-end}

-- a pass that knows more pieces to be laid may make the same step
pub still-sight : (g : Geometry) (v w : Me View) (e : ErrandFields) → KnowsMore v w → IsSightOf g v.0 e → IsSightOf g w.0 e
still-sight g v w e knows s =
    subst (λ (u : Me View). IsSightOf g u.0 e) (sym knows) (record { before = s.before; one = s.one; begun = s.begun; laid = s.laid; apart = s.apart })

-- and its step is one of the pass as it was before
took-from : (e : ErrandFields) (n : ℕ) (v u : View) (ready : List ℕ) → v.lays ≡ None → TakesStep e n (with_pieces v None ready) u → TakesStep e n v u
took-from e n v u ready settled s = record {
  before = s.before;
  after = s.after;
  was = s.was;
  now = s.now;
  errand = s.errand;
  seen = s.seen;
  accesses = s.accesses;
  wins_seen = s.wins_seen;
  moment = s.moment;
  served = s.served;
  alone = s.alone;
  lays = s.lays ∙ sym settled;
  lent = s.lent;
  mine = s.mine;
}

pub found-from : (e : ErrandFields) (x : Find) (v w : Me View) (u : View) → KnowsMore v w → v.0.lays ≡ None → HasFound e x w.0 u → HasFound e x v.0 u
found-from e x v w u knows settled found =
    (found.0, took-from e found.0 v.0 u w.0.ready settled (subst (λ (m : Me View). TakesStep e found.0 m.0 u) knows found.1), found.2, found.3)

-- a pass that knows no more than before knows as much
pub knows-itself : (v : Me View) → v.0.lays ≡ None → v.1 ≡ [] → KnowsMore v v
knows-itself v settled empty = λ i. (record v.0 { lays = settled i }, empty i)

-- each piece that the errand opens, its caller opens alone
pub opens-alone :
    (g : Geometry) (v : View) (e : ErrandFields) (x : Pieces) → IsSightOf g v e → x.first + x.count ≤ g.frames + g.units → EachOf x (λ k. Opens g e.point k)
    → EachOf x (λ k. IsSoleOpener g v k)
opens-alone g v e x s within opens k from to = record {
  before = s.before;
  one = s.one;
  opens = opens-since g v.seen s.before.errand e k s.begun (opens k from to);
  below = omega (arith, within, to);
}

-- and does still where it knows more of them
pub still-alone : (g : Geometry) (v w : Me View) (k : ℕ) → KnowsMore v w → IsSoleOpener g v.0 k → IsSoleOpener g w.0 k
still-alone g v w k knows s =
    subst (λ (u : Me View). IsSoleOpener g u.0 k) (sym knows) (record { before = s.before; one = s.one; opens = s.opens; below = s.below })

-- one piece more
pub knows-next : (k : ℕ) (v w u : Me View) → KnowsMore v w → HasLaid k w.0 u → KnowsMore v u
knows-next k v w u knows laid =
    let next : u ≡ (with_pieces v.0 None (k ∷ w.0.ready), []) = laid ∙ ap (λ (m : Me View). let n : Me View = (with_pieces m.0 None (k ∷ w.0.ready), []) in n) knows in
    next ∙ ap (λ (l : List ℕ). let n : Me View = (with_pieces v.0 None l, []) in n) (sym (ap (λ (m : Me View). m.0.ready) next))

head-occurs : (k : ℕ) (l : List ℕ) → 0 < occurs k (k ∷ l)
head-occurs k l = rw (eq-eqb k k refl) (omega arith)

tail-occurs : (k j : ℕ) (l : List ℕ) → k ≢ j → 0 < occurs k l → 0 < occurs k (j ∷ l)
tail-occurs k j l differ has = grind (arith)

-- the pieces up to the one that was laid are known, where those before it were
pub has-next :
    (piece k : ℕ) (w u : Me View) → HasLaid piece w.0 u → (k < piece → 0 < occurs k w.0.ready) → k < piece + 1 → 0 < occurs k u.0.ready
has-next piece k w u laid before to =
    let known : 0 < occurs k (piece ∷ w.0.ready) =
    elim (cases_eq k piece) [
      | inl same ↦ subst (λ n. 0 < occurs n (piece ∷ w.0.ready)) (sym same) (head-occurs piece w.0.ready)
      | inr other ↦ tail-occurs k piece w.0.ready other (before (omega (arith, to, other)))
    ] in
    subst (λ (m : Me View). 0 < occurs k m.0.ready) (sym laid) known

-- a seat that has nothing out
nothing_out : (me : Me View) → me.1 ≡ [] → me ≡ (me.0, [])
nothing_out me empty = λ i. (me.0, empty i)

-- the mark lies in the region, and so do the piece's words
pub mark-within : (g : Geometry) (size k place : ℕ) → size ≡ placed_count g + mark_count g → place ≡ mark_place g k → k < piece_count g → place < size
mark-within g size k place long at below = omega (arith, long, at, below)

pub piece-within : (g : Geometry) (size k : ℕ) → size ≡ placed_count g + mark_count g → k < piece_count g → piece_start g k + piece_words g k ≤ size
piece-within g size k long below = omega (arith, long, piece-end g k below, arena-placed g)

-- the piece may be claimed at its mark
pub may-claim :
    {rule : AllowedWords} (key g h : Geometry) (size id k piece place : ℕ) (me : Me View) → key ≡ g → h ≡ g → piece ≡ k → me.1 ≡ [] → me.0.lays ≡ None → IsSoleOpener g me.0 k
    → place ≡ mark_place g k → region.Allows (PiecesHold rule key) size id me place (λ n. either (n == 0) 1 n) (λ n. Claimed h piece me.0 n)
may-claim {rule} key g h size id k piece place me same named number empty settled o at =
    let v = me.0 in
    let A : Me View → Type 0 = λ m. region.Allows (PiecesHold rule g) size id m (mark_place g k) (λ n. either (n == 0) 1 n) (λ n. Claimed g k v n) in
    let B : ℕ → Type 0 = λ p. region.Allows (PiecesHold rule g) size id me p (λ n. either (n == 0) 1 n) (λ n. Claimed g k v n) in
    let C : Geometry × ℕ → Type 0 = λ p. region.Allows (PiecesHold rule g) size id me place (λ n. either (n == 0) 1 n) (λ n. Claimed p.0 p.1 v n) in
    let K : Geometry → Type 0 = λ x. region.Allows (PiecesHold rule x) size id me place (λ n. either (n == 0) 1 n) (λ n. Claimed h piece v n) in
    subst K (sym same)
    (subst C (λ i. (sym named i, sym number i))
    (subst B (sym at) (subst A (sym (nothing_out me empty)) (claim g size id k v o.before o.one o.opens o.below settled))))

-- a pass that has the piece out, filled with 0
abbrev pub HoldsZeros : Geometry → ℕ → View → Me View → Type 0
HoldsZeros g k v me = me ≡ (with_pieces v (Some k) v.ready, (piece_start g k, zeros_of g k) ∷ [])

-- may publish it
pub may-publish :
    {rule : AllowedWords} (key g : Geometry) (size id k piece place : ℕ) (v : View) (me : Me View) → key ≡ g → piece ≡ k → HoldsZeros g k v me → IsSoleOpener g v k
    → place ≡ mark_place g k → region.Allows (PiecesHold rule key) size id me place (λ _. 2) (λ _. HasLaid piece me.0)
may-publish {rule} key g size id k piece place v me same number has o at =
    let u = with_pieces v (Some k) v.ready in
    let A : Me View → Type 0 = λ m. region.Allows (PiecesHold rule g) size id m (mark_place g k) (λ _. 2) (λ _. HasLaid k m.0) in
    let B : ℕ → Type 0 = λ p. region.Allows (PiecesHold rule g) size id me p (λ _. 2) (λ _. HasLaid k me.0) in
    let C : ℕ → Type 0 = λ p. region.Allows (PiecesHold rule g) size id me place (λ _. 2) (λ _. HasLaid p me.0) in
    let K : Geometry → Type 0 = λ x. region.Allows (PiecesHold rule x) size id me place (λ _. 2) (λ _. HasLaid piece me.0) in
    subst K (sym same)
    (subst C (sym number) (subst B (sym at) (subst A (sym has) (publish g size id k u o.before o.one o.opens o.below refl))))

-- a range that is the only one is the first
pub only-range : (me : Me View) (k : ℕ) (ps : List Place) → me.1 ≡ (k, ps) ∷ [] → (n : ℕ) × (qs : List Place) × (me.1 ≡ (n, qs) ∷ rest me.1)
only-range me k ps is = (k, ps, is ∙ sym (ap (λ (l : List Range). (k, ps) ∷ rest l) is))

abbrev first_range : List Range → Range
first_range [] = (0, [])
first_range (x ∷ xs) = x

pub range-is : (me : Me View) (k n : ℕ) (ps qs : List Place) → me.1 ≡ (k, ps) ∷ [] → me.1 ≡ (n, qs) ∷ rest me.1 → ◌≡◌ {A = Range} (n, qs) (k, ps)
range-is me k n ps qs is lifted = ap first_range (sym lifted ∙ is)

-- blank places are here
pub blank-here : (n : ℕ) → AllHere (blanks n)
blank-here zero i inside gone = omega (arith, inside)
blank-here (suc n) zero inside gone = let no : ◌≡◌ {A = Place} None (Some None) = sym gone in cc
blank-here (suc n) (suc i) inside gone = blank-here n i (omega (arith, inside)) gone

-- whoever found the mark 0 has the piece out, blank
abbrev pub HoldsBlanks : Geometry → ℕ → View → Me View → Type 0
HoldsBlanks g k v me = me ≡ (with_pieces v (Some k) v.ready, (piece_start g k, blanks (piece_words g k)) ∷ [])

pub took-out : (g h : Geometry) (k piece n : ℕ) (v : View) (me : Me View) → h ≡ g → piece ≡ k → n ≡ 0 → Claimed h piece v n me → HoldsBlanks g k v me
took-out g h k piece n v me named number none claimed =
    subst (λ (p : Geometry × ℕ). HoldsBlanks p.0 p.1 v me) (λ i. (named i, number i)) (claimed.0 none)

-- whoever found another one knows that the piece is laid
pub found-laid : (h : Geometry) (k piece n : ℕ) (v : View) (me : Me View) → piece ≡ k → n ≢ 0 → v.lays ≡ None → Claimed h piece v n me → HasLaid k v me
found-laid h k piece n v me number some settled claimed =
    subst (λ p. HasLaid p v me) number
    (claimed.1 some ∙ ap (λ (l : Option ℕ). let m : Me View = (with_pieces v l (piece ∷ v.ready), []) in m) settled)

-- the range that was lifted is filled and carried back
module _ (g : Geometry) (k : ℕ) (v : View) (me : Me View) (out : HoldsBlanks g k v me) (n : ℕ) (ps : List Place) (lifted : me.1 ≡ (n, ps) ∷ rest me.1) where
  range : ◌≡◌ {A = Range} (n, ps) (piece_start g k, blanks (piece_words g k))
  range = range-is me (piece_start g k) n (blanks (piece_words g k)) ps (ap (λ (m : Me View). m.1) out) lifted

  pub first-is : n ≡ piece_start g k
  first-is = ap (λ (r : Range). r.0) range

  pub words-are : ps ≡ blanks (piece_words g k)
  words-are = ap (λ (r : Range). r.1) range

  pub so-many : length ps ≡ piece_words g k
  so-many = ap length words-are ∙ length-replicate (piece_words g k) (Some None)

  pub all-here : AllHere ps
  all-here = subst AllHere (sym words-are) (blank-here (piece_words g k))

  pub filled : (m : ℕ) (qs : List Place) (a b : Me View) → a ≡ (me.0, rest me.1) → m ≡ n → qs ≡ laids (replicate (length ps) 0) → b ≡ (a.0, (m, qs) ∷ a.1) → HoldsZeros g k v b
  filled m qs a b lift first zeros carry =
      let range_now : ◌≡◌ {A = Range} (m, qs) (piece_start g k, zeros_of g k) = λ i. ((first ∙ first-is) i, (zeros ∙ ap (λ len. laids (replicate len 0)) so-many) i) in
      let a_is : a ≡ (with_pieces v (Some k) v.ready, []) = lift ∙ ap (λ (x : Me View). let y : Me View = (x.0, rest x.1) in y) out in
      carry ∙ (λ i. let x : Me View = a_is i in let y : Me View = (x.0, range_now i ∷ x.1) in y)

-- and published
pub laid-from : (g : Geometry) (k piece : ℕ) (v : View) (b u : Me View) → HoldsZeros g k v b → piece ≡ k → HasLaid piece b.0 u → HasLaid k v u
laid-from g k piece v b u zeros number laid =
    subst (λ p. HasLaid p b.0 u) number laid ∙ ap (λ (x : Me View). let y : Me View = (with_pieces x.0 None (k ∷ x.0.ready), []) in y) zeros
