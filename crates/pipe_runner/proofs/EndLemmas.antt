-- The whole calls of an end of a pipeline, with one more.
use Rattle.std.proofs.Common.{ℕ, suc, ◌≡◌, ◌≢◌, ◌+◌, ◌++◌, List, [], ◌∷◌, length, refl, sym, ap, ◌∙◌, subst, inl, inr, arith, eq-eqb, ne_eqb}
use Rattle.std.proofs.lemmas.Bool.{cases_eq}
use Rattle.std.proofs.lemmas.List.{map-append}
use Rattle.std.proofs.lemmas.List.Elements.{All-append, All-cons, All-nil}
use Rattle.heap_geometry.specs.Need.{usable_words}
use Rattle.errand_steps.specs.declared.reply.Reply.{Reply}
use Rattle.errand_steps.specs.declared.reply.Reply.TheVariants as reply
use Rattle.errand_steps.specs.Calls.{Call, alloc, put, take}
use Rattle.sound_laws.specs.events.Made.{LeadsBy, Made, answered}
use Rattle.lane_engine.specs.declared.calls.Allocated.{Allocated}
use Rattle.lane_engine.specs.declared.calls.Allocated.TheVariants as allocated
use Rattle.lane_engine.specs.Whole.{allocated_as}
use Rattle.live_heap.specs.declared.answers.Full.{Full}
use Rattle.live_heap.specs.declared.answers.Taken.TheVariants as taken
use Rattle.live_heap.specs.declared.block.Block.{Block}
use Rattle.live_heap.specs.Heaps.{HeapFields}
use Rattle.live_heap.specs.declared.pass.Pass.{Pass}
use Rattle.live_heap.specs.Answers.{PutTellsFull, TakeTells}
use Rattle.live_heap.specs.Passes.{IsFresh}
use Rattle.live_heap.specs.Whole.{IsWhole, MadeByPass, by_steps}
use Rattle.block_pipe.specs.declared.note.Note.{Note}
use Rattle.pipe_runner.specs.EndCalls.{FoundFull, GaveNone, Got, GotNone, HasTried, Receives, ReceivesAll, ReceivesEach, Sends, SendsAll, SendsEach, found_of, with_found, with_got}
use Rattle.pipe_runner.specs.Moves.{AreThree}

-- calls lead on by other calls
leads-on :
    (p q r : Pass) (made more : List Made) → LeadsBy MadeByPass p made q → LeadsBy MadeByPass q more r → LeadsBy MadeByPass p (made ++ more) r
leads-on p q r [] more led on = subst (λ (x : Pass). LeadsBy MadeByPass x more r) led on
leads-on p q r (m ∷ made) more led on = (led.0, led.1, leads-on led.0 q r made more led.2 on)

-- no call, one call, and more of them
pub tried-none : (F : Made → Type 0) (p : Pass) → HasTried F p p
tried-none F p = record { made = []; each = All-nil F; led = refl }

pub tried-one :
    (F : Made → Type 0) (p q : Pass) (call : Call) (answer : Reply) → F (answered call answer) → MadeByPass p call answer q → HasTried F p q
tried-one F p q call answer nothing once = record {
  made = answered call answer ∷ [];
  each = All-cons F (answered call answer) [] nothing (All-nil F);
  led = (q, once, refl);
}

pub tried-on : (F : Made → Type 0) (p q r : Pass) → HasTried F p q → HasTried F q r → HasTried F p r
tried-on F p q r a b = record {
  made = a.made ++ b.made;
  each = All-append F a.made b.made a.each b.each;
  led = leads-on p q r a.made b.made a.led b.led;
}

-- an allocation that was not given a block
pub none-given :
    (h : HeapFields) (p q : Pass) (told : Allocated Block) → ((block : Block) → told ≡ allocated.Given block → ⊥)
    → IsWhole h p (alloc 3) (allocated_as (λ (block : Block). block.place) (λ (block : Block). block.need) told) h q → HasTried (GaveNone 3) p q
none-given h p q (allocated.Given block) other whole = absurd (other block refl)
none-given h p q allocated.Refused other whole = tried-one (GaveNone 3) p q (alloc 3) reply.Refused (inl refl) whole.0
none-given h p q allocated.Spent other whole = tried-one (GaveNone 3) p q (alloc 3) reply.Spent (inr refl) whole.0

-- a put that found the shelf full
pub full-tried :
    (p q : Pass) (left block : Block) (at shelf : ℕ) (full : Full) → PutTellsFull p left at full q → left ≡ block → at ≡ shelf
    → HasTried (FoundFull block shelf) p q
full-tried p q left block at shelf full tells is here =
    let same : answered (put left.place left.need at) (reply.Full full.found) ≡ answered (put block.place block.need shelf) (reply.Full full.found) =
    ap (λ (b : Block). answered (put b.place b.need at) (reply.Full full.found)) is
    ∙ ap (λ (s : ℕ). answered (put block.place block.need s) (reply.Full full.found)) here in
    tried-one (FoundFull block shelf) p q (put left.place left.need at) (reply.Full full.found) (full.found, same) (by_steps (0, tells.called))

-- a take that got none
pub empty-tried : (p q : Pass) (shelf : ℕ) → TakeTells p shelf taken.Empty q → HasTried (GotNone shelf) p q
empty-tried p q shelf tells = tried-one (GotNone shelf) p q (take shelf) reply.Empty (inl refl) (by_steps (1, tells))

pub missed-tried :
    (p q : Pass) (shelf expected found : ℕ) → TakeTells p shelf (taken.Missed expected found) q → HasTried (GotNone shelf) p q
missed-tried p q shelf expected found tells =
    tried-one (GotNone shelf) p q (take shelf) (reply.Missed expected found) (inr (expected, found, refl)) (by_steps (1, tells.0))

-- one message more
sends-push :
    (start sender i : ℕ) (notes : List Note) (note : Note) (p q r : Pass) → SendsEach start sender i notes p q
    → Sends start sender (i + length notes) note q r → SendsEach start sender i (notes ++ note ∷ []) p r
sends-push start sender i [] note p q r each one =
    let here : i + 0 ≡ i = omega arith in
    (r, subst (λ (n : ℕ). Sends start sender n note p r) here (subst (λ (x : Pass). Sends start sender (i + 0) note x r) each one), refl)
sends-push start sender i (n ∷ notes) note p q r each one =
    let here : i + length (n ∷ notes) ≡ suc i + length notes = omega arith in
    (each.0, each.1, sends-push start sender (suc i) notes note each.0 q r each.2 (subst (λ (k : ℕ). Sends start sender k note q r) here one))

pub sends-more :
    (h : HeapFields) (start sender i : ℕ) (pushed now : List Note) (note : Note) (p q : Pass) → SendsAll h start sender pushed p
    → Sends start sender i note p q → i ≡ length pushed → now ≡ pushed ++ note ∷ [] → SendsAll h start sender now q
sends-more h start sender i pushed now note p q all one is grows = record {
  first = all.first;
  fresh = all.fresh;
  each = subst (λ (l : List Note). SendsEach start sender 0 l all.first q) (sym grows)
      (sends-push start sender 0 pushed note all.first p q all.each (subst (λ (n : ℕ). Sends start sender n note p q) (is ∙ omega arith) one));
}

pub sends-none : (h : HeapFields) (start sender : ℕ) (pushed : List Note) (p : Pass) → IsFresh h p → pushed ≡ [] → SendsAll h start sender pushed p
sends-none h start sender pushed p fresh none =
    record { first = p; fresh = fresh; each = subst (λ (l : List Note). SendsEach start sender 0 l p p) (sym none) refl }

-- one block more
receives-push :
    (gots : List Got) (got : Got) (p q r : Pass) → ReceivesEach gots p q → Receives got q r → ReceivesEach (gots ++ got ∷ []) p r
receives-push [] got p q r each one = (r, subst (λ (x : Pass). Receives got x r) each one, refl)
receives-push (g ∷ gots) got p q r each one = (each.0, each.1, receives-push gots got each.0 q r each.2 one)

found-push : (k fold : ℕ) (gots : List Got) (got : Got) → found_of k fold (gots ++ got ∷ []) ≡ with_got k (found_of k fold gots) got
found-push k fold [] got = refl
found-push k fold (g ∷ gots) got = found-push k (with_got k fold g) gots got

got-here : (k fold : ℕ) (got : Got) → got.note.sender ≡ k → with_got k fold got ≡ with_found fold got.words
got-here k fold got same = rw (eq-eqb got.note.sender k same) refl

got-else : (k fold : ℕ) (got : Got) → got.note.sender ≢ k → with_got k fold got ≡ fold
got-else k fold got other = rw (ne_eqb got.note.sender k other) refl

pub receives-more :
    (h : HeapFields) (senders : ℕ) (popped now : List Note) (folds folds_now : ℕ → ℕ) (p q : Pass) (got : Got) (s : ℕ)
    → ReceivesAll h senders popped folds p → Receives got p q → now ≡ popped ++ got.note ∷ [] → s ≡ got.note.sender
    → folds_now s ≡ with_found (folds s) got.words → ((k : ℕ) → k ≢ s → folds_now k ≡ folds k) → length got.words ≡ 3
    → ReceivesAll h senders now folds_now q
receives-more h senders popped now folds folds_now p q got s all one grows sender here others three = record {
  first = all.first;
  fresh = all.fresh;
  gots = all.gots ++ got ∷ [];
  notes = map-append (λ (g : Got). g.note) all.gots (got ∷ []) ∙ ap (λ (l : List Note). l ++ got.note ∷ []) all.notes ∙ sym grows;
  each = receives-push all.gots got all.first p q all.each one;
  three = All-append (λ (g : Got). length g.words ≡ 3) all.gots (got ∷ []) all.three
      (All-cons (λ (g : Got). length g.words ≡ 3) got [] three (All-nil (λ (g : Got). length g.words ≡ 3)));
  found = λ k below. elim (cases_eq k s) [
    | inl same ↦
        ap folds_now same ∙ here ∙ ap (λ (n : ℕ). with_found (folds n) got.words) (sym same)
        ∙ ap (λ (n : ℕ). with_found n got.words) (all.found k below)
        ∙ sym (got-here k (found_of k 0 all.gots) got (sym (same ∙ sender))) ∙ sym (found-push k 0 all.gots got)
    | inr other ↦
        others k other ∙ all.found k below ∙ sym (got-else k (found_of k 0 all.gots) got (λ is. other (sym is ∙ sym sender)))
        ∙ sym (found-push k 0 all.gots got)
  ];
}

-- a block with three words had three of them read
pub three-words : (block : Block) (words : List ℕ) → usable_words block.need ≡ 3 → AreThree block words → length words ≡ 3
three-words block words usable (inl three) = three
three-words block words usable (inr fewer) = absurd (omega (arith, usable, fewer.0))

-- nothing more
pub receives-same :
    (h : HeapFields) (senders : ℕ) (popped now : List Note) (folds : ℕ → ℕ) (p q : Pass) → ReceivesAll h senders popped folds p → q ≡ p → now ≡ popped
    → ReceivesAll h senders now folds q
receives-same h senders popped now folds p q all same none =
    subst (λ (l : List Note). ReceivesAll h senders l folds q) (sym none) (subst (ReceivesAll h senders popped folds) (sym same) all)

pub receives-none :
    (h : HeapFields) (senders : ℕ) (popped : List Note) (folds : ℕ → ℕ) (p : Pass) → IsFresh h p → popped ≡ [] → ((k : ℕ) → folds k ≡ 0)
    → ReceivesAll h senders popped folds p
receives-none h senders popped folds p fresh none no_fold =
    record {
      first = p;
      fresh = fresh;
      gots = [];
      notes = sym none;
      each = refl;
      three = All-nil (λ (g : Got). length g.words ≡ 3);
      found = λ k below. no_fold k;
    }
