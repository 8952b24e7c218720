-- What the calls of each pass tell of the words that it read, and what both tell together in the closed heap.
use Rattle.std.proofs.Common.{ℕ, Bool, count_by, append_assoc, ◌≡◌, ◌≢◌, ◌<◌, ◌≤◌, ◌+◌, List, [], ◌∷◌, ◌++◌, Option, Some, None, length, replicate, slice_index_or, slice_set, option_map, refl, sym, ◌∙◌, ap, subst, arith}
use Rattle.std.proofs.lemmas.Grind.{get_or-set_at}
use Rattle.std.proofs.lemmas.List.{length-replicate, nil_from_length}
use Rattle.heap_geometry.specs.declared.need.Need.{Need}
use Rattle.heap_geometry.specs.Need.{need_of, usable_words}
use Rattle.pool_model.specs.declared.event.Event.{Event}
use Rattle.pool_model.specs.declared.event.Event.TheVariants.{Put, Take}
use Rattle.pool_model.specs.declared.owner.Owner.TheVariants.{Caller, Shelf}
use Rattle.heap_geometry.specs.declared.geometry.Geometry.{Geometry}
use Rattle.pool_model.specs.Counts.{is_alloc, is_free}
use Rattle.pool_model.specs.Histories.{Begins, caller_of, own}
use Rattle.pool_model.specs.Legal.{IsLegalWithoutCounts}
use Rattle.pool_model.specs.Parcels.{is_put_on, is_take_off, lying_on, parcel_of, parcels_in, puts_on, takes_off}
use Rattle.pool_model.specs.Pool.{Block, block_at, fresh_block, handed_to, pool_of, with_changed, written}
use Rattle.pool_model.proofs.HistoryLemmas.{pool_of-push}
use Rattle.pool_model.proofs.OwnedLemmas.{owned-found}
use Rattle.errand_steps.specs.declared.reply.Reply.{Reply}
use Rattle.errand_steps.specs.declared.reply.Reply.TheVariants as reply
use Rattle.errand_steps.specs.Calls.{Call, alloc, free, put, read, take, write}
use Rattle.sound_laws.specs.events.Made.{LeadsBy}
use Rattle.live_heap.specs.Heaps.{HeapFields}
use Rattle.live_heap.specs.declared.pass.Pass.{Pass}
use Rattle.live_heap.specs.Calls.{HasCalled}
use Rattle.live_heap.specs.Contents.{HasChanged, owned_in}
use Rattle.live_heap.specs.Endings.{ClosedFields, HasClosed, HasTakenIn}
use Rattle.live_heap.specs.Passes.{AreFrom, seen}
use Rattle.live_heap.specs.Whole.{IsWhole}
use Rattle.worked_programs.specs.declared.embedded.TheConstants.{SHELF}
use Rattle.worked_programs.specs.Embedded.{Fetches, Keeps, Makes, first_calls, second_calls}
use Rattle.worked_programs.proofs.EmbeddedCounts.{IsBlind, called-of, callers-count, counts-first, counts-second, first_count, second_count}
use Rattle.worked_programs.proofs.EmbeddedHands.{same-contents, same-parcel, stands-in}

-- the laws of calls on which these lemmas stand
abbrev pub Changes : Type 0
Changes = (h k : HeapFields) (p q : Pass) (call : Call) (answer : Reply) → IsWhole h p call answer k q → HasChanged p call answer q

abbrev pub SeesMore : Type 0
SeesMore = (p q : Pass) (call : Call) (steps : ℕ) (answer : Reply) → HasCalled p call steps answer q → Begins (seen p) (seen q)

abbrev pub HasEnough : Type 0
HasEnough =
    (p q : Pass) (words steps place : ℕ) (need : Need) → HasCalled p (alloc words) steps (reply.Given place need) q → words ≤ usable_words need

-- the laws of pools on which these lemmas stand
abbrev pub CountsBlocks : Type 0
CountsBlocks =
    (g : Geometry) (history : List Event) → IsLegalWithoutCounts g history
    → length (pool_of history) + count_by is_free history ≡ count_by is_alloc history

abbrev pub KeepsOrder : Type 0
KeepsOrder =
    (g : Geometry) (history : List Event) (shelf : ℕ) → IsLegalWithoutCounts g history
    → puts_on shelf history ≡ takes_off shelf history ++ lying_on shelf (pool_of history)

-- the first pass has read 7, and its last event is the put of a block that has 7 there
pub record FirstTells (place kept : ℕ) (p : Pass) : Type 0 where
  pub kept_is : kept ≡ 7
  pub giver : ℕ
  pub before : List Event
  pub last : seen p ≡ before ++ Put giver place SHELF ∷ []
  pub block : Block
  pub seven : slice_index_or block.contents 1 None ≡ Some 7
  pub lies : block_at place (pool_of (seen p)) ≡ Some (handed_to (Shelf SHELF) block)

-- a word that was written is there
written-there : (n v : ℕ) → 1 < n → slice_index_or (slice_set (replicate n None) 1 (Some v)) 1 None ≡ Some v
written-there n v within = get_or-set_at (replicate n None) 1 1 (Some v) None refl (subst (λ (k : ℕ). 1 < k) (sym (length-replicate n None)) within)

-- a block that a pass is given lies elsewhere than one that it owns
apart : (o : Option Block) (block : Block) → o ≡ None → o ≡ Some block → ⊥
apart o block none is = let e : None ≡ Some block = sym none ∙ is in cc

pub first-tells :
    (h : HeapFields) (first p : Pass) (place : ℕ) (need : Need) (other : ℕ) (wide : Need) (kept : ℕ) → Changes → HasEnough
    → LeadsBy (Makes h) first (first_calls place need other wide kept) p → FirstTells place kept p
first-tells h first p place need other wide kept changes enough made =
    let (p1, m1, r1) = made in
    let (p2, m2, r2) = r1 in
    let (p3, m3, r3) = r2 in
    let (p4, m4, r4) = r3 in
    let (p5, m5, r5) = r4 in
    let (p6, m6, r6) = r5 in
    let (p7, m7, last) = r6 in
    let k = first.errand.caller in
    let block : Block = written 1 7 (fresh_block k 3 place) in
    let called = called-of first p1 (alloc 3) (reply.Given place need) m1.0.0 (λ (e : reply.Given place need ≡ reply.Spent). cc) in
    let words : 3 ≤ usable_words need = enough first p1 3 called.0 place need called.1 in
    let within : 1 < usable_words (need_of 3) = subst (λ (n : Need). 1 < usable_words n) called.1.ended.serves (omega (arith, words)) in
    let seven = written-there (usable_words (need_of 3)) 7 within in
    let given = changes h h first p1 (alloc 3) (reply.Given place need) m1.0 in
    let wrote = changes h h p1 p2 (write place need 1 7) reply.Wrote m2.0 in
    let at2 : owned_in p2 place ≡ Some block = wrote.here ∙ ap (option_map (written 1 7)) given.given.here in
    let more = changes h h p2 p3 (alloc 5) (reply.Given other wide) m3.0 in
    let elsewhere : place ≢ other = λ e. apart (owned_in p2 other) block more.nothing (subst (λ (x : ℕ). owned_in p2 x ≡ Some block) e at2) in
    let at3 : owned_in p3 place ≡ Some block = more.given.others place elsewhere ∙ at2 in
    let at4 : owned_in p4 place ≡ Some block = (changes h h p3 p4 (write other wide 1 8) reply.Wrote m4.0).others place elsewhere ∙ at3 in
    let at5 : owned_in p5 place ≡ Some block = (changes h h p4 p5 (free other wide) reply.Freed m5.0).others place elsewhere ∙ at4 in
    let at6 : owned_in p6 place ≡ Some block = changes h h p5 p6 (read place need 1) (reply.Word kept) m6.0 place ∙ at5 in
    let found = owned-found p6.errand.caller (block_at place (pool_of (seen p6))) block at6 in
    let gave = changes h h p6 p7 (put place need SHELF) reply.Put m7.0 in
    let same : Some gave.block ≡ Some block = sym gave.was ∙ at6 in
    let is : gave.block ≡ block = cc in
    record {
      kept_is = m6.1 block 7 found.0 seven;
      giver = p6.errand.caller;
      before = gave.last.0;
      last = ap seen last ∙ gave.last.1;
      block = gave.block;
      seven = ap (λ (b : Block). slice_index_or b.contents 1 None) is ∙ seven;
      lies = ap (λ (q : Pass). block_at place (pool_of (seen q))) last ∙ gave.lies;
    }

-- the second pass took a block from the shelf, and has read what lay there then
pub record SecondTells (there handed : ℕ) (q : Pass) : Type 0 where
  pub taker : ℕ
  pub before : List Event
  pub begins : Begins (before ++ Take taker SHELF there ∷ []) (seen q)
  pub block : Block
  pub lay : block_at there (pool_of before) ≡ Some block
  pub tells : (word : ℕ) → slice_index_or block.contents 1 None ≡ Some word → handed ≡ word

begins-on : (xs ys zs : List Event) → Begins xs ys → Begins ys zs → Begins xs zs
begins-on xs ys zs a b = (a.0 ++ b.0, b.1 ∙ ap (λ (l : List Event). l ++ b.0) a.1 ∙ append_assoc xs a.0 b.0)

pub second-tells :
    (h : HeapFields) (second q : Pass) (there : ℕ) (need : Need) (handed : ℕ) → Changes → SeesMore
    → LeadsBy (Makes h) second (second_calls there need handed) q → SecondTells there handed q
second-tells h second q there need handed changes more made =
    let (q1, m1, r1) = made in
    let (q2, m2, r2) = r1 in
    let (q3, m3, last) = r2 in
    let got = changes h h second q1 (take SHELF) (reply.Got there need) m1.0 in
    let block : Block = handed_to (Caller second.errand.caller) got.block in
    let at2 : owned_in q2 there ≡ Some block = changes h h q1 q2 (read there need 1) (reply.Word handed) m2.0 there ∙ got.got.here in
    let found = owned-found q2.errand.caller (block_at there (pool_of (seen q2))) block at2 in
    let c2 = called-of q1 q2 (read there need 1) (reply.Word handed) m2.0.0 (λ (e : reply.Word handed ≡ reply.Spent). cc) in
    let c3 = called-of q2 q3 (free there need) reply.Freed m3.0.0 (λ (e : reply.Freed ≡ reply.Spent). cc) in
    let to2 = more q1 q2 (read there need 1) c2.0 (reply.Word handed) c2.1 in
    let to3 = more q2 q3 (free there need) c3.0 reply.Freed c3.1 in
    let whole = begins-on (seen q1) (seen q2) (seen q3) to2 to3 in
    record {
      taker = second.errand.caller;
      before = got.before;
      begins = subst (λ (xs : List Event). Begins xs (seen q)) got.last (subst (λ (p : Pass). Begins (seen q1) (seen p)) (sym last) whole);
      block = got.block;
      lay = got.lay;
      tells = λ word is. m2.1 block word found.0 is;
    }

-- both passes have read 7 in the closed heap, where the block that was taken is the one that was put; and no block is live
pub closed-tells :
    (h : HeapFields) (first second p q : Pass) (kept handed : ℕ) (c : ClosedFields) → Changes → SeesMore → HasEnough → CountsBlocks → KeepsOrder
    → AreFrom h 0 (first ∷ second ∷ []) → Keeps h first kept p → Fetches h second handed q → HasClosed h (p ∷ q ∷ []) c
    → IsLegalWithoutCounts c.geometry c.events → c.geometry.callers ≡ 2
    → (kept ≡ 7) × (handed ≡ 7) × (pool_of c.events ≡ [])
closed-tells h first second p q kept handed c changes more enough counted order fresh w v closed legal callers =
    let (fresh1, zero_is, others) = fresh in
    let (fresh2, one_is, none) = others in
    let events = c.events in
    let mine : HasTakenIn c p = closed.each 0 p (omega arith) in
    let other : HasTakenIn c q = closed.each 1 q (omega arith) in
    let two : (before rest : List Event) (event : Event) → events ≡ before ++ event ∷ rest → caller_of event < 2 =
    λ before rest event e. subst (λ (n : ℕ). caller_of event < n) callers (legal before rest event e).0 in
    let whole : (P : Event → Bool) → IsBlind P → count_by P events ≡ first_count P 0 w.place w.other + second_count P 1 v.place =
    λ P blind.
    let a =
    counts-first P h first p 0 w.place w.need w.other w.wide kept blind w.made
    (zero_is, ap (λ (l : List Event). count_by P (own 0 l)) fresh1.nothing_seen) in
    let b =
    counts-second P h second q 1 v.place v.need handed v.made
    (one_is, ap (λ (l : List Event). count_by P (own 1 l)) fresh2.nothing_seen) in
    let own0 : own 0 events ≡ own 0 (seen p) = subst (λ (k : ℕ). own k events ≡ own k (seen p)) a.0 mine.events in
    let own1 : own 1 events ≡ own 1 (seen q) = subst (λ (k : ℕ). own k events ≡ own k (seen q)) b.0 other.events in
    omega (arith, callers-count P events two, ap (count_by P) own0, ap (count_by P) own1, a.1, b.1) in
    let allocs : count_by is_alloc events ≡ 2 = whole is_alloc (λ caller class. refl) in
    let frees : count_by is_free events ≡ 2 = whole is_free (λ caller class. refl) in
    let puts : count_by (is_put_on SHELF) events ≡ 1 = whole (is_put_on SHELF) (λ caller class. refl) in
    let takes : count_by (is_take_off SHELF) events ≡ 1 = whole (is_take_off SHELF) (λ caller class. refl) in
    let nothing : pool_of events ≡ [] = nil_from_length (pool_of events) (omega (arith, counted c.geometry events legal, allocs, frees)) in
    let f = first-tells h first p w.place w.need w.other w.wide kept changes enough w.made in
    let s = second-tells h second q v.place v.need handed changes more v.made in
    let put = stands-in f.before (seen p) events (Put f.giver w.place SHELF) f.last mine.seen_before in
    let later = begins-on (s.before ++ Take s.taker SHELF v.place ∷ []) (seen q) events s.begins other.seen_before in
    let took = stands-in s.before (s.before ++ Take s.taker SHELF v.place ∷ []) events (Take s.taker SHELF v.place) refl later in
    let same =
    same-parcel SHELF events f.before mine.seen_before.0 s.before later.0 f.giver s.taker w.place v.place (order c.geometry events SHELF legal)
    nothing put took puts takes in
    let parcel : parcels_in (block_at w.place (pool_of f.before)) ≡ parcel_of s.block ∷ [] = same ∙ ap parcels_in s.lay in
    let pool : pool_of (seen p) ≡ with_changed w.place (handed_to (Shelf SHELF)) (pool_of f.before) =
    ap pool_of f.last ∙ pool_of-push f.before (Put f.giver w.place SHELF) in
    let lies = sym (ap (block_at w.place) pool) ∙ f.lies in
    let contents = same-contents SHELF w.place (pool_of f.before) (block_at w.place (pool_of f.before)) f.block s.block refl parcel lies in
    (f.kept_is, s.tells 7 (ap (λ (l : List (Option ℕ)). slice_index_or l 1 None) contents ∙ f.seven), nothing)
