-- A step at a large block, a usable word or a shelf: no superblock, list or descriptor changes, and what is said of them stays.
use Rattle.std.proofs.Common.{List, ℕ, Some, ◌≡◌, ◌≢◌, ◌<◌, ◌+◌, [], refl, arith, ap, sym, subst, ◌∙◌, All, IsTrue, IsSome, count_by}
use Rattle.std.proofs.lemmas.List.Elements.{All-nil}
use Rattle.sound_state.proofs.Common.{Geometry, Need, block_count_of, block_place, AnchorFields, anchor_of, info_of, link_of, WordName, descriptor_count, word_count, Event}
use Rattle.sound_state.proofs.Common.{is_there, SeatFields, info_in, word_name, occurs, prefix_name, Pile, Frames, Partials, head_name, next_name, own, block_at, pool_of}
use Rattle.sound_state.proofs.Common.{ErrandFields, Point, State, Moves, IsFramed, errand_frames, fills_frame, IsGuarded, Status, reserving, waiting, partly_used}
use Rattle.sound_state.proofs.Common.{on_its_way, holds_of, IsKept, IsWithout, IsKeptAs, word_keeps, errand_has, full_keeps, Lists, IsListed, IsLocated, IsSo, IsOwned}
use Rattle.sound_state.proofs.Common.{recalls_of, IsSoundWith, turn_stage_of, word_stock, errand_stock, full_stock, stock_among, sum_below, words_sum, callers_sum}
use Rattle.sound_state.proofs.Common.{AreChained, IsChained, info_or_zero, live_at, anchor_for, info_for, superblock_of, free_chain, reserved_of, word_reserves}
use Rattle.sound_state.proofs.Common.{errand_reserves, reserved_among, waiting_of, away_of, errand_away, is_bound, errand_keeps, kept_among, IsTurned, gives_small}
use Rattle.sound_state.proofs.Common.{refuses_small, pops_left, chain_of, Caller, clear, places_of, IsRemembered, out_of_turn, stock_of, is_small_alloc, is_small_free}
use Rattle.sound_state.proofs.Common.{IsSaidWord, Part, bindings, places, chains, stacks, link_words, availables, events, single, constant}
use Rattle.word_table.specs.declared.name.WordName.TheVariants as name
use Rattle.step_parts.proofs.superblock_lemmas.ChainLemmas.{chain_of-same}
use Rattle.pool_model.specs.Pool.{Block}
use Rattle.sound_state.proofs.shared.BackedRecalls.{AllRead, remembered-stays}
use Rattle.sound_state.proofs.shared.CallerLemmas.{KeepsCounts}
use Rattle.sound_state.proofs.shared.GuardEffects.{guarded-clear}
use Rattle.sound_state.proofs.shared.ListEffects.{IsListWord, listed-kept}
use Rattle.sound_state.proofs.shared.SumLemmas.{callers-moved, sum-same}
use Rattle.sound_state.proofs.shared.TurnEffects.{emptied-kept, head-tag, no-turn-weighs, turned-after, IsQuiet, counts-kept, EventEffects}
use Rattle.sound_state.proofs.shared.RecallFrame.{ChainStays, PartStays}
use Rattle.sound_state.proofs.shared.RecallFrame.{lies-same, stack-same}
use Rattle.sound_state.proofs.shared.SuperblocksStay.{SameDescs, actives-same, descs-kept}

-- the word is none of the arena's, of the units and of the shelves
abbrev pub IsAwayWord : WordName → Type 0
IsAwayWord (name.Arena place) = ⊥
IsAwayWord name.Units = ⊥
IsAwayWord (name.Shelf k) = ⊥
IsAwayWord n = Unit {0}

-- a point at which a caller reserves, keeps, guards and pushes nothing, and is in no turn
pub record IsAsidePoint (p : Point) : Type 0 where
  pub credits : (holds_of p).credits ≡ []
  pub kept : (holds_of p).kept ≡ []
  pub frames : (holds_of p).frames ≡ []
  pub hazard : (holds_of p).hazard ≡ clear
  pub quiet : IsQuiet p
  pub stage : turn_stage_of p ≡ out_of_turn
  pub pops : pops_left p ≡ 0

-- the words say what they did where the part is one that is read word by word
abbrev pub Stays : State → (WordName → ℕ) → Part → Type 0
Stays s words (link_words f c blocks) = (k : ℕ) → k < blocks → words (prefix_name f c k) ≡ s.word (prefix_name f c k)
Stays s words (single n) = IsSaidWord n → words n ≡ s.word n
Stays s words p = Unit {0}

-- the events after a step leave what the others own, and count no small block
pub record LeavesOthers (g : Geometry) (s : State) (l : Lists) (caller : ℕ) (past : List Event) : Type 0 where
  pub others :
      (i place : ℕ) (b : Block) → i ≢ caller → block_at place (pool_of s.history) ≡ Some b → b.owner ≡ Caller i
      → block_at place (pool_of past) ≡ Some b
  pub live :
      (d i : ℕ) → d < descriptor_count g → IsTrue (is_bound g s l d) → i < block_count_of (info_for s d).class
      → is_there (block_at (block_place (info_for s d).frame (info_for s d).class i) (pool_of past))
      ≡ is_there (block_at (block_place (info_for s d).frame (info_for s d).class i) (pool_of s.history))
  pub events : (i : ℕ) → i ≢ caller → own i past ≡ own i s.history
  pub gives : (i : ℕ) → count_by (gives_small i) past ≡ count_by (gives_small i) s.history
  pub refuses : (i : ℕ) → count_by (refuses_small i) past ≡ count_by (refuses_small i) s.history
  pub allocs : count_by is_small_alloc past ≡ count_by is_small_alloc s.history
  pub freed : count_by (is_small_free g) past ≡ count_by (is_small_free g) s.history

-- a caller touches a large block, a usable word or a shelf, and all else stays
pub record Touches (g : Geometry) (s : State) (l : Lists) (caller : ℕ) (e : ErrandFields) (s' : State) : Type 0 where
  pub in_heap : caller < g.callers
  pub moves : Moves s.errand caller e s'.errand
  pub word : (n : WordName) → IsAwayWord n → s'.word n ≡ s.word n
  pub prefixes :
      (d i : ℕ) → d < descriptor_count g → IsTrue (is_bound g s l d) → i < block_count_of (info_for s d).class
      → s'.word (prefix_name (info_for s d).frame (info_for s d).class i) ≡ s.word (prefix_name (info_for s d).frame (info_for s d).class i)
  pub stays : (i : ℕ) → i < g.callers → i ≢ caller → AllRead (Stays s s'.word) (s.errand i).point
  pub leaves : LeavesOthers g s l caller s'.history
  pub own : KeepsCounts (s.errand caller) e
  pub before : IsAsidePoint (s.errand caller).point
  pub after : IsAsidePoint e.point
  pub recalls : recalls_of e.point ≡ []

chained-like :
    (a a' : AnchorFields) (r r' w w' : ℕ) (n n' v v' : ℕ → ℕ) (z z' : ℕ) → a' ≡ a → r' ≡ r → w' ≡ w → z' ≡ z
    → chain_of n' (a.count + r) a.avail ≡ chain_of n (a.count + r) a.avail → ((i : ℕ) → i < z → n' i ≡ n i)
    → ((i : ℕ) → i < z → v' i ≡ v i)
    → IsChained (record { anchor = a; reserved = r; waiting = w; next = n; live = v; size = z })
    → IsChained (record { anchor = a'; reserved = r'; waiting = w'; next = n'; live = v'; size = z' })
chained-like a a' r r' w w' n n' v v' z z' ea er ew ez chain next live c =
    rw (ea, er, ew, ez)
    (record {
      avail = c.avail;
      within = λ i on. c.within i (subst (λ xs. 0 < occurs i xs) chain on);
      links = λ i on.
          let old : 0 < occurs i (chain_of n (a.count + r) a.avail) = subst (λ xs. 0 < occurs i xs) chain on in
          subst (λ x. x < z) (sym (next i (c.within i old))) (c.links i old);
      once = λ i lt. omega (arith, c.once i lt, live i lt, ap (occurs i) chain);
      some = c.some;
    })

-- a head or a next word is none of the words that a touch changes, so the lists stay
list-away : (n : WordName) → IsListWord n → IsAwayWord n
list-away (name.Arena place) is = is
list-away name.Units is = is
list-away (name.Shelf k) is = is
list-away n is = tt

module _ {g : Geometry} {s : State} {l : Lists} {caller : ℕ} {e : ErrandFields} {s' : State} (h : Touches g s l caller e s') where
  pub touched-anchor : (d : ℕ) → anchor_for s' d ≡ anchor_for s d
  touched-anchor d = ap anchor_of (h.word (name.Anchor d) tt)

  pub touched-info : (d : ℕ) → info_for s' d ≡ info_for s d
  touched-info d = ap (λ w. info_or_zero (info_of w)) (h.word (name.Info d) tt)

  -- words that weigh nothing where a touch may change them weigh the same
  word-weighs :
      (weight : WordName → ℕ → ℕ) → ((p w : ℕ) → weight (name.Arena p) w ≡ 0) → ((w : ℕ) → weight name.Units w ≡ 0)
      → ((k w : ℕ) → weight (name.Shelf k) w ≡ 0) → (n : WordName) → weight n (s'.word n) ≡ weight n (s.word n)
  word-weighs weight arena units shelf (name.Arena p) = arena p (s'.word (name.Arena p)) ∙ sym (arena p (s.word (name.Arena p)))
  word-weighs weight arena units shelf name.Units = units (s'.word name.Units) ∙ sym (units (s.word name.Units))
  word-weighs weight arena units shelf (name.Shelf k) = shelf k (s'.word (name.Shelf k)) ∙ sym (shelf k (s.word (name.Shelf k)))
  word-weighs weight arena units shelf (name.Anchor d) = ap (weight (name.Anchor d)) (h.word (name.Anchor d) tt)
  word-weighs weight arena units shelf (name.Next d) = ap (weight (name.Next d)) (h.word (name.Next d) tt)
  word-weighs weight arena units shelf (name.Info d) = ap (weight (name.Info d)) (h.word (name.Info d) tt)
  word-weighs weight arena units shelf (name.Active a b) = ap (weight (name.Active a b)) (h.word (name.Active a b) tt)
  word-weighs weight arena units shelf (name.Slot a b) = ap (weight (name.Slot a b)) (h.word (name.Slot a b) tt)
  word-weighs weight arena units shelf (name.ListHead c) = ap (weight (name.ListHead c)) (h.word (name.ListHead c) tt)
  word-weighs weight arena units shelf (name.FrameNext f) = ap (weight (name.FrameNext f)) (h.word (name.FrameNext f) tt)
  word-weighs weight arena units shelf name.FrameHead = ap (weight name.FrameHead) (h.word name.FrameHead tt)
  word-weighs weight arena units shelf name.DescHead = ap (weight name.DescHead) (h.word name.DescHead tt)
  word-weighs weight arena units shelf (name.Hazard i) = ap (weight (name.Hazard i)) (h.word (name.Hazard i) tt)

  touched-words :
      (weight : WordName → ℕ → ℕ) → ((p w : ℕ) → weight (name.Arena p) w ≡ 0) → ((w : ℕ) → weight name.Units w ≡ 0)
      → ((k w : ℕ) → weight (name.Shelf k) w ≡ 0) → words_sum g weight s'.word ≡ words_sum g weight s.word
  unfolding words_sum
  touched-words weight arena units shelf =
      sum-same (word_count g) (λ k. weight (word_name g k) (s.word (word_name g k))) (λ k. weight (word_name g k) (s'.word (word_name g k)))
      (λ k lt. word-weighs weight arena units shelf (word_name g k))

  -- all callers weigh the same after a touch, where the one that steps does
  touched-callers : (weight : ErrandFields → ℕ) → weight e ≡ weight (s.errand caller) → callers_sum g weight s'.errand ≡ callers_sum g weight s.errand
  touched-callers weight same = omega (arith, callers-moved g weight s.errand caller e s'.errand h.in_heap h.moves, same)

  keeps-alike : (status : Status) (d : ℕ) → errand_keeps status d e ≡ errand_keeps status d (s.errand caller)
  keeps-alike status d = ap (kept_among status d) (h.after.kept ∙ sym h.before.kept)

  touched-reserved : (d : ℕ) → reserved_of g s' d ≡ reserved_of g s d
  touched-reserved d =
      omega (
        arith,
        touched-words (word_reserves d) (λ p w. refl) (λ w. refl) (λ k w. refl),
        touched-callers (errand_reserves d) (ap (reserved_among d) (h.after.credits ∙ sym h.before.credits)),
      )

  pub touched-waits : (d : ℕ) → waiting_of g s' d ≡ waiting_of g s d
  touched-waits d = touched-callers (errand_keeps waiting d) (keeps-alike waiting d)

  touched-ways : (d : ℕ) → callers_sum g (errand_keeps on_its_way d) s'.errand ≡ callers_sum g (errand_keeps on_its_way d) s.errand
  touched-ways d = touched-callers (errand_keeps on_its_way d) (keeps-alike on_its_way d)

  touched-away : (d : ℕ) → away_of g s' l d ≡ away_of g s l d
  touched-away d =
      let listed : occurs d e.retired ≡ occurs d (s.errand caller).retired = ap (occurs d) h.own.retired in
      let same = touched-callers (errand_away d) (omega (arith, listed, keeps-alike on_its_way d)) in
      omega (arith, same)

  touched-places : (d : ℕ) → places_of g s' l d ≡ places_of g s l d
  touched-places d =
      let listed : occurs d e.retired ≡ occurs d (s.errand caller).retired = ap (occurs d) h.own.retired in
      let same =
      touched-callers (errand_has d)
      (omega (
        arith,
        listed,
        keeps-alike reserving d,
        keeps-alike waiting d,
        keeps-alike partly_used d,
        keeps-alike on_its_way d,
      )) in
      omega (
        arith,
        same,
        touched-words (word_keeps d) (λ p w. refl) (λ w. refl) (λ k w. refl),
        ap (λ a. full_keeps a.state) (touched-anchor d),
      )

  pub touched-stock : (class : ℕ) → stock_of g s' l class ≡ stock_of g s l class
  touched-stock class =
      let full : sum_below (descriptor_count g) (full_stock s' class) ≡ sum_below (descriptor_count g) (full_stock s class) =
      sum-same (descriptor_count g) (full_stock s class) (full_stock s' class)
      (λ d lt. rw (touched-anchor d, touched-info d) refl) in
      let held : stock_among class (holds_of e.point).kept ≡ stock_among class (holds_of (s.errand caller).point).kept =
      ap (stock_among class) (h.after.kept ∙ sym h.before.kept) in
      let same = touched-callers (errand_stock class) (omega (arith, held, h.after.quiet.waits class, h.before.quiet.waits class)) in
      omega (arith, same, full, touched-words (word_stock class) (λ p w. refl) (λ w. refl) (λ k w. refl))

  pub touched-bound : (d : ℕ) → is_bound g s' l d ≡ is_bound g s l d
  touched-bound d = rw (touched-away d, touched-anchor d) refl

  fills-touched : (f d : ℕ) → fills_frame g s' l f d ≡ fills_frame g s l f d
  fills-touched f d = rw (touched-bound d, touched-waits d, touched-info d) refl

  descs-touched : SameDescs s s'
  descs-touched = record { info = touched-info; anchor = touched-anchor }

  pub located-touched : (d f c : ℕ) → IsLocated s d f c → IsLocated s' d f c
  located-touched d f c k = record {
    frame = ap (λ x. x.frame) (touched-info d) ∙ k.frame;
    class = ap (λ x. x.class) (touched-info d) ∙ k.class;
  }

  -- what the other callers own they still own after a touch
  pub owned-touched : (i place : ℕ) (n : Need) → i ≢ caller → IsOwned s i place n → IsOwned s' i place n
  owned-touched i place n other k = record {
    block = (k.block.0, h.leaves.others i place k.block.0 other k.block.1 k.block.2, k.block.2, k.block.3);
  }

  -- the chains of free blocks stay after a touch
  touched-chain :
      AreChained g s l → (d : ℕ) → d < descriptor_count g → IsTrue (is_bound g s l d)
      → chain_of (superblock_of g s' d).next ((anchor_for s d).count + reserved_of g s d) (anchor_for s d).avail
      ≡ chain_of (superblock_of g s d).next ((anchor_for s d).count + reserved_of g s d) (anchor_for s d).avail
  touched-chain chained d has bound =
      let c : IsChained (superblock_of g s d) = chained.chained d has bound in
      chain_of-same (superblock_of g s d).next (superblock_of g s' d).next ((anchor_for s d).count + reserved_of g s d) (anchor_for s d).avail
      (λ j on.
      ap (λ x. link_of (s'.word (prefix_name x.frame x.class j))) (touched-info d)
      ∙ ap link_of (h.prefixes d j has bound (c.within j on)))

  chains-touched : AreChained g s l → (d : ℕ) → d < descriptor_count g → IsTrue (is_bound g s l d) → ChainStays g s s' d
  chains-touched chained d has bound =
      let chain : free_chain (superblock_of g s' d) ≡ free_chain (superblock_of g s d) =
      rw (touched-anchor d, touched-reserved d) (touched-chain chained d has bound) in
      record {
        tag = omega (arith, ap (λ a. a.tag) (touched-anchor d));
        chain = λ same k. subst (λ xs. 0 < occurs k xs) (sym chain);
        next = λ same k on.
            ap (λ x. link_of (s'.word (prefix_name x.frame x.class k))) (touched-info d)
            ∙ ap link_of (h.prefixes d k has bound ((chained.chained d has bound).within k on));
      }

  pub chained-touched : AreChained g s l → AreChained g s' l
  chained-touched chained = record {
    infos = λ d has. subst (λ w. IsSome (info_in g w)) (sym (h.word (name.Info d) tt)) (chained.infos d has);
    chained = λ d has is.
        let bound : IsTrue (is_bound g s l d) = subst IsTrue (touched-bound d) is in
        let info = touched-info d in
        chained-like _ _ _ _ _ _ _ _ _ _ _ _ (touched-anchor d) (touched-reserved d) (touched-waits d)
        (ap (λ x. block_count_of x.class) info) (touched-chain chained d has bound)
        (λ i lt. ap (λ x. link_of (s'.word (prefix_name x.frame x.class i))) info ∙ ap link_of (h.prefixes d i has bound lt))
        (λ i lt. ap (λ x. live_at s' (block_place x.frame x.class i)) info ∙ h.leaves.live d i has bound lt)
        (chained.chained d has bound);
  }

  pub listed-touched : IsListed g s.word l → IsListed g s'.word l
  listed-touched = listed-kept g s.word s'.word l (λ n is. h.word n (list-away n is))

  -- each descriptor stays where it is, in its state, after a touch
  pub kept-touched : IsKept g s l → IsKept g s' l
  kept-touched kept =
      descs-kept g s caller e s' l l
      (record {
        moves = h.moves;
        descs = descs-touched;
        places = touched-places;
        actives = actives-same g s l s'.word kept (λ heap class. h.word (name.Active heap class) tt) (λ heap class. h.word (name.Slot heap class) tt);
        listed = kept.listed;
        available = kept.available;
        retired = subst (All (IsWithout s)) (sym h.own.retired) (kept.retired caller h.in_heap);
        own = subst (All (λ k. IsKeptAs s k.status k.desc k.class)) (sym h.after.kept) (All-nil (λ k. IsKeptAs s k.status k.desc k.class));
      })
      kept

  -- each frame stays where it is after a touch
  pub framed-touched : IsFramed g s l → IsFramed g s' l
  framed-touched framed = record {
    once = λ f has.
        let filled : sum_below (descriptor_count g) (fills_frame g s' l f) ≡ sum_below (descriptor_count g) (fills_frame g s l f) =
        sum-same (descriptor_count g) (fills_frame g s l f) (fills_frame g s' l f) (λ d lt. fills-touched f d) in
        let hands = touched-callers (errand_frames f) (ap (occurs f) (h.after.frames ∙ sym h.before.frames)) in
        omega (arith, filled, hands, framed.once f has);
  }

  head-touched : (seat : SeatFields) (p : Pile) → s'.word (head_name seat p) ≡ s.word (head_name seat p)
  head-touched seat Frames = h.word name.FrameHead tt
  head-touched seat Partials = h.word (name.ListHead seat.class) tt

  next-touched : (p : Pile) (i : ℕ) → s'.word (next_name p i) ≡ s.word (next_name p i)
  next-touched Frames i = h.word (name.FrameNext i) tt
  next-touched Partials i = h.word (name.Next i) tt

  -- each part stays that another caller's recalls read
  touched-part : AreChained g s l → (i : ℕ) → i ≢ caller → (p : Part) → Stays s s'.word p → PartStays g s l s' l i p
  touched-part chained i other (bindings d) stays = λ bound. (subst IsTrue (sym (touched-bound d)) bound, lies-same s s' d (touched-info d))
  touched-part chained i other (places d) stays = lies-same s s' d (touched-info d)
  touched-part chained i other (chains d) stays = λ here. chains-touched chained d here.0 here.1
  touched-part chained i other (stacks seat p) stays = λ class. stack-same s l s' l seat p (head-touched seat p) refl (next-touched p)
  touched-part chained i other (link_words f c blocks) stays = stays
  touched-part chained i other (availables d) stays = record {
    emptied = λ so. record {
      state = ap (λ a. a.state) (touched-anchor d) ∙ so.state;
      unavailable = so.unavailable;
      standing = touched-ways d ∙ so.standing;
    };
    next = λ on. (on, h.word (name.Next d) tt);
  }
  touched-part chained i other events stays = record { own_events = h.leaves.events i other; owned = λ place n. owned-touched i place n other }
  touched-part chained i other (single n) stays = stays
  touched-part chained i other constant stays = tt

  pub remembered-touched : IsSoundWith g s l → IsRemembered g s' l
  remembered-touched old =
      remembered-stays g s l caller e s' l h.moves old.formed.errands (λ i has other. old.remembered.so i has)
      (subst (All (IsSo g s' l caller)) (sym h.recalls) (All-nil (IsSo g s' l caller)))
      (λ i has other k d lt. touched-part old.chained i other _ (h.stays i has other k d lt))

  -- the guards stay after a touch
  pub guarded-touched : IsGuarded g s → IsGuarded g s'
  guarded-touched =
      guarded-clear g s caller e s' h.in_heap h.moves (λ i. h.word (name.Hazard i) tt) h.before.hazard h.after.hazard h.after.quiet

  -- the bounds of tags and turns stay after a touch
  pub turned-touched : IsTurned g s l → IsTurned g s' l
  turned-touched turned =
      let before = no-turn-weighs (s.errand caller) h.before.stage in
      let after = no-turn-weighs e h.after.stage in
      let emptied_same = emptied-kept g s l s' l (λ d. rw (touched-away d, touched-anchor d) refl) in
      let events : EventEffects g caller s.history s'.history 0 0 = record {
        elsewhere = λ i differ. h.leaves.gives i;
        gives = omega (arith, h.leaves.gives caller);
        refuses = h.leaves.refuses;
        allocs = omega (arith, h.leaves.allocs);
        frees = omega (arith, h.leaves.freed);
      } in
      turned-after g s l caller e s' l 0 0
      (record {
        in_heap = h.in_heap;
        moves = h.moves;
        events = events;
        counts = counts-kept turned h.in_heap events h.own before after refl (omega arith);
        anchor_tags = λ d has. omega (arith, ap (λ a. a.tag) (touched-anchor d));
        frame_turns = omega (arith, head-tag (h.word name.FrameHead tt), after.unframed, h.own.turns);
        emptied = omega (arith, emptied_same, h.own.cleared);
        list_turns = λ class has.
            omega (arith, head-tag (h.word (name.ListHead class) tt), h.after.pops, after.unlisted, h.own.turns, h.own.cleared);
      })
      turned
