-- A store into a link, a word of the arena or what a descriptor says keeps the state sound where what is read of that word stays.
use Rattle.std.proofs.Common.{ℕ, Bool, true, false, Some, None, ◌≡◌, ◌<◌, ◌≤◌, ◌+◌, ◌*◌, refl, arith, ap, sym, subst, inl, inr, ◌∙◌, ◌⊎◌, ◌==◌, ◌&&◌, if◌then◌else◌}
use Rattle.std.proofs.Common.{All, IsTrue, IsSome, slice_index_or}
use Rattle.sound_state.proofs.Common.{Geometry, CLASSES, block_count_of, block_place, frame_of, Need, Held, active_of, head_of, info_of, link_of, WordName, IsFormed}
use Rattle.sound_state.proofs.Common.{descriptor_count, SeatFields, info_in, occurs, link_in, prefix_name, Pile, Frames, Partials, next_in, head_name, next_name}
use Rattle.sound_state.proofs.Common.{State, IsFramed, fills_frame, IsGuarded, Status, reserving, waiting, partly_used, on_its_way, holds_of, IsKept, IsPartlyUsed}
use Rattle.sound_state.proofs.Common.{IsKeptAs, word_keeps, errand_has, full_keeps, Lists, IsListed, IsLocated, IsOwned, word_stock, full_stock, sum_below, words_sum}
use Rattle.sound_state.proofs.Common.{callers_sum, Superblock, AreChained, IsChained, info_or_zero, anchor_for, info_for, live_at, superblock_of, free_chain}
use Rattle.sound_state.proofs.Common.{is_bound, waiting_of, word_reserves, errand_reserves, IsTied, IsLive, IsTurned, Guards, IsActive, list_of, IsStocked}
use Rattle.sound_state.proofs.Common.{IsExcepted, Part, bindings, places, chains, stacks, link_words, availables, events, single, constant, IsRemembered}
use Rattle.word_table.specs.declared.name.WordName.TheVariants as name
use Rattle.step_parts.proofs.superblock_lemmas.ChainLemmas.{chain_of-same}
use Rattle.pool_model.specs.Pool.{Block}
use Rattle.sound_state.proofs.shared.HolderLemmas.{IsHolderWeight, keeps-holder, reserves-holder, stock-holder}
use Rattle.sound_state.proofs.shared.StackedLemmas.{stacked-agrees}
use Rattle.sound_state.proofs.shared.SumLemmas.{sum-same}
use Rattle.sound_state.proofs.shared.BackedRecalls.{AllRead, fits-own, recalls-stay}
use Rattle.sound_state.proofs.shared.RecallFrame.{ChainStays, PartStays}

-- a word that a caller stores alone
abbrev pub IsLone : WordName → Type 0
IsLone (name.Arena place) = Unit {0}
IsLone (name.Next d) = Unit {0}
IsLone (name.FrameNext f) = Unit {0}
IsLone (name.Info d) = Unit {0}
IsLone n = ⊥

-- the words, with what w has for those that a caller stores alone
abbrev pub with_lone : (WordName → ℕ) → (WordName → ℕ) → WordName → ℕ
with_lone new words (name.Arena place) = new (name.Arena place)
with_lone new words (name.Next d) = new (name.Next d)
with_lone new words (name.FrameNext f) = new (name.FrameNext f)
with_lone new words (name.Info d) = new (name.Info d)
with_lone new words n = words n

-- the state in between: the words that a caller stores alone are those of w, and nothing else has changed
abbrev pub between : State → (WordName → ℕ) → State
between s w = record { word = with_lone w s.word; errand = s.errand; history = s.history }

-- the descriptor's info word in w names the frame and the class that it named
abbrev pub IsPlaceKept : State → (WordName → ℕ) → ℕ → Type 0
IsPlaceKept s w d =
    ((info_or_zero (info_of (w (name.Info d)))).frame ≡ (info_for s d).frame)
    × ((info_or_zero (info_of (w (name.Info d)))).class ≡ (info_for s d).class)

-- a kept descriptor has its frame and class still, unless it is on its way
abbrev pub IsKeptStill : State → (WordName → ℕ) → Status → ℕ → Type 0
IsKeptStill s w on_its_way d = Unit {0}
IsKeptStill s w status d = IsPlaceKept s w d

-- the prefix word of a superblock's block in w is what it was
abbrev pub IsPrefixKept : State → (WordName → ℕ) → ℕ → ℕ → Type 0
IsPrefixKept s w d i =
    w (prefix_name (info_for s d).frame (info_for s d).class i) ≡ s.word (prefix_name (info_for s d).frame (info_for s d).class i)

abbrev pub IsChainKept : Geometry → State → (WordName → ℕ) → ℕ → Type 0
IsChainKept g s w d = (i : ℕ) → 0 < occurs i (free_chain (superblock_of g s d)) → IsPrefixKept s w d i

-- what is read of such a word is what it was: only these parts are read by callers that don't hold what is stored
abbrev pub IsStillSaid : State → (WordName → ℕ) → Part → Type 0
IsStillSaid s w (places d) = IsPlaceKept s w d
IsStillSaid s w (link_words f c blocks) = (k : ℕ) → k < blocks → w (prefix_name f c k) ≡ s.word (prefix_name f c k)
IsStillSaid s w (single n) = with_lone w s.word n ≡ s.word n
IsStillSaid s w p = Unit {0}

-- the links of what is listed are what they were, and all other links are in range
pub record LinksKept (g : Geometry) (s : State) (l : Lists) (w : WordName → ℕ) : Type 0 where
  pub nexts : (d : ℕ) → d < descriptor_count g → w (name.Next d) ≤ descriptor_count g
  pub frame_nexts : (f : ℕ) → f < g.frames → w (name.FrameNext f) ≤ g.frames
  pub frames : (f : ℕ) → 0 < occurs f l.frames → w (name.FrameNext f) ≡ s.word (name.FrameNext f)
  pub available : (d : ℕ) → 0 < occurs d l.available → w (name.Next d) ≡ s.word (name.Next d)
  pub partials : (class : ℕ) → class < CLASSES → (d : ℕ) → 0 < occurs d (l.partials class) → w (name.Next d) ≡ s.word (name.Next d)

-- descriptors that somebody reads name the frame and the class that they named
pub record PlacesKept (g : Geometry) (s : State) (l : Lists) (w : WordName → ℕ) : Type 0 where
  pub infos : (d : ℕ) → d < descriptor_count g → IsSome (info_in g (w (name.Info d)))
  pub bound : (d : ℕ) → IsTrue (is_bound g s l d) → IsPlaceKept s w d
  pub active :
      (heap class d credits : ℕ) → heap < g.heaps → class < CLASSES → active_of (s.word (name.Active heap class)) ≡ Some (Held d credits)
      → IsPlaceKept s w d
  pub slot : (heap class d : ℕ) → heap < g.heaps → class < CLASSES → s.word (name.Slot heap class) ≡ d + 1 → IsPlaceKept s w d
  pub listed : (class : ℕ) → class < CLASSES → All (IsPlaceKept s w) (l.partials class)
  pub errand : (caller : ℕ) → caller < g.callers → All (λ k. IsKeptStill s w k.status k.desc) (holds_of (s.errand caller).point).kept
  pub full : (d : ℕ) → d < descriptor_count g → IsPlaceKept s w d ⊎ (full_keeps (anchor_for s d).state ≡ 0)

-- the words of free blocks and of live ones are what they were
pub record BlocksKept (g : Geometry) (s : State) (l : Lists) (w : WordName → ℕ) : Type 0 where
  pub chains : (d : ℕ) → d < descriptor_count g → IsTrue (is_bound g s l d) → IsChainKept g s w d
  pub ties : (place : ℕ) (b : Block) → IsLive s place b → IsExcepted g s place ⊎ (w (name.Arena place) ≡ s.word (name.Arena place))
  pub contents :
      (place i v : ℕ) (b : Block) → IsLive s place b → slice_index_or b.contents i None ≡ Some v
      → w (name.Arena (place + 1 + i)) ≡ s.word (name.Arena (place + 1 + i))

-- what is read of the words that are stored alone stays
pub record LoneKept (g : Geometry) (s : State) (l : Lists) (w : WordName → ℕ) : Type 0 where
  pub links : LinksKept g s l w
  pub places : PlacesKept g s l w
  pub blocks : BlocksKept g s l w
  pub recalls : (caller : ℕ) → caller < g.callers → AllRead (IsStillSaid s w) (s.errand caller).point

-- what only active words and slots weigh stays in the state in between
lone-weighs :
    (weight : WordName → ℕ → ℕ) (w words : WordName → ℕ) → IsHolderWeight weight → (n : WordName)
    → weight n (with_lone w words n) ≡ weight n (words n)
lone-weighs weight w words h (name.Arena place) = h.elsewhere (name.Arena place) _ refl ∙ sym (h.elsewhere (name.Arena place) _ refl)
lone-weighs weight w words h (name.Next d) = h.elsewhere (name.Next d) _ refl ∙ sym (h.elsewhere (name.Next d) _ refl)
lone-weighs weight w words h (name.FrameNext f) = h.elsewhere (name.FrameNext f) _ refl ∙ sym (h.elsewhere (name.FrameNext f) _ refl)
lone-weighs weight w words h (name.Info d) = h.elsewhere (name.Info d) _ refl ∙ sym (h.elsewhere (name.Info d) _ refl)
lone-weighs weight w words h n = refl

lone-sum :
    (g : Geometry) (weight : WordName → ℕ → ℕ) (w words : WordName → ℕ) → IsHolderWeight weight
    → words_sum g weight (with_lone w words) ≡ words_sum g weight words
unfolding words_sum
lone-sum g weight w words h = sum-same _ _ _ (λ k lt. lone-weighs weight w words h _)

-- what is said of a descriptor or a block is said in between, where the frame and the class stay
partly-between : (s : State) (w : WordName → ℕ) (d c : ℕ) → IsPlaceKept s w d → IsPartlyUsed s d c → IsPartlyUsed (between s w) d c
partly-between s w d c same k = record { class = same.1 ∙ k.class; state = k.state }

active-between : (s : State) (w : WordName → ℕ) (d c : ℕ) → IsPlaceKept s w d → IsActive s d c → IsActive (between s w) d c
active-between s w d c same k = record { class = same.1 ∙ k.class; state = k.state }

kept_as-between :
    (s : State) (w : WordName → ℕ) (status : Status) (d c : ℕ) → IsKeptStill s w status d → IsKeptAs s status d c
    → IsKeptAs (between s w) status d c
kept_as-between s w reserving d c same k = active-between s w d c same k
kept_as-between s w waiting d c same k = active-between s w d c same k
kept_as-between s w partly_used d c same k = partly-between s w d c same k
kept_as-between s w on_its_way d c same k = k

located-between : (s : State) (w : WordName → ℕ) (d f c : ℕ) → IsPlaceKept s w d → IsLocated s d f c → IsLocated (between s w) d f c
located-between s w d f c same k = record { frame = same.0 ∙ k.frame; class = same.1 ∙ k.class }

owned-between : (s : State) (w : WordName → ℕ) (caller place : ℕ) (n : Need) → IsOwned s caller place n → IsOwned (between s w) caller place n
owned-between s w caller place n k = record { block = k.block }

excepted-between : (g : Geometry) (s : State) (w : WordName → ℕ) (place : ℕ) → IsExcepted g s place → IsExcepted g (between s w) place
excepted-between g s w place x = record { caller = x.caller }

-- a superblock with other links
abbrev with_next : (ℕ → ℕ) → Superblock → Superblock
with_next next b = record b { next = next }

abbrev links_of : State → (WordName → ℕ) → ℕ → ℕ → ℕ
links_of s w d = link_in w (info_for s d).frame (info_for s d).class

superblock-between :
    (g : Geometry) (s : State) (w : WordName → ℕ) (d : ℕ) → IsPlaceKept s w d
    → superblock_of g (between s w) d ≡ with_next (links_of s w d) (superblock_of g s d)
superblock-between g s w d same =
    let now = info_or_zero (info_of (w (name.Info d))) in
    let info = info_for s d in
    let with_place : ℕ → ℕ → ℕ → Superblock = λ n f c. record {
      anchor = anchor_for s d;
      reserved = n + callers_sum g (errand_reserves d) s.errand;
      waiting = waiting_of g s d;
      next = link_in w f c;
      live = λ i. live_at s (block_place f c i);
      size = block_count_of c;
    } in
    ap (λ n. with_place n now.frame now.class) (lone-sum g (word_reserves d) w s.word (reserves-holder d))
    ∙ ap (λ f. with_place (words_sum g (word_reserves d) s.word) f now.class) same.0
    ∙ ap (λ c. with_place (words_sum g (word_reserves d) s.word) info.frame c) same.1

-- a superblock's chain is the same where the links of its free blocks are
same-chain :
    (next : ℕ → ℕ) (b : Superblock) → ((i : ℕ) → 0 < occurs i (free_chain b) → next i ≡ b.next i)
    → free_chain (with_next next b) ≡ free_chain b
same-chain next b same = chain_of-same b.next next (b.anchor.count + b.reserved) b.anchor.avail same

chained-next :
    (next : ℕ → ℕ) (b : Superblock) → ((i : ℕ) → 0 < occurs i (free_chain b) → next i ≡ b.next i) → IsChained b
    → IsChained (with_next next b)
chained-next next b same h =
    let chain : free_chain (with_next next b) ≡ free_chain b = same-chain next b same in
    let on = λ (i : ℕ) (some : 0 < occurs i (free_chain (with_next next b))). subst (λ xs. 0 < occurs i xs) chain some in
    record {
      avail = h.avail;
      within = λ i some. h.within i (on i some);
      links = λ i some. subst (λ k. k < b.size) (sym (same i (on i some))) (h.links i (on i some));
      once = λ i lt. omega (arith, h.once i lt, ap (occurs i) chain);
      some = h.some;
    }

kept-links :
    (g : Geometry) (s : State) (w : WordName → ℕ) (d : ℕ) → IsChainKept g s w d → (i : ℕ) → 0 < occurs i (free_chain (superblock_of g s d))
    → links_of s w d i ≡ (superblock_of g s d).next i
kept-links g s w d kept i on = ap link_of (kept i on)

chain-between :
    (g : Geometry) (s : State) (w : WordName → ℕ) (d : ℕ) → IsPlaceKept s w d → IsChainKept g s w d → ChainStays g s (between s w) d
chain-between g s w d place kept =
    let same = superblock-between g s w d place in
    let chain : free_chain (with_next (links_of s w d) (superblock_of g s d)) ≡ free_chain (superblock_of g s d) =
    same-chain (links_of s w d) (superblock_of g s d) (kept-links g s w d kept) in
    record {
      tag = omega arith;
      chain = λ is k. subst (λ xs. 0 < occurs k xs) (sym (ap free_chain same ∙ chain));
      next = λ is k on. ap (λ b. b.next k) same ∙ kept-links g s w d kept k on;
    }

head-between : (s : State) (w : WordName → ℕ) (seat : SeatFields) (p : Pile) → (between s w).word (head_name seat p) ≡ s.word (head_name seat p)
head-between s w seat Frames = refl
head-between s w seat Partials = refl

next-between : (s : State) (w : WordName → ℕ) (p : Pile) (k : ℕ) → (between s w).word (next_name p k) ≡ w (next_name p k)
next-between s w Frames k = refl
next-between s w Partials k = refl

listed-next :
    (g : Geometry) (s : State) (l : Lists) (w : WordName → ℕ) (seat : SeatFields) (pile : Pile) (i : ℕ) → LinksKept g s l w
    → seat.class < CLASSES → 0 < occurs i (list_of l seat pile) → w (next_name pile i) ≡ s.word (next_name pile i)
listed-next g s l w seat Frames i kept class on = kept.frames i on
listed-next g s l w seat Partials i kept class on = kept.partials seat.class class i on

-- each part stays
between-part :
    (g : Geometry) (s : State) (l : Lists) (w : WordName → ℕ) (i : ℕ) → LoneKept g s l w → (p : Part) → IsStillSaid s w p
    → PartStays g s l (between s w) l i p
between-part g s l w i kept (bindings d) still = λ bound. (bound, kept.places.bound d bound)
between-part g s l w i kept (places d) still = still
between-part g s l w i kept (chains d) still = λ here. chain-between g s w d (kept.places.bound d here.1) (kept.blocks.chains d here.0 here.1)
between-part g s l w i kept (stacks seat p) still =
    λ class. record {
      tag = omega (arith, ap (λ v. (head_of v).tag) (head-between s w seat p));
      list = λ same k on. on;
      next = λ same k on. next-between s w p k ∙ listed-next g s l w seat p k kept.links class on;
    }
between-part g s l w i kept (link_words f c blocks) still = still
between-part g s l w i kept (availables d) still = record {
  emptied = λ so. record { state = so.state; unavailable = so.unavailable; standing = so.standing };
  next = λ on. (on, kept.links.available d on);
}
between-part g s l w i kept events still = record { own_events = refl; owned = owned-between s w i }
between-part g s l w i kept (single n) still = λ said. still
between-part g s l w i kept constant still = tt

pub listed-between :
    (g : Geometry) (s : State) (l : Lists) (w : WordName → ℕ) → LinksKept g s l w → IsListed g s.word l → IsListed g (with_lone w s.word) l
listed-between g s l w k old = record {
  nexts = k.nexts;
  frame_nexts = k.frame_nexts;
  frames = stacked-agrees (next_in s.word Frames) (next_in w Frames) (head_of (s.word name.FrameHead)).top l.frames k.frames old.frames;
  frames_exist = old.frames_exist;
  available = stacked-agrees (next_in s.word Partials) (next_in w Partials) (s.word name.DescHead) l.available k.available old.available;
  available_exist = old.available_exist;
  partials = λ class has.
      stacked-agrees (next_in s.word Partials) (next_in w Partials) (head_of (s.word (name.ListHead class))).top (l.partials class)
      (k.partials class has) (old.partials class has);
  partials_exist = old.partials_exist;
}

pub kept-between : (g : Geometry) (s : State) (l : Lists) (w : WordName → ℕ) → PlacesKept g s l w → IsKept g s l → IsKept g (between s w) l
kept-between g s l w same kept = record {
  once = λ d has.
      ap
      (λ n. n + sum_below CLASSES (λ class. occurs d (l.partials class)) + occurs d l.available + callers_sum g (errand_has d) s.errand
      + full_keeps (anchor_for s d).state)
      (lone-sum g (word_keeps d) w s.word (keeps-holder d))
      ∙ kept.once d has;
  active_words = kept.active_words;
  slot_words = kept.slot_words;
  active = λ heap class d credits has_heap has_class is.
      let k = kept.active heap class d credits has_heap has_class is in
      (k.0, active-between s w d class (same.active heap class d credits has_heap has_class is) k.1);
  slot = λ heap class d has_heap has_class is.
      let k = kept.slot heap class d has_heap has_class is in
      (k.0, partly-between s w d class (same.slot heap class d has_heap has_class is) k.1);
  full = kept.full;
  listed = λ class has k d lt. partly-between s w _ class (same.listed class has k d lt) (kept.listed class has k d lt);
  available = kept.available;
  retired = kept.retired;
  errand = λ i has k d lt. kept_as-between s w _ _ _ (same.errand i has k d lt) (kept.errand i has k d lt);
}

pub chained-between :
    (g : Geometry) (s : State) (l : Lists) (w : WordName → ℕ) → LoneKept g s l w → AreChained g s l → AreChained g (between s w) l
chained-between g s l w kept chained = record {
  infos = kept.places.infos;
  chained = λ d has bound.
      subst IsChained (sym (superblock-between g s w d (kept.places.bound d bound)))
      (chained-next (links_of s w d) (superblock_of g s d) (kept-links g s w d (kept.blocks.chains d has bound)) (chained.chained d has bound));
}

-- a bound superblock fills the frame that it did
fill-same :
    (b : Bool) (w x y f : ℕ) → (b ≡ true → y ≡ x)
    → ◌≡◌ {A = ℕ} (if b && (w == 0) && (y == f) then 1 else 0) (if b && (w == 0) && (x == f) then 1 else 0)
fill-same true w x y f h = ap (λ z. if (w == 0) && (z == f) then 1 else 0) (h refl)
fill-same false w x y f h = refl

pub framed-between : (g : Geometry) (s : State) (l : Lists) (w : WordName → ℕ) → PlacesKept g s l w → IsFramed g s l → IsFramed g (between s w) l
framed-between g s l w kept framed = record {
  once = λ f has.
      let filled : sum_below (descriptor_count g) (fills_frame g (between s w) l f) ≡ sum_below (descriptor_count g) (fills_frame g s l f) =
      sum-same (descriptor_count g) (fills_frame g s l f) (fills_frame g (between s w) l f)
      (λ d lt.
      fill-same (is_bound g s l d) (waiting_of g s d) (info_for s d).frame (info_or_zero (info_of (w (name.Info d)))).frame f
      (λ bound. (kept.bound d bound).0)) in
      omega (arith, filled, framed.once f has);
}

pub guarded-between : (g : Geometry) (s : State) (w : WordName → ℕ) → IsGuarded g s → IsGuarded g (between s w)
guarded-between g s w guarded =
    let was : (i d : ℕ) → Guards (between s w) i d → Guards s i d = λ i d guards. record { word = guards.word; guard = guards.guard } in
    record {
      words = guarded.words;
      pushed = λ i other d has has_other guards is. guarded.pushed i other d has has_other (was i d guards) is;
      passed = λ i other d has has_other guards listed below. guarded.passed i other d has has_other (was i d guards) listed below;
      unread = guarded.unread;
      full = guarded.full;
    }

counted-same :
    (c c' class n : ℕ) → (c' ≡ c) ⊎ (n ≡ 0) → ◌≡◌ {A = ℕ} (if c' == class then n else 0) (if c == class then n else 0)
counted-same c c' class n (inl same) = ap (λ x. if x == class then n else 0) same
counted-same c c' class n (inr none) = grind (arith, none)

pub stocked-between :
    (g : Geometry) (s : State) (l : Lists) (w : WordName → ℕ) → PlacesKept g s l w → IsStocked g s l → IsStocked g (between s w) l
stocked-between g s l w kept stocked = record {
  most = λ class has.
      let full : sum_below (descriptor_count g) (full_stock (between s w) class) ≡ sum_below (descriptor_count g) (full_stock s class) =
      sum-same (descriptor_count g) (full_stock s class) (full_stock (between s w) class)
      (λ d lt.
      counted-same (info_for s d).class (info_or_zero (info_of (w (name.Info d)))).class class (full_keeps (anchor_for s d).state)
      (elim (kept.full d lt) [ inl same ↦ inl same.1 | inr none ↦ inr none ])) in
      let words : words_sum g (word_stock class) (with_lone w s.word) ≡ words_sum g (word_stock class) s.word =
      lone-sum g (word_stock class) w s.word (stock-holder class) in
      omega (arith, full, words, stocked.most class has);
}

pub turned-between : (g : Geometry) (s : State) (l : Lists) (w : WordName → ℕ) → IsTurned g s l → IsTurned g (between s w) l
turned-between g s l w turned = record {
  own_turns = turned.own_turns;
  own_lost = turned.own_lost;
  own_answers = turned.own_answers;
  anchor_tags = turned.anchor_tags;
  frame_tag = turned.frame_tag;
  emptied = turned.emptied;
  list_tags = turned.list_tags;
}

pub tied-between : (g : Geometry) (s : State) (l : Lists) (w : WordName → ℕ) → LoneKept g s l w → IsTied g s l → IsTied g (between s w) l
tied-between g s l w kept tied =
    let tie : (place v : ℕ) (b : Block) → IsLive s place b → IsExcepted g s place ⊎ (s.word (name.Arena place) ≡ v)
    → IsExcepted g (between s w) place ⊎ (w (name.Arena place) ≡ v) =
    λ place v b live t.
    elim t [
      | inl x ↦ inl (excepted-between g s w place x)
      | inr is ↦ elim (kept.blocks.ties place b live) [
        | inl x ↦ inl (excepted-between g s w place x)
        | inr same ↦ inr (same ∙ is)
      ]
    ] in
    record {
      small = λ place class block live is.
          let old = tied.small place class block live is in (
            old.0,
            record {
              exists = old.1.exists;
              bound = old.1.bound;
              located = located-between s w old.0 (frame_of place) class (kept.places.bound old.0 old.1.bound) old.1.located;
            },
            tie place (2 * old.0) block live old.2,
          );
      large = λ place units block live is. tie place (2 * units + 1) block live (tied.large place units block live is);
      units = tied.units;
      no_more_units = tied.no_more_units;
      shelved = tied.shelved;
      bare_shelf = tied.bare_shelf;
      contents = λ place i v b live is. kept.blocks.contents place i v b live is ∙ tied.contents place i v b live is;
      hands = λ i has k d lt. owned-between s w i _ _ (tied.hands i has k d lt);
      frees = λ i has k d lt. owned-between s w i _ _ (tied.frees i has k d lt);
    }

pub remembered-between :
    (g : Geometry) (s : State) (l : Lists) (w : WordName → ℕ) → LoneKept g s l w → IsRemembered g s l → IsFormed g (between s w)
    → IsRemembered g (between s w) l
remembered-between g s l w kept remembered formed = record {
  so = λ i has.
      recalls-stay g s l i (between s w) l (s.errand i).point (fits-own g i (s.errand i) (formed.errands i has)) (remembered.so i has)
      (λ k d lt. between-part g s l w i kept _ (kept.recalls i has k d lt));
}
