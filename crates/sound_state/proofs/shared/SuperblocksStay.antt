-- A step that leaves the words of superblocks, what is reserved of them, and the blocks: what is said of them stays.
use Rattle.std.proofs.Common.{ℕ, Some, ◌≡◌, ◌<◌, ◌≤◌, ◌+◌, ◌⊎◌, refl, arith, ap, sym, subst, ◌∙◌, All, IsTrue, IsSome, List, []}
use Rattle.sound_state.proofs.Common.{AnchorFields, AreChained, CLASSES, ErrandFields, Geometry, Held, IsFramed, IsKept, IsKeptAs, IsOwned, IsPartlyUsed, IsTied, IsWithout}
use Rattle.sound_state.proofs.Common.{Lists, Moves, Need, State, Status, Superblock, WordName, active_of, anchor_for, anchor_of, block_at, callers_sum, descriptor_count}
use Rattle.sound_state.proofs.Common.{errand_frames, holds_of, info_for, is_bound, occurs, own, pool_of, prefix_name, reserved_of, superblock_of, waiting_of}
use Rattle.sound_state.proofs.Common.{IsActive, places_of, Kept, keep}
use Rattle.sound_state.proofs.Common.{Part, availables, bindings, chains, constant, events, link_words, places, single, stacks}
use Rattle.packed_words.specs.declared.anchor.AnchorState.TheVariants as phase
use Rattle.word_table.specs.declared.name.WordName.TheVariants as name
use Rattle.sound_state.proofs.shared.CallerLemmas.{each-caller}
use Rattle.sound_state.proofs.shared.RecallFrame.{PartStays, chain-same, lies-same}
use Rattle.sound_state.proofs.shared.SumLemmas.{sum-same}
use Rattle.sound_state.proofs.shared.TieLemmas.{Excepts, IsSaidAt, blocks-stay, owned-stays, block-stays}
use Rattle.std.proofs.lemmas.List.Elements.{All-nil, All-cons, All-head}
use Rattle.sound_state.proofs.shared.SuperblockEffects.{IsLayWord, LieStill, info-stays}

-- wherever d stands, it is after a step in the state that belongs there
pub record StaysKept (s s' : State) (d : ℕ) : Type 0 where
  pub partly : (c : ℕ) → IsPartlyUsed s d c → IsPartlyUsed s' d c
  pub active : (c : ℕ) → IsActive s d c → IsActive s' d c
  pub without : IsWithout s d → IsWithout s' d
  pub full : (anchor_for s' d).state ≡ phase.Full → ((anchor_for s d).state ≡ phase.Full) × ((anchor_for s' d).count ≤ (anchor_for s d).count)

-- each stands so where its class and state stay, with a free block where it is partial, and with no more of them where it is FULL
pub state-goes :
    (s s' : State) (d : ℕ) → info_for s' d ≡ info_for s d → (anchor_for s' d).state ≡ (anchor_for s d).state
    → ((anchor_for s d).state ≡ phase.Partial → 1 ≤ (anchor_for s d).count → 1 ≤ (anchor_for s' d).count)
    → ((anchor_for s d).state ≡ phase.Full → (anchor_for s' d).count ≤ (anchor_for s d).count) → StaysKept s s' d
state-goes s s' d info state some less = grind (arith, info, state, some, less)

-- each stands so where its word and its anchor stay
pub same-stays-kept : (s s' : State) (d : ℕ) → info_for s' d ≡ info_for s d → anchor_for s' d ≡ anchor_for s d → StaysKept s s' d
same-stays-kept s s' d info anchor = grind (arith, info, anchor, state-goes)

-- what a caller keeps is in the state in which it keeps it
pub kept-goes : (s s' : State) (status : Status) (d c : ℕ) → StaysKept s s' d → IsKeptAs s status d c → IsKeptAs s' status d c
kept-goes s s' status d c h k = grind (arith, h, k)

-- kept descriptors are in the states in which they are kept
abbrev pub AreKept : State → List Kept → Type 0
AreKept s ks = All (λ k. IsKeptAs s k.status k.desc k.class) ks

pub keeps-none : (s : State) → AreKept s []
keeps-none s = All-nil (λ (k : Kept). IsKeptAs s k.status k.desc k.class)

pub keeps-one : (s : State) (d c : ℕ) (status : Status) → IsKeptAs s status d c → AreKept s (keep d c status)
keeps-one s d c status is = All-cons (λ k. IsKeptAs s k.status k.desc k.class) (record { desc = d; class = c; status = status }) [] is (keeps-none s)

pub kept-first : (s : State) (d c : ℕ) (status : Status) → AreKept s (keep d c status) → IsKeptAs s status d c
kept-first s d c status all = All-head (λ k. IsKeptAs s k.status k.desc k.class) (record { desc = d; class = c; status = status }) [] all

-- two states whose descriptors say the same
pub record SameDescs (s s' : State) : Type 0 where
  pub info : (d : ℕ) → info_for s' d ≡ info_for s d
  pub anchor : (d : ℕ) → anchor_for s' d ≡ anchor_for s d

module _ {s s' : State} (h : SameDescs s s') where
  pub descs-go : (d : ℕ) → StaysKept s s' d
  descs-go d = same-stays-kept s s' d (h.info d) (h.anchor d)

  -- each descriptor is in the same state
  pub active-same : (d c : ℕ) → IsActive s d c → IsActive s' d c
  active-same d = (descs-go d).active

  pub kept_as-same : (status : Status) (d c : ℕ) → IsKeptAs s status d c → IsKeptAs s' status d c
  kept_as-same status d c = kept-goes s s' status d c (descs-go d)

  pub partly-same : (d c : ℕ) → IsPartlyUsed s d c → IsPartlyUsed s' d c
  partly-same d = (descs-go d).partly

  pub without-same : (d : ℕ) → IsWithout s d → IsWithout s' d
  without-same d = (descs-go d).without

-- what the active words and the slots hold is in its state
pub record ActivesKept (g : Geometry) (s : State) (words : WordName → ℕ) : Type 0 where
  pub active_words :
      (heap class : ℕ) → heap < g.heaps → class < CLASSES → IsSome (active_of (words (name.Active heap class)))
  pub slot_words : (heap class : ℕ) → heap < g.heaps → class < CLASSES → words (name.Slot heap class) ≤ descriptor_count g
  pub active :
      (heap class d credits : ℕ) → heap < g.heaps → class < CLASSES → active_of (words (name.Active heap class)) ≡ Some (Held d credits)
      → (d < descriptor_count g) × IsActive s d class
  pub slot :
      (heap class d : ℕ) → heap < g.heaps → class < CLASSES → words (name.Slot heap class) ≡ d + 1
      → (d < descriptor_count g) × IsPartlyUsed s d class

-- active words and slots that stay hold what they held
pub actives-same :
    (g : Geometry) (s : State) (l : Lists) (words' : WordName → ℕ) → IsKept g s l
    → ((heap class : ℕ) → words' (name.Active heap class) ≡ s.word (name.Active heap class))
    → ((heap class : ℕ) → words' (name.Slot heap class) ≡ s.word (name.Slot heap class)) → ActivesKept g s words'
actives-same g s l words' kept active slot = record {
  active_words = λ heap class has_heap has_class.
      subst (λ w. IsSome (active_of w)) (sym (active heap class)) (kept.active_words heap class has_heap has_class);
  slot_words = λ heap class has_heap has_class.
      subst (λ w. w ≤ descriptor_count g) (sym (slot heap class)) (kept.slot_words heap class has_heap has_class);
  active = λ heap class d credits has_heap has_class is.
      kept.active heap class d credits has_heap has_class (ap active_of (sym (active heap class)) ∙ is);
  slot = λ heap class d has_heap has_class is. kept.slot heap class d has_heap has_class (sym (slot heap class) ∙ is);
}

-- a step after which each descriptor stands in one place, in the state in which it was
pub record KeepsDescs (g : Geometry) (s : State) (caller : ℕ) (e : ErrandFields) (s' : State) (l l' : Lists) : Type 0 where
  pub moves : Moves s.errand caller e s'.errand
  pub descs : SameDescs s s'
  pub places : (d : ℕ) → places_of g s' l' d ≡ places_of g s l d
  pub actives : ActivesKept g s s'.word
  pub listed : (class : ℕ) → class < CLASSES → All (λ d. IsPartlyUsed s d class) (l'.partials class)
  pub available : All (IsWithout s) l'.available
  pub retired : All (IsWithout s) e.retired
  pub own : AreKept s (holds_of e.point).kept

pub descs-kept :
    (g : Geometry) (s : State) (caller : ℕ) (e : ErrandFields) (s' : State) (l l' : Lists) → KeepsDescs g s caller e s' l l' → IsKept g s l
    → IsKept g s' l'
descs-kept g s caller e s' l l' h kept = record {
  once = λ d has. h.places d ∙ kept.once d has;
  active_words = h.actives.active_words;
  slot_words = h.actives.slot_words;
  active = λ heap class d credits has_heap has_class is.
      let a = h.actives.active heap class d credits has_heap has_class is in (a.0, active-same h.descs d class a.1);
  slot = λ heap class d has_heap has_class is. let a = h.actives.slot heap class d has_heap has_class is in (a.0, partly-same h.descs d class a.1);
  full = λ d has is. ap (λ a. a.count) (h.descs.anchor d) ∙ kept.full d has (ap (λ a. a.state) (sym (h.descs.anchor d)) ∙ is);
  listed = λ class has k d lt. partly-same h.descs _ class (h.listed class has k d lt);
  available = λ k d lt. without-same h.descs _ (h.available k d lt);
  retired =
      each-caller g (λ i f. All (IsWithout s') f.retired) s.errand caller e s'.errand h.moves (λ k d lt. without-same h.descs _ (h.retired k d lt))
      (λ i has k d lt. without-same h.descs _ (kept.retired i has k d lt));
  errand =
      each-caller g (λ i f. AreKept s' (holds_of f.point).kept) s.errand caller e s'.errand h.moves
      (λ k d lt. kept_as-same h.descs _ _ _ (h.own k d lt)) (λ i has k d lt. kept_as-same h.descs _ _ _ (kept.errand i has k d lt));
}

pub same-superblock :
    (a a' : AnchorFields) (r r' w w' : ℕ) (n n' v v' : ℕ → ℕ) (z z' : ℕ) → a' ≡ a → r' ≡ r → w' ≡ w → n' ≡ n → v' ≡ v → z' ≡ z
    → ◌≡◌ {A = Superblock} (record { anchor = a'; reserved = r'; waiting = w'; next = n'; live = v'; size = z' })
    (record { anchor = a; reserved = r; waiting = w; next = n; live = v; size = z })
same-superblock a a' r r' w w' n n' v v' z z' ea er ew en ev ez = rw (ea, er, ew, en, ev, ez) refl

-- a word of a superblock
abbrev pub IsSuperblockWord : WordName → Type 0
IsSuperblockWord (name.Arena place) = Unit {0}
IsSuperblockWord (name.Anchor d) = Unit {0}
IsSuperblockWord (name.Info d) = Unit {0}
IsSuperblockWord n = ⊥

lay-superblock : (n : WordName) → IsLayWord n → IsSuperblockWord n
lay-superblock n is = grind (arith, is)

-- the second state, with its lists, shows the same superblocks and blocks
pub record ShowsSuperblocks (g : Geometry) (s : State) (l : Lists) (s' : State) (l' : Lists) : Type 0 where
  pub word : (n : WordName) → IsSuperblockWord n → s'.word n ≡ s.word n
  pub pool : pool_of s'.history ≡ pool_of s.history
  pub reserved : (d : ℕ) → reserved_of g s' d ≡ reserved_of g s d
  pub waits : (d : ℕ) → waiting_of g s' d ≡ waiting_of g s d
  pub bound : (d : ℕ) → is_bound g s' l' d ≡ is_bound g s l d

-- the parts that such a step may change
abbrev pub RestStays : Geometry → State → Lists → State → Lists → ℕ → Part → Type 0
RestStays g s l s' l' i (stacks seat p) = PartStays g s l s' l' i (stacks seat p)
RestStays g s l s' l' i (availables d) = PartStays g s l s' l' i (availables d)
RestStays g s l s' l' i events = own i s'.history ≡ own i s.history
RestStays g s l s' l' i (single n) = PartStays g s l s' l' i (single n)
RestStays g s l s' l' i p = Unit {0}

module _ {g : Geometry} {s : State} {l : Lists} {s' : State} {l' : Lists} (h : ShowsSuperblocks g s l s' l') where
  anchor-shows : (d : ℕ) → anchor_for s' d ≡ anchor_for s d
  anchor-shows d = ap anchor_of (h.word (name.Anchor d) tt)

  shows-lie : LieStill s s'
  shows-lie = record { words = λ n is. h.word n (lay-superblock n is) }

  info-shows : (d : ℕ) → info_for s' d ≡ info_for s d
  info-shows = info-stays shows-lie

  pub descs-show : SameDescs s s'
  descs-show = record { info = info-shows; anchor = anchor-shows }

  pub superblock-shows : (d : ℕ) → superblock_of g s' d ≡ superblock_of g s d
  superblock-shows d = grind (arith, info-shows, same-superblock, anchor-shows)

  pub owned-shows : (i place : ℕ) (n : Need) → IsOwned s i place n → IsOwned s' i place n
  owned-shows i place n = owned-stays s s' i place n (λ b live. ap (block_at place) h.pool ∙ live)

  -- each part stays, where those stay that may change
  pub shows-part : (i : ℕ) (p : Part) → RestStays g s l s' l' i p → PartStays g s l s' l' i p
  shows-part i (bindings d) rest = λ bound. (subst IsTrue (sym (h.bound d)) bound, lies-same s s' d (info-shows d))
  shows-part i (places d) rest = lies-same s s' d (info-shows d)
  shows-part i (chains d) rest = λ here. chain-same g s s' d (superblock-shows d)
  shows-part i (stacks seat p) rest = rest
  shows-part i (link_words f c blocks) rest = λ k below. h.word (prefix_name f c k) tt
  shows-part i (availables d) rest = rest
  shows-part i events rest = record { own_events = rest; owned = owned-shows i }
  shows-part i (single n) rest = rest
  shows-part i constant rest = tt

  pub chained-shows : AreChained g s l → AreChained g s' l'
  chained-shows chained = grind (arith, chained, superblock-shows)

  pub framed-shows :
      ((f : ℕ) → occurs f l'.frames + callers_sum g (errand_frames f) s'.errand ≡ occurs f l.frames + callers_sum g (errand_frames f) s.errand)
      → IsFramed g s l → IsFramed g s' l'
  framed-shows frames framed = grind (arith, frames, framed, sum-same, info-shows)

  -- the words still show the pool, where those of the units and of the shelves stay
  pub tied-shows :
      (caller : ℕ) (e : ErrandFields) → Moves s.errand caller e s'.errand → s'.word name.Units ≡ s.word name.Units
      → ((k : ℕ) → s'.word (name.Shelf k) ≡ s.word (name.Shelf k))
      → ((place : ℕ) → Excepts (s.errand caller) place → Excepts e place ⊎ IsSaidAt g s l place)
      → All (λ x. IsOwned s caller x.place x.need) (holds_of e.point).hands → All (λ x. IsOwned s caller x.place x.need) (holds_of e.point).frees
      → IsTied g s l → IsTied g s' l'
  tied-shows caller e moves units shelf excepts hands frees =
      blocks-stay g s l l' caller e s' moves (record { arena = λ place. h.word (name.Arena place) tt; units = units; shelf = shelf }) h.pool
      (λ place c b d live is. block-stays g s l s' l' place c d (info-shows d) (subst IsTrue (sym (h.bound d))))
      excepts (λ k d lt. owned-shows caller _ _ (hands k d lt)) (λ k d lt. owned-shows caller _ _ (frees k d lt))
