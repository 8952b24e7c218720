-- What is remembered stays so, where the part that it reads stays.
use Rattle.std.proofs.Common.{ℕ, ◌≡◌, ◌<◌, ◌≤◌, ◌∙◌, ◌-◌, ap, arith, sym, subst, IsTrue}
use Rattle.word_table.specs.declared.name.WordName.TheVariants as name
use Rattle.sound_state.specs.Recalls.{IsPopped, IsTopStill}
use Rattle.errand_steps.specs.tables.Recall.{tops, nexts, owns, owns_all}
use Rattle.sound_state.proofs.Common.{IsEmptied, list_of, CLASSES, Geometry, Lists, Need, Pile, Recall, SeatFields, Site}
use Rattle.sound_state.proofs.Common.{State, IsLocated, IsOwned, IsSo, anchor_for, descriptor_count, free_chain, head_name}
use Rattle.sound_state.proofs.Common.{head_of, info_for, is_bound, links, next_name, occurs, own, pops, prefix_name, superblock_of}
use Rattle.sound_state.proofs.Common.{IsSaidWord, Part, part_of, bindings, places, chains, stacks, link_words, availables, events, single, constant}

-- the recall reads such a part
abbrev pub Reads : (Part → Type 0) → Recall → Type 0
Reads P r = P (part_of r)

-- the heap has d, and d has a superblock
abbrev pub IsHere : Geometry → State → Lists → ℕ → Type 0
IsHere g s l d = (d < descriptor_count g) × IsTrue (is_bound g s l d)

-- the superblock at hand is bound, and lies there
abbrev pub LiesAt : Geometry → State → Lists → Site → Type 0
LiesAt g s l at = IsTrue (is_bound g s l at.desc) × IsLocated s at.desc at.frame at.seat.class

-- what stands beside a recall: the superblock of an anchor that was read, the stack of a head, and what was read before a link or a next word
abbrev pub IsBacked : Geometry → State → Lists → Recall → Type 0
IsBacked g s l (pops d a) = IsHere g s l d
IsBacked g s l (links d a prefix) = IsHere g s l d × IsPopped (superblock_of g s d) a
IsBacked g s l (tops seat pile h) = seat.class < CLASSES
IsBacked g s l (nexts seat pile h below) = (seat.class < CLASSES) × IsTopStill s l seat pile h
IsBacked g s l r = Unit {0}

-- the descriptor's info word names the same frame and class in both states
abbrev pub LiesSame : State → State → ℕ → Type 0
LiesSame s s' d = ((info_for s' d).frame ≡ (info_for s d).frame) × ((info_for s' d).class ≡ (info_for s d).class)

-- a tag doesn't fall, and while it is the same, free blocks stay free and have their links
pub record ChainStays (g : Geometry) (s s' : State) (d : ℕ) : Type 0 where
  pub tag : (anchor_for s d).tag ≤ (anchor_for s' d).tag
  pub chain :
      (anchor_for s d).tag ≡ (anchor_for s' d).tag → (k : ℕ) → 0 < occurs k (free_chain (superblock_of g s d))
      → 0 < occurs k (free_chain (superblock_of g s' d))
  pub next :
      (anchor_for s d).tag ≡ (anchor_for s' d).tag → (k : ℕ) → 0 < occurs k (free_chain (superblock_of g s d))
      → (superblock_of g s' d).next k ≡ (superblock_of g s d).next k

-- a tag doesn't fall, and while it is the same, indexes stay on the stack and have their next words
pub record StackStays (s : State) (l : Lists) (s' : State) (l' : Lists) (seat : SeatFields) (p : Pile) : Type 0 where
  pub tag : (head_of (s.word (head_name seat p))).tag ≤ (head_of (s'.word (head_name seat p))).tag
  pub list :
      (head_of (s.word (head_name seat p))).tag ≡ (head_of (s'.word (head_name seat p))).tag → (k : ℕ) → 0 < occurs k (list_of l seat p)
      → 0 < occurs k (list_of l' seat p)
  pub next :
      (head_of (s.word (head_name seat p))).tag ≡ (head_of (s'.word (head_name seat p))).tag → (k : ℕ) → 0 < occurs k (list_of l seat p)
      → s'.word (next_name p k) ≡ s.word (next_name p k)

-- a descriptor that is EMPTY stays so, and one that is available was so, and keeps its next word
pub record AvailableStays (g : Geometry) (s : State) (l : Lists) (s' : State) (l' : Lists) (d : ℕ) : Type 0 where
  pub emptied : IsEmptied g s l d → IsEmptied g s' l' d
  pub next : 0 < occurs d l'.available → (0 < occurs d l.available) × (s'.word (name.Next d) ≡ s.word (name.Next d))

-- a caller keeps its own events, and its blocks
pub record EventsStay (s s' : State) (i : ℕ) : Type 0 where
  pub own_events : own i s'.history ≡ own i s.history
  pub owned : (place : ℕ) (n : Need) → IsOwned s i place n → IsOwned s' i place n

-- the part still says what is recalled of it
abbrev pub PartStays : Geometry → State → Lists → State → Lists → ℕ → Part → Type 0
PartStays g s l s' l' i (bindings d) = IsTrue (is_bound g s l d) → IsTrue (is_bound g s' l' d) × LiesSame s s' d
PartStays g s l s' l' i (places d) = LiesSame s s' d
PartStays g s l s' l' i (chains d) = IsHere g s l d → ChainStays g s s' d
PartStays g s l s' l' i (stacks seat pile) = seat.class < CLASSES → StackStays s l s' l' seat pile
PartStays g s l s' l' i (link_words f c blocks) = (k : ℕ) → k < blocks → s'.word (prefix_name f c k) ≡ s.word (prefix_name f c k)
PartStays g s l s' l' i (availables d) = AvailableStays g s l s' l' d
PartStays g s l s' l' i events = EventsStay s s' i
PartStays g s l s' l' i (single n) = IsSaidWord n → s'.word n ≡ s.word n
PartStays g s l s' l' i constant = Unit {0}

-- a descriptor's word that stays, a superblock that stays, and a stack whose words stay
pub lies-same : (s s' : State) (d : ℕ) → info_for s' d ≡ info_for s d → LiesSame s s' d
lies-same s s' d same = (ap (λ x. x.frame) same, ap (λ x. x.class) same)

pub chain-same : (g : Geometry) (s s' : State) (d : ℕ) → superblock_of g s' d ≡ superblock_of g s d → ChainStays g s s' d
chain-same g s s' d same = record {
  tag = omega (arith, ap (λ b. b.anchor.tag) same);
  chain = λ is k. subst (λ b. 0 < occurs k (free_chain b)) (sym same);
  next = λ is k on. ap (λ b. b.next k) same;
}

pub stack-same :
    (s : State) (l : Lists) (s' : State) (l' : Lists) (seat : SeatFields) (p : Pile) → s'.word (head_name seat p) ≡ s.word (head_name seat p)
    → list_of l' seat p ≡ list_of l seat p → ((k : ℕ) → s'.word (next_name p k) ≡ s.word (next_name p k)) → StackStays s l s' l' seat p
stack-same s l s' l' seat p head list next = grind (arith, head, list, next)

-- a tag that was read, and is the word's after a step, was the word's before it
same-tag : (t x y : ℕ) → t ≤ x → x ≤ y → t ≡ y → (x ≡ y) × (t ≡ x)
same-tag t x y first second is = (omega (arith, first, second, is), omega (arith, first, second, is))

-- what is remembered stays so, where what it reads stays
pub so-stays :
    (g : Geometry) (s : State) (l : Lists) (s' : State) (l' : Lists) (i : ℕ) (r : Recall) → Reads (PartStays g s l s' l' i) r → IsBacked g s l r
    → IsSo g s l i r → IsSo g s' l' i r
so-stays g s l s' l' i (pops d a) stay backed so =
    let kept = stay backed in
    record {
      tag = omega (arith, so.tag, kept.tag);
      first = λ is.
          let same = same-tag a.tag (anchor_for s d).tag (anchor_for s' d).tag so.tag kept.tag is in kept.chain same.0 a.avail (so.first same.1);
    }
so-stays g s l s' l' i (links d a prefix) stay backed so =
    λ is.
    let kept = stay backed.0 in
    let same = same-tag a.tag (anchor_for s d).tag (anchor_for s' d).tag backed.1.tag kept.tag is in
    kept.next same.0 a.avail (backed.1.first same.1) ∙ so same.1
so-stays g s l s' l' i (tops seat p h) stay backed so =
    let kept = stay backed in
    record {
      tag = omega (arith, so.tag, kept.tag);
      top = λ is.
          let same = same-tag h.tag (head_of (s.word (head_name seat p))).tag (head_of (s'.word (head_name seat p))).tag so.tag kept.tag is in
          kept.list same.0 (h.top - 1) (so.top same.1);
    }
so-stays g s l s' l' i (nexts seat p h below) stay backed so =
    λ is.
    let kept = stay backed.0 in
    let same = same-tag h.tag (head_of (s.word (head_name seat p))).tag (head_of (s'.word (head_name seat p))).tag backed.1.tag kept.tag is in
    kept.next same.0 (h.top - 1) (backed.1.top same.1) ∙ so same.1
so-stays g s l s' l' i (owns place k) stay backed so = (so.0, stay.owned place so.0 so.1, so.2)
so-stays g s l s' l' i (owns_all place n) stay backed so = stay.owned place n so
so-stays g s l s' l' i r stay backed so = grind (arith, stay, so)
