-- What an effect on superblocks leaves of the parts that other callers' recalls read.
use Rattle.std.proofs.Common.{ℕ, true, ◌≡◌, ◌≢◌, ◌<◌, refl, arith, ap, sym, subst, ◌∙◌, IsTrue}
use Rattle.std.specs.List.{AllByRecursion}
use Rattle.std.proofs.lemmas.List.Elements.{All-from_recursion}
use Rattle.sound_state.proofs.Common.{Geometry, Need, WordName, Site, SeatFields, occurs, prefix_name, Pile, head_name, next_name, is_empty, own, ErrandFields, State}
use Rattle.sound_state.proofs.Common.{Moves, on_its_way, Lists, IsLocated, IsSo, IsOwned, recalls_of, callers_sum, IsSoundWith, anchor_for, info_for}
use Rattle.sound_state.proofs.Common.{superblock_of, free_chain, reserved_of, is_bound, errand_keeps, IsEmptied, IsRemembered}
use Rattle.sound_state.proofs.Common.{IsSaidWord, Part, bindings, places, chains, stacks, link_words, availables, events, single, constant}
use Rattle.packed_words.specs.declared.anchor.AnchorState.{AnchorState as Phase}
use Rattle.packed_words.specs.declared.anchor.AnchorState.TheVariants as phase
use Rattle.word_table.specs.declared.name.WordName.TheVariants as name
use Rattle.sound_state.proofs.shared.BackedRecalls.{AllRead, remembered-stays}
use Rattle.sound_state.proofs.shared.RecallFrame.{ChainStays, IsHere, PartStays, LiesAt}
use Rattle.sound_state.proofs.shared.RecallFrame.{lies-same, stack-same}
use Rattle.sound_state.proofs.shared.SuperblockEffects.{IsLayWord, LieStill, info-stays, next-stays}
use Rattle.sound_state.proofs.shared.TieLemmas.{located-stays}

-- a word of a stack, an info word or a next word, or one of the arena
abbrev pub IsSteadyWord : WordName → Type 0
IsSteadyWord (name.Arena place) = Unit {0}
IsSteadyWord (name.Next d) = Unit {0}
IsSteadyWord (name.Info d) = Unit {0}
IsSteadyWord (name.ListHead class) = Unit {0}
IsSteadyWord (name.FrameNext f) = Unit {0}
IsSteadyWord name.FrameHead = Unit {0}
IsSteadyWord n = ⊥

steady-head : (seat : SeatFields) (p : Pile) → IsSteadyWord (head_name seat p)
steady-head seat p = grind (arith)

steady-next : (p : Pile) (k : ℕ) → IsSteadyWord (next_name p k)
steady-next p k = grind (arith)

lay-steady : (n : WordName) → IsLayWord n → IsSteadyWord n
lay-steady n is = grind (arith, is)

-- all words of stacks, of where superblocks lie and of the arena are what they were
abbrev pub AreSteady : State → State → Type 0
AreSteady s s' = (n : WordName) → IsSteadyWord n → s'.word n ≡ s.word n

-- an effect leaves steady words, a caller's events and blocks, and what is EMPTY
pub record Leaves (g : Geometry) (s : State) (l : Lists) (s' : State) (i : ℕ) : Type 0 where
  pub steady : AreSteady s s'
  pub events : own i s'.history ≡ own i s.history
  pub owned : (place : ℕ) (n : Need) → IsOwned s i place n → IsOwned s' i place n
  pub empty : (d : ℕ) → IsEmptied g s l d → is_empty (anchor_for s' d).state ≡ is_empty (anchor_for s d).state
  pub ways :
      (d : ℕ) → IsEmptied g s l d
      → callers_sum g (errand_keeps on_its_way d) s'.errand ≡ callers_sum g (errand_keeps on_its_way d) s.errand

-- what it must leave beside that, by the part that is read: what is bound, a chain, or a word
abbrev pub IsLeft : Geometry → State → Lists → State → Part → Type 0
IsLeft g s l s' (bindings d) = IsTrue (is_bound g s l d) → IsTrue (is_bound g s' l d)
IsLeft g s l s' (chains d) = IsHere g s l d → ChainStays g s s' d
IsLeft g s l s' (single n) = IsSaidWord n → s'.word n ≡ s.word n
IsLeft g s l s' p = Unit {0}

-- an anchor state that is EMPTY is that state
pub empty-is : (p : Phase) → is_empty p ≡ true → p ≡ phase.Empty
empty-is p is = grind (arith, is)

-- two states in which superblocks lie alike, with the same links
module _ (g : Geometry) (s : State) (l : Lists) (s' : State) (steady : AreSteady s s') where
  steady-lie : LieStill s s'
  steady-lie = record { words = λ n is. steady n (lay-steady n is) }

  info-steady : (d : ℕ) → info_for s' d ≡ info_for s d
  info-steady = info-stays steady-lie

  pub links-steady : (d : ℕ) → (superblock_of g s' d).next ≡ (superblock_of g s d).next
  links-steady = next-stays steady-lie g

  -- a chain that gains at most, under the same tag
  pub chain-gains :
      (d : ℕ) → (anchor_for s' d).tag ≡ (anchor_for s d).tag
      → ((k : ℕ) → 0 < occurs k (free_chain (superblock_of g s d)) → 0 < occurs k (free_chain (superblock_of g s' d))) → ChainStays g s s' d
  chain-gains d tag gains = record {
    tag = omega (arith, tag);
    chain = λ same. gains;
    next = λ same k on. ap (λ f. f k) (links-steady d);
  }

  -- the chain of a superblock with the same anchor, of which as much is reserved
  pub chain-steady : (d : ℕ) → anchor_for s' d ≡ anchor_for s d → reserved_of g s' d ≡ reserved_of g s d → ChainStays g s s' d
  chain-steady d anchor reserved =
      let chain : free_chain (superblock_of g s' d) ≡ free_chain (superblock_of g s d) = rw (links-steady d, anchor, reserved) refl in
      chain-gains d (ap (λ x. x.tag) anchor) (λ k. subst (λ xs. 0 < occurs k xs) (sym chain))

  -- a bound superblock lies where it lay
  pub lies-still : (at : Site) → IsTrue (is_bound g s' l at.desc) → IsLocated s at.desc at.frame at.seat.class → LiesAt g s' l at
  lies-still at bound lies = (bound, located-stays s s' at.desc at.frame at.seat.class (info-steady at.desc) lies)

-- each part that is left so stays
left-part : (g : Geometry) (s : State) (l : Lists) (s' : State) (i : ℕ) → Leaves g s l s' i → (p : Part) → IsLeft g s l s' p → PartStays g s l s' l i p
left-part g s l s' i h (bindings d) left = λ bound. (left bound, lies-same s s' d (info-steady g s l s' h.steady d))
left-part g s l s' i h (places d) left = lies-same s s' d (info-steady g s l s' h.steady d)
left-part g s l s' i h (chains d) left = left
left-part g s l s' i h (stacks seat p) left =
    λ class. stack-same s l s' l seat p (h.steady (head_name seat p) (steady-head seat p)) refl (λ k. h.steady (next_name p k) (steady-next p k))
left-part g s l s' i h (link_words f c blocks) left = λ k below. h.steady (prefix_name f c k) tt
left-part g s l s' i h (availables d) left = record {
  emptied = λ so. record {
    state = empty-is (anchor_for s' d).state (h.empty d so ∙ ap is_empty so.state);
    unavailable = so.unavailable;
    standing = h.ways d so ∙ so.standing;
  };
  next = λ on. (on, h.steady (name.Next d) tt);
}
left-part g s l s' i h events left = record { own_events = h.events; owned = h.owned }
left-part g s l s' i h (single n) left = left
left-part g s l s' i h constant left = tt

-- all that is remembered is so after it, where its caller has what it needs
pub remembered-left :
    (g : Geometry) (s : State) (l : Lists) (caller : ℕ) (e : ErrandFields) (s' : State) → Moves s.errand caller e s'.errand
    → AllByRecursion (IsSo g s' l caller) (recalls_of e.point) → ((i : ℕ) → i < g.callers → i ≢ caller → Leaves g s l s' i)
    → ((i : ℕ) → i < g.callers → i ≢ caller → AllRead (IsLeft g s l s') (s.errand i).point) → IsSoundWith g s l → IsRemembered g s' l
remembered-left g s l caller e s' moves mine leaves left old =
    remembered-stays g s l caller e s' l moves old.formed.errands (λ i has ne. old.remembered.so i has)
    (All-from_recursion (IsSo g s' l caller) (recalls_of e.point) mine)
    (λ i has ne k d lt. left-part g s l s' i (leaves i has ne) _ (left i has ne k d lt))
