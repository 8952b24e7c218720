-- A step that takes the first index off a stack, or puts one in front, keeps the state sound, with the list that is left.
use Rattle.std.proofs.Common.{ℕ, ◌≡◌, ◌<◌, ◌≤◌, refl, arith, ap, sym, subst, inl, inr, ◌∙◌, Bool, true, false, ◌==◌, ◌&&◌, not, All}
use Rattle.sound_state.proofs.Common.{Geometry, anchor_of, is_empty, WordName, descriptor_count, Pile, Frames, Partials, next_name, occurs, own, pool_of}
use Rattle.sound_state.proofs.Common.{ErrandFields, State, IsKept, IsWithout, Lists, IsSoundWith, IsFormed, Point, sum_below, anchor_for, away_of, is_bound, IsTurned}
use Rattle.sound_state.proofs.Common.{one_if, emptied_out, IsRemembered, IsSaidWord, Part, stacks, availables, events, single}
use Rattle.packed_words.specs.declared.anchor.AnchorState.{AnchorState as Phase}
use Rattle.packed_words.specs.declared.anchor.AnchorState.TheVariants as phase
use Rattle.word_table.specs.declared.name.WordName.TheVariants as name
use Rattle.sound_state.proofs.shared.BackedRecalls.{AllRead, fits-next, recalls-stay, remembered-stays}
use Rattle.sound_state.proofs.stacks.StackEffects.{Restacks, IsNoHead}
use Rattle.sound_state.proofs.shared.SumLemmas.{sum-least}
use Rattle.sound_state.proofs.shared.TurnEffects.{OwnCounts, no-event, turned-after}
use Rattle.sound_state.proofs.shared.RecallFrame.{PartStays}
use Rattle.sound_state.proofs.shared.SuperblocksStay.{IsSuperblockWord, RestStays, ShowsSuperblocks, actives-same, descs-kept, descs-show, shows-part}

-- a word that recalls name is no head
said-no_head : (n : WordName) → IsSaidWord n → IsNoHead n
said-no_head n said = grind (arith)

-- a word of a superblock is no head
superblock-no_head : (n : WordName) → IsSuperblockWord n → IsNoHead n
superblock-no_head n is = grind (arith)

-- a descriptor whose superblock is EMPTY isn't bound
empty-unbound : (b : Bool) (p : Phase) → p ≡ phase.Empty → (b && not (is_empty p)) ≡ false
empty-unbound true p is = rw is refl
empty-unbound false p is = refl

-- no more superblocks are EMPTY and out, where their descriptors are no less away
out-least : (m n : ℕ) (b : Bool) → m ≤ n → one_if ((n == 0) && b) ≤ one_if ((m == 0) && b)
out-least m n b most = grind (arith, most)

module _ {g : Geometry} {s : State} {l : Lists} {caller : ℕ} {e : ErrandFields} {s' : State} {l' : Lists} (h : Restacks g s l caller e s' l') where
  anchor-restacked : (d : ℕ) → anchor_for s' d ≡ anchor_for s d
  anchor-restacked d = ap anchor_of (h.word (name.Anchor d) tt)

  bound-restacked : (d : ℕ) → is_bound g s' l' d ≡ is_bound g s l d
  bound-restacked d = grind (arith, anchor-restacked, anchor_for, away_of, empty-unbound)

  out-restacked : (d : ℕ) → emptied_out g s' l' d ≤ emptied_out g s l d
  out-restacked d =
      let grows : away_of g s l d ≤ away_of g s' l' d =
      elim (h.away d) [
        | inl same ↦ omega (arith, same, ap (occurs d) h.available)
        | inr more ↦ omega (arith, more.1, ap (occurs d) h.available)
      ] in
      subst (λ a. one_if ((away_of g s' l' d == 0) && is_empty a.state) ≤ emptied_out g s l d) (sym (anchor-restacked d))
      (out-least (away_of g s l d) (away_of g s' l' d) (is_empty (anchor_for s d).state) grows)

  pub restacked-superblocks : ShowsSuperblocks g s l s' l'
  restacked-superblocks = grind (arith, bound-restacked, pool_of, superblock-no_head)

  next-restacked : (p : Pile) (i : ℕ) → s'.word (next_name p i) ≡ s.word (next_name p i)
  next-restacked Frames i = h.word (name.FrameNext i) tt
  next-restacked Partials i = h.word (name.Next i) tt

  -- the parts that may change stay
  restacked-part : (i : ℕ) (p : Part) → RestStays g s l s' l' i p
  restacked-part i (stacks seat p) =
      λ class. record {
        tag = h.tag seat p;
        list = λ same k on. omega (arith, on, h.still seat p same k);
        next = λ same k on. next-restacked p k;
      }
  restacked-part i (availables d) = record {
    emptied = λ so. record {
      state = ap (λ a. a.state) (anchor-restacked d) ∙ so.state;
      unavailable = ap (occurs d) h.available ∙ so.unavailable;
      standing = omega (arith, h.ways d, so.standing);
    };
    next = λ on. (subst (λ x. 0 < occurs d x) h.available on, h.word (name.Next d) tt);
  }
  restacked-part i events = ap (own i) h.history
  restacked-part i (single n) = λ said. h.word n (said-no_head n said)
  restacked-part i p = tt

  pub kept-restacked : IsKept g s l → IsKept g s' l'
  kept-restacked kept =
      descs-kept g s caller e s' l l'
      (record {
        moves = h.moves;
        descs = descs-show restacked-superblocks;
        places = h.places;
        actives = actives-same g s l s'.word kept (λ heap class. h.word (name.Active heap class) tt) (λ heap class. h.word (name.Slot heap class) tt);
        listed = h.partly;
        available = subst (All (IsWithout s)) (sym h.available) kept.available;
        retired = h.may.retired;
        own = h.may.point.kept;
      })
      kept

  stays-restacked : (i : ℕ) (p : Point) → AllRead (PartStays g s l s' l' i) p
  stays-restacked i p = λ k d lt. shows-part restacked-superblocks i _ (restacked-part i _)

  pub remembered-restacked : IsSoundWith g s l → IsFormed g s' → IsRemembered g s' l'
  remembered-restacked old formed =
      remembered-stays g s l caller e s' l' h.moves old.formed.errands (λ i has ne. old.remembered.so i has)
      (recalls-stay g s l caller s' l' e.point (fits-next g s caller e s' formed h.in_heap h.moves) h.may.point.so (stays-restacked caller e.point))
      (λ i has ne. stays-restacked i (s.errand i).point)

  pub turned-restacked : IsTurned g s l → IsTurned g s' l'
  turned-restacked turned =
      let emptied_less : sum_below (descriptor_count g) (emptied_out g s' l') ≤ sum_below (descriptor_count g) (emptied_out g s l) =
      sum-least (descriptor_count g) (emptied_out g s' l') (emptied_out g s l) (λ d lt. out-restacked d) in
      let events = no-event g caller s.history s'.history h.history in
      turned-after g s l caller e s' l' 0 0
      (record {
        in_heap = h.in_heap;
        moves = h.moves;
        events = events;
        counts = subst (λ past. OwnCounts caller past e) (sym h.history) h.counts;
        anchor_tags = λ d has. omega (arith, ap (λ a. a.tag) (anchor-restacked d));
        frame_turns = h.frame_turns;
        emptied = omega (arith, emptied_less, h.cleared);
        list_turns = λ class has. omega (arith, h.list_turns class, h.cleared);
      })
      turned
