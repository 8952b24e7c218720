-- After a won pop the words still show the pool of the events, and the events are legal.
use Rattle.std.proofs.Common.{ℕ, ◌≡◌, [], refl, ap, inl, inr, ◌∙◌, nat_lt, arith}
use Rattle.std.proofs.lemmas.Bool.{cases_Bool}
use Rattle.sound_state.proofs.Common.{Geometry, AnchorFields, Site, Share, IsLegalWithoutCounts, ErrandFields, State, Holding, holds_before_pop, Lists}
use Rattle.sound_state.proofs.Common.{IsSoundWithoutCounts, IsSoundWith, IsTied, more_of, block_handed}
use Rattle.sound_state.proofs.pops.PopEffects.{Pops, popped_holds}
use Rattle.sound_state.proofs.pops.PopFacts.{popped-info, popped-bound, popped-none, popped-here, popped-there, popped-holds, popped-write}
use Rattle.sound_state.proofs.shared.GivenBlocks.{Gives, given-legal, given-tied}
use Rattle.sound_state.proofs.shared.SuperblockEffects.{anchor-ties}
use Rattle.sound_state.proofs.shared.HoldingEffects.{bare-before}

-- a caller that pops hands out and frees nothing before it, and hands out the popped block after it
hands-before : (d class : ℕ) (share : Share) → (holds_before_pop d class share).hands ≡ []
hands-before d class share = grind (arith)

frees-before : (d class : ℕ) (share : Share) → (holds_before_pop d class share).frees ≡ []
frees-before d class share = grind (arith)

popped-hands : (at : Site) (i more : ℕ) → (popped_holds at i more).hands ≡ block_handed at i
popped-hands at i more = elim (cases_Bool (nat_lt 0 more)) [ inl some ↦ rw some refl | inr none ↦ rw none refl ]

popped-frees : (at : Site) (i more : ℕ) → (popped_holds at i more).frees ≡ []
popped-frees at i more = elim (cases_Bool (nat_lt 0 more)) [ inl some ↦ rw some refl | inr none ↦ rw none refl ]

module _
    {g : Geometry} {s : State} {l : Lists} {caller : ℕ} {at : Site} {share : Share} {a : AnchorFields} {link words : ℕ} {e : ErrandFields}
    {s' : State} (h : Pops g s l caller at share a link words e s') where
  -- a won pop gives its caller the first available block
  pops-give : IsSoundWithoutCounts g s → IsSoundWith g s l → Gives g s l caller at a.avail words e s'
  pops-give sound is = record {
    in_heap = h.in_heap;
    moves = h.moves;
    site = h.site;
    index = h.fits.avail;
    small = h.small;
    bound = h.bound;
    located = h.located;
    history = h.history;
    none = popped-none h sound is;
    here = popped-here h;
    there = popped-there h;
    tie_words = anchor-ties (popped-write h);
    info = popped-info h;
    bounds = popped-bound h;
    bare = bare-before (popped-holds h) (hands-before at.desc at.seat.class share) (frees-before at.desc at.seat.class share);
    hands = ap (λ (o : Holding). o.hands) h.holds_after ∙ popped-hands at a.avail (more_of share a);
    frees = ap (λ (o : Holding). o.frees) h.holds_after ∙ popped-frees at a.avail (more_of share a);
  }

  pub popped-legal : IsSoundWithoutCounts g s → IsSoundWith g s l → IsLegalWithoutCounts g s'.history
  popped-legal sound is = given-legal (pops-give sound is) sound is

  pub popped-tied : IsSoundWithoutCounts g s → IsSoundWith g s l → IsTied g s' l
  popped-tied sound is = given-tied (pops-give sound is) is
