-- After a won install the words still show the pool of the events, and the events are legal.
use Rattle.std.proofs.Common.{ℕ, ap, ◌∙◌, refl}
use Rattle.sound_state.proofs.Common.{Geometry, Need, Site, IsLegalWithoutCounts, ErrandFields, State, Holding, Lists, IsOwned, IsSoundWithoutCounts, IsSoundWith, IsTied}
use Rattle.word_table.specs.declared.name.WordName.TheVariants as name
use Rattle.sound_state.proofs.installs.InstallEffects.{Installs, first_place}
use Rattle.sound_state.proofs.installs.InstallFacts.{installed-info, installed-bound, installed-some, installed-none, installed-here, installed-there, installed-holds}
use Rattle.sound_state.proofs.shared.GivenBlocks.{Gives, given-legal, given-tied}
use Rattle.sound_state.proofs.shared.TieLemmas as ties
use Rattle.sound_state.proofs.shared.HoldingEffects.{bare-before}

module _
    {g : Geometry} {s : State} {l : Lists} {caller : ℕ} {at : Site} {words : ℕ} {e : ErrandFields} {s' : State}
    (h : Installs g s l caller at words e s') where
  -- an install gives the first block
  installs-give : IsSoundWith g s l → Gives g s l caller at 0 words e s'
  installs-give is = record {
    in_heap = h.in_heap;
    moves = h.moves;
    site = h.site;
    index = installed-some h is;
    small = h.small;
    bound = h.bound;
    located = h.located;
    history = h.history;
    none = installed-none h is;
    here = installed-here h;
    there = installed-there h;
    tie_words = record {
      arena = λ place. h.writes.elsewhere (name.Arena place) (λ same. cc);
      units = h.writes.elsewhere name.Units (λ same. cc);
      shelf = λ k. h.writes.elsewhere (name.Shelf k) (λ same. cc);
    };
    info = installed-info h;
    bounds = installed-bound h;
    bare = bare-before (installed-holds h) refl refl;
    hands = ap (λ (o : Holding). o.hands) h.holds_after;
    frees = ap (λ (o : Holding). o.frees) h.holds_after;
  }

  pub installed-legal : IsSoundWithoutCounts g s → IsSoundWith g s l → IsLegalWithoutCounts g s'.history
  installed-legal sound is = given-legal (installs-give is) sound is

  pub installed-tied : IsSoundWithoutCounts g s → IsSoundWith g s l → IsTied g s' l
  installed-tied sound is = given-tied (installs-give is) is

  -- a caller that owned a block owns it after a won install
  pub installed-still-owned : IsSoundWithoutCounts g s → IsSoundWith g s l → (i place : ℕ) (n : Need) → IsOwned s i place n → IsOwned s' i place n
  installed-still-owned sound is i place n k =
      ties.owned-stays s s' i place n
      (λ b live.
      installed-there h place
      (λ same. ties.not-live s (first_place at) place b (installed-none h is) same live) ∙ live) k
