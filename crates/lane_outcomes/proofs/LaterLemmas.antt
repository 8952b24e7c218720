-- Outcomes that fit a history still fit it when other callers' events are added.
use Rattle.std.proofs.Common.{ℕ, ◌≡◌, ◌≤◌, ◌∷◌, ◌++◌, List, [], Option, Some, None, ap, ◌∙◌, append-nil}
use Rattle.heap_geometry.specs.Need.{need_of}
use Rattle.pool_model.specs.declared.event.Event.{Event}
use Rattle.pool_model.specs.Histories.{own}
use Rattle.pool_model.proofs.HistoryLemmas.{own-append}
use Rattle.trace_text.specs.declared.trace.Op.{Op}
use Rattle.lane_outcomes.specs.declared.outcome.Outcome.{Outcome}
use Rattle.lane_outcomes.specs.Rows.{Setting}
use Rattle.lane_outcomes.proofs.FitLemmas.{row-later}
use Rattle.lane_outcomes.proofs.SlotRows.{copy-later, later}
use Rattle.lane_outcomes.specs.Fits.{Fits}
use Rattle.lane_outcomes.proofs.RoomLemmas.{fits-plain, fits-room}
use Rattle.lane_outcomes.specs.Cached.{CachedBy, CachedFits, CachedPosition, CachedRow, CachedWalks, IsGivenBy, cached_after}
use Rattle.lane_outcomes.specs.Magazines.{served_by}
use Rattle.lane_outcomes.specs.Deeds.{Deed, deed_of}
use Rattle.lane_outcomes.specs.Deeds as deed

module _ (setting : Setting) (rest : List Event) (lost depth : ℕ) where
  given-later :
      (position : CachedPosition) (need place : ℕ) (calls : List Event) (served : Option ℕ) → IsGivenBy served setting position need place calls
      → IsGivenBy served (later setting rest lost) position need place calls
  given-later position need place calls None is = is
  given-later position need place calls (Some at) is = is

  -- a row with a cache that fits a setting fits one with a longer history and more exchanges lost
  by-later :
      setting.lost ≤ lost → (position : CachedPosition) (operation : Op) (result : Outcome) (piece : List Event) (done : Deed)
      → CachedBy setting depth position operation result piece done → CachedBy (later setting rest lost) depth position operation result piece done
  by-later more position operation result piece (deed.gives need v words place) (empty, words_are, calls, given, is) =
      (empty, words_are, calls, given-later position need place calls (served_by position.magazines (need_of need)) given, is)
  by-later more position operation result piece (deed.replaces need words place) (held, full, differ, words_are, calls, given, value, copy, is) = (
    held,
    full,
    differ,
    words_are,
    calls,
    given-later position need place calls (served_by position.magazines (need_of need)) given,
    value,
    copy-later setting rest lost position.base held words value copy,
    is,
  )
  by-later more position operation result piece (deed.refuses need) row = (row.0, row-later setting rest lost more position.base operation result piece row.1)
  by-later more position operation result piece (deed.spends need) row = (row.0, row-later setting rest lost more position.base operation result piece row.1)
  by-later more position operation result piece deed.frees row = row
  by-later more position operation result piece done row = row-later setting rest lost more position.base operation result piece row

  pub cached-row-later :
      setting.lost ≤ lost → (position : CachedPosition) (operation : Op) (result : Outcome) (piece : List Event)
      → CachedRow setting depth position operation result piece → CachedRow (later setting rest lost) depth position operation result piece
  cached-row-later more position operation result piece = by-later more position operation result piece (deed_of operation result)

  -- a walk with a cache in a setting is one in a setting with a longer history and more exchanges lost
  pub cached-walks-later :
      setting.lost ≤ lost → (from to : CachedPosition) (operations : List Op) (results : List Outcome)
      → CachedWalks setting depth from operations results to → CachedWalks (later setting rest lost) depth from operations results to
  cached-walks-later more from to (operation ∷ operations) (result ∷ results) (piece, row, walks) = (
    piece,
    cached-row-later more from operation result piece row,
    cached-walks-later more (cached_after depth from operation result piece) to operations results walks,
  )
  cached-walks-later more from to operations results walks = walks

-- the outcomes of a lane fit a history that other callers went on with
pub cached-fits-later :
    (setting : Setting) (rest : List Event) (lost depth : ℕ) (operations : List Op) (results : List Outcome) (hits : ℕ)
    → setting.lost ≤ lost → own setting.caller rest ≡ [] → CachedFits setting depth operations results hits
    → CachedFits (later setting rest lost) depth operations results hits
cached-fits-later setting rest lost depth operations results hits more none fits =
    record {
      end = fits.end;
      walks = cached-walks-later setting rest lost depth more _ fits.end operations results fits.walks;
      all_used =
          own-append setting.caller setting.history rest ∙ (ap (λ xs. own setting.caller setting.history ++ xs) none
          ∙ (append-nil (own setting.caller setting.history) ∙ fits.all_used));
      hits_are = fits.hits_are;
    }

-- so do those of a lane without a cache
pub fits-later :
    (setting : Setting) (rest : List Event) (lost : ℕ) (operations : List Op) (results : List Outcome)
    → setting.lost ≤ lost → own setting.caller rest ≡ [] → Fits setting operations results → Fits (later setting rest lost) operations results
fits-later setting rest lost operations results more none fits =
    (fits-plain (later setting rest lost) operations results 0
    (cached-fits-later setting rest lost 0 operations results 0 more none (fits-room setting operations results fits))).0
