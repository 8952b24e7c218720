-- What lanes without caches check and copy was written, as it is through caches without room.
use Rattle.std.proofs.Common.{get_or, subst, ◌++◌}
use Rattle.heap_geometry.specs.declared.limits.TheConstants.{CLASSES}
use Rattle.heap_geometry.specs.Need.{need_of}
use Rattle.pool_model.specs.Histories.{own, Begins}
use Rattle.pool_model.specs.Pool.{pool_of}
use Rattle.lane_outcomes.specs.Cached.{CachedPosition}
use Rattle.lane_outcomes.specs.Lane.{start, writing}
use Rattle.lane_outcomes.specs.Magazines.{empty_magazines, freeing, magazines_given}
use Rattle.lane_outcomes.specs.Standing.{setting_in}
use Rattle.lane_outcomes.specs.Written.{HoldsWritten, SumsWritten}
use Rattle.lane_outcomes.specs.WrittenThrough.{CopiesWrittenThrough}
use Rattle.lane_outcomes.proofs.CachedWritten.{check-through, resize-through, shelved-through, slots-written}
use Rattle.lane_outcomes.proofs.KeptLemmas.{kept-nothing}
use Rattle.lane_outcomes.proofs.RoomLemmas.{given-plain, none-kept, outcomes-room, plain, walks-plain, walks-room}
use Rattle.lane_outcomes.proofs.SlotLemmas.{slots}
use Rattle.lane_outcomes.proofs.laws.checked_words_were_written.Goals as goal

pub returns-clause-shelved : goal.returns-clause-shelved
returns-clause-shelved c =
    λ g history before lost lanes outcomes legal fit begins.
    shelved-through g history lost 0 lanes outcomes 0 legal (outcomes-room g history lost lanes outcomes fit) before begins

pub returns-clause-held : goal.returns-clause-held
returns-clause-held c =
    λ g setting lost lanes outcomes operations results position legal fit walks moment.
    subst (λ kept. HoldsWritten (pool_of moment.before) (slots kept position.registers)) (kept-nothing 0 CLASSES)
    (slots-written g setting.history lost 0 lanes outcomes 0 legal (outcomes-room g setting.history lost lanes outcomes fit) setting.caller setting.turn_limit
    setting.lost operations results (plain position) (walks-room setting start position operations results walks) moment)

pub returns-clause-checked : goal.returns-clause-checked
returns-clause-checked c =
    λ g history lost lanes outcomes lane r total earlier later results more legal fit operations_are results_are same.
    let setting = setting_in history lane g.turn_limit lost in
    let (position, walks, sums) = check-through g history lost 0 lanes outcomes 0 legal (outcomes-room g history lost lanes outcomes fit) lane r total earlier
    later results more operations_are results_are same in
    let it = walks-plain setting start position earlier results walks in
    (it.0, it.2, subst (λ (p : CachedPosition). SumsWritten setting p.base r total) it.1 sums)

pub returns-clause-copied : goal.returns-clause-copied
returns-clause-copied c =
    λ g history lost lanes outcomes lane r need words place earlier later results more legal fit operations_are results_are same.
    let setting = setting_in history lane g.turn_limit lost in
    let (position, walks, through) = resize-through g history lost 0 lanes outcomes 0 legal (outcomes-room g history lost lanes outcomes fit) lane r need words
    place earlier later results more operations_are results_are same in
    let it = walks-plain setting start position earlier results walks in
    let copy = subst (λ p. CopiesWrittenThrough setting 0 p r need words place) it.1 through in (
      it.0,
      it.2,
      record {
        held = copy.held;
        holds = copy.holds;
        moment = copy.moment;
        block = copy.block;
        live = copy.live;
        values = copy.values;
        written = copy.written;
        calls = copy.calls;
        allocates = (given-plain setting it.0 need place copy.calls copy.allocates).1;
        goes_on =
            subst
            (λ keeps. Begins
            (it.0.done ++ (copy.calls ++ writing lane place words (λ i. get_or copy.values i 0) ++ freeing lane keeps copy.held.place))
            (own lane history)) (none-kept (magazines_given empty_magazines (need_of need)) copy.held.need) copy.goes_on;
      },
    )
