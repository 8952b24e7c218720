use Rattle.std.proofs.Common.{subst}
use Rattle.heap_geometry.specs.declared.limits.TheConstants.{CLASSES}
use Rattle.pool_model.specs.Pool.{pool_of}
use Rattle.lane_outcomes.specs.Lane.{start}
use Rattle.lane_outcomes.specs.Standing.{HoldsOwn}
use Rattle.lane_outcomes.proofs.CachedLemmas.{lane-holds}
use Rattle.lane_outcomes.proofs.KeptLemmas.{kept-nothing}
use Rattle.lane_outcomes.proofs.RoomLemmas.{plain, walks-room}
use Rattle.lane_outcomes.proofs.SlotLemmas.{slots}
use Rattle.lane_outcomes.proofs.laws.registers_hold_own_blocks.Goals as goal

pub returns : goal.returns
returns c =
    λ g setting operations results position legal walks moment.
    subst (λ kept. HoldsOwn (pool_of moment.before) setting.caller (slots kept position.registers)) (kept-nothing 0 CLASSES)
    (lane-holds g setting 0 operations results (plain position) legal (walks-room setting start position operations results walks) moment)
