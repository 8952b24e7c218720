use Rattle.std.proofs.Common.{◌+◌, ◌*◌, length}
use Rattle.pipe_runner.proofs.rounds.+beside.Given as goal

abbrev pub decreases-send_beside : goal.decreases-send_beside
decreases-send_beside g l = 4 * length l.senders.now

abbrev pub decreases-send_first : goal.decreases-send_first
decreases-send_first g l = 4 * length l.others.now + 2

abbrev pub decreases-send_first-go_on : goal.decreases-send_first-go_on
decreases-send_first-go_on g l = 4 * length l.others.now + 1
