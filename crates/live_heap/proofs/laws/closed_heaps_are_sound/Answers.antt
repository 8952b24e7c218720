use Rattle.live_heap.proofs.LawsClosed.{closed-sound, closed-legal, closed-losses, closed-contended, closed-answers}
use Rattle.live_heap.proofs.laws.closed_heaps_are_sound.Goals as goal

pub returns-clause-sound : goal.returns-clause-sound
returns-clause-sound c = closed-sound

pub returns-clause-legal : goal.returns-clause-legal
returns-clause-legal c = closed-legal

pub returns-clause-losses : goal.returns-clause-losses
returns-clause-losses c = closed-losses

pub returns-clause-contended : goal.returns-clause-contended
returns-clause-contended c = closed-contended

pub returns-clause-answers : goal.returns-clause-answers
returns-clause-answers c = closed-answers
