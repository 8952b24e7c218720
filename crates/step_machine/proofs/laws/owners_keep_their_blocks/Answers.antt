use Rattle.sound_laws.specs.events.Stages.{stage_of}
use Rattle.step_machine.proofs.KeepLemmas.{owns-rest}
use Rattle.step_machine.proofs.SpareLemmas.{so_far-spares, events-spare}
use Rattle.step_machine.proofs.laws.owners_keep_their_blocks.Goals as goal

pub returns : goal.returns
returns c = record {
  owns = owns-rest;
  so_far = λ caller place call point events leaves under_way. so_far-spares place caller call (stage_of point) events leaves under_way;
  ended = λ caller place end events leaves is. events-spare place caller end events leaves is;
}
