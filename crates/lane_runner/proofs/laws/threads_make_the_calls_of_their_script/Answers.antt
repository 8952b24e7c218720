use Rattle.lane_runner.proofs.WholeScripts.{made-script, through-script}
use Rattle.lane_runner.proofs.laws.threads_make_the_calls_of_their_script.Goals as goal

pub returns-clause-through : goal.returns-clause-through
returns-clause-through c = through-script

pub returns-clause-on_passes : goal.returns-clause-on_passes
returns-clause-on_passes c = made-script
