use Rattle.sound_laws.proofs.bounds.lost_exchanges.installs_are_bounded.Goals as goal

pub returns : goal.returns
returns c = λ g s w caller won has. won.installed.own caller has
