use Rattle.sound_laws.proofs.bounds_lemmas.RunsAlone.{runs-alone, alone-most, leads-few}
use Rattle.sound_laws.proofs.bounds.calls_end.alone_runs_are_short.Goals as goal

pub returns-clause-left : goal.returns-clause-left
returns-clause-left c = λ g s caller turns n after sound has run. (runs-alone g turns s caller n after sound has run).left

pub returns-clause-most : goal.returns-clause-most
returns-clause-most c = alone-most

pub returns-clause-few : goal.returns-clause-few
returns-clause-few c =
    λ g s caller turns n after sound has run room. leads-few g s caller n after sound has (runs-alone g turns s caller n after sound has run) room

pub returns-clause-lost : goal.returns-clause-lost
returns-clause-lost c =
    λ g s caller turns n after sound has run. let leads = runs-alone g turns s caller n after sound has run in (leads.spends.lost, leads.met)

pub returns-clause-cleared : goal.returns-clause-cleared
returns-clause-cleared c =
    λ g s caller turns n after sound has run. let leads = runs-alone g turns s caller n after sound has run in (leads.spends.cleared, leads.emptied)
