use Rattle.sound_laws.proofs.bounds_lemmas.SomeLeft.{busy-left}
use Rattle.sound_laws.proofs.bounds.calls_end.calls_have_a_step_left.Goals as goal

pub returns : goal.returns
returns c = λ g s caller sound has busy.
    let own = sound.parts.1.formed.errands caller has in busy-left g (s.errand caller).geometry (s.errand caller).caller (s.errand caller).point own.rule.point busy
