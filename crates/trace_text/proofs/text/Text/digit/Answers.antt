use Rattle.std.proofs.Common.{◌∷◌, ◌++◌, decimal, ap, ◌∙◌}
use Rattle.trace_text.specs.declared.limits.TheConstants.{SPACE}
use Rattle.trace_text.proofs.TextLemmas.{digit_field}
use Rattle.trace_text.proofs.text.Text.digit.Goals as goal

pub returns : goal.returns
returns c =
    digit_field _ _ _ c.from.result c.args.digit c.requires c.from.ensures c.in_ok-push.ensures.bytes c.in_ok-push-2.ensures.bytes
    ∙ ap (λ text. text ++ SPACE ∷ decimal c.args.digit) c.self.view_is
