use Rattle.std.proofs.Common.{◌∷◌, ◌++◌, ap, ◌∙◌}
use Rattle.trace_text.specs.declared.limits.TheConstants.{SPACE}
use Rattle.trace_text.proofs.TextLemmas.{word_field}
use Rattle.trace_text.proofs.text.Text.word.Goals as goal

pub returns : goal.returns
returns c =
    word_field _ _ _ c.args.word.now c.in_ok-push.ensures.bytes c.in_ok-push_str.ensures.bytes
    ∙ ap (λ text. text ++ SPACE ∷ c.args.word.now) c.self.view_is
