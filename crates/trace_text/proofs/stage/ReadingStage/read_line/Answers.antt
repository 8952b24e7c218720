use Rattle.std.proofs.Common.{sym, ◌∙◌}
use Rattle.trace_text.specs.declared.trace.Version.TheVariants.{Two}
use Rattle.trace_text.proofs.PlainLemmas.{word_taken}
use Rattle.trace_text.proofs.stage.ReadingStage.read_line.Goals as goal

pub returns-in_default-read_word : goal.returns-in_default-read_word
returns-in_default-read_word c =
    word_taken Two _ _ _ _ _ c.in-Some.ensures (sym c.is_comment.ensures ∙ c.if-not-is_comment.true) c.in_default-read_word.ensures
