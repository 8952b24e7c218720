-- What the program tells of a pipeline.
use Rattle.std.specs.Prelude.{ℕ, ◌≡◌, ◌∷◌, ◌++◌, List, [], Option, Some, codes, length, slice_index}
use Rattle.std.specs.Fmt.{decimal}
use Rattle.std.specs.List.{flat_map, range_with_len}
use Rattle.pool_model.specs.Pool.{live_words, pool_of}
use Rattle.trace_text.specs.Text.{line}
use Rattle.command_line.specs.Command.{piping_words}
use Rattle.command_line.specs.declared.command.Piping.{Piping}
use Rattle.pipe_runner.specs.declared.run.PipeRun.{PipeRun}
use Rattle.pipe_runner.specs.Messages.{messages, with_words}
use Rattle.pipe_runner.specs.Runs.{IsPipeRun}
use Rattle.trace_commands.specs.declared.closing.Closing.{Closing}
use Rattle.trace_commands.specs.declared.closing.Closing.TheVariants.{Piped}

-- the line of a sender: how many of its notes were pushed, and the fold over the words that were taken of it
abbrev pub sender_line : PipeRun → ℕ → List ℕ
sender_line run k =
    line (
    codes "sender" ∷ decimal k ∷ codes "sent" ∷ decimal (slice_index run.log.sent.counts k) ∷ codes "fold"
    ∷ decimal (slice_index run.folds.numbers k) ∷ []
    )

-- the line of the command, a line for each sender, and one for what is live
abbrev pub pipe_text : Piping → PipeRun → List ℕ
pipe_text piping run =
    line (codes "pipe" ∷ piping_words piping) ++ flat_map (sender_line run) (range_with_len 0 piping.senders)
    ++ line (codes "live" ∷ decimal (length (pool_of run.closed.events)) ∷ codes "words" ∷ decimal (live_words (pool_of run.closed.events)) ∷ [])

-- the fold over the words of blocks that contain these, one block after the other
abbrev pub fold_over : ℕ → List (List (Option ℕ)) → ℕ
fold_over fold [] = fold
fold_over fold (words ∷ blocks) = fold_over (with_words fold words) blocks

-- the line of a sender and the whole text as the numbers of the pipeline make them: a sender's fold is that over the words of its messages
abbrev pub messages_line : Piping → ℕ → List ℕ
messages_line piping k =
    line (
    codes "sender" ∷ decimal k ∷ codes "sent" ∷ decimal piping.messages ∷ codes "fold"
    ∷ decimal (fold_over 0 (messages piping.start k piping.messages)) ∷ []
    )

abbrev pub text_of_messages : Piping → List ℕ
text_of_messages piping =
    line (codes "pipe" ∷ piping_words piping) ++ flat_map (messages_line piping) (range_with_len 0 piping.senders)
    ++ line (codes "live" ∷ decimal 0 ∷ codes "words" ∷ decimal 0 ∷ [])

-- the pipeline has run to its end, and the text tells this of it
pub record IsPiped (passed : ℕ → ℕ → Type 0) (piping : Piping) (closed : Option Closing) (text : List ℕ) : Type 0 where
  pub run : PipeRun
  pub closed_is : closed ≡ Some (Piped run)
  pub ran : IsPipeRun passed piping.senders piping.messages piping.start run
  pub text_is : text ≡ pipe_text piping run
