use Rattle.std.proofs.Common.{◌≡◌, ◌∷◌, ◌++◌, List, ℕ, [], refl, sym, ap, subst, ◌∙◌, codes, length}
use Rattle.std.specs.Fmt.{decimal}
use Rattle.std.specs.List.{flat_map, range_with_len}
use Rattle.pool_model.specs.Pool.{Block, live_words, pool_of}
use Rattle.trace_text.specs.Text.{line}
use Rattle.command_line.specs.Command.{piping_words}
use Rattle.pipe_runner.specs.Runs.{IsPipeRun}
use Rattle.trace_commands.specs.Pipes.{sender_line}
use Rattle.trace_commands.proofs.piped.pipe.Goals as goal

-- nothing is live
none-live :
    (pool : List Block) → pool ≡ []
    → line (codes "live" ∷ decimal 0 ∷ codes "words" ∷ decimal 0 ∷ [])
    ≡ line (codes "live" ∷ decimal (length pool) ∷ codes "words" ∷ decimal (live_words pool) ∷ [])
none-live pool none =
    ap (λ (p : List Block). line (codes "live" ∷ decimal (length p) ∷ codes "words" ∷ decimal (live_words p) ∷ [])) (sym none)

pub returns : goal.returns
returns g c =
    let run = c.in_ok-run.run' in
    let piping = c.args.piping in
    let ran : IsPipeRun (g.G.Gate.passed c.args.gate.now) piping.senders piping.messages piping.start run =
    subst (λ n. IsPipeRun (g.G.Gate.passed c.args.gate.now) piping.senders n piping.start run) c.from.ensures c.in_ok-run.ensures in
    let first = line (codes "pipe" ∷ piping_words piping) in
    let rest = flat_map (sender_line run) (range_with_len 0 piping.senders) in
    let live = line (codes "live" ∷ decimal 0 ∷ codes "words" ∷ decimal 0 ∷ []) in
    record {
      run = run;
      closed_is = refl;
      ran = ran;
      text_is =
          c.into_bytes.ensures ∙ c.in_ok-write_live.ensures ∙ ap (λ (t : List ℕ). t ++ live) c.in_ok-write_senders.ensures
          ∙ ap (λ (t : List ℕ). (t ++ rest) ++ live) (c.in_ok-write_command.ensures ∙ ap (λ (t : List ℕ). t ++ first) c.new-text.ensures)
          ∙ ap (λ (l : List ℕ). (first ++ rest) ++ l) (none-live (pool_of run.closed.events) ran.nothing);
    }
