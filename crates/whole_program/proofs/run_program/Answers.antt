use Rattle.std.proofs.Common.{ℕ, ◌≡◌, ◌⊎◌, None, inl, inr, map, rules, subst, sym}
use Rattle.std.specs.Prelude.{⊤, string_bytes}
use Rattle.command_line.specs.declared.status.TheConstants.{OUT_OF_MEMORY, USAGE}
use Rattle.edge_io.specs.Real.{read_faults, write_faults}
use Rattle.trace_commands.specs.Ended.{HasEnded}
use Rattle.whole_program.specs.Ended.{SinkWrote, SourceGave}
use Rattle.whole_program.proofs.run_program.Goals as goal

pub returns-in-Err-clause-known : goal.returns-in-Err-clause-known
returns-in-Err-clause-known g c = search rules

pub returns-in-Err-clause-told : goal.returns-in-Err-clause-told
returns-in-Err-clause-told g c =
    inl (subst (λ (s : ℕ). (s ≡ OUT_OF_MEMORY) ⊎ (s ≡ USAGE)) (sym c.code_of.ensures) c.status_without_words.ensures.known)

pub returns-clause-told : goal.returns-clause-told
returns-clause-told g c =
    let e = c.run.ensures in
    let words = map string_bytes c.as_slice.result.now in
    let ended : HasEnded words (λ lane op. ⊤) (λ source. None) SourceGave read_faults c.new-source.result c.run.new.source (λ sink. None) SinkWrote
    write_faults c.new-sink.result c.run.new.sink c.run.result.status c.run.result.closed =
    record {
      known = e.known;
      usage = e.usage;
      unknown = e.unknown;
      untouched = e.untouched;
      unread = e.unread;
      silent = e.silent;
      read_fault = e.read_fault;
      too_many = e.too_many;
      in_vain = e.in_vain;
      refused = e.refused;
      write_fault = e.write_fault;
      reported = e.reported;
      complete = e.complete;
    } in
    inr (record {
      words = words;
      source_before = c.new-source.result;
      source_after = c.run.new.source;
      sink_before = c.new-sink.result;
      sink_after = c.run.new.sink;
      closed = c.run.result.closed;
      no_read_fault = c.new-source.ensures.faults;
      no_write_fault = c.new-sink.ensures.faults;
      ended = subst (λ (s : ℕ). HasEnded words (λ lane op. ⊤) (λ source. None) SourceGave read_faults c.new-source.result c.run.new.source (λ sink. None)
          SinkWrote write_faults c.new-sink.result c.run.new.sink s c.run.result.closed) (sym e.code) ended;
    })
