-- What is read is a trace that a text can name.
use Rattle.std.proofs.Common.{◌≡◌, ℕ, ◌+◌, List, [], ◌∷◌, Result, Ok, Err, refl, subst}
use Rattle.trace_text.specs.declared.fault.Cause.{Cause}
use Rattle.trace_text.specs.declared.stage.ReadingStage.{ReadingStage}
use Rattle.trace_text.specs.declared.stage.ReadingStage.TheVariants.{Before, Inside, Ended}
use Rattle.trace_text.specs.declared.trace.Trace.{Trace}
use Rattle.trace_text.specs.declared.trace.Version.{Version}
use Rattle.trace_text.specs.declared.trace.Version.TheVariants.{Two}
use Rattle.trace_text.specs.Lines.{lines_of}
use Rattle.trace_text.specs.Reading.{Reading, Read, at_end, continued, reading_from, reading_up_to, reading_of}
use Rattle.trace_text.specs.Said.{after_line}
use Rattle.trace_text.specs.Stages.{HasTrace}
use Rattle.trace_text.specs.Traces.{IsTrace}
use Rattle.trace_text.proofs.NamedLemmas.{line_named}

pub read_is : (t u : Trace) → Read t ≡ Read u → t ≡ u
read_is t u e = cc

end_named : (number : ℕ) (stage : ReadingStage) (t : Trace) → HasTrace stage → at_end number stage ≡ Read t → IsTrace t
unfolding at_end
end_named number Before t is e = absurd cc
end_named number (Inside trace) t is e = absurd cc
end_named number (Ended trace) t is e = subst IsTrace (read_is trace t e) is

pub went_on :
    (number : ℕ) (said : Result ReadingStage Cause) (next : ReadingStage → Reading) (t : Trace) → continued number said next ≡ Read t
    → (stage : ReadingStage) × (said ≡ Ok stage) × (next stage ≡ Read t)
went_on number (Ok stage) next t e = (stage, refl, e)
went_on number (Err cause) next t e = absurd cc

lines_named :
    (known : Version) (lines : List (List ℕ)) (number : ℕ) (stage : ReadingStage) (t : Trace) → HasTrace stage → reading_from known lines number stage ≡ Read t → IsTrace t
unfolding reading_from
lines_named known [] number stage t is e = end_named number stage t is e
lines_named known (line ∷ lines) number stage t is e =
    let next = went_on number (after_line known stage line) (λ next. reading_from known lines (number + 1) next) t e in
    lines_named known lines (number + 1) next.0 t (line_named known stage next.0 line is next.1) next.2

pub read_is_named : (text : List ℕ) (t : Trace) → reading_of text ≡ Read t → IsTrace t
unfolding reading_of reading_up_to
read_is_named text t e = lines_named Two (lines_of text) 1 Before t tt e
