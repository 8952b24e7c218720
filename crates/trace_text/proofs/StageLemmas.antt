-- A loop over the lines, one after the other.
use Rattle.std.proofs.Common.{◌≡◌, ℕ, zero, suc, ◌+◌, true, ◌&&◌, List, [], ◌∷◌, ◌++◌, length, get_or, set, map, Ok, Err, refl, ap, subst, arith}
use Rattle.std.specs.Prelude.{nat_lt}
use Rattle.trace_text.specs.declared.fault.Stop.{Stop}
use Rattle.trace_text.specs.declared.fault.Stop.TheVariants as stops
use Rattle.trace_text.specs.declared.stage.ReadingStage.{ReadingStage}
use Rattle.trace_text.specs.declared.stage.ReadingStage.TheVariants.{Inside}
use Rattle.trace_text.specs.declared.trace.Trace.{Trace}
use Rattle.trace_text.specs.declared.trace.Version.TheVariants.{Two}
use Rattle.trace_text.specs.declared.trace.Op.{Op}
use Rattle.trace_text.specs.Causes.{StopsReading}
use Rattle.trace_text.specs.Said.{after_line, after_op, op_of, is_unordered, last_with}
use Rattle.trace_text.specs.Reading.{Reading, AnswersReading, at_end, fault_of, reading_from}

-- the lines after one that was read are read as the whole from the next stage on
pub goes_on :
    (line : List ℕ) (after lines : List (List ℕ)) (number : ℕ) (stage next : ReadingStage) (reading : Reading) → lines ≡ line ∷ after
    → reading_from Two lines number stage ≡ reading → after_line Two stage line ≡ Ok next → reading_from Two after (number + 1) next ≡ reading
unfolding reading_from
goes_on line after lines number stage next reading is reads said = rw (is, said) at reads

-- a stop at a line is told as what the text is read as
pub stopped :
    (stop : Stop) (line : List ℕ) (after lines : List (List ℕ)) (number : ℕ) (stage : ReadingStage) (reading : Reading) → lines ≡ line ∷ after
    → reading_from Two lines number stage ≡ reading → StopsReading stop (after_line Two stage line) → AnswersReading (Err (fault_of number stop)) reading
unfolding reading_from
stopped stops.OutOfMemory line after lines number stage reading is reads said = tt
stopped (stops.Because cause) line after lines number stage reading is reads said =
    subst (λ r. AnswersReading (Err (fault_of number (stops.Because cause))) r) (rw (is, said) at reads) (refl, refl)

-- lines of which none is left are read as the end of the text
pub ended : (lines : List (List ℕ)) (number : ℕ) (stage : ReadingStage) (reading : Reading) → lines ≡ [] → reading_from Two lines number stage ≡ reading → at_end number stage ≡ reading
unfolding reading_from
ended lines number stage reading is reads = rw is at reads

-- lanes with one operation more in the last one have it at that lane's end
pub last_with-append : (op : Op) (lanes : List (List Op)) (last : List Op) → last_with op (lanes ++ last ∷ []) ≡ lanes ++ (last ++ op ∷ []) ∷ []
last_with-append op [] last = refl
last_with-append op (lane ∷ []) last = refl
last_with-append op (lane ∷ next ∷ more) last = ap (λ lanes. lane ∷ lanes) (last_with-append op (next ∷ more) last)

-- lanes that a view shows have one operation more where the last one was given it
pub last_given :
    {V : Type 0} (items : V → List Op) (op : Op) (lanes : List V) (i : ℕ) (last given : V) → i + 1 ≡ length lanes → last ≡ get_or lanes i last
    → items given ≡ items last ++ op ∷ [] → map items (set lanes i given) ≡ last_with op (map items lanes)
last_given items op [] i last given is was more = absurd (omega (arith, is))
last_given items op (lane ∷ []) zero last given is was more = rw (more, was) refl
last_given items op (lane ∷ []) (suc i) last given is was more = absurd (omega (arith, is))
last_given items op (lane ∷ next ∷ lanes) zero last given is was more = absurd (omega (arith, is))
last_given items op (lane ∷ next ∷ lanes) (suc i) last given is was more =
    ap (λ lanes. items lane ∷ lanes) (last_given items op (next ∷ lanes) i last given (omega (arith, is)) was more)

-- an operation that a line says in a lane is one more in the last lane
pub op_taken :
    (trace : Trace) (word : List ℕ) (fields : List (List ℕ)) (op : Op) (lanes : List (List Op)) → (nat_lt 0 (length trace.lanes) && is_unordered trace) ≡ true
    → op_of trace.version word fields ≡ Ok op → lanes ≡ last_with op trace.lanes → after_op trace word fields ≡ Ok (Inside (record trace { lanes = lanes }))
unfolding after_op
op_taken trace word fields op lanes here said more = rw (here, said, more) refl
