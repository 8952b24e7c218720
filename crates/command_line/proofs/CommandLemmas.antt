-- Words name one command.
use Rattle.std.proofs.Common.{ℕ, ◌≡◌, ◌<◌, ◌^◌, List, [], Option, None, Some, IfSome, codes, get_or, unwrap_or, refl, sym, ap, ◌∙◌, arith, if◌then◌else◌}
use Rattle.std.specs.Fmt.{decimal}
use Rattle.std.specs.Str.{bytes_eq}
use Rattle.trace_text.specs.Numbers.{number_in}
use Rattle.trace_text.proofs.NumberLemmas.{number_again}
use Rattle.workloads.specs.declared.kind.Kind.{Kind}
use Rattle.workloads.specs.declared.kind.Kind.TheVariants as kinds
use Rattle.command_line.specs.Command.{HasRanges, IsCommand, IsCommandLine, IsPiping, IsWorkload, kind_name, words_of}
use Rattle.command_line.specs.declared.command.Command.{Command}
use Rattle.command_line.specs.declared.command.Command.TheVariants.{Replay, Schedule, Census, Make, Print, Pipe, Store, Cache}
use Rattle.command_line.specs.declared.command.Piping.{Piping}
use Rattle.command_line.specs.declared.command.Workload.{Workload}

-- the number that a word is
value_of : List ℕ → ℕ
value_of word = unwrap_or (number_in word) 0

value_back : (n : ℕ) → n < 2 ^ 64 → value_of (decimal n) ≡ n
unfolding value_of
value_back n small = ap (λ o. unwrap_or o 0) (number_again n small)

-- the kind that has this name
kind_by : List ℕ → Kind
kind_by name =
    if bytes_eq name (codes "scalability") then kinds.Scalability
    else if bytes_eq name (codes "threadtest") then kinds.Threadtest
    else if bytes_eq name (codes "larson") then kinds.Larson
    else kinds.Pipeline

kind_back : (kind : Kind) → kind_by (kind_name kind) ≡ kind
unfolding kind_by
kind_back kinds.Scalability = refl
kind_back kinds.Threadtest = refl
kind_back kinds.Larson = refl
kind_back kinds.Pipeline = refl

-- the workload and the pipeline that three words name
abbrev workload_by : List ℕ → List ℕ → List ℕ → Workload
workload_by kind size start = record { kind = kind_by kind; size = value_of size; start = value_of start }

workload_back : (w : Workload) → IsWorkload w → workload_by (kind_name w.kind) (decimal w.size) (decimal w.start) ≡ w
workload_back w ranges = rw (kind_back w.kind, value_back w.size (omega (arith, ranges.0)), value_back w.start ranges.1) refl

abbrev piping_by : List ℕ → List ℕ → List ℕ → Piping
piping_by senders messages start = record { senders = value_of senders; messages = value_of messages; start = value_of start }

piping_back : (p : Piping) → IsPiping p → piping_by (decimal p.senders) (decimal p.messages) (decimal p.start) ≡ p
piping_back p (least, senders, messages, start) =
    rw (value_back p.senders (omega (arith, senders)), value_back p.messages (omega (arith, messages)), value_back p.start start) refl

-- the command that words name, if they name one: by the first of them
abbrev command_by : List (List ℕ) → Command
command_by words =
    let name = get_or words 0 [] in
    let first = get_or words 1 [] in
    let second = get_or words 2 [] in
    let third = get_or words 3 [] in
    if bytes_eq name (codes "replay") then Replay
    else if bytes_eq name (codes "schedule") then Schedule
    else if bytes_eq name (codes "census") then Census
    else if bytes_eq name (codes "make") then Make (workload_by first second third)
    else if bytes_eq name (codes "print") then Print (workload_by first second third)
    else if bytes_eq name (codes "pipe") then Pipe (piping_by first second third)
    else if bytes_eq name (codes "store") then Store (value_of first)
    else Cache (value_of first)

command_back : (command : Command) → HasRanges command → command_by (words_of command) ≡ command
command_back Replay ranges = refl
command_back Schedule ranges = refl
command_back Census ranges = refl
command_back (Make workload) ranges = ap Make (workload_back workload ranges)
command_back (Print workload) ranges = ap Print (workload_back workload ranges)
command_back (Pipe piping) ranges = ap Pipe (piping_back piping ranges)
command_back (Store rounds) ranges = ap Store (value_back rounds (omega (arith, ranges)))
command_back (Cache depth) ranges = ap Cache (value_back depth (omega (arith, ranges.1)))

-- two commands with the same words are one
one_command : (words : List (List ℕ)) (a b : Command) → IsCommandLine a words → IsCommandLine b words → a ≡ b
one_command words a b of_a of_b =
    sym (command_back a of_a.0) ∙ ap command_by (sym of_a.1 ∙ of_b.1) ∙ command_back b of_b.0

-- a command that was found for words is the only one that they name
pub only_found :
    (words listed : List (List ℕ)) (found : Option Command) → words ≡ listed → IfSome found (λ command. IsCommandLine command listed)
    → (found ≡ None → ¬ IsCommand listed) → (command : Command) → IsCommandLine command words → found ≡ Some command
only_found words listed (Some found) same some none command line = ap Some (one_command listed found command some (rw same at line))
only_found words listed None same some none command line = absurd (none refl (command, rw same at line))
