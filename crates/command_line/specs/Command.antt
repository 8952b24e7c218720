-- The command lines of the program.
use Rattle.std.specs.Prelude.{ℕ, ◌≡◌, ◌<◌, ◌≤◌, ◌^◌, ◌==◌, ◌∷◌, List, [], Bool, true, false, Some, codes}
use Rattle.std.specs.Fmt.{decimal}
use Rattle.clap.specs.Words.{App, new_app, new_rule, with_rule}
use Rattle.workloads.specs.declared.kind.Kind.{Kind}
use Rattle.workloads.specs.declared.kind.Kind.TheVariants as kinds
use Rattle.workloads.specs.declared.making.TheConstants.{MAX_SIZE}
use Rattle.command_line.specs.declared.command.Command.{Command}
use Rattle.command_line.specs.declared.command.Command.TheVariants.{Replay, Schedule, Census, Make, Print, Pipe, Store, Cache}
use Rattle.command_line.specs.declared.command.Piping.{Piping}
use Rattle.command_line.specs.declared.command.TheConstants.{MAX_DEPTH, MAX_MESSAGES, MAX_ROUNDS}
use Rattle.command_line.specs.declared.command.Workload.{Workload}

-- how a kind of workload is named
abbrev pub kind_name : Kind → List ℕ
kind_name kinds.Scalability = codes "scalability"
kind_name kinds.Threadtest = codes "threadtest"
kind_name kinds.Larson = codes "larson"
kind_name kinds.Pipeline = codes "pipeline"

-- the words that name a workload: its kind, and the decimal digits of its size and of its start
abbrev pub workload_words : Workload → List (List ℕ)
workload_words workload = kind_name workload.kind ∷ decimal workload.size ∷ decimal workload.start ∷ []

-- the words that name a pipeline: how many senders, how many messages of each, and where the words count from
abbrev pub piping_words : Piping → List (List ℕ)
piping_words piping = decimal piping.senders ∷ decimal piping.messages ∷ decimal piping.start ∷ []

-- the words of a command
abbrev pub words_of : Command → List (List ℕ)
words_of Replay = codes "replay" ∷ []
words_of Schedule = codes "schedule" ∷ []
words_of Census = codes "census" ∷ []
words_of (Make workload) = codes "make" ∷ workload_words workload
words_of (Print workload) = codes "print" ∷ workload_words workload
words_of (Pipe piping) = codes "pipe" ∷ piping_words piping
words_of (Store rounds) = codes "store" ∷ decimal rounds ∷ []
words_of (Cache depth) = codes "cache" ∷ decimal depth ∷ []

-- the numbers of a workload are in their ranges
abbrev pub IsWorkload : Workload → Type 0
IsWorkload workload = (workload.size ≤ MAX_SIZE) × (workload.start < 2 ^ 64)

-- the numbers of a pipeline are in their ranges
abbrev pub IsPiping : Piping → Type 0
IsPiping piping = (1 ≤ piping.senders) × (piping.senders ≤ 4) × (piping.messages ≤ MAX_MESSAGES) × (piping.start < 2 ^ 64)

-- a cache may have this depth
abbrev pub IsDepth : ℕ → Type 0
IsDepth depth = (1 ≤ depth) × (depth ≤ MAX_DEPTH)

-- the numbers of a command are in their ranges
abbrev pub HasRanges : Command → Type 0
HasRanges Replay = Unit {0}
HasRanges Schedule = Unit {0}
HasRanges Census = Unit {0}
HasRanges (Make workload) = IsWorkload workload
HasRanges (Print workload) = IsWorkload workload
HasRanges (Pipe piping) = IsPiping piping
HasRanges (Store rounds) = rounds ≤ MAX_ROUNDS
HasRanges (Cache depth) = IsDepth depth

-- these are the words of the command, whose numbers are in their ranges
abbrev pub IsCommandLine : Command → List (List ℕ) → Type 0
IsCommandLine command words = HasRanges command × (words ≡ words_of command)

-- the words are those of a command that is built
abbrev pub IsCommand : List (List ℕ) → Type 0
IsCommand words = (command : Command) × IsCommandLine command words

-- whether the command has an input
abbrev pub has_input : Command → Bool
has_input Replay = true
has_input Schedule = true
has_input Census = true
has_input (Make workload) = false
has_input (Print workload) = false
has_input (Pipe piping) = false
has_input (Store rounds) = false
has_input (Cache depth) = true

-- the word would be an option: it begins with a hyphen
abbrev pub begins_with_hyphen : List ℕ → Bool
begins_with_hyphen [] = false
begins_with_hyphen (first ∷ rest) = first == 45

-- what the words are parsed as: one argument that takes one to four of them
abbrev pub parser_app : App
parser_app =
    let app = new_app (codes "balloc") in
    with_rule
    (record app { top = record app.top { no_binary_name = true; disable_help_flag = true } })
    (record (new_rule (codes "words")) {
      required = true;
      range = Some (record { start_inclusive = 1; end_inclusive = 4 });
    })
