-- What the parser makes of words that are no options.
use Rattle.std.specs.Option.{option_map_or}
use Rattle.std.proofs.Common.{ℕ, ◌<◌, ◌^◌, ◌≡◌, ◌∙◌, ◌≤◌, ◌&&◌, ◌||◌, Bool, true, false, refl, sym, ap, List, [], ◌∷◌, ◌++◌, Option, Some, None, is_some, unwrap_or, Result, Err, IfOk, IfSome, subst, map, true≢false, append_assoc, append-nil, codes, length, if◌then◌else◌, arith}
use Rattle.std.specs.List.{All, fold, list_all, list_any}
use Rattle.std.specs.Str.{bytes_eq}
use Rattle.std.proofs.lemmas.List.Elements.{All-cons, All-head, All-nil, All-tail}
use Rattle.clap.specs.Lexer.{long_of, short_of}
use Rattle.clap.specs.Walk.{Held, Rule, Text, Waiting, Walk, all_of, is_empty, after_step, finished, idle, long_or_other, nothing_held, plain_word, positional, short_or_plain, subcommand_met, trailing, value, walk_from, walked, word_met}
use Rattle.clap.specs.Simple.{built, entered, matches_of}
use Rattle.clap.specs.Simple.{Shape}
use Rattle.clap.specs.Takes.{bundle_passes, default_passes, entered_passes, flag_word_passes, is_valid, settle_passes, step_passes, takes, turn_passes, walk_passes, word_passes}
use Rattle.command_line.specs.Command.{HasRanges, IsCommand, IsCommandLine, IsPiping, IsWorkload, begins_with_hyphen, kind_name, parser_app, piping_words, words_of, workload_words}
use Rattle.command_line.specs.declared.command.Command.{Command}
use Rattle.command_line.specs.declared.command.Command.TheVariants.{Replay, Schedule, Census, Make, Print, Pipe, Store, Cache}
use Rattle.command_line.specs.declared.command.Piping.{Piping}
use Rattle.command_line.specs.declared.command.Workload.{Workload}
use Rattle.command_line.specs.declared.parsing.NoCommand.{NoCommand}
use Rattle.command_line.specs.declared.parsing.NoCommand.TheVariants.{Usage}
use Rattle.trace_text.proofs.NumberLemmas.{decimal_digits}
use Rattle.workloads.specs.declared.kind.Kind.{Kind}
use Rattle.workloads.specs.declared.kind.Kind.TheVariants as kinds
use Rattle.std.specs.Fmt.{decimal}
use Rattle.std.specs.Str.Parse.{AllDigits}
use Rattle.std.proofs.lemmas.Str.Parse.{tells_digits}
use Rattle.std.proofs.lemmas.Bool.{ne_eqb}
use Rattle.std.specs.Option.{ok_or, option_map}
use Rattle.std.specs.Borrow.{Bor}
use Rattle.clap.specs.Words.{HasMatchesOf, found_of, matched_of, raw_values}
use Rattle.clap.specs.Walk.{texts}
use Rattle.clap.specs.declared.parser.matches.ArgMatches.{ArgMatches}
use Rattle.clap.proofs.WalkLemmas.{raw_values-rows}
use Rattle.std.specs.Result.{is_ok}

abbrev rules : List Rule
rules = (built parser_app).top.rules

abbrev IsPlain : Text → Type 0
IsPlain word = begins_with_hyphen word ≡ false

-- no word would be an option
abbrev pub NoOptions : List Text → Type 0
NoOptions = All IsPlain

pub no_options : {X : Type 0} (text : X → Text) (words : List X) → list_any (λ word. begins_with_hyphen (text word)) words ≡ false
    → NoOptions (map text words)
no_options text [] none = All-nil IsPlain
no_options text (word ∷ words) none =
    let (first, rest) = neither _ _ none in
    All-cons IsPlain (text word) (map text words) first (no_options text words rest)
  where
    neither : (a b : Bool) → (a || b) ≡ false → (a ≡ false) × (b ≡ false)
    neither false b none = (refl, none)
    neither true b none = (none, absurd (true≢false none))

no_dashes : (word : Text) → IsPlain word → bytes_eq word (45 ∷ 45 ∷ []) ≡ false
no_dashes [] plain = refl
no_dashes (x ∷ rest) plain = rw plain refl

no_long : (word : Text) → IsPlain word → long_of word ≡ None
no_long [] plain = refl
no_long (x ∷ rest) plain = rw plain refl

no_short : (word : Text) → IsPlain word → short_of word ≡ None
no_short [] plain = refl
no_short (x ∷ rest) plain = rw plain refl

-- a word that is no option goes to the positional
is_value : (waiting : Waiting) (word : Text) (h : Held) → IsPlain word → subcommand_met [] waiting word ≡ None
    → plain_word rules waiting word h ≡ (h, value) → word_met rules [] false waiting 1 word h ≡ (h, value)
is_value waiting word h plain none last =
    rw none (
    ap (λ b. if b then (h, trailing 1) else long_or_other rules waiting word (long_of word) h) (no_dashes word plain)
    ∙ ap (λ l. long_or_other rules waiting word l h) (no_long word plain)
    ∙ ap (λ s. short_or_plain rules waiting word s h) (no_short word plain)
    ∙ last
    )

-- the walk has met these words
abbrev met : List Text → Walk
met words = record {
  held = record { rows = []; pending = Some (codes "words", words); skip = 0 };
  waiting = positional;
  position = 1;
  is_trailing = false;
  stopped = None;
}

first_word : (word : Text) → IsPlain word → walked rules [] (walk_from nothing_held) word ≡ met (word ∷ [])
unfolding walked
first_word word plain =
    ap (λ m. after_step rules word (walk_from nothing_held) m.0 m.1) (is_value idle word nothing_held plain refl refl)

next_word : (words : List Text) (word : Text) → IsPlain word → walked rules [] (met words) word ≡ met (words ++ word ∷ [])
unfolding walked
next_word words word plain =
    ap (λ m. after_step rules word (met words) m.0 m.1) (is_value positional word (met words).held plain refl refl)

more_words : (words more : List Text) → NoOptions more → fold (walked rules []) (met words) more ≡ met (words ++ more)
more_words words [] plain = ap met (sym (append-nil words))
more_words words (word ∷ more) plain =
    ap (λ w. fold (walked rules []) w more) (next_word words word (All-head IsPlain word more plain))
    ∙ more_words (words ++ word ∷ []) more (All-tail IsPlain word more plain) ∙ ap met (append_assoc words (word ∷ []) more)

all_words : (word : Text) (more : List Text) → NoOptions (word ∷ more) → fold (walked rules []) (walk_from nothing_held) (word ∷ more) ≡ met (word ∷ more)
all_words word more plain =
    ap (λ w. fold (walked rules []) w more) (first_word word (All-head IsPlain word more plain))
    ∙ more_words (word ∷ []) more (All-tail IsPlain word more plain)

-- the values that a parse finds are the words
pub values_are : (word : Text) (more : List Text) → NoOptions (word ∷ more)
    → all_of (codes "words") (matches_of parser_app (word ∷ more)) ≡ Some (word ∷ more)
values_are word more plain = ap (λ (w : Walk). all_of (codes "words") (finished rules w.held)) (all_words word more plain)

pub no_values : all_of (codes "words") (matches_of parser_app []) ≡ None
no_values = refl

-- ---- the parser takes one to four words

abbrev shape : Shape
shape = (built parser_app).top

no_flag : (waiting : Waiting) (word : Text) (h : Held) → IsPlain word → subcommand_met [] waiting word ≡ None
    → word_passes shape [] false waiting word h ≡ true
no_flag waiting word h plain none =
    rw none (
    ap (λ b. b || flag_word_passes rules false (long_of word) word h) (no_dashes word plain)
    ∙ ap (λ l. flag_word_passes rules false l word h) (no_long word plain)
    ∙ ap (λ s. option_map_or (λ flags. bundle_passes rules false flags h) s true) (no_short word plain)
    )

first_passes : (word : Text) → IsPlain word → turn_passes shape [] (walk_from nothing_held) word ≡ true
first_passes word plain =
    ap (λ b. b && step_passes shape 1 (word_met rules [] false idle 1 word nothing_held).0 (word_met rules [] false idle 1 word nothing_held).1)
    (no_flag idle word nothing_held plain refl)
    ∙ ap (λ m. step_passes shape 1 m.0 m.1) (is_value idle word nothing_held plain refl refl)

next_passes : (words : List Text) (word : Text) → IsPlain word → turn_passes shape [] (met words) word ≡ true
next_passes words word plain =
    ap (λ b. b && step_passes shape 1 (word_met rules [] false positional 1 word (met words).held).0 (word_met rules [] false positional 1 word (met words).held).1)
    (no_flag positional word (met words).held plain refl)
    ∙ ap (λ m. step_passes shape 1 m.0 m.1) (is_value positional word (met words).held plain refl refl)

more_pass : (words more : List Text) → NoOptions more → walk_passes shape [] (met words) more ≡ true
unfolding walk_passes
more_pass words [] plain = refl
more_pass words (word ∷ more) plain =
    ap (λ b. b && walk_passes shape [] (walked rules [] (met words) word) more) (next_passes words word (All-head IsPlain word more plain))
    ∙ ap (λ w. walk_passes shape [] w more) (next_word words word (All-head IsPlain word more plain))
    ∙ more_pass (words ++ word ∷ []) more (All-tail IsPlain word more plain)

all_pass : (word : Text) (more : List Text) → NoOptions (word ∷ more) → walk_passes shape [] (walk_from nothing_held) (word ∷ more) ≡ true
unfolding walk_passes
all_pass word more plain =
    ap (λ b. b && walk_passes shape [] (walked rules [] (walk_from nothing_held) word) more) (first_passes word (All-head IsPlain word more plain))
    ∙ ap (λ w. walk_passes shape [] w more) (first_word word (All-head IsPlain word more plain))
    ∙ more_pass (word ∷ []) more (All-tail IsPlain word more plain)

abbrev Taken : List Text → Type 0
Taken words = takes parser_app words ≡ true

-- the parser takes words that lead to this walk, if each of them passes
abbrev passes_at : Walk → Bool → Bool
passes_at w each =
    entered_passes (built parser_app) w.stopped
    && (each && (settle_passes rules false w.held
    && (list_all default_passes rules && is_valid shape (finished rules w.held) (is_some (entered (built parser_app) w.stopped)))))

few_pass : (word : Text) (more : List Text) → length more ≤ 3 → passes_at (met (word ∷ more)) true ≡ true
few_pass word [] few = refl
few_pass word (a ∷ []) few = refl
few_pass word (a ∷ b ∷ []) few = refl
few_pass word (a ∷ b ∷ c ∷ []) few = refl
few_pass word (a ∷ b ∷ c ∷ d ∷ more) few = absurd (omega arith)

-- the parser takes one to four words that are no options
pub words_pass : (word : Text) (more : List Text) → NoOptions (word ∷ more) → length more ≤ 3 → takes parser_app (word ∷ more) ≡ true
words_pass word more plain few =
    ap (λ w. passes_at w (walk_passes shape [] (walk_from nothing_held) (word ∷ more))) (all_words word more plain)
    ∙ ap (passes_at (met (word ∷ more))) (all_pass word more plain)
    ∙ few_pass word more few

-- ---- the words of a command

-- a command has one to four words
takes_command : (command : Command) (words : List Text) → IsCommandLine command words → NoOptions words → takes parser_app words ≡ true
takes_command Replay words line plain = subst Taken (sym line.1) (words_pass (codes "replay") [] (subst NoOptions line.1 plain) (omega arith))
takes_command Schedule words line plain = subst Taken (sym line.1) (words_pass (codes "schedule") [] (subst NoOptions line.1 plain) (omega arith))
takes_command Census words line plain = subst Taken (sym line.1) (words_pass (codes "census") [] (subst NoOptions line.1 plain) (omega arith))
takes_command (Make workload) words line plain =
    subst Taken (sym line.1) (words_pass (codes "make") (workload_words workload) (subst NoOptions line.1 plain) (omega arith))
takes_command (Print workload) words line plain =
    subst Taken (sym line.1) (words_pass (codes "print") (workload_words workload) (subst NoOptions line.1 plain) (omega arith))
takes_command (Pipe piping) words line plain =
    subst Taken (sym line.1) (words_pass (codes "pipe") (piping_words piping) (subst NoOptions line.1 plain) (omega arith))
takes_command (Store rounds) words line plain =
    subst Taken (sym line.1) (words_pass (codes "store") (decimal rounds ∷ []) (subst NoOptions line.1 plain) (omega arith))
takes_command (Cache depth) words line plain =
    subst Taken (sym line.1) (words_pass (codes "cache") (decimal depth ∷ []) (subst NoOptions line.1 plain) (omega arith))

-- what the parser refuses is no command
pub refused : (words : List Text) → NoOptions words → ¬ (takes parser_app words ≡ true) → ¬ IsCommand words
refused words plain untaken (command, line) = untaken (takes_command command words line plain)

-- there is no word where the parser finds no value
pub found_none : (words : List Text) → NoOptions words → all_of (codes "words") (matches_of parser_app words) ≡ None → words ≡ []
found_none [] plain none = refl
found_none (word ∷ more) plain none = absurd (true≢false (ap is_some (sym (values_are word more plain) ∙ none)))

-- the values that the parser finds are the words
pub found_some : (words values : List Text) → NoOptions words → all_of (codes "words") (matches_of parser_app words) ≡ Some values → words ≡ values
found_some [] values plain some = absurd (true≢false (ap is_some (sym some)))
found_some (word ∷ more) values plain some = ap (λ found. unwrap_or found []) (sym (values_are word more plain) ∙ some)

has_words : (command : Command) → is_empty (words_of command) ≡ false
has_words Replay = refl
has_words Schedule = refl
has_words Census = refl
has_words (Make workload) = refl
has_words (Print workload) = refl
has_words (Pipe piping) = refl
has_words (Store rounds) = refl
has_words (Cache depth) = refl

-- a command has words
pub some_words : (words : List Text) → words ≡ [] → ¬ IsCommand words
some_words words none (command, line) = true≢false (ap is_empty (sym none ∙ line.1) ∙ has_words command)

-- neither the name of a kind nor a number begins with a hyphen
plain_kind : (kind : Kind) → begins_with_hyphen (kind_name kind) ≡ false
plain_kind kinds.Scalability = refl
plain_kind kinds.Threadtest = refl
plain_kind kinds.Larson = refl
plain_kind kinds.Pipeline = refl

plain_digits : (digits : Text) → AllDigits 10 digits → begins_with_hyphen digits ≡ false
plain_digits [] all = refl
plain_digits (digit ∷ digits) all =
    let range = (tells_digits.parts digit digits all).0 in
    ne_eqb digit 45 (λ e. absurd (omega (arith, e, range.0)))

plain_number : (n : ℕ) → n < 2 ^ 64 → begins_with_hyphen (decimal n) ≡ false
plain_number n small = plain_digits (decimal n) (decimal_digits n small)

plain_workload : (name : Text) (workload : Workload) → begins_with_hyphen name ≡ false → IsWorkload workload
    → list_any begins_with_hyphen (name ∷ workload_words workload) ≡ false
plain_workload name workload plain ranges =
    rw (plain, plain_kind workload.kind, plain_number workload.size (omega (arith, ranges.0)), plain_number workload.start ranges.1) refl

plain_piping : (piping : Piping) → IsPiping piping → list_any begins_with_hyphen (codes "pipe" ∷ piping_words piping) ≡ false
plain_piping piping (least, senders, messages, start) =
    rw (plain_number piping.senders (omega (arith, senders)), plain_number piping.messages (omega (arith, messages)), plain_number piping.start start) refl

plain_command : (command : Command) → HasRanges command → list_any begins_with_hyphen (words_of command) ≡ false
plain_command Replay ranges = refl
plain_command Schedule ranges = refl
plain_command Census ranges = refl
plain_command (Make workload) ranges = plain_workload (codes "make") workload refl ranges
plain_command (Print workload) ranges = plain_workload (codes "print") workload refl ranges
plain_command (Pipe piping) ranges = plain_piping piping ranges
plain_command (Store rounds) ranges = rw (plain_number rounds (omega (arith, ranges))) refl
plain_command (Cache depth) ranges = rw (plain_number depth (omega (arith, ranges.1))) refl

-- a command has no option
pub no_command : (words : List Text) → list_any begins_with_hyphen words ≡ true → ¬ IsCommand words
no_command words option (command, line) =
    true≢false (sym option ∙ ap (list_any begins_with_hyphen) line.1 ∙ plain_command command line.0)

-- ---- what is answered

pub some_answer : (found : Option Command) (answer : Result Command NoCommand) (words values : List Text) → answer ≡ ok_or found Usage → words ≡ values
    → IfSome found (λ command. IsCommandLine command values) → IfOk answer (λ command. IsCommandLine command words)
some_answer (Some command) answer words values is same line = rw (is, same) line
some_answer None answer words values is same line = rw is tt

-- no other command is written so
pub only_answer :
    (found : Option Command) (answer : Result Command NoCommand) (words values : List Text) → answer ≡ ok_or found Usage → words ≡ values
    → ((command : Command) → IsCommandLine command values → found ≡ Some command)
    → IfOk answer (λ command. (other : Command) → IsCommandLine other words → other ≡ command)
only_answer (Some command) answer words values is same only =
    rw is (λ other line. ap (λ o. unwrap_or o command) (sym (only other (rw same at line))))
only_answer None answer words values is same only = rw is tt

pub no_answer :
    (found : Option Command) (answer : Result Command NoCommand) (words values : List Text) → answer ≡ ok_or found Usage → words ≡ values
    → ((command : Command) → IsCommandLine command values → found ≡ Some command) → answer ≡ Err Usage → ¬ IsCommand words
no_answer (Some command) answer words values is same only usage = absurd (true≢false (ap is_ok (sym is ∙ usage)))
no_answer None answer words values is same only usage =
    λ (command, line). true≢false (sym (ap is_some (only command (rw same at line))))

-- the values that a parse gives
abbrev pub values : Option (Bor (List (Bor Text))) → Option (List Text)
values = option_map (λ found. texts found.now)

pub values_found : (m : ArgMatches) (words : List Text) (result : Option (Bor (List (Bor Text)))) → HasMatchesOf parser_app words m
    → values result ≡ option_map raw_values (matched_of (found_of m) (codes "words"))
    → values result ≡ all_of (codes "words") (matches_of parser_app words)
values_found m words result has found =
    found ∙ raw_values-rows (found_of m) (codes "words") ∙ ap (all_of (codes "words")) (has refl).0
