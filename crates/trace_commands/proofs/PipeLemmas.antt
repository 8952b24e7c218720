-- What is told of a pipeline, as its numbers make it.
use Rattle.std.proofs.Common.{ℕ, zero, suc, ◌≡◌, ◌<◌, ◌≤◌, ◌+◌, ◌++◌, List, [], ◌∷◌, Option, codes, length, refl, sym, ap, ◌∙◌, arith}
use Rattle.std.specs.Prelude.{slice_index}
use Rattle.std.specs.Fmt.{decimal}
use Rattle.std.specs.List.{flat_map, range_with_len}
use Rattle.pool_model.specs.Parcels.{Parcel}
use Rattle.pool_model.specs.Pool.{Block, live_words, pool_of}
use Rattle.trace_text.specs.Text.{line}
use Rattle.command_line.specs.Command.{piping_words}
use Rattle.command_line.specs.declared.command.Piping.{Piping}
use Rattle.pipe_runner.specs.Messages.{contents_of, fold_from, messages, with_words}
use Rattle.trace_commands.specs.declared.closing.Closing.{Closing}
use Rattle.trace_commands.specs.Pipes.{IsPiped, fold_over, messages_line, sender_line, text_of_messages}

fold-contents : (fold : ℕ) (parcels : List Parcel) → fold_from fold parcels ≡ fold_over fold (contents_of parcels)
fold-contents fold [] = refl
fold-contents fold (parcel ∷ parcels) = fold-contents (with_words fold parcel.contents) parcels

fold-is :
    (fold : ℕ) (took sent : List Parcel) (blocks : List (List (Option ℕ))) → fold ≡ fold_from 0 took → took ≡ sent → contents_of sent ≡ blocks
    → fold ≡ fold_over 0 blocks
fold-is fold took sent blocks is same contents = is ∙ fold-contents 0 took ∙ ap (fold_over 0) (ap contents_of same ∙ contents)

-- lines that are the same for each number of a range
lines-same :
    (f g : ℕ → List ℕ) (a n : ℕ) → ((k : ℕ) → a ≤ k → k < a + n → f k ≡ g k) → flat_map f (range_with_len a n) ≡ flat_map g (range_with_len a n)
lines-same f g a zero same = refl
lines-same f g a (suc n) same =
    ap (λ (l : List ℕ). l ++ flat_map f (range_with_len (a + 1) n)) (same a (omega arith) (omega arith))
    ∙ ap (λ (l : List ℕ). g a ++ l) (lines-same f g (a + 1) n (λ k least below. same k (omega (arith, least)) (omega (arith, below))))

pub piped-text :
    (passed : ℕ → ℕ → Type 0) (piping : Piping) (closed : Option Closing) (text : List ℕ) → IsPiped passed piping closed text
    → text ≡ text_of_messages piping
piped-text passed piping closed text is =
    let run = is.run in
    let ran = is.ran in
    let first = line (codes "pipe" ∷ piping_words piping) in
    let live : ℕ → ℕ → List ℕ = λ blocks words. line (codes "live" ∷ decimal blocks ∷ codes "words" ∷ decimal words ∷ []) in
    let each : (k : ℕ) → 0 ≤ k → k < 0 + piping.senders → sender_line run k ≡ messages_line piping k = λ k least lt.
    let below : k < piping.senders = omega (arith, lt) in
    let fold =
    fold-is (slice_index run.folds.numbers k) _ _ (messages piping.start k piping.messages) (ran.folds k below) (ran.equal k below) (ran.all k below) in
    ap (λ (n : ℕ). line (codes "sender" ∷ decimal k ∷ codes "sent" ∷ decimal n ∷ codes "fold" ∷ decimal (slice_index run.folds.numbers k) ∷ [])) (ran.pushed k below)
    ∙ ap (λ (n : ℕ). line (codes "sender" ∷ decimal k ∷ codes "sent" ∷ decimal piping.messages ∷ codes "fold" ∷ decimal n ∷ [])) fold in
    let rest = flat_map (messages_line piping) (range_with_len 0 piping.senders) in
    is.text_is
    ∙ ap (λ (l : List ℕ). first ++ l ++ live (length (pool_of run.closed.events)) (live_words (pool_of run.closed.events)))
    (lines-same (sender_line run) (messages_line piping) 0 piping.senders each)
    ∙ ap (λ (p : List Block). first ++ rest ++ live (length p) (live_words p)) ran.nothing
