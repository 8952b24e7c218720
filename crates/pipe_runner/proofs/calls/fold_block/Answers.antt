use Rattle.std.proofs.Common.{ℕ, List, [], ◌∷◌, ◌∙◌, ap, sym, subst, arith, inl, inr, refl}
use Rattle.std.specs.Prelude.{slice_index}
use Rattle.live_heap.specs.Whole.{by_steps}
use Rattle.pipe_runner.specs.Messages.{with_word}
use Rattle.pipe_runner.specs.Moves.{KeepsBlocks}
use Rattle.pipe_runner.proofs.CallSteps.{keeps-here, keeps-trans, read-keeps, three-found, three-long, three-read}
use Rattle.pipe_runner.proofs.calls.fold_block.Goals as goal

pub returns-then-usable_words-lt3-clause-keeps : goal.returns-then-usable_words-lt3-clause-keeps
returns-then-usable_words-lt3-clause-keeps c = keeps-here c.args.heap.now c.args.pass.now c.requires.rest

pub returns-then-usable_words-lt3-clause-folded : goal.returns-then-usable_words-lt3-clause-folded
returns-then-usable_words-lt3-clause-folded c = λ b there three.
    let long = three-long c.args.heap.now c.args.pass.now c.args.block.now b c.requires.rest.0 c.requires.owned there three in
    absurd (omega (arith, long, c.usable_words.ensures, c.if-usable_words-lt3.true))

pub returns-clause-keeps : goal.returns-clause-keeps
returns-clause-keeps c =
    let h = c.args.heap.now in
    let b = c.args.block.now in
    let p = c.args.pass.now in
    let ws : List ℕ = c.read_slice.new.into in
    let on = three-found h p c.read_slice.new.pass b ws c.read_slice.ensures.long c.read_slice.ensures.found in
    let one = read-keeps h p on.0 b 0 (slice_index ws 0) c.requires.rest.0 on.1.of c.requires.owned on.1.called in
    let two = read-keeps h on.0 on.2.0 b 1 (slice_index ws 1) on.1.of on.2.1.of on.2.1.owned on.2.1.called in
    let three = read-keeps h on.2.0 on.2.2.0 b 2 (slice_index ws 2) on.2.1.of on.2.2.1.of on.2.2.1.owned on.2.2.1.called in
    subst (KeepsBlocks h p) (sym on.2.2.2) (keeps-trans h p on.2.0 on.2.2.0 (keeps-trans h p on.0 on.2.0 one two) three)

pub returns-clause-folded : goal.returns-clause-folded
returns-clause-folded c = λ b there three.
    let ws : List ℕ = c.read_slice.new.into in
    let on = three-found c.args.heap.now c.args.pass.now c.read_slice.new.pass c.args.block.now ws c.read_slice.ensures.long c.read_slice.ensures.found in
    c.with_word-3.ensures
    ∙ ap (λ (k : ℕ). with_word k (slice_index ws 2)) (c.with_word-2.ensures ∙ ap (λ (k : ℕ). with_word k (slice_index ws 1)) c.with_word.ensures)
    ∙ three-read c.args.heap.now c.args.pass.now on.0 on.2.0 on.2.2.0 c.args.block.now (slice_index ws 0) (slice_index ws 1) (slice_index ws 2) b c.args.fold
    on.1.of on.2.1.of on.2.2.1.of on.1.called on.2.1.called on.2.2.1.called on.1.contents on.2.1.contents on.2.2.1.contents there three

pub returns-then-usable_words-lt3-clause-found : goal.returns-then-usable_words-lt3-clause-found
returns-then-usable_words-lt3-clause-found c = ([], inr (omega (arith, c.usable_words.ensures, c.if-usable_words-lt3.true), refl), refl, refl)

pub returns-clause-found : goal.returns-clause-found
returns-clause-found c =
    let ws : List ℕ = c.read_slice.new.into in
    let on = three-found c.args.heap.now c.args.pass.now c.read_slice.new.pass c.args.block.now ws c.read_slice.ensures.long c.read_slice.ensures.found in (
      slice_index ws 0 ∷ slice_index ws 1 ∷ slice_index ws 2 ∷ [],
      inl refl,
      (
        on.0,
        by_steps (0, on.1.called),
        (on.2.0, by_steps (0, on.2.1.called), (on.2.2.0, by_steps (0, on.2.2.1.called), on.2.2.2)),
      ),
      c.with_word-3.ensures
          ∙ ap (λ (k : ℕ). with_word k (slice_index ws 2)) (c.with_word-2.ensures ∙ ap (λ (k : ℕ). with_word k (slice_index ws 1)) c.with_word.ensures),
    )
