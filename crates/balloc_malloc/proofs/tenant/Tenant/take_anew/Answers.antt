use Rattle.std.proofs.Common.{◌≡◌, ℕ, ◌≤◌, Result, Ok, sym, refl, ◌∙◌, subst, inr}
use Rattle.std.specs.declared.alloc.AllocError.{AllocError}
use Rattle.live_heap.specs.declared.answers.AllocAnswer.{AllocAnswer}
use Rattle.live_heap.specs.declared.answers.AllocAnswer.TheVariants.{Given}
use Rattle.memory_cache.specs.declared.piece.Piece.{Piece}
use Rattle.memory_cache.specs.Paged.{HasNewPage, HasPieceReady, LiesElsewhere}
use Rattle.balloc_malloc.specs.declared.tenant.TheConstants.{TRIES}
use Rattle.memory_cache.specs.Sizes.{piece_words}
use Rattle.balloc_malloc.specs.Sizes.{words_for}
use Rattle.balloc_malloc.proofs.Taking.{goes_out, is_given, is_refused, stays}
use Rattle.balloc_malloc.proofs.tenant.Tenant.take_anew.Goals as goal

pub returns-in-Ok : goal.returns-in-Ok
returns-in-Ok c =
    let before = c.args.self.now in
    let words : c.args.words ≡ words_for c.args._bytes = c.requires.0 in
    let x = c.in-Ok.piece in
    let is : c.take.result ≡ Ok (Given x) = c.in-Ok.ensures.piece in
    let given = c.take.ensures.given x is in
    goes_out before _ c.args._bytes c.hand_out.result.code c.hand_out.result.words c.hand_out.result.memory x.words c.hand_out.ensures.1
    (is_given c.deref.result.now before _ c.args._bytes c.hand_out.result.code x c.hand_out.result.memory c.deref.ensures refl c.hand_out.ensures.0 c.hand_out.ensures.2 given.0
    (subst (λ (n : ℕ). x.size ≡ piece_words n) words given.1) (subst (λ (n : ℕ). n ≤ x.size) words given.2) given.3 (c.take.ensures.aligned x is)
    (λ other. c.take.ensures.fresh x other is) c.take.ensures.keeps
    (λ first other has ne. c.take.ensures.only first other has (subst (λ (told : Result (AllocAnswer Piece) AllocError). LiesElsewhere told first) (sym is) ne))
    (λ ready. let here = subst (λ (n : ℕ). HasPieceReady before.cache (piece_words n)) (sym words) ready in ((c.take.ensures.served here).1, c.take.ensures.hits here))
    (λ none.
    let away : ¬ HasPieceReady before.cache (piece_words c.args.words) = λ here. none (subst (λ (n : ℕ). HasPieceReady before.cache (piece_words n)) words here) in
    (subst (λ (n : ℕ). HasNewPage c.deref.result.now before.cache n TRIES x.first c.take.new.self) words (c.take.ensures.new x is away), c.take.ensures.no_hit away)))

pub returns-in-Err : goal.returns-in-Err
returns-in-Err c =
    let before = c.args.self.now in
    let words : c.args.words ≡ words_for c.args._bytes = c.requires.0 in
    let cause = c.in-Err.ensures.cause in
    let none = c.none in
    stays before _ c.args._bytes none.result.code none.result.words none.result.memory none.ensures.2 none.ensures.0
    (inr (is_refused c.deref.result.now before _ c.args._bytes none.result.code c.args.words c.take.result c.deref.ensures refl words c.requires.1
    (none.ensures.1 ∙ cause.0) cause.1
    (λ ready. (c.take.ensures.served (subst (λ (n : ℕ). HasPieceReady before.cache (piece_words n)) (sym words) ready)).0) c.take.ensures.cause c.take.ensures.keeps
    c.take.ensures.only (λ none. c.take.ensures.no_hit (λ ready. none (subst (λ (n : ℕ). HasPieceReady before.cache (piece_words n)) words ready)))))
