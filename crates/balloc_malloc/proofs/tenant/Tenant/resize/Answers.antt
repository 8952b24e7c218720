use Rattle.std.proofs.Common.{◌≡◌, ℕ, ◌<◌, ◌≤◌, Result, Ok, sym, refl, ◌∙◌, subst, inr}
use Rattle.std.specs.declared.alloc.AllocError.{AllocError}
use Rattle.live_heap.specs.declared.answers.AllocAnswer.{AllocAnswer}
use Rattle.live_heap.specs.declared.answers.AllocAnswer.TheVariants.{Given}
use Rattle.memory_cache.specs.declared.piece.Piece.{Piece}
use Rattle.memory_cache.specs.Paged.{HasPieceReady, LiesElsewhere}
use Rattle.memory_cache.specs.Sizes.{piece_words}
use Rattle.balloc_malloc.specs.declared.codes.TheConstants.{CAUSES}
use Rattle.balloc_malloc.specs.Sizes.{words_for}
use Rattle.balloc_malloc.proofs.Moving.{moves, stays_out}
use Rattle.balloc_malloc.proofs.Taking.{is_refused, lacks}
use Rattle.balloc_malloc.proofs.tenant.Tenant.resize.Goals as goal

pub give-requires-clause-out : goal.give-requires-clause-out
give-requires-clause-out c = c.take.ensures.keeps c.args.first c.args.size c.requires.lent.out

pub returns-in-Ok : goal.returns-in-Ok
returns-in-Ok c =
    let before = c.args.self.now in
    let words : c.in-Some.words ≡ words_for c.args.bytes = c.in-Some.ensures.words.0 in
    let larger = c.in-Ok.larger in
    let is : c.take.result ≡ Ok (Given larger) = c.in-Ok.ensures.piece in
    let given = c.take.ensures.given larger is in
    let copied = c.copied-larger.ensures in
    moves c.deref-in-Ok.result.now before _ c.take.new.self c.args.words c.args.first c.args.size c.args.bytes c.hand_out-in-Ok.result.code c.hand_out-in-Ok.result.words larger
    c.copied-larger.result c.hand_out-in-Ok.result.memory c.deref-in-Ok.ensures refl c.requires.lent (record {
      sized = subst (λ (n : ℕ). larger.size ≡ piece_words n) words given.1;
      enough = subst (λ (n : ℕ). n ≤ larger.size) words given.2;
      aligned = c.take.ensures.aligned larger is;
      out = given.3;
      fresh = λ other. c.take.ensures.fresh larger other is;
      keeps = c.take.ensures.keeps;
      only = λ first other has ne.
          c.take.ensures.only first other has (subst (λ (told : Result (AllocAnswer Piece) AllocError). LiesElsewhere told first) (sym is) ne);
    }) copied.place copied.piece copied.copied c.give.ensures.keeps c.give.ensures.only c.hand_out-in-Ok.ensures.0 c.hand_out-in-Ok.ensures.1 c.hand_out-in-Ok.ensures.2

pub returns-in-Err : goal.returns-in-Err
returns-in-Err c =
    let before = c.args.self.now in
    let words : c.in-Some.words ≡ words_for c.args.bytes = c.in-Some.ensures.words.0 in
    let told = c.send_out-in-Err in
    let cause = c.in-Err.ensures.cause in
    let code = told.ensures.0 ∙ cause.0 in
    stays_out before _ c.args.words c.args.size c.args.bytes told.result.code told.result.words told.result.memory told.ensures.1 told.ensures.2
    (inr (
      subst (λ (n : ℕ). CAUSES ≤ n) (sym code) (lacks c.take.result cause.1),
      subst (λ (n : ℕ). n < c.args.bytes) c.bytes_in.ensures c.if-bytes-bytes_in.false,
      inr (is_refused c.deref-2.result.now before _ c.args.bytes told.result.code c.in-Some.words c.take.result c.deref-2.ensures refl words c.in-Some.ensures.words.1 code cause.1
          (λ ready. (c.take.ensures.served (subst (λ (n : ℕ). HasPieceReady before.cache (piece_words n)) (sym words) ready)).0) c.take.ensures.cause c.take.ensures.keeps
          c.take.ensures.only (λ none. c.take.ensures.no_hit (λ ready. none (subst (λ (n : ℕ). HasPieceReady before.cache (piece_words n)) words ready)))),
    ))
