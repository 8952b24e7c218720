use Rattle.std.proofs.Common.{◌≡◌, ◌≤◌, Ok, false, sym, refl, ◌∙◌, subst}
use Rattle.std.specs.Result.{IfErr}
use Rattle.errand_steps.specs.Begins.{IsBusy}
use Rattle.live_heap.specs.Heaps.{HeapFields}
use Rattle.live_heap.specs.declared.answers.AllocAnswer.TheVariants as answer
use Rattle.live_heap.specs.declared.plain.Memory.{Memory}
use Rattle.memory_cache.specs.declared.cache.MemoryCache.{MemoryCache}
use Rattle.memory_cache.specs.Asking.{HasSettled}
use Rattle.memory_cache.specs.Caches.{IsCache}
use Rattle.memory_cache.specs.Pages.{IsPageFor}
use Rattle.memory_cache.specs.declared.piece.Piece.{Piece}
use Rattle.memory_cache.specs.Paged.{HasNewPage, HasSameOut}
use Rattle.memory_cache.specs.Rooms.{IsRoomOf}
use Rattle.memory_cache.proofs.PagedLemmas.{came-back, has-more, new-page, none-more, told-cut, told-none, with_cache}
use Rattle.memory_cache.proofs.TableLemmas.{table-is}
use Rattle.memory_cache.proofs.TakenPages.{MayComeHome, comes-home, err-first, may-come-home, may-cut, tells-given, tells-why}
use Rattle.memory_cache.proofs.paged.PagedCache.take_page.Goals as goal

pub cut-requires : goal.cut-requires
cut-requires g c =
    let memory = c.in-Given.memory in
    let given = c.take.ensures.given memory c.in-Given.is in (
      subst (λ (x : HeapFields). IsRoomOf x memory) c.requires.0 given.0,
      may-cut c.args.heap.now c.take.new.self memory c.args.words c.page_words.result c.piece_words.result c.take.ensures.cache given.1
          c.page_words.ensures.value c.piece_words.ensures.value given.2 given.3 c.piece_words.ensures.some,
    )

pub returns-in-Ok-clause-told : goal.returns-in-Ok-clause-told
returns-in-Ok-clause-told g c =
    let s = c.args.self.now in
    let q = c.take.new.self in
    let b = with_cache s q in
    let memory = c.in-Given.memory in
    let x = c.in-Ok.piece in
    let given = c.take.ensures.given memory c.in-Given.is in
    let sized : x.size ≡ c.piece_words.result = c.in-Ok.ensures.cut.1 in
    let fits : IsPageFor c.piece_words.result memory.block.place memory.block.need =
    may-cut c.args.heap.now q memory c.args.words c.page_words.result c.piece_words.result c.take.ensures.cache given.1
    c.page_words.ensures.value c.piece_words.ensures.value given.2 given.3 c.piece_words.ensures.some in
    let more =
    has-more c.args.heap.now g.h s.cache q memory c.take.result c.requires.0 c.in-Given.is c.take.ensures.cache c.take.ensures.caller given.1
    c.take.ensures.keeps c.take.ensures.only c.take.ensures.apart in
    told-cut g.h s b c.cut.new.self memory x c.requires.1.0 more (table-is s b refl)
    (subst (λ n. IsPageFor n memory.block.place memory.block.need) (sym sized) fits) c.in-Ok.ensures.cut.0 c.args.words c.args.tries
    (sized ∙ c.piece_words.ensures.value) (subst (λ n. c.args.words ≤ n) c.piece_words.ensures.value c.piece_words.ensures.enough)

pub returns-in-Ok-clause-new : goal.returns-in-Ok-clause-new
returns-in-Ok-clause-new g c = λ y told.
    let s = c.args.self.now in
    let q = c.take.new.self in
    let b = with_cache s q in
    let memory = c.in-Given.memory in
    let x = c.in-Ok.piece in
    let given = c.take.ensures.given memory c.in-Given.is in
    let sized : x.size ≡ c.piece_words.result = c.in-Ok.ensures.cut.1 in
    let fits : IsPageFor c.piece_words.result memory.block.place memory.block.need =
    may-cut c.args.heap.now q memory c.args.words c.page_words.result c.piece_words.result c.take.ensures.cache given.1
    c.page_words.ensures.value c.piece_words.ensures.value given.2 given.3 c.piece_words.ensures.some in
    let more =
    has-more c.args.heap.now g.h s.cache q memory c.take.result c.requires.0 c.in-Given.is c.take.ensures.cache c.take.ensures.caller given.1
    c.take.ensures.keeps c.take.ensures.only c.take.ensures.apart in
    let same : x ≡ y = cc in
    subst (λ (z : Piece). HasNewPage g.h s c.args.words c.args.tries z.first c.cut.new.self) same
    (new-page g.h s b c.cut.new.self memory x c.requires.1.0 more (table-is s b refl)
    (subst (λ n. IsPageFor n memory.block.place memory.block.need) (sym sized) fits) c.in-Ok.ensures.cut.0 c.args.words c.args.tries
    (tells-given c.args.heap.now g.h s.cache q c.args.words c.page_words.result c.args.tries memory c.take.result c.requires.0 c.page_words.ensures.value
    c.page_words.ensures.within.1 c.in-Given.is c.take.ensures.served c.take.ensures.asked))

pub returns-in-Err-clause-told : goal.returns-in-Err-clause-told
returns-in-Err-clause-told g c =
    let h = c.args.heap.now in
    let s = c.args.self.now in
    let q = c.take.new.self in
    let b = with_cache s q in
    let e = c.cut.new.self in
    let d = with_cache e c.give.new.self in
    let memory = c.in-Given.memory in
    let back = c.in-Err.memory in
    let same = c.in-Err.ensures.back in
    let given = c.take.ensures.given memory c.in-Given.is in
    let cached : IsCache h s.cache = subst (λ (x : HeapFields). IsCache x s.cache) (sym c.requires.0) c.requires.1.0.cache in
    let more =
    has-more h g.h s.cache q memory c.take.result c.requires.0 c.in-Given.is c.take.ensures.cache c.take.ensures.caller given.1
    c.take.ensures.keeps c.take.ensures.only c.take.ensures.apart in
    let may : MayComeHome e.cache back =
    subst (λ (m : Memory). MayComeHome e.cache m) (sym same.0)
    (subst (λ (m : MemoryCache). MayComeHome m memory) (sym same.1.cache)
    (may-come-home h s.cache q c.page_words.result c.args.tries memory c.take.result c.in-Given.is cached c.take.ensures.depth c.take.ensures.served
    (λ none. (c.take.ensures.asked none c.page_words.ensures.within.1).0))) in
    let done : IfErr c.give.result (λ m. ⊥) =
    comes-home e.cache back c.give.result may (λ room. (c.give.ensures.kept room).0)
    (err-first c.give.result (IsBusy e.cache.pass.errand) (HasSettled h e.cache.pass c.args.tries false c.give.new.self.pass) c.give.ensures.cause) in
    let out : HasSameOut g.h s d =
    came-back g.h s b e d memory back c.give.result c.requires.1.0 more (table-is s b refl) same.0 same.1
    (subst (λ (x : HeapFields). IsCache x c.give.new.self) c.requires.0 c.give.ensures.cache) c.give.ensures.caller (table-is e d refl)
    c.give.ensures.keeps c.give.ensures.only done in
    told-none g.h s d c.args.words c.args.tries _ out (λ x is. cc) tt

pub returns-in-Refused-clause-told : goal.returns-in-Refused-clause-told
returns-in-Refused-clause-told g c =
    let h = c.args.heap.now in
    let s = c.args.self.now in
    let q = c.take.new.self in
    let d = with_cache s q in
    told-none g.h s d c.args.words c.args.tries (Ok answer.Refused)
    (none-more h g.h s d c.take.result answer.Refused c.requires.0 c.in-Refused.is c.requires.1.0 (table-is s d refl) c.take.ensures.cache c.take.ensures.caller
    c.take.ensures.keeps c.take.ensures.only (λ other. tt))
    (λ x is. cc)
    (tells-why h g.h s.cache q c.args.words c.page_words.result c.args.tries c.take.result answer.Refused c.requires.0 c.page_words.ensures.value
    c.page_words.ensures.within.1 c.in-Refused.is (λ m is. cc) c.take.ensures.served c.take.ensures.asked)

pub returns-in-Spent-clause-told : goal.returns-in-Spent-clause-told
returns-in-Spent-clause-told g c =
    let h = c.args.heap.now in
    let s = c.args.self.now in
    let q = c.take.new.self in
    let d = with_cache s q in
    told-none g.h s d c.args.words c.args.tries (Ok answer.Spent)
    (none-more h g.h s d c.take.result answer.Spent c.requires.0 c.in-Spent.is c.requires.1.0 (table-is s d refl) c.take.ensures.cache c.take.ensures.caller
    c.take.ensures.keeps c.take.ensures.only (λ other. tt))
    (λ x is. cc)
    (tells-why h g.h s.cache q c.args.words c.page_words.result c.args.tries c.take.result answer.Spent c.requires.0 c.page_words.ensures.value
    c.page_words.ensures.within.1 c.in-Spent.is (λ m is. cc) c.take.ensures.served c.take.ensures.asked)

pub returns-in-Busy-clause-told : goal.returns-in-Busy-clause-told
returns-in-Busy-clause-told g c =
    let h = c.args.heap.now in
    let s = c.args.self.now in
    let q = c.take.new.self in
    let d = with_cache s q in
    told-none g.h s d c.args.words c.args.tries (Ok answer.Busy)
    (none-more h g.h s d c.take.result answer.Busy c.requires.0 c.in-Busy.is c.requires.1.0 (table-is s d refl) c.take.ensures.cache c.take.ensures.caller
    c.take.ensures.keeps c.take.ensures.only (λ other. tt))
    (λ x is. cc)
    (tells-why h g.h s.cache q c.args.words c.page_words.result c.args.tries c.take.result answer.Busy c.requires.0 c.page_words.ensures.value
    c.page_words.ensures.within.1 c.in-Busy.is (λ m is. cc) c.take.ensures.served c.take.ensures.asked)
