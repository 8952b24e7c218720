use Rattle.std.proofs.Common.{◌≡◌, ◌≤◌, ◌≢◌, ◌%◌, ◌∙◌, sym, refl, subst}
use Rattle.heap_geometry.specs.Need.{need_of, usable_words}
use Rattle.live_heap.specs.declared.plain.Memory.{Memory}
use Rattle.live_heap.specs.Memory.{HasTaken}
use Rattle.live_heap.specs.declared.answers.AllocAnswer.{AllocAnswer}
use Rattle.memory_cache.specs.Asking.{LiesElsewhere}
use Rattle.memory_cache.specs.Caches.{IsHeld, kept_in}
use Rattle.memory_cache.specs.Rooms.{IsRoomOf}
use Rattle.memory_cache.proofs.KeptLemmas.{kept-all, kept-same, passed}
use Rattle.memory_cache.proofs.RoomLemmas.{enough-small, room-aligned}
use Rattle.memory_cache.proofs.SettledLemmas.{pass-of}
use Rattle.memory_cache.proofs.cache.MemoryCache.take.Goals as goal

pub returns-in-Small-clause-cache : goal.returns-in-Small-clause-cache
returns-in-Small-clause-cache c = (c.serve.ensures.cache c.args.heap.now c.requires.cache).0

pub returns-in-Small-clause-given : goal.returns-in-Small-clause-given
returns-in-Small-clause-given c memory is =
    let h = c.args.heap.now in
    let m = c.serve.result in
    let x = c.serve.ensures in
    let same : m ≡ memory = cc in
    let need = sym c.class_of.ensures.value ∙ c.in-Small.is in
    let served = x.served c.args.words need in
    let serves : m.block.need ≡ need_of c.args.words = served.serves ∙ sym served.small in
    let enough : c.args.words ≤ usable_words m.block.need =
    subst (λ n. c.args.words ≤ usable_words n) (c.class_of.ensures.value ∙ sym serves) (enough-small c.args.words _ _ c.in-Small.is c.class_of.ensures.least) in
    let P : Memory → Type 0 = λ k.
    IsRoomOf h k × IsHeld c.serve.new.self k × (k.block.need ≡ need_of c.args.words) × (c.args.words ≤ usable_words k.block.need) in
    subst P same ((x.cache h c.requires.cache).1, x.held, serves, enough)

pub returns-in-Small-clause-aligned : goal.returns-in-Small-clause-aligned
returns-in-Small-clause-aligned c memory is =
    let h = c.args.heap.now in
    let m = c.serve.result in
    let x = c.serve.ensures in
    let same : m ≡ memory = cc in
    let cache = x.cache h c.requires.cache in
    subst (λ (k : Memory). k.words.first % 2 ≡ 1) same
    (room-aligned h c.serve.new.self.pass m (pass-of h c.serve.new.self.pass cache.0.pass) x.held.0 cache.1)

pub returns-in-Small-clause-apart : goal.returns-in-Small-clause-apart
returns-in-Small-clause-apart c memory other is held =
    let same : c.serve.result ≡ memory = cc in
    subst (λ (k : Memory). other.block.place ≢ k.block.place) same (c.serve.ensures.apart other held)

pub returns-in-Small-clause-served : goal.returns-in-Small-clause-served
returns-in-Small-clause-served c has =
    (c.serve.result, refl, c.serve.ensures.served c.args.words (sym c.class_of.ensures.value ∙ c.in-Small.is))

pub returns-in_default-clause-cache : goal.returns-in_default-clause-cache
returns-in_default-clause-cache c =
    let h = c.args.heap.now in
    let s = c.args.self.now in
    let q = c.ask.new.pass in
    passed h s q c.requires.cache c.ask.ensures.pass
    (kept-same h s.pass q (λ m taken. (c.ask.ensures.keeps m taken).0) (kept_in s) c.requires.cache.kept)

pub returns-in_default-clause-given : goal.returns-in_default-clause-given
returns-in_default-clause-given c memory is =
    let h = c.args.heap.now in
    let s = c.args.self.now in
    let x = c.ask.ensures.given memory is in
    let apart : (other : Memory) → HasTaken s.pass other → other.block.place ≢ memory.block.place = λ other taken.
    subst (λ (told : AllocAnswer Memory). LiesElsewhere told other) is (c.ask.ensures.keeps other taken).1 in (
      x.0,
      (x.1, kept-all h s.pass (λ other. other.block.place ≢ memory.block.place) apart (kept_in s) c.requires.cache.kept),
      x.2,
      x.3,
    )

pub returns-in_default-clause-aligned : goal.returns-in_default-clause-aligned
returns-in_default-clause-aligned c memory is =
    let h = c.args.heap.now in
    let x = c.ask.ensures.given memory is in
    room-aligned h c.ask.new.pass memory (pass-of h c.ask.new.pass c.ask.ensures.pass) x.1 x.0

pub returns-in_default-clause-apart : goal.returns-in_default-clause-apart
returns-in_default-clause-apart c memory other is held =
    subst (λ (told : AllocAnswer Memory). LiesElsewhere told other) is (c.ask.ensures.keeps other held.0).1

pub returns-in_default-clause-keeps : goal.returns-in_default-clause-keeps
returns-in_default-clause-keeps c other held = ((c.ask.ensures.keeps other held.0).0, held.1)

pub returns-in_default-clause-only : goal.returns-in_default-clause-only
returns-in_default-clause-only c other held ne = (c.ask.ensures.only other held.0 ne, held.1)
