use Rattle.std.proofs.Common.{rules, ◌≡◌, true, false, Some, None, Ok, Err, refl, sym, ap, ◌∙◌, subst}
use Rattle.std.specs.Prelude.{not}
use Rattle.std.proofs.lemmas.Option.{same_Some}
use Rattle.errand_steps.specs.Points.{is_idle}
use Rattle.live_heap.specs.Memory.{IsMemoryOf}
use Rattle.plain_words.specs.Places.{numbers}
use Rattle.plain_words.specs.declared.plain.PlainWords.{PlainWords}
use Rattle.balloc_c.specs.declared.kept.Kept.TheVariants as kept
use Rattle.balloc_c.specs.declared.refusal.Refusal.TheVariants as refusal
use Rattle.balloc_c.specs.Kept.{block_of}
use Rattle.balloc_c.specs.Lending.{IsBackFor, StaysHome}
use Rattle.balloc_c.specs.Numbers.{named}
use Rattle.balloc_c.specs.Outcomes.{barred, names_none}
use Rattle.balloc_c.specs.Slots.{block_at}
use Rattle.balloc_c.proofs.BarLemmas.{in-call, no-block}
use Rattle.balloc_c.proofs.LendingLemmas.{home-slot, out-slot}
use Rattle.balloc_c.proofs.MemoryCalls.{gives-nothing, gives-words, home-refused, numbers-memory, some-numbers, stays-busy, stays-home, words-back}
use Rattle.balloc_c.proofs.Numbers.{found-seen}
use Rattle.balloc_c.proofs.lending.bring.Goals as goal

pub returns-then-not-idle-clause-answers : goal.returns-then-not-idle-clause-answers
returns-then-not-idle-clause-answers c =
    let h = c.args.heap.now in
    let s = c.args.cache.now in
    let t = c.args.table.now in
    let busy : is_idle s.pass.errand.point ≡ false = search rules in (
      Err refusal.InCall,
      c.requires.code,
      tt,
      stays-busy h s t c.args.number (λ words. numbers words.places) (λ e v result d u. StaysHome e v c.args.number result d u) c.args.back.words (ap not busy)
          (home-refused s t c.args.number refusal.InCall (in-call s.pass (barred (names_none t c.args.number) refusal.NoBlock None) busy)),
    )

pub returns-in_default-clause-answers : goal.returns-in_default-clause-answers
returns-in_default-clause-answers c =
    let h = c.args.heap.now in
    let s = c.args.cache.now in
    let t = c.args.table.now in
    let idle : is_idle s.pass.errand.point ≡ true = search rules in
    let none : named t c.args.number ≡ None = c.in_default.ensures.lost refl in (
      Err refusal.NoBlock,
      c.none.ensures.1 ∙ c.word.ensures,
      c.none.ensures.2,
      gives-nothing h s t c.args.number (λ words. numbers words.places) (λ e v result d u. StaysHome e v c.args.number result d u) c.args.back.words
          c.none.result.words (Err refusal.NoBlock) s t (subst (λ slot. IsBackFor h slot c.args.back.words) none c.requires.back)
          c.none.ensures.2 (home-refused s t c.args.number refusal.NoBlock (no-block s.pass t c.args.number None idle none)),
    )

pub come_home-requires-clause-words : goal.come_home-requires-clause-words
come_home-requires-clause-words c =
    let h = c.args.heap.now in
    let t = c.args.table.now in
    let index = c.in-Some.index in
    let out = out-slot (block_at t.slots.items index) (sym c.is_out.ensures ∙ c.if-is_out.true) in
    let back = words-back h out.0 c.args.back.words (subst (λ slot. IsBackFor h slot c.args.back.words) (c.in-Some.ensures.found.2 ∙ out.1) c.requires.back) in
    let words : back.0 ≡ c.into_words.result = same_Some back.0 c.into_words.result (sym back.1 ∙ c.into_words.ensures) in (
      out.0,
      out.1,
      subst (λ (w : PlainWords). IsMemoryOf h (record { block = block_of (kept.Out out.0); words = w })) words
          (numbers-memory h out.0 back.0 back.2 (some-numbers c.args.back.words back.0 back.1 c.requires.numbers)),
    )

pub returns-then-is_out-clause-answers : goal.returns-then-is_out-clause-answers
returns-then-is_out-clause-answers c =
    let h = c.args.heap.now in
    let s = c.args.cache.now in
    let t = c.args.table.now in
    let e = c.come_home.new.cache in
    let v = c.come_home.new.table in
    let home = c.come_home.ensures.home in (
      Ok tt,
      c.none-then-is_out.ensures.1,
      c.none-then-is_out.ensures.2,
      gives-words h s t c.args.number (λ words. numbers words.places) (λ e2 v2 result d u. StaysHome e2 v2 c.args.number result d u) c.args.back.words
          c.none-then-is_out.result.words c.into_words.result (Ok tt) e e v v c.into_words.ensures c.none-then-is_out.ensures.2 home
          (stays-home e v c.args.number (kept.Home (block_of (kept.Out home.lent))) c.come_home.ensures.idle home.now.here),
    )

pub returns-clause-answers : goal.returns-clause-answers
returns-clause-answers c =
    let h = c.args.heap.now in
    let s = c.args.cache.now in
    let t = c.args.table.now in
    let index = c.in-Some.index in
    let idle : is_idle s.pass.errand.point ≡ true = search rules in
    let home = home-slot (block_at t.slots.items index) (found-seen c.args.table.now c.args.number c.in-Some.index c.in-Some.ensures.found.1 c.in-Some.ensures.found.3) (sym c.is_out.ensures ∙ c.if-is_out.false) in
    let names : named t c.args.number ≡ Some (kept.Home home.0) = c.in-Some.ensures.found.2 ∙ home.1 in (
      Ok tt,
      c.none-2.ensures.1,
      c.none-2.ensures.2,
      gives-nothing h s t c.args.number (λ words. numbers words.places) (λ e v result d u. StaysHome e v c.args.number result d u) c.args.back.words
          c.none-2.result.words (Ok tt) s t (subst (λ slot. IsBackFor h slot c.args.back.words) names c.requires.back) c.none-2.ensures.2
          (stays-home s t c.args.number (kept.Home home.0) idle names),
    )
