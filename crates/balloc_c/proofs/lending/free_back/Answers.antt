use Rattle.std.proofs.Common.{rules, ◌≡◌, true, false, Some, None, Err, refl, sym, ap, ◌∙◌, subst, inr, true≢false}
use Rattle.std.specs.Prelude.{not}
use Rattle.errand_steps.specs.Points.{is_idle}
use Rattle.balloc_c.specs.declared.kept.Kept.TheVariants as kept
use Rattle.balloc_c.specs.declared.refusal.Refusal.TheVariants as refusal
use Rattle.balloc_c.specs.Lending.{FreesBack, IsBackFor, zeros}
use Rattle.balloc_c.specs.Numbers.{named}
use Rattle.balloc_c.specs.Outcomes.{Frees, HasFreed, barred, free_bar, names_none, names_out}
use Rattle.balloc_c.specs.Slots.{block_at}
use Rattle.balloc_c.proofs.BarLemmas.{in-call, no-block, refuses}
use Rattle.balloc_c.proofs.LendingLemmas.{home-slot, out-slot}
use Rattle.balloc_c.proofs.MemoryCalls.{gives-nothing, stays-busy, words-back}
use Rattle.balloc_c.proofs.Numbers.{found-seen, some-not-none}
use Rattle.balloc_c.proofs.lending.free_back.Goals as goal

pub returns-then-not-idle-clause-answers : goal.returns-then-not-idle-clause-answers
returns-then-not-idle-clause-answers c =
    let h = c.args.heap.now in
    let s = c.args.cache.now in
    let t = c.args.table.now in
    let n = c.args.number in
    let busy : is_idle s.pass.errand.point ≡ false = search rules in (
      Err refusal.InCall,
      c.requires.code,
      tt,
      inr (
        (λ idle room. true≢false (sym idle ∙ busy)),
        stays-busy h s t n zeros (λ e v result d u. HasFreed e v n result d u) c.args.back.words (ap not busy)
            (refuses (free_bar s.pass t n) refusal.InCall (Frees s t n) s t
            (in-call s.pass (barred (names_none t n) refusal.NoBlock (barred (names_out t n) refusal.Out None)) busy)),
      ),
    )

pub returns-in_default-clause-answers : goal.returns-in_default-clause-answers
returns-in_default-clause-answers c =
    let h = c.args.heap.now in
    let s = c.args.cache.now in
    let t = c.args.table.now in
    let n = c.args.number in
    let idle : is_idle s.pass.errand.point ≡ true = search rules in
    let none : named t n ≡ None = c.in_default.ensures.lost refl in (
      Err refusal.NoBlock,
      c.none.ensures.1 ∙ c.word.ensures,
      c.none.ensures.2,
      inr (
        (λ rests room. some-not-none room.it (sym room.is ∙ none)),
        gives-nothing h s t n zeros (λ e v result d u. HasFreed e v n result d u) c.args.back.words c.none.result.words (Err refusal.NoBlock) s t
            (subst (λ slot. IsBackFor h slot c.args.back.words) none c.requires.back) c.none.ensures.2
            (refuses (free_bar s.pass t n) refusal.NoBlock (Frees s t n) s t (no-block s.pass t n (barred (names_out t n) refusal.Out None) idle none)),
      ),
    )

pub free_lent-requires-clause-words : goal.free_lent-requires-clause-words
free_lent-requires-clause-words c =
    let h = c.args.heap.now in
    let t = c.args.table.now in
    let index = c.in-Some.index in
    let out = out-slot (block_at t.slots.items index) (sym c.is_out.ensures ∙ c.if-is_out.true) in
    let back = words-back h out.0 c.args.back.words (subst (λ slot. IsBackFor h slot c.args.back.words) (c.in-Some.ensures.found.2 ∙ out.1) c.requires.back) in
    (out.0, back.0, out.1, back.1, back.2)

pub free_whole-requires-clause-home : goal.free_whole-requires-clause-home
free_whole-requires-clause-home c =
    home-slot (block_at c.args.table.now.slots.items c.in-Some.index) (found-seen c.args.table.now c.args.number c.in-Some.index c.in-Some.ensures.found.1 c.in-Some.ensures.found.3)
    (sym c.is_out.ensures ∙ c.if-is_out.false)

pub returns-clause-answers : goal.returns-clause-answers
returns-clause-answers c =
    let h = c.args.heap.now in
    let s = c.args.cache.now in
    let t = c.args.table.now in
    let n = c.args.number in
    let index = c.in-Some.index in
    let home = home-slot (block_at t.slots.items index) (found-seen c.args.table.now c.args.number c.in-Some.index c.in-Some.ensures.found.1 c.in-Some.ensures.found.3) (sym c.is_out.ensures ∙ c.if-is_out.false) in
    let names : named t n ≡ Some (kept.Home home.0) = c.in-Some.ensures.found.2 ∙ home.1 in
    let nothing : c.args.back.words ≡ None = subst (λ slot. IsBackFor h slot c.args.back.words) names c.requires.back in
    let told = c.free_whole.ensures.answers in (
      told.0,
      told.1,
      told.2,
      subst (λ back. FreesBack h s t n back told.0 c.free_whole.result.words c.free_whole.new.cache c.free_whole.new.table) (sym nothing) told.3,
    )
