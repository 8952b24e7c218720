use Rattle.std.proofs.Common.{ℕ, rules, false, true≢false, sym, ◌∙◌, ◌≡◌, ◌<◌, subst}
use Rattle.heap_geometry.specs.declared.limits.TheConstants.{SMALL_MOST}
use Rattle.heap_geometry.specs.Need.{need_of}
use Rattle.errand_steps.specs.Points.{is_idle}
use Rattle.live_heap.specs.declared.plain.Memory.{Memory}
use Rattle.balloc_c.specs.declared.kept.Kept.TheVariants as kept
use Rattle.balloc_c.specs.Laid.{IsReady}
use Rattle.balloc_c.specs.Lending.{words_for}
use Rattle.balloc_c.proofs.Enough.{no-class}
use Rattle.balloc_c.proofs.lending.next_ready.Goals as goal

pub returns-then-not-idle-clause-none : goal.returns-then-not-idle-clause-none
returns-then-not-idle-clause-none c none idle memory ready =
    let busy : is_idle c.args.cache.now.pass.errand.point ≡ false = search rules in
    true≢false (sym idle ∙ busy)

pub returns-then-not-is_small-clause-none : goal.returns-then-not-is_small-clause-none
returns-then-not-is_small-clause-none c none idle memory ready =
    let above : SMALL_MOST < words_for c.args.bytes = c.is_small.ensures c.if-not-is_small.true in
    no-class (words_for c.args.bytes) ready.class above ready.small

pub returns-clause-none : goal.returns-clause-none
returns-clause-none c none idle =
    subst (λ (n : ℕ). (memory : Memory) → ¬ IsReady c.args.table.now (need_of n) (kept.Laid memory)) c.least_words.ensures (c.ready.ensures.none none)
