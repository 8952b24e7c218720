use Rattle.std.proofs.Common.{◌≡◌, ℕ, ◌<◌, None, length, refl, ap, ◌∙◌, arith, inl, inr}
use Rattle.std.proofs.lemmas.Bool.{cases_eq}
use Rattle.memory_cache.specs.Paged.{page_at}
use Rattle.memory_cache.proofs.PagedLemmas.{nothing-held, paged-same, then-out, with_cache}
use Rattle.memory_cache.proofs.SettledLemmas.{pass-of}
use Rattle.memory_cache.proofs.TableLemmas.{out-on, table-is}
use Rattle.memory_cache.proofs.TakenPages.{out-held}
use Rattle.memory_cache.proofs.paged.PagedCache.close.Goals as goal

pub returns-then-not-release-clause-keeps : goal.returns-then-not-release-clause-keeps
returns-then-not-release-clause-keeps c = λ first size o. c.release.ensures.same.keeps first size (c.loop-key.invariant.same.keeps first size o)

pub returns-then-not-release-clause-only : goal.returns-then-not-release-clause-only
returns-then-not-release-clause-only c = λ first size o. c.loop-key.invariant.same.only first size (c.release.ensures.same.only first size o)

pub loop-key-preserved : goal.loop-key-preserved
loop-key-preserved c =
    let i = c.loop-key.invariant in
    let r = c.release.new.self in
    record {
      same = then-out c.args.heap.now c.args.self c.loop-key.self r i.same c.release.ensures.same;
      long = c.release.ensures.length ∙ i.long;
      none = λ k below. elim (cases_eq k c.loop-key.key) [
        | inl is ↦ ap (page_at r) is ∙ c.release.ensures.gone c.if-not-release.false
        | inr ne ↦ c.release.ensures.others k ne ∙ i.none k (omega (arith, below, ne))
      ];
    }

pub returns-in-Err-clause-paged : goal.returns-in-Err-clause-paged
returns-in-Err-clause-paged c =
    let s = c.loop-key.self in
    let d = with_cache s c.in-Err.cache in
    paged-same c.args.heap.now s d c.loop-key.invariant.same.paged c.in-Err.ensures.cache c.in-Err.ensures.keeps c.in-Err.ensures.only (table-is s d refl)

pub returns-in-Err-clause-keeps : goal.returns-in-Err-clause-keeps
returns-in-Err-clause-keeps c = λ first size o.
    let s = c.loop-key.self in
    let d = with_cache s c.in-Err.cache in
    out-on s d (table-is s d refl) first size (c.loop-key.invariant.same.keeps first size o)

pub returns-in-Err-clause-only : goal.returns-in-Err-clause-only
returns-in-Err-clause-only c = λ first size o.
    let s = c.loop-key.self in
    let d = with_cache s c.in-Err.cache in
    c.loop-key.invariant.same.only first size (out-on d s (table-is d s refl) first size o)

pub returns-in-Err-clause-cause : goal.returns-in-Err-clause-cause
returns-in-Err-clause-cause c =
    let h = c.args.heap.now in
    let s = c.loop-key.self in
    let i = c.loop-key.invariant in
    let cache = c.in-Err.cache in
    let none : (k : ℕ) → k < length s.pages.items → page_at s k ≡ None = λ k within.
    i.none k (omega (arith, within, i.long, c.args.self.pages.ok.0)) in
    elim c.in-Err.ensures.cause [
      | inl busy ↦ inl busy
      | inr empty ↦
          let m = out-held h cache (pass-of h cache.pass c.in-Err.ensures.cache.pass) empty.1 empty.0 in
          absurd (nothing-held h s i.same.paged none m.0 (c.in-Err.ensures.only m.0 m.1))
    ]
