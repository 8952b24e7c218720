use Rattle.std.proofs.Common.{arith, refl, sym, ◌∙◌}
use Rattle.std.proofs.lemmas.Bool.{false≢true}
use Rattle.memory_cache.proofs.PagedLemmas.{acts-through, behind-through, same-behind, same-out, then-out, then-same, whole-on}
use Rattle.memory_cache.proofs.TableLemmas.{pages-is}
use Rattle.memory_cache.proofs.paged.PagedCache.settle_page.Goals as goal
use Rattle.memory_cache.proofs.paged.PagedCache.settle_page.Goals.{then-not-is_whole-via-then-not-is_whole, then-not-is_whole-via-else-not-is_whole+then-self-number}

pub release-requires : goal.release-requires
release-requires c = (refl, ((same-out c.args.heap.now c.args.self.now c.unlink.new.self c.requires.paged c.unlink.ensures.same).paged, c.requires.tries))

pub returns-then-not-is_whole-clause-same : goal.returns-then-not-is_whole-clause-same
returns-then-not-is_whole-clause-same c = same-out c.args.heap.now c.args.self.now c.link.new.self c.requires.paged c.link.ensures.same

pub returns-then-not-is_whole-clause-sends : goal.returns-then-not-is_whole-clause-sends
returns-then-not-is_whole-clause-sends c = λ told whole ready.
    elim c.then-not-is_whole.branch [
      | then-not-is_whole-via-then-not-is_whole w ↦ absurd (false≢true (sym w.if-not-is_whole.true ∙ told))
      | then-not-is_whole-via-else-not-is_whole+then-self-number w ↦
          absurd (omega (arith, ready, w.if-self-number.true, w.len.ensures, c.args.self.now.pages.ok.0))
    ]

pub returns-then-not-release : goal.returns-then-not-release
returns-then-not-release c =
    let h = c.args.heap.now in
    let s = c.args.self.now in
    let e = c.link-then-not-release.new.self in
    record {
      same =
          then-same h s c.release.new.self e
          (then-out h s c.unlink.new.self c.release.new.self (same-out h s c.unlink.new.self c.requires.paged c.unlink.ensures.same) c.release.ensures.same) c.link-then-not-release.ensures.same;
      behind =
          behind-through h s c.unlink.new.self c.release.new.self e c.args.key c.args.tries (same-behind s c.unlink.new.self c.args.key c.unlink.ensures.same)
          c.release.ensures.behind c.link-then-not-release.ensures.same;
      sends = λ told whole ready.
          acts-through h s c.unlink.new.self c.release.new.self e c.args.key c.args.tries (same-behind s c.unlink.new.self c.args.key c.unlink.ensures.same)
          (c.release.ensures.sends (whole-on s c.unlink.new.self c.args.key c.unlink.ensures.same whole)) c.link-then-not-release.ensures.same;
      hits = c.link-then-not-release.ensures.hits ∙ c.release.ensures.hits ∙ c.unlink.ensures.hits;
    }

pub returns-else-not-release : goal.returns-else-not-release
returns-else-not-release c =
    let h = c.args.heap.now in
    let s = c.args.self.now in
    let e = c.release.new.self in
    record {
      same = then-out h s c.unlink.new.self e (same-out h s c.unlink.new.self c.requires.paged c.unlink.ensures.same) c.release.ensures.same;
      behind =
          behind-through h s c.unlink.new.self e e c.args.key c.args.tries (same-behind s c.unlink.new.self c.args.key c.unlink.ensures.same)
          c.release.ensures.behind (pages-is e e refl refl);
      sends = λ told whole ready.
          acts-through h s c.unlink.new.self e e c.args.key c.args.tries (same-behind s c.unlink.new.self c.args.key c.unlink.ensures.same)
          (c.release.ensures.sends (whole-on s c.unlink.new.self c.args.key c.unlink.ensures.same whole)) (pages-is e e refl refl);
      hits = c.release.ensures.hits ∙ c.unlink.ensures.hits;
    }
