use Rattle.std.proofs.Common.{◌/◌, ◌∙◌, ap}
use Rattle.memory_cache.specs.Sizes.{size_number}
use Rattle.memory_cache.proofs.paged.push_at.Goals as goal

pub returns-then-page-eq1-clause-key : goal.returns-then-page-eq1-clause-key
returns-then-page-eq1-clause-key c =
    let same = c.push.ensures.same in (
      c.in-Some.page,
      c.in-Some.is,
      ap (λ n. n / 2048) same.place,
      c.push.new.self.numbered ∙ ap size_number same.size,
    )
