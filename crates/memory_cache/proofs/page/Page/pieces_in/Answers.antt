use Rattle.std.proofs.Common.{◌*◌, ◌/◌, ◌<◌, ◌∙◌, ap, subst}
use Rattle.memory_cache.proofs.PageLemmas.{tells-number}
use Rattle.memory_cache.proofs.page.Page.pieces_in.Goals as goal

pub returns-clause-whole : goal.returns-clause-whole
returns-clause-whole c = λ number some is.
    let p = c.args.self.now in
    ap (λ n. n * p.inverse / 4194304) is
    ∙ tells-number number p.size p.inverse some p.scaled (subst (λ n. n < 2048) is c.requires.near)
