use Rattle.std.proofs.Common.{◌≡◌, ℕ, suc, ◌+◌, ◌<◌, ◌≤◌, List, length, get_or, set, refl, sym, ap, ◌∙◌, arith}
use lib.ListN.{length-replicate}
use Rattle.std.specs.Prelude.{Some, None}
use Rattle.plain_words.specs.Places.{Place, laid, blanks}
use Rattle.plain_words.proofs.Fills.{begun, begun-long, begun-more, begun-all}
use Rattle.plain_words.proofs.room.Room.of_words.Goals as goal

long : (ns : List ℕ) (i : ℕ) → length (begun ns (blanks (length ns)) i) ≡ length ns
long ns i = begun-long ns (blanks (length ns)) i ∙ length-replicate (length ns) (Some None)

pub lay-requires : goal.lay-requires
lay-requires g c = let inv = c.loop-i.invariant in omega (arith, ap length inv.1, long c.args.words.now c.loop-i.i, c.loop-i-test.true)

pub loop-i-preserved : goal.loop-i-preserved
loop-i-preserved g c = let inv = c.loop-i.invariant in let i : ℕ = c.loop-i.i in let ns : List ℕ = c.args.words.now in let lt : i < length ns = omega (arith, c.loop-i-test.true) in let next : suc i ≡ i + 1 = omega arith in (
  omega (arith, lt),
  c.lay.ensures ∙ ap (λ (l : List Place). set l i (laid (get_or ns i 0))) inv.1 ∙ begun-more ns (blanks (length ns)) i lt (length-replicate (length ns) (Some None)) ∙ ap (λ (k : ℕ). begun ns (blanks (length ns)) k) next,
)

pub returns : goal.returns
returns g c = let inv = c.loop-i.invariant in let ns : List ℕ = c.args.words.now in let end : c.loop-i.i ≡ length ns = omega (arith, inv.0, c.loop-i-test.false) in
    inv.1 ∙ ap (λ (k : ℕ). begun ns (blanks (length ns)) k) end ∙ begun-all ns (blanks (length ns)) (length-replicate (length ns) (Some None))
