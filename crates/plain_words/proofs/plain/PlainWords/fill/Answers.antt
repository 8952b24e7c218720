use Rattle.std.proofs.Common.{◌≡◌, ℕ, suc, ◌+◌, ◌-◌, ◌<◌, List, length, get_or, set, sym, ap, ◌∙◌, subst, arith}
use Rattle.std.specs.Prelude.{None}
use Rattle.plain_words.specs.Places.{Place, laid, IsHere}
use Rattle.plain_words.proofs.Fills.{so_far, as_many, next_is, one_more, all_of_them}
use Rattle.plain_words.proofs.plain.PlainWords.fill.Goals as goal

pub lay-requires : goal.lay-requires
lay-requires c = let inv = c.loop-word.invariant in let w = c.loop-word.self in let old : List Place = c.args.self.now.places in let n : ℕ = c.args.number in let i : ℕ = c.loop-word.word - c.args.from in let lt : c.loop-word.word < c.args.to = omega (arith, c.loop-word-test.true) in
    let long : length w.places ≡ length old = ap length inv.4 ∙ as_many n old i in let same : i ≡ c.loop-word.word - w.first = omega (arith, inv.3, c.requires.1) in let inside : i < length old = omega (arith, lt, c.requires.1, c.requires.2, inv.0) in
    let is : get_or w.places i None ≡ get_or old i None = ap (λ (l : List Place). get_or l i None) inv.4 ∙ next_is n old i in (
      c.requires.0 ∙ sym inv.2,
      omega (arith, inv.0, inv.3, c.requires.1),
      omega (arith, lt, inv.3, long, c.requires.2),
      subst (λ (k : ℕ). IsHere (get_or w.places k None)) same (subst IsHere (sym is) (c.requires.3 i inside)),
    )

pub loop-word-preserved : goal.loop-word-preserved
loop-word-preserved c = let inv = c.loop-word.invariant in let w = c.loop-word.self in let old : List Place = c.args.self.now.places in let n : ℕ = c.args.number in let i : ℕ = c.loop-word.word - c.args.from in let lt : c.loop-word.word < c.args.to = omega (arith, c.loop-word-test.true) in
    let same : c.loop-word.word - w.first ≡ i = omega (arith, inv.3, c.requires.1) in let inside : i < length old = omega (arith, lt, c.requires.1, c.requires.2, inv.0) in let next : suc i ≡ c.loop-word.word + 1 - c.args.from = omega (arith, inv.0) in (
      omega (arith, inv.0),
      omega (arith, lt),
      c.lay.ensures.0 ∙ inv.2,
      c.lay.ensures.1 ∙ inv.3,
      c.lay.ensures.2 ∙ ap (λ (k : ℕ). set w.places k (laid n)) same ∙ ap (λ (l : List Place). set l i (laid n)) inv.4 ∙ one_more n old i inside ∙ ap (λ (k : ℕ). so_far n old k) next,
    )

pub returns : goal.returns
returns c = let inv = c.loop-word.invariant in let old : List Place = c.args.self.now.places in let n : ℕ = c.args.number in let i : ℕ = c.loop-word.word - c.args.from in
    let end : i ≡ length old = omega (arith, inv.1, c.loop-word-test.false, c.requires.1, c.requires.2) in (inv.2, inv.3, inv.4 ∙ ap (λ (k : ℕ). so_far n old k) end ∙ all_of_them n old)
