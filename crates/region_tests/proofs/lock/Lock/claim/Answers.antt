use Rattle.std.proofs.Common.{◌≡◌, ℕ, ◌+◌, ◌-◌, List, ◌∷◌, sym, ap, ◌∙◌, subst, eqb, arith}
use prog.Atomic.{either}
use Rattle.std.specs.Prelude.{Bool}
use Rattle.plain_words.specs.Places.{Place}
use Rattle.atomic_region.specs.Region.{Me, Range, Allows, rest}
use Rattle.region_tests.specs.Lock.{Holds, Tried, evenly}
use Rattle.region_tests.proofs.Steps.{tries}
use Rattle.region_tests.proofs.lock.Lock.claim.Goals as goal

pub compare_exchange-found-requires : goal.compare_exchange-found-requires
compare_exchange-found-requires c = let lock = c.args.self.now in let key : ℕ = lock.region.shared.key in let words : ℕ = lock.region.shared.id.words in let id : ℕ = c.args.seat.now.id in let k : ℕ = c.args.expected in let whole : words ≡ key + 1 = omega (arith, lock.counted.0, lock.counted.1) in (
  c.requires.0,
  c.start-start.ensures,
  omega (arith, whole),
  subst (λ (m : Me Bool). Allows (Holds key) words id m 0 (λ x. either (eqb x k) 1 x) (λ x. Tried (words - 1) k m x)) (sym c.requires.1) (tries key words id whole k c.requires.2),
)

pub lift-requires : goal.lift-requires
lift-requires c = let got = c.compare_exchange-found.ensures.2.0 (omega (arith, c.if-found-expected.false)) in let ps : List Place = evenly (c.args.self.now.region.shared.id.words - 1) got.0 in
    (1, ps, ap (λ (m : Me Bool). m.1) got.2 ∙ ap (λ (l : List Range). (1, ps) ∷ l) (sym (ap (λ (m : Me Bool). rest m.1) got.2)))
