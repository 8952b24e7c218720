use Rattle.std.proofs.Common.{◌≡◌, ℕ, ◌+◌, [], ◌∷◌, replicate, sym, ap, ◌∙◌, subst, arith}
use Rattle.std.specs.Prelude.{Bool, true}
use Rattle.plain_words.specs.Places.{laids}
use Rattle.atomic_region.specs.Region.{Me, Range, Allows}
use Rattle.region_tests.specs.Lock.{Holds, idle}
use Rattle.region_tests.proofs.Steps.{ends}
use Rattle.region_tests.proofs.lock.Lock.release.Goals as goal

pub store-requires : goal.store-requires
store-requires c = let lock = c.args.self.now in let key : ℕ = lock.region.shared.key in let words : ℕ = lock.region.shared.id.words in let id : ℕ = c.carry.new.self.id in let held = c.args.held in let m : ℕ = c.requires.words.2.0 in
    let same : held.places ≡ laids (replicate key m) = c.requires.words.2.1 ∙ ap (λ (k : ℕ). laids (replicate k m)) (sym lock.counted.0) in let whole : words ≡ key + 1 = omega (arith, lock.counted.0, lock.counted.1) in
    let is = c.carry.ensures.2 ∙ ap (λ (h : Me Bool). let r : Me Bool = (h.0, (held.first, held.places) ∷ h.1) in r) c.requires.seat.1 ∙ ap (λ (x : Range). let r : Me Bool = (true, x ∷ []) in r) (let e : (held.first, held.places) ≡ (1, laids (replicate key m)) = (λ i. (c.requires.words.1 i, same i)) in e) in (
      c.carry.ensures.0 ∙ c.requires.seat.0,
      c.start.ensures,
      omega (arith, whole),
      subst (λ (h : Me Bool). Allows (Holds key) words id h 0 (λ _. 2) (λ _ w. w ≡ idle)) (sym is) (ends key words id whole m),
    )
