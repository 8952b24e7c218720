use Rattle.std.proofs.Common.{◌≡◌, ℕ, ◌+◌, sym, ap, subst, arith}
use Rattle.std.specs.Prelude.{Bool, false}
use Rattle.atomic_region.specs.Region.{Me, Splits}
use Rattle.region_tests.specs.Lock.{Holds}
use Rattle.region_tests.proofs.Steps.{cut_in_two}
use Rattle.region_tests.proofs.lock.Lock.add_on_two.Goals as goal

pub split_seat-second-requires : goal.split_seat-second-requires
split_seat-second-requires g c = let lock = c.args.self.now in let key : ℕ = lock.region.shared.key in let words : ℕ = lock.region.shared.id.words in let id : ℕ = c.args.seat.id in let whole : words ≡ key + 1 = omega (arith, lock.counted.0, lock.counted.1) in
    (c.requires.0, c.start.ensures, omega (arith, whole), subst (λ (b : Bool). Splits (Holds key) words 0 id b false false) (sym (ap (λ (m : Me Bool). m.0) c.requires.1)) (cut_in_two key words id whole))
