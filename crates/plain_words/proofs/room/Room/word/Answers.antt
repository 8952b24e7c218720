use Rattle.std.proofs.Common.{◌≡◌, ℕ, ◌-◌, sym, subst, arith}
use Rattle.plain_words.specs.Places.{IsLaid}
use Rattle.plain_words.proofs.room.Room.word.Goals as goal

pub word-requires : goal.word-requires
word-requires g c = let r = c.args.self.now in let i : ℕ = c.args.word in let same : i ≡ i - r.plain.first = omega (arith, r.whole.1) in
    (sym r.whole.0, omega (arith, r.whole.1), subst (λ (k : ℕ). IsLaid r.plain.places k) same c.requires)
