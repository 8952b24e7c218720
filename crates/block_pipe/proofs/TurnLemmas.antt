-- Which of a sender's shelves has its turn.
use Rattle.std.proofs.Common.{ℕ, suc, ◌≡◌, ◌<◌, ◌+◌, ◌%◌, ap, sym, ◌∙◌}
use Rattle.std.proofs.Math.Nat.{mod-eq_of_lt, mod_self, suc-mod}
use Rattle.std.proofs.Math.Numerals.{suc-eq-add-one}

next-turn : (turn shelves sent : ℕ) → turn ≡ sent % shelves → (sent + 1) % shelves ≡ (turn + 1) % shelves
next-turn turn shelves sent is =
    ap (λ n. n % shelves) (sym (suc-eq-add-one sent))
    ∙ (suc-mod sent shelves ∙ (ap (λ t. suc t % shelves) (sym is) ∙ ap (λ n. n % shelves) (suc-eq-add-one turn)))

pub turns-on : (turn shelves sent : ℕ) → turn + 1 < shelves → turn ≡ sent % shelves → turn + 1 ≡ (sent + 1) % shelves
turns-on turn shelves sent more is = sym (next-turn turn shelves sent is ∙ mod-eq_of_lt more)

-- behind the last one the first has its turn
pub turns-over : (turn shelves sent : ℕ) → turn + 1 ≡ shelves → turn ≡ sent % shelves → 0 ≡ (sent + 1) % shelves
turns-over turn shelves sent last is = sym (next-turn turn shelves sent is ∙ (ap (λ n. n % shelves) last ∙ mod_self shelves))
