-- The senders' threads in a round.
use Rattle.std.proofs.Common.{ℕ, zero, suc, ◌≡◌, ◌<◌, ◌≤◌, ◌+◌, List, [], ◌∷◌, get_or, length, take, drop, ◌++◌, sym, ◌∙◌, ap, subst, arith}
use Rattle.std.specs.Prelude.{All}
use Rattle.std.proofs.lemmas.Grind.{common_steps}
use Rattle.std.proofs.lemmas.List.{append-nil}
use Rattle.std.proofs.lemmas.List.Elements.{All-cons, All-nil}
use Rattle.live_heap.specs.Heaps.{HeapFields}
use Rattle.block_pipe.specs.declared.pipe.Pipe.{Pipe}
use Rattle.pipe_runner.specs.declared.sender.SenderThread.{SenderThread}
use Rattle.pipe_runner.specs.Senders.{AreSending, IsSending, MaySend, SendsUntil}

module _ (passed : ℕ → ℕ → Type 0) (h : HeapFields) (pipe : Pipe) (start : ℕ) where
  -- each sender's thread may send in a round
  pub sending-may :
      (from until number : ℕ) (ws : List SenderThread) → AreSending passed h pipe start from number ws → from ≤ until → until ≤ 100000
      → All (λ w. MaySend passed h pipe start until w) ws
  sending-may from until number [] all more few = All-nil (λ w. MaySend passed h pipe start until w)
  sending-may from until number (w ∷ ws) all more few =
      let count : from ≡ w.end.sent = sym (all.0.end.count ∙ all.0.pushed) in
      All-cons (λ x. MaySend passed h pipe start until x) w ws (record {
        stands = subst (λ (n : ℕ). IsSending passed h pipe start n w) count all.0;
        more = subst (λ (n : ℕ). n ≤ until) count more;
        few = few;
      }) (sending-may from until number ws all.2 more few)

  -- each sender's thread has sent behind a round
  pub sending-done :
      (from until number : ℕ) (ws xs : List SenderThread) → length xs ≡ length ws
      → ((i : ℕ) (d : SenderThread) → i < length ws → SendsUntil passed h pipe start until (get_or ws i d) (get_or xs i d))
      → AreSending passed h pipe start from number ws → AreSending passed h pipe start until number xs
  sending-done from until number [] [] same each all = tt
  sending-done from until number [] (x ∷ xs) same each all = absurd (omega (arith, same))
  sending-done from until number (w ∷ ws) [] same each all = absurd (omega (arith, same))
  sending-done from until number (w ∷ ws) (x ∷ xs) same each all =
      let fewer : length xs ≡ length ws = omega (arith, same) in
      let first = each 0 w (omega arith) in (
        first.0,
        first.1 ∙ all.1 ∙ ap (λ (n : ℕ). number + n) (sym fewer),
        sending-done from until number ws xs fewer (λ i d lt. each (suc i) d (omega (arith, lt))) all.2,
      )

-- a list that is written whole over another one
pub written-whole : {X : Type 0} (xs ys : List X) (n : ℕ) → length xs ≡ n → length ys ≡ n → take n (xs ++ drop (length xs) ys) ≡ xs
written-whole xs ys n a b =
    let none : drop (length xs) ys ≡ [] = grind (arith, common_steps) in
    ap (λ l. take n (xs ++ l)) none ∙ (ap (take n) (append-nil xs) ∙ grind (arith, common_steps))

-- what holds of the first element before and after, and of each of the others, holds of each
pub all-sent :
    {X : Type 0} (R : X → X → Type 0) (all : List X) (x y : X) (xs ys : List X) → all ≡ x ∷ xs → R x y
    → ((i : ℕ) (d : X) → i < length xs → R (get_or xs i d) (get_or ys i d)) → (i : ℕ) (d : X) → i < length all
    → R (get_or all i d) (get_or (y ∷ ys) i d)
all-sent R all x y xs ys is first others i d below =
    subst (λ l. R (get_or l i d) (get_or (y ∷ ys) i d)) (sym is) (each i (subst (λ l. i < length l) is below))
  where
    each : (i : ℕ) → i < length (x ∷ xs) → R (get_or (x ∷ xs) i d) (get_or (y ∷ ys) i d)
    each zero below = first
    each (suc i) below = others i d (omega (arith, below))
