-- Registers that hold nothing.
use Rattle.std.proofs.Common.{ℕ, zero, suc, ◌≡◌, ◌∷◌, Option, Some, None, replicate, refl, sym, ap, ◌∙◌}
use Rattle.trace_lane.proofs.Common.{Need, REGISTERS, HoldsBlocks, length-replicate, slice_index_or, held_blocks}
use Rattle.trace_lane.proofs.EachCall.{held_need, held_place}

none-at : {B : Type 0} (n r : ℕ) → slice_index_or (replicate {A = Option B} n None) r None ≡ None
none-at zero r = refl
none-at (suc n) zero = refl
none-at (suc n) (suc r) = none-at n r

pub none-hold :
    {B : Type 0} (place_of : B → ℕ) (need_of : B → Need) (owns : ℕ → Need → Type 0) → HoldsBlocks place_of need_of owns (replicate REGISTERS None)
none-hold {B = B} place_of need_of owns = record {
  size = length-replicate {A = Option B} REGISTERS None;
  owned = λ r block full. absurd (let e : None ≡ Some block = sym (none-at {B = B} REGISTERS r) ∙ full in cc);
  once = λ r q block other one two differ. absurd (let e : None ≡ Some block = sym (none-at {B = B} REGISTERS r) ∙ one in cc);
}

pub empty-holds : (owns : ℕ → Need → Type 0) → HoldsBlocks held_place held_need owns (replicate REGISTERS None)
empty-holds = none-hold held_place held_need

-- registers that hold nothing hold no block
pub blocks-none :
    {B : Type 0} (place_of : B → ℕ) (need_of : B → Need) (n : ℕ) → held_blocks place_of need_of (replicate n None) ≡ replicate n None
blocks-none place_of need_of zero = refl
blocks-none place_of need_of (suc n) = ap (λ xs. None ∷ xs) (blocks-none place_of need_of n)
