-- What registers hold, of blocks in hand.
use Rattle.std.proofs.Common.{ℕ, zero, suc, ◌≡◌, ◌<◌, ◌∷◌, List, [], Option, Some, None, length, refl, sym, ap, ◌∙◌, arith, get_or-set_same, IfSome}
use Rattle.trace_lane.proofs.Common.{Need, HeldBlock, held_there, option_map, slice_index_or, held_in, held_blocks, held_by, slice_set, length-set}
use Rattle.std.proofs.lemmas.List.{length-map}
use Rattle.trace_lane.specs.Made.{IsTakenOut}

module _ {B : Type 0} (place_of : B → ℕ) (need_of : B → Need) where
  -- what a register holds, of a block in hand
  pub slot-held :
      (blocks : List (Option B)) (r : ℕ)
      → held_in (held_blocks place_of need_of blocks) r ≡ option_map (held_by place_of need_of) (slice_index_or blocks r None)
  slot-held [] r = refl
  slot-held (block ∷ blocks) zero = refl
  slot-held (block ∷ blocks) (suc r) = slot-held blocks r

  pub slot-full :
      (blocks : List (Option B)) (r : ℕ) (block : B) → slice_index_or blocks r None ≡ Some block
      → held_in (held_blocks place_of need_of blocks) r ≡ Some (held_by place_of need_of block)
  slot-full blocks r block full = slot-held blocks r ∙ ap (option_map (held_by place_of need_of)) full

  -- a register that is set
  pub set-held :
      (blocks : List (Option B)) (r : ℕ) (slot : Option B)
      → held_blocks place_of need_of (slice_set blocks r slot) ≡ slice_set (held_blocks place_of need_of blocks) r (option_map (held_by place_of need_of) slot)
  set-held [] r slot = refl
  set-held (block ∷ blocks) zero slot = refl
  set-held (block ∷ blocks) (suc r) slot =
      ap (λ rs. option_map (held_by place_of need_of) block ∷ rs) (set-held blocks r slot)

  pub blocks-size : (blocks : List (Option B)) → length (held_blocks place_of need_of blocks) ≡ length blocks
  blocks-size blocks = length-map blocks (λ register. option_map (held_by place_of need_of) register)

  -- a full register's block is taken out
  pub taken-out :
      (old new : List (Option B)) (r : ℕ) (slot : Option B) → slot ≡ slice_index_or old r None → new ≡ slice_set old r None
      → IfSome slot
      (λ block. IsTakenOut (held_blocks place_of need_of old) (held_blocks place_of need_of new) r (held_by place_of need_of block))
  taken-out old new r None found is = tt
  taken-out old new r (Some block) found is =
      ((slot-full old r block (sym found), refl), ap (held_blocks place_of need_of) is ∙ set-held old r None)

  -- a register that is set to a block
  pub set-block :
      (old new : List (Option B)) (r : ℕ) (block : B) → new ≡ slice_set old r (Some block)
      → held_blocks place_of need_of new ≡ slice_set (held_blocks place_of need_of old) r (Some (held_by place_of need_of block))
  set-block old new r block is = ap (held_blocks place_of need_of) is ∙ set-held old r (Some block)

-- a register that was set
pub set-there :
    (before registers : List (Option HeldBlock)) (r : ℕ) (held : HeldBlock) → r < length registers → registers ≡ slice_set before r (Some held)
    → held_in registers r ≡ Some held
set-there before registers r held within is =
    let same : length registers ≡ length before = ap length is ∙ length-set before r (Some held) in
    let inside : r < length before = omega (arith, within, same) in
    ap (λ rs. held_in rs r) is ∙ get_or-set_same before r (Some held) None inside

-- the block of a register, as the code reads it
pub read-held :
    {B : Type 0} (place_of : B → ℕ) (block_need : B → Need) (blocks : List (Option B)) (r : ℕ) (held : HeldBlock)
    → held ≡ held_there (option_map (held_by place_of block_need) (slice_index_or blocks r None))
    → held ≡ held_there (held_in (held_blocks place_of block_need blocks) r)
read-held place_of block_need blocks r held is = is ∙ ap held_there (sym (slot-held place_of block_need blocks r))
