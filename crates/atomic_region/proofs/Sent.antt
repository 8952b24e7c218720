-- A region and a seat may go to another thread, since words may.
use Rattle.std.proofs.Common.{ℕ, suc, List, [], ◌∷◌}
use base.Fraction.{full_share}
use base.Stored.{Gv}
use base.Fml.{Lft}
use base.Shift.{Keyless}
use denote.RawPtr.{block_of, count_of}
use types.Keyed.{entry_keyless, entries_keyless}
use Rattle.atomic_table.specs.Seated.{halved, roster}
use Rattle.plain_words.proofs.Crosses.{row_keyless, plain_keyless}
use Rattle.atomic_region.specs.Region.{Range, Me, State}
use Rattle.atomic_region.specs.Owned.{RegionId, carried, mine, inner, region_owns, region_shares}

roster_keyless : {V : Type 0} (c : V → Gv) (γ k : ℕ) (vs : List V) → Keyless (roster c γ k vs)
roster_keyless c γ k [] = λ v. entries_keyless halved γ k (λ _. (full_share, c v))
roster_keyless c γ k (v ∷ vs) = (entry_keyless halved γ k _, roster_keyless c γ (suc k) vs)

module _ (z : RegionId) where
  carried_keyless : (xs : List Range) → Keyless (carried z xs)
  carried_keyless [] = tt
  carried_keyless (x ∷ xs) = ((λ _. tt), (plain_keyless z.at x.0 x.1, carried_keyless xs))

  module _ {V : Type 0} (c : V → Gv) where
    pub seat_keyless : (id : ℕ) (me : Me V) → Keyless (mine z c id me)
    seat_keyless id me = (entry_keyless halved z.views_name id _, carried_keyless me.1)

    module _ (holds : State V → Type 0) where
      inner_keyless : Keyless (inner z c holds)
      inner_keyless = λ s. (row_keyless (block_of z.at) (count_of z.at) 0 s.places, (roster_keyless c z.views_name 0 s.views, λ _. tt))

      pub owns_keyless : Keyless (region_owns c z holds)
      unfolding Rattle.atomic_region.specs.Owned.seal
      owns_keyless = (tt, (((λ _. tt), inner_keyless), inner_keyless))

      pub shares_keyless : (ν : Lft) → Keyless (region_shares c z holds ν)
      unfolding Rattle.atomic_region.specs.Owned.seal
      shares_keyless ν = ((λ _. tt), ((λ _. tt), inner_keyless))
