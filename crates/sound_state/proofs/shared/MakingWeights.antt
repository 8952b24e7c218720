-- What a caller holds of a superblock that it makes, and of one that waits to be installed.
use Rattle.std.proofs.Common.{ℕ, false, ◌≡◌, ◌≢◌, ◌+◌, [], ◌∷◌, refl, arith, sym, ◌==◌, if◌then◌else◌, eq-eqb, ne_eqb}
use Rattle.std.proofs.lemmas.Bool.{cond-true, cond-false}
use Rattle.sound_state.proofs.Common.{Site, new_credits, Holding, Status, waiting, on_its_way, reserved_among, kept_among, stock_among, nothing, making, reserve, keep}
use Rattle.sound_state.proofs.Common.{same_status}
use Rattle.sound_state.proofs.shared.PointLemmas.{kept_places}

-- 1 where a descriptor is that of the superblock at hand
abbrev pub is_it : Site → ℕ → ℕ
is_it at d = if at.desc == d then 1 else 0

pub it-here : (at : Site) → is_it at at.desc ≡ 1
it-here at = cond-true {A = ℕ} (at.desc == at.desc) 1 0 (eq-eqb at.desc at.desc refl)

pub it-elsewhere : (at : Site) (d : ℕ) → d ≢ at.desc → is_it at d ≡ 0
it-elsewhere at d differ = cond-false {A = ℕ} (at.desc == d) 1 0 (ne_eqb at.desc d (λ is. differ (sym is)))

-- what a caller holds that is about to install a superblock
abbrev pub installing_holds : Site → Holding
installing_holds at = record nothing {
  credits = reserve at.desc (new_credits at.seat.class + 1);
  kept = keep at.desc at.seat.class waiting;
  frames = at.frame ∷ [];
}

-- the descriptor of a superblock in the making is on its way, and nothing else of it is kept
pub making-ways : (at : Site) (d : ℕ) → kept_among on_its_way d (making at).kept ≡ is_it at d
making-ways at d = grind (arith)

pub making-others : (status : Status) (at : Site) (d : ℕ) → same_status on_its_way status ≡ false → kept_among status d (making at).kept ≡ 0
making-others status at d other = grind (arith, other)

-- the descriptor of a superblock to install waits, and so many of its blocks are reserved
pub installing-waits : (at : Site) (d : ℕ) → kept_among waiting d (installing_holds at).kept ≡ is_it at d
installing-waits at d = grind (arith)

pub installing-others :
    (status : Status) (at : Site) (d : ℕ) → same_status waiting status ≡ false → kept_among status d (installing_holds at).kept ≡ 0
installing-others status at d other = grind (arith, other)

pub installing-credits : (at : Site) → reserved_among at.desc (installing_holds at).credits ≡ new_credits at.seat.class + 1
installing-credits at = grind (arith)

pub installing-apart : (at : Site) (d : ℕ) → d ≢ at.desc → reserved_among d (installing_holds at).credits ≡ 0
installing-apart at d differ = grind (arith, differ)

-- a superblock stands in one place and is out for its class, whether in the making or to install
pub making-places : (at : Site) (d : ℕ) → kept_places d (making at).kept ≡ kept_places d (installing_holds at).kept
making-places at d = grind (arith)

pub making-stock : (at : Site) (class : ℕ) → stock_among class (making at).kept ≡ stock_among class (installing_holds at).kept
making-stock at class = grind (arith)

-- a superblock in the making doesn't wait
pub making-waits : (d : ℕ) (at : Site) → kept_among waiting d (making at).kept ≡ 0
making-waits d at = grind (arith)
