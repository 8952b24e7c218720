-- What holds along a walk, and of each lane.
use Rattle.std.proofs.Common.{ℕ, zero, suc, map, get_or, ◌≡◌, ◌+◌, ◌<◌, List, [], ◌∷◌, ◌++◌, length, refl, sym, ap, ◌∙◌, subst, arith, append-nil, append_assoc}
use Rattle.std.specs.List.{All}
use Rattle.std.proofs.lemmas.List.{length-map, get_or-map}
use Rattle.heap_geometry.specs.declared.geometry.Geometry.{Geometry}
use Rattle.pool_model.specs.declared.event.Event.{Event}
use Rattle.trace_text.specs.declared.trace.Op.{Op}
use Rattle.lane_outcomes.specs.declared.outcome.Outcome.{Outcome}
use Rattle.lane_outcomes.specs.Cached.{CachedFits, CachedLanesFit, CachedPosition, CachedRow, CachedWalks, cached_after}
use Rattle.lane_outcomes.specs.Fits.{LanesFit}
use Rattle.lane_outcomes.specs.Rows.{Setting}
use Rattle.lane_outcomes.specs.Standing.{setting_in}

-- what each row of a walk keeps holds at its end
pub walk-kept :
    (setting : Setting) (depth : ℕ) (P : CachedPosition → Type 0)
    → ((position : CachedPosition) (operation : Op) (result : Outcome) (piece : List Event) → CachedRow setting depth position operation result piece → P position
    → P (cached_after depth position operation result piece))
    → (from to : CachedPosition) (operations : List Op) (results : List Outcome) → CachedWalks setting depth from operations results to → P from → P to
walk-kept setting depth P keeps from to [] [] walks holds = subst P (sym walks) holds
walk-kept setting depth P keeps from to (operation ∷ operations) (result ∷ results) (piece, row, walks) holds =
    walk-kept setting depth P keeps (cached_after depth from operation result piece) to operations results walks (keeps from operation result piece row holds)
walk-kept setting depth P keeps from to operations results walks holds = absurd walks

-- a walk through a cache only adds events to those of the lane
abbrev pub Adds : CachedPosition → CachedPosition → Type 0
Adds from to = (more : List Event) × (to.base.done ≡ from.base.done ++ more)

pub walk-adds :
    (setting : Setting) (depth : ℕ) (from to : CachedPosition) (operations : List Op) (results : List Outcome)
    → CachedWalks setting depth from operations results to → Adds from to
walk-adds setting depth from to operations results walks =
    walk-kept setting depth (Adds from)
    (λ position operation result piece row adds. (adds.0 ++ piece, ap (λ xs. xs ++ piece) adds.1 ∙ append_assoc from.base.done adds.0 piece))
    from to operations results walks ([], sym (append-nil from.base.done))

-- what holds of each operation of each lane holds of those of one lane
pub lane-each :
    {X : Type 0} (P : Op → Type 0) (f : X → List Op) (lanes : List X) (all : List (List Op)) (k : ℕ) (lane : X) (operations : List Op)
    → map f lanes ≡ all → All (All P) all → k < length lanes → lane ≡ get_or lanes k lane → operations ≡ f lane → All P operations
lane-each P f lanes all k lane operations all_is each below at is =
    let there : get_or all k (f lane) ≡ operations =
    ap (λ xs. get_or xs k (f lane)) (sym all_is) ∙ (get_or-map f lanes k lane (f lane) below ∙ (ap f (sym at) ∙ sym is)) in
    subst (λ xs. All P xs) there (each k (f lane) (omega (arith, length-map lanes f, ap length all_is)))

-- the outcomes of a lane among those of all
cached-at :
    (g : Geometry) (history : List Event) (lost depth first : ℕ) (lanes : List (List Op)) (outcomes : List (List Outcome)) (hits : ℕ)
    → CachedLanesFit g history lost depth first lanes outcomes hits → (k lane : ℕ) → k < length lanes → first + k ≡ lane
    → (these : ℕ) × CachedFits (setting_in history lane g.turn_limit lost) depth (get_or lanes k []) (get_or outcomes k []) these
cached-at g history lost depth first [] [] hits fit k lane below is = absurd (omega (arith, below))
cached-at g history lost depth first (operations ∷ lanes) (results ∷ outcomes) hits (these, others, both, fits, rest) zero lane below is =
    let same : first ≡ lane = omega (arith, is) in
    (these, subst (λ n. CachedFits (setting_in history n g.turn_limit lost) depth operations results these) same fits)
cached-at g history lost depth first (operations ∷ lanes) (results ∷ outcomes) hits (these, others, both, fits, rest) (suc k) lane below is =
    cached-at g history lost depth (suc first) lanes outcomes others rest k lane (omega (arith, below)) (omega (arith, is))
cached-at g history lost depth first lanes outcomes hits fit k lane below is = absurd fit

pub cached-lane :
    (g : Geometry) (history : List Event) (lost depth : ℕ) (lanes : List (List Op)) (outcomes : List (List Outcome)) (hits : ℕ)
    → CachedLanesFit g history lost depth 0 lanes outcomes hits → (k : ℕ) → k < length lanes
    → (these : ℕ) × CachedFits (setting_in history k g.turn_limit lost) depth (get_or lanes k []) (get_or outcomes k []) these
cached-lane g history lost depth lanes outcomes hits fit k below = cached-at g history lost depth 0 lanes outcomes hits fit k k below (omega arith)

-- there are as many lists of outcomes as lanes
pub lanes-many :
    (g : Geometry) (history : List Event) (lost first : ℕ) (lanes : List (List Op)) (outcomes : List (List Outcome))
    → LanesFit g history lost first lanes outcomes → length outcomes ≡ length lanes
lanes-many g history lost first [] [] fit = refl
lanes-many g history lost first (operations ∷ lanes) (results ∷ outcomes) fit = ap suc (lanes-many g history lost (suc first) lanes outcomes fit.1)
lanes-many g history lost first lanes outcomes fit = absurd fit
