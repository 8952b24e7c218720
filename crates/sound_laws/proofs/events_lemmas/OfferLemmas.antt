-- What a put offers is its own block.
use Rattle.std.proofs.Common.{ℕ, ◌≡◌, List, Some, arith}
use Rattle.heap_geometry.specs.declared.need.Need.{Need}
use Rattle.step_parts.specs.declared.large.point.LargePoint.TheVariants.{PutBlock}
use Rattle.pool_model.specs.declared.event.Event.{Event}
use Rattle.errand_steps.specs.declared.point.Point.{Point}
use Rattle.errand_steps.specs.declared.point.Point.TheVariants.{Large}
use Rattle.errand_steps.specs.declared.reply.Offer.{Offer}
use Rattle.errand_steps.specs.Calls.{Call, put}
use Rattle.errand_steps.specs.Offers.{offered_at}
use Rattle.sound_laws.specs.events.UnderWay.{IsUnderWay}

pub put-offers :
    (caller place : ℕ) (need : Need) (shelf : ℕ) (p : Point) (es : List Event) → IsUnderWay caller (put place need shelf) p es
    → offered_at p ≡ Some (record { place = place; need = need })
put-offers caller place need shelf p es so = grind (arith)

-- the shelf of a put
abbrev shelf_at : Point → ℕ
shelf_at (Large (PutBlock shelf place need) o) = shelf
shelf_at p = 0

pub offers-put :
    (caller : ℕ) (call : Call) (p : Point) (es : List Event) (offer : Offer) → IsUnderWay caller call p es → offered_at p ≡ Some offer
    → (shelf : ℕ) × (call ≡ put offer.place offer.need shelf)
offers-put caller call p es offer so is = (shelf_at p, grind (arith))
