-- What a put offers.
use Rattle.std.specs.Prelude.{Option, Some, None}
use Rattle.step_parts.specs.declared.large.point.LargePoint.TheVariants.{PutBlock}
use Rattle.errand_steps.specs.declared.point.Point.{Point}
use Rattle.errand_steps.specs.declared.point.Point.TheVariants.{Large}
use Rattle.errand_steps.specs.declared.reply.Offer.{Offer}

-- the block that is to be put on a shelf at this point
abbrev pub offered_at : Point → Option Offer
offered_at (Large (PutBlock shelf place need) o) = Some (record { place = place; need = need })
offered_at p = None
