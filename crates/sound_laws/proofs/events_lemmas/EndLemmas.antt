-- A call that is under way can still end.
use Rattle.std.proofs.Common.{ℕ, ◌≡◌, List, [], ◌∷◌, ◌++◌, Some, false, refl, sym, append-nil, arith}
use Rattle.pool_model.specs.Calls.{Ended, EventsOf, EventsSoFar, alloc_given, alloc_refused, alloc_spent, wrote, put_full, take_missed}
use Rattle.pool_model.specs.Calls as ended
use Rattle.pool_model.specs.declared.event.Event.{Event}
use Rattle.pool_model.specs.declared.event.Event.TheVariants as event
use Rattle.errand_steps.specs.Calls.{Call, alloc, free, write, read, put, take}
use Rattle.errand_steps.specs.Points.{is_idle}
use Rattle.errand_steps.specs.declared.point.Point.{Point}
use Rattle.errand_steps.specs.declared.reply.Reply.{Reply}
use Rattle.errand_steps.specs.declared.reply.Reply.TheVariants as reply
use Rattle.sound_laws.specs.events.Ends.{end_of}
use Rattle.errand_steps.specs.tables.CallStage.{StageOfCall, asking, asking_run, refused, given, freeing, freed, writing, reading, putting, taking}
use Rattle.sound_laws.specs.events.UnderWay.{SoFar, IsUnderWay}
use Rattle.sound_laws.proofs.events_lemmas.EventLists.{spending, refusing-run}
use Rattle.sound_laws.proofs.events_lemmas.SoFarLemmas.{one-event}

-- all events of an end are there; one is still to come
all-there : (caller : ℕ) (end : Ended) (es : List Event) → EventsOf caller end es → EventsSoFar caller end es
all-there caller end es of = (es, of, ([], sym (append-nil es)))

one-comes : (caller : ℕ) (end : Ended) (es : List Event) (e : Event) → EventsOf caller end (es ++ e ∷ []) → EventsSoFar caller end es
one-comes caller end es e of = (es ++ e ∷ [], of, (e ∷ [], refl))

pub can-end :
    (caller : ℕ) (call : Call) (stage : StageOfCall) (es : List Event) → SoFar caller call stage es
    → (r : Reply) × (end : Ended) × (end_of call r ≡ Some end) × EventsSoFar caller end es
can-end caller (alloc n) (asking w c looked) es so =
    (reply.Spent, alloc_spent n, refl, all-there caller (alloc_spent n) es (spending caller n c looked es so.1 so.2))
can-end caller (alloc n) (asking_run w units) es so =
    (reply.Refused, alloc_refused n, refl, one-comes caller (alloc_refused n) es (event.Refuse caller n) (refusing-run caller n units es so.1 so.2))
can-end caller (alloc n) refused es so = (reply.Refused, alloc_refused n, refl, all-there caller (alloc_refused n) es so)
can-end caller (alloc n) (given p m) es so = (reply.Given p m, alloc_given n p, refl, all-there caller (alloc_given n p) es so.1)
can-end caller (free p n) (freeing q m) es so =
    (reply.Freed, ended.freed p, refl, one-comes caller (ended.freed p) es (event.Free caller p) (one-event es (event.Free caller p) (event.Free caller p) so.2 refl))
can-end caller (free p n) freed es so = (reply.Freed, ended.freed p, refl, all-there caller (ended.freed p) es so)
can-end caller (write p n j v) (writing q i u) es so = (
  reply.Wrote,
  wrote p j v,
  refl,
  one-comes caller (wrote p j v) es (event.Write caller p j v) (one-event es (event.Write caller p j v) (event.Write caller p j v) so.3 refl),
)
can-end caller (read p n j) (reading q i) es so = (reply.Word 0, ended.read, refl, all-there caller ended.read es so.2)
can-end caller (put p n k) (putting q m h) es so = (reply.Full 0, put_full, refl, all-there caller put_full es so.3)
can-end caller (take k) (taking h) es so = (reply.Missed 0 0, take_missed, refl, all-there caller take_missed es so.1)
can-end caller call stage es so = absurd so

-- the caller of a call that is under way is busy
pub way-busy : (caller : ℕ) (call : Call) (p : Point) (es : List Event) → IsUnderWay caller call p es → is_idle p ≡ false
way-busy caller call p es so = grind (arith)
