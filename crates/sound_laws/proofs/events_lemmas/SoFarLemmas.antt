-- The events so far go on by the event of a step.
use Rattle.std.proofs.Common.{ℕ, ◌≡◌, List, [], ◌∷◌, ◌++◌, Option, Some, None, refl, sym, ap, ◌∙◌, subst}
use Rattle.heap_geometry.specs.declared.need.Need.TheVariants.{Small, Large}
use Rattle.heap_geometry.specs.Need.{need_of}
use Rattle.pool_model.specs.declared.event.Event.{Event}
use Rattle.pool_model.specs.declared.event.Event.TheVariants as event
use Rattle.pool_model.specs.Calls.{alloc_given, alloc_refused, alloc_spent, wrote, put_done, put_full, take_got, take_empty, take_missed, IsGiving, IsRefusing}
use Rattle.pool_model.specs.Calls as ended
use Rattle.errand_steps.specs.declared.reply.Reply.TheVariants as reply
use Rattle.errand_steps.specs.Calls.{Call, alloc, free, write, read, put, take}
use Rattle.errand_steps.specs.Steps.{with_event}
use Rattle.errand_steps.specs.tables.CallStage.{StageOfCall, asking, asking_run, refused, given, freeing, freed, writing, reading, putting, taking}
use Rattle.sound_laws.specs.events.UnderWay.{SoFar, HasLooked}
use Rattle.sound_laws.proofs.events_lemmas.EventLists.{looked-less, looked-more, refusing, giving, spending, refusing-run, giving-run}
use Rattle.sound_laws.proofs.events_lemmas.LeadsDefs.{Outcome, still, over, SoFarAt, Leads}

-- an event added to no events is that one alone
pub one-event : (es : List Event) (e f : Event) → es ≡ [] → e ≡ f → es ++ e ∷ [] ≡ f ∷ []
one-event es e f empty is = ap (λ (k : List Event). k ++ e ∷ []) empty ∙ ap (λ (y : Event). y ∷ []) is

pub so-leads :
    (caller : ℕ) (call : Call) (stage : StageOfCall) (event : Option Event) (outcome : Outcome) (es : List Event) → SoFar caller call stage es
    → Leads caller stage event outcome → SoFarAt caller call outcome (with_event es event)
so-leads caller (alloc n) (asking w c looked) None (still (asking w' c' looked')) es so f =
    (f.0 ∙ so.0, so.1 ∙ ap Small (sym f.1), subst (λ k. HasLooked caller k looked' es) (sym f.1) (looked-less caller c looked looked' es f.2 so.2))
so-leads caller (alloc n) (asking w c looked) None (over reply.Spent) es so f =
    record { ended = (alloc_spent n, refl, spending caller n c looked es so.1 so.2); serves = tt }
so-leads caller (alloc n) (asking w c looked) (Some e) (still (asking w' c' looked')) es so f = (
  f.0 ∙ so.0,
  so.1 ∙ ap Small (sym f.1),
  subst (λ k. HasLooked caller k looked' (es ++ e ∷ [])) (sym f.1)
      (subst (λ y. HasLooked caller c looked' (es ++ y ∷ [])) (sym f.2) (looked-more caller c looked looked' es so.2)),
)
so-leads caller (alloc n) (asking w c looked) (Some e) (still refused) es so f =
    subst (λ y. IsRefusing caller n (need_of n) (es ++ y ∷ [])) (sym (f.1 ∙ ap (event.Refuse caller) so.0))
    (refusing caller n c es so.1 (subst (λ b. HasLooked caller c b es) f.0 so.2))
so-leads caller (alloc n) (asking w c looked) (Some e) (still (given place need)) es so f = (
  f.0 ∙ sym so.1,
  subst (λ y. IsGiving caller n place (need_of n) (es ++ y ∷ [])) (sym (f.1 ∙ ap (λ k. event.Alloc caller k place) so.0))
      (giving caller n c place looked es so.1 so.2),
)
so-leads caller (alloc n) (asking_run w units) None (still (asking_run w' units')) es so f =
    (f.0 ∙ so.0, so.1 ∙ ap Large (sym f.1), so.2)
so-leads caller (alloc n) (asking_run w units) (Some e) (over reply.Refused) es so f = record {
  ended = (
    alloc_refused n,
    refl,
    subst (λ y. IsRefusing caller n (need_of n) (es ++ y ∷ [])) (sym (f ∙ ap (event.Refuse caller) so.0))
        (refusing-run caller n units es so.1 so.2),
  );
  serves = tt;
}
so-leads caller (alloc n) (asking_run w units) (Some e) (still (given place need)) es so f = (
  f.0 ∙ sym so.1,
  subst (λ y. IsGiving caller n place (need_of n) (es ++ y ∷ [])) (sym (f.1 ∙ ap (λ k. event.Alloc caller k place) so.0))
      (giving-run caller n units place es so.1 so.2),
)
so-leads caller (alloc n) refused None (still refused) es so f = so
so-leads caller (alloc n) refused None (over reply.Refused) es so f = record { ended = (alloc_refused n, refl, so); serves = tt }
so-leads caller (alloc n) (given p m) None (still (given p' m')) es so f =
    (f.1 ∙ so.0, subst (λ q. IsGiving caller n q (need_of n) es) (sym f.0) so.1)
so-leads caller (alloc n) (given p m) None (over (reply.Given p' m')) es so f = record {
  ended = (alloc_given n p', refl, subst (λ q. IsGiving caller n q (need_of n) es) (sym f.0) so.1);
  serves = f.1 ∙ so.0;
}
so-leads caller (free p n) (freeing q m) None (still (freeing q' m')) es so f = (f.0 ∙ so.0, f.1 ∙ so.1, so.2)
so-leads caller (free p n) (freeing q m) (Some e) (still freed) es so f = one-event es e (event.Free caller p) so.2 (f ∙ ap (event.Free caller) so.0)
so-leads caller (free p n) (freeing q m) (Some e) (over reply.Freed) es so f =
    record { ended = (ended.freed p, refl, one-event es e (event.Free caller p) so.2 (f ∙ ap (event.Free caller) so.0)); serves = tt }
so-leads caller (free p n) freed None (still freed) es so f = so
so-leads caller (free p n) freed None (over reply.Freed) es so f = record { ended = (ended.freed p, refl, so); serves = tt }
so-leads caller (write p n j v) (writing q i u) (Some e) (over reply.Wrote) es so f = record {
  ended = (
    wrote p j v,
    refl,
    one-event es e (event.Write caller p j v) so.3
        (f ∙ ap (λ k. event.Write caller k i u) so.0 ∙ ap (λ k. event.Write caller p k u) so.1 ∙ ap (event.Write caller p j) so.2),
  );
  serves = tt;
}
so-leads caller (read p n j) (reading q i) None (over (reply.Word v)) es so f = record { ended = (ended.read, refl, so.2); serves = tt }
so-leads caller (put p n k) (putting q m h) None (over (reply.Full found)) es so f = record { ended = (put_full, refl, so.3); serves = tt }
so-leads caller (put p n k) (putting q m h) (Some e) (over reply.Put) es so f = record {
  ended = (
    put_done p k,
    refl,
    one-event es e (event.Put caller p k) so.3 (f ∙ ap (λ x. event.Put caller x h) so.0 ∙ ap (event.Put caller p) so.2),
  );
  serves = tt;
}
so-leads caller (take k) (taking h) None (still (taking h')) es so f = (f ∙ so.0, so.1)
so-leads caller (take k) (taking h) None (over (reply.Missed expected found)) es so f =
    record { ended = (take_missed, refl, so.1); serves = tt }
so-leads caller (take k) (taking h) (Some e) (over (reply.Got p n)) es so f =
    record { ended = (take_got k p, refl, one-event es e (event.Take caller k p) so.1 (f ∙ ap (λ x. event.Take caller x p) so.0)); serves = tt }
so-leads caller (take k) (taking h) (Some e) (over reply.Empty) es so f =
    record { ended = (take_empty k, refl, one-event es e (event.TakeNone caller k) so.1 (f ∙ ap (event.TakeNone caller) so.0)); serves = tt }
so-leads caller (alloc n) (asking w c looked) event outcome es so f = absurd f
so-leads caller (alloc n) (asking_run w units) event outcome es so f = absurd f
so-leads caller (alloc n) refused event outcome es so f = absurd f
so-leads caller (alloc n) (given p m) event outcome es so f = absurd f
so-leads caller (free p n) (freeing q m) event outcome es so f = absurd f
so-leads caller (free p n) freed event outcome es so f = absurd f
so-leads caller (write p n j v) (writing q i u) event outcome es so f = absurd f
so-leads caller (read p n j) (reading q i) event outcome es so f = absurd f
so-leads caller (put p n k) (putting q m h) event outcome es so f = absurd f
so-leads caller (take k) (taking h) event outcome es so f = absurd f
so-leads caller call stage event outcome es so f = absurd so
