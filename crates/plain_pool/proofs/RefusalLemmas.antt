-- A refusal of a plain pool is legal.
use Rattle.std.proofs.Common.{ℕ, ◌≡◌, ◌<◌, List, [], ◌∷◌, ◌++◌, eq-eqb, refl, sym, ◌∙◌, ap, subst}
use Rattle.std.specs.BTreeMap.{BTreeMap}
use Rattle.heap_geometry.specs.declared.geometry.Geometry.{Geometry}
use Rattle.heap_geometry.specs.declared.limits.TheConstants.{CLASSES}
use Rattle.heap_geometry.specs.declared.need.Need.TheVariants.{Small, Large}
use Rattle.heap_geometry.specs.Need.{need_of}
use Rattle.pool_model.specs.declared.event.Event.{Event}
use Rattle.pool_model.specs.declared.event.Event.TheVariants.{Looked, Refuse}
use Rattle.plain_pool.specs.declared.live_block.LiveBlock.{LiveBlock}
use Rattle.pool_model.specs.Histories.{own, EndsWith}
use Rattle.pool_model.specs.Pool.{pool_of}
use Rattle.pool_model.specs.Legal.{IsRefusable, IsCountedFor, IsCrowded}
use Rattle.plain_pool.specs.Plain.{IsFull}
use Rattle.plain_pool.specs.Stored.{IsPlainKept}
use Rattle.pool_model.proofs.HistoryLemmas.{own-append, pool_of-push}
use Rattle.plain_pool.proofs.KeptLemmas.{kept-sound, kept-still}
use Rattle.pool_model.proofs.FreeLemmas.{worn-full, crowded-full}

-- the caller's events end with its look
pub ends-with_look :
    (events : List Event) (caller class : ℕ) → EndsWith (own caller (events ++ Looked caller class ∷ [])) (Looked caller class)
ends-with_look events caller class =
    let alone : own caller (Looked caller class ∷ []) ≡ Looked caller class ∷ [] = rw (eq-eqb caller caller refl) refl in (
      own caller events,
      own-append caller events (Looked caller class ∷ []) ∙ ap (λ (xs : List Event). own caller events ++ xs) alone,
    )

pub kept-looked :
    (g : Geometry) (blocks : BTreeMap ℕ LiveBlock) (events : List Event) (caller class : ℕ) → IsPlainKept g blocks events → caller < g.callers
    → class < CLASSES → IsFull g (pool_of events) (Small class) → IsPlainKept g blocks (events ++ Looked caller class ∷ [])
kept-looked g blocks events caller class kept below is_class full =
    kept-still g blocks events (Looked caller class) kept
    ((below, is_class), worn-full g (pool_of events) (kept-sound g blocks events kept) class full) refl

pub kept-refused_small :
    (g : Geometry) (blocks : BTreeMap ℕ LiveBlock) (events : List Event) (caller need class : ℕ) → IsPlainKept g blocks events
    → caller < g.callers → class < CLASSES → need_of need ≡ Small class → IsFull g (pool_of events) (Small class)
    → IsPlainKept g blocks ((events ++ Looked caller class ∷ []) ++ Refuse caller need ∷ [])
kept-refused_small g blocks events caller need class kept below is_class same full =
    let looked : List Event = events ++ Looked caller class ∷ [] in
    let crowded : IsCrowded g (pool_of events) = crowded-full g (pool_of events) (kept-sound g blocks events kept) class is_class full in
    let crowded_after : IsCrowded g (pool_of (events ++ Looked caller class ∷ [])) =
    subst (IsCrowded g) (sym (pool_of-push events (Looked caller class))) crowded in
    let refusable : IsRefusable g (events ++ Looked caller class ∷ []) caller (need_of need) =
    subst (IsRefusable g (events ++ Looked caller class ∷ []) caller) (sym same) (ends-with_look events caller class) in
    let counted : IsCountedFor g (pool_of (events ++ Looked caller class ∷ [])) (need_of need) =
    subst (IsCountedFor g (pool_of (events ++ Looked caller class ∷ []))) (sym same) crowded_after in
    kept-still g blocks (events ++ Looked caller class ∷ []) (Refuse caller need)
    (kept-looked g blocks events caller class kept below is_class full) ((below, refusable), counted) refl

pub kept-refused_run :
    (g : Geometry) (blocks : BTreeMap ℕ LiveBlock) (events : List Event) (caller need units : ℕ) → IsPlainKept g blocks events
    → caller < g.callers → need_of need ≡ Large units → IsFull g (pool_of events) (Large units)
    → IsPlainKept g blocks (events ++ Refuse caller need ∷ [])
kept-refused_run g blocks events caller need units kept below same full =
    kept-still g blocks events (Refuse caller need) kept
    ((below, subst (IsRefusable g events caller) (sym same) full), subst (IsCountedFor g (pool_of events)) (sym same) tt) refl
