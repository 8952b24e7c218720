-- Steps that store the prefix word or the link of a block.
use Rattle.std.proofs.Common.{ℕ, Bool, true, false, Option, Some, None, ◌≡◌, ◌≢◌, ◌<◌, ◌≤◌, ◌+◌, ◌*◌, [], ◌∷◌, refl, arith, ap, sym, subst, inl, inr, ◌∙◌, Any}
use Rattle.std.proofs.Common.{IsTrue, nat_lt, if◌then◌else◌, ltb-false}
use Rattle.std.specs.List.{AllByRecursion}
use Rattle.std.proofs.lemmas.Bool.{cases_eq, cases_Bool}
use Rattle.std.proofs.lemmas.List.Elements.{All-nil, All-cons, All-head, All-from_recursion}
use Rattle.sound_state.proofs.Common.{Geometry, Need, block_count_of, block_place, frame_of, frame_of-block_place, AnchorFields, WordName, Found, Site}
use Rattle.sound_state.proofs.Common.{descriptor_count, Writes, prefix_name, BlockPoint, At, End, Continuation, Point, Idle, Block, Reply, raised, counts_cleared}
use Rattle.sound_state.proofs.Common.{event_of, next_of, plan_point_of, State, Step, Moves, name_at, word_at, found_at, with_event, holds_of, Lists, IsSo, IsOwned}
use Rattle.sound_state.proofs.Common.{IsLocated, recalls_of, IsSoundWithoutCounts, IsSoundWith, waits_in, is_bound, IsLive, prefix_word, Handed, Freed}
use Rattle.sound_state.proofs.Common.{block_holds, making, AreMade, block_recalls}
use Rattle.heap_geometry.specs.declared.need.Need.TheVariants as need
use Rattle.packed_words.specs.declared.prefix.Prefix.TheVariants.{Small}
use Rattle.word_table.specs.declared.name.WordName.TheVariants as name
use Rattle.step_parts.specs.superblock.Anchors.{new_link}
use Rattle.step_parts.specs.superblock.Points.{after_link}
use Rattle.step_parts.proofs.superblock_lemmas.ChainLemmas.{prefix_name-apart}
use Rattle.step_parts.specs.declared.superblock.point.BlockPoint.TheVariants as block
use Rattle.pool_model.specs.Pool.{Block as Live}
use Rattle.errand_steps.specs.declared.reply.Reply.TheVariants as reply
use Rattle.sound_state.proofs.shared.FrameLemmas.{one-in-frame}
use Rattle.sound_state.proofs.shared.ListFacts.{any-none, any-one}
use Rattle.sound_state.proofs.shared.MakingPlaces.{is-making}
use Rattle.sound_state.proofs.shared.ShownLemmas.{MayGoOn}
use Rattle.sound_state.proofs.stores.LoosePlaces.{arena-kept, IsLoose, live-loose, making-loose}
use Rattle.sound_state.proofs.shared.NothingLemmas.{idle-nothing, nothing-guards, nothing-may}
use Rattle.sound_state.proofs.shared.PointLemmas.{exists-at, fits-at, so-at, frees-at, hands-at, hazard-at, WeighFrom, weigh-stays, from-weighs, recalled-at}
use Rattle.sound_state.proofs.stores.StoreFields.{between}
use Rattle.sound_state.proofs.stores.StoreReads.{lone-written, unread-stands}
use Rattle.sound_state.proofs.stores.StoreSteps.{StoresTo, store-written, step-between, store-sound}
use Rattle.sound_state.proofs.quiet.QuietLemmas.{HoldsSame}
use Rattle.sound_state.proofs.quiet.QuietLinks.{written-at}
use Rattle.sound_state.proofs.shared.StepLemmas.{HoldsException, TurnGoes, at_point, settle-end, found_from, actives-stay, goes-counts}
use Rattle.sound_state.proofs.shared.WeighLemmas.{WeighAlike, weigh-alike, alike-most, WeighMost, weigh-emptied}
use Rattle.sound_state.proofs.shared.KeepsSound.{KeepsSound, silent-sound}
use Rattle.sound_state.proofs.shared.TieLemmas.{IsSaidAt}
use Rattle.sound_state.proofs.shared.FormedLemmas.{formed-after, formed-between}
use Rattle.sound_state.proofs.shared.TurnEffects.{own-counts}
use Rattle.sound_state.proofs.SoundAfter.{between-sound}
use Rattle.sound_state.proofs.SoundSteps.{sound-alike}

the-one : {X : Type 0} (P : X → Type 0) (x : X) → P x → Any P (x ∷ [])
the-one P x is = (0, x, omega arith, refl, is)

-- the store of the link of a block that is freed keeps the state sound
pub store_link-sound :
    (site : Site) (i : ℕ) (a : AnchorFields) (guarded : Bool) (heap : ℕ) (o : Continuation)
    → KeepsSound (Block (block.StoreLink site i a guarded heap) o)
unfolding plan_point_of next_of event_of holds_of recalls_of
store_link-sound site i a guarded heap o g s caller s' sound has stands step =
    let p = Block (block.StoreLink site i a guarded heap) o in
    let q = Block (block.PushBlock site i a guarded heap) o in
    let place = block_place site.frame site.seat.class i in
    let freed : Freed = record { place = place; need = need.Small site.seat.class; overwritten = true } in
    let w : Writes s.word (name.Arena place) a.avail s'.word = written-at s caller s' p stands step in
    let fit = (fits-at g s sound.parts.0 caller p sound.parts.1 has stands).point in
    store-sound g s caller s' p q (name.Arena place) a.avail sound has stands
    (record {
      stores = record { plan = refl; next = λ x. refl; event = λ x. refl; lost = λ x. refl; cleared = λ x. refl };
      lone = tt;
      holds = grind (arith);
      kept = λ l old.
          let owned : IsOwned s caller place (need.Small site.seat.class) =
          All-head (λ x. IsOwned s caller x.place x.need) freed [] (frees-at g s l caller p old has stands) in
          let mine : HoldsException (holds_of p) place =
          inr (the-one (λ (b : Freed). (b.place ≡ place) × IsTrue b.overwritten) freed (refl, refl)) in
          arena-kept g s l place a.avail s'.word old
          (live-loose g s l caller place site.seat.class sound old has owned
          (record { caller = (caller, has, subst (λ r. HoldsException (holds_of r) place) (sym stands) mine) })
          (unread-stands s caller (name.Arena place) p stands (grind (arith)))) w;
      so = λ l old.
          All-cons (IsSo g (between s s'.word) l caller) _ (recalls_of p) (tt, w.here)
          (so-at g (between s s'.word) l caller p old has stands);
    })
    step

-- the need of the block at a place, where one is live there: it serves one need only
abbrev need_there : Option Live → Need
need_there None = need.TooLarge
need_there (Some b) = b.need

same-need :
    (s : State) (caller place : ℕ) (n m : Need) (b : Live) → IsOwned s caller place n → IsLive s place b → b.need ≡ m → n ≡ m
same-need s caller place n m b owned live of =
    sym owned.block.3 ∙ ap need_there (sym owned.block.1 ∙ live) ∙ of

-- a small block's prefix word is said that says its superblock's descriptor
small-prefix-says :
    (g : Geometry) (s : State) (l : Lists) (caller : ℕ) (site : Site) (i : ℕ) → IsSoundWith g s l → site.frame < g.frames
    → site.desc < descriptor_count g → i < block_count_of site.seat.class → IsTrue (is_bound g s l site.desc)
    → IsLocated s site.desc site.frame site.seat.class
    → IsOwned s caller (block_place site.frame site.seat.class i) (need.Small site.seat.class)
    → s.word (name.Arena (block_place site.frame site.seat.class i)) ≡ 2 * site.desc
    → IsSaidAt g s l (block_place site.frame site.seat.class i)
small-prefix-says g s l caller site i old frame exists within bound located owned says_it =
    let place = block_place site.frame site.seat.class i in
    let here : frame_of place ≡ site.frame = frame_of-block_place site.frame site.seat.class i within in
    record {
      small = λ class d b live of its.
          let one : site.desc ≡ d =
          one-in-frame g s l site.frame site.desc d old frame exists its.exists bound its.bound located.frame (its.located.frame ∙ here) in
          says_it ∙ ap (λ k. 2 * k) one;
      large = λ units b live of.
          let same : need.Small site.seat.class ≡ need.Large units =
          same-need s caller place (need.Small site.seat.class) (need.Large units) b owned live of in
          cc;
    }

-- a step that stores a word of the arena that nobody reads and ends the call of a caller that hands out the block there
pub record IsLastStore (g : Geometry) (s : State) (caller place new : ℕ) (p : Point) (r : Reply) (s' : State) : Type 0 where
  pub stores : StoresTo caller p (name.Arena place) new (End r)
  pub credits : (holds_of p).credits ≡ []
  pub kept : (holds_of p).kept ≡ []
  pub frames : (holds_of p).frames ≡ []
  pub waits : (class : ℕ) → waits_in class p ≡ 0
  pub hazard : s.word (name.Hazard caller) ≡ 0
  pub turn : TurnGoes p Idle
  pub loose : (l : Lists) → IsSoundWith g s l → IsLoose g s l place
  pub said :
      (l : Lists) → IsSoundWith g (between s s'.word) l → (q : ℕ) → HoldsException (holds_of p) q → IsSaidAt g (between s s'.word) l q

-- a caller whose call ends may go on idle
idle-may :
    (g : Geometry) (s : State) (l : Lists) (caller : ℕ) (x : Found) → IsSoundWith g s l → caller < g.callers
    → counts_cleared (s.errand caller).point x ≡ false
    → TurnGoes (s.errand caller).point Idle
    → ((q : ℕ) → HoldsException (holds_of (s.errand caller).point) q → IsSaidAt g s l q)
    → MayGoOn g s l caller (s.errand caller) (at_point (s.errand caller) x Idle)
unfolding recalls_of
idle-may g s l caller x sound has still turn said =
    let e = s.errand caller in
    nothing-may g s l caller e (at_point e x Idle) idle-nothing (sound.kept.retired caller has)
    (λ spare. let bad : ⊥ = omega (arith, spare) in absurd bad) (All-nil (IsSo g s l caller)) said
    (goes-counts caller s.history e x Idle (own-counts g s l caller sound.turned has) (sound.formed.errands caller has).lost still turn)

idle-weighs :
    (n : WordName) (w : ℕ) (p : Point) → (holds_of p).credits ≡ [] → (holds_of p).kept ≡ [] → (holds_of p).frames ≡ []
    → ((class : ℕ) → waits_in class p ≡ 0) → WeighFrom n w w p Idle
unfolding holds_of
idle-weighs n w p credits kept frames waits = weigh-stays n w p Idle (sym credits) (sym kept) (sym frames) (λ class. sym (waits class))

-- the store of the last prefix word keeps the state sound
last-sound :
    (g : Geometry) (s : State) (caller : ℕ) (s' : State) (place new : ℕ) (p : Point) (r : Reply) → IsSoundWithoutCounts g s → caller < g.callers
    → (s.errand caller).point ≡ p → IsLastStore g s caller place new p r s' → Step s caller s' → IsSoundWithoutCounts g s'
last-sound g s caller s' place new p r sound has stands given step =
    let h : IsLastStore g s caller place new (s.errand caller).point r s' = subst (λ q. IsLastStore g s caller place new q r s') (sym stands) given in
    let l = sound.parts.0 in
    let old = sound.parts.1 in
    let t = between s s'.word in
    let n = name_at s caller in
    let x = found_at t caller in
    let e = at_point (s.errand caller) x Idle in
    let w = store-written s caller s' (name.Arena place) new (End r) h.stores step in
    let again : Step t caller s' = step-between s caller s' (name.Arena place) new (End r) tt h.stores step in
    let same : (m : WordName) → s'.word m ≡ t.word m = lone-written s.word (name.Arena place) new s'.word tt w in
    let whole : IsSoundWith g t l =
    between-sound g s l s'.word (arena-kept g s l place new s'.word old (h.loose l old) w) old
    (formed-between g s s' t.word old.formed (formed-after g s caller s' old.formed has step) same) in
    let still : counts_cleared (s.errand caller).point x ≡ false = h.stores.cleared (word_at t caller) in
    let after = settle-end (s.errand caller) x r (h.stores.next (word_at t caller)) in
    let moves : Moves s.errand caller e s'.errand = subst (λ f. Moves s.errand caller f s'.errand) after again.errand in
    let past : s'.history ≡ s.history = again.history ∙ ap (with_event s.history) (h.stores.event (word_at t caller)) in
    let wrote : Writes t.word n (s'.word n) s'.word = record { here = refl; elsewhere = λ m differ. same m } in
    let weigh : WeighMost n (t.word n) (s'.word n) (s.errand caller) e =
    alike-most n (t.word n) (s'.word n) (s.errand caller) e
    (subst (λ v. WeighAlike n (t.word n) v (s.errand caller) e) (sym (same n))
    (from-weighs n (t.word n) (t.word n) (s.errand caller) x Idle
    (idle-weighs n (t.word n) (s.errand caller).point h.credits h.kept h.frames h.waits))) in
    silent-sound g s caller s' l sound has step past
    (sound-alike g t l caller e s'
    (record {
      in_heap = has;
      moves = moves;
      alike = weigh-alike g t l caller n (s'.word n) e s' (exists-at g s caller (s.errand caller).point sound has refl) has wrote moves past weigh;
      may = idle-may g t l caller x whole has still h.turn (h.said l whole);
      others = λ i differ. same (name.Hazard i);
      guards = nothing-guards g t caller Idle (s.errand caller).retired (s'.word (name.Hazard caller)) idle-nothing (same (name.Hazard caller) ∙ h.hazard);
      actives = actives-stay g t l s'.word whole.kept same;
      emptied =
          omega (arith, weigh-emptied g t l caller n (s'.word n) e s' has wrote moves weigh, ap (λ b. raised b (s.errand caller).cleared) still);
    })
    whole)

small-prefix : (d : ℕ) → prefix_word (Small d) ≡ 2 * d
unfolding prefix_word
small-prefix d = omega arith

-- the store of the prefix word of a block that is handed out keeps the state sound
pub store_prefix-sound : (site : Site) (i : ℕ) (o : Continuation) → KeepsSound (Block (block.StorePrefix site i) o)
unfolding plan_point_of next_of event_of holds_of recalls_of
store_prefix-sound site i o g s caller s' sound has stands step =
    let p = Block (block.StorePrefix site i) o in
    let class = site.seat.class in
    let place = block_place site.frame class i in
    let handed : Handed = record { place = place; need = need.Small class } in
    let w : Writes s.word (name.Arena place) (prefix_word (Small site.desc)) s'.word = written-at s caller s' p stands step in
    let fit = (fits-at g s sound.parts.0 caller p sound.parts.1 has stands).point in
    let two : prefix_word (Small site.desc) ≡ 2 * site.desc = small-prefix site.desc in
    last-sound g s caller s' place (prefix_word (Small site.desc)) p (reply.Given place (need.Small class)) sound has stands
    (record {
      stores = record { plan = refl; next = λ x. refl; event = λ x. refl; lost = λ x. refl; cleared = λ x. refl };
      credits = refl;
      kept = refl;
      frames = refl;
      waits = λ k. refl;
      hazard = hazard-at g s sound.parts.0 caller p sound.parts.1 has stands;
      turn = grind (arith);
      loose = λ l old.
          let owned : IsOwned s caller place (need.Small class) =
          All-head (λ x. IsOwned s caller x.place x.need) handed [] (hands-at g s l caller p old has stands) in
          let mine : HoldsException (holds_of p) place = inl (the-one (λ (b : Handed). b.place ≡ place) handed refl) in
          live-loose g s l caller place class sound old has owned
          (record { caller = (caller, has, subst (λ r. HoldsException (holds_of r) place) (sym stands) mine) })
          (unread-stands s caller (name.Arena place) p stands (grind (arith)));
      said = λ l old q x.
          let t = between s s'.word in
          let owned : IsOwned t caller place (need.Small class) =
          All-head (λ x. IsOwned t caller x.place x.need) handed [] (hands-at g t l caller p old has stands) in
          let (here, none) = recalled-at g t l caller p old has stands in
          let said : IsSaidAt g t l place =
          small-prefix-says g t l caller site i old fit.site.frame fit.site.desc fit.index here.0 here.1 owned (w.here ∙ two) in
          elim x [
            | inl a ↦ subst (IsSaidAt g t l) (any-one (λ (b : Handed). b.place ≡ q) handed a) said
            | inr a ↦ absurd (any-none (λ (b : Freed). (b.place ≡ q) × IsTrue b.overwritten) a)
          ];
    })
    step

-- the links of more blocks are made with one more link stored
links-made-more :
    (s : State) (f c i n : ℕ) → AreMade s f c i → s.word (prefix_name f c i) ≡ new_link c i → n ≤ i + 1 → AreMade s f c n
links-made-more s f c i n so_far one most k below =
    elim (cases_eq k i) [
      | inl is ↦ subst (λ j. s.word (prefix_name f c j) ≡ new_link c j) (sym is) one
      | inr differ ↦ so_far k (omega (arith, below, most, differ))
    ]

-- the store of the link of a block of a superblock in the making keeps the state sound, where it leads on so
link_block-to :
    (g : Geometry) (s : State) (caller : ℕ) (s' : State) (site : Site) (i : ℕ) (o : Continuation) (q : BlockPoint) (n : ℕ) → IsSoundWithoutCounts g s
    → caller < g.callers → (s.errand caller).point ≡ Block (block.LinkBlock site i) o → Step s caller s'
    → after_link site i ≡ q → block_holds q ≡ making site
    → ((t : State) (l : Lists) → AllByRecursion (IsSo g t l caller) (block_recalls (block.LinkBlock site i)) → AreMade t site.frame site.seat.class n
    → AllByRecursion (IsSo g t l caller) (block_recalls q)) → n ≤ i + 1
    → HoldsSame (Block (block.LinkBlock site i) o) (Block q o) → IsSoundWithoutCounts g s'
unfolding plan_point_of next_of event_of holds_of recalls_of
link_block-to g s caller s' site i o q n sound has stands step leads holds recalls most same =
    let p = Block (block.LinkBlock site i) o in
    let f = site.frame in
    let c = site.seat.class in
    let place = block_place f c i in
    let w : Writes s.word (name.Arena place) (new_link c i) s'.word = written-at s caller s' p stands step in
    let fit = (fits-at g s sound.parts.0 caller p sound.parts.1 has stands).point in
    let leads_on : next_of p (found_from s p) ≡ At (Block q o) = ap (λ r. At (Block r o)) leads in
    store-sound g s caller s' p (Block q o) (name.Arena place) (new_link c i) sound has stands
    (record {
      stores = record { plan = refl; next = λ x. leads_on; event = λ x. refl; lost = λ x. refl; cleared = λ x. refl };
      lone = tt;
      holds = same;
      kept = λ l old.
          let apart : (k : ℕ) → k < i → prefix_name f c k ≢ name.Arena place = λ k lt. prefix_name-apart f c k i (omega (arith, lt)) in
          arena-kept g s l place (new_link c i) s'.word old
          (making-loose g s l caller f c i sound old has fit.site.frame fit.index
          (is-making s caller p site stands refl)
          (unread-stands s caller (name.Arena place) p stands (grind (arith, apart)))) w;
      so = λ l old.
          let t = between s s'.word in
          let so = recalled-at g t l caller p old has stands in
          All-from_recursion (IsSo g t l caller) (block_recalls q) (recalls t l so (links-made-more t f c i n so.0 w.here most));
    })
    step

pub link_block-sound : (site : Site) (i : ℕ) (o : Continuation) → KeepsSound (Block (block.LinkBlock site i) o)
unfolding holds_of
link_block-sound site i o g s caller s' sound has stands step =
    elim (cases_Bool (nat_lt (i + 1) (block_count_of site.seat.class))) [
      | inl more ↦
          link_block-to g s caller s' site i o (block.LinkBlock site (i + 1)) (i + 1) sound has stands step
          (ap (λ b. if b then block.LinkBlock site (i + 1) else block.StoreInfo site) more) refl
          (λ t l so is. (is, so.1)) (omega arith) (grind (arith))
      | inr last ↦
          link_block-to g s caller s' site i o (block.StoreInfo site) (block_count_of site.seat.class) sound has stands step
          (ap (λ b. if b then block.LinkBlock site (i + 1) else block.StoreInfo site) last) refl
          (λ t l so is. (is, tt))
          (omega (arith, ltb-false (i + 1) (block_count_of site.seat.class) last)) (grind (arith))
    ]
