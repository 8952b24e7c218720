-- What is left of each field of the sound state by each effect: all fields of one effect stand together here, and nowhere else.
use Rattle.std.proofs.Common.{ℕ, Bool, ◌<◌, List, refl, arith, sym, subst, inl}
use Rattle.word_table.specs.declared.name.WordName.TheVariants as name
use Rattle.sound_state.proofs.Common.{Geometry, WordName, Site, AnchorFields, Share, Event, Continuation, ErrandFields, State, Lists, IsSoundWithoutCounts, IsSoundWith}
use Rattle.sound_state.proofs.Common.{IsFormed, IsListed, IsKept, AreChained, IsFramed, IsGuarded, IsStocked, IsTied}
use Rattle.sound_state.proofs.shared.BackedRecalls.{OthersRemember}
use Rattle.sound_state.proofs.shared.FormedLemmas.{formed-told}
use Rattle.sound_state.proofs.shared.ShownLemmas.{MayGuard, ShowsSame, guarded-goes, kept-shown, listed-shown, remembered-shown, shown-superblocks, turned-shown}
use Rattle.sound_state.proofs.shared.ShownLemmas.{with_available}
use Rattle.sound_state.proofs.shared.SuperblocksStay.{chained-shows, framed-shows, tied-shows}
use Rattle.sound_state.proofs.shared.TurnEffects.{IsTurnedBut, turned-but}
use Rattle.sound_state.proofs.stacks.StackEffects.{Restacks}
use Rattle.sound_state.proofs.stacks.StackFacts.{kept-restacked, remembered-restacked, restacked-superblocks, turned-restacked}
use Rattle.sound_state.proofs.large.TouchEffects.{Touches, chained-touched, framed-touched, guarded-touched, kept-touched, listed-touched, remembered-touched}
use Rattle.sound_state.proofs.large.TouchEffects.{touched-stock, turned-touched}
use Rattle.sound_state.proofs.stores.StoreFields.{LoneKept, between, chained-between, framed-between, guarded-between, kept-between, listed-between}
use Rattle.sound_state.proofs.stores.StoreFields.{remembered-between, stocked-between, tied-between, turned-between}
use Rattle.sound_state.proofs.tellings.TellLemmas.{IsTold, guarded-told, kept-told, remembered-told, told-moves, told-shows, told_state, turned-told}
use Rattle.sound_state.proofs.pops.PopChains.{popped-chained, popped-framed}
use Rattle.sound_state.proofs.pops.PopEffects.{Pops}
use Rattle.sound_state.proofs.pops.PopKept.{popped-kept, popped-stocked}
use Rattle.sound_state.proofs.pops.PopRecalls.{popped-remembered}
use Rattle.sound_state.proofs.pops.PopTies.{popped-tied}
use Rattle.sound_state.proofs.pops.PopTurns.{popped-guarded, popped-listed, popped-turned}
use Rattle.sound_state.proofs.pushes.PushChains.{pushed-chained, pushed-framed}
use Rattle.sound_state.proofs.pushes.PushEffects.{Outcome, Pushes}
use Rattle.sound_state.proofs.pushes.PushKept.{pushed-kept, pushed-stocked}
use Rattle.sound_state.proofs.pushes.PushRecalls.{pushed-remembered}
use Rattle.sound_state.proofs.pushes.PushTies.{pushed-tied}
use Rattle.sound_state.proofs.pushes.PushTurns.{pushed-guarded, pushed-listed, pushed-turned}
use Rattle.sound_state.proofs.shifts.ShiftEffects.{Shifts}
use Rattle.sound_state.proofs.shifts.ShiftFacts.{shifted-chained, shifted-framed}
use Rattle.sound_state.proofs.shifts.ShiftKept.{shifted-kept, shifted-stocked}
use Rattle.sound_state.proofs.shifts.ShiftRecalls.{shifted-remembered}
use Rattle.sound_state.proofs.shifts.ShiftTurns.{shifted-guarded, shifted-listed, shifted-tied, shifted-turned}
use Rattle.sound_state.proofs.anchors.AnchorFacts.{MakesAnchor}
use Rattle.sound_state.proofs.anchors.AnchorFields.{anchored-chained, anchored-framed, anchored-listed}
use Rattle.sound_state.proofs.anchors.AnchorKept.{anchored-kept}
use Rattle.sound_state.proofs.anchors.AnchorRecalls.{anchored-remembered, anchored-lies}
use Rattle.sound_state.proofs.anchors.AnchorRests.{anchored-guarded, anchored-stocked, anchored-tied, anchored-turned}
use Rattle.sound_state.proofs.installs.InstallChains.{installed-chained}
use Rattle.sound_state.proofs.installs.InstallEffects.{Installs}
use Rattle.sound_state.proofs.installs.InstallKept.{installed-framed, installed-kept, installed-stocked}
use Rattle.sound_state.proofs.installs.InstallRecalls.{installed-remembered}
use Rattle.sound_state.proofs.installs.InstallTies.{installed-tied}
use Rattle.sound_state.proofs.installs.InstallTurns.{installed-guarded, installed-listed, installed-turned}
use Rattle.sound_state.proofs.discards.DiscardEffects.{Discards}
use Rattle.sound_state.proofs.discards.DiscardKeeps.{discarded-chained, discarded-framed, discarded-guarded, discarded-kept, discarded-listed, discarded-stocked}
use Rattle.sound_state.proofs.discards.DiscardKeeps.{discarded-turned}
use Rattle.sound_state.proofs.discards.DiscardRecalls.{discarded-remembered}
use Rattle.sound_state.proofs.discards.DiscardTies.{discarded-tied}
use Rattle.sound_state.proofs.beginnings.FirstLemmas.{IsBegun, first-formed, first-guarded, first-listed, first-remembered, first-tied, first-turned, first_lists}

-- the state is sound, but for what one caller remembers and how often it was answered
pub record IsSoundBut (g : Geometry) (s : State) (l : Lists) (caller : ℕ) : Type 0 where
  pub formed : IsFormed g s
  pub listed : IsListed g s.word l
  pub kept : IsKept g s l
  pub chained : AreChained g s l
  pub framed : IsFramed g s l
  pub remembered : OthersRemember g s l caller
  pub guarded : IsGuarded g s
  pub stocked : IsStocked g s l
  pub turned : IsTurnedBut g s l caller
  pub tied : IsTied g s l

-- a sound state is sound but for any one caller
pub sound-but_one : (g : Geometry) (s : State) (l : Lists) (caller : ℕ) → IsSoundWith g s l → IsSoundBut g s l caller
sound-but_one g s l caller sound = grind (arith, sound, turned-but)

-- a step after which a state shows the same makes sound one that is so but for what its caller remembers and how often it was answered
pub shown-sound :
    {g : Geometry} {s : State} {l : Lists} {caller : ℕ} {e : ErrandFields} {s' : State} {ys : List ℕ} → ShowsSame g s l caller e s' ys
    → IsSoundBut g s l caller → IsFormed g s' → IsSoundWith g s' (with_available l ys)
shown-sound {g} {s} {l} {caller} {e} {s'} h but formed = record {
  formed = formed;
  listed = listed-shown h but.listed;
  kept = kept-shown h but.kept;
  chained = chained-shows (shown-superblocks h) but.chained;
  framed = framed-shows (shown-superblocks h) (λ f. omega (arith, h.frames f)) but.framed;
  remembered = remembered-shown h but.formed but.remembered formed;
  guarded = guarded-goes g s caller e s' h.moves h.others h.guards h.may.stands.full but.guarded;
  stocked = h.stock but.stocked;
  turned = turned-shown h but.turned;
  tied =
      tied-shows (shown-superblocks h) caller e h.moves (h.word name.Units tt) (λ k. h.word (name.Shelf k) tt) h.may.excepts
      h.may.stands.point.hands h.may.stands.point.frees but.tied;
}

-- a step that takes the first index off a stack, or puts one in front
pub restacked-sound :
    {g : Geometry} {s : State} {l : Lists} {caller : ℕ} {e : ErrandFields} {s' : State} {l' : Lists} → Restacks g s l caller e s' l' → IsSoundWith g s l
    → IsFormed g s' → IsSoundWith g s' l'
restacked-sound {g} {s} {l} {caller} {e} {s'} h old formed = record {
  formed = formed;
  listed = h.listed;
  kept = kept-restacked h old.kept;
  chained = chained-shows (restacked-superblocks h) old.chained;
  framed = framed-shows (restacked-superblocks h) h.frames old.framed;
  remembered = remembered-restacked h old formed;
  guarded =
      guarded-goes g s caller e s' h.moves (λ i differ. h.word (name.Hazard i) tt)
      (subst (MayGuard g s caller e.point e.retired) (sym (h.word (name.Hazard caller) tt)) h.guards) h.may.full old.guarded;
  stocked = record { most = λ class has. omega (arith, old.stocked.most class has, h.stock class) };
  turned = turned-restacked h old.turned;
  tied =
      tied-shows (restacked-superblocks h) caller e h.moves (h.word name.Units tt) (λ k. h.word (name.Shelf k) tt) (λ place x. inl (h.excepts place x))
      h.may.point.hands h.may.point.frees old.tied;
}

-- a step at a large block, where the words show the pool after it
pub touched-sound :
    {g : Geometry} {s : State} {l : Lists} {caller : ℕ} {e : ErrandFields} {s' : State} → Touches g s l caller e s' → IsSoundWith g s l → IsTied g s' l
    → IsFormed g s' → IsSoundWith g s' l
touched-sound h old tied formed = record {
  formed = formed;
  listed = listed-touched h old.listed;
  kept = kept-touched h old.kept;
  chained = chained-touched h old.chained;
  framed = framed-touched h old.framed;
  remembered = remembered-touched h old;
  guarded = guarded-touched h old.guarded;
  stocked = record { most = λ class has. omega (arith, old.stocked.most class has, touched-stock h class) };
  turned = turned-touched h old.turned;
  tied = tied;
}

-- a store into words that callers store alone, before its caller goes on
pub between-sound :
    (g : Geometry) (s : State) (l : Lists) (w : WordName → ℕ) → LoneKept g s l w → IsSoundWith g s l → IsFormed g (between s w)
    → IsSoundWith g (between s w) l
between-sound g s l w kept old formed = record {
  formed = formed;
  listed = listed-between g s l w kept.links old.listed;
  kept = kept-between g s l w kept.places old.kept;
  chained = chained-between g s l w kept old.chained;
  framed = framed-between g s l w kept.places old.framed;
  remembered = remembered-between g s l w kept old.remembered formed;
  guarded = guarded-between g s w old.guarded;
  stocked = stocked-between g s l w kept.places old.stocked;
  turned = turned-between g s l w old.turned;
  tied = tied-between g s l w kept old.tied;
}

-- an event that leaves the pool, before its caller goes on
pub told-sound :
    (g : Geometry) (s : State) (l : Lists) (caller : ℕ) (event : Event) → IsTold g caller event → caller < g.callers → IsSoundWith g s l
    → IsSoundBut g (told_state s event) l caller
told-sound g s l caller event h has old =
    let shows = told-shows g s l caller event h in
    record {
      formed = formed-told g s event old.formed;
      listed = old.listed;
      kept = kept-told g s l caller event h has old.kept;
      chained = chained-shows shows old.chained;
      framed = framed-shows shows (λ f. refl) old.framed;
      remembered = remembered-told g s l caller event h old;
      guarded = guarded-told g s event old.guarded;
      stocked = record { most = old.stocked.most };
      turned = turned-told g s l caller event h old.turned;
      tied =
          tied-shows shows caller (s.errand caller) (told-moves g s l caller event h) refl (λ k. refl) (λ place x. inl x) (old.tied.hands caller has)
          (old.tied.frees caller has) old.tied;
    }

-- a won pop of a block
pub popped-sound :
    {g : Geometry} {s : State} {l : Lists} {caller : ℕ} {at : Site} {share : Share} {a : AnchorFields} {link words : ℕ} {e : ErrandFields} {s' : State}
    → Pops g s l caller at share a link words e s' → IsSoundWithoutCounts g s → IsSoundWith g s l → IsFormed g s' → IsSoundWith g s' l
popped-sound h sound old formed = record {
  formed = formed;
  listed = popped-listed h old;
  kept = popped-kept h old;
  chained = popped-chained h sound old;
  framed = popped-framed h old;
  remembered = popped-remembered h sound old;
  guarded = popped-guarded h old;
  stocked = popped-stocked h old;
  turned = popped-turned h sound old;
  tied = popped-tied h sound old;
}

-- a won push of a block
pub pushed-sound :
    {g : Geometry} {s : State} {l : Lists} {caller : ℕ} {at : Site} {i : ℕ} {stored : Bool} {a : AnchorFields} {out : Outcome} {e : ErrandFields} {s' : State}
    → Pushes g s l caller at i stored a out e s' → IsSoundWithoutCounts g s → IsSoundWith g s l → IsFormed g s' → IsSoundWith g s' l
pushed-sound h sound old formed = record {
  formed = formed;
  listed = pushed-listed h old;
  kept = pushed-kept h old;
  chained = pushed-chained h sound old;
  framed = pushed-framed h old;
  remembered = pushed-remembered h old;
  guarded = pushed-guarded h old;
  stocked = pushed-stocked h old;
  turned = pushed-turned h old;
  tied = pushed-tied h sound old;
}

-- a shift of blocks between an anchor's count and what its caller has reserved
pub shifted-sound :
    {g : Geometry} {s : State} {l : Lists} {caller : ℕ} {at : Site} {a b : AnchorFields} {e : ErrandFields} {s' : State}
    → Shifts g s l caller at a b e s' → IsSoundWith g s l → IsFormed g s' → IsSoundWith g s' l
shifted-sound h old formed = record {
  formed = formed;
  listed = shifted-listed h old;
  kept = shifted-kept h old;
  chained = shifted-chained h old;
  framed = shifted-framed h old;
  remembered = shifted-remembered h old;
  guarded = shifted-guarded h old;
  stocked = shifted-stocked h old;
  turned = shifted-turned h old;
  tied = shifted-tied h old;
}

-- the store of a new superblock's anchor
pub anchored-sound :
    {g : Geometry} {s : State} {l : Lists} {caller : ℕ} {at : Site} {o : Continuation} {e : ErrandFields} {s' : State}
    → MakesAnchor g s l caller at o e s' → IsSoundWith g s l → IsFormed g s' → IsSoundWith g s' l
anchored-sound m old formed =
    let h = m.anchors in
    record {
      formed = formed;
      listed = anchored-listed h old;
      kept = anchored-kept h old m.lies;
      chained = anchored-chained h old m.lies m.made m.unlive;
      framed = anchored-framed h old;
      remembered = anchored-remembered h old (m.recalls_after (anchored-lies h old m.lies));
      guarded = anchored-guarded m old;
      stocked = anchored-stocked m old;
      turned = anchored-turned m old;
      tied = anchored-tied h old;
    }

-- a won install of a superblock in an active word
pub installed-sound :
    {g : Geometry} {s : State} {l : Lists} {caller : ℕ} {at : Site} {words : ℕ} {e : ErrandFields} {s' : State}
    → Installs g s l caller at words e s' → IsSoundWithoutCounts g s → IsSoundWith g s l → IsFormed g s' → IsSoundWith g s' l
installed-sound h sound old formed = record {
  formed = formed;
  listed = installed-listed h old;
  kept = installed-kept h old;
  chained = installed-chained h old;
  framed = installed-framed h old;
  remembered = installed-remembered h sound old;
  guarded = installed-guarded h old;
  stocked = installed-stocked h old;
  turned = installed-turned h sound old;
  tied = installed-tied h sound old;
}

-- a lost one, by which the superblock is given up
pub discarded-sound :
    {g : Geometry} {s : State} {l : Lists} {caller : ℕ} {at : Site} {e : ErrandFields} {s' : State}
    → Discards g s l caller at e s' → IsSoundWithoutCounts g s → IsSoundWith g s l → IsFormed g s' → IsSoundWith g s' l
discarded-sound h sound old formed = record {
  formed = formed;
  listed = discarded-listed h old;
  kept = discarded-kept h old;
  chained = discarded-chained h old;
  framed = discarded-framed h old;
  remembered = discarded-remembered h sound old;
  guarded = discarded-guarded h old;
  stocked = discarded-stocked h old;
  turned = discarded-turned h old;
  tied = discarded-tied h sound old;
}

-- a state before the first step, where its descriptors, chains, frames and stock are in order
pub first-sound :
    (g : Geometry) (n : ℕ) (first : WordName → ℕ) (s : State) → IsBegun g n first s → IsKept g s (first_lists g n)
    → AreChained g s (first_lists g n) → IsFramed g s (first_lists g n) → IsStocked g s (first_lists g n)
    → IsSoundWith g s (first_lists g n)
first-sound g n first s b kept chained framed stocked = record {
  formed = first-formed g n first s b;
  listed = first-listed g n first s b;
  kept = kept;
  chained = chained;
  framed = framed;
  remembered = first-remembered g n first s b;
  guarded = first-guarded g n first s b;
  stocked = stocked;
  turned = first-turned g n first s b;
  tied = first-tied g n first s b;
}
