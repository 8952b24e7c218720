-- A won install leaves each descriptor in one place, as many out for each class, and each frame in one place.
use Rattle.std.proofs.Common.{ℕ, ◌≡◌, ◌<◌, ◌+◌, refl, arith, ap, sym, subst, inl, ◌∙◌, ◌==◌, if◌then◌else◌}
use Rattle.sound_state.proofs.Common.{Geometry, Null, Held, active_word, descriptor_count, Site, active_name, occurs, new_credits, ErrandFields, State, IsFramed}
use Rattle.sound_state.proofs.Common.{fills_frame, waiting, IsKept, full_keeps, word_keeps, Lists, IsSoundWith, stock_among, word_stock, waiting_of, IsActiveWord, heap_of}
use Rattle.sound_state.proofs.Common.{IsActive, places_of, IsStocked}
use Rattle.word_table.specs.declared.name.WordName.TheVariants as name
use Rattle.sound_state.proofs.shared.FrameLemmas.{waiting-fills}
use Rattle.sound_state.proofs.shared.KeptLemmas.{places-kept}
use Rattle.sound_state.proofs.shared.CreditLemmas.{actives-written}
use Rattle.sound_state.proofs.installs.InstallEffects.{Installs, installed_word, installed_holds}
use Rattle.sound_state.proofs.installs.InstallFacts.{installed-info, installed-anchor, installed-bound, installed-others, installed-one, installed-back, installed-holds}
use Rattle.sound_state.proofs.shared.MakingWeights.{installing_holds}
use Rattle.sound_state.proofs.shared.PointLemmas.{kept_places}
use Rattle.sound_state.proofs.shared.SumLemmas.{words-written}
use Rattle.sound_state.proofs.shared.WordFacts.{null-said, null-none, held-said, held-not-zero, held-desc}
use Rattle.sound_state.proofs.shared.SuperblocksStay.{ActivesKept, SameDescs, descs-go, AreKept, keeps-none, kept-first}
use Rattle.sound_state.proofs.shared.HoldingEffects.{framed-but, places-go, stock-goes}
use Rattle.sound_state.proofs.shared.WeighLemmas.{full-same}

-- the descriptor of an installed superblock goes from the caller to the active word
places-weigh :
    (d : ℕ) (at : Site) → IsActiveWord (Held at.desc (new_credits at.seat.class))
    → word_keeps d (active_name at.seat) (installed_word at) ≡ word_keeps d (active_name at.seat) (active_word Null) + kept_places d (installing_holds at).kept
places-weigh d at fits =
    let null = null-said in
    let held = held-said at.desc (new_credits at.seat.class) fits in
    rw (null, held) (grind (arith))

installed-stock-weighs :
    (class : ℕ) (at : Site)
    → word_stock class (active_name at.seat) (installed_word at)
    ≡ word_stock class (active_name at.seat) (active_word Null) + stock_among class (installing_holds at).kept
installed-stock-weighs class at =
    let some = held-not-zero at.desc (new_credits at.seat.class) in
    rw (null-none, some) (grind (arith))

-- the frame of an installed superblock goes from the caller's hand to the superblock
installing-frames : (f : ℕ) (at : Site) → ◌≡◌ {A = ℕ} (occurs f (installing_holds at).frames) (if at.frame == f then 1 else 0)
installing-frames f stands = grind (arith)

module _
    {g : Geometry} {s : State} {l : Lists} {caller : ℕ} {at : Site} {words : ℕ} {e : ErrandFields} {s' : State}
    (h : Installs g s l caller at words e s') where
  pub installed-descs : SameDescs s s'
  installed-descs = record {
    info = installed-info h;
    anchor = installed-anchor h;
  }

  installed-places : (d : ℕ) → places_of g s' l d ≡ places_of g s l d
  installed-places d =
      omega (
        arith,
        places-go (installed-holds h) d,
        words-written g (word_keeps d) s.word (active_name at.seat) (installed_word at) s'.word h.exists h.writes,
        ap (word_keeps d (active_name at.seat)) h.before,
        places-weigh d at h.fits,
        ap (λ x. full_keeps x.state) (installed-anchor h d),
      )

  -- the active words and the slots hold what is in its state after a won install
  installed-actives : IsKept g s l → ActivesKept g s s'.word
  installed-actives kept =
      let held = held-said at.desc (new_credits at.seat.class) h.fits in
      let active : IsActive s at.desc at.seat.class =
      kept-first s at.desc at.seat.class waiting (subst (λ x. AreKept s x.kept) h.holds_before (kept.errand caller h.in_heap)) in
      actives-written g s l (heap_of at.seat) at.seat.class (installed_word at) s'.word kept h.writes (rw held refl)
      (λ d credits says.
      let same : at.desc ≡ d = held-desc at.desc (new_credits at.seat.class) d credits (sym held ∙ says) in
      (subst (λ k. k < descriptor_count g) same h.site.desc, subst (λ k. IsActive s k at.seat.class) same active))

  -- each descriptor stands in one place after a won install, in the state that belongs there
  pub installed-kept : IsSoundWith g s l → IsKept g s' l
  installed-kept sound =
      places-kept g s l caller (installing_holds at) (installed_holds at) e s'
      (record {
        holds = installed-holds h;
        places = installed-places;
        actives = installed-actives sound.kept;
        goes = λ d. inl (descs-go (installed-descs) d);
        own = keeps-none s';
      }) sound.kept

  -- as much is out for each class as before
  pub installed-stocked : IsSoundWith g s l → IsStocked g s' l
  installed-stocked sound = record {
    most = λ class has.
        omega (
          arith,
          sound.stocked.most class has,
          full-same g s s' class (λ d. h.writes.elsewhere (name.Anchor d) (λ same. cc)) (λ d. h.writes.elsewhere (name.Info d) (λ same. cc)),
          stock-goes (installed-holds h) class (h.stands_before.waits class) (h.stands_after.quiet.waits class),
          words-written g (word_stock class) s.word (active_name at.seat) (installed_word at) s'.word h.exists h.writes,
          ap (word_stock class (active_name at.seat)) h.before,
          installed-stock-weighs class at,
        );
  }

  pub installed-framed : IsSoundWith g s l → IsFramed g s' l
  installed-framed old =
      let waited : waiting_of g s at.desc ≡ 1 = (installed-back h old).2 in
      let none : waiting_of g s' at.desc ≡ 0 = omega (arith, installed-one h, waited) in
      framed-but (installed-holds h) l at.desc h.site.desc (λ f d differ. rw (installed-bound h d, installed-others h d differ, installed-info h d) refl)
      (λ f.
      let filled : fills_frame g s' l f at.desc ≡ (if at.frame == f then 1 else 0) =
      rw (installed-bound h at.desc, h.bound, none, installed-info h at.desc, h.located.frame) refl in
      omega (arith, waiting-fills g s l at.desc f waited, filled, installing-frames f at))
      old.framed
