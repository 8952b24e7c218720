-- A won install: the superblocks keep their blocks in order.
use Rattle.std.proofs.Common.{ℕ, ◌≡◌, ◌≢◌, ◌<◌, ◌+◌, refl, arith, ap, sym, subst, inl, inr, ◌∙◌, ◌==◌, IsTrue, ne_eqb}
use Rattle.std.proofs.lemmas.Bool.{cases_eq, cond-false}
use Rattle.sound_state.proofs.Common.{Geometry, Site, ErrandFields, State, Lists, IsSoundWith, Superblock, AreChained, IsChained, superblock_of, free_chain, is_there}
use Rattle.sound_state.proofs.Common.{held_back}
use Rattle.sound_state.proofs.installs.InstallEffects.{Installs}
use Rattle.sound_state.proofs.installs.InstallFacts.{installed-still, installed-anchor, installed-bound, installed-others, installed-one, installed-reserved}
use Rattle.sound_state.proofs.installs.InstallFacts.{installed-back, installed-some, installed-here, installed-there}
use Rattle.sound_state.proofs.shared.SuperblockEffects.{LieStill, BlockEffects, next-stays, size-stays, superblock-stays, live-after, rest-live, chained-after}
use Rattle.sound_state.proofs.shared.SuperblockEffects.{same-chain-chained}

-- a superblock whose first block is live instead of held back keeps its blocks in order
first-given :
    (b b' : Superblock) → IsChained b → b'.anchor ≡ b.anchor → free_chain b' ≡ free_chain b → b'.next ≡ b.next → b'.size ≡ b.size → b'.waiting ≡ 0
    → b.waiting ≡ 1 → b.live 0 ≡ 0 → b'.live 0 ≡ 1 → ((j : ℕ) → j < b.size → j ≢ 0 → b'.live j ≡ b.live j) → IsChained b'
first-given b b' old anchor chain next size waits waited was now others =
    same-chain-chained b b' old (ap (λ x. x.avail) anchor) chain next size (omega (arith, old.some, ap (λ x. x.count) anchor, size))
    (λ j has.
    elim (cases_eq j 0) [
      | inl is ↦
          let at_0 : b'.live 0 + b'.waiting ≡ b.live 0 + b.waiting = omega (arith, was, now, waits, waited) in
          subst (λ k. b'.live k + held_back b' k ≡ b.live k + held_back b k) (sym is) at_0
      | inr differ ↦
          let back : held_back b j ≡ 0 = cond-false {A = ℕ} (j == 0) b.waiting 0 (ne_eqb j 0 differ) in
          let back' : held_back b' j ≡ 0 = cond-false {A = ℕ} (j == 0) b'.waiting 0 (ne_eqb j 0 differ) in
          omega (arith, others j has differ, back, back')
    ])

module _
    {g : Geometry} {s : State} {l : Lists} {caller : ℕ} {at : Site} {words : ℕ} {e : ErrandFields} {s' : State}
    (h : Installs g s l caller at words e s') where
  installed-lie : LieStill s s'
  installed-lie = installed-still h

  -- the first block of a new superblock alone becomes live at its install
  installed-blocks : IsSoundWith g s l → BlockEffects g s l caller at 0 s'
  installed-blocks old = record {
    site = h.site;
    bound = h.bound;
    located = h.located;
    index = installed-some h old;
    still = installed-lie;
    there = installed-there h;
  }

  -- the installed superblock's first block is live instead of held back, and its chain stays in order
  installed-here-chained : IsSoundWith g s l → IsChained (superblock_of g s' at.desc)
  installed-here-chained old =
      let back = installed-back h old in
      let next = next-stays installed-lie g at.desc in
      let anchor = installed-anchor h at.desc in
      first-given (superblock_of g s at.desc) (superblock_of g s' at.desc) (old.chained.chained at.desc h.site.desc h.bound) anchor
      (rw (next, anchor, installed-reserved h at.desc) refl) next (size-stays installed-lie g at.desc)
      (omega (arith, installed-one h, back.2)) back.2 back.1
      (live-after (installed-blocks old) 0 ∙ ap is_there (installed-here h)) (rest-live (installed-blocks old))

  -- all superblocks keep their blocks in order after a won install
  pub installed-chained : IsSoundWith g s l → AreChained g s' l
  installed-chained old =
      chained-after (installed-blocks old) old (λ d. subst IsTrue (installed-bound h d)) (λ bound. installed-here-chained old)
      (λ d differ.
      superblock-stays installed-lie g d (installed-anchor h d) (installed-reserved h d)
      (installed-others h d differ))
