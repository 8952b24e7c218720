-- What an effect leaves of superblocks that all lie where they did, with the links that they had.
use Rattle.std.proofs.Common.{ℕ, Some, ◌≡◌, ◌≢◌, ◌<◌, ◌+◌, [], ◌∷◌, ◌++◌, List, refl, arith, ap, sym, subst, inl, inr, ◌∙◌, ◌==◌, if◌then◌else◌, IsTrue, IsSome}
use Rattle.std.proofs.Math.Path.{fun_ext}
use Rattle.std.proofs.lemmas.Bool.{cases_eq}
use Rattle.sound_state.proofs.Common.{Geometry, block_count_of, block_place, frame_of, frame_of-block_place, AnchorFields, anchor_of, info_of, link_of, WordName, Site}
use Rattle.sound_state.proofs.Common.{descriptor_count, word_count, info_in, IsSiteOf, word_name, cases_name, occurs, link_in, prefix_name, Event, block_at, pool_of, State}
use Rattle.sound_state.proofs.Common.{Lists, IsLocated, IsSoundWith, words_sum, Superblock, AreChained, IsChained, anchor_for, info_for, info_or_zero, superblock_of}
use Rattle.sound_state.proofs.Common.{free_chain, is_bound, is_there, live_at, reserved_of, waiting_of, index_of, occurs-here, fresh_block, pool_of-push, block_at-past}
use Rattle.sound_state.proofs.Common.{held_back}
use Rattle.heap_geometry.proofs.PlaceLemmas.{index_of-block_place}
use Rattle.word_table.specs.declared.name.WordName.TheVariants as name
use Rattle.pool_model.specs.declared.event.Event.TheVariants.{Alloc}
use Rattle.pool_model.proofs.PoolLemmas.{block_at-here}
use Rattle.sound_state.proofs.shared.FrameLemmas.{bound-apart}
use Rattle.sound_state.proofs.shared.ListFacts.{occurs-past}
use Rattle.sound_state.proofs.shared.SumLemmas.{sum-same}
use Rattle.sound_state.proofs.shared.TieLemmas.{TieWords}

-- what holds of one number, and of every other, holds of each
pub of-each : (P : ℕ → Type 0) (i : ℕ) → P i → ((j : ℕ) → j ≢ i → P j) → (j : ℕ) → P j
of-each P i here others j =
    elim (cases_eq j i) [
      | inl same ↦ subst P (sym same) here
      | inr differ ↦ others j differ
    ]

-- a word that says where superblocks lie, or is of the arena
abbrev pub IsLayWord : WordName → Type 0
IsLayWord (name.Info d) = Unit {0}
IsLayWord (name.Arena place) = Unit {0}
IsLayWord n = ⊥

-- all words that say where superblocks lie, and those of the arena, are what they were
pub record LieStill (s s' : State) : Type 0 where
  pub words : (n : WordName) → IsLayWord n → s'.word n ≡ s.word n

-- two superblocks that are the same, but for which of their blocks are live
pub record IsSameButLive (b b' : Superblock) : Type 0 where
  pub anchor : b'.anchor ≡ b.anchor
  pub reserved : b'.reserved ≡ b.reserved
  pub waiting : b'.waiting ≡ b.waiting
  pub next : b'.next ≡ b.next
  pub size : b'.size ≡ b.size

module _ {s s' : State} (still : LieStill s s') where
  pub info-stays : (d : ℕ) → info_for s' d ≡ info_for s d
  info-stays d = ap (λ w. info_or_zero (info_of w)) (still.words (name.Info d) tt)

  pub infos-stay : (g : Geometry) (l : Lists) → AreChained g s l → (d : ℕ) → d < descriptor_count g → IsSome (info_in g (s'.word (name.Info d)))
  infos-stay g l old d has = subst (λ w. IsSome (info_in g w)) (sym (still.words (name.Info d) tt)) (old.infos d has)

  -- no link and no size of a superblock changes where they lie as they did
  pub next-stays : (g : Geometry) (d : ℕ) → (superblock_of g s' d).next ≡ (superblock_of g s d).next
  next-stays g d =
      fun_ext
      (λ k. ap link_of (still.words (prefix_name (info_for s' d).frame (info_for s' d).class k) tt)
      ∙ ap (λ x. link_in s.word x.frame x.class k) (info-stays d))

  pub size-stays : (g : Geometry) (d : ℕ) → (superblock_of g s' d).size ≡ (superblock_of g s d).size
  size-stays g d = ap (λ x. block_count_of x.class) (info-stays d)

  -- no block of a superblock becomes live or free where there is no new event
  pub live-stays : (g : Geometry) → pool_of s'.history ≡ pool_of s.history → (d : ℕ) → (superblock_of g s' d).live ≡ (superblock_of g s d).live
  live-stays g none d =
      fun_ext
      (λ k. ap (λ pool. is_there (block_at (block_place (info_for s' d).frame (info_for s' d).class k) pool)) none
      ∙ ap (λ x. live_at s (block_place x.frame x.class k)) (info-stays d))

  -- a superblock with the same anchor, of which as much is reserved and waits, is the same but for what is live
  pub superblock-stays :
      (g : Geometry) (d : ℕ) → anchor_for s' d ≡ anchor_for s d → reserved_of g s' d ≡ reserved_of g s d → waiting_of g s' d ≡ waiting_of g s d
      → IsSameButLive (superblock_of g s d) (superblock_of g s' d)
  superblock-stays g d anchor reserved waits = record {
    anchor = anchor;
    reserved = reserved;
    waiting = waits;
    next = next-stays g d;
    size = size-stays g d;
  }

-- the number of the descriptor whose anchor the word is
abbrev pub anchor_number : WordName → ℕ
anchor_number (name.Anchor d) = d
anchor_number n = 0

-- words that all stay but one, which weighs nothing, weigh the same
pub words-but :
    (g : Geometry) (weight : WordName → ℕ → ℕ) (words words' : WordName → ℕ) (n : WordName) → ((m : WordName) → m ≢ n → words' m ≡ words m)
    → ((w : ℕ) → weight n w ≡ 0) → words_sum g weight words' ≡ words_sum g weight words
unfolding words_sum
words-but g weight words words' n elsewhere none =
    let same : (m : WordName) → weight m (words' m) ≡ weight m (words m) =
    λ m.
    elim (cases_name m n) [
      | inl is ↦ subst (λ k. weight k (words' k) ≡ weight k (words k)) (sym is) (none (words' n) ∙ sym (none (words n)))
      | inr differ ↦ ap (weight m) (elsewhere m differ)
    ] in
    sum-same (word_count g) (λ k. weight (word_name g k) (words (word_name g k))) (λ k. weight (word_name g k) (words' (word_name g k)))
    (λ k lt. same (word_name g k))

-- no word changes but one anchor
pub record AnchorEffects (s : State) (desc : ℕ) (s' : State) : Type 0 where
  pub elsewhere : (n : WordName) → n ≢ name.Anchor desc → s'.word n ≡ s.word n

module _ {s : State} {desc : ℕ} {s' : State} (h : AnchorEffects s desc s') where
  -- all superblocks lie where they did after a write of one anchor, and all other anchors stay
  pub anchor-still : LieStill s s'
  anchor-still = record { words = λ n is. h.elsewhere n (λ same. subst IsLayWord same is) }

  pub anchors-stay : (d : ℕ) → d ≢ desc → anchor_for s' d ≡ anchor_for s d
  anchors-stay d differ = ap anchor_of (h.elsewhere (name.Anchor d) (λ same. differ (ap anchor_number same)))

  -- what the changed anchor still says, all anchors say still
  pub field-stays :
      {X : Type 0} (field : AnchorFields → X) → field (anchor_for s' desc) ≡ field (anchor_for s desc) → (d : ℕ)
      → field (anchor_for s' d) ≡ field (anchor_for s d)
  field-stays field here =
      of-each (λ k. field (anchor_for s' k) ≡ field (anchor_for s k)) desc here (λ d differ. ap field (anchors-stay d differ))

  -- words that weigh nothing at an anchor weigh the same after a write of one
  pub weights-stay :
      (g : Geometry) (weight : WordName → ℕ → ℕ) → ((w : ℕ) → weight (name.Anchor desc) w ≡ 0)
      → words_sum g weight s'.word ≡ words_sum g weight s.word
  weights-stay g weight = words-but g weight s.word s'.word (name.Anchor desc) h.elsewhere

  -- the words that speak of blocks stay after a write of an anchor
  pub anchor-ties : TieWords s s'
  anchor-ties = record {
    arena = λ place. h.elsewhere (name.Arena place) (λ same. cc);
    units = h.elsewhere name.Units (λ same. cc);
    shelf = λ k. h.elsewhere (name.Shelf k) (λ same. cc);
  }

-- a superblock with the same chain and links, each of whose blocks is live or held back as often as before, keeps its blocks in order
pub same-chain-chained :
    (b b' : Superblock) → IsChained b → b'.anchor.avail ≡ b.anchor.avail → free_chain b' ≡ free_chain b → b'.next ≡ b.next → b'.size ≡ b.size
    → b'.anchor.count < b'.size → ((j : ℕ) → j < b.size → b'.live j + held_back b' j ≡ b.live j + held_back b j) → IsChained b'
same-chain-chained b b' old avail chain next size few used =
    let same : (j : ℕ) → occurs j (free_chain b') ≡ occurs j (free_chain b) = λ j. ap (occurs j) chain in
    record {
      avail = omega (arith, old.avail, avail, size);
      within = λ j on. omega (arith, old.within j (omega (arith, on, same j)), size);
      links = λ j on. omega (arith, old.links j (omega (arith, on, same j)), ap (λ f. f j) next, size);
      once = λ j below. let has : j < b.size = omega (arith, below, size) in omega (arith, old.once j has, same j, used j has);
      some = few;
    }

-- as many blocks are held back where as many callers wait
pub held-same : (b b' : Superblock) → b'.waiting ≡ b.waiting → (j : ℕ) → held_back b' j ≡ held_back b j
held-same b b' waits j = ap (λ w. if j == 0 then w else 0) waits

-- a superblock that is the same but for what is live, where no block becomes live or free, keeps its blocks in order
pub same-chained : (b b' : Superblock) → IsChained b → IsSameButLive b b' → ((j : ℕ) → j < b.size → b'.live j ≡ b.live j) → IsChained b'
same-chained b b' old h live =
    same-chain-chained b b' old (ap (λ x. x.avail) h.anchor) (rw (h.next, h.anchor, h.reserved) refl) h.next h.size
    (omega (arith, old.some, ap (λ x. x.count) h.anchor, h.size)) (λ j lt. omega (arith, live j lt, held-same b b' h.waiting j))

-- the live blocks of a superblock that lies in this frame with this class
pub located-live : (g : Geometry) (s : State) (d f c : ℕ) → IsLocated s d f c → (i : ℕ) → (superblock_of g s d).live i ≡ live_at s (block_place f c i)
located-live g s d f c lies i =
    ap (λ x. live_at s (block_place x (info_for s d).class i)) lies.frame ∙ ap (λ x. live_at s (block_place f x i)) lies.class

-- a block is there after its gift, and all other places are as they were
pub given-here :
    (caller words place : ℕ) (past past' : List Event) → past' ≡ past ++ Alloc caller words place ∷ []
    → block_at place (pool_of past') ≡ Some (fresh_block caller words place)
given-here caller words place past past' one =
    rw (one, pool_of-push past (Alloc caller words place)) (block_at-here place (fresh_block caller words place) (pool_of past) refl)

pub given-there :
    (caller words place : ℕ) (past past' : List Event) → past' ≡ past ++ Alloc caller words place ∷ [] → (p : ℕ) → p ≢ place
    → block_at p (pool_of past') ≡ block_at p (pool_of past)
given-there caller words place past past' one p differ =
    rw (one, pool_of-push past (Alloc caller words place)) (block_at-past p (fresh_block caller words place) (pool_of past) (λ same. differ (sym same)))

-- all superblocks lie where they did, and no block becomes live or free but this one of a bound superblock
pub record BlockEffects (g : Geometry) (s : State) (l : Lists) (caller : ℕ) (at : Site) (i : ℕ) (s' : State) : Type 0 where
  pub site : IsSiteOf g caller at
  pub bound : IsTrue (is_bound g s l at.desc)
  pub located : IsLocated s at.desc at.frame at.seat.class
  pub index : i < block_count_of at.seat.class
  pub still : LieStill s s'
  pub there :
      (p : ℕ) → p ≢ block_place at.frame at.seat.class i → block_at p (pool_of s'.history) ≡ block_at p (pool_of s.history)

module _ {g : Geometry} {s : State} {l : Lists} {caller : ℕ} {at : Site} {i : ℕ} {s' : State} (h : BlockEffects g s l caller at i s') where
  -- another superblock has the live blocks that it had: none of them is the block that changes
  pub others-live :
      IsSoundWith g s l → (d : ℕ) → d < descriptor_count g → IsTrue (is_bound g s l d) → d ≢ at.desc → (j : ℕ) → j < (superblock_of g s d).size
      → (superblock_of g s' d).live j ≡ (superblock_of g s d).live j
  others-live old d has bound differ j within =
      let place = block_place (info_for s d).frame (info_for s d).class j in
      let apart : place ≢ block_place at.frame at.seat.class i =
      λ same.
      let lies : (info_for s d).frame ≡ at.frame =
      sym (frame_of-block_place (info_for s d).frame (info_for s d).class j within) ∙ ap frame_of same
      ∙ frame_of-block_place at.frame at.seat.class i h.index in
      bound-apart g s l d at.desc at.frame old has h.site.desc h.site.frame bound h.bound lies h.located.frame differ in
      ap (λ x. live_at s' (block_place x.frame x.class j)) (info-stays h.still d) ∙ ap is_there (h.there place apart)

  -- the superblock of the block that changes lies where it did, and has the other live blocks that it had
  pub live-after : (j : ℕ) → (superblock_of g s' at.desc).live j ≡ live_at s' (block_place at.frame at.seat.class j)
  live-after j =
      let info = info-stays h.still at.desc in
      located-live g s' at.desc at.frame at.seat.class
      (record { frame = ap (λ x. x.frame) info ∙ h.located.frame; class = ap (λ x. x.class) info ∙ h.located.class }) j

  pub rest-live : (j : ℕ) → j < (superblock_of g s at.desc).size → j ≢ i → (superblock_of g s' at.desc).live j ≡ (superblock_of g s at.desc).live j
  rest-live j within differ =
      let below : j < block_count_of at.seat.class = subst (λ c. j < block_count_of c) h.located.class within in
      let apart : block_place at.frame at.seat.class j ≢ block_place at.frame at.seat.class i =
      λ same. differ
      (sym (index_of-block_place at.frame at.seat.class j below) ∙ ap (index_of at.seat.class) same
      ∙ index_of-block_place at.frame at.seat.class i h.index) in
      live-after j ∙ ap is_there (h.there (block_place at.frame at.seat.class j) apart)
      ∙ sym (located-live g s at.desc at.frame at.seat.class h.located j)

  -- all superblocks keep their blocks in order, where that of the changed block does and the others are the same but for what is live
  pub chained-after :
      IsSoundWith g s l → ((d : ℕ) → IsTrue (is_bound g s' l d) → IsTrue (is_bound g s l d))
      → (IsTrue (is_bound g s' l at.desc) → IsChained (superblock_of g s' at.desc))
      → ((d : ℕ) → d ≢ at.desc → IsSameButLive (superblock_of g s d) (superblock_of g s' d)) → AreChained g s' l
  chained-after old was here others = record {
    infos = infos-stay h.still g l old.chained;
    chained = λ d has bound.
        elim (cases_eq d at.desc) [
          | inl same ↦
              subst (λ k. IsChained (superblock_of g s' k)) (sym same) (here (subst (λ k. IsTrue (is_bound g s' l k)) same bound))
          | inr differ ↦
              same-chained (superblock_of g s d) (superblock_of g s' d) (old.chained.chained d has (was d bound)) (others d differ)
              (others-live old d has (was d bound) differ)
        ];
  }

-- a block that leaves the front of a chain and becomes live is free or live as often as before, and so is every other
pub first-used :
    (b b' : Superblock) (i : ℕ) → free_chain b ≡ i ∷ free_chain b' → b.live i ≡ 0 → b'.live i ≡ 1 → (j : ℕ) → (j ≢ i → b'.live j ≡ b.live j)
    → occurs j (free_chain b) + b.live j ≡ occurs j (free_chain b') + b'.live j
first-used b b' i chain was now j others =
    elim (cases_eq j i) [
      | inl same ↦
          subst (λ k. occurs k (free_chain b) + b.live k ≡ occurs k (free_chain b') + b'.live k) (sym same)
          (omega (arith, ap (occurs i) chain, occurs-here i (free_chain b'), was, now))
      | inr differ ↦ omega (arith, ap (occurs j) chain, occurs-past j i (free_chain b') (λ e. differ (sym e)), others differ)
    ]
