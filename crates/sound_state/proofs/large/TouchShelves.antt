-- Won exchanges of a shelf's word keep the state sound.
use Rattle.std.proofs.Common.{ℕ, None, Some, ◌≡◌, ◌≢◌, ◌<◌, ◌+◌, [], ◌∷◌, ◌++◌, refl, arith, ap, sym, subst, inl, inr, ◌∙◌, slice_index_or}
use Rattle.std.proofs.lemmas.Bool.{cases_eq}
use Rattle.sound_state.proofs.Common.{Geometry, Need, WordName, Writes, Event, block_at, pool_of, sound-of, Continuation, Point, Idle, Large, ErrandFields, event_of}
use Rattle.sound_state.proofs.Common.{next_of, plan_point_of, State, holds_of, Lists, recalls_of, IsSoundWith, is_there, IsLive, IsTied, SHELVES, shelf_word, Put, Take}
use Rattle.sound_state.proofs.Common.{TakeNone, Caller, IsAllowed, IsEmptyShelf, Pool, handed_to, pool_after, pool_of-push}
use Rattle.packed_words.specs.declared.shelf.ShelfWord.TheVariants as shelf
use Rattle.word_table.specs.declared.name.WordName.TheVariants as name
use Rattle.step_parts.specs.declared.large.point.LargePoint.TheVariants as large
use Rattle.pool_model.specs.declared.owner.Owner.{Owner}
use Rattle.pool_model.specs.declared.owner.Owner.TheVariants.{Shelf}
use Rattle.pool_model.specs.Pool.{Block, with_changed}
use Rattle.pool_model.proofs.PoolLemmas.{block_at-changed_other, block_at-changed_same}
use Rattle.pool_model.proofs.WellFormedLemmas.{separate-found}
use Rattle.errand_steps.specs.declared.reply.Reply.TheVariants as reply
use Rattle.sound_state.proofs.shared.PointLemmas.{fits-at, recalled-at}
use Rattle.sound_state.proofs.large.TouchEffects.{Touches}
use Rattle.sound_state.proofs.large.TouchSteps.{idle-aside, idle-bare-handed, idle-recalls, side-touches, won-does}
use Rattle.sound_state.proofs.large.TouchTies.{SamePlaces, tied-touched, touching}
use Rattle.sound_state.proofs.shared.ShelfFacts.{shelved-block, empty-shelf}
use Rattle.sound_state.proofs.shared.StepLemmas.{words-stay}
use Rattle.sound_state.proofs.shared.TieLemmas.{IsBareHanded, one-live}
use Rattle.sound_state.proofs.shared.KeepsSound.{KeepsSoundWhere}

-- a live block changes, and its place and its need stay, and so do all blocks elsewhere
pub record Changes (s s' : State) (at : ℕ) (a b : Block) : Type 0 where
  pub was : IsLive s at a
  pub now : IsLive s' at b
  pub need : b.need ≡ a.need
  pub elsewhere : (p : ℕ) → p ≢ at → block_at p (pool_of s'.history) ≡ block_at p (pool_of s.history)

-- the live block of the changed place is the one that it changed to
pub changed-is : (s s' : State) (at : ℕ) (a b : Block) → Changes s s' at a b → (p : ℕ) (x : Block) → p ≡ at → IsLive s' p x → b ≡ x
changed-is s s' at a b h p x here live = one-live s' at p b x h.now here live

pub changes-places : (s s' : State) (at : ℕ) (a b : Block) → Changes s s' at a b → SamePlaces s s'
changes-places s s' at a b h = grind (arith, h, changed-is, one-live)

-- a change of a block leaves each place live or not
pub changed-there :
    (at p : ℕ) (change : Block → Block) (pool : Pool) (a : Block) → ((x : Block) → (change x).place ≡ x.place) → block_at at pool ≡ Some a
    → is_there (block_at p (with_changed at change pool)) ≡ is_there (block_at p pool)
changed-there at p change pool a keeps found =
    elim (cases_eq p at) [
      | inl here ↦
          let P : ℕ → Type 0 = λ q. is_there (block_at q (with_changed at change pool)) ≡ is_there (block_at q pool) in
          subst P (sym here) (ap is_there (block_at-changed_same at change pool a keeps found) ∙ sym (ap is_there found))
      | inr ne ↦ ap is_there (block_at-changed_other at p change pool keeps ne)
    ]

pub changes-from :
    (s s' : State) (event : Event) (at : ℕ) (change : Block → Block) (a : Block) → s'.history ≡ s.history ++ event ∷ []
    → pool_after (pool_of s.history) event ≡ with_changed at change (pool_of s.history)
    → ((x : Block) → (change x).place ≡ x.place) → ((x : Block) → (change x).need ≡ x.need) → IsLive s at a → Changes s s' at a (change a)
changes-from s s' event at change a history pool places needs live =
    let new : pool_of s'.history ≡ with_changed at change (pool_of s.history) = ap pool_of history ∙ pool_of-push s.history event ∙ pool in
    record {
      was = live;
      now = ap (block_at at) new ∙ block_at-changed_same at change (pool_of s.history) a places live;
      need = needs a;
      elsewhere = λ p ne. ap (block_at p) new ∙ block_at-changed_other at p change (pool_of s.history) places ne;
    }

-- the number of the shelf whose word this is
abbrev shelf_number : WordName → ℕ
shelf_number (name.Shelf k) = k
shelf_number n = 0

-- a block changes hands, and the word of a shelf says what lies there then: the block, which lay on no other shelf, or nothing
handed-tied :
    (g : Geometry) (s : State) (l : Lists) (caller k place word : ℕ) (to : Owner) (s' : State) (e : ErrandFields) → Touches g s l caller e s'
    → IsSoundWith g s l → Writes s.word (name.Shelf k) word s'.word → IsBareHanded (s.errand caller).point → IsBareHanded e.point
    → (b : Block) → Changes s s' place b (handed_to to b) → ((j : ℕ) → b.owner ≡ Shelf j → j ≡ k)
    → ((p : ℕ) (x : Block) → p ≢ place → IsLive s p x → x.owner ≡ Shelf k → ⊥)
    → ((j : ℕ) → to ≡ Shelf j → (j ≡ k) × (word ≡ shelf_word (shelf.Block place b.need)))
    → ((to ≡ Shelf k → ⊥) → word ≡ shelf_word shelf.Nothing) → IsTied g s' l
handed-tied g s l caller k place word to s' e h old w bare_before bare_after b c from alone onto nothing =
    let others = λ (j : ℕ) (differ : j ≢ k). w.elsewhere (name.Shelf j) (λ same. differ (ap shelf_number same)) in
    tied-touched h old (changes-places s s' place b (handed_to to b) c) bare_before bare_after
    (λ p x live. w.elsewhere (name.Arena p) (λ same. cc)) (w.elsewhere name.Units (λ same. cc))
    (λ j p x has_j live on.
    elim (cases_eq p place) [
      | inl here ↦
          let same : handed_to to b ≡ x = changed-is s s' place b (handed_to to b) c p x here live in
          let lies = onto j (ap (λ (y : Block). y.owner) same ∙ on) in
          ap (λ m. s'.word (name.Shelf m)) lies.0 ∙ w.here ∙ lies.1 ∙ ap (λ q. shelf_word (shelf.Block q b.need)) (sym here)
          ∙ ap (λ (y : Block). shelf_word (shelf.Block p y.need)) same
      | inr ne ↦
          let was : IsLive s p x = sym (c.elsewhere p ne) ∙ live in
          elim (cases_eq j k) [
            | inl is ↦ absurd (alone p x ne was (on ∙ ap Shelf is))
            | inr differ ↦ others j differ ∙ old.tied.shelved j p x has_j was on
          ]
    ])
    (λ j has_j none.
    elim (cases_eq j k) [
      | inl is ↦
          ap (λ m. s'.word (name.Shelf m)) is ∙ w.here ∙ nothing (λ on. none place (handed_to to b) c.now (on ∙ ap Shelf (sym is)))
      | inr differ ↦
          others j differ
          ∙ old.tied.bare_shelf j has_j
          (λ p x was on.
          elim (cases_eq p place) [
            | inl here ↦
                differ (from j (ap (λ (y : Block). y.owner) (one-live s place p b x c.was here was) ∙ on))
            | inr ne ↦ none p x (c.elsewhere p ne ∙ was) on
          ])
    ])
    (λ p i v x live written.
    w.elsewhere (name.Arena (p + 1 + i)) (λ same. cc)
    ∙ elim (cases_eq p place) [
      | inl here ↦
          let same : handed_to to b ≡ x = changed-is s s' place b (handed_to to b) c p x here live in
          old.tied.contents p i v b (subst (λ q. IsLive s q b) (sym here) c.was) (ap (λ (y : Block). slice_index_or y.contents i None) same ∙ written)
      | inr ne ↦ old.tied.contents p i v x (sym (c.elsewhere p ne) ∙ live) written
    ])

-- the put of a block on a shelf keeps the state sound
pub put_block-sound :
    (k place : ℕ) (n : Need) (o : Continuation)
    → KeepsSoundWhere (Large (large.PutBlock k place n) o) (λ s. s.word (name.Shelf k) ≡ shelf_word shelf.Nothing)
unfolding plan_point_of next_of event_of holds_of recalls_of
put_block-sound k place n o g s caller s' sound has stands word step =
    let l = sound.parts.0 in
    let old = sound.parts.1 in
    let p : Point = Large (large.PutBlock k place n) o in
    let fit = fits-at g s l caller p old has stands in
    let (owned, none) = recalled-at g s l caller p old has stands in
    let b : Block = owned.block.0 in
    let empty : IsEmptyShelf (pool_of s.history) k = empty-shelf g s l k old fit.point.shelf word in
    let allowed : IsAllowed g s.history (Put caller place k) = ((b, owned.block.1, owned.block.2), fit.point.shelf, empty) in
    touching g s caller s' p Idle (name.Shelf k) (shelf_word (shelf.Block place n)) (Put caller place k) sound has stands (has, allowed)
    (side-touches g s l caller _ o _ _ _ _ (won-does s caller p _ _ _ _ _ refl word (inr (reply.Put, refl, refl)) refl refl refl) tt idle-aside idle-recalls
    (record { number = refl; gives = λ i. refl; refuses = λ i. refl; allocs = refl; freed = refl }) allowed
    (λ d i has_d bound lt. changed-there place _ (handed_to (Shelf k)) (pool_of s.history) b (λ x. refl) owned.block.1))
    (λ t.
    handed-tied g s l caller k place (shelf_word (shelf.Block place n)) (Shelf k) s' _ t.touches old t.word
    (subst IsBareHanded (sym stands) (record { hands = refl; frees = refl })) idle-bare-handed b
    (changes-from s s' (Put caller place k) place (handed_to (Shelf k)) b t.history refl (λ x. refl) (λ x. refl) owned.block.1)
    (λ j on. let bad : Caller caller ≡ Shelf j = sym owned.block.2 ∙ on in absurd (cc)) (λ p x ne was on. empty p x was on)
    (λ j is. let same : j ≡ k = cc in (same, ap (λ m. shelf_word (shelf.Block place m)) (sym owned.block.3))) (λ differ. absurd (differ refl)))
    step

-- the take of a block from a shelf keeps the state sound
pub take_block-sound :
    (k place : ℕ) (n : Need) (o : Continuation)
    → KeepsSoundWhere (Large (large.TakeBlock k place n) o) (λ s. s.word (name.Shelf k) ≡ shelf_word (shelf.Block place n))
unfolding plan_point_of next_of event_of holds_of
take_block-sound k place n o g s caller s' sound has stands word step =
    let l = sound.parts.0 in
    let old = sound.parts.1 in
    let p : Point = Large (large.TakeBlock k place n) o in
    let fit = fits-at g s l caller p old has stands in
    let there = shelved-block g s l k place n sound old fit.point.shelf fit.point.block word in
    let b : Block = there.0 in
    let allowed : IsAllowed g s.history (Take caller k place) = ((b, there.1, there.2), fit.point.shelf) in
    touching g s caller s' p Idle (name.Shelf k) (shelf_word shelf.Nothing) (Take caller k place) sound has stands (has, allowed)
    (side-touches g s l caller _ o _ _ _ _ (won-does s caller p _ _ _ _ _ refl word (inr (reply.Got place n, refl, refl)) refl refl refl) tt idle-aside idle-recalls
    (record { number = refl; gives = λ i. refl; refuses = λ i. refl; allocs = refl; freed = refl }) allowed
    (λ d i has_d bound lt. changed-there place _ (handed_to (Caller caller)) (pool_of s.history) b (λ x. refl) there.1))
    (λ t.
    let c = changes-from s s' (Take caller k place) place (handed_to (Caller caller)) b t.history refl (λ x. refl) (λ x. refl) there.1 in
    handed-tied g s l caller k place (shelf_word shelf.Nothing) (Caller caller) s' _ t.touches old t.word
    (subst IsBareHanded (sym stands) (record { hands = refl; frees = refl })) idle-bare-handed b c
    (λ j on. let same : Shelf k ≡ Shelf j = sym there.2 ∙ on in cc)
    (λ p x ne was on. (separate-found g (pool_of s.history) (sound-of g s.history sound.legal) p place x b was c.was ne).shelves k on there.2)
    (λ j is. absurd (cc)) (λ differ. refl))
    step

-- words and blocks that all stay are tied as they were
pub same-tied :
    (g : Geometry) (s : State) (l : Lists) (caller : ℕ) (s' : State) (e : ErrandFields) → Touches g s l caller e s' → IsSoundWith g s l
    → ((m : WordName) → s'.word m ≡ s.word m) → IsBareHanded (s.errand caller).point → IsBareHanded e.point
    → ((p : ℕ) → block_at p (pool_of s'.history) ≡ block_at p (pool_of s.history)) → IsTied g s' l
same-tied g s l caller s' e h old words bare_before bare_after pool =
    tied-touched h old
    (record { was = λ p x live. (x, sym (pool p) ∙ live, refl); still = λ p x live. (x, pool p ∙ live, refl) }) bare_before bare_after
    (λ p x live. words (name.Arena p)) (words name.Units)
    (λ j p x has_j live on. words (name.Shelf j) ∙ old.tied.shelved j p x has_j (sym (pool p) ∙ live) on)
    (λ j has_j none. words (name.Shelf j) ∙ old.tied.bare_shelf j has_j (λ p x live on. none p x (pool p ∙ live) on))
    (λ p i v x live written. words (name.Arena (p + 1 + i)) ∙ old.tied.contents p i v x (sym (pool p) ∙ live) written)

-- a look that finds a shelf still empty keeps the state sound
pub confirm_nothing-sound :
    (k : ℕ) (o : Continuation) → KeepsSoundWhere (Large (large.ConfirmNothing k) o) (λ s. s.word (name.Shelf k) ≡ shelf_word shelf.Nothing)
unfolding plan_point_of next_of event_of holds_of
confirm_nothing-sound k o g s caller s' sound has stands word step =
    let l = sound.parts.0 in
    let old = sound.parts.1 in
    let p : Point = Large (large.ConfirmNothing k) o in
    let shelf_there : k < SHELVES = (fits-at g s l caller p old has stands).point in
    let allowed : IsAllowed g s.history (TakeNone caller k) = (shelf_there, empty-shelf g s l k old shelf_there word) in
    touching g s caller s' p Idle (name.Shelf k) (shelf_word shelf.Nothing) (TakeNone caller k) sound has stands (has, allowed)
    (side-touches g s l caller _ o _ _ _ _ (won-does s caller p _ _ _ _ _ refl word (inr (reply.Empty, refl, refl)) refl refl refl) tt idle-aside idle-recalls
    (record { number = refl; gives = λ i. refl; refuses = λ i. refl; allocs = refl; freed = refl }) allowed (λ d i has_d bound lt. refl))
    (λ t.
    same-tied g s l caller s' _ t.touches old (words-stay s.word (name.Shelf k) _ s'.word t.word (sym word))
    (subst IsBareHanded (sym stands) (record { hands = refl; frees = refl })) idle-bare-handed
    (λ q. ap (block_at q) (ap pool_of t.history ∙ pool_of-push s.history (TakeNone caller k))))
    step
