-- What the registers of a lane hold, through each event of the lane.
use Rattle.std.proofs.Common.{ℕ, zero, suc, replicate, ◌≡◌, ◌≢◌, ◌<◌, ◌∷◌, ◌++◌, List, [], Option, Some, None, length, refl, sym, ap, ◌∙◌, subst, inl, inr, arith}
use Rattle.std.proofs.lemmas.Bool.{cases_lt}
use Rattle.std.proofs.lemmas.List.{get_or_past}
use Rattle.heap_geometry.specs.declared.geometry.Geometry.{Geometry}
use Rattle.heap_geometry.specs.Need.{need_of, usable_words}
use Rattle.pool_model.specs.declared.event.Event.{Event}
use Rattle.pool_model.specs.declared.event.Event.TheVariants.{Alloc, Free, Put, Take}
use Rattle.pool_model.specs.declared.owner.Owner.{Owner}
use Rattle.pool_model.specs.declared.owner.Owner.TheVariants.{Caller, Shelf}
use Rattle.pool_model.specs.Pool.{Block, Pool, Owns, block_at, pool_of, fresh_block, handed_to, with_changed}
use Rattle.pool_model.proofs.OwnerLemmas.{owner-one}
use Rattle.pool_model.specs.Legal.{IsLegalWithoutCounts}
use Rattle.pool_model.proofs.HistoryLemmas.{pool_of-push}
use Rattle.pool_model.proofs.PoolLemmas.{block_at-here, block_at-past, block_at-without_other, block_at-changed_other, block_at-changed_same, place-found, every-found, Differ, Pairs}
use Rattle.pool_model.proofs.WellFormedLemmas.{sound-differ, sound-of}
use Rattle.lane_outcomes.specs.declared.registers.HeldBlock.{HeldBlock}
use Rattle.lane_outcomes.specs.Lane.{held_in}
use Rattle.lane_outcomes.specs.Standing.{OwnsHeld, HoldsOwn}

-- a block that was live before an allocation lies at another place
fresh-differs :
    (g : Geometry) (history : List Event) (caller need place other : ℕ) (block : Block)
    → IsLegalWithoutCounts g (history ++ Alloc caller need place ∷ []) → block_at other (pool_of history) ≡ Some block → other ≢ place
fresh-differs g history caller need place other block legal found =
    let differ : Pairs Differ (fresh_block caller need place ∷ pool_of history) =
    subst (Pairs Differ) (pool_of-push history (Alloc caller need place))
    (sound-differ g _ (sound-of g _ legal)) in
    let apart : place ≢ block.place = every-found (Differ (fresh_block caller need place)) other (pool_of history) block differ.0 found in
    λ e. apart (sym (place-found other (pool_of history) block found ∙ e))

-- the caller owns the block that it was given
owns-fresh :
    (history : List Event) (caller need place words : ℕ) → words ≡ usable_words (need_of need)
    → OwnsHeld (pool_of (history ++ Alloc caller need place ∷ [])) caller (record { place = place; words = words; need = need_of need })
owns-fresh history caller need place words is =
    record {
      block = fresh_block caller need place;
      live =
          rw (pool_of-push history (Alloc caller need place))
          (block_at-here place (fresh_block caller need place) (pool_of history) refl);
      owned = refl;
      need_is = refl;
      words_are = is;
    }

-- a block that lies where it lay is still owned
pub owns-on :
    (old new : Pool) (caller : ℕ) (held : HeldBlock) (h : OwnsHeld old caller held) → block_at held.place new ≡ Some h.block → OwnsHeld new caller held
owns-on old new caller held h live =
    record { block = h.block; live = live; owned = h.owned; need_is = h.need_is; words_are = h.words_are }

-- so it is after a block was handed over at another place
owns-handed :
    (pool : Pool) (caller : ℕ) (held : HeldBlock) (place : ℕ) (to : Owner) → held.place ≢ place → OwnsHeld pool caller held
    → OwnsHeld (with_changed place (handed_to to) pool) caller held
owns-handed pool caller held place to differ h =
    owns-on pool _ caller held h (block_at-changed_other place held.place (handed_to to) pool (λ b. refl) differ ∙ h.live)

-- a block as a register's
abbrev pub held_of : ℕ → Block → HeldBlock
held_of place block = record { place = place; words = usable_words block.need; need = block.need }

-- the caller owns the block that it took from a shelf
owns-taken :
    (history : List Event) (caller shelf place : ℕ) (block : Block) → block_at place (pool_of history) ≡ Some block
    → OwnsHeld (pool_of (history ++ Take caller shelf place ∷ [])) caller (held_of place block)
owns-taken history caller shelf place block live =
    record {
      block = handed_to (Caller caller) block;
      live =
          rw (pool_of-push history (Take caller shelf place))
          (block_at-changed_same place (handed_to (Caller caller)) (pool_of history) block (λ b. refl) live);
      owned = refl;
      need_is = refl;
      words_are = refl;
    }

-- no two registers hold the same block
abbrev pub HoldsOnce : List (Option HeldBlock) → Type 0
HoldsOnce registers =
    (r q : ℕ) (held other : HeldBlock) → held_in registers r ≡ Some held → held_in registers q ≡ Some other → r ≢ q
    → held.place ≢ other.place

-- empty registers hold nothing
pub held-nothing : (n r : ℕ) → held_in (replicate n None) r ≡ None
held-nothing zero r = refl
held-nothing (suc n) zero = refl
held-nothing (suc n) (suc r) = held-nothing n r

pub holds-nothing : (pool : Pool) (caller n : ℕ) → HoldsOwn pool caller (replicate n None)
holds-nothing pool caller n =
    record {
      owned = λ r held full. absurd (let e : None ≡ Some held = sym (held-nothing n r) ∙ full in cc);
      once = λ r q held other full. absurd (let e : None ≡ Some held = sym (held-nothing n r) ∙ full in cc);
    }

-- a register that holds a block is there
pub held-inside : (registers : List (Option HeldBlock)) (r : ℕ) (held : HeldBlock) → held_in registers r ≡ Some held → r < length registers
held-inside registers r held full =
    elim (cases_lt r (length registers)) [
      | inl within ↦ within
      | inr past ↦ absurd (let e : None ≡ Some held = sym (get_or_past registers r None past) ∙ full in cc)
    ]

-- slots with one more before them hold the caller's blocks too, where the block in it is the caller's, and none of theirs
pub holds-first :
    (pool : Pool) (caller : ℕ) (first : Option HeldBlock) (rest : List (Option HeldBlock))
    → ((held : HeldBlock) → first ≡ Some held
    → OwnsHeld pool caller held × ((r : ℕ) (other : HeldBlock) → held_in rest r ≡ Some other → other.place ≢ held.place))
    → HoldsOwn pool caller rest → HoldsOwn pool caller (first ∷ rest)
holds-first pool caller first rest new h = record { owned = owned; once = once }
  where
    owned : (r : ℕ) (held : HeldBlock) → held_in (first ∷ rest) r ≡ Some held → OwnsHeld pool caller held
    owned zero held full = (new held full).0
    owned (suc r) held full = h.owned r held full

    once : HoldsOnce (first ∷ rest)
    once zero zero held other at_r at_q differ = absurd (differ refl)
    once zero (suc q) held other at_r at_q differ = λ e. (new held at_r).1 q other at_q (sym e)
    once (suc r) zero held other at_r at_q differ = (new other at_q).1 r held at_r
    once (suc r) (suc q) held other at_r at_q differ = h.once r q held other at_r at_q (λ e. differ (ap suc e))

-- blocks that stay the caller's are held as before
pub holds-still :
    (old new : Pool) (caller : ℕ) (registers : List (Option HeldBlock))
    → ((held : HeldBlock) → OwnsHeld old caller held → OwnsHeld new caller held)
    → HoldsOwn old caller registers → HoldsOwn new caller registers
holds-still old new caller registers keep h =
    record { owned = λ r held eq. keep held (h.owned r held eq); once = h.once }

-- the first slot's block leaves the caller, and each that lies elsewhere stays the caller's
holds-left :
    (old new : Pool) (caller : ℕ) (gone : HeldBlock) (rest : List (Option HeldBlock))
    → ((held : HeldBlock) → held.place ≢ gone.place → OwnsHeld old caller held → OwnsHeld new caller held)
    → HoldsOwn old caller (Some gone ∷ rest) → HoldsOwn new caller rest
holds-left old new caller gone rest keep h =
    record {
      owned = λ r held full. keep held (h.once (suc r) 0 held gone full refl (λ e. absurd (omega (arith, e)))) (h.owned (suc r) held full);
      once = λ r q held other at_r at_q differ. h.once (suc r) (suc q) held other at_r at_q (λ e. differ (omega (arith, e)));
    }

-- a block is new to the caller, and each that it held lies elsewhere and stays its own
holds-new :
    (old new : Pool) (caller : ℕ) (fresh : HeldBlock) (rest : List (Option HeldBlock)) → OwnsHeld new caller fresh
    → ((held : HeldBlock) → OwnsHeld old caller held → (held.place ≢ fresh.place) × OwnsHeld new caller held)
    → HoldsOwn old caller rest → HoldsOwn new caller (Some fresh ∷ rest)
holds-new old new caller fresh rest owns others h =
    holds-first new caller (Some fresh) rest
    (λ held full.
    let same : fresh ≡ held = let e : Some fresh ≡ Some held = full in cc in (
      subst (OwnsHeld new caller) same owns,
      λ r other at_r e. (others other (h.owned r other at_r)).0 (e ∙ ap (λ (b : HeldBlock). b.place) (sym same)),
    ))
    (holds-still old new caller rest (λ held owned. (others held owned).1) h)

-- after an allocation the caller holds the new block too
pub holds-fresh :
    (g : Geometry) (history : List Event) (caller need place words : ℕ) (rest : List (Option HeldBlock))
    → IsLegalWithoutCounts g (history ++ Alloc caller need place ∷ []) → words ≡ usable_words (need_of need)
    → HoldsOwn (pool_of history) caller rest
    → HoldsOwn (pool_of (history ++ Alloc caller need place ∷ [])) caller (Some (record { place = place; words = words; need = need_of need }) ∷ rest)
holds-fresh g history caller need place words rest legal is =
    holds-new (pool_of history) _ caller (record { place = place; words = words; need = need_of need }) rest
    (owns-fresh history caller need place words is)
    (λ held owns.
    let differ = fresh-differs g history caller need place held.place owns.block legal owns.live in
    let live = block_at-past held.place (fresh_block caller need place) (pool_of history) (λ e. differ (sym e)) ∙ owns.live in
    (differ, owns-on (pool_of history) _ caller held owns (rw (pool_of-push history (Alloc caller need place)) live)))

-- after a free, and after a put, it holds the others
pub holds-freed :
    (history : List Event) (caller : ℕ) (gone : HeldBlock) (rest : List (Option HeldBlock)) → HoldsOwn (pool_of history) caller (Some gone ∷ rest)
    → HoldsOwn (pool_of (history ++ Free caller gone.place ∷ [])) caller rest
holds-freed history caller gone rest =
    holds-left (pool_of history) _ caller gone rest
    (λ held differ owns.
    let live = block_at-without_other gone.place held.place (pool_of history) differ ∙ owns.live in
    owns-on (pool_of history) _ caller held owns (rw (pool_of-push history (Free caller gone.place)) live))

pub holds-put :
    (history : List Event) (caller shelf : ℕ) (gone : HeldBlock) (rest : List (Option HeldBlock)) → HoldsOwn (pool_of history) caller (Some gone ∷ rest)
    → HoldsOwn (pool_of (history ++ Put caller gone.place shelf ∷ [])) caller rest
holds-put history caller shelf gone rest =
    holds-left (pool_of history) _ caller gone rest
    (λ held differ owns. rw (pool_of-push history (Put caller gone.place shelf)) (owns-handed (pool_of history) caller held gone.place (Shelf shelf) differ owns))

-- after a take it holds the block that was taken too
pub holds-taken :
    (history : List Event) (caller shelf place : ℕ) (block : Block) (rest : List (Option HeldBlock))
    → Owns (pool_of history) (Shelf shelf) place → block_at place (pool_of history) ≡ Some block → HoldsOwn (pool_of history) caller rest
    → HoldsOwn (pool_of (history ++ Take caller shelf place ∷ [])) caller (Some (held_of place block) ∷ rest)
holds-taken history caller shelf place block rest shelved live =
    holds-new (pool_of history) _ caller (held_of place block) rest (owns-taken history caller shelf place block live)
    (λ held owns.
    let differ = owner-one (pool_of history) (Caller caller) (Shelf shelf) place held.place owns.block shelved owns.live owns.owned
    (λ e. let s : Shelf shelf ≡ Caller caller = e in cc) in
    (differ, rw (pool_of-push history (Take caller shelf place)) (owns-handed (pool_of history) caller held place (Caller caller) differ owns)))
