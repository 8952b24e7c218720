-- A walk down the stack of free frames.
use Rattle.std.proofs.Common.{ℕ, ◌≡◌, ◌≢◌, ◌<◌, ◌≤◌, ◌+◌, ◌-◌, List, [], ◌∷◌, length, arith, ap, sym, subst, ◌∙◌}
use Rattle.std.specs.Prelude.{All}
use Rattle.std.proofs.lemmas.List.Elements.{All-head, All-tail}
use Rattle.packed_words.specs.Head.{head_of}
use Rattle.word_table.specs.declared.name.WordName.TheVariants as name
use Rattle.step_parts.specs.declared.stack.point.Pile.TheVariants.{Frames}
use Rattle.step_parts.specs.stack.Stacks.{Stacked, next_in}
use Rattle.sound_state.specs.Lists.{Lists, IsListed}
use Rattle.live_heap.specs.Endings.{ClosedFields, IsResting}
use Rattle.heap_census.specs.Census.{closed_state}
use Rattle.heap_census.proofs.FrameCounts.{frames-add}
use Rattle.heap_census.proofs.RestLemmas.{closed-rests, frames-same}

-- the frames that are left are a stack, and with those that were met they are so many
pub record IsLeft (next : ℕ → ℕ) (frames met top all : ℕ) (left : List ℕ) : Type 0 where
  pub stacked : Stacked next top left
  pub exist : All (λ f. f < frames) left
  pub whole : met + length left ≡ all

-- the frames that are left, one frame further down
left-more :
    (next : ℕ → ℕ) (frames met top all : ℕ) (left : List ℕ) → IsLeft next frames met top all left → top ≢ 0
    → (rest : List ℕ) × (top - 1 < frames) × (met < all) × IsLeft next frames (met + 1) (next (top - 1)) all rest
left-more next frames met top all [] x some = absurd (some x.stacked)
left-more next frames met top all (f ∷ rest) x some =
    let here : f ≡ top - 1 = omega (arith, x.stacked.0) in
    let has : f < frames = All-head (λ k. k < frames) f rest x.exist in (
      rest,
      omega (arith, here, has),
      omega (arith, x.whole),
      record {
        stacked = subst (λ k. Stacked next (next k) rest) here x.stacked.1;
        exist = All-tail (λ k. k < frames) f rest x.exist;
        whole = omega (arith, x.whole);
      },
    )

-- no frame is left at the end of the stack
left-none : (next : ℕ → ℕ) (frames met all : ℕ) (left : List ℕ) → IsLeft next frames met 0 all left → met ≡ all
left-none next frames met all [] x = omega (arith, x.whole)
left-none next frames met all (f ∷ rest) x = absurd (let bad : ⊥ = omega (arith, x.stacked.0) in bad)

-- so many frames of a closed heap's stack were met, and this is the next
pub record IsWalk (c : ClosedFields) (met top : ℕ) : Type 0 where
  pub lists : Lists
  pub listed : IsListed c.geometry (closed_state c).word lists
  pub few : length lists.frames ≤ c.geometry.frames
  pub rest : List ℕ
  pub left : IsLeft (next_in (closed_state c).word Frames) c.geometry.frames met top (length lists.frames) rest

pub walk-start :
    (c : ClosedFields) (top : ℕ) → IsResting c → top ≡ (head_of ((closed_state c).word name.FrameHead)).top → IsWalk c 0 top
walk-start c top resting is =
    let (l, rests) = closed-rests c resting in
    record {
      lists = l;
      listed = rests.parts.listed;
      few = omega (arith, frames-add c.geometry (closed_state c) l rests);
      rest = l.frames;
      left = record {
        stacked = subst (λ t. Stacked (next_in (closed_state c).word Frames) t l.frames) (sym is) rests.parts.listed.frames;
        exist = rests.parts.listed.frames_exist;
        whole = omega arith;
      };
    }

pub walk-more :
    (c : ClosedFields) (met top word : ℕ) → IsWalk c met top → top ≢ 0 → word ≡ (closed_state c).word (name.FrameNext (top - 1))
    → IsWalk c (met + 1) word
walk-more c met top word w some is =
    let more = left-more (next_in (closed_state c).word Frames) c.geometry.frames met top (length w.lists.frames) w.rest w.left some in
    record {
      lists = w.lists;
      listed = w.listed;
      few = w.few;
      rest = more.0;
      left =
          subst (λ t. IsLeft (next_in (closed_state c).word Frames) c.geometry.frames (met + 1) t (length w.lists.frames) more.0) (sym is) more.3;
    }

pub walk-end :
    (c : ClosedFields) (met : ℕ) → IsWalk c met 0 → (l : Lists) → IsListed c.geometry (closed_state c).word l → met ≡ length l.frames
walk-end c met w l listed =
    left-none (next_in (closed_state c).word Frames) c.geometry.frames met (length w.lists.frames) w.rest w.left
    ∙ ap length (frames-same c.geometry (closed_state c) w.lists l w.listed listed)
