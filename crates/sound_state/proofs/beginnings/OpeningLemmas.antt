-- The opening state is sound.
use Rattle.std.proofs.Common.{ℕ, true, ◌≡◌, ◌<◌, ◌^◌, arith, ◌-◌, is_some, ltb-true}
use Rattle.sound_state.proofs.Common.{Geometry, IsChecked, WordName, descriptor_count, occurs, State, fills_frame, word_keeps, IsSound, word_stock, words_sum, exists}
use Rattle.sound_state.proofs.Common.{descriptor_count_within, IsLegalEvent, opening, IsOpening}
use Rattle.word_table.specs.declared.name.WordName.TheVariants as name
use Rattle.sound_state.proofs.beginnings.FirstLemmas.{IsFirst, IsBegun, next-word, some-descriptors, info-zero, first_lists, zero-word, zero-state, zero-anchor_tag}
use Rattle.sound_state.proofs.beginnings.FirstLemmas.{first-kept, first-chained, first-fills, first-framed, first-stocked, first-history}
use Rattle.sound_state.proofs.shared.HolderLemmas.{IsHolderWeight, is_holder, holders-none, keeps-holder, stock-holder, zero-active}
use Rattle.sound_state.proofs.beginnings.OpeningLists.{indexes, indexes-once}
use Rattle.sound_state.proofs.shared.SumLemmas.{sum-none}
use Rattle.sound_state.proofs.SoundAfter.{first-sound}

-- the words at opening are words
opening-below : (g : Geometry) (m : WordName) → IsChecked g → exists g m ≡ true → opening g m < 2 ^ 64
opening-below g (name.Next d) checked has =
    omega (arith, next-word (descriptor_count g) d (ltb-true d (descriptor_count g) has), descriptor_count_within g checked)
opening-below g (name.FrameNext f) checked has =
    omega (arith, next-word g.frames f (ltb-true f g.frames has), checked.frames.1)
opening-below g m checked has = omega arith

-- at opening all frames and descriptors are on their stacks
opening-first : (g : Geometry) → IsChecked g → IsFirst g 0 (opening g)
opening-first g checked = grind (arith, checked, info-zero, is_some, opening-below, some-descriptors, zero-active, zero-anchor_tag, zero-state)

-- no active word or slot holds a superblock at opening
opening-empty : (g : Geometry) (m : WordName) → is_holder m ≡ true → opening g m ≡ 0
opening-empty g m holds = grind (arith)

opening-weighs : (g : Geometry) (s : State) (weight : WordName → ℕ → ℕ) → IsOpening g (opening g) s → IsHolderWeight weight → words_sum g weight s.word ≡ 0
opening-weighs g s weight o h = holders-none g weight s.word h (λ m holds. zero-word g (opening g) s m o (opening-empty g m holds))

-- the opening state is sound
pub opening-sound : (g : Geometry) (s : State) → IsChecked g → IsOpening g (opening g) s → IsSound g s
opening-sound g s checked o =
    let begun : IsBegun g 0 (opening g) s = record { checked = checked; opening = o; rule = opening-first g checked } in
    record {
      checked = checked;
      legal = first-history g (opening g) s (IsLegalEvent g) o;
      parts = (
        first_lists g 0,
        first-sound g 0 (opening g) s begun
            (first-kept g 0 (opening g) s begun
            (λ d has.
            let available : occurs d (indexes 0 (descriptor_count g - 0)) ≡ 1 = indexes-once 0 (descriptor_count g - 0) d (omega arith) (omega arith) in
            omega (arith, opening-weighs g s (word_keeps d) o (keeps-holder d), available))
            (λ heap class d credits has_heap has_class is. absurd (let null = zero-active in cc)))
            (first-chained g 0 (opening g) s begun (λ d below. let no : ⊥ = omega (arith, below) in absurd no))
            (first-framed g 0 (opening g) s begun
            (λ f has.
            let listed : occurs f (indexes 0 (g.frames - 0)) ≡ 1 = indexes-once 0 (g.frames - 0) f (omega arith) (omega arith) in
            let none = sum-none (descriptor_count g) (fills_frame g s (first_lists g 0) f) (λ d lt. first-fills g 0 (opening g) s f d begun (omega arith) lt) in
            omega (arith, listed, none)))
            (first-stocked g 0 (opening g) s begun (λ class. omega (arith, opening-weighs g s (word_stock class) o (stock-holder class)))),
      );
    }
