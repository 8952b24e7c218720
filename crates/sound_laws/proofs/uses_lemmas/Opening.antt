-- Before the first step nobody uses any piece.
use Rattle.std.proofs.Common.{ℕ, ◌≡◌, ◌<◌, ◌+◌, ◌-◌, ◌==◌, refl, arith, sym, ap, subst, inl, inr, ◌∙◌, ne_eqb}
use Rattle.std.specs.Int.{bit_at}
use Rattle.std.proofs.lemmas.Bool.{cases_lt, cond-true, cond-false}
use Rattle.std.proofs.lemmas.Nat.Bits.{bit_at_above}
use Rattle.heap_geometry.specs.declared.geometry.Geometry.{Geometry}
use Rattle.heap_geometry.specs.Geometry.{IsChecked}
use Rattle.packed_words.specs.Head.{head_of}
use Rattle.word_table.specs.Occurs.{occurs}
use Rattle.word_table.specs.Table.{Exists, exists}
use Rattle.word_table.specs.declared.name.WordName.{WordName}
use Rattle.word_table.specs.declared.name.WordName.TheVariants as name
use Rattle.word_table.proofs.NameLemmas.{exists-true}
use Rattle.step_parts.specs.stack.Stacks.{Stacked, next_in}
use Rattle.step_parts.specs.declared.stack.point.Pile.TheVariants.{Frames}
use Rattle.errand_steps.specs.Openings.{IsOpening, opening}
use Rattle.errand_steps.specs.Steps.{State}
use Rattle.sound_state.proofs.beginnings.OpeningLists.{indexes, indexes-once, indexes-stacked, top_from}
use Rattle.sound_laws.specs.uses.Pieces.{piece_count}
use Rattle.sound_laws.specs.uses.Uses.{IsUnused}

opening-word : (g : Geometry) (s : State) (n : WordName) → IsOpening g (opening g) s → Exists g n → s.word n ≡ opening g n
opening-word g s n opens there = opens.word n ∙ cond-true {A = ℕ} (exists g n) (opening g n) 0 (exists-true g n there)

one-head : (head_of 1).top ≡ 1
unfolding head_of
one-head = refl

pub unused-first : (g : Geometry) (s : State) (k : ℕ) → IsChecked g → IsOpening g (opening g) s → k < piece_count g → IsUnused g s.word k
unused-first g s k checked opens has =
    elim (cases_lt k g.frames) [
      | inl frame ↦
          let some : 0 < g.frames = omega (arith, frame) in
          let top : (head_of (s.word name.FrameHead)).top ≡ top_from 0 g.frames =
          ap (λ w. (head_of w).top) (opening-word g s name.FrameHead opens tt) ∙ one-head
          ∙ sym (cond-false {A = ℕ} (0 == g.frames) 0 (0 + 1) (ne_eqb 0 g.frames (λ e. omega (arith, e, some)))) in
          let stacked : Stacked (next_in s.word Frames) (top_from 0 g.frames) (indexes 0 g.frames) =
          indexes-stacked (next_in s.word Frames) 0 g.frames g.frames (omega arith) (λ i lt. opening-word g s (name.FrameNext i) opens lt) in
          let once : 0 < occurs k (indexes 0 g.frames) = omega (arith, indexes-once 0 g.frames k (omega arith) (omega (arith, frame))) in
          inl (frame, (indexes 0 g.frames, subst (λ t. Stacked (next_in s.word Frames) t (indexes 0 g.frames)) (sym top) stacked, once))
      | inr unit ↦
          let word : s.word name.Units ≡ 0 = opening-word g s name.Units opens tt in
          inr (unit, ap (λ w. bit_at w (k - g.frames)) word ∙ bit_at_above 0 0 (k - g.frames) (omega arith) (omega arith))
    ]
