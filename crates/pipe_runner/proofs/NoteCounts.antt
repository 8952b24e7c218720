-- How many notes of each sender were popped, with one more.
use Rattle.std.proofs.Common.{ℕ, ◌≡◌, ◌≢◌, ◌+◌, ◌++◌, List, [], ◌∷◌, length, refl, sym, ap, ◌∙◌, inl, inr, eq-eqb}
use Rattle.std.proofs.lemmas.Bool.{cases_eq}
use Rattle.std.proofs.lemmas.List.{length-append}
use Rattle.block_pipe.specs.declared.note.Note.{Note}
use Rattle.block_pipe.specs.Notes.{of_sender}
use Rattle.block_pipe.proofs.NoteMoves.{of-append, of-other}

of-one : (k : ℕ) (note : Note) → note.sender ≡ k → length (of_sender k (note ∷ [])) ≡ 1
of-one k note same = rw (eq-eqb note.sender k same) refl

pub popped-more :
    (popped now : List Note) (note : Note) (s : ℕ) (counts counts_now : ℕ → ℕ) (k : ℕ) → now ≡ popped ++ note ∷ [] → s ≡ note.sender
    → length (of_sender k popped) ≡ counts k → counts_now s ≡ counts s + 1 → ((j : ℕ) → j ≢ s → counts_now j ≡ counts j)
    → length (of_sender k now) ≡ counts_now k
popped-more popped now note s counts counts_now k grows sender had here others =
    elim (cases_eq k s) [
      | inl same ↦
          ap (λ (l : List Note). length (of_sender k l)) grows ∙ ap (λ (l : List Note). length l) (of-append k popped (note ∷ []))
          ∙ length-append (of_sender k popped) (of_sender k (note ∷ []))
          ∙ ap (λ (n : ℕ). length (of_sender k popped) + n) (of-one k note (sym sender ∙ sym same)) ∙ ap (λ (n : ℕ). n + 1) had
          ∙ ap (λ (j : ℕ). counts j + 1) same ∙ sym here ∙ ap counts_now (sym same)
      | inr other ↦
          ap (λ (l : List Note). length (of_sender k l)) grows
          ∙ ap (λ (l : List Note). length l) (of-other k popped note (λ is. other (sym is ∙ sym sender))) ∙ had ∙ sym (others k other)
    ]
