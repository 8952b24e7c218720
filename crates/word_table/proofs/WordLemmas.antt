-- A table as a function of the names.
use Rattle.std.proofs.Common.{ℕ, ◌≡◌, ◌≢◌, ◌<◌, List, length, slice_index, slice_set, arith, refl, ap, sym, ◌∙◌, inl, inr, ◌⊎◌}
use Rattle.std.proofs.lemmas.List.{get_or-set_same, get_or-set_other, ext_get_or}
use Rattle.std.proofs.lemmas.Bool.{cases_Bool, false≢true}
use Rattle.heap_geometry.specs.declared.geometry.Geometry.{Geometry}
use Rattle.word_table.specs.Counts.{word_count}
use Rattle.word_table.specs.Table.{Exists, exists, word_index, word_name}
use Rattle.word_table.specs.Words.{word_in, Writes}
use Rattle.word_table.specs.declared.name.WordName.{WordName}
use Rattle.word_table.proofs.NameLemmas.{exists-true, true-Exists}
use Rattle.word_table.proofs.TableLemmas.{word_index-within, word_index-one, word_name-Exists, word_index-word_name}

-- a heap has a name or hasn't
pub cases_Exists : (g : Geometry) (name : WordName) → Exists g name ⊎ (¬ Exists g name)
cases_Exists g name =
    elim (cases_Bool (exists g name)) [
      | inl passes ↦ inl (true-Exists g name passes)
      | inr fails ↦ inr (λ is. false≢true (sym fails ∙ exists-true g name is))
    ]

-- the word of a name that the heap has
pub word_in-there :
    (g : Geometry) (words : List ℕ) (name : WordName) → Exists g name → word_in g words name ≡ slice_index words (word_index g name)
unfolding word_in
word_in-there g words name is = rw (exists-true g name is) refl

-- the word of a name that the heap hasn't is 0
pub word_in-nowhere : (g : Geometry) (words : List ℕ) (name : WordName) → ¬ Exists g name → word_in g words name ≡ 0
unfolding word_in
word_in-nowhere g words name none =
    elim (cases_Bool (exists g name)) [
      | inl passes ↦ absurd (none (true-Exists g name passes))
      | inr fails ↦ rw fails refl
    ]

-- what stands at a name's place after a write there
written-here :
    (g : Geometry) (words : List ℕ) (name : WordName) (new : ℕ) → length words ≡ word_count g → Exists g name
    → word_in g (slice_set words (word_index g name) new) name ≡ new
written-here g words name new whole is =
    let within : word_index g name < length words = omega (arith, word_index-within g name is) in
    word_in-there g (slice_set words (word_index g name) new) name is
    ∙ get_or-set_same words (word_index g name) new 0 within

-- the word of another name stays after a write at a name's place
written-elsewhere :
    (g : Geometry) (words : List ℕ) (name other : WordName) (new : ℕ) → Exists g name → other ≢ name
    → word_in g (slice_set words (word_index g name) new) other ≡ word_in g words other
written-elsewhere g words name other new is differ =
    elim (cases_Exists g other) [
      | inl there ↦
          word_in-there g (slice_set words (word_index g name) new) other there
          ∙ (get_or-set_other words (word_index g name) (word_index g other) new 0
          (λ same. differ (word_index-one g other name there is same))
          ∙ sym (word_in-there g words other there))
      | inr nowhere ↦
          word_in-nowhere g (slice_set words (word_index g name) new) other nowhere
          ∙ sym (word_in-nowhere g words other nowhere)
    ]

-- a write at a name's place changes the word of that name alone
pub Writes-set :
    (g : Geometry) (words : List ℕ) (name : WordName) (new : ℕ) → length words ≡ word_count g → Exists g name
    → Writes (word_in g words) name new (word_in g (slice_set words (word_index g name) new))
Writes-set g words name new whole is =
    record { here = written-here g words name new whole is; elsewhere = λ other differ. written-elsewhere g words name other new is differ }

-- the word at a place is that of the name there
pub word_in-word_name :
    (g : Geometry) (words : List ℕ) (index : ℕ) → index < word_count g → word_in g words (word_name g index) ≡ slice_index words index
word_in-word_name g words index below =
    word_in-there g words (word_name g index) (word_name-Exists g index below)
    ∙ ap (slice_index words) (word_index-word_name g index below)

-- two tables with the same words at all names are one
pub one_table :
    (g : Geometry) (a b : List ℕ) → length a ≡ word_count g → length b ≡ word_count g
    → ((name : WordName) → Exists g name → word_in g a name ≡ word_in g b name) → a ≡ b
one_table g a b whole_a whole_b same =
    ext_get_or 0 a b (omega arith)
    (λ index within.
    let below : index < word_count g = omega arith in
    sym (word_in-word_name g a index below)
    ∙ (same (word_name g index) (word_name-Exists g index below) ∙ word_in-word_name g b index below))
