-- The words and the errands of a machine that has made no step, one after the other.
use Rattle.std.proofs.Common.{ℕ, ◌≡◌, ◌<◌, ◌+◌, refl, arith, ap, sym, ◌∙◌, subst, List, [], ◌∷◌, ◌++◌, length, slice_index_or, Option, Some, None, inl, inr, ⊎_elim}
use Rattle.std.specs.Prelude.{IfSome, if◌then◌else◌}
use Rattle.heap_geometry.specs.declared.limits.TheConstants.{CLASSES}
use Rattle.std.proofs.Math.ListN.{get_or-append}
use Rattle.std.proofs.Math.Seq.{get_or-append_seam}
use Rattle.std.proofs.lemmas.Bool.{cases_eq, cases_Bool, cond-true}
use Rattle.std.proofs.Common.{length-append}
use Rattle.heap_geometry.specs.declared.geometry.Geometry.{Geometry}
use Rattle.heap_geometry.specs.Geometry.{IsChecked}
use Rattle.word_table.specs.Counts.{descriptor_count, word_count}
use Rattle.word_table.specs.Table.{Exists, exists, word_index, word_name}
use Rattle.word_table.specs.Words.{word_in}
use Rattle.word_table.proofs.TableLemmas.{word_index-within, word_name-word_index}
use Rattle.word_table.proofs.NameLemmas.{true-Exists}
use Rattle.word_table.proofs.WordLemmas.{word_in-there}
use Rattle.word_table.specs.declared.name.WordName.{WordName}
use Rattle.errand_steps.specs.Errands.{ErrandFields, open_errand}
use Rattle.errand_steps.specs.Openings.{opening, installed, IsOpening}
use Rattle.errand_steps.specs.Steps.{State}
use Rattle.sound_laws.specs.bounds.Wins.{no_wins}
use Rattle.step_machine.specs.Cores.{IsCore, IsFirst, IsReached, no_errand, state_of}
use Rattle.step_machine.specs.Firsts.{AreErrands, IsTable}
use Rattle.step_machine.specs.Openings.{first_words}

-- what holds of each element of a list and of one more holds of all of them in the longer list
each-push :
    {X : Type 0} (P : ℕ → X → Type 0) (xs : List X) (x d : X) (count : ℕ) → length xs ≡ count
    → ((k : ℕ) → k < count → P k (slice_index_or xs k d)) → P count x → (k : ℕ) → k < count + 1
    → P k (slice_index_or (xs ++ x ∷ []) k d)
each-push P xs x d count all each last k below =
    ⊎_elim
    (λ same.
    let Q : ℕ → Type 0 = λ j. P j (slice_index_or (xs ++ x ∷ []) j d) in
    let there : slice_index_or (xs ++ x ∷ []) count d ≡ x =
    ap (λ j. slice_index_or (xs ++ x ∷ []) j d) (sym all) ∙ get_or-append_seam xs x [] d in
    subst Q (sym same) (subst (P count) (sym there) last))
    (λ differ.
    let before : k < count = omega (arith, below, differ) in
    subst (P k) (sym (get_or-append xs (x ∷ []) d k (omega (arith, before, all)))) (each k before))
    (cases_eq k count)

pub table-push :
    (g : Geometry) (first : WordName → ℕ) (count : ℕ) (words : List ℕ) (word : ℕ) → IsTable g first count words
    → word ≡ first (word_name g count) → IsTable g first (count + 1) (words ++ word ∷ [])
table-push g first count words word table is =
    record {
      all = length-append words (word ∷ []) ∙ ap (λ n. n + 1) table.all;
      each = each-push (λ k w. w ≡ first (word_name g k)) words word 0 count table.all table.each is;
    }

pub errands-push :
    (g : Geometry) (count : ℕ) (errands : List ErrandFields) (e : ErrandFields) → AreErrands g count errands
    → e ≡ open_errand count g → AreErrands g (count + 1) (errands ++ e ∷ [])
errands-push g count errands e are is =
    record {
      all = length-append errands (e ∷ []) ∙ ap (λ n. n + 1) are.all;
      each = each-push (λ k x. x ≡ open_errand k g) errands e no_errand count are.all are.each is;
    }

-- a whole table has each word under its name
pub table-words :
    (g : Geometry) (first : WordName → ℕ) (words : List ℕ) → IsTable g first (word_count g) words → (name : WordName)
    → Exists g name → word_in g words name ≡ first name
table-words g first words table name is =
    word_in-there g words name is
    ∙ (table.each (word_index g name) (word_index-within g name is) ∙ ap first (word_name-word_index g name is))

-- the words of a whole table are those at opening
table-opening :
    (g : Geometry) (first : WordName → ℕ) (words : List ℕ) (name : WordName) → IsTable g first (word_count g) words
    → word_in g words name ≡ (if exists g name then first name else 0)
unfolding word_in
table-opening g first words name table =
    elim (cases_Bool (exists g name)) [
      | inl is ↦
          table-words g first words table name (true-Exists g name is) ∙ sym (cond-true {A = ℕ} (exists g name) (first name) 0 is)
      | inr isnt ↦ rw isnt refl
    ]

-- a machine of a whole table and idle errands is one before its first step
pub core-opening :
    (g : Geometry) (first : WordName → ℕ) (words : List ℕ) (errands : List ErrandFields) (steps : ℕ)
    → IsTable g first (word_count g) words → AreErrands g g.callers errands
    → IsOpening g first (state_of (record { geometry = g; words = words; errands = errands; events = []; steps = steps }))
core-opening g first words errands steps table are = record {
  word = λ name. table-opening g first words name table;
  errand = are.each;
  history = refl;
}

-- the run of a machine that has made no step
run-none : (g : Geometry) (s : State) → IsChecked g → IsFirst g s → IsReached g s 0
run-none g s checked opens = record {
  checked = checked;
  first = s;
  opens = opens;
  moves = [];
  wins = no_wins;
  reaches = (refl, refl);
  steps = refl;
}

-- the rule of a machine that has made no step
pub core-opened :
    (g : Geometry) (installed : Option ℕ) (words : List ℕ) (errands : List ErrandFields) → IsChecked g
    → IfSome installed (λ class. class < CLASSES) → IsTable g (first_words g installed) (word_count g) words → AreErrands g g.callers errands
    → IsCore (record { geometry = g; words = words; errands = errands; events = []; steps = 0 })
core-opened g None words errands checked has table are = record {
  words = table.all;
  errands = are.all;
  run = run-none g _ checked (inl (core-opening g (opening g) words errands 0 table are));
}
core-opened g (Some class) words errands checked has table are = record {
  words = table.all;
  errands = are.all;
  run = run-none g _ checked (inr (class, has, core-opening g (installed g class) words errands 0 table are));
}

-- a heap has descriptors
pub descriptors-some : (g : Geometry) → IsChecked g → 0 < descriptor_count g
unfolding descriptor_count
descriptors-some g checked = omega (arith, checked.frames)
