-- What every step keeps by its action and the errand after it alone, whatever else it does.
use Rattle.std.proofs.Common.{ℕ, Bool, ◌≡◌, ◌<◌, ◌++◌, ◌∷◌, [], ◌^◌, arith, sym, subst, inl, inr}
use Rattle.sound_state.proofs.Common.{Geometry, WordName, Writes, cases_name, Event, Found, Point, ErrandFields, IsErrand, IsChecked, settle_of, settle_errand, raised}
use Rattle.sound_state.proofs.Common.{counts_lost, State, Step, Moves, name_at, word_at, found_at, with_errands, IsFormed, IsOwnErrand}
use Rattle.sound_state.proofs.shared.BackedRecalls.{fits-own}
use Rattle.sound_state.proofs.shared.CallerLemmas.{each-caller}
use Rattle.sound_state.proofs.shared.WrittenWords.{writes-word}

-- each word is a word after a write of one
words-below :
    (words : WordName → ℕ) (n : WordName) (new : ℕ) (words' : WordName → ℕ) → Writes words n new words'
    → ((m : WordName) → words m < 2 ^ 64) → new < 2 ^ 64 → (m : WordName) → words' m < 2 ^ 64
words-below words n new words' w old below m =
    elim (cases_name m n) [
      | inl is ↦ subst (λ x. words' x < 2 ^ 64) (sym is) (subst (λ v. v < 2 ^ 64) (sym w.here) below)
      | inr differ ↦ subst (λ v. v < 2 ^ 64) (sym (w.elsewhere m differ)) (old m)
    ]

raised-below : (b : Bool) (n : ℕ) → n < 2 ^ 64 → raised b n < 2 ^ 64
raised-below b n most = grind (arith)

-- the errand after a step is still the caller's own
settled-own :
    (g : Geometry) (caller : ℕ) (e : ErrandFields) (x : Found) → IsOwnErrand g caller e → x.value < 2 ^ 64 → IsOwnErrand g caller (settle_of e x)
unfolding settle_of
settled-own g caller e x own word = record {
  number = own.number;
  geometry = own.geometry;
  rule = settle_errand e x own.rule word;
  lost = raised-below (counts_lost e.point x) e.lost own.lost;
}

-- the state after a step is formed
pub formed-after : (g : Geometry) (s : State) (caller : ℕ) (s' : State) → IsFormed g s → caller < g.callers → Step s caller s' → IsFormed g s'
formed-after g s caller s' old has step =
    let e = s.errand caller in
    let own = old.errands caller has in
    let checked : IsChecked g = subst IsChecked own.geometry own.rule.geometry in
    let word : word_at s caller < 2 ^ 64 = old.words (name_at s caller) in
    record {
      words =
          words-below s.word (name_at s caller) _ s'.word step.word old.words
          (writes-word g caller e.point (word_at s caller) checked (fits-own g caller e own) word);
      errands =
          each-caller g (IsOwnErrand g) s.errand caller _ s'.errand step.errand (settled-own g caller e (found_at s caller) own word) old.errands;
    }

-- so is one in which a caller has begun a call
pub formed-begun :
    (g : Geometry) (s : State) (caller : ℕ) (p : Point) (turns : ℕ) (errands' : ℕ → ErrandFields) → IsFormed g s → caller < g.callers
    → IsErrand (record (s.errand caller) { point = p; turns = turns }) → Moves s.errand caller (record (s.errand caller) { point = p; turns = turns }) errands'
    → IsFormed g (with_errands s errands')
formed-begun g s caller p turns errands' old has rule moves =
    let own = old.errands caller has in
    record {
      words = old.words;
      errands =
          each-caller g (IsOwnErrand g) s.errand caller _ errands' moves
          (record { number = own.number; geometry = own.geometry; rule = rule; lost = own.lost }) old.errands;
    }

-- one with an event more
pub formed-told :
    (g : Geometry) (s : State) (event : Event) → IsFormed g s → IsFormed g (record { word = s.word; errand = s.errand; history = s.history ++ event ∷ [] })
formed-told g s event old = record { words = old.words; errands = old.errands }

-- and one with the errands of a formed state and the words of the state after it
pub formed-between :
    (g : Geometry) (s s' : State) (words : WordName → ℕ) → IsFormed g s → IsFormed g s' → ((n : WordName) → s'.word n ≡ words n)
    → IsFormed g (record { word = words; errand = s.errand; history = s.history })
formed-between g s s' words old new same = record { words = λ n. subst (λ v. v < 2 ^ 64) (same n) (new.words n); errands = old.errands }
