-- Before the first step nothing is won.
use Rattle.std.proofs.Common.{ℕ, ◌≡◌, ◌<◌, refl, arith, ap, sym, subst, All, IsTrue, true≢false}
use Rattle.std.proofs.lemmas.List.Elements.{All-nil}
use Rattle.sound_state.proofs.Common.{Geometry, WordName, word_count, word_name, State, turn_stage_of, IsOpening, is_seeking}
use Rattle.sound_laws.specs.bounds.Contention.{IsExpected, dirty_on, dirty_pairs, lost_of}
use Rattle.sound_laws.specs.bounds.Expectations.{expects_of}
use Rattle.sound_laws.specs.bounds.Wins.{no_wins}
use Rattle.sound_laws.specs.bounds.Won.{IsWon}
use Rattle.sound_state.proofs.shared.SumLemmas.{sum-none, callers-none}

-- no pair is dirty where nothing is won or noted
none-dirty : (g : Geometry) → dirty_pairs g no_wins ≡ 0
none-dirty g = sum-none (word_count g) (λ k. dirty_on g no_wins (word_name g k)) (λ k lt. sum-none g.callers _ (λ caller has. refl))

pub first-won : (g : Geometry) (first : WordName → ℕ) (s : State) → IsOpening g first s → IsWon g s no_wins
unfolding expects_of
first-won g first s opens = record {
  noted = record {
    callers = All-nil (λ x. x.caller < g.callers);
    won = λ caller has. ap (λ e. e.won) (opens.errand caller has);
    past = λ caller word wins is. absurd (cc);
    expected = λ caller has. subst (λ e. All (IsExpected s no_wins caller) (expects_of e.point)) (sym (opens.errand caller has)) (All-nil (IsExpected s no_wins caller));
  };
  contended = record { most = omega (arith, none-dirty g, callers-none g lost_of s.errand (λ caller has. ap lost_of (opens.errand caller has))) };
  installed = record {
    own = λ caller has. rw (opens.errand caller has) (omega arith);
    turns = λ caller has. rw (opens.errand caller has) (omega arith);
    found = λ caller has seeks. absurd (true≢false (sym (subst (λ e. IsTrue (is_seeking (turn_stage_of e.point))) (opens.errand caller has) seeks)));
    since = λ caller wins has is. absurd (cc);
  };
}
