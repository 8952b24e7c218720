-- A step keeps the bound on what callers lose: a win makes at most one pair of each other caller dirty, and a lost exchange uses one up.
use Rattle.std.proofs.Common.{ℕ, true, false, ◌≡◌, ◌≢◌, ◌<◌, ◌≤◌, ◌+◌, ◌-◌, ◌*◌, List, length, refl, arith, ap, sym, subst, inl, inr, ◌∙◌, ◌⊎◌, Option, None}
use Rattle.std.proofs.Common.{option_to_list, Some}
use Rattle.std.proofs.lemmas.Bool.{cases_Bool}
use Rattle.sound_state.proofs.Common.{Geometry, Found, WordName, word_count, Exists, word_name, Point, settle_of, raised, counts_lost, plan_point_of, State, Step}
use Rattle.sound_state.proofs.Common.{action_at, name_at, word_at, found_at, callers_sum, one_if, Action, word_index, word_index-within, word_name-word_index}
use Rattle.sound_state.proofs.Common.{word_index-word_name, counts_won, is_lost_exchange}
use Rattle.sound_laws.specs.bounds.Contention.{IsExpected, IsNoted, IsContended, is_against, dirty_since, is_dirty, dirty_on, dirty_pairs, lost_of}
use Rattle.sound_laws.specs.bounds.Expectations.{expects_of}
use Rattle.sound_laws.specs.bounds.Wins.{Win, Wins, note_at, win_at, win_list_after, is_self_exchange, wins_after}
use Rattle.sound_state.proofs.shared.StepLemmas.{raised-most}
use Rattle.sound_state.proofs.shared.TurnEffects.{one_if-most}
use Rattle.sound_state.proofs.shared.SumLemmas.{sum-most-but, sum-same, sum-change, callers-moved}
use Rattle.sound_laws.proofs.bounds_lemmas.DirtyLemmas.{dirty-same, clean-now}
use Rattle.sound_laws.proofs.bounds_lemmas.ExpectLemmas.{some-all}
use Rattle.sound_laws.proofs.bounds_lemmas.StepWins.{list-stays, list-longer, no-count, no-won, against-own, against-apart, noted-others, noted-apart, noted-own, note-seen}
use Rattle.sound_laws.proofs.bounds_lemmas.StepWins.{note-lost, note-confirmed, confirms_at, fails_at, loses_at, wins_at}
use Rattle.sound_laws.proofs.bounds_lemmas.WinDefs.{LosesOn}

-- a change that is won is no lost exchange, and no exchange of a number for itself
won-new : (a : Action) (x : Found) → counts_won a x ≡ true → (is_lost_exchange a x ≡ false) × (is_self_exchange a ≡ false)
won-new a x won = grind (arith, won)

-- a change that is won doesn't count as lost
won-not-lost : (p : Point) (x : Found) → counts_won (plan_point_of p) x ≡ true → counts_lost p x ≡ false
unfolding plan_point_of
won-not-lost p x won = grind (arith, won)

-- what counts as lost is a lost exchange, or a load
lost-cases :
    (p : Point) (x : Found) → counts_lost p x ≡ true
    → (is_lost_exchange (plan_point_of p) x ≡ true) ⊎ ((is_lost_exchange (plan_point_of p) x ≡ false) × (is_self_exchange (plan_point_of p) ≡ false))
unfolding plan_point_of
lost-cases p x lost = grind (arith, lost)

-- a step of a caller, where all is noted rightly before it
module _ (g : Geometry) (s : State) (caller : ℕ) (w : Wins) (old : IsNoted g s w) where
  -- the step leaves the pairs of callers with other words than its own as dirty as they were
  dirty-apart : (i : ℕ) (m : WordName) → m ≢ name_at s caller → is_dirty (wins_after s caller w) i m ≡ is_dirty w i m
  dirty-apart i m differ =
      ap (dirty_since (win_list_after s caller w.list) i m) (noted-apart s caller w i m differ)
      ∙ dirty-same w.list (option_to_list (win_at s caller)) i m (w.noted i m) (old.past i m)
      (no-count (is_against i m) s caller (against-apart s caller i m differ))

  -- a step that wins nothing leaves other callers' pairs as dirty as they were
  dirty-others : wins_at s caller ≡ false → (i : ℕ) (m : WordName) → i ≢ caller → is_dirty (wins_after s caller w) i m ≡ is_dirty w i m
  dirty-others none i m other =
      ap (dirty_since (win_list_after s caller w.list) i m) (noted-others s caller w i m other)
      ∙ dirty-same w.list (option_to_list (win_at s caller)) i m (w.noted i m) (old.past i m) (no-won (is_against i m) s caller none)

  -- the caller's own pair with its word is as dirty as by its note after the step
  own-noted :
      (o : Option ℕ) → note_at s caller (length (win_list_after s caller w.list)) (w.noted caller (name_at s caller)) ≡ o
      → is_dirty (wins_after s caller w) caller (name_at s caller) ≡ dirty_since (win_list_after s caller w.list) caller (name_at s caller) o
  own-noted o is = ap (dirty_since (win_list_after s caller w.list) caller (name_at s caller)) (noted-own s caller w (name_at s caller) refl ∙ is)

  -- the caller's own pair is clean after a lost exchange, and where the step saw or changed the word
  own-lost : fails_at s caller ≡ true → is_dirty (wins_after s caller w) caller (name_at s caller) ≡ false
  own-lost lost = own-noted None (note-lost s caller _ _ lost)

  own-seen : fails_at s caller ≡ false → confirms_at s caller ≡ false → is_dirty (wins_after s caller w) caller (name_at s caller) ≡ false
  own-seen kept new =
      own-noted (Some (length (win_list_after s caller w.list))) (note-seen s caller _ _ kept new)
      ∙ clean-now (win_list_after s caller w.list) caller (name_at s caller)

  -- the caller's own pair is as dirty as it was after an exchange of a number for itself that isn't lost
  own-confirmed :
      fails_at s caller ≡ false → confirms_at s caller ≡ true
      → is_dirty (wins_after s caller w) caller (name_at s caller) ≡ is_dirty w caller (name_at s caller)
  own-confirmed kept same =
      let m = name_at s caller in
      own-noted (w.noted caller m) (note-confirmed s caller _ _ kept same)
      ∙ dirty-same w.list (option_to_list (win_at s caller)) caller m (w.noted caller m) (old.past caller m)
      (no-count (is_against caller m) s caller (against-own s caller m))

  -- the caller's own pair with its word is no more dirty than it was
  own-most : one_if (is_dirty (wins_after s caller w) caller (name_at s caller)) ≤ one_if (is_dirty w caller (name_at s caller))
  own-most =
      elim (cases_Bool (fails_at s caller)) [
        | inl lost ↦ omega (arith, ap one_if (own-lost lost))
        | inr kept ↦
            elim (cases_Bool (confirms_at s caller)) [
              | inl same ↦ omega (arith, ap one_if (own-confirmed kept same))
              | inr new ↦ omega (arith, ap one_if (own-seen kept new))
            ]
      ]

  -- a step that counts as lost found its caller's own pair dirty, and leaves it clean
  pub was-dirty :
      caller < g.callers → LosesOn (s.errand caller).point (word_at s caller) → loses_at s caller ≡ true → is_dirty w caller (name_at s caller) ≡ true
  was-dirty has loses lost =
      let (e, h, is) =
      some-all (IsExpected s w caller) (λ e. (e.word ≡ name_at s caller) × (word_at s caller ≢ e.value)) (expects_of (s.errand caller).point)
      (old.expected caller has) (loses lost) in
      elim h.so [
        | inl same ↦ absurd (is.1 (sym (ap s.word is.0) ∙ same))
        | inr dirty ↦ subst (λ m. is_dirty w caller m ≡ true) is.0 dirty
      ]

  now-clean : loses_at s caller ≡ true → is_dirty (wins_after s caller w) caller (name_at s caller) ≡ false
  now-clean lost =
      elim (lost-cases (s.errand caller).point (found_at s caller) lost) [ inl fails ↦ own-lost fails | inr seen ↦ own-seen seen.0 seen.1 ]

  -- after a win no more pairs are dirty on its word than there are other callers
  on-won : caller < g.callers → wins_at s caller ≡ true → dirty_on g (wins_after s caller w) (name_at s caller) + 1 ≤ g.callers
  on-won has won =
      let new = won-new (action_at s caller) (found_at s caller) won in
      omega (
        arith,
        sum-most-but g.callers (λ i. one_if (is_dirty (wins_after s caller w) i (name_at s caller))) 1 caller has (ap one_if (own-seen new.0 new.1))
            (λ i lt. one_if-most (is_dirty (wins_after s caller w) i (name_at s caller))),
      )

  -- a step that wins nothing changes at most the caller's own pair on its word
  on-none :
      caller < g.callers → wins_at s caller ≡ false
      → dirty_on g (wins_after s caller w) (name_at s caller) + one_if (is_dirty w caller (name_at s caller))
      ≡ dirty_on g w (name_at s caller) + one_if (is_dirty (wins_after s caller w) caller (name_at s caller))
  on-none has none =
      sum-change g.callers (λ i. one_if (is_dirty w i (name_at s caller))) (λ i. one_if (is_dirty (wins_after s caller w) i (name_at s caller))) caller has
      (λ i lt other. ap one_if (dirty-others none i (name_at s caller) other))

  -- on every other word than the step's all pairs stay
  on-apart : (m : WordName) → m ≢ name_at s caller → dirty_on g (wins_after s caller w) m ≡ dirty_on g w m
  on-apart m differ =
      sum-same g.callers (λ i. one_if (is_dirty w i m)) (λ i. one_if (is_dirty (wins_after s caller w) i m)) (λ i lt. ap one_if (dirty-apart i m differ))

  -- all dirty pairs change in the step as those on its word do
  pairs-changed :
      Exists g (name_at s caller)
      → dirty_pairs g (wins_after s caller w) + dirty_on g w (name_at s caller) ≡ dirty_pairs g w + dirty_on g (wins_after s caller w) (name_at s caller)
  pairs-changed exists =
      let n = name_at s caller in
      let changed =
      sum-change (word_count g) (λ k. dirty_on g w (word_name g k)) (λ k. dirty_on g (wins_after s caller w) (word_name g k)) (word_index g n)
      (word_index-within g n exists) (λ k lt ne. on-apart (word_name g k) (λ q. ne (sym (word_index-word_name g k lt) ∙ ap (word_index g) q))) in
      subst (λ m. dirty_pairs g (wins_after s caller w) + dirty_on g w m ≡ dirty_pairs g w + dirty_on g (wins_after s caller w) m)
      (word_name-word_index g n exists) changed

  -- a win adds to the dirty pairs at most one of each other caller, and what counts as lost takes one off
  pub pairs-after :
      caller < g.callers → Exists g (name_at s caller) → LosesOn (s.errand caller).point (word_at s caller)
      → dirty_pairs g (wins_after s caller w) + one_if (loses_at s caller) ≤ dirty_pairs g w + (g.callers - 1) * one_if (wins_at s caller)
  pairs-after has exists loses =
      let pairs = pairs-changed exists in
      elim (cases_Bool (wins_at s caller)) [
        | inl won ↦
            let product : (g.callers - 1) * one_if (wins_at s caller) ≡ g.callers - 1 = rw won (omega arith) in
            omega (arith, pairs, product, on-won has won, ap one_if (won-not-lost (s.errand caller).point (found_at s caller) won))
        | inr none ↦
            let own = on-none has none in
            elim (cases_Bool (loses_at s caller)) [
              | inl lost ↦ omega (arith, pairs, own, ap one_if lost, ap one_if (was-dirty has loses lost), ap one_if (now-clean lost))
              | inr kept ↦ omega (arith, pairs, own, ap one_if kept, own-most)
            ]
      ]

-- what all callers lost changes in a step as its caller's count does
losses-after :
    (g : Geometry) (s : State) (caller : ℕ) (s' : State) → caller < g.callers → Step s caller s'
    → callers_sum g lost_of s'.errand + (s.errand caller).lost ≡ callers_sum g lost_of s.errand + raised (loses_at s caller) (s.errand caller).lost
unfolding settle_of
losses-after g s caller s' has step = callers-moved g lost_of s.errand caller (settle_of (s.errand caller) (found_at s caller)) s'.errand has step.errand

-- the list of wins is longer after a step by what its caller wins
list-length : (s : State) (caller : ℕ) (list : List Win) → length (win_list_after s caller list) ≡ length list + one_if (wins_at s caller)
list-length s caller list =
    elim (cases_Bool (wins_at s caller)) [
      | inl won ↦ omega (arith, list-longer s caller list won, ap one_if won)
      | inr none ↦ omega (arith, ap length (list-stays s caller list none), ap one_if none)
    ]

times-both : (k m n : ℕ) → k * (m + n) ≡ k * m + k * n
times-both k m n = omega arith

-- a step keeps what is lost within what is won
pub step-contended :
    (g : Geometry) (s : State) (caller : ℕ) (s' : State) (w : Wins) → caller < g.callers → Exists g (name_at s caller) → Step s caller s'
    → LosesOn (s.errand caller).point (word_at s caller) → IsNoted g s w → IsContended g s w → IsContended g s' (wins_after s caller w)
step-contended g s caller s' w has exists step loses noted old =
    let longer =
    ap (λ n. (g.callers - 1) * n) (list-length s caller w.list) ∙ times-both (g.callers - 1) (length w.list) (one_if (wins_at s caller)) in
    let more = raised-most (loses_at s caller) (s.errand caller).lost in
    record { most = omega (arith, old.most, longer, pairs-after g s caller w noted has exists loses, losses-after g s caller s' has step, more) }
