-- How the steps of a call are counted against its tries.
use Rattle.std.proofs.Common.{ℕ, suc, Bool, true, false, ◌≡◌, ◌≢◌, ◌<◌, ◌≤◌, ◌+◌, ◌-◌, ◌^◌, inl, inr, List, refl, sym, ◌∙◌, subst, arith}
use Rattle.std.proofs.lemmas.Bool.{cases_Bool, true≢false}
use Rattle.heap_geometry.specs.declared.limits.TheConstants.{CALL_STEPS}
use Rattle.packed_words.specs.declared.widths.TheConstants.{TAG_BITS}
use Rattle.word_table.specs.declared.action.Found.{Found as Find}
use Rattle.pool_model.specs.declared.event.Event.{Event}
use Rattle.pool_model.specs.Histories.{Begins}
use Rattle.errand_steps.specs.declared.next.Next.{Next}
use Rattle.errand_steps.specs.declared.reply.Progress.{Progress}
use Rattle.errand_steps.specs.declared.reply.Progress.TheVariants.{Idle, More, Lost, Cleared, Done}
use Rattle.errand_steps.specs.declared.reply.Reply.{Reply}
use Rattle.errand_steps.specs.Begins.{IsBusy}
use Rattle.errand_steps.specs.Calls.{Call}
use Rattle.errand_steps.specs.Errands.{ErrandFields, settle_of, answer_of, counts_lost, counts_cleared, course_of, raised, told}
use Rattle.errand_steps.proofs.AnswerLemmas.{lost-told, cleared-told}
use Rattle.sound_laws.specs.bounds.StepsLeft.{steps_left}
use Rattle.sound_laws.proofs.bounds_lemmas.LeftMost.{left-most}
use Rattle.step_machine.specs.Moments.{IsMoment}
use Rattle.live_heap.specs.Heaps.{HeapFields}
use Rattle.live_heap.specs.declared.pass.Pass.{Pass}
use Rattle.live_heap.specs.Calls.{EndsInTime, IsCalling, IsInterrupted, IsTry, tries_of}
use Rattle.live_heap.specs.Going.{IsGoing}
use Rattle.live_heap.specs.Passes.{IsOf, IsOneStep, seen}
use Rattle.live_heap.proofs.Begun.{of-laid}
use Rattle.live_heap.proofs.Growing.{starts-on, starts-self}
use Rattle.live_heap.proofs.LawsKept.{moment-grows}
use Rattle.live_heap.proofs.CallsGrow.{settled-of, busy-after, calls-further, calls-go_on, calls-end}

-- a count of lost ones and one of cleared ones, before and after a step that adds so many to both together
pub record HasCounted (a b c d u : ℕ) : Type 0 where
  pub most : c + d ≤ a + b + u
  pub all : c < 2 ^ 64 - 1 → (a < 2 ^ 64 - 1) × (c + d ≡ a + b + u)

counted-none : (l c : Bool) (a b : ℕ) → l ≡ false → c ≡ false → HasCounted a b (raised l a) (raised c b) 0
counted-none l c a b x y = rw (x, y) (record { most = omega arith; all = λ below. (below, omega arith) })

counted-lost : (l c : Bool) (a b : ℕ) → l ≡ true → c ≡ false → HasCounted a b (raised l a) (raised c b) 1
counted-lost l c a b x y = rw (x, y) (record { most = omega arith; all = λ below. (omega (arith, below), omega (arith, below)) })

counted-cleared : (l c : Bool) (a b : ℕ) → b < 2 ^ TAG_BITS → l ≡ false → c ≡ true → HasCounted a b (raised l a) (raised c b) 1
counted-cleared l c a b few x y =
    rw (x, y) (record { most = omega arith; all = λ below. (below, omega (arith, few)) })

-- a step counts as so many tries
abbrev pub Counts : ErrandFields → ErrandFields → ℕ → Type 0
Counts e f u = HasCounted e.lost e.cleared f.lost f.cleared u

settled-none :
    (e : ErrandFields) (x : Find) → counts_lost e.point x ≡ false → counts_cleared e.point x ≡ false → Counts e (settle_of e x) 0
unfolding settle_of
settled-none e x l c = counted-none (counts_lost e.point x) (counts_cleared e.point x) e.lost e.cleared l c

settled-lost :
    (e : ErrandFields) (x : Find) → counts_lost e.point x ≡ true → counts_cleared e.point x ≡ false → Counts e (settle_of e x) 1
unfolding settle_of
settled-lost e x l c = counted-lost (counts_lost e.point x) (counts_cleared e.point x) e.lost e.cleared l c

settled-cleared :
    (e : ErrandFields) (x : Find) → e.cleared < 2 ^ TAG_BITS → counts_lost e.point x ≡ false → counts_cleared e.point x ≡ true
    → Counts e (settle_of e x) 1
unfolding settle_of
settled-cleared e x few l c = counted-cleared (counts_lost e.point x) (counts_cleared e.point x) e.lost e.cleared few l c

-- a busy caller's step answers something else than that there was none
told-not_idle : (n : Next) (lost cleared : Bool) → told n lost cleared ≢ Idle
told-not_idle n lost cleared is = grind (arith)

pub answer-not_idle : (e : ErrandFields) (x : Find) → answer_of e x ≢ Idle
unfolding answer_of
answer-not_idle e x is = told-not_idle (course_of e x) (counts_lost e.point x) (counts_cleared e.point x) is

pub never-idle : (e f : ErrandFields) (before after : List Event) → IsMoment e f before after Idle → ⊥
never-idle e f before after m = let s = settled-of e f before after Idle m in answer-not_idle e s.x (sym s.answers)

-- a step that goes on with nothing lost and nothing cleared, and one that lost or cleared
pub record GoesFurther (e f : ErrandFields) : Type 0 where
  pub busy : IsBusy f
  pub counts : Counts e f 0
  pub fewer : steps_left e.geometry f.point < steps_left e.geometry e.point

pub record GoesAgain (e f : ErrandFields) : Type 0 where
  pub busy : IsBusy f
  pub counts : Counts e f 1
  pub short : steps_left e.geometry f.point < CALL_STEPS

-- an answer that is the same as one which ends no call ends none
not-done : (a b : Progress) → a ≡ b → ((r : Reply) → b ≢ Done r) → (r : Reply) → a ≢ Done r
not-done a b is un r done = un r (sym is ∙ done)

pub more-undone : (r : Reply) → More ≢ Done r
more-undone r is = cc

pub lost-undone : (r : Reply) → Lost ≢ Done r
lost-undone r is = cc

pub cleared-undone : (r : Reply) → Cleared ≢ Done r
cleared-undone r is = cc

try-undone : (answer : Progress) → IsTry answer → (r : Reply) → answer ≢ Done r
try-undone answer (inl lost) = not-done answer Lost lost lost-undone
try-undone answer (inr cleared) = not-done answer Cleared cleared cleared-undone

module _ (e f : ErrandFields) (before after : List Event) where
  pub goes-further : IsMoment e f before after More → GoesFurther e f
  goes-further m =
      let s = settled-of e f before after More m in
      let busy = busy-after e f before after More s more-undone in
      let kept : counts_lost e.point s.x ≡ false =
      elim (cases_Bool (counts_lost e.point s.x)) [
        | inl lost ↦ let l : More ≡ Lost = s.answers ∙ (lost-told e s.x s.busy).1 (lost, busy) in absurd (cc)
        | inr other ↦ other
      ] in
      let left : counts_cleared e.point s.x ≡ false =
      elim (cases_Bool (counts_cleared e.point s.x)) [
        | inl cleared ↦ let l : More ≡ Cleared = s.answers ∙ (cleared-told e s.x s.busy).1 (cleared, busy) in absurd (cc)
        | inr other ↦ other
      ] in
      record {
        busy = subst IsBusy (sym s.settled) busy;
        counts = subst (λ d. Counts e d 0) (sym s.settled) (settled-none e s.x kept left);
        fewer =
            elim s.shorter [
              | inl lost ↦ absurd (true≢false (sym lost ∙ kept))
              | inr rest ↦ elim rest [ inl cleared ↦ absurd (true≢false (sym cleared ∙ left)) | inr less ↦ less ]
            ];
      }

  pub goes-lost : IsMoment e f before after Lost → GoesAgain e f
  goes-lost m =
      let s = settled-of e f before after Lost m in
      let l = (lost-told e s.x s.busy).0 (sym s.answers) in
      let left : counts_cleared e.point s.x ≡ false =
      elim (cases_Bool (counts_cleared e.point s.x)) [
        | inl cleared ↦ let c : Lost ≡ Cleared = s.answers ∙ (cleared-told e s.x s.busy).1 (cleared, l.1) in absurd (cc)
        | inr other ↦ other
      ] in
      record {
        busy = subst IsBusy (sym s.settled) l.1;
        counts = subst (λ d. Counts e d 1) (sym s.settled) (settled-lost e s.x l.0 left);
        short = s.short;
      }

  pub goes-cleared : IsMoment e f before after Cleared → GoesAgain e f
  goes-cleared m =
      let s = settled-of e f before after Cleared m in
      let c = (cleared-told e s.x s.busy).0 (sym s.answers) in
      let kept : counts_lost e.point s.x ≡ false =
      elim (cases_Bool (counts_lost e.point s.x)) [
        | inl lost ↦ let l : Cleared ≡ Lost = s.answers ∙ (lost-told e s.x s.busy).1 (lost, c.1) in absurd (cc)
        | inr other ↦ other
      ] in
      record {
        busy = subst IsBusy (sym s.settled) c.1;
        counts = subst (λ d. Counts e d 1) (sym s.settled) (settled-cleared e s.x s.cleared kept c.0);
        short = s.short;
      }

-- a pass has fewer steps left than any call may make
pub of-short : (h : HeapFields) (p : Pass) → IsOf h p → steps_left h.layout p.errand.point < CALL_STEPS
of-short h p of =
    let o = of.served.own_errand in
    subst (λ g. steps_left g p.errand.point < CALL_STEPS) o.geometry
    (left-most p.errand.geometry p.errand.caller p.errand.point o.rule.geometry o.rule.point)

pub going-first : (h : HeapFields) (p : Pass) (tries : ℕ) → IsOf h p → IsBusy p.errand → 0 < tries → IsGoing h p tries tries p
going-first h p tries of busy some =
    record {
      busy = busy;
      grows = starts-self (seen p);
      calls = λ first call made c. (made, c, omega (arith, of-short h p of), λ none. absurd (omega (arith, none, some)));
      most = omega arith;
      spent = λ below. refl;
    }

module _ (h : HeapFields) (p : Pass) (tries left : ℕ) (q r : Pass) (of : IsOf h q) (some : 0 < left) (i : IsGoing h p tries left q) where
  heap : q.errand.geometry ≡ h.layout
  heap = of-laid h q of

  -- what is seen behind the step begins with what was seen before the call's tries
  pub going-grows : (answer : Progress) → IsMoment q.errand r.errand (seen q) (seen r) answer → Begins (seen p) (seen r)
  going-grows answer m = starts-on (seen p) (seen q) (seen r) i.grows (moment-grows q.errand r.errand (seen q) (seen r) answer m)

  -- a step with nothing lost and nothing cleared leaves fewer steps
  pub further-less : IsMoment q.errand r.errand (seen q) (seen r) More → steps_left h.layout r.errand.point < steps_left h.layout q.errand.point
  further-less m =
      subst (λ g. steps_left g r.errand.point < steps_left g q.errand.point) heap (goes-further q.errand r.errand (seen q) (seen r) m).fewer

  pub going-further : IsMoment q.errand r.errand (seen q) (seen r) More → IsOneStep q r → IsGoing h p tries left r
  going-further m access =
      let goes = goes-further q.errand r.errand (seen q) (seen r) m in
      let less = further-less m in
      record {
        busy = goes.busy;
        grows = going-grows More m;
        calls = λ first call made c.
            let g = i.calls first call made c in (
              suc g.0,
              calls-go_on first call g.0 q r More m access g.1 more-undone,
              omega (arith, g.2, less),
              λ none. absurd (omega (arith, none, some)),
            );
        most = omega (arith, i.most, goes.counts.most);
        spent = λ below. let n = goes.counts.all below in omega (arith, n.1, i.spent n.0);
      }

  -- behind a step that lost or cleared fewer steps are left than any call may make
  pub again-short : GoesAgain q.errand r.errand → steps_left h.layout r.errand.point < CALL_STEPS
  again-short goes = subst (λ g. steps_left g r.errand.point < CALL_STEPS) heap goes.short

  pub going-again :
      (answer : Progress) (rest : ℕ) → rest + 1 ≡ left → IsMoment q.errand r.errand (seen q) (seen r) answer
      → IsOneStep q r → IsTry answer → GoesAgain q.errand r.errand → IsGoing h p tries rest r
  going-again answer rest one m access tried goes =
      let short = again-short goes in
      let more : r.errand.lost < 2 ^ 64 - 1 → tries_of r.errand + rest ≡ tries_of p.errand + tries =
      λ below. let n = goes.counts.all below in omega (arith, n.1, i.spent n.0, one) in
      record {
        busy = goes.busy;
        grows = going-grows answer m;
        calls = λ first call made c.
            let g = i.calls first call made c in
            let on = calls-further first call g.0 q r answer m access g.1 (try-undone answer tried) in (
              suc g.0,
              on.0,
              omega (arith, g.2, short, one),
              λ none.
                  record {
                    steps = g.0;
                    calling = on.0;
                    few = omega (arith, g.2, one, none);
                    last_tried = subst IsTry (sym on.2) tried;
                    in_time = subst (λ (e : ErrandFields). tries_of e < tries_of p.errand + tries) (sym on.1) (omega (arith, i.most, some));
                    spent = λ below. omega (arith, none, more below);
                  },
            );
        most = omega (arith, i.most, goes.counts.most, one);
        spent = more;
      }

  -- the step that ends the call ends it in time
  pub going-ends :
      (a : Reply) → IsMoment q.errand r.errand (seen q) (seen r) (Done a) → IsOneStep q r
      → (first : Pass) (call : Call) (made : ℕ) → IsCalling first call made p → EndsInTime first call made p tries a r
  going-ends a m access first call made c =
      let g = i.calls first call made c in
      let ends = calls-end first call g.0 q r (Done a) m access g.1 a refl in
      let before : tries_of q.errand < tries_of p.errand + tries = omega (arith, i.most, some) in
      record {
        steps = g.0;
        called = ends.0;
        few = omega (arith, g.2, some);
        in_time = subst (λ (e : ErrandFields). tries_of e < tries_of p.errand + tries) (sym ends.1) before;
      }

-- a call under way with no tries left is interrupted
pub going-over :
    (h : HeapFields) (p : Pass) (tries left : ℕ) (q : Pass) → left ≡ 0 → IsGoing h p tries left q → (first : Pass) (call : Call) (made : ℕ)
    → IsCalling first call made p → IsInterrupted first call made p tries q
going-over h p tries left q none i first call made c =
    (i.calls first call made c).3 none
