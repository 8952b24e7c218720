-- A step of a turn puts no descriptor back to the superblocks whose superblock is EMPTY, and makes none EMPTY.
use Rattle.std.proofs.Common.{ℕ, Some, true, false, ◌≡◌, ◌≢◌, ◌<◌, ◌≤◌, ◌+◌, ◌∷◌, refl, arith, ap, sym, subst, inl, inr, ◌∙◌, ◌==◌, if◌then◌else◌, Contains, IfSome}
use Rattle.std.proofs.Common.{true≢false, eq-eqb, ne_eqb, List}
use Rattle.std.proofs.Math.Path.{fun_ext}
use Rattle.std.proofs.lemmas.Bool.{cases_eq, cond-true, cond-false}
use Rattle.sound_state.proofs.Common.{Geometry, AnchorFields, anchor_of, anchor_word, info_of, Found, WordName, Site, SeatFields, IsSiteOf, Writes, cases_name, occurs}
use Rattle.sound_state.proofs.Common.{BlockPoint, Share, Partials, Stacked, next_in, DescPoint, is_empty, PartialPoint, Next, At, End, Retire, Pick, Unlist, Continuation}
use Rattle.sound_state.proofs.Common.{Point, Block, Desc, Partial, ErrandFields, settle_of, course_of, FitsPoint, pushed_by, next_of, plan_point_of, asked, State, Step}
use Rattle.sound_state.proofs.Common.{name_at, word_at, found_at, on_its_way, holds_of, Lists, recalls_of, IsSoundWithoutCounts, IsSoundWith, in_turn, anchor_for, info_for}
use Rattle.sound_state.proofs.Common.{info_or_zero, errand_away, errand_keeps, away_of, kept_among, errand_has, callers_sum, info_word, anchor_of-anchor_word, info-exact}
use Rattle.sound_state.proofs.Common.{info_at, new_anchor, Turn, point_after, after_turn, after_list, making, Stack, Large, Idle}
use Rattle.word_table.specs.declared.name.WordName.TheVariants as name
use Rattle.step_parts.specs.declared.superblock.point.BlockPoint.TheVariants as block
use Rattle.step_parts.proofs.stack_lemmas.StackLemmas.{stacked-one, stacked-off}
use Rattle.step_parts.specs.declared.hazard.point.DescPoint.TheVariants as desc
use Rattle.step_parts.specs.hazard.Retired.{without}
use Rattle.step_parts.specs.declared.partial.point.PartialPoint.TheVariants as partial
use Rattle.errand_steps.specs.declared.continuation.Continuation.TheVariants as continuation
use Rattle.errand_steps.specs.Errands.{list_after}
use Rattle.sound_state.proofs.shared.HasLemmas.{keeps-at, kept-itself, ways-one}
use Rattle.sound_state.proofs.descriptors.DescPushes.{occurs-without}
use Rattle.sound_state.proofs.descriptors.DescSteps.{first-of}
use Rattle.sound_laws.proofs.bounds_lemmas.TurnWords.{tells, writes_told, told-stays, next_ways, puts_out, point-ways, none-unlisted, pushes_desc, quiet-points, stack-told, large-told}
use Rattle.sound_state.proofs.pops.PopFacts.{popped-empty}
use Rattle.sound_state.proofs.pops.PopSteps.{pop-pops}
use Rattle.sound_state.proofs.quiet.QuietLinks.{written-at, retired-has}
use Rattle.sound_state.proofs.shared.ListFacts.{occurs-push}
use Rattle.sound_state.proofs.shared.PointLemmas.{fits-at, the-alloc, recalled-at}
use Rattle.sound_state.proofs.shared.StepLemmas.{found_from}
use Rattle.sound_state.proofs.shared.SumLemmas.{callers-moved, term-sum}
use Rattle.sound_state.proofs.shared.WrittenWords.{new_anchor-fits}
use Rattle.sound_state.proofs.shared.WordFacts.{site-info}
use Rattle.sound_state.proofs.shifts.ShiftSteps.{grant-shifts}
use Rattle.sound_state.proofs.shared.SuperblockEffects.{of-each}

-- a step makes no superblock EMPTY, puts none back that is, and leaves the classes of those that are out
pub record LeavesOut (g : Geometry) (s : State) (l : Lists) (s' : State) (l' : Lists) : Type 0 where
  pub empty : (d : ℕ) → is_empty (anchor_for s' d).state ≡ true → is_empty (anchor_for s d).state ≡ true
  pub class : (d : ℕ) → away_of g s' l' d ≡ 0 → (info_for s' d).class ≡ (info_for s d).class
  pub away : (d : ℕ) → is_empty (anchor_for s' d).state ≡ true → away_of g s l d ≤ away_of g s' l' d

-- how often d is away at an errand after a step, by what follows the step
abbrev pub away_after : ErrandFields → Next → ℕ → ℕ
away_after e n d =
    occurs d (list_after e.retired n) + kept_among on_its_way d (holds_of (point_after (after_turn e (after_list e n)))).kept

pub next-away :
    (e : ErrandFields) (n : Next) (d ways : ℕ) → ((seat : SeatFields) (k : ℕ) (o : Continuation) → n ≢ Unlist seat k o) → ways ≤ next_ways d n
    → occurs d e.retired + ways ≤ away_after e n d
next-away e (At q) d ways listed least = omega (arith, least)
next-away e (End r) d ways listed least = omega (arith, least)
next-away e (Turn seat words) d ways listed least = omega (arith, least)
next-away e (Retire seat k o) d ways listed least = omega (arith, least, occurs-push d k e.retired)
next-away e (Pick seat held o) d ways listed least = omega (arith, least)
next-away e (Unlist seat k o) d ways listed least = absurd (listed seat k o refl)

-- a caller has a descriptor away at least as often after a step of a turn that neither puts out nor pushes
errand-keeps :
    (g : Geometry) (caller : ℕ) (e : ErrandFields) (x : Found) (d : ℕ) → FitsPoint g caller e.point → puts_out e.point ≡ false
    → in_turn e.point ≡ true → ((seat : SeatFields) (k : ℕ) (o : Continuation) → next_of e.point x ≢ Unlist seat k o)
    → errand_away d e ≤ errand_away d (settle_of e x)
unfolding settle_of course_of
errand-keeps g caller e x d fits out turn listed =
    next-away e (next_of e.point x) d (kept_among on_its_way d (holds_of e.point).kept) listed (point-ways g caller e.point x d fits out turn)

-- no other descriptor than its own is on its way with a superblock in the making
making-elsewhere : (site : Site) (d : ℕ) → d ≢ site.desc → kept_among on_its_way d (making site).kept ≡ 0
making-elsewhere site d differ = grind (arith, differ)

-- a step of a turn, between sound states with lists before and after it
module _
    (g : Geometry) (s : State) (l : Lists) (caller : ℕ) (s' : State) (l' : Lists) (sound : IsSoundWithoutCounts g s) (old : IsSoundWith g s l)
    (new : IsSoundWith g s' l') (has : caller < g.callers) (turn : in_turn (s.errand caller).point ≡ true) (step : Step s caller s') where
  -- a caller has a descriptor away no less often after its step, where its point is known, puts none out and pushes none
  at-keeps :
      (p : Point) (d : ℕ) → (s.errand caller).point ≡ p → puts_out p ≡ false → pushes_desc p ≡ false
      → errand_away d (s.errand caller) ≤ errand_away d (settle_of (s.errand caller) (found_at s caller))
  at-keeps p d stands out other =
      let q = (s.errand caller).point in
      let fits = fits-at g s l caller q old has refl in
      errand-keeps g caller (s.errand caller) (found_at s caller) d fits (ap puts_out stands ∙ out) turn
      (λ seat k o. none-unlisted g caller q (found_at s caller) seat k o fits turn (ap pushes_desc stands ∙ other))

  -- the available descriptors are the same where their head and all next words are
  available-same :
      s'.word name.DescHead ≡ s.word name.DescHead → ((d : ℕ) → s'.word (name.Next d) ≡ s.word (name.Next d)) → l'.available ≡ l.available
  available-same head nexts =
      let same : next_in s'.word Partials ≡ next_in s.word Partials = fun_ext nexts in
      let stack : Stacked (next_in s.word Partials) (s.word name.DescHead) l'.available =
      subst (λ f. Stacked f (s.word name.DescHead) l'.available) same
      (subst (λ t. Stacked (next_in s'.word Partials) t l'.available) head new.listed.available) in
      stacked-one (next_in s.word Partials) (s.word name.DescHead) l'.available l.available stack old.listed.available

  -- a descriptor is away at least as often, where the available ones and the caller have it no less often
  away-least :
      (d : ℕ)
      → occurs d l.available + errand_away d (s.errand caller) ≤ occurs d l'.available + errand_away d (settle_of (s.errand caller) (found_at s caller))
      → away_of g s l d ≤ away_of g s' l' d
  away-least d least =
      omega (arith, least, callers-moved g (errand_away d) s.errand caller (settle_of (s.errand caller) (found_at s caller)) s'.errand has step.errand)

  -- a step that leaves head, next words and info words leaves out what is out, where no superblock becomes EMPTY
  leaves :
      s'.word name.DescHead ≡ s.word name.DescHead → ((d : ℕ) → s'.word (name.Next d) ≡ s.word (name.Next d))
      → ((d : ℕ) → s'.word (name.Info d) ≡ s.word (name.Info d))
      → ((d : ℕ) → is_empty (anchor_for s' d).state ≡ true → is_empty (anchor_for s d).state ≡ true)
      → ((d : ℕ) → is_empty (anchor_for s' d).state ≡ true → errand_away d (s.errand caller) ≤ errand_away d (settle_of (s.errand caller) (found_at s caller)))
      → LeavesOut g s l s' l'
  leaves head nexts infos empties least = record {
    empty = empties;
    class = λ d none. ap (λ w. (info_or_zero (info_of w)).class) (infos d);
    away = λ d is.
        away-least d (omega (arith, ap (occurs d) (available-same head nexts), least d is));
  }

  -- a step that writes no word which tells of a descriptor leaves out what is out
  quiet-leaves : writes_told (s.errand caller).point ≡ false → LeavesOut g s l s' l'
  quiet-leaves none =
      let p = (s.errand caller).point in
      let fits = fits-at g s l caller p old has refl in
      let quiet = quiet-points p turn none in
      let still : (m : WordName) → tells m ≡ true → s'.word m ≡ s.word m =
      λ m told.
      elim (cases_name m (name_at s caller)) [
        | inl is ↦
            ap s'.word is ∙ step.word.here ∙ told-stays p (word_at s caller) turn none (ap tells (sym is) ∙ told) ∙ ap s.word (sym is)
        | inr differ ↦ step.word.elsewhere m differ
      ] in
      leaves (still name.DescHead refl) (λ d. still (name.Next d) refl) (λ d. still (name.Info d) refl)
      (λ d is. ap (λ w. is_empty (anchor_of w).state) (sym (still (name.Anchor d) refl)) ∙ is)
      (λ d is.
      errand-keeps g caller (s.errand caller) (found_at s caller) d fits quiet.0 turn
      (λ seat k o. none-unlisted g caller p (found_at s caller) seat k o fits turn quiet.1))

  -- a step that writes at most one anchor leaves out what is out, where it makes no superblock EMPTY
  anchor-leaves :
      (k n : ℕ) → Writes s.word (name.Anchor k) n s'.word → (is_empty (anchor_for s' k).state ≡ true → is_empty (anchor_for s k).state ≡ true)
      → ((d : ℕ) → is_empty (anchor_for s' d).state ≡ true → errand_away d (s.errand caller) ≤ errand_away d (settle_of (s.errand caller) (found_at s caller)))
      → LeavesOut g s l s' l'
  anchor-leaves k n w here =
      leaves (w.elsewhere name.DescHead (λ same. cc)) (λ d. w.elsewhere (name.Next d) (λ same. cc)) (λ d. w.elsewhere (name.Info d) (λ same. cc))
      (of-each (λ d. is_empty (anchor_for s' d).state ≡ true → is_empty (anchor_for s d).state ≡ true) k here
      (λ d differ is. ap (λ v. is_empty (anchor_of v).state) (sym (w.elsewhere (name.Anchor d) (λ same. differ (cc)))) ∙ is))

  -- an exchange of an anchor leaves out what is out, where it makes no superblock EMPTY if it is won
  exchange-leaves :
      (p : Point) (k : ℕ) (a : AnchorFields) (n : ℕ) → (s.errand caller).point ≡ p → puts_out p ≡ false → pushes_desc p ≡ false
      → Writes s.word (name.Anchor k) (if s.word (name.Anchor k) == anchor_word a then n else s.word (name.Anchor k)) s'.word
      → (s.word (name.Anchor k) ≡ anchor_word a → is_empty (anchor_for s' k).state ≡ true → is_empty (anchor_for s k).state ≡ true) → LeavesOut g s l s' l'
  exchange-leaves p k a n stands out other w won =
      anchor-leaves k _ w
      (elim (cases_eq (s.word (name.Anchor k)) (anchor_word a)) [
        | inl is ↦ won is
        | inr lost ↦
            λ is. ap (λ v. is_empty (anchor_of v).state) (sym (w.here ∙ cond-false {A = ℕ} (s.word (name.Anchor k) == anchor_word a) _ _ (ne_eqb _ _ lost))) ∙ is
      ])
      (λ d is. at-keeps p d stands out other)

  -- a pop leaves out what is out: each superblock stays EMPTY or not
  pop-leaves :
      (at : Site) (share : Share) (a : AnchorFields) (prefix : ℕ) (o : Continuation)
      → (s.errand caller).point ≡ Block (block.PopBlock at share a prefix) o → LeavesOut g s l s' l'
  unfolding plan_point_of
  pop-leaves at share a prefix o stands =
      let p = Block (block.PopBlock at share a prefix) o in
      exchange-leaves p at.desc a _ stands refl refl (written-at s caller s' p stands step)
      (λ won is. sym (popped-empty (pop-pops g s l caller s' at share a prefix o sound old has stands won step) at.desc) ∙ is)

  -- a grant leaves out what is out: its superblock is in use
  grant-leaves :
      (site : Site) (a : AnchorFields) (o : Continuation) → (s.errand caller).point ≡ Partial (partial.Grant site a) o → LeavesOut g s l s' l'
  unfolding plan_point_of
  grant-leaves site a o stands =
      let p = Partial (partial.Grant site a) o in
      let now : (s.errand caller).point ≡ Partial (partial.Grant site a) (continuation.Alloc (asked o)) =
      stands ∙ ap (Partial (partial.Grant site a)) (the-alloc o (fits-at g s l caller p old has stands).goes) in
      exchange-leaves p site.desc a _ stands refl refl (written-at s caller s' p stands step)
      (λ won is.
      let h = grant-shifts g s l caller s' site a (asked o) old has now won step in
      absurd (true≢false (sym is ∙ ap (λ x. is_empty x.state) h.after ∙ h.in_use)))

  -- a step that writes an info word leaves out what is out, where the superblock keeps its class if it is near
  info-writes :
      (p : Point) (k n : ℕ) → (s.errand caller).point ≡ p → puts_out p ≡ false → pushes_desc p ≡ false → Writes s.word (name.Info k) n s'.word
      → (away_of g s l k ≤ away_of g s' l' k → away_of g s' l' k ≡ 0 → (info_for s' k).class ≡ (info_for s k).class) → LeavesOut g s l s' l'
  info-writes p k n stands out other w here =
      let avail = available-same (w.elsewhere name.DescHead (λ same. cc)) (λ d. w.elsewhere (name.Next d) (λ same. cc)) in
      let least = λ (d : ℕ). away-least d (omega (arith, ap (occurs d) avail, at-keeps p d stands out other)) in
      record {
        empty = λ d is. ap (λ v. is_empty (anchor_of v).state) (sym (w.elsewhere (name.Anchor d) (λ same. cc))) ∙ is;
        class =
            of-each (λ d. away_of g s' l' d ≡ 0 → (info_for s' d).class ≡ (info_for s d).class) k (here (least k))
            (λ d differ none. ap (λ v. (info_or_zero (info_of v)).class) (w.elsewhere (name.Info d) (λ same. differ (cc))));
        away = λ d is. least d;
      }

  -- the store of a taken superblock's processor heap leaves out what is out: its class stays
  owner-leaves : (site : Site) (o : Continuation) → (s.errand caller).point ≡ Partial (partial.StoreOwner site) o → LeavesOut g s l s' l'
  unfolding plan_point_of recalls_of
  owner-leaves site o stands =
      let p = Partial (partial.StoreOwner site) o in
      let w : Writes s.word (name.Info site.desc) (info_word (info_at site)) s'.word = written-at s caller s' p stands step in
      let fit : IsSiteOf g caller site = (fits-at g s l caller p old has stands).point in
      let (lies, none) = recalled-at g s l caller p old has stands in
      let back : info_of (s'.word (name.Info site.desc)) ≡ Some (info_at site) =
      ap info_of w.here ∙ info-exact.back (info_at site) (site-info g caller site sound.checked fit) in
      info-writes p site.desc _ stands refl refl w (λ least near. ap (λ i. (info_or_zero i).class) back ∙ sym lies.class)

  -- the store of a new superblock's info word leaves out what is out: its descriptor is on its way
  info-leaves : (site : Site) (o : Continuation) → (s.errand caller).point ≡ Block (block.StoreInfo site) o → LeavesOut g s l s' l'
  unfolding plan_point_of holds_of callers_sum
  info-leaves site o stands =
      let p = Block (block.StoreInfo site) o in
      let way : 1 ≤ errand_keeps on_its_way site.desc (s.errand caller) =
      keeps-at (s.errand caller) p on_its_way site.desc stands (kept-itself on_its_way site.desc site.seat.class) in
      info-writes p site.desc _ stands refl refl (written-at s caller s' p stands step)
      (λ least near.
      let mine : errand_away site.desc (s.errand caller) ≤ callers_sum g (errand_away site.desc) s.errand =
      term-sum g.callers (λ i. errand_away site.desc (s.errand i)) caller has in
      absurd (let no : ⊥ = omega (arith, near, least, mine, way) in no))

  -- the store of a new superblock's anchor leaves out what is out: the superblock is in use then
  store-leaves : (site : Site) (o : Continuation) → (s.errand caller).point ≡ Block (block.StoreAnchor site) o → LeavesOut g s l s' l'
  unfolding plan_point_of holds_of next_of settle_of course_of
  store-leaves site o stands =
      let p = Block (block.StoreAnchor site) o in
      let e = s.errand caller in
      let w : Writes s.word (name.Anchor site.desc) (anchor_word (new_anchor site.seat.class)) s'.word = written-at s caller s' p stands step in
      let here : anchor_for s' site.desc ≡ new_anchor site.seat.class =
      ap anchor_of w.here ∙ anchor_of-anchor_word (new_anchor site.seat.class) (new_anchor-fits site.seat.class) in
      let used : (d : ℕ) → is_empty (anchor_for s' d).state ≡ true → d ≢ site.desc =
      λ d is same. true≢false (sym is ∙ ap (λ k. is_empty (anchor_for s' k).state) same ∙ ap (λ x. is_empty x.state) here) in
      anchor-leaves site.desc _ w (λ is. absurd (used site.desc is refl))
      (λ d is.
      let none : kept_among on_its_way d (holds_of e.point).kept ≡ 0 =
      ap (λ q. kept_among on_its_way d (holds_of q).kept) stands ∙ making-elsewhere site d (used d is) in
      let next : next_of e.point (found_at s caller) ≡ At (Block (block.InstallSuperblock site) o) = ap (λ q. next_of q (found_at s caller)) stands in
      let least : occurs d e.retired + 0 ≤ away_after e (next_of e.point (found_at s caller)) d =
      next-away e (next_of e.point (found_at s caller)) d 0
      (λ seat k b is. let bad : At (Block (block.InstallSuperblock site) o) ≡ Unlist seat k b = sym next ∙ is in cc) (omega arith) in
      omega (arith, none, least))

  -- a step that writes neither an anchor nor an info word leaves out what is out, where descriptors are away as often
  away-leaves :
      ((d : ℕ) → s'.word (name.Anchor d) ≡ s.word (name.Anchor d)) → ((d : ℕ) → s'.word (name.Info d) ≡ s.word (name.Info d))
      → ((d : ℕ) → occurs d l.available + errand_away d (s.errand caller) ≤ occurs d l'.available + errand_away d (settle_of (s.errand caller) (found_at s caller)))
      → LeavesOut g s l s' l'
  away-leaves anchors infos least = record {
    empty = λ d is. ap (λ v. is_empty (anchor_of v).state) (sym (anchors d)) ∙ is;
    class = λ d none. ap (λ v. (info_or_zero (info_of v)).class) (infos d);
    away = λ d is. away-least d (least d);
  }

  -- the store of the link below a retired descriptor leaves out what is out: the descriptor isn't available
  next-leaves :
      (seat : SeatFields) (k top : ℕ) (o : Continuation) → (s.errand caller).point ≡ Desc (desc.StoreNextDesc seat k top) o → LeavesOut g s l s' l'
  unfolding plan_point_of callers_sum
  next-leaves seat k top o stands =
      let p = Desc (desc.StoreNextDesc seat k top) o in
      let w : Writes s.word (name.Next k) top s'.word = written-at s caller s' p stands step in
      let fits = fits-at g s l caller p old has stands in
      let mine : 1 ≤ errand_has k (s.errand caller) = retired-has (s.errand caller) p k (old.formed.errands caller has).rule stands refl in
      let all : errand_has k (s.errand caller) ≤ callers_sum g (errand_has k) s.errand = term-sum g.callers (λ i. errand_has k (s.errand i)) caller has in
      let off : occurs k l.available ≡ 0 = omega (arith, old.kept.once k fits.point.desc.desc, mine, all) in
      let kept : Stacked (next_in s'.word Partials) (s.word name.DescHead) l.available =
      stacked-off s.word s'.word top Partials (s.word name.DescHead) k l.available w off old.listed.available in
      let stack : Stacked (next_in s'.word Partials) (s.word name.DescHead) l'.available =
      subst (λ t. Stacked (next_in s'.word Partials) t l'.available) (w.elsewhere name.DescHead (λ same. cc)) new.listed.available in
      let avail : l'.available ≡ l.available = stacked-one (next_in s'.word Partials) (s.word name.DescHead) l'.available l.available stack kept in
      away-leaves (λ d. w.elsewhere (name.Anchor d) (λ same. cc)) (λ d. w.elsewhere (name.Info d) (λ same. cc))
      (λ d. omega (arith, ap (occurs d) avail, at-keeps p d stands refl refl))

  -- a step that changes at most the head of the available descriptors leaves out what is out, where those are these after it
  head-leaves :
      (head head' : ℕ) (xs : List ℕ) → Writes s.word name.DescHead head' s'.word → head' ≡ head → Stacked (next_in s.word Partials) head xs
      → ((d : ℕ) → occurs d l.available + errand_away d (s.errand caller) ≤ occurs d xs + errand_away d (settle_of (s.errand caller) (found_at s caller)))
      → LeavesOut g s l s' l'
  head-leaves head head' xs w is stack least =
      let nexts : next_in s'.word Partials ≡ next_in s.word Partials = fun_ext (λ d. w.elsewhere (name.Next d) (λ same. cc)) in
      let after : Stacked (next_in s.word Partials) head l'.available =
      subst (λ f. Stacked f head l'.available) nexts
      (subst (λ t. Stacked (next_in s'.word Partials) t l'.available) (w.here ∙ is) new.listed.available) in
      let same = stacked-one (next_in s.word Partials) head l'.available xs after stack in
      away-leaves (λ d. w.elsewhere (name.Anchor d) (λ same. cc)) (λ d. w.elsewhere (name.Info d) (λ same. cc))
      (λ d. omega (arith, least d, ap (occurs d) same))

  -- the pop of an available descriptor leaves out what is out: the caller has it on its way
  pop_desc-leaves :
      (seat : SeatFields) (k below : ℕ) (o : Continuation) → (s.errand caller).point ≡ Desc (desc.PopDesc seat k below) o → LeavesOut g s l s' l'
  unfolding plan_point_of holds_of recalls_of next_of settle_of course_of
  pop_desc-leaves seat k below o stands =
      let p = Desc (desc.PopDesc seat k below) o in
      let e = s.errand caller in
      let w = written-at s caller s' p stands step in
      elim (cases_eq (s.word name.DescHead) (k + 1)) [
        | inl won ↦
            let is_won : (s.word name.DescHead == k + 1) ≡ true = eq-eqb (s.word name.DescHead) (k + 1) won in
            let stack : Stacked (next_in s.word Partials) (k + 1) l.available =
            subst (λ t. Stacked (next_in s.word Partials) t l.available) won old.listed.available in
            let (ys, is, rest) = first-of (next_in s.word Partials) k l.available stack in
            let on : 0 < occurs k l.available =
            subst (λ zs. 0 < occurs k zs) (sym is) (omega (arith, cond-true {A = ℕ} (k == k) 1 0 (eq-eqb k k refl))) in
            let (noticed, past) = recalled-at g s l caller p old has stands in
            let link : s.word (name.Next k) ≡ below = noticed on in
            let q = Desc (desc.ClearAfterPop seat k) o in
            let next : next_of e.point (found_at s caller) ≡ At q =
            subst (λ r. next_of r (found_from s r) ≡ At q) (sym stands) (rw is_won refl) in
            head-leaves (s.word (name.Next k)) _ ys w (rw is_won (sym link)) rest
            (λ d.
            let none : kept_among on_its_way d (holds_of e.point).kept ≡ 0 = ap (λ r. kept_among on_its_way d (holds_of r).kept) stands in
            let mine : away_after e (next_of e.point (found_at s caller)) d ≡ occurs d e.retired + (if k == d then 1 else 0) =
            ap (λ n. away_after e n d) next ∙ ap (λ n. occurs d e.retired + n) (ways-one d k seat.class) in
            omega (arith, none, mine, ap (occurs d) is))
        | inr lost ↦
            head-leaves (s.word name.DescHead) _ l.available w (cond-false {A = ℕ} (s.word name.DescHead == k + 1) _ _ (ne_eqb _ _ lost)) old.listed.available
            (λ d. omega (arith, at-keeps p d stands refl refl))
      ]

  -- the push of a retired descriptor leaves out what is out: it is put in front of the available ones
  push_desc-leaves :
      (seat : SeatFields) (k top : ℕ) (o : Continuation) → (s.errand caller).point ≡ Desc (desc.PushDesc seat k top) o → LeavesOut g s l s' l'
  unfolding plan_point_of holds_of recalls_of next_of settle_of course_of
  push_desc-leaves seat k top o stands =
      let p = Desc (desc.PushDesc seat k top) o in
      let e = s.errand caller in
      let w = written-at s caller s' p stands step in
      let none : (d : ℕ) → kept_among on_its_way d (holds_of e.point).kept ≡ 0 = λ d. ap (λ r. kept_among on_its_way d (holds_of r).kept) stands in
      elim (cases_eq (s.word name.DescHead) top) [
        | inl won ↦
            let is_won : (s.word name.DescHead == top) ≡ true = eq-eqb (s.word name.DescHead) top won in
            let (said, past) = recalled-at g s l caller p old has stands in
            let link : s.word (name.Next k) ≡ top = said.1 in
            let listed : Contains e.retired k =
            subst (λ r. IfSome r (λ j. Contains e.retired j)) (ap pushed_by stands) (old.formed.errands caller has).rule.pushed in
            let next : next_of e.point (found_at s caller) ≡ Unlist seat k o =
            subst (λ r. next_of r (found_from s r) ≡ Unlist seat k o) (sym stands) (rw is_won refl) in
            head-leaves (k + 1) _ (k ∷ l.available) w (rw is_won refl)
            (refl, subst (λ t. Stacked (next_in s.word Partials) t l.available) (won ∙ sym link) old.listed.available)
            (λ d.
            let mine : occurs d (without k e.retired) ≤ away_after e (next_of e.point (found_at s caller)) d =
            subst (λ n. occurs d (without k e.retired) ≤ away_after e n d) (sym next) (omega arith) in
            omega (arith, none d, mine, occurs-without k d e.retired listed))
        | inr lost ↦
            let is_lost : (s.word name.DescHead == top) ≡ false = ne_eqb (s.word name.DescHead) top lost in
            let q = Desc (desc.LoadHeadToPush seat k) o in
            let next : next_of e.point (found_at s caller) ≡ At q =
            subst (λ r. next_of r (found_from s r) ≡ At q) (sym stands) (rw is_lost refl) in
            head-leaves (s.word name.DescHead) _ l.available w (cond-false {A = ℕ} (s.word name.DescHead == top) _ _ is_lost) old.listed.available
            (λ d.
            let mine : occurs d e.retired ≤ away_after e (next_of e.point (found_at s caller)) d =
            subst (λ n. occurs d e.retired ≤ away_after e n d) (sym next) (omega arith) in
            omega (arith, none d, mine))
      ]

  -- every step of a turn at a point in a superblock leaves no more EMPTY ones out
  block-leaves-out : (p : BlockPoint) (o : Continuation) → (s.errand caller).point ≡ Block p o → LeavesOut g s l s' l'
  unfolding plan_point_of
  block-leaves-out (block.PopBlock at share a prefix) o stands = pop-leaves at share a prefix o stands
  block-leaves-out (block.StoreInfo site) o stands = info-leaves site o stands
  block-leaves-out (block.StoreAnchor site) o stands = store-leaves site o stands
  block-leaves-out p o stands = quiet-leaves (ap writes_told stands)

  desc-leaves-out : (p : DescPoint) (o : Continuation) → (s.errand caller).point ≡ Desc p o → LeavesOut g s l s' l'
  unfolding plan_point_of
  desc-leaves-out (desc.PopDesc seat k below) o stands = pop_desc-leaves seat k below o stands
  desc-leaves-out (desc.StoreNextDesc seat k top) o stands = next-leaves seat k top o stands
  desc-leaves-out (desc.PushDesc seat k top) o stands = push_desc-leaves seat k top o stands
  desc-leaves-out p o stands = quiet-leaves (ap writes_told stands)

  partial-leaves-out : (p : PartialPoint) (o : Continuation) → (s.errand caller).point ≡ Partial p o → LeavesOut g s l s' l'
  unfolding plan_point_of
  partial-leaves-out (partial.Grant site a) o stands = grant-leaves site a o stands
  partial-leaves-out (partial.StoreOwner site) o stands = owner-leaves site o stands
  partial-leaves-out p o stands = quiet-leaves (ap writes_told stands)

  point-leaves-out : (p : Point) → (s.errand caller).point ≡ p → LeavesOut g s l s' l'
  unfolding plan_point_of
  point-leaves-out (Block p o) stands = block-leaves-out p o stands
  point-leaves-out (Desc p o) stands = desc-leaves-out p o stands
  point-leaves-out (Partial p o) stands = partial-leaves-out p o stands
  point-leaves-out (Stack p o) stands = quiet-leaves (ap writes_told stands ∙ stack-told g caller p o (fits-at g s l caller (Stack p o) old has stands))
  point-leaves-out (Large p o) stands = quiet-leaves (ap writes_told stands ∙ large-told p o)
  point-leaves-out Idle stands = quiet-leaves (ap writes_told stands)

  pub step-leaves-out : LeavesOut g s l s' l'
  step-leaves-out = point-leaves-out (s.errand caller).point refl
