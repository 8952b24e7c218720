-- What a step at the head of the available descriptors weighs.
use Rattle.std.proofs.Common.{ℕ, ◌≡◌, ◌<◌, ◌+◌, List, refl, arith, ap, sym, subst, All}
use Rattle.sound_state.proofs.Common.{Geometry, anchor_of, WordName, descriptor_count, Exists, Writes, occurs, Partials, Stacked, next_in, ErrandFields, State, Moves}
use Rattle.sound_state.proofs.Common.{errand_frames, waiting, on_its_way, IsWithout, word_keeps, errand_has, full_keeps, Lists, IsSoundWith, word_stock, errand_stock}
use Rattle.sound_state.proofs.Common.{word_reserves, errand_reserves, errand_keeps, errand_away, away_of}
use Rattle.word_table.specs.declared.name.WordName.TheVariants as name
use Rattle.sound_state.proofs.shared.BackedRecalls.{AllRead}
use Rattle.sound_state.proofs.shared.ShownLemmas.{IsListedPart, IsShown, ShowsSame, with_available, MayGoOn, MayGuard}
use Rattle.sound_state.proofs.shared.TurnEffects.{emptied-kept}
use Rattle.sound_state.proofs.shared.WeighLemmas.{full-same}
use Rattle.sound_state.proofs.shared.SumLemmas.{words-written, callers-moved}
use Rattle.sound_state.proofs.shared.SuperblocksStay.{actives-same}

-- the list and the new errand weigh what the list and the errand before it did
pub record ListWeighs (l : Lists) (ys : List ℕ) (a b : ErrandFields) : Type 0 where
  pub reserves : (d : ℕ) → errand_reserves d b ≡ errand_reserves d a
  pub waits : (d : ℕ) → errand_keeps waiting d b ≡ errand_keeps waiting d a
  pub ways : (d : ℕ) → occurs d l.available ≡ 0 → errand_keeps on_its_way d b ≡ errand_keeps on_its_way d a
  pub away : (d : ℕ) → occurs d ys + errand_away d b ≡ occurs d l.available + errand_away d a
  pub places : (d : ℕ) → occurs d ys + errand_has d b ≡ occurs d l.available + errand_has d a
  pub frames : (f : ℕ) → errand_frames f b ≡ errand_frames f a
  pub stock : (class : ℕ) → errand_stock class b ≡ errand_stock class a

-- the word is not the head of the available descriptors
abbrev IsNoDescHead : WordName → Type 0
IsNoDescHead name.DescHead = ⊥
IsNoDescHead n = Unit {0}

-- words that aren't the head of the available descriptors stay at a write of it
others-stay :
    (words : WordName → ℕ) (new : ℕ) (words' : WordName → ℕ) → Writes words name.DescHead new words' → (n : WordName) → IsNoDescHead n
    → words' n ≡ words n
others-stay words new words' w n apart = grind (arith, w, apart)

shown-apart : (n : WordName) → IsShown n → IsNoDescHead n
shown-apart n shown = grind (arith)

-- what a step restocks that writes the head of the available descriptors, with the stack that it leaves
pub restocks-by :
    (g : Geometry) (s : State) (l : Lists) (caller : ℕ) (e : ErrandFields) (s' : State) (ys : List ℕ) (new : ℕ) → IsSoundWith g s l
    → caller < g.callers → Exists g name.DescHead → Writes s.word name.DescHead new s'.word → Moves s.errand caller e s'.errand
    → s'.history ≡ s.history → e.cleared ≡ (s.errand caller).cleared
    → MayGoOn g s l caller (s.errand caller) e
    → MayGuard g s caller e.point e.retired (s.word (name.Hazard caller)) → Stacked (next_in s.word Partials) new ys
    → All (λ d. d < descriptor_count g) ys → All (IsWithout s) ys → ListWeighs l ys (s.errand caller) e
    → ((i : ℕ) → i < g.callers → AllRead (IsListedPart l ys) (s.errand i).point) → AllRead (IsListedPart l ys) e.point
    → ShowsSame g s l caller e s' ys
restocks-by g s l caller e s' ys new old has exists w m past still may guards stack exist without weigh recalls here =
    let stay = others-stay s.word new s'.word w in
    let words = λ (weight : WordName → ℕ → ℕ). words-written g weight s.word name.DescHead new s'.word exists w in
    let callers = λ (weight : ErrandFields → ℕ). callers-moved g weight s.errand caller e s'.errand has m in
    let anchor = λ (d : ℕ). ap anchor_of (stay (name.Anchor d) tt) in
    let away : (d : ℕ) → away_of g s' (with_available l ys) d ≡ away_of g s l d =
    λ d. omega (arith, callers (errand_away d), weigh.away d) in
    record {
      in_heap = has;
      moves = m;
      may = may;
      others = λ i differ. stay (name.Hazard i) tt;
      guards = subst (MayGuard g s caller e.point e.retired) (sym (stay (name.Hazard caller) tt)) guards;
      actives =
          actives-same g s l s'.word old.kept (λ heap class. stay (name.Active heap class) tt) (λ heap class. stay (name.Slot heap class) tt);
      word = λ n shown. stay n (shown-apart n shown);
      history = past;
      stacked = subst (λ top. Stacked (next_in s.word Partials) top ys) (sym w.here) stack;
      exist = exist;
      without = without;
      reserved = λ d. omega (arith, words (word_reserves d), callers (errand_reserves d), weigh.reserves d);
      waits = λ d. omega (arith, callers (errand_keeps waiting d), weigh.waits d);
      ways = λ d off. omega (arith, callers (errand_keeps on_its_way d), weigh.ways d off);
      bound = λ d. rw (away d, anchor d) refl;
      places = λ d.
          omega (arith, words (word_keeps d), callers (errand_has d), weigh.places d, ap (λ a. full_keeps a.state) (anchor d));
      frames = λ f. omega (arith, callers (errand_frames f), weigh.frames f);
      stock = λ stocked.
          record {
            most = λ class has.
                omega (
                  arith,
                  words (word_stock class),
                  callers (errand_stock class),
                  weigh.stock class,
                  full-same g s s' class (λ d. stay (name.Anchor d) tt) (λ d. stay (name.Info d) tt),
                  stocked.most class has,
                );
          };
      emptied = omega (arith, emptied-kept g s l s' (with_available l ys) (λ d. rw (away d, anchor d) refl), still);
      stays = recalls;
      stays_here = here;
    }
