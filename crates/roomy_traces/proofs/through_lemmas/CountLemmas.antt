-- The events of an operation through a cache: how many blocks they give and free, and that they refuse small needs alone.
use Rattle.std.proofs.Common.{ℕ, Bool, true, false, ◌≡◌, ◌+◌, ◌≤◌, ◌%◌, ◌^◌, List, [], ◌∷◌, ◌++◌, Option, Some, None, cond, count_by, length, map, replicate, refl, sym, ◌∙◌, subst, arith}
use Rattle.std.specs.Prelude.{flat_map}
use Rattle.std.specs.List.{All, AllByRecursion}
use Rattle.std.proofs.lemmas.List.{get_or-replicate, length-replicate}
use Rattle.std.proofs.lemmas.List.Elements.{All-set}
use Rattle.std.proofs.lemmas.List.Sums.{sum_by-cons}
use Rattle.heap_geometry.specs.declared.limits.TheConstants.{CLASSES}
use Rattle.heap_geometry.specs.Need.{IsNeed, need_of}
use Rattle.pool_model.specs.declared.event.Event.{Event}
use Rattle.pool_model.specs.declared.event.Event.TheVariants.{Free}
use Rattle.pool_model.specs.Counts.{is_alloc, is_free}
use Rattle.pool_model.proofs.NeedOfLemmas.{need_of-within}
use Rattle.trace_text.specs.declared.trace.Op.{Op}
use Rattle.lane_outcomes.specs.declared.registers.HeldBlock.{HeldBlock}
use Rattle.lane_outcomes.specs.declared.outcome.Outcome.{Outcome}
use Rattle.lane_outcomes.specs.Cached.{CachedPosition, CachedRow, IsGivenBy, hit_of, magazines_by, served_with}
use Rattle.lane_outcomes.specs.Lane.{held_in, registers_after, writing}
use Rattle.lane_outcomes.specs.LaneCounts.{as_one, count_with}
use Rattle.lane_outcomes.specs.Magazines.{emptying, freeing, is_kept, magazines_given, served_by}
use Rattle.lane_outcomes.specs.Rows.{Setting}
use Rattle.lane_outcomes.proofs.HoldLemmas.{held-inside}
use Rattle.lane_outcomes.proofs.KeptLemmas.{given-long}
use Rattle.roomy_traces.specs.Roomy.{IsPlain}
use Rattle.lane_outcomes.proofs.WalkLemmas.{all-append, all-given, all-looks, all-refused, all-writing, given-of, spent-looks}
use Rattle.roomy_traces.proofs.PieceLemmas.{Counts, IsQuiet, IsTame, all-mild, counts-append, given-counts, quiet-counts, quiet-writing}
use Rattle.roomy_traces.proofs.SerialRows.{IsPlainDeed, plain-deed}
use Rattle.roomy_traces.proofs.through_lemmas.MagazineLemmas.{total, total-freed, total-given}
use Rattle.lane_outcomes.proofs.SlotRows.{Adds, row-adds}
use Rattle.lane_outcomes.specs.Deeds as deed
use Rattle.trace_text.specs.Operations.{register_of}
use Rattle.lane_outcomes.specs.Deeds.{Deed, deed_of, freed_by, given_by, registers_by}

-- the block in each register serves a need of the heap's
abbrev pub IsNeeded : Option HeldBlock → Type 0
IsNeeded None = Unit {0}
IsNeeded (Some held) = IsNeed held.need

abbrev pub AreNeeds : List (Option HeldBlock) → Type 0
AreNeeds registers = All IsNeeded registers

needs-at : (registers : List (Option HeldBlock)) (r : ℕ) (held : HeldBlock) → held_in registers r ≡ Some held → AreNeeds registers → IsNeed held.need
needs-at registers r held full needs = subst IsNeeded full (needs r None (held-inside registers r held full))

needs-by : (registers : List (Option HeldBlock)) (r : ℕ) (done : Deed) → IsPlainDeed done → AreNeeds registers → AreNeeds (registers_by registers r done)
needs-by registers r (deed.gives need v words place) plain needs =
    All-set IsNeeded registers r (Some (record { place = place; words = words; need = need_of need })) (need_of-within need) needs
needs-by registers r (deed.replaces need words place) plain needs =
    All-set IsNeeded registers r (Some (record { place = place; words = words; need = need_of need })) (need_of-within need) needs
needs-by registers r deed.frees plain needs = All-set IsNeeded registers r None tt needs
needs-by registers r deed.lays plain needs = absurd plain
needs-by registers r (deed.takes words place need) plain needs = absurd plain
needs-by registers r done plain needs = needs

pub needs-after :
    (registers : List (Option HeldBlock)) (operation : Op) (result : Outcome) → IsPlain operation → AreNeeds registers → AreNeeds (registers_after registers operation result)
needs-after registers operation result plain needs =
    needs-by registers (register_of operation) (deed_of operation result) (plain-deed operation result plain) needs

pub needs-start : (n : ℕ) → AreNeeds (replicate n None)
needs-start n r d below =
    let none : Option HeldBlock = None in
    subst IsNeeded (sym (get_or-replicate n r none d (omega (arith, below, length-replicate n none)))) tt

-- a magazine or the heap gives a block: the heap by one event
handed-counts :
    (setting : Setting) (position : CachedPosition) (by : Option ℕ) (need words place : ℕ) (value : ℕ → ℕ) (calls : List Event)
    → IsGivenBy by setting position need place calls
    → (given : ℕ) × Counts (calls ++ writing setting.caller place words value) given 0 × (given + hit_of by ≡ 1)
handed-counts setting position None need words place value calls given = (
  1,
  given-counts setting.caller need place words value calls (calls ++ writing setting.caller place words value)
      (given-of setting.caller need place (need_of need) calls given.1) refl,
  omega arith,
)
handed-counts setting position (Some at) need words place value calls given = (
  0,
  subst (λ xs. Counts (xs ++ writing setting.caller place words value) 0 0) (sym given.1)
      (quiet-counts (writing setting.caller place words value) (quiet-writing setting.caller place words value)),
  omega arith,
)

freeing-counts : (caller : ℕ) (keeps : Bool) (place : ℕ) → Counts (freeing caller keeps place) 0 (count_by is_free (freeing caller keeps place))
freeing-counts caller true place = record { gives = refl; frees = refl }
freeing-counts caller false place = record { gives = refl; frees = refl }

freeing-few : (caller : ℕ) (keeps : Bool) (place : ℕ) → count_by is_free (freeing caller keeps place) ≤ 1
freeing-few caller true place = omega arith
freeing-few caller false place = omega arith

-- what an operation gives and frees by its events, and what magazines serve and keep of it
pub record CountsBy (depth : ℕ) (position : CachedPosition) (r : ℕ) (done : Deed) (piece : List Event) : Type 0 where
  pub given : ℕ
  pub freed : ℕ
  pub counts : Counts piece given freed
  pub gives : given + hit_of (served_with position.magazines done) ≡ count_with as_one (given_by done)
  pub few : freed ≤ count_with as_one (freed_by (held_in position.base.registers r) done)
  pub balance :
      freed + total (magazines_by depth position.magazines (held_in position.base.registers r) done) + hit_of (served_with position.magazines done)
      ≡ total position.magazines + count_with as_one (freed_by (held_in position.base.registers r) done)

abbrev pub CachedCounts : ℕ → CachedPosition → Op → Outcome → List Event → Type 0
CachedCounts depth position operation result piece = CountsBy depth position (register_of operation) (deed_of operation result) piece

module _ (setting : Setting) (depth : ℕ) (position : CachedPosition) (piece : List Event) where
  counts-by :
      (r : ℕ) (done : Deed) → IsPlainDeed done → AreNeeds position.base.registers → length position.magazines ≡ CLASSES
      → Adds setting depth position r done piece → CountsBy depth position r done piece
  counts-by r (deed.gives need v words place) plain needs long (empty, words_are, calls, given, is) =
      let handed = handed-counts setting position (served_by position.magazines (need_of need)) need words place (λ i. (v + i) % 2 ^ 64) calls given in
      record {
        given = handed.0;
        freed = 0;
        counts = subst (λ xs. Counts xs handed.0 0) (sym is) handed.1;
        gives = handed.2;
        few = omega arith;
        balance = omega (arith, total-given position.magazines (need_of need));
      }
  counts-by r (deed.replaces need words place) plain needs long (held, full, differ, words_are, calls, given, value, copy, is) =
      let caller = setting.caller in
      let handed = handed-counts setting position (served_by position.magazines (need_of need)) need words place value calls given in
      let magazines : List (List ℕ) = magazines_given position.magazines (need_of need) in
      let keeps : Bool = is_kept depth magazines held.need in
      let frees : ℕ = count_by is_free (freeing caller keeps held.place) in
      record {
        given = handed.0 + 0;
        freed = 0 + frees;
        counts =
            subst (λ xs. Counts xs (handed.0 + 0) (0 + frees)) (sym is)
            (counts-append (calls ++ writing caller place words value) (freeing caller keeps held.place) handed.0 0 0 frees handed.1
            (freeing-counts caller keeps held.place));
        gives = omega (arith, handed.2);
        few = rw full (omega (arith, freeing-few caller keeps held.place));
        balance =
            rw full
            (omega (
              arith,
              total-given position.magazines (need_of need),
              total-freed caller depth magazines held.place held.need (needs-at position.base.registers r held full needs)
                  (given-long (served_by position.magazines (need_of need)) position.magazines (need_of need) ∙ long),
            ));
      }
  counts-by r deed.frees plain needs long (held, full, is) =
      let caller = setting.caller in
      let keeps : Bool = is_kept depth position.magazines held.need in
      let frees : ℕ = count_by is_free (freeing caller keeps held.place) in
      record {
        given = 0;
        freed = frees;
        counts = subst (λ xs. Counts xs 0 frees) (sym is) (freeing-counts caller keeps held.place);
        gives = omega arith;
        few = rw full (freeing-few caller keeps held.place);
        balance = rw full (omega (arith, total-freed caller depth position.magazines held.place held.need (needs-at position.base.registers r held full needs) long));
      }
  counts-by r deed.lays plain needs long row = absurd plain
  counts-by r (deed.takes words place need) plain needs long row = absurd plain
  counts-by r (deed.refuses need) plain needs long events = record {
    given = 0;
    freed = 0;
    counts = quiet-counts piece (all-refused IsQuiet setting.caller need piece (λ class. (refl, refl)) (refl, refl) events);
    gives = refl;
    few = omega arith;
    balance = omega arith;
  }
  counts-by r (deed.spends need) plain needs long spent = record {
    given = 0;
    freed = 0;
    counts = quiet-counts piece (all-looks IsQuiet setting.caller piece (λ class. (refl, refl)) (spent-looks setting position.base need piece position.base.spent spent));
    gives = refl;
    few = omega arith;
    balance = omega arith;
  }
  counts-by r deed.stays plain needs long milds = record {
    given = 0;
    freed = 0;
    counts = quiet-counts piece (all-mild IsQuiet setting.caller piece (λ by place i n. (refl, refl)) (λ by shelf. (refl, refl)) milds);
    gives = refl;
    few = omega arith;
    balance = omega arith;
  }

pub cached-counts :
    (setting : Setting) (depth : ℕ) (position : CachedPosition) (operation : Op) (result : Outcome) (piece : List Event) → IsPlain operation
    → AreNeeds position.base.registers → length position.magazines ≡ CLASSES → CachedRow setting depth position operation result piece
    → CachedCounts depth position operation result piece
cached-counts setting depth position operation result piece plain needs long row =
    counts-by setting depth position piece (register_of operation) (deed_of operation result) (plain-deed operation result plain) needs long
    (row-adds setting depth position operation result piece row)

-- the frees that empty magazines give no block
frees-none : (caller : ℕ) (places : List ℕ) → count_by is_alloc (map (λ place. Free caller place) places) ≡ 0
frees-none caller [] = refl
frees-none caller (place ∷ places) =
    omega (arith, sum_by-cons (λ e. cond (is_alloc e) 1 0) (Free caller place) (map (λ at. Free caller at) places), frees-none caller places)

pub emptying-none : (caller : ℕ) (magazines : List (List ℕ)) → count_by is_alloc (emptying caller magazines) ≡ 0
emptying-none caller magazines = frees-none caller (flat_map (λ magazine. magazine) magazines)

-- the events refuse small needs alone
handed-tame :
    (setting : Setting) (position : CachedPosition) (by : Option ℕ) (need words place : ℕ) (value : ℕ → ℕ) (calls : List Event)
    → IsGivenBy by setting position need place calls → AllByRecursion IsTame (calls ++ writing setting.caller place words value)
handed-tame setting position None need words place value calls given =
    all-append IsTame calls (writing setting.caller place words value)
    (all-given IsTame setting.caller need place calls (λ class. tt) tt (given-of setting.caller need place (need_of need) calls given.1))
    (all-writing IsTame setting.caller place words value (λ i n. tt))
handed-tame setting position (Some at) need words place value calls given =
    subst (λ xs. AllByRecursion IsTame (xs ++ writing setting.caller place words value)) (sym given.1)
    (all-writing IsTame setting.caller place words value (λ i n. tt))

freeing-tame : (caller : ℕ) (keeps : Bool) (place : ℕ) → AllByRecursion IsTame (freeing caller keeps place)
freeing-tame caller true place = tt
freeing-tame caller false place = (tt, tt)

tame-by :
    (setting : Setting) (depth : ℕ) (position : CachedPosition) (r : ℕ) (done : Deed) (piece : List Event) → IsPlainDeed done
    → Adds setting depth position r done piece → AllByRecursion IsTame piece
tame-by setting depth position r (deed.gives need v words place) piece plain (empty, words_are, calls, given, is) =
    subst (AllByRecursion IsTame) (sym is)
    (handed-tame setting position (served_by position.magazines (need_of need)) need words place (λ i. (v + i) % 2 ^ 64) calls given)
tame-by setting depth position r (deed.replaces need words place) piece plain (held, full, differ, words_are, calls, given, value, copy, is) =
    let keeps : Bool = is_kept depth (magazines_given position.magazines (need_of need)) held.need in
    subst (AllByRecursion IsTame) (sym is)
    (all-append IsTame (calls ++ writing setting.caller place words value) (freeing setting.caller keeps held.place)
    (handed-tame setting position (served_by position.magazines (need_of need)) need words place value calls given)
    (freeing-tame setting.caller keeps held.place))
tame-by setting depth position r deed.frees piece plain (held, full, is) =
    subst (AllByRecursion IsTame) (sym is) (freeing-tame setting.caller (is_kept depth position.magazines held.need) held.place)
tame-by setting depth position r deed.lays piece plain row = absurd plain
tame-by setting depth position r (deed.takes words place need) piece plain row = absurd plain
tame-by setting depth position r (deed.refuses need) piece plain events = all-refused IsTame setting.caller need piece (λ class. tt) plain events
tame-by setting depth position r (deed.spends need) piece plain spent =
    all-looks IsTame setting.caller piece (λ class. tt) (spent-looks setting position.base need piece position.base.spent spent)
tame-by setting depth position r deed.stays piece plain milds =
    all-mild IsTame setting.caller piece (λ by place i n. tt) (λ by shelf. tt) milds

pub cached-tame :
    (setting : Setting) (depth : ℕ) (position : CachedPosition) (operation : Op) (result : Outcome) (piece : List Event) → IsPlain operation
    → CachedRow setting depth position operation result piece → AllByRecursion IsTame piece
cached-tame setting depth position operation result piece plain row =
    tame-by setting depth position (register_of operation) (deed_of operation result) piece (plain-deed operation result plain)
    (row-adds setting depth position operation result piece row)
