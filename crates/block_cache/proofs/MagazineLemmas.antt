-- One magazine among all.
use Rattle.std.proofs.Common.{ℕ, zero, suc, ◌≡◌, ◌<◌, ◌≤◌, ◌+◌, ◌⊎◌, ◌++◌, inl, inr, List, [], ◌∷◌, Vec, length, slice_index_or, slice_set, vec_capacity, length-append, append-nil, refl, sym, ap, ◌∙◌, subst, arith, append_assoc}
use Rattle.std.specs.declared.alloc.Global.{Global}
use Rattle.std.specs.Prelude.{All, reverse}
use Rattle.std.proofs.lemmas.Bool.{cases_lt}
use Rattle.std.proofs.lemmas.List.{length-set, map-append, reverse-append, length-reverse}
use Rattle.std.proofs.lemmas.Grind.{flat_map-append}
use Rattle.std.proofs.lemmas.List.Elements.{All-cons, All-head, All-push, All-tail}
use Rattle.heap_geometry.specs.declared.limits.TheConstants.{CLASSES}
use Rattle.heap_geometry.specs.declared.need.Need.{Need}
use Rattle.heap_geometry.specs.declared.need.Need.TheVariants.{Small, Large, TooLarge}
use Rattle.block_cache.specs.Magazines.{AreForClasses, AreMagazines, HasOnTop, HasOneFor, HasRoomFor, IsMagazine, Splits, all_in, leaving, stack_at, stacks_of}

-- what is so of all is so of one, and of the others; and the other way round
pub all-out : {A : Type 0} (P : A → Type 0) (before after : List A) (a : A) → All P (before ++ a ∷ after) → P a × All P (before ++ after)
all-out P [] after a all = (All-head P a after all, All-tail P a after all)
all-out P (b ∷ bs) after a all =
    let rest = all-out P bs after a (All-tail P b (bs ++ a ∷ after) all) in
    (rest.0, All-cons P b (bs ++ after) (All-head P b (bs ++ a ∷ after) all) rest.1)

pub all-in : {A : Type 0} (P : A → Type 0) (before after : List A) (a : A) → P a → All P (before ++ after) → All P (before ++ a ∷ after)
all-in P [] after a here all = All-cons P a after here all
all-in P (b ∷ bs) after a here all =
    All-cons P b (bs ++ a ∷ after) (All-head P b (bs ++ after) all) (all-in P bs after a here (All-tail P b (bs ++ after) all))

pub length-stacks : {A : Type 0} (magazines : List (Vec A Global)) → length (stacks_of magazines) ≡ length magazines
length-stacks [] = refl
length-stacks (m ∷ ms) = ap suc (length-stacks ms)

-- the stacks of magazines where another one is laid at a number
record Swaps {A : Type 0} (number : ℕ) (old new : List A) (was now : List (List A)) : Type 0 where
  before : List (List A)
  after : List (List A)
  number_is : length before ≡ number
  was_is : was ≡ before ++ old ∷ after
  now_is : now ≡ before ++ new ∷ after

swaps : {A : Type 0} (magazines : List (Vec A Global)) (number : ℕ) (old new : Vec A Global) → number < length magazines
    → slice_index_or magazines number old ≡ old → Swaps number old.items new.items (stacks_of magazines) (stacks_of (slice_set magazines number new))
swaps [] number old new within is = absurd (omega (arith, within))
swaps {A} (m ∷ ms) zero old new within is =
    record { before = []; after = stacks_of ms; number_is = refl; was_is = ap (λ (x : Vec A Global). x.items ∷ stacks_of ms) is; now_is = refl }
swaps (m ∷ ms) (suc number) old new within is =
    let rest = swaps ms number old new (omega (arith, within)) is in
    record {
      before = m.items ∷ rest.before;
      after = rest.after;
      number_is = ap suc rest.number_is;
      was_is = ap (λ xs. m.items ∷ xs) rest.was_is;
      now_is = ap (λ xs. m.items ∷ xs) rest.now_is;
    }

-- the stack of a class is the magazine with that number
stack-is : {A : Type 0} (magazines : List (Vec A Global)) (number : ℕ) (m : Vec A Global) → number < length magazines
    → slice_index_or magazines number m ≡ m → stack_at (stacks_of magazines) number ≡ m.items
stack-is [] number m within is = absurd (omega (arith, within))
stack-is {A} (x ∷ xs) zero m within is = ap (λ (y : Vec A Global). y.items) is
stack-is (x ∷ xs) (suc number) m within is = stack-is xs number m (omega (arith, within)) is

-- the magazine at a number is of its class, and so are all where one of this class is laid there
one-of : {A : Type 0} (need_of : A → Need) (first depth number class : ℕ) (magazines : List (Vec A Global)) (m : Vec A Global) → number < length magazines
    → class ≡ number + first → slice_index_or magazines number m ≡ m → AreMagazines need_of first depth magazines → IsMagazine need_of class depth m
one-of need_of first depth number class [] m within here is are = absurd (omega (arith, within))
one-of need_of first depth zero class (x ∷ xs) m within here is are =
    let same : first ≡ class = omega (arith, here) in
    subst (λ k. IsMagazine need_of k depth m) same (subst (IsMagazine need_of first depth) is are.0)
one-of need_of first depth (suc number) class (x ∷ xs) m within here is are =
    one-of need_of (suc first) depth number class xs m (omega (arith, within)) (omega (arith, here)) is are.1

with-one : {A : Type 0} (need_of : A → Need) (first depth number class : ℕ) (magazines : List (Vec A Global)) (m : Vec A Global)
    → class ≡ number + first → IsMagazine need_of class depth m → AreMagazines need_of first depth magazines
    → AreMagazines need_of first depth (slice_set magazines number m)
with-one need_of first depth number class [] m here is are = are
with-one need_of first depth zero class (x ∷ xs) m here is are =
    let same : class ≡ first = omega (arith, here) in (subst (λ k. IsMagazine need_of k depth m) same is, are.1)
with-one need_of first depth (suc number) class (x ∷ xs) m here is are =
    (are.0, with-one need_of (suc first) depth number class xs m (omega (arith, here)) is are.1)

-- magazines from a class on, and one more behind the others
pub magazines-more : {A : Type 0} (need_of : A → Need) (class depth number : ℕ) (magazines : List (Vec A Global)) (m : Vec A Global) → number ≡ length magazines + class
    → AreMagazines need_of class depth magazines → IsMagazine need_of number depth m → AreMagazines need_of class depth (magazines ++ m ∷ [])
magazines-more need_of class depth number [] m is are here =
    let same : number ≡ class = omega (arith, is) in (subst (λ k. IsMagazine need_of k depth m) same here, tt)
magazines-more need_of class depth number (x ∷ xs) m is are here =
    (are.0, magazines-more need_of (suc class) depth number xs m (omega (arith, is)) are.1 here)

pub empty-more : {A : Type 0} (magazines : List (Vec A Global)) (m : Vec A Global) → all_in (stacks_of magazines) ≡ [] → m.items ≡ []
    → all_in (stacks_of (magazines ++ m ∷ [])) ≡ []
empty-more {A} magazines m empty none =
    ap all_in (map-append (λ (x : Vec A Global). x.items) magazines (m ∷ []))
    ∙ flat_map-append (λ (stack : List A). stack) (stacks_of magazines) (m.items ∷ [])
    ∙ ap (λ (xs : List A). xs ++ (m.items ++ [])) empty ∙ ap (λ (xs : List A). xs ++ []) none

-- all of the stacks, of which one has one more
pub top-splits : {A : Type 0} (class : ℕ) (kept : A) (more less : List (List A)) → HasOnTop class kept more less → Splits kept (all_in more) (all_in less)
top-splits {A} class kept more less top =
    record {
      front = all_in top.before ++ top.stack;
      back = all_in top.after;
      with_it =
          ap all_in top.with_it ∙ flat_map-append (λ (stack : List A). stack) top.before ((top.stack ++ kept ∷ []) ∷ top.after)
          ∙ ap (λ (xs : List A). all_in top.before ++ xs) (append_assoc top.stack (kept ∷ []) (all_in top.after))
          ∙ sym (append_assoc (all_in top.before) top.stack (kept ∷ all_in top.after));
      without_it =
          ap all_in top.without_it ∙ flat_map-append (λ (stack : List A). stack) top.before (top.stack ∷ top.after)
          ∙ sym (append_assoc (all_in top.before) top.stack (all_in top.after));
    }

-- the one that leaves first is on top of the first magazine that has one
leaves-first : {A : Type 0} (kept : A) (before : List (List A)) (stack : List A) (after : List (List A))
    → ((k : ℕ) → k < length before → stack_at (before ++ (stack ++ kept ∷ []) ∷ after) k ≡ [])
    → leaving (before ++ (stack ++ kept ∷ []) ∷ after) ≡ kept ∷ leaving (before ++ stack ∷ after)
leaves-first {A} kept [] stack after empty = ap (λ (xs : List A). xs ++ leaving after) (reverse-append stack (kept ∷ []))
leaves-first kept (x ∷ before) stack after empty =
    let here : x ≡ [] = empty 0 (omega arith) in
    let rest = leaves-first kept before stack after (λ k within. empty (suc k) (omega (arith, within))) in
    rw here rest

pub first-leaves : {A : Type 0} (class : ℕ) (kept : A) (more less : List (List A)) → HasOnTop class kept more less
    → ((k : ℕ) → k < class → stack_at more k ≡ []) → leaving more ≡ kept ∷ leaving less
first-leaves {A} class kept more less top empty =
    let e : (k : ℕ) → k < length top.before → stack_at (top.before ++ (top.stack ++ kept ∷ []) ∷ top.after) k ≡ [] =
    λ k within. subst (λ (xs : List (List A)). stack_at xs k ≡ []) top.with_it (empty k (omega (arith, within, top.number))) in
    ap leaving top.with_it ∙ leaves-first kept top.before top.stack top.after e ∙ ap (λ (xs : List (List A)). kept ∷ leaving xs) (sym top.without_it)

-- none leaves where all stacks are empty
pub none-leaves : {A : Type 0} (stacks : List (List A)) → ((k : ℕ) → k < length stacks → stack_at stacks k ≡ []) → leaving stacks ≡ []
none-leaves [] empty = refl
none-leaves (x ∷ xs) empty =
    let here : x ≡ [] = empty 0 (omega arith) in
    let rest = none-leaves xs (λ k within. empty (suc k) (omega (arith, within))) in
    rw here rest

-- as many leave as there are
leaving-length : {A : Type 0} (stacks : List (List A)) → length (leaving stacks) ≡ length (all_in stacks)
leaving-length [] = refl
leaving-length (x ∷ xs) =
    length-append (reverse x) (leaving xs) ∙ (omega (arith, length-reverse x, leaving-length xs)) ∙ sym (length-append x (all_in xs))

nothing : {A : Type 0} (xs : List A) → length xs ≡ 0 → xs ≡ []
nothing [] none = refl
nothing (x ∷ xs) none = absurd (omega (arith, none))

pub none-left : {A : Type 0} (stacks : List (List A)) → leaving stacks ≡ [] → all_in stacks ≡ []
none-left stacks none = nothing (all_in stacks) (sym (leaving-length stacks) ∙ ap length none)

-- the stack of a class with one more on its top is one longer, and so are all stacks together
stack-there : {A : Type 0} (before after : List (List A)) (stack : List A) → stack_at (before ++ stack ∷ after) (length before) ≡ stack
stack-there [] after stack = refl
stack-there (x ∷ before) after stack = stack-there before after stack

pub top-here : {A : Type 0} (class : ℕ) (kept : A) (more less : List (List A)) → HasOnTop class kept more less
    → length (stack_at more class) ≡ length (stack_at less class) + 1
top-here {A} class kept more less top =
    let with_it : stack_at more class ≡ top.stack ++ kept ∷ [] =
    ap (λ (xs : List (List A)). stack_at xs class) top.with_it
    ∙ ap (λ (k : ℕ). stack_at (top.before ++ (top.stack ++ kept ∷ []) ∷ top.after) k) (sym top.number)
    ∙ stack-there top.before top.after (top.stack ++ kept ∷ []) in
    let without_it : stack_at less class ≡ top.stack =
    ap (λ (xs : List (List A)). stack_at xs class) top.without_it
    ∙ ap (λ (k : ℕ). stack_at (top.before ++ top.stack ∷ top.after) k) (sym top.number) ∙ stack-there top.before top.after top.stack in
    omega (arith, ap length with_it, ap length without_it, length-append top.stack (kept ∷ []))

pub top-all : {A : Type 0} (class : ℕ) (kept : A) (more less : List (List A)) → HasOnTop class kept more less
    → length (all_in more) ≡ length (all_in less) + 1
top-all class kept more less top =
    let split = top-splits class kept more less top in
    omega (
      arith,
      ap length split.with_it,
      ap length split.without_it,
      length-append split.front (kept ∷ split.back),
      length-append split.front split.back,
    )

-- one magazine of a class, and what it says of the class's stack
pub record Finds {A : Type 0} (need_of : A → Need) (depth class : ℕ) (magazines : List (Vec A Global)) (m : Vec A Global) : Type 0 where
  pub within : class < length magazines
  pub stack : stack_at (stacks_of magazines) class ≡ m.items
  pub is : IsMagazine need_of class depth m

pub found : {A : Type 0} (need_of : A → Need) (depth class : ℕ) (magazines : List (Vec A Global)) (m : Vec A Global) → class < CLASSES
    → AreForClasses need_of depth magazines → slice_index_or magazines class m ≡ m → Finds need_of depth class magazines m
found need_of depth class magazines m below are is =
    let within : class < length magazines = omega (arith, below, are.classes) in
    record {
      within = within;
      stack = stack-is magazines class m within is;
      is = one-of need_of 0 depth class class magazines m within (omega arith) is are.each;
    }

-- magazines with another one of its class
changed : {A : Type 0} (need_of : A → Need) (depth class : ℕ) (magazines : List (Vec A Global)) (m : Vec A Global)
    → AreForClasses need_of depth magazines → IsMagazine need_of class depth m → AreForClasses need_of depth (slice_set magazines class m)
changed need_of depth class magazines m are is =
    record {
      classes = length-set magazines class m ∙ are.classes;
      each = with-one need_of 0 depth class class magazines m (omega arith) is are.each;
    }

-- a magazine lost its last one, or was given one more
pub popped : {A : Type 0} (need_of : A → Need) (depth class : ℕ) (magazines : List (Vec A Global)) (old new : Vec A Global) (kept : A) → class < CLASSES
    → AreForClasses need_of depth magazines → slice_index_or magazines class old ≡ old → old.items ≡ new.items ++ kept ∷ []
    → vec_capacity new ≡ vec_capacity old
    → AreForClasses need_of depth (slice_set magazines class new) × (need_of kept ≡ Small class)
    × HasOnTop class kept (stacks_of magazines) (stacks_of (slice_set magazines class new))
popped {A} need_of depth class magazines old new kept below are is less room =
    let f = found need_of depth class magazines old below are is in
    let s = swaps magazines class old new f.within is in
    let long : length old.items ≡ length new.items + 1 = ap length less ∙ length-append new.items (kept ∷ []) in
    let of_class : A → Type 0 = λ a. need_of a ≡ Small class in
    let out = all-out of_class new.items [] kept (subst (All of_class) less f.is.each) in
    let m : IsMagazine need_of class depth new =
    record { few = omega (arith, long, f.is.few); room = omega (arith, room, f.is.room); each = subst (All of_class) (append-nil new.items) out.1 } in (
      changed need_of depth class magazines new are m,
      out.0,
      record {
        before = s.before;
        stack = new.items;
        after = s.after;
        number = s.number_is;
        with_it = s.was_is ∙ ap (λ (items : List A). s.before ++ items ∷ s.after) less;
        without_it = s.now_is;
      },
    )

pub pushed : {A : Type 0} (need_of : A → Need) (depth class : ℕ) (magazines : List (Vec A Global)) (old new : Vec A Global) (kept : A) → class < CLASSES
    → AreForClasses need_of depth magazines → slice_index_or magazines class old ≡ old → new.items ≡ old.items ++ kept ∷ []
    → vec_capacity new ≡ vec_capacity old → need_of kept ≡ Small class → length old.items < depth
    → AreForClasses need_of depth (slice_set magazines class new)
    × HasOnTop class kept (stacks_of (slice_set magazines class new)) (stacks_of magazines)
pushed {A} need_of depth class magazines old new kept below are is more room need few =
    let f = found need_of depth class magazines old below are is in
    let s = swaps magazines class old new f.within is in
    let long : length new.items ≡ length old.items + 1 = ap length more ∙ length-append old.items (kept ∷ []) in
    let of_class : A → Type 0 = λ a. need_of a ≡ Small class in
    let m : IsMagazine need_of class depth new = record {
      few = omega (arith, long, few);
      room = omega (arith, room, f.is.room);
      each = subst (All of_class) (sym more) (All-push of_class old.items kept f.is.each need);
    } in (
      changed need_of depth class magazines new are m,
      record {
        before = s.before;
        stack = old.items;
        after = s.after;
        number = s.number_is;
        with_it = s.now_is ∙ ap (λ (items : List A). s.before ++ items ∷ s.after) more;
        without_it = s.was_is;
      },
    )

-- a magazine has one for a need or has none, and has room for one or has none
pub for-or-not : {A : Type 0} (stacks : List (List A)) (need : Need) → HasOneFor stacks need ⊎ ¬ HasOneFor stacks need
for-or-not stacks (Small class) =
    elim (cases_lt 0 (length (stack_at stacks class))) [
      | inl some_there ↦ inl (class, refl, some_there)
      | inr none_there ↦
          inr (λ (other, is, has).
          let same : class ≡ other = let e : Small class ≡ Small other = is in cc in
          absurd (omega (arith, none_there, subst (λ k. 0 < length (stack_at stacks k)) (sym same) has)))
    ]
for-or-not stacks (Large units) = inr (λ (other, is, has). let e : Large units ≡ Small other = is in absurd (cc))
for-or-not stacks TooLarge = inr (λ (other, is, has). let e : TooLarge ≡ Small other = is in absurd (cc))

pub room-or-not : {A : Type 0} (depth : ℕ) (stacks : List (List A)) (need : Need) → HasRoomFor depth stacks need ⊎ ¬ HasRoomFor depth stacks need
room-or-not depth stacks (Small class) =
    elim (cases_lt (length (stack_at stacks class)) depth) [
      | inl some_there ↦ inl (class, refl, some_there)
      | inr none_there ↦
          inr (λ (other, is, has).
          let same : class ≡ other = let e : Small class ≡ Small other = is in cc in
          absurd (omega (arith, none_there, subst (λ k. length (stack_at stacks k) < depth) (sym same) has)))
    ]
room-or-not depth stacks (Large units) = inr (λ (other, is, has). let e : Large units ≡ Small other = is in absurd (cc))
room-or-not depth stacks TooLarge = inr (λ (other, is, has). let e : TooLarge ≡ Small other = is in absurd (cc))

-- no magazine has more than the depth says
pub stack-few : {A : Type 0} (need_of : A → Need) (class depth number : ℕ) (magazines : List (Vec A Global)) → AreMagazines need_of class depth magazines
    → length (stack_at (stacks_of magazines) number) ≤ depth
stack-few need_of class depth number [] are = omega arith
stack-few need_of class depth zero (m ∷ ms) are = are.0.few
stack-few need_of class depth (suc number) (m ∷ ms) are = stack-few need_of (suc class) depth number ms are.1
