-- What a caller still expects after a step: what it expected of other words, and what its load sees.
use Rattle.std.proofs.Common.{ℕ, suc, true, Option, Some, None, ◌≡◌, ◌≢◌, ◌+◌, ◌<◌, ◌^◌, List, [], ◌∷◌, get_or, refl, arith, sym, subst, ◌∙◌, inl, inr}
use Rattle.std.specs.Prelude.{All, Any, ◌==◌, not, IsTrue}
use Rattle.std.specs.List.{AllByRecursion}
use Rattle.std.proofs.lemmas.List.Elements.{All-nil, All-cons, All-from_recursion}
use Rattle.std.proofs.lemmas.List.{get_or_default}
use Rattle.sound_state.proofs.Common.{Geometry, AnchorFields, anchor_word, WordName, name_of, SeatFields, active_name, Continuation, Point, plan_point_of}
use Rattle.word_table.specs.declared.action.Action.{Action}
use Rattle.word_table.specs.declared.action.Action.TheVariants as action
use Rattle.word_table.specs.declared.name.WordName.TheVariants as name
use Rattle.packed_words.proofs.AnchorLemmas.{anchor_word-anchor_of}
use Rattle.word_table.specs.Actions.{found_by}
use Rattle.word_table.specs.Seats.{desc_named, anchor_in}
use Rattle.errand_steps.specs.Continuations.{is_alloc}
use Rattle.errand_steps.specs.tables.Expected.{Expected, expect, continuation_expects, none_active}
use Rattle.sound_laws.specs.bounds.Expectations.{expects_of}
use Rattle.sound_laws.proofs.bounds_lemmas.WinDefs.{IsSeen, MayExpect, found_in}

-- the caller expects this among others
abbrev pub IsIn : List Expected → Expected → Type 0
IsIn xs e = Any (λ x. x ≡ e) xs

-- a property that an element has is had by its list: by the first one's, or by one of the rest
pub any-first : {X : Type 0} (P : X → Type 0) (x : X) (xs : List X) → P x → Any P (x ∷ xs)
any-first P x xs p = (0, x, omega arith, refl, p)

pub any-rest : {X : Type 0} (P : X → Type 0) (x : X) (xs : List X) → Any P xs → Any P (x ∷ xs)
any-rest P x xs a = (suc a.0, a.1, omega (arith, a.2), a.3, a.4)

-- of a list whose elements all have a property, the one that has another has both
pub some-all : {X : Type 0} (P Q : X → Type 0) (xs : List X) → All P xs → Any Q xs → (x : X) × P x × Q x
some-all P Q xs all some = (some.1, subst P some.3 (all some.0 some.1 some.2), some.4)

-- a property that all expectations of a list have is had by each of them
pub in-all : (P : Expected → Type 0) (xs : List Expected) (e : Expected) → All P xs → IsIn xs e → P e
in-all P xs e all has = let (x, h, is) = some-all P (λ x. x ≡ e) xs all has in subst P is h

-- each element of a list is one of it, and of a list with one more in front
pub all-in : (xs : List Expected) → All (IsIn xs) xs
all-in xs k d lt = (k, get_or xs k d, lt, get_or_default xs k (get_or xs k d) d lt, refl)

pub all-in_rest : (e : Expected) (xs : List Expected) → All (IsIn (e ∷ xs)) xs
all-in_rest e xs k d lt = any-rest (λ x. x ≡ get_or xs k d) e xs (all-in xs k d lt)

-- what is expected by what waits behind a part is of the active word
pub continuation-active : (s : SeatFields) (o : Continuation) → All (λ e. e.word ≡ active_name s) (continuation_expects s o)
continuation-active s o = All-from_recursion (λ e. e.word ≡ active_name s) (continuation_expects s o) (grind (arith))

-- a step from the point that finds v carries or sees this expectation; all of a list
abbrev pub MayOne : Point → ℕ → Expected → Type 0
MayOne p v = MayExpect p (plan_point_of p) (found_in p v)

abbrev pub MayAll : Point → ℕ → List Expected → Type 0
MayAll p v = All (MayOne p v)

-- a step sees this word so, or leaves it so
abbrev pub SeesAs : Point → ℕ → WordName → ℕ → Type 0
SeesAs p v word value = IsSeen (plan_point_of p) (found_in p v) (record { word = word; value = value })

-- expectations of other words than the step's are carried
pub all-carried :
    (p : Point) (v : ℕ) (es : List Expected) → All (IsIn (expects_of p)) es → All (λ e. e.word ≢ name_of (plan_point_of p)) es → MayAll p v es
all-carried p v es within apart k d lt = inl (within k d lt, apart k d lt)

-- none of the expectations is of the step's word
abbrev pub AllApart : Point → List Expected → Type 0
AllApart p es = AllByRecursion (λ e. e.word ≢ name_of (plan_point_of p)) es

-- all that was expected is carried, but the first, where it is of no word of the step
pub rest-carried : (p : Point) (v : ℕ) (e : Expected) (es : List Expected) → expects_of p ≡ e ∷ es → AllApart p es → MayAll p v es
rest-carried p v e es is apart =
    all-carried p v es (rw is (all-in_rest e es)) (All-from_recursion (λ e. e.word ≢ name_of (plan_point_of p)) es apart)

-- what a step surely leaves expected: all, unless it exchanges, or reads again which descriptor is on top
abbrev pub unmoved : Action → List Expected → List Expected
unmoved (action.Cas n e new) es = []
unmoved (action.Load name.DescHead) es = []
unmoved a es = es

-- what a step surely leaves expected was expected before
unmoved-in : (a : Action) (es : List Expected) → All (IsIn es) (unmoved a es)
unmoved-in (action.Cas n e new) es = All-nil (IsIn es)
unmoved-in (action.Load name.DescHead) es = All-nil (IsIn es)
unmoved-in a es = all-in es

-- a step carries what it surely leaves expected, where it is on none of those words
pub unmoved-carried :
    (p : Point) (v : ℕ) (es : List Expected) → expects_of p ≡ es → AllApart p (unmoved (plan_point_of p) es)
    → MayAll p v (unmoved (plan_point_of p) es)
unmoved-carried p v es is apart =
    let kept = unmoved (plan_point_of p) es in
    all-carried p v kept (rw is (unmoved-in (plan_point_of p) es)) (All-from_recursion (λ e. e.word ≢ name_of (plan_point_of p)) kept apart)

-- what waits behind a part is of no other word than an active one
pub continuation-apart : (n : WordName) (s : SeatFields) (o : Continuation) → active_name s ≢ n → All (λ e. e.word ≢ n) (continuation_expects s o)
continuation-apart n s o apart k d lt = λ is. apart (sym (continuation-active s o k d lt) ∙ is)

-- a step on another word carries it
pub continuation-carried :
    (p : Point) (v : ℕ) (s : SeatFields) (o : Continuation) → All (IsIn (expects_of p)) (continuation_expects s o)
    → active_name s ≢ name_of (plan_point_of p) → MayAll p v (continuation_expects s o)
continuation-carried p v s o within apart = all-carried p v (continuation_expects s o) within (continuation-apart (name_of (plan_point_of p)) s o apart)

-- what the step sees, and expectations that it carries or sees, are so together
pub seen-more :
    (p : Point) (v : ℕ) (word : WordName) (value : ℕ) (es : List Expected) → SeesAs p v word value → MayAll p v es → MayAll p v (expect word value es)
seen-more p v word value es seen rest =
    All-cons (MayOne p v) (record { word = word; value = value }) es (inr seen) rest

-- a load sees the number that its word says
pub load-sees : (p : Point) (v : ℕ) (n : WordName) (w : ℕ) → plan_point_of p ≡ action.Load n → v ≡ w → SeesAs p v n w
load-sees p v n w loads is =
    subst (λ a. IsSeen a (found_by a v) (record { word = n; value = w })) (sym loads) (record { word = refl; value = is; kept = refl; noted = refl })

pub load-seen :
    (p : Point) (v : ℕ) (n : WordName) (w : ℕ) (es : List Expected) → plan_point_of p ≡ action.Load n → v ≡ w → MayAll p v es
    → MayAll p v (expect n w es)
load-seen p v n w es loads is rest = seen-more p v n w es (load-sees p v n w loads is) rest

-- a step carries and sees all that is expected, where that is nothing
pub expects-none : (p : Point) (v : ℕ) → MayAll p v []
expects-none p v = All-nil (MayOne p v)

-- what holds of both forms that an optional value may have holds of it
pub option_both : {A B : Type 0} (f : Option A → B) (o : Option A) (P : B → Type 0) → P (f None) → ((a : A) → o ≡ Some a → P (f (Some a))) → P (f o)
option_both f None P none some = none
option_both f (Some a) P none some = some a refl

-- a lost exchange finds another number than its own
pub lost-differs : (v e : ℕ) → not (v == e) ≡ true → v ≢ e
lost-differs v e lost = λ is. absurd (grind (arith, lost, is))

-- a descriptor that a number names
pub named-desc : (g : Geometry) (v d : ℕ) → desc_named g v ≡ Some d → v ≡ d + 1
named-desc g v d is = grind (arith, is)

-- a word that says an anchor of the class is that anchor's word
pub read-anchor : (class v : ℕ) (a : AnchorFields) → v < 2 ^ 64 → anchor_in class v ≡ Some a → v ≡ anchor_word a
read-anchor class v a below is = grind (arith, is, anchor_word-anchor_of v below)

-- an allocation at work expects that no superblock is active
pub alloc-active :
    (P : Expected → Type 0) (s : SeatFields) (o : Continuation) → IsTrue (is_alloc o) → All P (continuation_expects s o) → All P (none_active s)
alloc-active P s o goes rest = grind (arith, goes, rest)
