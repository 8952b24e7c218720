-- The lists and what a caller holds, where an index goes from a stack to its hand or back; and the step that does it.
use Rattle.std.proofs.Common.{ℕ, false, None, ◌≡◌, ◌≢◌, ◌<◌, ◌≤◌, ◌+◌, List, ◌∷◌, length, refl, arith, ap, sym, subst, inl, inr, ◌∙◌, ◌==◌, ◌⊎◌, All, if◌then◌else◌, eq-eqb}
use Rattle.std.proofs.Common.{ne_eqb}
use Rattle.std.proofs.lemmas.Bool.{cases_eq, cond-true, cond-false}
use Rattle.sound_state.proofs.Common.{Geometry, CLASSES, anchor_of, HeadFields, head_of, info_of, WordName, name_of, after_action, descriptor_count, SeatFields, Writes}
use Rattle.sound_state.proofs.Common.{cases_name, occurs, Pile, Frames, Partials, head_name, Point, ErrandFields, settle_of, counts_cleared, raised, event_of, next_of}
use Rattle.sound_state.proofs.Common.{plan_point_of, State, Step, Moves, found_at, name_at, with_event, errand_frames, Holding, Kept, holds_of, waiting, partly_used}
use Rattle.sound_state.proofs.Common.{on_its_way, IsPartlyUsed, word_keeps, errand_has, full_keeps, Lists, IsListed, IsSoundWithoutCounts, IsSoundWith, turn_stage_of}
use Rattle.sound_state.proofs.Common.{word_stock, errand_stock, full_stock, stock_among, waits_in, sum_below, anchor_for, info_or_zero, word_reserves, errand_reserves}
use Rattle.sound_state.proofs.Common.{errand_keeps, errand_away, kept_among, reserved_among, one_if, pops_left, IsHead, head_word, head_of-head_word, list_of, lacks_frame}
use Rattle.sound_state.proofs.Common.{lacks_partial, turn_unframed, turn_unlisted, errand_pops}
use Rattle.packed_words.specs.declared.anchor.AnchorState.TheVariants as phase
use Rattle.word_table.specs.declared.name.WordName.TheVariants as name
use Rattle.sound_state.proofs.shared.PointLemmas.{kept_places}
use Rattle.sound_state.proofs.shared.ShownLemmas.{MayGuard, MayStand}
use Rattle.sound_state.proofs.shared.WonEffects.{settle-leads, LeadsTo}
use Rattle.sound_state.proofs.stacks.StackEffects.{Restacks, IsNoHead}
use Rattle.sound_state.proofs.shared.SuperblockEffects.{words-but}
use Rattle.sound_state.proofs.shared.StepLemmas.{PointGoes, at_point, found_from, goes-guards, may-step}
use Rattle.sound_state.proofs.shared.SumLemmas.{sum-same, sum-change, callers-moved}
use Rattle.sound_state.proofs.shared.KeepsSound.{silent-sound}
use Rattle.sound_state.proofs.shared.TieLemmas.{Excepts}
use Rattle.sound_state.proofs.shared.TurnEffects.{OwnCounts}
use Rattle.sound_state.proofs.SoundAfter.{restacked-sound}

-- the lists with another list for one stack
abbrev pub with_list : Lists → SeatFields → Pile → List ℕ → Lists
with_list l seat Frames xs = record { frames = xs; available = l.available; partials = l.partials }
with_list l seat Partials xs =
    record { frames = l.frames; available = l.available; partials = λ c. if c == seat.class then xs else l.partials c }

-- all stacks' lists but that of one are the same
abbrev pub OthersStay : SeatFields → Pile → Lists → Lists → Type 0
OthersStay seat pile l l' =
    (seat2 : SeatFields) (pile2 : Pile) → head_name seat2 pile2 ≢ head_name seat pile → list_of l' seat2 pile2 ≡ list_of l seat2 pile2

-- the lists l are the lists l' with an index in front of one stack
pub record OneMore (seat : SeatFields) (pile : Pile) (x : ℕ) (l l' : Lists) : Type 0 where
  pub available : l.available ≡ l'.available
  pub here : list_of l seat pile ≡ x ∷ list_of l' seat pile
  pub others : OthersStay seat pile l l'

list-here : (l : Lists) (seat : SeatFields) (pile : Pile) (xs : List ℕ) → list_of (with_list l seat pile xs) seat pile ≡ xs
list-here l seat Frames xs = refl
list-here l seat Partials xs = cond-true {A = List ℕ} (seat.class == seat.class) xs (l.partials seat.class) (eq-eqb seat.class seat.class refl)

pub list-elsewhere : (l : Lists) (seat : SeatFields) (pile : Pile) (xs : List ℕ) → OthersStay seat pile l (with_list l seat pile xs)
list-elsewhere l seat Frames xs seat2 Frames differ = absurd (differ refl)
list-elsewhere l seat Frames xs seat2 Partials differ = refl
list-elsewhere l seat Partials xs seat2 Frames differ = refl
list-elsewhere l seat Partials xs seat2 Partials differ =
    cond-false {A = List ℕ} (seat2.class == seat.class) xs (l.partials seat2.class)
    (ne_eqb seat2.class seat.class (λ e. differ (ap name.ListHead e)))

list-available : (l : Lists) (seat : SeatFields) (pile : Pile) (xs : List ℕ) → (with_list l seat pile xs).available ≡ l.available
list-available l seat Frames xs = refl
list-available l seat Partials xs = refl

-- a pop leaves the rest of a stack's list, and a push puts an index in front of it
pub more-popped :
    (l : Lists) (seat : SeatFields) (pile : Pile) (x : ℕ) (rest : List ℕ) → list_of l seat pile ≡ x ∷ rest
    → OneMore seat pile x l (with_list l seat pile rest)
more-popped l seat pile x rest is = grind (arith, is, list-available, list-elsewhere, list-here)

pub more-pushed :
    (l : Lists) (seat : SeatFields) (pile : Pile) (x : ℕ) → OneMore seat pile x (with_list l seat pile (x ∷ list_of l seat pile)) l
more-pushed l seat pile x = grind (arith, list-available, list-elsewhere, list-here, list_of)

-- a holding is another one with the index in hand
abbrev pub HoldsMore : SeatFields → Pile → ℕ → Holding → Holding → Type 0
HoldsMore seat Frames x h h' = (h'.kept ≡ h.kept) × (h'.frames ≡ x ∷ h.frames)
HoldsMore seat Partials x h h' =
    (h'.kept ≡ record { desc = x; class = seat.class; status = partly_used } ∷ h.kept) × (h'.frames ≡ h.frames)

-- the lists and a holding have together what others have
pub record Balanced (l l' : Lists) (h h' : Holding) : Type 0 where
  pub available : l'.available ≡ l.available
  pub frames : (f : ℕ) → occurs f l'.frames + occurs f h'.frames ≡ occurs f l.frames + occurs f h.frames
  pub places :
      (d : ℕ)
      → sum_below CLASSES (λ c. occurs d (l'.partials c)) + kept_places d h'.kept
      ≡ sum_below CLASSES (λ c. occurs d (l.partials c)) + kept_places d h.kept
  pub stock :
      (class : ℕ) → length (l'.partials class) + stock_among class h'.kept ≡ length (l.partials class) + stock_among class h.kept
  pub waits : (d : ℕ) → kept_among waiting d h'.kept ≡ kept_among waiting d h.kept
  pub ways : (d : ℕ) → kept_among on_its_way d h'.kept ≡ kept_among on_its_way d h.kept

pub balance-back : (l l' : Lists) (h h' : Holding) → Balanced l l' h h' → Balanced l' l h' h
balance-back l l' h h' b = grind (arith, b)

-- one more partly used superblock kept is in one place more, and in stock for its class once more
pub partly-kept-more :
    (d x class : ℕ) (ks : List Kept)
    → kept_places d (record { desc = x; class = class; status = partly_used } ∷ ks) ≡ (if x == d then 1 else 0) + kept_places d ks
partly-kept-more d x class ks = grind (arith)

waits-more :
    (d x class : ℕ) (ks : List Kept)
    → kept_among waiting d (record { desc = x; class = class; status = partly_used } ∷ ks) ≡ kept_among waiting d ks
waits-more d x class ks = grind (arith)

ways-more :
    (d x class : ℕ) (ks : List Kept)
    → kept_among on_its_way d (record { desc = x; class = class; status = partly_used } ∷ ks) ≡ kept_among on_its_way d ks
ways-more d x class ks = grind (arith)

-- the class of the list whose head the word is
abbrev pub list_class : WordName → ℕ
list_class (name.ListHead class) = class
list_class n = 0

-- the list of another class stays, where all stacks but one do
partials-stay :
    (seat : SeatFields) (l l' : Lists) → OthersStay seat Partials l l' → (c : ℕ) → c ≢ seat.class → l'.partials c ≡ l.partials c
partials-stay seat l l' others c differ =
    others (record seat { class = c }) Partials (λ same. differ (ap list_class same))

-- what goes from a stack to a hand is balanced
pub more-balanced :
    (seat : SeatFields) (pile : Pile) (x : ℕ) (l l' : Lists) (h h' : Holding) → seat.class < CLASSES → OneMore seat pile x l l'
    → HoldsMore seat pile x h h' → Balanced l l' h h'
more-balanced seat Frames x l l' h h' has one more =
    let partials : (c : ℕ) → l'.partials c ≡ l.partials c = λ c. one.others (record seat { class = c }) Partials (λ same. cc) in
    record {
      available = sym one.available;
      frames = λ f. omega (arith, ap (occurs f) one.here, ap (occurs f) more.1);
      places = λ d.
          omega (
            arith,
            sum-same CLASSES (λ c. occurs d (l.partials c)) (λ c. occurs d (l'.partials c)) (λ c lt. ap (occurs d) (partials c)),
            ap (kept_places d) more.0,
          );
      stock = λ class. omega (arith, ap (λ (xs : List ℕ). length xs) (partials class), ap (stock_among class) more.0);
      waits = λ d. ap (kept_among waiting d) more.0;
      ways = λ d. ap (kept_among on_its_way d) more.0;
    }
more-balanced seat Partials x l l' h h' has one more =
    let others : (c : ℕ) → c ≢ seat.class → l'.partials c ≡ l.partials c = partials-stay seat l l' one.others in
    let frames : l'.frames ≡ l.frames = one.others seat Frames (λ same. cc) in
    record {
      available = sym one.available;
      frames = λ f. omega (arith, ap (occurs f) frames, ap (occurs f) more.1);
      places = λ d.
          omega (
            arith,
            sum-change CLASSES (λ c. occurs d (l.partials c)) (λ c. occurs d (l'.partials c)) seat.class has
                (λ c lt differ. ap (occurs d) (others c differ)),
            ap (occurs d) one.here,
            ap (kept_places d) more.0,
            partly-kept-more d x seat.class h.kept,
          );
      stock = λ class.
          elim (cases_eq class seat.class) [
            | inl same ↦
                let longer : length (l.partials seat.class) ≡ 1 + length (l'.partials seat.class) = omega (arith, ap (λ (xs : List ℕ). length xs) one.here) in
                let own : length (l'.partials seat.class) + stock_among seat.class h'.kept ≡ length (l.partials seat.class) + stock_among seat.class h.kept =
                omega (arith, longer, ap (stock_among seat.class) more.0, cond-true {A = ℕ} (seat.class == seat.class) 1 0 (eq-eqb seat.class seat.class refl)) in
                subst (λ c. length (l'.partials c) + stock_among c h'.kept ≡ length (l.partials c) + stock_among c h.kept) (sym same) own
            | inr differ ↦
                omega (
                  arith,
                  ap (λ (xs : List ℕ). length xs) (others class differ),
                  ap (stock_among class) more.0,
                  cond-false {A = ℕ} (seat.class == class) 1 0 (ne_eqb seat.class class (λ e. differ (sym e))),
                )
          ];
      waits = λ d. ap (kept_among waiting d) more.0 ∙ waits-more d x seat.class h.kept;
      ways = λ d. ap (kept_among on_its_way d) more.0 ∙ ways-more d x seat.class h.kept;
    }

-- a pop that raises a tag is paid by the turn
abbrev pub PaysForTag : Pile → ℕ → ℕ → Point → Point → Type 0
PaysForTag Frames was now p q = now + one_if (lacks_frame (turn_stage_of q)) ≤ was + one_if (lacks_frame (turn_stage_of p))
PaysForTag Partials was now p q =
    now + pops_left q + one_if (lacks_partial (turn_stage_of q)) ≤ was + pops_left p + one_if (lacks_partial (turn_stage_of p))

-- a stack has another head, its list is that of the second lists, and all other lists stay
pub record NewList (g : Geometry) (s : State) (l : Lists) (seat : SeatFields) (pile : Pile) (new : HeadFields) (l' : Lists) : Type 0 where
  pub fits : IsHead new
  pub listed : (words' : WordName → ℕ) → Writes s.word (head_name seat pile) (head_word new) words' → IsListed g words' l'
  pub partly : (class : ℕ) → class < CLASSES → All (λ d. IsPartlyUsed s d class) (l'.partials class)
  pub tag : (head_of (s.word (head_name seat pile))).tag ≤ new.tag
  pub still :
      (head_of (s.word (head_name seat pile))).tag ≡ new.tag → (i : ℕ)
      → occurs i (list_of l seat pile) ≤ occurs i (list_of l' seat pile)
  pub others : OthersStay seat pile l l'

-- a step from p to q, with a won exchange of a head
pub record ShiftsHead (g : Geometry) (s : State) (l : Lists) (caller : ℕ) (p q : Point) (seat : SeatFields) (pile : Pile) (new : HeadFields)
    (l' : Lists) : Type 0 where
  pub leads : LeadsTo (next_of p (found_from s p)) q
  pub event : event_of caller p (found_from s p) ≡ None
  pub cleared : counts_cleared p (found_from s p) ≡ false
  pub head : name_of (plan_point_of p) ≡ head_name seat pile
  pub after : after_action (plan_point_of p) (s.word (name_of (plan_point_of p))) ≡ head_word new
  pub goes : PointGoes g s l caller p q
  pub list : NewList g s l seat pile new l'
  pub balanced : Balanced l l' (holds_of p) (holds_of q)
  pub credits : (holds_of q).credits ≡ (holds_of p).credits
  pub waits : (class : ℕ) → waits_in class q ≡ waits_in class p
  pub spends : PaysForTag pile (head_of (s.word (head_name seat pile))).tag new.tag p q

-- a head is no other word
pub no-head-apart : (seat : SeatFields) (pile : Pile) (n : WordName) → IsNoHead n → n ≢ head_name seat pile
no-head-apart seat Frames n is same = let bad : ⊥ = subst IsNoHead same is in bad
no-head-apart seat Partials n is same = let bad : ⊥ = subst IsNoHead same is in bad

-- a stack's head weighs nothing
reserves-none : (d : ℕ) (seat : SeatFields) (pile : Pile) (w : ℕ) → word_reserves d (head_name seat pile) w ≡ 0
reserves-none d seat Frames w = refl
reserves-none d seat Partials w = refl

head-keeps-none : (d : ℕ) (seat : SeatFields) (pile : Pile) (w : ℕ) → word_keeps d (head_name seat pile) w ≡ 0
head-keeps-none d seat Frames w = refl
head-keeps-none d seat Partials w = refl

stock-none : (class : ℕ) (seat : SeatFields) (pile : Pile) (w : ℕ) → word_stock class (head_name seat pile) w ≡ 0
stock-none class seat Frames w = refl
stock-none class seat Partials w = refl

-- each head's tag is what it was, or more, after a write of a head
tag-grows :
    (words words' : WordName → ℕ) (n m : WordName) (new : HeadFields) → IsHead new → Writes words n (head_word new) words'
    → (head_of (words n)).tag ≤ new.tag → (head_of (words m)).tag ≤ (head_of (words' m)).tag
tag-grows words words' n m new fits writes grows = grind (arith, fits, writes, grows, cases_name, head_of, head_of-head_word)

-- two stacks that have one head have one list
list-named :
    (P : List ℕ → List ℕ → Type 0) (l l' : Lists) (seat seat2 : SeatFields) (pile pile2 : Pile)
    → head_name seat2 pile2 ≡ head_name seat pile → P (list_of l seat pile) (list_of l' seat pile)
    → P (list_of l seat2 pile2) (list_of l' seat2 pile2)
list-named P l l' seat seat2 Frames Frames same is = is
list-named P l l' seat seat2 Frames Partials same is = absurd (cc)
list-named P l l' seat seat2 Partials Frames same is = absurd (cc)
list-named P l l' seat seat2 Partials Partials same is =
    subst (λ c. P (l.partials c) (l'.partials c)) (sym (ap list_class same)) is

still-listed :
    (s : State) (l l' : Lists) (seat seat2 : SeatFields) (pile pile2 : Pile) (new : HeadFields) (words' : WordName → ℕ)
    → IsHead new → Writes s.word (head_name seat pile) (head_word new) words' → OthersStay seat pile l l'
    → ((head_of (s.word (head_name seat pile))).tag ≡ new.tag → (i : ℕ) → occurs i (list_of l seat pile) ≤ occurs i (list_of l' seat pile))
    → (head_of (s.word (head_name seat2 pile2))).tag ≡ (head_of (words' (head_name seat2 pile2))).tag → (i : ℕ)
    → occurs i (list_of l seat2 pile2) ≤ occurs i (list_of l' seat2 pile2)
still-listed s l l' seat seat2 pile pile2 new words' fits writes others still same i =
    grind (arith, fits, writes, others, still, same, cases_name, head_name, head_of, head_of-head_word, list-named)

-- the turn pays for the tag of the frames' head, and for that of a class's
frame-spends :
    (s : State) (seat : SeatFields) (pile : Pile) (p q : Point) (new : HeadFields) (words' : WordName → ℕ) → IsHead new
    → Writes s.word (head_name seat pile) (head_word new) words' → PaysForTag pile (head_of (s.word (head_name seat pile))).tag new.tag p q
    → one_if (lacks_frame (turn_stage_of q)) ≤ one_if (lacks_frame (turn_stage_of p))
    → (head_of (words' name.FrameHead)).tag + one_if (lacks_frame (turn_stage_of q))
    ≤ (head_of (s.word name.FrameHead)).tag + one_if (lacks_frame (turn_stage_of p))
frame-spends s seat Frames p q new words' fits writes spends least =
    omega (arith, spends, ap (λ w. (head_of w).tag) writes.here, ap (λ (x : HeadFields). x.tag) (head_of-head_word new fits))
frame-spends s seat Partials p q new words' fits writes spends least =
    omega (arith, least, ap (λ w. (head_of w).tag) (writes.elsewhere name.FrameHead (λ same. cc)))

list-spends :
    (s : State) (seat : SeatFields) (pile : Pile) (p q : Point) (new : HeadFields) (words' : WordName → ℕ) (class : ℕ) → IsHead new
    → Writes s.word (head_name seat pile) (head_word new) words' → PaysForTag pile (head_of (s.word (head_name seat pile))).tag new.tag p q
    → pops_left q + one_if (lacks_partial (turn_stage_of q)) ≤ pops_left p + one_if (lacks_partial (turn_stage_of p))
    → (head_of (words' (name.ListHead class))).tag + pops_left q + one_if (lacks_partial (turn_stage_of q))
    ≤ (head_of (s.word (name.ListHead class))).tag + pops_left p + one_if (lacks_partial (turn_stage_of p))
list-spends s seat Frames p q new words' class fits writes spends least =
    omega (arith, least, ap (λ w. (head_of w).tag) (writes.elsewhere (name.ListHead class) (λ same. cc)))
list-spends s seat Partials p q new words' class fits writes spends least =
    elim (cases_eq class seat.class) [
      | inl same ↦
          subst
          (λ c. (head_of (words' (name.ListHead c))).tag + pops_left q + one_if (lacks_partial (turn_stage_of q))
          ≤ (head_of (s.word (name.ListHead c))).tag + pops_left p + one_if (lacks_partial (turn_stage_of p))) (sym same)
          (omega (arith, spends, ap (λ w. (head_of w).tag) writes.here, ap (λ (x : HeadFields). x.tag) (head_of-head_word new fits)))
      | inr differ ↦
          omega (arith, least, ap (λ w. (head_of w).tag) (writes.elsewhere (name.ListHead class) (λ e. differ (ap list_class e))))
    ]

-- the lists and an errand have together what others have, or less
pub record ErrandsBalanced (g : Geometry) (s : State) (l l' : Lists) (a b : ErrandFields) : Type 0 where
  pub available : l'.available ≡ l.available
  pub reserves : (d : ℕ) → errand_reserves d b ≡ errand_reserves d a
  pub waits : (d : ℕ) → errand_keeps waiting d b ≡ errand_keeps waiting d a
  pub ways : (d : ℕ) → errand_keeps on_its_way d b ≤ errand_keeps on_its_way d a
  pub away :
      (d : ℕ)
      → (errand_away d b ≡ errand_away d a) ⊎ (((anchor_for s d).state ≡ phase.Empty) × (errand_away d a ≤ errand_away d b))
  pub frames : (f : ℕ) → occurs f l'.frames + errand_frames f b ≡ occurs f l.frames + errand_frames f a
  pub places :
      (d : ℕ)
      → sum_below CLASSES (λ c. occurs d (l'.partials c)) + errand_has d b
      ≡ sum_below CLASSES (λ c. occurs d (l.partials c)) + errand_has d a
  pub stock :
      (class : ℕ) → length (l'.partials class) + errand_stock class b ≤ length (l.partials class) + errand_stock class a

-- a won exchange of a head, after which its caller goes on with this errand
pub record Exchanges (g : Geometry) (s : State) (l : Lists) (caller : ℕ) (seat : SeatFields) (pile : Pile) (new : HeadFields) (e : ErrandFields)
    (l' : Lists) : Type 0 where
  pub event : event_of caller (s.errand caller).point (found_from s (s.errand caller).point) ≡ None
  pub head : name_of (plan_point_of (s.errand caller).point) ≡ head_name seat pile
  pub after :
      after_action (plan_point_of (s.errand caller).point) (s.word (name_of (plan_point_of (s.errand caller).point))) ≡ head_word new
  pub settles : settle_of (s.errand caller) (found_at s caller) ≡ e
  pub may : MayStand g s l caller e
  pub guards : MayGuard g s caller e.point e.retired (s.word (name.Hazard caller))
  pub excepts : (place : ℕ) → Excepts (s.errand caller) place → Excepts e place
  pub counts : OwnCounts caller s.history e
  pub cleared : e.cleared ≡ (s.errand caller).cleared
  pub list : NewList g s l seat pile new l'
  pub balanced : ErrandsBalanced g s l l' (s.errand caller) e
  pub frame_turns :
      (words' : WordName → ℕ) → Writes s.word (head_name seat pile) (head_word new) words'
      → (head_of (words' name.FrameHead)).tag + turn_unframed e + (s.errand caller).turns
      ≤ (head_of (s.word name.FrameHead)).tag + turn_unframed (s.errand caller) + e.turns
  pub list_turns :
      (class : ℕ) (words' : WordName → ℕ) → Writes s.word (head_name seat pile) (head_word new) words'
      → (head_of (words' (name.ListHead class))).tag + errand_pops e + turn_unlisted e + (s.errand caller).turns
      ≤ (head_of (s.word (name.ListHead class))).tag + errand_pops (s.errand caller) + turn_unlisted (s.errand caller) + e.turns

-- what a won exchange of a head, after which its caller goes on so, changes
exchanges-restacks :
    (g : Geometry) (s : State) (l : Lists) (caller : ℕ) (s' : State) (seat : SeatFields) (pile : Pile) (new : HeadFields) (e : ErrandFields)
    (l' : Lists) → IsSoundWith g s l → caller < g.callers → Exchanges g s l caller seat pile new e l' → Step s caller s'
    → Restacks g s l caller e s' l'
exchanges-restacks g s l caller s' seat pile new e l' old has h step =
    let moves : Moves s.errand caller e s'.errand = subst (λ f. Moves s.errand caller f s'.errand) h.settles step.errand in
    let writes : Writes s.word (head_name seat pile) (head_word new) s'.word =
    subst (λ n. Writes s.word n (head_word new) s'.word) h.head (subst (λ v. Writes s.word (name_at s caller) v s'.word) h.after step.word) in
    let plain : (n : WordName) → IsNoHead n → s'.word n ≡ s.word n = λ n is. writes.elsewhere n (no-head-apart seat pile n is) in
    let callers = λ (weight : ErrandFields → ℕ). callers-moved g weight s.errand caller e s'.errand has moves in
    let words = λ (weight : WordName → ℕ → ℕ) (none : (w : ℕ) → weight (head_name seat pile) w ≡ 0).
    words-but g weight s.word s'.word (head_name seat pile) writes.elsewhere none in
    let anchor = λ (d : ℕ). ap anchor_of (plain (name.Anchor d) tt) in
    let b = h.balanced in
    record {
      in_heap = has;
      moves = moves;
      may = h.may;
      guards = h.guards;
      excepts = h.excepts;
      counts = h.counts;
      cleared = h.cleared;
      word = plain;
      history = step.history ∙ ap (with_event s.history) h.event;
      listed = h.list.listed s'.word writes;
      available = b.available;
      partly = h.list.partly;
      reserved = λ d.
          omega (arith, words (word_reserves d) (reserves-none d seat pile), callers (errand_reserves d), b.reserves d);
      waits = λ d. omega (arith, callers (errand_keeps waiting d), b.waits d);
      ways = λ d. omega (arith, callers (errand_keeps on_its_way d), b.ways d);
      away = λ d.
          elim (b.away d) [
            | inl same ↦ inl (omega (arith, callers (errand_away d), same))
            | inr more ↦ inr (more.0, omega (arith, callers (errand_away d), more.1))
          ];
      places = λ d.
          omega (
            arith,
            words (word_keeps d) (head-keeps-none d seat pile),
            callers (errand_has d),
            b.places d,
            ap (occurs d) b.available,
            ap (λ a. full_keeps a.state) (anchor d),
          );
      frames = λ f. omega (arith, callers (errand_frames f), b.frames f);
      stock = λ class.
          let full : sum_below (descriptor_count g) (full_stock s' class) ≡ sum_below (descriptor_count g) (full_stock s class) =
          sum-same (descriptor_count g) (full_stock s class) (full_stock s' class)
          (λ d lt. rw (anchor d, ap (λ x. info_or_zero (info_of x)) (plain (name.Info d) tt)) refl) in
          omega (arith, words (word_stock class) (stock-none class seat pile), callers (errand_stock class), b.stock class, full);
      tag = λ seat2 pile2. tag-grows s.word s'.word (head_name seat pile) (head_name seat2 pile2) new h.list.fits writes h.list.tag;
      still = λ seat2 pile2.
          still-listed s l l' seat seat2 pile pile2 new s'.word h.list.fits writes h.list.others h.list.still;
      frame_turns = h.frame_turns s'.word writes;
      list_turns = λ class. h.list_turns class s'.word writes;
    }

-- a step that exchanges a head keeps the state sound, with other lists
pub exchanges-sound :
    (g : Geometry) (s : State) (caller : ℕ) (s' : State) (seat : SeatFields) (pile : Pile) (new : HeadFields) → IsSoundWithoutCounts g s
    → caller < g.callers
    → ((l : Lists) → IsSoundWith g s l → (l' : Lists) × (e : ErrandFields) × Exchanges g s l caller seat pile new e l') → Step s caller s'
    → IsSoundWithoutCounts g s'
exchanges-sound g s caller s' seat pile new sound has h step =
    let l = sound.parts.0 in
    let old = sound.parts.1 in
    let found = h l old in
    let past : s'.history ≡ s.history = step.history ∙ ap (with_event s.history) found.2.event in
    silent-sound g s caller s' found.0 sound has step past
    (restacked-sound (exchanges-restacks g s l caller s' seat pile new found.1 found.0 old has found.2 step) old)

-- a step from a point to a point that shifts a stack's head is an exchange of that head
shifts-exchanges :
    (g : Geometry) (s : State) (l : Lists) (caller : ℕ) (q : Point) (seat : SeatFields) (pile : Pile) (new : HeadFields)
    (l' : Lists) → IsSoundWith g s l → caller < g.callers → ShiftsHead g s l caller (s.errand caller).point q seat pile new l'
    → Exchanges g s l caller seat pile new (at_point (s.errand caller) (found_at s caller) q) l'
shifts-exchanges g s l caller q seat pile new l' old has h =
    let e = at_point (s.errand caller) (found_at s caller) q in
    let after : settle_of (s.errand caller) (found_at s caller) ≡ e = settle-leads (s.errand caller) (found_at s caller) q h.leads in
    let may = may-step g s l caller (found_at s caller) q old has h.cleared h.goes.stands in
    record {
      event = h.event;
      head = h.head;
      after = h.after;
      settles = after;
      may = may.stands;
      guards = goes-guards g s l caller q e.retired (s.word (name.Hazard caller)) old.guarded has refl h.goes;
      excepts = h.goes.stands.excepts;
      counts = may.counts.own;
      cleared = ap (λ b. raised b (s.errand caller).cleared) h.cleared;
      list = h.list;
      balanced = record {
        available = h.balanced.available;
        reserves = λ d. ap (reserved_among d) h.credits;
        waits = h.balanced.waits;
        ways = λ d. omega (arith, h.balanced.ways d);
        away = λ d. inl (omega (arith, h.balanced.ways d));
        frames = h.balanced.frames;
        places = λ d. omega (arith, h.balanced.places d);
        stock = λ class. omega (arith, h.balanced.stock class, h.waits class);
      };
      frame_turns = λ words' writes.
          omega (arith, frame-spends s seat pile (s.errand caller).point q new words' h.list.fits writes h.spends h.goes.stands.turn.unframed);
      list_turns = λ class words' writes.
          omega (arith, list-spends s seat pile (s.errand caller).point q new words' class h.list.fits writes h.spends h.goes.stands.turn.pops);
    }

-- a step from p to q that shifts a stack's head keeps the state sound, with other lists
pub shifts-sound :
    (g : Geometry) (s : State) (caller : ℕ) (s' : State) (p q : Point) (seat : SeatFields) (pile : Pile) (new : HeadFields) → IsSoundWithoutCounts g s
    → caller < g.callers → (s.errand caller).point ≡ p
    → ((l : Lists) → IsSoundWith g s l → (l' : Lists) × ShiftsHead g s l caller p q seat pile new l') → Step s caller s' → IsSoundWithoutCounts g s'
shifts-sound g s caller s' p q seat pile new sound has stands h step =
    exchanges-sound g s caller s' seat pile new sound has
    (λ l old.
    let found = h l old in
    let shifts : ShiftsHead g s l caller (s.errand caller).point q seat pile new found.0 =
    subst (λ r. ShiftsHead g s l caller r q seat pile new found.0) (sym stands) found.1 in
    (found.0, at_point (s.errand caller) (found_at s caller) q, shifts-exchanges g s l caller q seat pile new found.0 old has shifts)) step
