-- The blocks that registers hold stay their caller's, through whole calls of whoever makes them.
use Rattle.std.proofs.Common.{ℕ, zero, suc, ◌≡◌, ◌≢◌, ◌∷◌, ◌++◌, List, [], Option, Some, None, inl, inr, refl, sym, ap, ◌∙◌, subst, vec_capacity}
use Rattle.trace_lane.proofs.Common.{Need, Reply, Call, LeadsBy, Made, Op, HeldBlock, Outcome, LaneState, Maker, KeepBlocks, Deed, Makes, AllMade, HoldsBlocks, MadeFor}
use Rattle.trace_lane.proofs.Common.{alloc, free, put, answered, slice_index_or, option_map, leads-split, held_in, registers_after, held_blocks, held_by, slice_set}
use Rattle.trace_lane.proofs.Common.{cases_eq, length-set, set-set, deed_of, register_of, registers_from}
use Rattle.std.specs.Prelude.{◌⊎◌}
use Rattle.std.proofs.lemmas.List.{get_or-set_other}
use Rattle.heap_geometry.specs.Need.{need_of}
use Rattle.errand_steps.specs.declared.reply.Reply.TheVariants as reply
use Rattle.lane_outcomes.specs.Deeds.{registers_by}
use Rattle.lane_outcomes.specs.Deeds as deed
use Rattle.trace_lane.proofs.OperationLemmas.{GivesAway, HandlesBy, HandsOut, made-handles}
use Rattle.trace_lane.proofs.EachCall.{AllCalls, HoldsAll, held_need, held_place, leads-keep, IsLight, Leaves, all-light, leaves}
use Rattle.trace_lane.proofs.PartLemmas.{blocks-size, slot-full, slot-held}

-- a register that was set holds what it was set to, and the others what they held
set-here :
    (registers : List (Option HeldBlock)) (r : ℕ) (slot : Option HeldBlock) (held : HeldBlock) → held_in (slice_set registers r slot) r ≡ Some held
    → slot ≡ Some held
set-here [] r slot held is = absurd (cc)
set-here (first ∷ registers) zero slot held is = is
set-here (first ∷ registers) (suc r) slot held is = set-here registers r slot held is

at-set :
    (registers : List (Option HeldBlock)) (r q : ℕ) (slot : Option HeldBlock) (held : HeldBlock) → held_in (slice_set registers r slot) q ≡ Some held
    → ((q ≡ r) × (slot ≡ Some held)) ⊎ ((q ≢ r) × (held_in registers q ≡ Some held))
at-set registers r q slot held is =
    elim (cases_eq q r) [
      | inl same ↦ inl (same, set-here registers r slot held (ap (held_in (slice_set registers r slot)) (sym same) ∙ is))
      | inr differ ↦ inr (differ, sym (get_or-set_other registers r q slot None differ) ∙ is)
    ]

module _ (owns after : ℕ → Need → Type 0) (registers : List (Option HeldBlock)) (holds : HoldsBlocks held_place held_need owns registers) where
  -- the registers as they were, with all blocks still the caller's
  pub holds-still : ((place : ℕ) (need : Need) → owns place need → after place need) → HoldsBlocks held_place held_need after registers
  holds-still keep =
      record { size = holds.size; owned = λ r held full. keep held.place held.need (holds.owned r held full); once = holds.once }

  -- a block that is given away leaves its register
  pub holds-emptied :
      (r : ℕ) (held : HeldBlock) → held_in registers r ≡ Some held → ((place : ℕ) (need : Need) → place ≢ held.place → owns place need → after place need)
      → HoldsBlocks held_place held_need after (slice_set registers r None)
  holds-emptied r held full keep =
      let was : (q : ℕ) (other : HeldBlock) → held_in (slice_set registers r None) q ≡ Some other → (q ≢ r) × (held_in registers q ≡ Some other) =
      λ q other is.
      elim (at-set registers r q None other is) [
        | inl here ↦ absurd (let none : None ≡ Some other = here.1 in cc)
        | inr there ↦ there
      ] in
      record {
        size = length-set registers r None ∙ holds.size;
        owned = λ q other is. let w = was q other is in keep other.place other.need (holds.once q r other held w.1 full w.0) (holds.owned q other w.1);
        once = λ q k other another is are. holds.once q k other another (was q other is).1 (was k another are).1;
      }

  -- a block that is handed out goes into a register
  pub holds-filled :
      (r : ℕ) (held : HeldBlock) → ((place : ℕ) (need : Need) → owns place need → after place need) → after held.place held.need
      → ((q : ℕ) (other : HeldBlock) → q ≢ r → held_in registers q ≡ Some other → other.place ≢ held.place)
      → HoldsBlocks held_place held_need after (slice_set registers r (Some held))
  holds-filled r held keep mine apart = record {
    size = length-set registers r (Some held) ∙ holds.size;
    owned = λ q other is.
        elim (at-set registers r q (Some held) other is) [
          | inl here ↦ let same : held ≡ other = let e = here.1 in cc in subst (λ (h : HeldBlock). after h.place h.need) same mine
          | inr there ↦ keep other.place other.need (holds.owned q other there.1)
        ];
    once = λ q k other another is are differ.
        elim (at-set registers r q (Some held) other is) [
          | inl here ↦
              let same : held ≡ other = let e = here.1 in cc in
              elim (at-set registers r k (Some held) another are) [
                | inl too ↦ absurd (differ (here.0 ∙ sym too.0))
                | inr past ↦ λ e. apart k another past.0 past.1 (sym e ∙ ap held_place (sym same))
              ]
          | inr there ↦ elim (at-set registers r k (Some held) another are) [
            | inl here ↦
                let same : held ≡ another = let e = here.1 in cc in λ e. apart q other there.0 there.1 (e ∙ ap held_place (sym same))
            | inr past ↦ holds.once q k other another there.1 past.1 differ
          ]
        ];
  }

module _ {S : Type 0} {called : S → Call → Reply → S → Type 0} {owns : S → ℕ → Need → Type 0} (laws : KeepBlocks called owns) where
  module _ (c d : S) (registers : List (Option HeldBlock)) (holds : HoldsAll owns c registers) where
    still : (made : List Made) → LeadsBy called c made d → ((place : ℕ) → AllCalls (Leaves place) made) → HoldsAll owns d registers
    still made leads leave = holds-still (owns c) (owns d) registers holds (λ place need. leads-keep laws c d made place need leads (leave place))

    emptied : (r : ℕ) (slot : Option HeldBlock) (made : List Made) → held_in registers r ≡ slot → GivesAway slot made → LeadsBy called c made d
        → HoldsAll owns d (slice_set registers r None)
    emptied r slot made is (held, full, call, answer, calls, leave) leads =
        holds-emptied (owns c) (owns d) registers holds r held (is ∙ full)
        (λ place need differ. leads-keep laws c d (answered call answer ∷ []) place need (subst (λ ms. LeadsBy called c ms d) calls leads) (leave place differ, tt))

    handed :
        (r : ℕ) (held : HeldBlock) (made : List Made) → HandsOut held.place held.need made → LeadsBy called c made d
        → HoldsAll owns d (slice_set registers r (Some held))
    handed r held made (first, call, answer, rest, calls, hands, leave, light_first, light_rest) leads =
        let parts = leads-split called c d first (answered call answer ∷ rest) (subst (λ ms. LeadsBy called c ms d) calls leads) in
        let t = parts.0 in
        let (u, one, more) = parts.2 in
        let before = λ (place : ℕ) (n : Need). leads-keep laws c t first place n parts.1 (all-light (leaves place) first light_first) in
        let later = λ (place : ℕ) (n : Need). leads-keep laws u d rest place n more (all-light (leaves place) rest light_rest) in
        holds-filled (owns c) (owns d) registers holds r held
        (λ place n owned. later place n (laws.keeps t u call answer place n one (leave place) (before place n owned)))
        (later held.place held.need (laws.hands t u call answer held.place held.need one hands))
        (λ q other differ there.
        laws.apart t u call answer held.place other.place held.need other.need one hands (before other.place other.need (holds.owned q other there)))

    resized :
        (r need : ℕ) (old new : HeldBlock) (copies : List Made) → held_in registers r ≡ Some old → AllCalls IsLight copies
        → LeadsBy called c (answered (alloc need) (reply.Given new.place new.need) ∷ copies ++ answered (free old.place old.need) reply.Freed ∷ []) d
        → HoldsAll owns d (slice_set registers r (Some new))
    resized r need old new copies full light_copies (t, one, leads) =
        let answer : Reply = reply.Given new.place new.need in
        let release = free old.place old.need in
        let parts = leads-split called t d copies (answered release reply.Freed ∷ []) leads in
        let u = parts.0 in
        let freed : called u release reply.Freed d = subst (λ x. called u release reply.Freed x) (sym parts.2.2) parts.2.1 in
        let apart = λ (other : ℕ) (had : Need). laws.apart c t (alloc need) answer new.place other new.need had one (refl, refl) in
        let later = λ (place : ℕ) (n : Need) (differ : place ≢ old.place) (owned : owns t place n).
        laws.keeps u d release reply.Freed place n freed differ
        (leads-keep laws t u copies place n parts.1 (all-light (leaves place) copies light_copies) owned) in
        let differ : new.place ≢ old.place = λ e. apart old.place old.need (holds.owned r old full) (sym e) in
        let gone = holds-emptied (owns c) (owns d) registers holds r old full
        (λ place n not owned. later place n not (laws.keeps c t (alloc need) answer place n one tt owned)) in
        let gone_here = holds-emptied (owns c) (owns c) registers holds r old full (λ place n not owned. owned) in
        subst (HoldsAll owns d) (set-set registers r None (Some new))
        (holds-filled (owns d) (owns d) (slice_set registers r None) gone r new (λ place n owned. owned)
        (later new.place new.need differ (laws.hands c t (alloc need) answer new.place new.need one (refl, refl)))
        (λ q other not there. apart other.place other.need (gone_here.owned q other there)))

    -- what a deed makes of the registers' blocks
    deed-holds : (r : ℕ) (done : Deed) (slot : Option HeldBlock) (made : List Made) → held_in registers r ≡ slot → HandlesBy slot done made
        → LeadsBy called c made d → HoldsAll owns d (registers_by registers r done)
    deed-holds r (deed.gives need v words place) slot made is handles leads =
        handed r (record { place = place; words = words; need = need_of need }) made handles leads
    deed-holds r (deed.takes words place need) slot made is handles leads =
        handed r (record { place = place; words = words; need = need }) made handles leads
    deed-holds r (deed.replaces need words place) slot made is (held, full, copies, light_copies, calls) leads =
        resized r need held (record { place = place; words = words; need = need_of need }) copies (is ∙ full) light_copies
        (subst (λ ms. LeadsBy called c ms d) calls leads)
    deed-holds r deed.frees slot made is handles leads = emptied r slot made is handles leads
    deed-holds r deed.lays slot made is handles leads = emptied r slot made is handles leads
    deed-holds r (deed.refuses need) slot made is calls leads = still made leads (λ at. subst (AllCalls (Leaves at)) (sym calls) (tt, tt))
    deed-holds r (deed.spends need) slot made is calls leads = still made leads (λ at. subst (AllCalls (Leaves at)) (sym calls) (tt, tt))
    deed-holds r deed.stays slot made is handles leads =
        elim handles [
          | inl stays ↦ still made leads (λ at. all-light (leaves at) made stays)
          | inr back ↦
              let (place, need, shelf, found, calls) = back in
              let one = subst (λ ms. LeadsBy called c ms d) calls leads in
              let came : called c (put place need shelf) (reply.Full found) d =
              subst (λ x. called c (put place need shelf) (reply.Full found) x) (sym one.2) one.1 in
              holds-still (owns c) (owns d) registers holds (λ at had. laws.back c d place need shelf found at had came)
        ]

  -- an operation that was made leaves blocks of the caller's in the registers
  pub op-holds :
      (c d : S) (registers : List (Option HeldBlock)) (operation : Op) (result : Outcome) (slot : Option HeldBlock) (made : List Made) → HoldsAll owns c registers
      → held_in registers (register_of operation) ≡ slot → MadeFor slot operation result made → LeadsBy called c made d
      → HoldsAll owns d (registers_after registers operation result)
  op-holds c d registers operation result slot made holds is for =
      deed-holds c d registers holds (register_of operation) (deed_of operation result) slot made is (made-handles operation result slot made for)

  -- so do operations
  pub all-hold :
      (c d : S) (registers : List (Option HeldBlock)) (operations : List Op) (results : List Outcome) → HoldsAll owns c registers
      → AllMade called registers operations results c d → HoldsAll owns d (registers_from registers operations results)
  all-hold c d registers operations [] holds same = subst (λ x. HoldsAll owns x registers) (sym same) holds
  all-hold c d registers [] (result ∷ results) holds all = absurd all
  all-hold c d registers (operation ∷ operations) (result ∷ results) holds (t, (made, for, leads), all) =
      all-hold t d (registers_after registers operation result) operations results
      (op-holds c t registers operation result (held_in registers (register_of operation)) made holds refl for leads) all

-- blocks in hand are held where they are as a register's
module _ {B : Type 0} (place_of : B → ℕ) (need_of_block : B → Need) (owns : ℕ → Need → Type 0) (blocks : List (Option B)) where
  in-hand :
      (r : ℕ) (held : HeldBlock) (slot : Option B) → slice_index_or blocks r None ≡ slot → option_map (held_by place_of need_of_block) slot ≡ Some held
      → (block : B) × (slice_index_or blocks r None ≡ Some block) × (held_by place_of need_of_block block ≡ held)
  in-hand r held None is same = absurd (let none : None ≡ Some held = same in cc)
  in-hand r held (Some block) is same =
      (block, is, (let both : Some (held_by place_of need_of_block block) ≡ Some held = same in cc))

  pub hold-held : HoldsBlocks place_of need_of_block owns blocks → HoldsBlocks held_place held_need owns (held_blocks place_of need_of_block blocks)
  hold-held holds =
      let of = λ (r : ℕ) (held : HeldBlock) (full : held_in (held_blocks place_of need_of_block blocks) r ≡ Some held).
      in-hand r held (slice_index_or blocks r None) refl (sym (slot-held place_of need_of_block blocks r) ∙ full) in
      record {
        size = blocks-size place_of need_of_block blocks ∙ holds.size;
        owned = λ r held full. let b = of r held full in subst (λ (h : HeldBlock). owns h.place h.need) b.2 (holds.owned r b.0 b.1);
        once = λ r q held other is are differ.
            let b = of r held is in
            let o = of q other are in
            λ e. holds.once r q b.0 o.0 b.1 o.1 differ (ap held_place b.2 ∙ e ∙ ap held_place (sym o.2));
      }

  pub held-hold : HoldsBlocks held_place held_need owns (held_blocks place_of need_of_block blocks) → HoldsBlocks place_of need_of_block owns blocks
  held-hold holds = record {
    size = sym (blocks-size place_of need_of_block blocks) ∙ holds.size;
    owned = λ r block full. holds.owned r (held_by place_of need_of_block block) (slot-full place_of need_of_block blocks r block full);
    once = λ r q block other is are.
        holds.once r q (held_by place_of need_of_block block) (held_by place_of need_of_block other) (slot-full place_of need_of_block blocks r block is)
        (slot-full place_of need_of_block blocks q other are);
  }

-- a lane made an operation by these calls, and was given its outcome
pub makes :
    {B S : Type 0} {place_of : B → ℕ} {need_of_block : B → Need} {maker : Maker S} {s t : S} {old new : LaneState B}
    → KeepBlocks maker.called maker.owns → HoldsBlocks place_of need_of_block (maker.owns s) old.registers.items → (operation : Op) (result : Outcome)
    (made : List Made) → MadeFor (held_in (held_blocks place_of need_of_block old.registers.items) (register_of operation)) operation result made
    → held_blocks place_of need_of_block new.registers.items
    ≡ registers_after (held_blocks place_of need_of_block old.registers.items) operation result
    → LeadsBy maker.called s made t → new.outcomes.items ≡ old.outcomes.items ++ result ∷ [] → new.caller ≡ old.caller → new.work ≡ old.work
    → vec_capacity new.outcomes ≡ vec_capacity old.outcomes → Makes place_of need_of_block maker operation s t old new
makes {place_of = place_of} {need_of_block = block_need} {maker = maker} {s = s} {t = t} {old = old} {new = new} laws holds operation result made for now leads results caller work room =
    let before = held_blocks place_of block_need old.registers.items in
    let after =
    op-holds laws s t before operation result (held_in before (register_of operation)) made
    (hold-held place_of block_need (maker.owns s) old.registers.items holds) refl for leads in
    record {
      result = result;
      made = (made, for, leads);
      registers = now;
      holds = held-hold place_of block_need (maker.owns t) new.registers.items (subst (HoldsAll maker.owns t) (sym now) after);
      results = results;
      same_caller = caller;
      same_work = work;
      room = room;
    }
