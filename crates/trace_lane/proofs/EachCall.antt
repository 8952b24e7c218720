-- What holds of each of some whole calls.
use Rattle.std.proofs.Common.{ℕ, suc, ◌≡◌, ◌%◌, ◌+◌, ◌^◌, ◌∷◌, ◌++◌, List, [], Option, length, map, sym, subst, inl, inr}
use Rattle.trace_lane.proofs.Common.{Need, Reply, Call, LeavesPlace, AreMisses, KeepBlocks, LeadsBy, HeldBlock, HoldsBlocks, Made, read, take, write, cases_lt, flat_map, range_with_len, copied_word, answered}
use Rattle.trace_lane.proofs.Common.{found_from, wrote, copied-read, copied-past}
use Rattle.errand_steps.specs.declared.reply.Reply.TheVariants as reply

abbrev pub AllCalls : (Call → Type 0) → List Made → Type 0
AllCalls P [] = Unit {0}
AllCalls P (made ∷ rest) = P made.call × AllCalls P rest

-- it holds of each call on a word, and of each take
pub record IsOnWords (P : Call → Type 0) : Type 0 where
  pub writes : (place : ℕ) (need : Need) (i value : ℕ) → P (write place need i value)
  pub reads : (place : ℕ) (need : Need) (i : ℕ) → P (read place need i)
  pub takes : (shelf : ℕ) → P (take shelf)

-- a call on a word, or a take
abbrev pub IsLight : Call → Type 0
IsLight (write place need i value) = Unit {0}
IsLight (read place need i) = Unit {0}
IsLight (take shelf) = Unit {0}
IsLight call = ⊥

pub light : IsOnWords IsLight
light = record { writes = λ place need i value. tt; reads = λ place need i. tt; takes = λ shelf. tt }

module _ {P : Call → Type 0} (on : IsOnWords P) where
  light-so : (call : Call) → IsLight call → P call
  light-so (write place need i value) is = on.writes place need i value
  light-so (read place need i) is = on.reads place need i
  light-so (take shelf) is = on.takes shelf
  light-so call is = absurd is

  pub all-light : (made : List Made) → AllCalls IsLight made → AllCalls P made
  all-light [] all = tt
  all-light (m ∷ made) all = (light-so m.call all.0, all-light made all.1)

  pub all-append : (made more : List Made) → AllCalls P made → AllCalls P more → AllCalls P (made ++ more)
  all-append [] more one two = two
  all-append (m ∷ made) more one two = (one.0, all-append made more one.1 two)

  pub all-writes : (place : ℕ) (need : Need) (value : ℕ → ℕ) (is : List ℕ) → AllCalls P (map (λ j. answered (write place need j (value j)) reply.Wrote) is)
  all-writes place need value [] = tt
  all-writes place need value (i ∷ is) = (on.writes place need i (value i), all-writes place need value is)

  pub all-wrote : (place : ℕ) (need : Need) (v words : ℕ) → AllCalls P (wrote place need v words)
  all-wrote place need v words = all-writes place need (λ (i : ℕ). (v + i) % 2 ^ 64) (range_with_len 0 words)

  pub all-found : (place : ℕ) (need : Need) (i : ℕ) (words : List ℕ) → AllCalls P (found_from place need i words)
  all-found place need i [] = tt
  all-found place need i (word ∷ words) = (on.reads place need i, all-found place need (suc i) words)

  module _ (from : ℕ) (from_need : Need) (to : ℕ) (to_need : Need) (words : List ℕ) where
    all-word : (i : ℕ) → AllCalls P (copied_word from from_need to to_need words i)
    all-word i =
        elim (cases_lt i (length words)) [
          | inl inside ↦
              subst (AllCalls P) (sym (copied-read from from_need to to_need words i inside)) (on.reads from from_need i, (on.writes to to_need i _, tt))
          | inr past ↦ subst (AllCalls P) (sym (copied-past from from_need to to_need words i past)) (on.writes to to_need i 0, tt)
        ]

    pub all-copied : (is : List ℕ) → AllCalls P (flat_map (copied_word from from_need to to_need words) is)
    all-copied [] = tt
    all-copied (i ∷ is) =
        all-append (copied_word from from_need to to_need words i) (flat_map (copied_word from from_need to to_need words) is) (all-word i) (all-copied is)

  pub all-misses : (shelf : ℕ) (misses : List Made) → AreMisses shelf misses → AllCalls P misses
  all-misses shelf [] are = tt
  all-misses shelf (m ∷ misses) are = (subst (λ (x : Made). P x.call) (sym are.2) (on.takes shelf), all-misses shelf misses are.3)

  pub all-takes : (shelf : ℕ) (misses : List Made) (answer : Reply) → AreMisses shelf misses → AllCalls P (misses ++ answered (take shelf) answer ∷ [])
  all-takes shelf misses answer are = all-append misses (answered (take shelf) answer ∷ []) (all-misses shelf misses are) (on.takes shelf, tt)

-- calls that give no block away which lies at this place
abbrev pub Leaves : ℕ → Call → Type 0
Leaves place call = LeavesPlace call place

pub leaves : (place : ℕ) → IsOnWords (Leaves place)
leaves place = record { writes = λ at need i value. tt; reads = λ at need i. tt; takes = λ shelf. tt }

pub light-by : (made calls : List Made) → made ≡ calls → AllCalls IsLight calls → AllCalls IsLight made
light-by made calls is all = subst (AllCalls IsLight) (sym is) all

-- a caller keeps its block through calls that leave it
pub leads-keep :
    {S : Type 0} {called : S → Call → Reply → S → Type 0} {owns : S → ℕ → Need → Type 0} (laws : KeepBlocks called owns) (s t : S) (made : List Made)
    (place : ℕ) (need : Need) → LeadsBy called s made t → AllCalls (Leaves place) made → owns s place need → owns t place need
leads-keep {owns = owns} laws s t [] place need leads leave owned = subst (λ x. owns x place need) (sym leads) owned
leads-keep laws s t (m ∷ made) place need (u, one, leads) leave owned =
    leads-keep laws u t made place need leads leave.1 (laws.keeps s u m.call m.answer place need one leave.0 owned)

abbrev pub held_place : HeldBlock → ℕ
held_place held = held.place

abbrev pub held_need : HeldBlock → Need
held_need held = held.need

-- the registers hold blocks of the caller's, and no two the same one
abbrev pub HoldsAll : {S : Type 0} → (S → ℕ → Need → Type 0) → S → List (Option HeldBlock) → Type 0
HoldsAll owns c registers = HoldsBlocks held_place held_need (owns c) registers
