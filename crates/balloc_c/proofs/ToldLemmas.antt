-- A call by a handle.
use Rattle.std.proofs.Common.{w32, to_z, of_z, ℕ, ◌≡◌, Bool, Option, Some, None, Result, Ok, Err, refl, sym, ap, ◌∙◌, subst}
use Rattle.std.specs.Prelude.{ℤ, pos, Box, Bool, option_map}
use Rattle.std.specs.Global.{Global}
use Rattle.std.proofs.lemmas.Option.{same_Some}
use Rattle.balloc_c.specs.declared.hand.Hand.{Hand}
use Rattle.balloc_c.specs.declared.refusal.Refusal.{Refusal}
use Rattle.balloc_c.specs.declared.refusal.Refusal.TheVariants as refusal
use Rattle.shared_heap.specs.declared.shared.Left.{Left}
use Rattle.balloc_c.specs.Closed.{Closes, LeavesBlocks, Outs, Shuts, TellsCensus, untold}
use Rattle.balloc_c.specs.Codes.{code_in, code_of, resumed_code}
use Rattle.balloc_c.specs.Outcomes.{Told}

-- each code goes through a register of 32 bits
pub cause-fits : (cause : Refusal) → to_z w32 (of_z w32 (code_of cause)) ≡ code_of cause
cause-fits refusal.Closed = refl
cause-fits refusal.InUse = refl
cause-fits refusal.BadNumbers = refl
cause-fits refusal.NoMemory = refl
cause-fits refusal.InCall = refl
cause-fits refusal.Interrupted = refl
cause-fits refusal.Idle = refl
cause-fits refusal.NoBlock = refl
cause-fits refusal.NoWord = refl
cause-fits refusal.NoShelf = refl
cause-fits refusal.Exhausted = refl
cause-fits refusal.TooLarge = refl
cause-fits refusal.Spent = refl
cause-fits refusal.ShelfFull = refl
cause-fits refusal.ShelfEmpty = refl
cause-fits refusal.ShelfMissed = refl
cause-fits refusal.Out = refl

code-fits : {A : Type 0} (outcome : Result A Refusal) → to_z w32 (of_z w32 (code_in outcome)) ≡ code_in outcome
code-fits (Ok value) = refl
code-fits (Err cause) = cause-fits cause

resumed-fits : (outcome : Result (Option ℕ) Refusal) → to_z w32 (of_z w32 (resumed_code outcome)) ≡ resumed_code outcome
resumed-fits (Ok (Some number)) = refl
resumed-fits (Ok None) = refl
resumed-fits (Err cause) = cause-fits cause

pub shown : {A : Type 0} (outcome : Result A Refusal) (code : ℤ) → code ≡ code_in outcome → to_z w32 (of_z w32 code) ≡ code_in outcome
shown outcome code is = ap (λ (z : ℤ). to_z w32 (of_z w32 z)) is ∙ code-fits outcome

pub shown_resumed :
    (outcome : Result (Option ℕ) Refusal) (code : ℤ) → code ≡ resumed_code outcome → to_z w32 (of_z w32 code) ≡ resumed_code outcome
shown_resumed outcome code is = ap (λ (z : ℤ). to_z w32 (of_z w32 z)) is ∙ resumed-fits outcome

pub shown_cause : (cause : Refusal) (code : ℤ) → code ≡ code_of cause → to_z w32 (of_z w32 code) ≡ code_of cause
shown_cause cause code is = ap (λ (z : ℤ). to_z w32 (of_z w32 z)) is ∙ cause-fits cause

pub told :
    {A : Type 0} (Call : Hand → Result A Refusal → Hand → Type 0) (Shows : Result A Refusal → Type 0) (was : Option Hand) (before next : Hand)
    (result : Result A Refusal) → was ≡ Some before → Shows result → Call before result next → Told Call was Shows (Some next)
told Call Shows was before next result held shows called =
    subst (λ (o : Option Hand). Told Call o Shows (Some next)) (sym held) (result, next, shows, refl, called)

-- what is told of a close that was made, and of one that leaves the pass open
pub closes :
    (frees : Bool) (was now : Option Hand) (before next : Hand) (outcome : Result (Unit {0}) Refusal) (done : Unit {0}) (outs told : Outs)
    → was ≡ Some before → LeavesBlocks frees before outcome next → outcome ≡ Ok done → told.0 ≡ next.cache.pass.errand.won
    → told.1 ≡ next.cache.pass.errand.lost → now ≡ None → (left : Left) × TellsCensus next left (untold outs.2) told.2 → Closes frees was (pos 0) outs told now
closes frees was now before next outcome done outs told held leaves is won_is lost_is empty tells =
    subst (λ (o : Option Hand). Closes frees o (pos 0) outs told now) (sym held) (
      outcome,
      next,
      leaves,
      sym (ap code_in is),
      subst (λ (r : Result (Unit {0}) Refusal). Shuts r next outs told now) (sym is) (won_is, lost_is, empty, tells.0, tells.1),
    )

pub stays_open :
    (frees : Bool) (was : Option Hand) (before next : Hand) (outcome : Result (Unit {0}) Refusal) (cause : Refusal) (code : ℤ) (outs : Outs)
    → was ≡ Some before → LeavesBlocks frees before outcome next → outcome ≡ Err cause → code ≡ code_of cause
    → Closes frees was code outs (outs.0, outs.1, untold outs.2) (Some next)
stays_open frees was before next outcome cause code outs held leaves is told =
    subst (λ (o : Option Hand). Closes frees o code outs (outs.0, outs.1, untold outs.2) (Some next)) (sym held) (
      outcome,
      next,
      leaves,
      told ∙ sym (ap code_in is),
      subst (λ (r : Result (Unit {0}) Refusal). Shuts r next outs (outs.0, outs.1, untold outs.2) (Some next)) (sym is) (refl, refl, refl, refl),
    )

-- what is taken out of a handle is the pass that it held
pub taken :
    (next : Hand) (out : Option (Box Hand Global)) (box : Box Hand Global) → Some next ≡ option_map (λ b. b.value) out → out ≡ Some box
    → next ≡ box.value
taken next out box holds is = same_Some next box.value (holds ∙ ap (option_map (λ b. b.value)) is)

-- a call by a handle that holds nothing
pub none_told :
    {A : Type 0} (Call : Hand → Result A Refusal → Hand → Type 0) (Shows : Result A Refusal → Type 0) (was now : Option Hand) → was ≡ None → now ≡ None
    → Shows (Err refusal.Closed) → Told Call was Shows now
none_told Call Shows was now none empty shows =
    subst (λ (o : Option Hand). Told Call o Shows now) (sym none) (shows, empty)
