-- Each cause is told by its code.
use Rattle.std.proofs.Common.{ℕ, suc, zero, ◌≡◌, ◌≢◌, Bool, true, false, refl, sym, ap, ◌∙◌, true≢false}
use Rattle.std.specs.Prelude.{ℤ, pos, negsuc}
use Rattle.balloc_c.specs.declared.refusal.Refusal.{Refusal}
use Rattle.balloc_c.specs.declared.refusal.Refusal.TheVariants as refusal
use Rattle.balloc_c.specs.Codes.{code_of}

-- the cause of a code
at_number : ℕ → Refusal
at_number zero = refusal.Closed
at_number (suc zero) = refusal.InUse
at_number (suc (suc zero)) = refusal.BadNumbers
at_number (suc (suc (suc zero))) = refusal.NoMemory
at_number (suc (suc (suc (suc zero)))) = refusal.InCall
at_number (suc (suc (suc (suc (suc zero))))) = refusal.Idle
at_number (suc (suc (suc (suc (suc (suc zero)))))) = refusal.NoBlock
at_number (suc (suc (suc (suc (suc (suc (suc zero))))))) = refusal.NoWord
at_number (suc (suc (suc (suc (suc (suc (suc (suc zero)))))))) = refusal.NoShelf
at_number (suc (suc (suc (suc (suc (suc (suc (suc (suc zero))))))))) = refusal.Exhausted
at_number (suc (suc (suc (suc (suc (suc (suc (suc (suc (suc zero)))))))))) = refusal.TooLarge
at_number (suc (suc (suc (suc (suc (suc (suc (suc (suc (suc (suc zero))))))))))) = refusal.Spent
at_number (suc (suc (suc (suc (suc (suc (suc (suc (suc (suc (suc (suc zero)))))))))))) = refusal.ShelfFull
at_number (suc (suc (suc (suc (suc (suc (suc (suc (suc (suc (suc (suc (suc zero))))))))))))) = refusal.ShelfEmpty
at_number (suc (suc (suc (suc (suc (suc (suc (suc (suc (suc (suc (suc (suc (suc zero)))))))))))))) = refusal.ShelfMissed
at_number (suc (suc (suc (suc (suc (suc (suc (suc (suc (suc (suc (suc (suc (suc (suc zero))))))))))))))) = refusal.Out
at_number (suc (suc (suc (suc (suc (suc (suc (suc (suc (suc (suc (suc (suc (suc (suc (suc n)))))))))))))))) = refusal.Closed

cause_at : ℤ → Refusal
cause_at (pos n) = refusal.Interrupted
cause_at (negsuc n) = at_number n

told : (cause : Refusal) → cause_at (code_of cause) ≡ cause
unfolding cause_at at_number
told refusal.Interrupted = refl
told refusal.Closed = refl
told refusal.InUse = refl
told refusal.BadNumbers = refl
told refusal.NoMemory = refl
told refusal.InCall = refl
told refusal.Idle = refl
told refusal.NoBlock = refl
told refusal.NoWord = refl
told refusal.NoShelf = refl
told refusal.Exhausted = refl
told refusal.TooLarge = refl
told refusal.Spent = refl
told refusal.ShelfFull = refl
told refusal.ShelfEmpty = refl
told refusal.ShelfMissed = refl
told refusal.Out = refl

pub apart : (one other : Refusal) → code_of one ≡ code_of other → one ≡ other
apart one other same = sym (told one) ∙ ap cause_at same ∙ told other

-- no code of a cause is 0 or 1
low : ℤ → Bool
low (pos zero) = true
low (pos (suc zero)) = true
low (pos (suc (suc n))) = false
low (negsuc n) = false

high : (cause : Refusal) → low (code_of cause) ≡ false
unfolding low
high refusal.Interrupted = refl
high refusal.Closed = refl
high refusal.InUse = refl
high refusal.BadNumbers = refl
high refusal.NoMemory = refl
high refusal.InCall = refl
high refusal.Idle = refl
high refusal.NoBlock = refl
high refusal.NoWord = refl
high refusal.NoShelf = refl
high refusal.Exhausted = refl
high refusal.TooLarge = refl
high refusal.Spent = refl
high refusal.ShelfFull = refl
high refusal.ShelfEmpty = refl
high refusal.ShelfMissed = refl
high refusal.Out = refl

pub not_made : (cause : Refusal) → code_of cause ≢ pos 0
unfolding low
not_made cause same = absurd (true≢false (sym (ap low same) ∙ high cause))

pub not_freed : (cause : Refusal) → code_of cause ≢ pos 1
unfolding low
not_freed cause same = absurd (true≢false (sym (ap low same) ∙ high cause))
