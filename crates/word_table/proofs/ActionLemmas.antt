-- What an action leaves as it was.
use Rattle.std.proofs.Common.{ℕ, false, ◌≡◌, refl, eq-eqb}
use Rattle.std.proofs.lemmas.Bool.{ne_eqb}
use Rattle.word_table.specs.Actions.{after_action, is_won, IsLost}
use Rattle.word_table.specs.declared.action.Action.{Action}
use Rattle.word_table.specs.declared.action.Action.TheVariants.{Load, Store, Cas, Swap, And}

-- an exchange whose expected word differs leaves the word
pub after_action-lost : (action : Action) (word : ℕ) → IsLost action word → after_action action word ≡ word
after_action-lost (Load name) word lost = elim lost [ ]
after_action-lost (Store name new) word lost = elim lost [ ]
after_action-lost (Cas name expected new) word lost = rw (ne_eqb word expected lost) refl
after_action-lost (Swap name new) word lost = elim lost [ ]
after_action-lost (And name mask) word lost = elim lost [ ]

-- an action that isn't won is an exchange whose expected word differs
pub IsLost-not_won : (action : Action) (word : ℕ) → is_won action word ≡ false → IsLost action word
IsLost-not_won (Load name) word fails = cc
IsLost-not_won (Store name new) word fails = cc
IsLost-not_won (Cas name expected new) word fails = λ same. let wins = eq-eqb word expected same in cc
IsLost-not_won (Swap name new) word fails = cc
IsLost-not_won (And name mask) word fails = cc
