use Rattle.std.proofs.Common.{refl}
use Rattle.owned_words.proofs.OwnWords.{accessed-own, point-owned}
use Rattle.owned_words.proofs.usable_words_are_their_owners.Goals as goal

pub returns-clause-only : goal.returns-clause-only
returns-clause-only c g s caller word place i b sound has busy is live at within =
    point-owned g s caller word place i b (s.errand caller).point sound has refl is (record { live = live; at = at; within = within })

pub returns-clause-own : goal.returns-clause-own
returns-clause-own c g s caller place i sound has accesses = accessed-own g s caller place i (s.errand caller).point sound has refl accesses
