use Rattle.std.proofs.Common.{ap}
use Rattle.pool_model.specs.declared.event.Event.TheVariants.{Put, Take}
use Rattle.pool_model.specs.Parcels.{parcel_of, parcels_in}
use Rattle.shelf_laws.specs.Quiet.{is_put_of, is_take_of}
use Rattle.shelf_laws.proofs.GrowLemmas.{parcels-add, parcels-length, parcels-none}
use Rattle.shelf_laws.proofs.PipeLemmas.{put-hands, put-is, take-hands, take-is}
use Rattle.shelf_laws.proofs.laws.pipes_grow_by_puts_and_takes.Goals as goal

pub returns-clause-sent : goal.returns-clause-sent
returns-clause-sent c = λ g history shelves sender legal.
    parcels-length g (is_put_of shelves sender) history (put-hands shelves sender) legal

pub returns-clause-taken : goal.returns-clause-taken
returns-clause-taken c = λ g history senders shelves sender legal.
    parcels-length g (is_take_of senders shelves sender) history (take-hands senders shelves sender) legal

pub returns-clause-put : goal.returns-clause-put
returns-clause-put c = λ history shelves sender place shelf block home found.
    parcels-add (is_put_of shelves sender) history (Put sender place shelf) (parcel_of block) (put-is shelves sender place shelf home)
    (ap parcels_in found)

pub returns-clause-take : goal.returns-clause-take
returns-clause-take c = λ history senders shelves sender place shelf block home found.
    parcels-add (is_take_of senders shelves sender) history (Take senders shelf place) (parcel_of block)
    (take-is senders shelves sender place shelf home) (ap parcels_in found)

pub returns-clause-unsent : goal.returns-clause-unsent
returns-clause-unsent c = λ history more shelves sender none. parcels-none (is_put_of shelves sender) history more none

pub returns-clause-untaken : goal.returns-clause-untaken
returns-clause-untaken c = λ history more senders shelves sender none. parcels-none (is_take_of senders shelves sender) history more none
