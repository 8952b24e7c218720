use Rattle.sound_laws.proofs.events_lemmas.OfferLemmas.{put-offers, offers-put}
use Rattle.sound_laws.proofs.events.puts_offer_their_block.Goals as goal

pub returns-clause-puts : goal.returns-clause-puts
returns-clause-puts c = put-offers

pub returns-clause-others : goal.returns-clause-others
returns-clause-others c = offers-put
