use Rattle.heap_geometry.specs.Need.{usable_words}
use Rattle.sound_laws.specs.events.Made.{copied, found_from, wrote}
use Rattle.block_cache.proofs.WordLemmas.{copied-on, found-on, went-on, wrote-on}
use Rattle.block_cache.proofs.laws.calls_on_words_are_whole.Goals as goal

pub returns-clause-fill : goal.returns-clause-fill
returns-clause-fill c h b d place need from count rests held leads keeps =
    (went-on h b d (wrote place need from count) rests (wrote-on b place need from count held) leads keeps).leads

pub returns-clause-sum : goal.returns-clause-sum
returns-clause-sum c h b d place need total rests held sums keeps =
    (sums.0, sums.1, sums.2, (went-on h b d (found_from place need 0 sums.0) rests (found-on b place need 0 sums.0 held) sums.3 keeps).leads)

pub returns-clause-copy : goal.returns-clause-copy
returns-clause-copy c h b d from from_need to to_need rests held held_too copies keeps = (
  copies.0,
  copies.1,
  (went-on h b d (copied from from_need to to_need copies.0 (usable_words to_need)) rests
      (copied-on b from from_need to to_need held held_too copies.0 (usable_words to_need)) copies.2 keeps).leads,
)
