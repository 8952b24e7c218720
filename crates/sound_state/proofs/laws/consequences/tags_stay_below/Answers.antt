use Rattle.sound_state.proofs.shared.TagLemmas.{anchor-tags-below, frame-tag-below, list-tags-below, turns-below, anchor-tags-counted, frame-tag-counted, list-tags-counted}
use Rattle.sound_state.proofs.laws.consequences.tags_stay_below.Goals as goal

pub returns : goal.returns
returns c = record {
  anchors = anchor-tags-below;
  frames = frame-tag-below;
  lists = list-tags-below;
  pops = anchor-tags-counted;
  turns = turns-below;
  framings = frame-tag-counted;
  listings = list-tags-counted;
}
