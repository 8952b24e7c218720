-- A won push keeps the state sound.
use Rattle.std.proofs.Common.{ℕ, Bool, ◌≡◌}
use Rattle.sound_state.proofs.Common.{AnchorFields, anchor_word, Site, Continuation, Block, Lists, IsSoundWith}
use Rattle.word_table.specs.declared.name.WordName.TheVariants as name
use Rattle.step_parts.specs.declared.superblock.point.BlockPoint.TheVariants as block
use Rattle.sound_state.proofs.pushes.PushSteps.{push-pushes}
use Rattle.sound_state.proofs.pushes.PushTies.{pushed-legal}
use Rattle.sound_state.proofs.quiet.QuietExchanges.{push_block-lost}
use Rattle.sound_state.proofs.shared.KeepsSound.{KeepsSound, KeepsSoundWhere, stepped-sound, either-sound}
use Rattle.sound_state.proofs.SoundAfter.{pushed-sound}

pub push_won-sound :
    (at : Site) (i : ℕ) (a : AnchorFields) (stored : Bool) (heap : ℕ) (o : Continuation)
    → KeepsSoundWhere (Block (block.PushBlock at i a stored heap) o) (λ s. s.word (name.Anchor at.desc) ≡ anchor_word a)
push_won-sound at i a stored heap o g s caller s' sound has here word step =
    let l : Lists = sound.parts.0 in
    let old : IsSoundWith g s l = sound.parts.1 in
    let push = push-pushes g s l caller s' at i a stored heap o old has here word step in
    stepped-sound g s caller s' l sound has step (pushed-legal push.2 sound) (pushed-sound push.2 sound old)

-- a push keeps the state sound, won or not
pub push_block-sound :
    (at : Site) (i : ℕ) (a : AnchorFields) (stored : Bool) (heap : ℕ) (o : Continuation) → KeepsSound (Block (block.PushBlock at i a stored heap) o)
push_block-sound at i a stored heap o =
    either-sound _ (name.Anchor at.desc) (anchor_word a) (push_won-sound at i a stored heap o)
    (push_block-lost at i a stored heap o)
