-- What the words of a block are, once a `&mut` slice of them has ended.
use Rattle.std.proofs.Common.{ℕ, ◌≡◌, List, length, drop, ap, ◌∙◌}
use lib.Seq.{take_at}
use Rattle.std.proofs.lemmas.List.{length-map}
use Rattle.heap_geometry.specs.declared.need.Need.{Need}
use Rattle.plain_words.specs.declared.plain.PlainWords.{PlainWords}
use Rattle.plain_words.specs.Lends.{with_words}
use Rattle.plain_words.specs.Places.{laid, laids, numbers}
use Rattle.live_heap.specs.Heaps.{HeapFields}
use Rattle.live_heap.specs.declared.plain.Memory.{Memory}
use Rattle.live_heap.specs.Memory.{AreWordsOf, IsMemoryOf, with_numbers}
use Rattle.live_heap.proofs.Taking.{numbers-laids}

-- words of which a `&mut` slice has ended are laid with the numbers that were left there, and are a block's words still
pub refilled : (w : PlainWords) (ws : List ℕ) → length ws ≡ length w.places → (with_words w ws).places ≡ laids ws
refilled w ws same = ap laids (take_at ws (drop (length ws) (numbers w.places)) (length w.places) same)

pub refilled-numbers : (w : PlainWords) (ws : List ℕ) → length ws ≡ length w.places → numbers (with_words w ws).places ≡ ws
refilled-numbers w ws same = ap numbers (refilled w ws same) ∙ numbers-laids ws

pub refilled-words :
    (h : HeapFields) (place : ℕ) (need : Need) (w : PlainWords) (ws : List ℕ) → AreWordsOf h place need w → length ws ≡ length w.places
    → AreWordsOf h place need (with_words w ws)
refilled-words h place need w ws is same = record {
  at = is.at;
  first = is.first;
  long = ap length (refilled w ws same) ∙ length-map ws laid ∙ same ∙ is.long;
  laid = (ws, refilled w ws same);
}

-- so are those of a memory
pub numbers-now : (m : Memory) (ws : List ℕ) → length ws ≡ length m.words.places → numbers (with_numbers m ws).words.places ≡ ws
numbers-now m ws same = refilled-numbers m.words ws same

pub memory-now : (h : HeapFields) (m : Memory) (ws : List ℕ) → IsMemoryOf h m → length ws ≡ length m.words.places → IsMemoryOf h (with_numbers m ws)
memory-now h m ws is same = refilled-words h m.block.place m.block.need m.words ws is same
