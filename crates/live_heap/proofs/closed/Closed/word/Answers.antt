use Rattle.std.proofs.Common.{ℕ, List, true, ◌≡◌, sym, ap, ◌∙◌, subst}
use Rattle.std.specs.Prelude.{◌==◌, slice_index}
use Rattle.plain_words.specs.Places.{numbers, IsLaid}
use Rattle.word_table.specs.Table.{Exists, word_index}
use Rattle.word_table.specs.Words.{word_in}
use Rattle.word_table.specs.declared.name.WordName.TheVariants.{Arena}
use Rattle.live_heap.specs.placement.Places.{place}
use Rattle.sound_laws.specs.uses.Pieces.{piece_of}
use Rattle.live_heap.specs.Endings.{ClosedFields}
use Rattle.live_heap.specs.Pieces.{mark_place}
use Rattle.live_heap.proofs.ClosedPieces.{named-word, word-there, word-zero}
use Rattle.live_heap.proofs.Laid.{read-number}
use Rattle.live_heap.proofs.closed.Closed.word.Goals as goal
use Rattle.live_heap.proofs.closed.Closed.word.Goals.{in_default-via-in-Arena+else-not-is_laid, in_default-via-in_default}

-- the word that is read is the one of the name
named-so : (c : goal.After-place) → c.in_default.name ≡ c.args.name
named-so c = elim c.in_default.branch [
  | in_default-via-in-Arena+else-not-is_laid w ↦ w.name-is ∙ sym w.in-Arena.is
  | in_default-via-in_default w ↦ w.name-is
]

-- where it is one of the arena, its piece's mark says that it is laid
marked :
    (c : goal.After-place) (word : ℕ) → c.args.name ≡ Arena word
    → (slice_index (numbers c.self.inside.room.plain.places) (mark_place c.self.inside.layout (piece_of c.self.inside.layout word)) == 2) ≡ true
marked c word is = elim c.in_default.branch [
  | in_default-via-in-Arena+else-not-is_laid w ↦
      let g = c.self.inside.layout in
      let ns : List ℕ = numbers c.self.inside.room.plain.places in
      let same : w.in-Arena.word ≡ word = let both : Arena w.in-Arena.word ≡ Arena word = sym w.in-Arena.is ∙ is in cc in
      let piece : w.piece_of.result ≡ piece_of g word = w.piece_of.ensures.value ∙ ap (piece_of g) same in
      ap (λ k. slice_index ns (mark_place g k) == 2) (sym piece) ∙ (sym w.is_laid.ensures ∙ w.if-not-is_laid.false)
  | in_default-via-in_default w ↦ absurd (w.in_default.not-Arena word is)
]

pub word-requires : goal.word-requires
word-requires c =
    let g = c.self.inside.layout in
    let ps = c.self.inside.room.plain.places in
    let i = c.self.invariant in
    let there = subst (λ (w : ClosedFields). Exists w.geometry c.args.name) (sym c.self.view_is) c.requires in
    subst (IsLaid ps) (sym (c.place.ensures.place ∙ ap (λ n. place g (word_index g n)) (named-so c)))
    (word-there g ps i.marked c.args.name i.rests.core.run.checked there (marked c))

pub returns-in-Arena : goal.returns-in-Arena
returns-in-Arena c =
    let g = c.self.inside.layout in
    let ns : List ℕ = numbers c.self.inside.room.plain.places in
    let i = c.self.invariant in
    let word = c.in-Arena.word in
    let there = subst (λ (w : ClosedFields). Exists w.geometry c.args.name) (sym c.self.view_is) c.requires in
    let zero_there =
    ap (λ n. slice_index ns (place g (word_index g n))) c.in-Arena.is
    ∙ word-zero g c.self.inside.room.plain.places i.marked word i.rests.core.run.checked (subst (Exists g) c.in-Arena.is there)
    (ap (λ k. slice_index ns (mark_place g k) == 2) (sym c.piece_of.ensures.value) ∙ (sym c.is_laid.ensures ∙ c.if-not-is_laid.true)) in
    sym zero_there ∙ (named-word g ns c.args.name there ∙ ap (λ (w : ClosedFields). word_in w.geometry w.words c.args.name) c.self.view_is)

pub returns-in_default : goal.returns-in_default
returns-in_default c =
    let g = c.self.inside.layout in
    let ps = c.self.inside.room.plain.places in
    let there = subst (λ (w : ClosedFields). Exists w.geometry c.args.name) (sym c.self.view_is) c.requires in
    read-number ps c.place.result c.word.result c.word.ensures
    ∙ (ap (slice_index (numbers ps)) (c.place.ensures.place ∙ ap (λ n. place g (word_index g n)) (named-so c.before))
    ∙ (named-word g (numbers ps) c.args.name there ∙ ap (λ (w : ClosedFields). word_in w.geometry w.words c.args.name) c.self.view_is))
