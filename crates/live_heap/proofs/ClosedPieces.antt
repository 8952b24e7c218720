-- Memory with pieces, once no thread shares it any more.
use Rattle.std.proofs.Common.{ℕ, true, false, ◌≡◌, ◌≢◌, ◌<◌, ◌+◌, ◌-◌, List, refl, arith, sym, ap, subst, inl, inr, ◌∙◌, eqb-true, eq-eqb}
use Rattle.std.specs.Prelude.{◌==◌, None, slice_index}
use Rattle.std.proofs.lemmas.Bool.{cases_lt, false≢true}
use Rattle.std.proofs.lemmas.List.{ext_get_or}
use mathlib.Core.Option.{some, some-injective}
use lib.ListN.{get_elem?, get_or-map}
use Rattle.heap_geometry.specs.declared.geometry.Geometry.{Geometry}
use Rattle.heap_geometry.specs.Geometry.{IsChecked}
use Rattle.word_table.specs.Counts.{arena_words, word_count}
use Rattle.word_table.specs.Table.{Exists, word_index}
use Rattle.word_table.specs.declared.name.WordName.{WordName}
use Rattle.word_table.specs.declared.name.WordName.TheVariants.{Arena}
use Rattle.word_table.specs.Words.{word_in}
use Rattle.word_table.proofs.TableLemmas.{word_index-within}
use Rattle.word_table.proofs.WordLemmas.{word_in-there}
use Rattle.live_heap.specs.placement.Places.{place, placed_count, words_at}
use Rattle.live_heap.proofs.placement_lemmas.KindLemmas.{start-place}
use Rattle.live_heap.proofs.placement_lemmas.PlaceLemmas.{place-least, place-within}
use Rattle.live_heap.proofs.placement_lemmas.WordsLemmas.{at-words_at, length-words_at}
use Rattle.plain_words.specs.Places.{Place, laid, number, numbers, place_at, AllHere, IsLaid}
use Rattle.atomic_region.specs.Region.{Final, Seen, State}
use Rattle.errand_steps.specs.Begins.{IsIdle}
use Rattle.sound_laws.specs.uses.Pieces.{piece_count, piece_of, piece_start}
use Rattle.sound_laws.proofs.uses_lemmas.PieceLemmas.{word-among}
use Rattle.pool_model.specs.declared.event.Event.{Event}
use Rattle.live_heap.specs.declared.view.Lent.{Lent}
use Rattle.live_heap.specs.declared.view.Standing.{Standing}
use Rattle.live_heap.specs.declared.view.View.{View}
use Rattle.live_heap.specs.Endings.{IsAtRest}
use Rattle.live_heap.specs.Pieces.{AreLaidOut, AreLent, AreMarked, PiecesHold, Status, caller_mark, mark_count, mark_of, mark_place, place_as}
use Rattle.live_heap.specs.Pieces.Status.{blank, out, used}
use Rattle.live_heap.specs.Rule.{KeptTable, WordsHold}
use Rattle.live_heap.specs.Shelves.{AllowedWords}
use Rattle.live_heap.proofs.Ending.{IsLast, cover}
use Rattle.live_heap.proofs.Gathering.{idle-at}
use Rattle.live_heap.proofs.Laid.{read-number}
use Rattle.live_heap.proofs.LentPlaces.{home-behind, none-out}
use Rattle.live_heap.proofs.Memory.{arena-or}
use Rattle.live_heap.proofs.PieceEnds.{all-at_home, nothing-out}
use Rattle.live_heap.proofs.Shows.{arena-placed, shown-arena, shown-behind, shown-mark, shown-own}

-- the number of a place
numbers-at : (ps : List Place) (i : ℕ) → slice_index (numbers ps) i ≡ number (place_at ps i)
numbers-at ps i = get_or-map number ps i _

-- a place that is laid with a number is laid with its own
laid-itself : (ps : List Place) (i n : ℕ) → place_at ps i ≡ laid n → place_at ps i ≡ laid (slice_index (numbers ps) i)
laid-itself ps i n is = is ∙ ap laid (read-number ps i n is)

is-laid_itself : (ps : List Place) (i n : ℕ) → place_at ps i ≡ laid n → IsLaid ps i
is-laid_itself ps i n is = is ∙ ap laid (sym (ap number is))

-- a word of a piece counts as its number, where one of a piece that isn't laid is 0
counts-as : (st : Status) (n : ℕ) → (st ≢ used → n ≡ 0) → number (place_as st n) ≡ n
counts-as blank n zero_of = sym (zero_of (λ is. let marks : ◌≡◌ {A = ℕ} 0 2 = ap mark_of is in omega (arith, marks)))
counts-as out n zero_of = sym (zero_of (λ is. let marks : ◌≡◌ {A = ℕ} 1 2 = ap mark_of is in omega (arith, marks)))
counts-as used n zero_of = refl

mark-used : (st : Status) → mark_of st ≡ 2 → st ≡ used
mark-used blank is = absurd (omega (arith, is))
mark-used out is = absurd (omega (arith, is))
mark-used used is = refl

module _ (g : Geometry) (words : List ℕ) (places : List Place) (views : List View) (a : AreLaidOut g words places views) where
  -- a mark is laid with its piece's number
  mark-laid : (k : ℕ) → k < mark_count g → place_at places (mark_place g k) ≡ laid (mark_of (a.status k))
  mark-laid k has = a.each (mark_place g k) (omega (arith, a.long, has)) ∙ shown-mark g words a.status k

  mark-is : (k : ℕ) → k < piece_count g → mark_of (a.status k) ≡ slice_index (numbers places) (mark_place g k)
  mark-is k has = read-number places (mark_place g k) (mark_of (a.status k)) (mark-laid k (omega (arith, has)))

  arena-shows : (i : ℕ) → i < arena_words g → place_at places i ≡ place_as (a.status (piece_of g i)) (slice_index words i)
  arena-shows i inside = a.each i (omega (arith, a.long, inside, arena-placed g)) ∙ shown-arena g words a.status i inside

  -- a word of a piece that isn't laid counts as 0
  unused-zero : (i : ℕ) → i < arena_words g → a.status (piece_of g i) ≢ used → slice_index words i ≡ 0
  unused-zero i inside unused =
      let k = piece_of g i in
      let among = word-among g i inside in
      let number_is : piece_start g k + (i - piece_start g k) ≡ i = omega (arith, among.1) in
      subst (λ j. slice_index words j ≡ 0) number_is ((a.spare k among.0 unused).zeros (i - piece_start g k) (omega (arith, among.1, among.2)))

  -- each word is the number of its place
  same-number : (i : ℕ) → i < placed_count g → slice_index (numbers places) i ≡ slice_index words i
  same-number i inside =
      numbers-at places i
      ∙ elim (cases_lt i (arena_words g)) [
        | inl arena ↦ ap number (arena-shows i arena) ∙ counts-as (a.status (piece_of g i)) (slice_index words i) (unused-zero i arena)
        | inr own ↦ ap number (a.each i (omega (arith, a.long, inside)) ∙ shown-own g words a.status i own inside)
      ]

  same-words : words_at g (numbers places) ≡ words_at g words
  same-words =
      let was = length-words_at g words in
      let now = length-words_at g (numbers places) in
      ext_get_or 0 (words_at g (numbers places)) (words_at g words) (omega (arith, was, now))
      (λ i within.
      let has : i < word_count g = omega (arith, now, within) in
      at-words_at g (numbers places) i has ∙ (same-number (place g i) (place-within g i has) ∙ sym (at-words_at g words i has)))

  are-marked : AreMarked g places
  are-marked = record {
    long = a.long;
    behind = λ i beyond inside.
        elim (cases_lt i (placed_count g)) [
          | inl own ↦ laid-itself places i (slice_index words i) (a.each i inside ∙ shown-own g words a.status i beyond own)
          | inr behind ↦ laid-itself places i (mark_of (a.status (i - placed_count g))) (a.each i inside ∙ shown-behind g words a.status i behind)
        ];
    laid_piece = λ i inside marked.
        let k = piece_of g i in
        let is : a.status k ≡ used = mark-used (a.status k) (mark-is k (word-among g i inside).0 ∙ marked) in
        laid-itself places i (slice_index words i) (arena-shows i inside ∙ ap (λ st. place_as st (slice_index words i)) is);
    blank_piece = λ i inside unmarked.
        let k = piece_of g i in
        same-number i (omega (arith, inside, arena-placed g))
        ∙ unused-zero i inside (λ is. unmarked (sym (mark-is k (word-among g i inside).0) ∙ ap mark_of is));
  }

  -- no mark says that its piece is out, so all words are here
  unmarked-home : ((k : ℕ) → k < piece_count g → place_at places (mark_place g k) ≢ laid 1) → AllHere places
  unmarked-home none = all-at_home g words places views a (λ k has gone. none k has (mark-laid k (omega (arith, has)) ∙ ap (λ st. laid (mark_of st)) gone))

-- where a view stands for all callers, each in no call, so is each caller of every view
module _ {rule : AllowedWords} (g : Geometry) (table : List ℕ) (views : List View) (id : ℕ) (v : View) (h : KeptTable rule g table views) (at : get_elem? views id ≡ some v)
    (rest : IsAtRest g v) where
  idle-everywhere : (i n : ℕ) (u : View) (x : Standing) → get_elem? views i ≡ some u → get_elem? u.callers n ≡ some x → IsIdle x.errand
  idle-everywhere i n u x there_u there_x =
      let y = (h.each i u there_u).each n x there_x in
      let t = cover g table views id v h at rest.all x.errand.caller y.has in
      let z = (h.each id v at).each t.0 t.1 t.2 in
      let same : t.1.errand ≡ x.errand = sym z.errand ∙ (ap h.errands t.3 ∙ y.errand) in
      subst IsIdle same (idle-at v.callers rest.idle t.0 t.1 t.2)

-- where no block is out the places are as they would be
same-whole :
    (g : Geometry) (events : List Event) (whole places : List Place) (views : List View) → AreLent g events whole places views
    → ((id n : ℕ) (v : View) (b : Lent) → get_elem? views id ≡ some v → get_elem? v.lent n ≡ some b → ⊥) → whole ≡ places
same-whole g events whole places views l none =
    ext_get_or None whole places (sym l.long)
    (λ i within. sym (l.home i (omega (arith, l.long, within)) (λ (id, v, n, b, there, found, above, under). none id n v b there found)))

-- the places of a region are a table's, where nothing is out of it
abbrev LaidHold : AllowedWords → Geometry → State View → Type 0
LaidHold rule g s = (words : List ℕ) × WordsHold rule g words s.views × AreLaidOut g words s.places s.views

home-laid :
    {rule : AllowedWords} (g : Geometry) (s : State View) → PiecesHold rule g s → ((id n : ℕ) (v : View) (b : Lent) → get_elem? s.views id ≡ some v → get_elem? v.lent n ≡ some b → ⊥) → LaidHold rule g s
home-laid g s (words, h, whole, a, l) none =
    (words, h, subst (λ (ps : List Place). AreLaidOut g words ps s.views) (same-whole g h.1.events whole s.places s.views l none) a)

-- a view that stands for all callers and has nothing out leaves none out
rests-laid : {rule : AllowedWords} (g : Geometry) (id : ℕ) (v : View) (s : State View) → IsAtRest g v → Seen (PiecesHold rule g) id v s → LaidHold rule g s
rests-laid g id v s rest ((words, h, whole, a, l), at) =
    home-laid g s (words, h, whole, a, l)
    (λ j n u b there found.
    let o = l.blocks j n u b there found in
    let y = (h.1.each j u there).each o.number o.owner o.stands in
    let t = cover g (words_at g words) s.views id v h.1 at rest.all o.owner.errand.caller y.has in
    let z = (h.1.each id v at).each t.0 t.1 t.2 in
    let place_is : (j, o.number) ≡ (id, t.0) = sym y.at_place ∙ ap h.1.place (sym t.3) ∙ z.at_place in
    let mine : u ≡ v = some-injective u v (sym there ∙ ap (get_elem? s.views) (ap (λ (q : ℕ × ℕ). q.0) place_is) ∙ at) in
    none-out v n b rest.home (ap (λ (w : View). get_elem? w.lent n) (sym mine) ∙ found))

-- then all words of the region are here
pub rests-home : {rule : AllowedWords} (g : Geometry) (id : ℕ) (v : View) (ps : List Place) → IsAtRest g v → Final (Seen (PiecesHold rule g) id v) ps → AllHere ps
rests-home g id v ps rest f =
    let s = f.0 in
    let r = rests-laid g id v s rest f.1 in
    subst AllHere f.2
    (all-at_home g r.0 s.places s.views r.2
    (nothing-out g r.0 s.places s.views r.2 (idle-everywhere g (words_at g r.0) s.views id v r.1.1 f.1.1 rest)))

-- and their numbers are the words at the end
pub last-words :
    {rule : AllowedWords} (g : Geometry) (id : ℕ) (v : View) (ps : List Place) → IsAtRest g v → Final (Seen (PiecesHold rule g) id v) ps
    → IsLast rule g (words_at g (numbers ps)) v
last-words {rule} g id v ps rest f =
    let s = f.0 in
    let r = rests-laid g id v s rest f.1 in
    let same : words_at g r.0 ≡ words_at g (numbers ps) =
    sym (same-words g r.0 s.places s.views r.2) ∙ ap (λ (l : List Place). words_at g (numbers l)) f.2 in
    record { views = s.views; id = id; kept = subst (λ (t : List ℕ). KeptTable rule g t s.views) same r.1.1; at = f.1.1; all = rest.all }

pub last-marked : {rule : AllowedWords} (g : Geometry) (id : ℕ) (v : View) (ps : List Place) → IsAtRest g v → Final (Seen (PiecesHold rule g) id v) ps → AreMarked g ps
last-marked g id v ps rest f = let r = rests-laid g id v f.0 rest f.1 in subst (AreMarked g) f.2 (are-marked g r.0 f.0.places f.0.views r.2)

-- in the end each mark is laid; and where none says that something is out, all words are here
marks-laid :
    {rule : AllowedWords} (g : Geometry) (s : State View) (good : PiecesHold rule g s) (k : ℕ) → k < mark_count g
    → place_at s.places (mark_place g k) ≡ place_at good.2 (mark_place g k)
marks-laid g s (words, h, whole, a, l) k has =
    home-behind g h.1.events whole s.places s.views (mark_place g k) l (omega (arith, arena-placed g)) (omega (arith, l.long, a.long, has))

pub final-mark :
    {rule : AllowedWords} (g : Geometry) (ps : List Place) (k : ℕ) → Final (PiecesHold rule g) ps → k < mark_count g → IsLaid ps (mark_place g k)
final-mark g ps k f has =
    let a = f.1.3 in
    subst (λ (l : List Place). IsLaid l (mark_place g k)) f.2
    (is-laid_itself f.0.places (mark_place g k) (mark_of (a.status k)) (marks-laid g f.0 f.1 k has ∙ mark-laid g f.1.0 f.1.2 f.0.views a k has))

pub final-home :
    {rule : AllowedWords} (g : Geometry) (ps : List Place) → Final (PiecesHold rule g) ps → ((k : ℕ) → k < mark_count g → place_at ps (mark_place g k) ≢ laid 1) → AllHere ps
final-home g ps f none =
    let s = f.0 in
    let h = f.1.1 in
    let whole : List Place = f.1.2 in
    let unmarked : (k : ℕ) → k < mark_count g → place_at s.places (mark_place g k) ≢ laid 1 =
    λ k has is. none k has (ap (λ (l : List Place). place_at l (mark_place g k)) (sym f.2) ∙ is) in
    let r =
    home-laid g s f.1
    (λ j n u b there found.
    let o = f.1.4.blocks j n u b there found in
    let has = ((h.1.each j u there).each o.number o.owner o.stands).has in
    let below : caller_mark g o.owner.errand.caller < mark_count g = omega (arith, has) in
    unmarked (caller_mark g o.owner.errand.caller) below (marks-laid g s f.1 (caller_mark g o.owner.errand.caller) below ∙ o.marked)) in
    subst AllHere f.2 (unmarked-home g r.0 s.places s.views r.2 (λ k has. unmarked k (omega (arith, has))))

-- a word of memory that no thread shares any more
module _ (g : Geometry) (ps : List Place) (m : AreMarked g ps) where
  pub mark-there : (k : ℕ) → k < piece_count g → IsLaid ps (mark_place g k)
  mark-there k has =
      is-laid_itself ps (mark_place g k) (slice_index (numbers ps) (mark_place g k))
      (m.behind (mark_place g k) (omega (arith, arena-placed g)) (omega (arith, m.long, has)))

  arena-place : (word : ℕ) → IsChecked g → word < arena_words g → place g (word_index g (Arena word)) ≡ word
  arena-place word checked inside = sym (start-place g (Arena word) checked inside)

  -- it is laid where its piece's mark says so, or it lies behind the arena
  pub word-there :
      (name : WordName) → IsChecked g → Exists g name
      → ((word : ℕ) → name ≡ Arena word → (slice_index (numbers ps) (mark_place g (piece_of g word)) == 2) ≡ true)
      → IsLaid ps (place g (word_index g name))
  word-there name checked is marked =
      let i = place g (word_index g name) in
      elim (arena-or g name) [
        | inl (word, same) ↦
            let inside : word < arena_words g = subst (Exists g) same is in
            let there : i ≡ word = ap (λ n. place g (word_index g n)) same ∙ arena-place word checked inside in
            subst (IsLaid ps) (sym there)
            (is-laid_itself ps word (slice_index (numbers ps) word)
            (m.laid_piece word inside (eqb-true (slice_index (numbers ps) (mark_place g (piece_of g word))) 2 (marked word same))))
        | inr behind ↦
            let within = place-within g (word_index g name) (word_index-within g name is) in
            is-laid_itself ps i (slice_index (numbers ps) i)
            (m.behind i (omega (arith, behind, place-least g (word_index g name))) (omega (arith, within, m.long)))
      ]

  -- and it is 0 where its piece's mark says that it was never laid
  pub word-zero :
      (word : ℕ) → IsChecked g → word < arena_words g → (slice_index (numbers ps) (mark_place g (piece_of g word)) == 2) ≡ false
      → slice_index (numbers ps) (place g (word_index g (Arena word))) ≡ 0
  word-zero word checked inside unmarked =
      ap (slice_index (numbers ps)) (arena-place word checked inside)
      ∙ m.blank_piece word inside (λ is. false≢true (sym unmarked ∙ eq-eqb (slice_index (numbers ps) (mark_place g (piece_of g word))) 2 is))

-- the word of a name is the number at its place
pub named-word :
    (g : Geometry) (placed : List ℕ) (name : WordName) → Exists g name
    → slice_index placed (place g (word_index g name)) ≡ word_in g (words_at g placed) name
named-word g placed name is =
    sym (at-words_at g placed (word_index g name) (word_index-within g name is)) ∙ sym (word_in-there g (words_at g placed) name is)
