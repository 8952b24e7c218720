-- Which pieces of the arena are laid, and by whom.
use Rattle.std.specs.Prelude.{ℕ, ◌≡◌, ◌≢◌, ◌<◌, ◌≤◌, ◌+◌, ◌-◌, ◌*◌, ◌⊎◌, nat_lt, if◌then◌else◌, List, [], ◌∷◌, length, replicate, slice_index, Option, Some, None}
use mathlib.Core.Option.{some}
use lib.ListN.{get_elem?}
use Rattle.heap_geometry.specs.declared.geometry.Geometry.{Geometry}
use Rattle.word_table.specs.Counts.{arena_words}
use Rattle.word_table.specs.Occurs.{occurs}
use Rattle.word_table.specs.Words.{word_in}
use Rattle.live_heap.specs.placement.Places.{placed_count, words_at}
use Rattle.plain_words.specs.Places.{Place, blanks, laid, laids, numbers, place_at}
use Rattle.atomic_region.specs.Region.{Me, State as RegionState}
use Rattle.sound_laws.specs.uses.Pieces.{piece_count, piece_of, piece_start, piece_words}
use Rattle.errand_steps.specs.declared.point.Pieces.{Pieces}
use Rattle.errand_steps.specs.declared.point.Point.{Point}
use Rattle.errand_steps.specs.Openers.{Opens}
use Rattle.sound_laws.specs.uses.Uses.{IsUnused}
use Rattle.heap_geometry.specs.Need.{usable_words}
use Rattle.live_heap.specs.declared.placement.TheConstants.{APART}
use Rattle.pool_model.specs.declared.event.Event.{Event}
use Rattle.step_machine.specs.Cores.{OwnsAfter}
use Rattle.live_heap.specs.declared.view.Lent.{Lent}
use Rattle.live_heap.specs.declared.view.Standing.{Standing}
use Rattle.live_heap.specs.declared.view.View.{View}
use Rattle.live_heap.specs.Rule.{WordsHold}
use Rattle.live_heap.specs.Shelves.{AllowedWords}

-- a caller that the view stands for is about to use the piece first
abbrev pub IsOpener : Geometry → View → ℕ → Type 0
IsOpener g v k = (number : ℕ) × (x : Standing) × (get_elem? v.callers number ≡ some x) × Opens g x.errand.point k

-- some pass's caller is about to use the piece first
abbrev pub IsOpened : Geometry → List View → ℕ → Type 0
IsOpened g views k = (id : ℕ) × (v : View) × (get_elem? views id ≡ some v) × IsOpener g v k

-- nobody has used the piece: it is unused by the words, or somebody is about to use it first, and its words count as 0
pub record IsSpare (g : Geometry) (words : List ℕ) (views : List View) (k : ℕ) : Type 0 where
  pub unused : IsUnused g (word_in g (words_at g words)) k ⊎ IsOpened g views k
  pub zeros : (j : ℕ) → j < piece_words g k → slice_index words (piece_start g k + j) ≡ 0

-- how far a piece is: never laid, out with a pass that lays it, or laid; and its mark
pub data Status : Type 0 where
  blank : Status
  out : Status
  used : Status

abbrev pub mark_of : Status → ℕ
mark_of blank = 0
mark_of out = 1
mark_of used = 2

-- a word of a piece, that counts as this number
abbrev pub place_as : Status → ℕ → Place
place_as blank n = Some None
place_as out n = None
place_as used n = laid n

-- how many marks a heap has: one for each piece, and behind them, each apart from the others, one for each caller, which says whether a block's words may be out with its pass
abbrev pub mark_count : Geometry → ℕ
mark_count g = piece_count g + APART * (g.callers + 1)

abbrev pub caller_mark : Geometry → ℕ → ℕ
caller_mark g caller = piece_count g + APART * (caller + 1)

-- the place of a mark, behind all words
abbrev pub mark_place : Geometry → ℕ → ℕ
mark_place g k = placed_count g + k

-- what a place shows: a word of the arena as far as its piece is, any other word, or a mark
abbrev pub shown : Geometry → List ℕ → (ℕ → Status) → ℕ → Place
shown g words status i =
    if nat_lt i (arena_words g) then place_as (status (piece_of g i)) (slice_index words i)
    else (if nat_lt i (placed_count g) then laid (slice_index words i) else laid (mark_of (status (i - placed_count g))))

-- the places show the words, and each piece as far as it is. A piece that isn't laid is a spare one, and who lays it is its opener
pub record AreLaidOut (g : Geometry) (words : List ℕ) (places : List Place) (views : List View) : Type 0 where
  pub status : ℕ → Status
  pub long : length places ≡ placed_count g + mark_count g
  pub each : (i : ℕ) → i < length places → place_at places i ≡ shown g words status i
  pub spare : (k : ℕ) → k < piece_count g → status k ≢ used → IsSpare g words views k
  pub layer : (k : ℕ) → k < piece_count g → status k ≡ out → (id : ℕ) × (v : View) × (get_elem? views id ≡ some v) × (v.lays ≡ Some k) × IsOpener g v k
  pub lays : (id : ℕ) (v : View) (k : ℕ) → get_elem? views id ≡ some v → v.lays ≡ Some k → (k < piece_count g) × (status k ≡ out)
  pub once : (i j : ℕ) (v w : View) (k : ℕ) → get_elem? views i ≡ some v → get_elem? views j ≡ some w → v.lays ≡ Some k → w.lays ≡ Some k → i ≡ j
  pub ready : (id : ℕ) (v : View) (k : ℕ) → get_elem? views id ≡ some v → 0 < occurs k v.ready → (k < piece_count g) × (status k ≡ used)

-- memory that no thread shares any more: each word behind the arena is laid, and each piece is laid with its mark, or its words count as 0
pub record AreMarked (g : Geometry) (places : List Place) : Type 0 where
  pub long : length places ≡ placed_count g + mark_count g
  pub behind : (i : ℕ) → arena_words g ≤ i → i < length places → place_at places i ≡ laid (slice_index (numbers places) i)
  pub laid_piece : (i : ℕ) → i < arena_words g → slice_index (numbers places) (mark_place g (piece_of g i)) ≡ 2 → place_at places i ≡ laid (slice_index (numbers places) i)
  pub blank_piece : (i : ℕ) → i < arena_words g → slice_index (numbers places) (mark_place g (piece_of g i)) ≢ 2 → slice_index (numbers places) i ≡ 0

-- a mark says that its piece is out, or that a block's words may be out with its caller's pass
pub record HasOut (g : Geometry) (places : List Place) : Type 0 where
  pub mark : ℕ
  pub below : mark < mark_count g
  pub marked : place_at places (mark_place g mark) ≡ laid (mark_of out)

-- some pass has this word out, as one of the usable words of a block
abbrev pub IsLent : List View → ℕ → Type 0
IsLent views i =
    (id : ℕ) × (v : View) × (n : ℕ) × (b : Lent) × (get_elem? views id ≡ some v) × (get_elem? v.lent n ≡ some b)
    × (b.place < i) × (i < b.place + 1 + usable_words b.need)

-- a block is out with a pass: a caller that the pass stands for owns it, and has its mark set; and its usable words, were they home, would be laid with its numbers
pub record IsOut (g : Geometry) (events : List Event) (whole : List Place) (v : View) (b : Lent) : Type 0 where
  pub number : ℕ
  pub owner : Standing
  pub stands : get_elem? v.callers number ≡ some owner
  pub owned : OwnsAfter events owner.errand.caller b.place b.need
  pub within : b.place + 1 + usable_words b.need ≤ arena_words g
  pub marked : place_at whole (mark_place g (caller_mark g owner.errand.caller)) ≡ laid (mark_of out)
  pub long : length b.numbers ≡ usable_words b.need
  pub words : (i : ℕ) → i < usable_words b.need → place_at whole (b.place + 1 + i) ≡ laid (slice_index b.numbers i)

-- the places are those of `whole`, but for the words that are out with passes
pub record AreLent (g : Geometry) (events : List Event) (whole places : List Place) (views : List View) : Type 0 where
  pub long : length places ≡ length whole
  pub home : (i : ℕ) → i < length places → ¬ IsLent views i → place_at places i ≡ place_at whole i
  pub blocks : (id n : ℕ) (v : View) (b : Lent) → get_elem? views id ≡ some v → get_elem? v.lent n ≡ some b → IsOut g events whole v b

-- the rule of the region: its places, and the words that are out with passes, are a table in memory, with holes where no piece was ever used
abbrev pub PiecesHold : AllowedWords → Geometry → RegionState View → Type 0
PiecesHold rule g s =
    (words : List ℕ) × (h : WordsHold rule g words s.views) × (whole : List Place) × AreLaidOut g words whole s.views
    × AreLent g h.1.events whole s.places s.views

-- a pass that lays this piece and knows these to be laid
abbrev pub with_pieces : View → Option ℕ → List ℕ → View
with_pieces v lays ready = record v { lays = lays; ready = ready }

-- what a claim that found n tells: the piece is out with the pass, or it was laid
abbrev pub Claimed : Geometry → ℕ → View → ℕ → Me View → Type 0
Claimed g k v n me =
    (n ≡ 0 → me ≡ (with_pieces v (Some k) v.ready, (piece_start g k, blanks (piece_words g k)) ∷ []))
    × (n ≢ 0 → me ≡ (with_pieces v v.lays (k ∷ v.ready), []))

-- the words of a piece that is filled with 0
abbrev pub zeros_of : Geometry → ℕ → List Place
zeros_of g k = laids (replicate (piece_words g k) 0)

-- a piece that was filled with 0 comes back: it is known to be laid
abbrev pub HasLaid : ℕ → View → Me View → Type 0
HasLaid k v me = me ≡ (with_pieces v None (k ∷ v.ready), [])

-- the view's one caller is about to use the piece first
pub record IsSoleOpener (g : Geometry) (v : View) (k : ℕ) : Type 0 where
  pub before : Standing
  pub one : v.callers ≡ before ∷ []
  pub opens : Opens g before.errand.point k
  pub below : k < piece_count g

-- all pieces from the first on, so many of them
abbrev pub EachOf : Pieces → (ℕ → Type 0) → Type 0
EachOf x P = (k : ℕ) → x.first ≤ k → k < x.first + x.count → P k

-- the pass holds nothing, as before, and knows more pieces to be laid
abbrev pub KnowsMore : Me View → Me View → Type 0
KnowsMore v w = w ≡ (with_pieces v.0 None w.0.ready, [])

-- and among them each that a step at this point is the first to use
abbrev pub IsReady : Geometry → Point → View → Type 0
IsReady g p v = (k : ℕ) → Opens g p k → 0 < occurs k v.ready

-- numbers of no heap
abbrev pub no_layout : Geometry
no_layout = record { frames = 0; heaps = 0; units = 0; callers = 0; turn_limit = 0 }
