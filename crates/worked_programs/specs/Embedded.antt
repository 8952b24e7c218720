-- A program that embeds a heap.
use Rattle.std.specs.Prelude.{ℕ, ◌≡◌, ◌≤◌, ◌⊎◌, ◌++◌, List, [], ◌∷◌, codes, count_by}
use Rattle.std.specs.Fmt.{decimal}
use Rattle.heap_geometry.specs.declared.need.Need.{Need}
use Rattle.heap_geometry.specs.Need.{usable_words}
use Rattle.pool_model.specs.Pool.{pool_of}
use Rattle.trace_text.specs.Text.{line}
use Rattle.errand_steps.specs.declared.reply.Reply.{Reply}
use Rattle.errand_steps.specs.declared.reply.Reply.TheVariants as reply
use Rattle.errand_steps.specs.Calls.{Call, alloc, free, put, read, take, write}
use Rattle.sound_laws.specs.events.Made.{LeadsBy, Made, answered}
use Rattle.live_heap.specs.Heaps.{HeapFields}
use Rattle.live_heap.specs.declared.pass.Pass.{Pass}
use Rattle.live_heap.specs.Calls.{IsInterrupted}
use Rattle.live_heap.specs.Endings.{ClosedFields, HasClosed}
use Rattle.live_heap.specs.Passes.{AreFrom}
use Rattle.live_heap.specs.Whole.{IsWhole}
use Rattle.live_heap.specs.Words.{TellsContents}
use Rattle.heap_census.specs.Census.{is_class}
use Rattle.worked_programs.specs.declared.embedded.TheConstants.{SHELF, TRIES}
use Rattle.worked_programs.specs.declared.embedded.Report.{Report}
use Rattle.worked_programs.specs.declared.embedded.Stop.{Stop}
use Rattle.worked_programs.specs.declared.embedded.Stop.TheVariants as stop
use Rattle.worked_programs.specs.declared.embedded.Stopped.{Stopped}

-- a pass of the heap makes a whole call; a word that it reads is the one that was written there, if any was
abbrev pub Makes : HeapFields → Pass → Call → Reply → Pass → Type 0
Makes h p call answer q = IsWhole h p call answer h q × TellsContents call answer q

-- a pass made this call, which was answered so, and the program goes no further
abbrev pub Stops : HeapFields → Pass → Call → Stop → Pass → Type 0
Stops h p call stop.Refused q = Makes h p call reply.Refused q
Stops h p call stop.Spent q = Makes h p call reply.Spent q
Stops h p call stop.Busy q = IsInterrupted p call 0 p TRIES q
Stops h p call stop.Full q = (found : ℕ) × Makes h p call (reply.Full found) q
Stops h p call stop.Empty q = Makes h p call reply.Empty q
Stops h p call stop.Missed q = (expected : ℕ) × (found : ℕ) × Makes h p call (reply.Missed expected found) q
Stops h p call stop.Short q = (place : ℕ) × (need : Need) × Makes h p call (reply.Got place need) q × (usable_words need ≤ 1)

-- what the first pass does with a block of 3 words and another one, and the second pass with the one that it takes
abbrev pub first_calls : ℕ → Need → ℕ → Need → ℕ → List Made
first_calls place need other wide kept =
    answered (alloc 3) (reply.Given place need)
    ∷ answered (write place need 1 7) reply.Wrote
    ∷ answered (alloc 5) (reply.Given other wide)
    ∷ answered (write other wide 1 8) reply.Wrote
    ∷ answered (free other wide) reply.Freed
    ∷ answered (read place need 1) (reply.Word kept)
    ∷ answered (put place need SHELF) reply.Put
    ∷ []

abbrev pub second_calls : ℕ → Need → ℕ → List Made
second_calls place need handed =
    answered (take SHELF) (reply.Got place need)
    ∷ answered (read place need 1) (reply.Word handed)
    ∷ answered (free place need) reply.Freed
    ∷ []

-- the first pass has made its calls, and read this word
pub record Keeps (h : HeapFields) (first : Pass) (kept : ℕ) (p : Pass) : Type 0 where
  pub place : ℕ
  pub need : Need
  pub other : ℕ
  pub wide : Need
  pub made : LeadsBy (Makes h) first (first_calls place need other wide kept) p

-- the second pass has made its calls, and read this word
pub record Fetches (h : HeapFields) (second : Pass) (handed : ℕ) (q : Pass) : Type 0 where
  pub place : ℕ
  pub need : Need
  pub made : LeadsBy (Makes h) second (second_calls place need handed) q

-- the call is the next one of the first pass behind such calls; and of the second pass
abbrev pub IsNextOfFirst : List Made → Call → Type 0
IsNextOfFirst calls call =
    (place : ℕ) × (need : Need) × (other : ℕ) × (wide : Need) × (kept : ℕ) × (answer : Reply) × (rest : List Made)
    × (first_calls place need other wide kept ≡ calls ++ answered call answer ∷ rest)

abbrev pub IsNextOfSecond : List Made → Call → Type 0
IsNextOfSecond calls call =
    (place : ℕ) × (need : Need) × (handed : ℕ) × (answer : Reply) × (rest : List Made)
    × (second_calls place need handed ≡ calls ++ answered call answer ∷ rest)

-- what stood as `from` has made the first ones of its calls, and then the next one, which was answered so and left it as `to`
pub record HasStoppedBy {S : Type 0} (makes : S → Call → Reply → S → Type 0) (ends : S → Call → Stop → S → Type 0) (IsNext : List Made → Call → Type 0)
    (from : S) (stop : Stop) (to : S) : Type 0 where
  pub calls : List Made
  pub last : S
  pub made : LeadsBy makes from calls last
  pub call : Call
  pub next : IsNext calls call
  pub stops : ends last call stop to

-- a pass was stopped by the next one of its calls, which left it as `to`
abbrev pub HasStopped : HeapFields → Pass → (List Made → Call → Type 0) → Stop → Pass → Type 0
HasStopped h from IsNext stop to = HasStoppedBy (Makes h) (Stops h) IsNext from stop to

-- the heap that is told was new with these two passes; then a call stopped the first one, and the second has made none, or the second one behind all calls of the first. Both are told as they were left
pub record WasStopped (told : Stopped) : Type 0 where
  pub first : Pass
  pub second : Pass
  pub fresh : AreFrom told.heap 0 (first ∷ second ∷ [])
  pub stopped :
      (HasStopped told.heap first IsNextOfFirst told.stop told.first × (told.second ≡ second))
      ⊎ ((kept : ℕ) × Keeps told.heap first kept told.first × HasStopped told.heap second IsNextOfSecond told.stop told.second)

-- the two passes of a new heap have made their calls, and then it was closed: the first pass read what it wrote, behind its other calls, and so did the second one behind the hand-over; and no block is live
pub record HasRun (report : Report) : Type 0 where
  pub heap : HeapFields
  pub first : Pass
  pub second : Pass
  pub fresh : AreFrom heap 0 (first ∷ second ∷ [])
  pub p : Pass
  pub keeps : Keeps heap first report.kept p
  pub q : Pass
  pub fetches : Fetches heap second report.handed q
  pub closed : HasClosed heap (p ∷ q ∷ []) report.closed
  pub kept : report.kept ≡ 7
  pub handed : report.handed ≡ 7
  pub nothing : pool_of report.closed.events ≡ []
  pub live : report.live ≡ 0

-- how many blocks of a class are live in a closed heap
abbrev pub live_in : ClosedFields → ℕ → ℕ
live_in c class = count_by (λ block. is_class class block.need) (pool_of c.events)

-- the lines that the program prints
abbrev pub lines_of : ℕ → ℕ → ℕ → List ℕ
lines_of kept handed live =
    line (codes "kept" ∷ decimal kept ∷ []) ++ line (codes "handed" ∷ decimal handed ∷ []) ++ line (codes "live" ∷ decimal live ∷ [])
