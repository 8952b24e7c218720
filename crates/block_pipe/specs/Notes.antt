-- The rule of the notes: what was sent is what was taken and then what the queue holds, and each sender's notes are numbered.
use Rattle.std.specs.Prelude.{ℕ, ◌≡◌, ◌<◌, ◌≤◌, ◌+◌, ◌*◌, ◌%◌, ◌^◌, ◌==◌, ◌⊎◌, true, false, List, [], ◌∷◌, ◌++◌, filter, length}
use mathlib.Core.Option.{some}
use lib.ListN.{get_elem?}
use Rattle.block_pipe.specs.declared.note.Note.{Note}
use Rattle.block_pipe.specs.declared.rule.Known.{Known}

-- the notes of one sender
abbrev pub of_sender : ℕ → List Note → List Note
of_sender k notes = filter (λ note. note.sender == k) notes

-- the shelf for a sender's block of this number: each of its own shelves has its turn
abbrev pub shelf_for : ℕ → ℕ → ℕ → ℕ
shelf_for shelves sender seq = sender * shelves + seq % shelves

-- a note may come next behind these: it is of one of the senders, has the number of that one's notes among them, and names the shelf whose turn it is
pub record MayComeNext (senders shelves : ℕ) (before : List Note) (note : Note) : Type 0 where
  pub sender : note.sender < senders
  pub seq : note.seq ≡ length (of_sender note.sender before)
  pub few : note.seq < 2 ^ 60
  pub shelf : note.shelf ≡ shelf_for shelves note.sender note.seq

-- each note of a list may come next behind those before it
abbrev pub AreNumbered : ℕ → ℕ → List Note → Type 0
AreNumbered senders shelves notes =
    (before rest : List Note) (note : Note) → notes ≡ before ++ note ∷ rest → MayComeNext senders shelves before note

-- the longer list begins with the shorter one
abbrev pub Begins : List Note → List Note → Type 0
Begins shorter longer = (rest : List Note) × (longer ≡ shorter ++ rest)

-- the longer list ends with the shorter one
abbrev pub EndsIn : List Note → List Note → Type 0
EndsIn shorter longer = (front : List Note) × (longer ≡ front ++ shorter)

-- the end stands for the sender
abbrev pub StandsFor : Known → ℕ → Type 0
StandsFor v k = (v.from ≤ k) × (k < v.until)

-- an end: one end at most stands for a sender, and it knows all that the sender sent; one at most receives, and knows all that was taken
pub record FitsHeap (keeper : ℕ → ℕ) (reader senders shelves : ℕ) (all got : List Note) (port : ℕ) (v : Known) : Type 0 where
  pub sizes : v.set ≡ true → (v.senders ≡ senders) × (v.shelves ≡ shelves)
  pub sends : (k : ℕ) → StandsFor v k → (v.set ≡ true) × (port ≡ keeper k) × (of_sender k v.sent ≡ of_sender k all)
  pub receives : v.receives ≡ true → (v.set ≡ true) × (port ≡ reader) × (v.taken ≡ got)

-- the queue goes: what was sent is what was taken and then what it holds, the notes are numbered, and each end fits
pub record Runs (items : List Note) (views : List Known) : Type 0 where
  pub senders : ℕ
  pub shelves : ℕ
  pub all : List Note
  pub got : List Note
  pub line : all ≡ got ++ items
  pub numbered : AreNumbered senders shelves all
  pub keeper : ℕ → ℕ
  pub reader : ℕ
  pub each : (port : ℕ) (v : Known) → get_elem? views port ≡ some v → FitsHeap keeper reader senders shelves all got port v

-- an end before the sizes are set; an end for all senders and the receiver; an end for nobody
abbrev pub unset : Known
unset = record { set = false; senders = 0; shelves = 0; from = 0; until = 0; receives = true; sent = []; taken = [] }

abbrev pub whole : ℕ → ℕ → Known
whole senders shelves =
    record { set = true; senders = senders; shelves = shelves; from = 0; until = senders; receives = true; sent = []; taken = [] }

abbrev pub nobody : Known
nobody = record { set = false; senders = 0; shelves = 0; from = 0; until = 0; receives = false; sent = []; taken = [] }

-- an end without its first sender; an end for its first sender alone
abbrev pub first_out : Known → Known
first_out v = record v { from = v.from + 1 }

abbrev pub first_sender : Known → Known
first_sender v = record v { until = v.from + 1; receives = false; taken = [] }

-- an end with the senders of another in place of its own
abbrev pub with_senders : Known → Known → Known
with_senders v w = record v { from = w.from; until = w.until; sent = w.sent }

-- an end that knows of one note more that was sent; of one more that was taken
abbrev pub with_sent : Known → Note → Known
with_sent v note = record v { sent = v.sent ++ note ∷ [] }

abbrev pub with_taken : Known → Note → Known
with_taken v note = record v { taken = v.taken ++ note ∷ [] }

-- the rule of the queue: its one end isn't set, or it goes
abbrev pub Piped : List Note → List Known → Type 0
Piped items views = ((items ≡ []) × (views ≡ unset ∷ [])) ⊎ Runs items views

-- the rule stands with these notes in the queue, and with what this end knows
abbrev pub RuleStands : Known → List Note → Type 0
RuleStands v items = (port : ℕ) × (views : List Known) × Piped items views × (get_elem? views port ≡ some v)

-- what was taken of a sender that the end stands for is the first part of what that sent
abbrev pub HasFirstPart : Known → Type 0
HasFirstPart v = (k : ℕ) → StandsFor v k → Begins (of_sender k v.taken) (of_sender k v.sent)
