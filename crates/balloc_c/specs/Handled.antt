-- Calls by a handle by which memory goes out to C, or comes home.
use Rattle.std.specs.Prelude.{ℕ, ◌≡◌, Option, Some, None}
use denote.RawPtr.{Ptr}
use Rattle.plain_words.specs.declared.plain.PlainWords.{PlainWords}
use Rattle.balloc_c.specs.declared.hand.Hand.{Hand}
use Rattle.balloc_c.specs.Codes.{value_in, word_in}
use Rattle.balloc_c.specs.Hands.{heap_of}
use Rattle.balloc_c.specs.Lending.{AllocatesMemory, BringsHome, FreesBack, HasToldMemory, IsBackFor, NothingWhere, StayOut}
use Rattle.balloc_c.specs.Numbers.{named}
use Rattle.balloc_c.specs.Outcomes.{Makes, Told}

-- an allocation of so many bytes
abbrev pub AllocatesBy : Option Hand → ℕ → ℕ → ℕ → ℕ → Ptr → Option PlainWords → Option Hand → Type 0
AllocatesBy was bytes id code id_now at words now =
    Told (λ before. Makes (λ c t outcome d u. AllocatesMemory (heap_of before) c t bytes outcome at words d u) before) was
    (λ outcome. (code ≡ word_in outcome) × (id_now ≡ value_in outcome id) × NothingWhere outcome at words) now

-- the memory of a block is told
abbrev pub TellsBy : Option Hand → ℕ → ℕ → Ptr → Option PlainWords → Option Hand → Type 0
TellsBy was number code at words now =
    Told (λ before. Makes (λ c t outcome d u. HasToldMemory (heap_of before) c t number outcome at words d u) before) was
    (λ outcome. (code ≡ word_in outcome) × NothingWhere outcome at words) now

-- who names a block of the pass whose memory is out gives that back, and who names none gives nothing
abbrev pub IsBackOf : Option Hand → ℕ → Option PlainWords → Type 0
IsBackOf None number back = back ≡ None
IsBackOf (Some hand) number back = IsBackFor (heap_of hand) (named hand.table number) back

-- a free, and a call that brings memory home
abbrev pub FreesBy : Option Hand → ℕ → Option PlainWords → ℕ → Option PlainWords → Option Hand → Type 0
FreesBy was number back code left now =
    Told (λ before. Makes (λ c t outcome d u. FreesBack (heap_of before) c t number back outcome left d u) before) was
    (λ outcome. (code ≡ word_in outcome) × StayOut outcome left) now

abbrev pub BringsBy : Option Hand → ℕ → Option PlainWords → ℕ → Option PlainWords → Option Hand → Type 0
BringsBy was number back code left now =
    Told (λ before. Makes (λ c t outcome d u. BringsHome (heap_of before) c t number back outcome left d u) before) was
    (λ outcome. (code ≡ word_in outcome) × StayOut outcome left) now
