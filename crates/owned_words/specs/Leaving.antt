-- Which block a call is about, and which it is about to give away.
use Rattle.std.specs.Prelude.{ℕ, ◌≡◌, List, [], ◌∷◌}
use Rattle.errand_steps.specs.declared.point.Point.{Point}
use Rattle.errand_steps.specs.tables.CallStage.{StageOfCall, freeing, putting, writing, reading}
use Rattle.errand_steps.specs.Calls.{Call, free, put, write, read}
use Rattle.sound_laws.specs.events.Stages.{stage_of}

-- the place of the block that a call at this stage is about to give away, by a free or by a put; there is none at any other stage
abbrev pub leaving_at : StageOfCall → List ℕ
leaving_at (freeing place need) = place ∷ []
leaving_at (putting place need shelf) = place ∷ []
leaving_at stage = []

-- the same for the call that is under way at this point
abbrev pub leaving : Point → List ℕ
leaving p = leaving_at (stage_of p)

-- the place of the block that a call at this stage is about: one that it frees or puts, or whose word it writes or reads; there is none at any other stage
abbrev pub concerned_at : StageOfCall → List ℕ
concerned_at (freeing place need) = place ∷ []
concerned_at (putting place need shelf) = place ∷ []
concerned_at (writing place i value) = place ∷ []
concerned_at (reading place i) = place ∷ []
concerned_at stage = []

-- the same for the call that is under way at this point
abbrev pub concerned : Point → List ℕ
concerned p = concerned_at (stage_of p)

-- the call is about the block at this place: it frees or puts it, or writes or reads a word of it
abbrev pub IsAbout : Call → ℕ → Type 0
IsAbout (free p need) place = p ≡ place
IsAbout (put p need shelf) place = p ≡ place
IsAbout (write p need i value) place = p ≡ place
IsAbout (read p need i) place = p ≡ place
IsAbout call place = ⊥
