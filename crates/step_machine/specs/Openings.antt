-- A machine that has made no step.
use Rattle.std.specs.Prelude.{ℕ, ◌≡◌, ◌<◌, [], Option, Some, None}
use Rattle.heap_geometry.specs.declared.geometry.Geometry.{Geometry}
use Rattle.word_table.specs.declared.name.WordName.{WordName}
use Rattle.word_table.specs.Table.{Exists}
use Rattle.word_table.specs.Words.{word_in}
use Rattle.errand_steps.specs.Errands.{open_errand}
use Rattle.errand_steps.specs.Openings.{opening, installed}
use Rattle.step_machine.specs.Cores.{CoreFields, errand_at}

-- the words at opening, with a superblock of the class installed where one is named
abbrev pub first_words : Geometry → Option ℕ → WordName → ℕ
first_words g None = opening g
first_words g (Some class) = installed g class

-- a machine that has made no step: these are its words, and every caller is idle
pub record IsOpened (g : Geometry) (first : WordName → ℕ) (c : CoreFields) : Type 0 where
  pub geometry : c.geometry ≡ g
  pub words : (name : WordName) → Exists g name → word_in g c.words name ≡ first name
  pub errands : (caller : ℕ) → caller < g.callers → errand_at c.errands caller ≡ open_errand caller g
  pub events : c.events ≡ []
  pub steps : c.steps ≡ 0
