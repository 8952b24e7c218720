-- A cell that only the thread that has it reaches: what it owns, and what a `&` to it lends.
use Rattle.std.specs.Prelude.{ℕ, List}
use mir.Val.{Val}
use base.Fraction.{full_share}
use base.Fml.{Lft, Fml, ffalse, ftrue, fsep, fex}
use denote.RattleType.{RattleType}
use denote.Memory.{cell_at}
use denote.RawPtr.{Ptr, block_ptr, null_ptr}
use denote.Sharing.{said}
use denote.Hidden.{guarded}

-- a fact, which owns nothing
abbrev pub known : Type 0 → Fml
known φ = fex φ (λ _. ftrue)

module _ (F : RattleType) (Holds : F.Denot → Type 0) where
  -- machine values of fields that keep the rule
  abbrev pub kept_val : List Val → Fml
  kept_val vs = fex F.Denot (λ i. fsep (F.own_val i vs) (known (Holds i)))

  -- such fields in memory, o bytes into the block b
  abbrev pub kept_at : ℕ → ℕ → Fml
  kept_at b o = fex (List Val) (λ vs. fsep (cell_at full_share F.mir vs b o) (kept_val vs))

  -- the thread's token opens them, and they keep the rule again afterwards
  abbrev pub kept_behind : Ptr → Lft → Fml
  kept_behind (block_ptr b o) = guarded (b, o) (kept_at b o)
  kept_behind null_ptr = said ffalse
