-- What stands at a place of a text as it is printed.
use Rattle.std.specs.Prelude.{◌≡◌, ℕ, ◌<◌, ◌≤◌, ◌-◌, ◌^◌, List, [], ◌∷◌, ◌++◌, drop, length, slice_index}
use Rattle.std.specs.Fmt.{decimal}
use Rattle.std.specs.List.{All, flat_map}
use Rattle.trace_text.specs.declared.limits.TheConstants.{LINE_FEED}
use Rattle.trace_text.specs.declared.kinds.Kinds.{Kinds}
use Rattle.trace_text.specs.declared.kinds.Numbers.{Numbers}
use Rattle.trace_text.specs.declared.trace.Op.{Op}
use Rattle.trace_text.specs.declared.trace.Version.{Version}
use Rattle.trace_text.specs.Said.{last_with}
use Rattle.trace_text.specs.Operations.{AreWithin, decimals}
use Rattle.trace_text.specs.Text.{line, op_line}
use Rattle.trace_text.specs.Traces.{IsOp, IsAllowed}

-- the last byte of a text ends a line
abbrev pub EndsLine : List ℕ → Type 0
EndsLine text = (0 < length text) × (slice_index text (length text - 1) ≡ LINE_FEED)

-- a number stands from one place on in decimal, and this byte behind it, before another place
pub record IsNumberAt (text : List ℕ) (start end n after : ℕ) : Type 0 where
  pub small : n < 2 ^ 64
  pub later : start < after
  pub within : after ≤ length text
  pub spelled : drop start text ≡ decimal n ++ end ∷ drop after text

-- numbers of these kinds stand from one place on, up to another that is behind the line's end
pub record AreNumbersAt (kinds : Kinds) (text : List ℕ) (start : ℕ) (n : Numbers) (after : ℕ) : Type 0 where
  pub kind : AreWithin kinds n
  pub later : start < after
  pub within : after ≤ length text
  pub spelled : drop start text ≡ line (decimals kinds n) ++ drop after text

-- with these bytes before it a text is, from one place up to another, the line of an operation of this version
pub record IsOpAt (version : Version) (before text : List ℕ) (start : ℕ) (op : Op) (after : ℕ) : Type 0 where
  pub named : IsOp op
  pub allowed : IsAllowed version op
  pub later : start < after
  pub within : after ≤ length text
  pub spelled : before ++ drop start text ≡ op_line op ++ drop after text

-- a text is the lines of some operations of this version, and the rest
pub record BeginsWithOps (version : Version) (text : List ℕ) (ops : List Op) (rest : List ℕ) : Type 0 where
  pub named : All IsOp ops
  pub allowed : All (IsAllowed version) ops
  pub spelled : text ≡ flat_map op_line ops ++ rest

-- the lanes with some operations more in the last one
abbrev pub last_with_all : List Op → List (List Op) → List (List Op)
last_with_all [] lanes = lanes
last_with_all (op ∷ ops) lanes = last_with_all ops (last_with op lanes)
