-- Memory that an allocator gives out: where its words lie, its label, and the right to give it back.
use Rattle.std.specs.Prelude.{◌≡◌, ℕ, zero, suc, ◌+◌, ◌-◌, ◌*◌, ◌/◌, ◌%◌, ◌^◌, ◌<◌, ◌≤◌, List, [], ◌∷◌, ◌++◌}
use Rattle.std.specs.Ptr.{ptr_add}
use Rattle.std.specs.Borrow.{u64}
use mir.Syntax.{Ty, ty_int, ty_bool, ty_float, ty_ptr, ty_ref, ty_array, ty_unit, ty_struct, ty_enum, ty_param, ty_const, ty_array_p, ty_named}
use base.Fml.{Fml, fsep, fex, fwand}
use prog.Memory.{size}
use denote.RawPtr.{Ptr, ◌+ₚ◌, room_for}
use Rattle.plain_words.specs.Places.{Place, laid, blanks}
use Rattle.plain_words.specs.Owned.{plain_owns}
use Rattle.memory_cache.specs.Sizes.{piece_words}
use Rattle.heap_allocator.specs.declared.mover.TheConstants.{MOST_BYTES}

-- how many words n bytes lie in
abbrev pub words_of : ℕ → ℕ
words_of n = (n + 7) / 8

-- how many words serve n bytes: those, and one for the label
abbrev pub words_for : ℕ → ℕ
words_for n = words_of n + 1

-- so many words, of which the last is laid with the label
abbrev pub labelled : ℕ → ℕ → List Place
labelled count label = blanks (count - 1) ++ (laid label ∷ [])

-- those words, in memory that begins at p, from the word `first` on
abbrev pub piece_owns : Ptr → ℕ → ℕ → ℕ → Fml
piece_owns p first count label = plain_owns p first (labelled count label)

-- the words are as many as a piece for n bytes has, and the label says where they begin
pub record IsPieceFor (n first count label : ℕ) : Type 0 where
  pub long : count ≡ piece_words (words_for n)
  pub placed : label ≡ first

-- one piece serves so many bytes and so many
pub record AreOfOnePiece (old new : ℕ) : Type 0 where
  pub old_small : old ≤ MOST_BYTES
  pub new_small : new ≤ MOST_BYTES
  pub same : piece_words (words_for old) ≡ piece_words (words_for new)

-- the bytes of so many words that lie before their label
abbrev pub bytes_before : ℕ → ℕ
bytes_before count = (count - 1) * 8

-- how many values of s bytes lie in so many bytes; where they have none, 2^64
abbrev pub most_of : ℕ → ℕ → ℕ
most_of room zero = 2 ^ 64
most_of room (suc s) = room / suc s

-- what a τ may grow by in so many bytes: an array by elements, and else by nothing
abbrev pub behind : ℕ → Ty → Ty
behind room (ty_array τ n) = ty_array τ (most_of room (size τ) - n)
behind room (ty_int w) = ty_unit
behind room ty_bool = ty_unit
behind room (ty_float f) = ty_unit
behind room ty_ptr = ty_unit
behind room (ty_ref κ μ τ) = ty_unit
behind room ty_unit = ty_unit
behind room (ty_struct ν τs) = ty_unit
behind room (ty_enum ν τss) = ty_unit
behind room (ty_param i) = ty_unit
behind room (ty_const n) = ty_unit
behind room (ty_array_p τ i) = ty_unit
behind room (ty_named ν θ) = ty_unit

-- a piece of the memory that begins at p is out as room for a τ at q
pub record IsOut (p : Ptr) (τ : Ty) (q : Ptr) (first count label : ℕ) : Type 0 where
  pub there : q ≡ ptr_add u64 first p
  pub room : words_for (size τ) ≤ count
  pub small : size τ < 2 ^ 63
  pub piece : IsPieceFor (size τ) first count label

-- room for a ρ right behind a τ at q
abbrev pub room_behind : Ty → Ty → Ptr → Fml
room_behind τ ρ q = room_for ρ (q +ₚ size τ)

-- what the τ may grow by, and the way back from it and the room for the τ to the piece's words
abbrev pub kept_back : Ptr → Ty → Ty → Ptr → ℕ → ℕ → ℕ → Fml
kept_back p τ ρ q first count label =
    fsep (room_behind τ ρ q) (fwand (fsep (room_for τ q) (room_behind τ ρ q)) (piece_owns p first count label))

-- the right to give the room for a τ at q back, to a heap whose memory begins at p
abbrev pub piece_token : Ptr → Ty → Ptr → Fml
piece_token p τ q =
    fex ℕ (λ first. fex ℕ (λ count. fex ℕ (λ label. fex (IsOut p τ q first count label) (λ _. kept_back p τ (behind (bytes_before count) τ) q first count label))))
