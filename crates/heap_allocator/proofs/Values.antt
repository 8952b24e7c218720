-- The machine values of a piece and of three values: what is owned tells the one, and makes the other. Assumes `Logic`.
use Rattle.std.proofs.Common.{◌≡◌, ℕ, ◌^◌, ◌<◌, List, [], ◌∷◌, ◌++◌, refl, ◌∙◌, w64}
use seplogic.Ra.Ura.{Ura}
use mir.Val.{Val, vint, vstruct, vcons, vnil, of_list}
use base.Logic.{ent, sep, emp}
use types.Logic.{Logic, sem}
use types.Kit.{‵, ◌$◌, ◌∵◌, !, qed, move, fjoin, fpack, feq_i, done}
use denote.RattleType.{RattleType, Valss}
use denote.RawPtr.{Ptr, block_ptr, null_ptr, ptr_val}
use lib.Dec.{T, lit<}
use mir.Syntax.{ty_ptr}
use mir.Val.{has_ty, WT}
use denote.Shadow.{shadow, makes_shadow}
use denote.Steps.{nothing}
use denote.Struct.Declared as declared
use denote.Struct.Struct.{Struct, within}
use denote.Struct.Tuple.{Tuple, tuple_type}
use denote.Struct.Owning.{shape}
use Rattle.heap_allocator.specs.contracts.piece.Piece as piece

abbrev pub piece_val : Ptr → ℕ → Val
piece_val p n = vstruct (vcons (ptr_val p) (vcons (vint w64 n) vnil))

-- a piece without what it owns
abbrev pub Bare : RattleType
Bare = Struct (shape piece.the_type)

pub bare_told : (p : Ptr) (n : ℕ) (vs : List Val) → shadow (Bare.own_val (p, (n, tt)) vs) → (vs ≡ piece_val p n ∷ []) × (n < 2 ^ 64)
bare_told p n vs s = (s.1.0 ∙ (λ i. vstruct (of_list (s.1.1.0 i ++ (s.1.1.1.0.0 i ++ []))) ∷ []), s.1.1.1.0.1)

pub bare_made : {M : Type 1} {𝓤 : Ura M} (𝓛 : Logic 𝓤) (p : Ptr) (n : ℕ) → n < 2 ^ 64 → ent 𝓤 (emp 𝓤) (sem 𝓛 (Bare.own_val (p, (n, tt)) (piece_val p n ∷ [])))
bare_made 𝓛 p n fits = makes_shadow 𝓛 (Bare.own_val (p, (n, tt)) (piece_val p n ∷ [])) (λ _. (tt, (tt, ((tt, tt), tt)))) ((ptr_val p ∷ [], (vint w64 n ∷ [], tt)), (refl, (refl, ((refl, fits), tt))))

abbrev pub two_val : Val → Val → Val
two_val u v = vstruct (vcons u (vcons v vnil))

-- what is owned of two values is owned of them as a tuple
pub two_of : {M : Type 1} {𝓤 : Ura M} (𝓛 : Logic 𝓤) (R S : RattleType) (x : R.Denot) (y : S.Denot) (u v : Val)
    → ent 𝓤 (sep 𝓤 (sem 𝓛 (R.own_val x (u ∷ []))) (sem 𝓛 (S.own_val y (v ∷ [])))) (sem 𝓛 ((Tuple (R ∷ S ∷ [])).own_val (x, y) (two_val u v ∷ [])))
two_of 𝓛 R S x y u v =
    let all_ : Val = two_val u v in
    qed 𝓛 (‵ (R.own_val x (u ∷ [])) ∷ ‵ (S.own_val y (v ∷ [])) ∷ []) ∵ nothing ! $ move ! (2 ∷ 0 ∷ []) $ fjoin ! $ move ! (1 ∷ 0 ∷ []) $ fjoin ! $
    feq_i ! (List Val) (all_ ∷ []) (all_ ∷ []) refl $ fjoin ! $ fpack ! (Valss (R ∷ S ∷ [])) (within (declared.shape (tuple_type (R ∷ S ∷ []))) (x, (y, tt)) (all_ ∷ [])) (u ∷ [], (v ∷ [], tt)) $ done !

pub ptr_good : (p : Ptr) → T (has_ty ty_ptr (ptr_val p)) × WT (ptr_val p)
ptr_good (block_ptr b o) = (tt, tt)
ptr_good null_ptr = (tt, record { fits = lit< tt })
