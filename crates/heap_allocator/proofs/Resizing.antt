-- Values whose piece serves their new size too stay where they are. Assumes `Logic`.
use Rattle.std.proofs.Common.{◌≡◌, refl, ℕ, zero, suc, ◌+◌, ◌-◌, ◌*◌, ◌^◌, ◌<◌, ◌≤◌, List, [], ◌∷◌, sym, ap, ◌∙◌, subst, arith}
use mathlib.Core.Bool.{Bool, true, false}
use lib.Dec.{T}
use native.Mathlib.Nat.{zero-mul, suc-mul}
use seplogic.Ra.Ura.{Ura}
use mir.Syntax.{Ty, ty_array, Body, skip, seq, assign, block, loop, cond, switch, exit, return, call, call_v, unreachable, lend_static}
use mir.Raw.{raw as bare}
use base.Logic.{SProp, ent, sep, wand, all, emp, apply∗, all_i, ex_i, wand_i, via, mono_r, comm∗, emp∗, snd∗}
use base.Fml.{Fml, fsep, fex, fwand, froom}
use prog.Memory.{size}
use prog.RawLaws.{size-raw}
use contract.Monad.{fact}
use types.Logic.{Logic, sem}
use types.Kit.{‵, raw, ◌⊛◌, ◌$◌, ◌∵◌, !, qed, move, use1, use2, split, fsplit, fsplit3, fjoin, fjoin3, fpick, fpack, assume, done}
use denote.RattleType.{RattleType}
use denote.Param.{param, layout}
use denote.RawPtr.{Ptr, block_ptr}
use denote.RawPtr.Room.{past, room_cut, room_glue}
use borrow.Fn.Refines.{Gives, Turns}
use Rattle.core.specs.Allocator.{block_with_items}
use Rattle.core.proofs.ptr.Rows.{add_times}
use Rattle.memory_cache.specs.Sizes.{piece_words}
use Rattle.heap_allocator.specs.Pieces.{words_for, piece_owns, piece_token, behind, bytes_before, most_of, kept_back, AreOfOnePiece, IsOut}
use Rattle.heap_allocator.proofs.Rooms.{most}

-- what is done where a condition fails
abbrev pub otherwise : Body → Body
otherwise skip = skip
otherwise (seq x₀ x₁) = skip
otherwise (assign x₀ x₁) = skip
otherwise (block x₀) = skip
otherwise (loop x₀) = skip
otherwise (cond x₀ x₁ x₂) = x₂
otherwise (switch x₀ x₁) = skip
otherwise (exit x₀) = skip
otherwise return = skip
otherwise (call x₀ x₁ x₂) = skip
otherwise (call_v x₀ x₁ x₂ x₃) = skip
otherwise unreachable = skip
otherwise (lend_static x₀ x₁ x₂) = skip

pub is-true : (y : Bool) → T y → y ≡ true
is-true true h = refl
is-true false h = absurd h

-- clauses that require the same, and ensure one fact more
pub refines : {M : Type 1} (𝓤 : Ura M) (G : Type 0) (g : G) (Q : G → SProp 𝓤) (R X : Type 0) (φ : R → Type 0) (S : G → R → SProp 𝓤)
    → Gives 𝓤 (Q g) G Q (λ h. Turns 𝓤 R X (λ r e. sep 𝓤 (fact 𝓤 (φ r)) (S h r)) (λ r e. S g r))
refines 𝓤 G g Q R X φ S =
    let D : G → R → X → SProp 𝓤 = λ h r e. sep 𝓤 (fact 𝓤 (φ r)) (S h r) in let D' : R → X → SProp 𝓤 = λ r e. S g r in let W : G → SProp 𝓤 = λ h. Turns 𝓤 R X (D h) D' in
    let kept : ent 𝓤 (emp 𝓤) (W g) = all_i 𝓤 (λ (r : R). all 𝓤 (λ (e : X). wand 𝓤 (D g r e) (D' r e))) (λ r. all_i 𝓤 (λ (e : X). wand 𝓤 (D g r e) (D' r e)) (λ e.
    wand_i 𝓤 (emp 𝓤) (D g r e) (D' r e) (via 𝓤 (D g r e) (snd∗ 𝓤 (emp 𝓤) (D g r e)) (snd∗ 𝓤 (fact 𝓤 (φ r)) (S g r))))) in
    via 𝓤 (sep 𝓤 (Q g) (W g)) (via 𝓤 (sep 𝓤 (Q g) (emp 𝓤)) (via 𝓤 (sep 𝓤 (emp 𝓤) (Q g)) (emp∗ 𝓤 (Q g)) (comm∗ 𝓤 (emp 𝓤) (Q g))) (mono_r 𝓤 (Q g) kept))
    (ex_i 𝓤 (λ (h : G). sep 𝓤 (Q h) (W h)) g)

far : (σ : Ty) (m o : ℕ) → past σ m o ≡ o + m * size σ
far σ zero o = omega (arith, zero-mul (size σ))
far σ (suc m) o = far σ m (o + size σ) ∙ omega (arith, suc-mul m (size σ))

module _ {M : Type 1} {𝓤 : Ura M} (𝓛 : Logic 𝓤) (σ : Ty) (b : ℕ) where
  open 𝓛 use {H}

  abbrev rm : ℕ → ℕ → SProp 𝓤
  rm n o = H.room (ty_array σ n) b o

  cut_at : (m n t o d : ℕ) → m + n ≡ t → o + m * size σ ≡ d → ent 𝓤 (rm t o) (sep 𝓤 (rm m o) (rm n d))
  cut_at m n t o d total at = subst (λ (u : ℕ × ℕ). ent 𝓤 (rm u.0 o) (sep 𝓤 (rm m o) (rm n u.1))) (λ i. (total i, (far σ m o ∙ at) i)) (room_cut 𝓛 σ m n b o)

  glue_at : (m n t o d : ℕ) → m + n ≡ t → o + m * size σ ≡ d → ent 𝓤 (sep 𝓤 (rm m o) (rm n d)) (rm t o)
  glue_at m n t o d total at = subst (λ (u : ℕ × ℕ). ent 𝓤 (sep 𝓤 (rm m o) (rm n u.1)) (rm u.0 o)) (λ i. (total i, (far σ m o ∙ at) i)) (room_glue 𝓛 σ m n b o)

  -- of t elements n are cut off behind some place, where m were
  recut : (len m n t o d e f : ℕ) → len ≤ m → m ≤ t → len ≤ n → n ≤ t → d ≡ o + len * size σ → e ≡ o + m * size σ → f ≡ o + n * size σ
      → ent 𝓤 (sep 𝓤 (rm (m - len) d) (rm (t - m) e)) (sep 𝓤 (rm (n - len) d) (rm (t - n) f))
  recut len m n t o d e f le lm le' ln at at' at'' =
      let spread : (k : ℕ) → len ≤ k → len * size σ + (k - len) * size σ ≡ k * size σ = λ k l. sym (add_times len (k - len) (size σ)) ∙ ap (λ (j : ℕ). j * size σ) (omega (arith, l)) in
      via 𝓤 (rm (t - len) d) (glue_at (m - len) (t - m) (t - len) d e (omega (arith, le, lm)) (omega (arith, at, at', spread m le)))
      (cut_at (n - len) (t - n) (t - len) d f (omega (arith, le', ln)) (omega (arith, at, at'', spread n le')))

pub stays_put : {M : Type 1} {𝓤 : Ura M} (𝓛 : Logic 𝓤) (X : RattleType) (p : Ptr) (len old new b o : ℕ) (xs : List X.Denot) → len ≤ old → len ≤ new → old < 2 ^ 64 → new < 2 ^ 64
    → AreOfOnePiece (old * size (layout X)) (new * size (layout X)) → words_for (new * size (layout X)) ≤ piece_words (words_for (new * size (layout X)))
    → ent 𝓤 (sem 𝓛 (block_with_items (piece_token p) (param 1 X) (block_ptr b o) len old xs)) (sem 𝓛 (block_with_items (piece_token p) (param 1 X) (block_ptr b o) len new xs))
stays_put {𝓤 = 𝓤} 𝓛 X p len old new b o xs le le' fo fn one room =
    let H = 𝓛.H in let s : ℕ = size (layout X) in let σ : Ty = bare (layout X) in let z : ℕ = size σ in let q : Ptr = block_ptr b o in
    let same : z ≡ s = size-raw (layout X) in let bytes : (n : ℕ) → n * z ≡ n * s = λ n. ap (λ (k : ℕ). n * k) same in
    let Kept : ℕ → ℕ → ℕ → Fml = λ j k l. kept_back p (ty_array σ new) (behind (bytes_before k) (ty_array σ new)) q j k l in
    qed 𝓛 (‵ (block_with_items (piece_token p) (param 1 X) q len old xs) ∷ []) ∵ fsplit3 ! $ move ! (2 ∷ []) $ fpick ! (λ first. fpick ! (λ count. fpick ! (λ label. fpick ! (λ out. fsplit ! $
    -- [what it may grow by; the way back; the values; the room behind them]
    let t : ℕ = most_of (bytes_before count) z in
    let long : count ≡ piece_words (words_for (new * s)) = out.piece.long ∙ ap (λ (k : ℕ). piece_words (words_for k)) (bytes old) ∙ one.same in
    let enough : words_for (new * z) ≤ count = subst (λ (k : ℕ). words_for k ≤ count) (sym (bytes new)) (subst (λ (k : ℕ). words_for (new * s) ≤ k) (sym long) room) in
    let old_most : old ≤ t = most (bytes_before count) z old (omega (arith, out.room)) fo in let new_most : new ≤ t = most (bytes_before count) z new (omega (arith, enough)) fn in
    let Old : SProp 𝓤 = sep 𝓤 (rm 𝓛 σ b old o) (rm 𝓛 σ b (t - old) (o + old * z)) in let New : SProp 𝓤 = sep 𝓤 (rm 𝓛 σ b new o) (rm 𝓛 σ b (t - new) (o + new * z)) in let Owned : SProp 𝓤 = sem 𝓛 (piece_owns p first count label) in
    let out' : IsOut p (ty_array σ new) q first count label = record {
      there = out.there;
      room = enough;
      small = omega (arith, one.new_small, bytes new);
      piece = record { long = long ∙ ap (λ (k : ℕ). piece_words (words_for k)) (sym (bytes new)); placed = out.piece.placed };
    } in
    move ! (3 ∷ 0 ∷ []) $ use2 𝓛 (‵ (froom (ty_array σ (new - len)) b (o + len * s)) ⊛ ‵ (froom (ty_array σ (t - new)) b (o + new * z)))
    (recut 𝓛 σ b len old new t o (o + len * s) (o + old * z) (o + new * z) le old_most le' new_most (ap (λ (k : ℕ). o + k) (sym (bytes len))) refl refl) $ split ! $ move ! (2 ∷ []) $
    use1 𝓛 (‵ (fwand (fsep (froom (ty_array σ new) b o) (froom (ty_array σ (t - new)) b (o + new * z))) (piece_owns p first count label))) (qed 𝓛 (raw (wand 𝓤 Old Owned) ∷ []) ∵ assume ! (raw New) $
    use1 𝓛 (raw (rm 𝓛 σ b t o)) (glue_at 𝓛 σ b new (t - new) t o (o + new * z) (omega (arith, new_most)) refl) $
    use1 𝓛 (raw Old) (cut_at 𝓛 σ b old (t - old) t o (o + old * z) (omega (arith, old_most)) refl) $ move ! (0 ∷ 1 ∷ []) $ use2 𝓛 (raw Owned) (apply∗ 𝓤 Old Owned) $ done !) $
    -- [the way back; the room behind the values; what it may grow by; the values]
    move ! (2 ∷ 0 ∷ []) $ fjoin ! $
    fpack ! (IsOut p (ty_array σ new) q first count label) (λ _. Kept first count label) out' $
    fpack ! ℕ (λ l. fex (IsOut p (ty_array σ new) q first count l) (λ _. Kept first count l)) label $
    fpack ! ℕ (λ k. fex ℕ (λ l. fex (IsOut p (ty_array σ new) q first k l) (λ _. Kept first k l))) count $
    fpack ! ℕ (λ j. fex ℕ (λ k. fex ℕ (λ l. fex (IsOut p (ty_array σ new) q j k l) (λ _. Kept j k l)))) first $
    move ! (2 ∷ 1 ∷ 0 ∷ []) $ fjoin3 ! $ done !))))
