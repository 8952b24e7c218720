-- What an `ErasedBox` owns, as a box owns it; and its machine value.
use Rattle.std.proofs.Common.{◌≡◌, List, [], ◌∷◌, ◌++◌, refl, subst}
use lib.Dec.{T, lit<}
use seplogic.Ra.Ura.{Ura}
use mir.Syntax.{impl, tnil, dnil}
use mir.Val.{Val, vstruct, vcons, vnil, of_list, has_ty, WT}
use types.Logic.{Logic}
use types.Kit.{Item, Goal, Seq, Step, step, ‵, ◌$◌, move, drop, fsplit, fjoin, fpick, fpack, feq_i, feq_l}
use denote.RattleType.{Valss}
use denote.Param.{layout}
use denote.RawPtr.{Ptr, null_ptr, ptr_val}
use denote.Signature.{Slot, plain}
use denote.Steps.{nothing}
use denote.Struct.Struct.{within}
use denote.Struct.Owning.{shape, fields, to}
use Rattle.std.proofs.alloc.Calls.{Fits, handle_tells}
use Rattle.std_alloc.proofs.BoxSteps.Form.{Bx, handle}
use Rattle.std_alloc.proofs.ResultValues.{and_tt}
use Rattle.std_heap.specs.contracts.Global as Heap
use Rattle.std_heap.specs.contracts.GlobalAllocator.TheImpl.{ghosts, dict}
use Rattle.std_heap.proofs.Global.TheLaws as heap
use Rattle.balloc_c.specs.contracts.hand.Hand as Hand
use Rattle.balloc_c.proofs.hand.Hand.TheLaws as hand
use Rattle.balloc_c.specs.contracts.parts.Parts as Parts
use Rattle.balloc_c.specs.contracts.erased_box.ErasedBox as ErasedBox
use Rattle.balloc_c.specs.Owned.{pass_owns}

abbrev pub E : Bx
E = record { row = Hand.the_row; laws = hand.the_row_laws; al = record { row = Heap.the_row; laws = heap.the_row_laws; g = ghosts; d = dict; drops = impl [] tnil dnil } }

abbrev pub FromParts : Slot 0
FromParts = plain (λ _. Parts.the_row Hand.the_row Heap.the_row ghosts)

abbrev pub FromHeld : Slot 0
FromHeld = plain (λ _. ErasedBox.the_row)

abbrev pub FromAlloc : Slot 0
FromAlloc = plain (λ _. Heap.the_row)

abbrev pub both : Val → Val → Val
both v w = vstruct (vcons v (vcons w vnil))

-- a handle that is nothing has its type
pub held_fits : (h : Val) → Fits E.al h → T (has_ty (layout ErasedBox.the_row) (both (ptr_val null_ptr) h)) × WT (both (ptr_val null_ptr) h)
held_fits h fits = (and_tt (has_ty (layout Heap.the_row) h) fits.0, (record { fits = lit< tt }, (fits.1, tt)))

module _ {M : Type 1} {𝓤 : Ura M} {𝓛 : Logic 𝓤} {K : Type 0} {Γ : List (Item 𝓤)} {G : Goal 𝓤 𝓛.H} where
  pub held_out : K → (d : ErasedBox.the_row.Denot) (vs : List Val)
      → ((h : Val) → vs ≡ both (ptr_val d.at) h ∷ [] → Fits E.al h → Seq K 𝓛 (‵ (pass_owns d.hand d.alloc d.at) ∷ ‵ (handle E d.alloc h) ∷ Γ) G)
      → Seq K 𝓛 (‵ (ErasedBox.the_row.own_val d vs) ∷ Γ) G
  held_out t d vs k =
      fsplit t $ fpick t (λ vss. fsplit t $ feq_l t (λ ev. fsplit t $ feq_l t (λ ep. fsplit t $ handle_tells E.al t d.alloc vss.1.0 (λ h ea fits. move t (1 ∷ []) $ drop t $ move t (1 ∷ []) $
      k h
      (subst (λ (ws : List Val). vs ≡ vstruct (of_list (ptr_val d.at ∷ (ws ++ []))) ∷ []) ea (subst (λ (ps : List Val). vs ≡ vstruct (of_list (ps ++ (vss.1.0 ++ []))) ∷ []) ep ev)) fits))))

  pub held_in : K → (p : Ptr) (h : Val) (d : ErasedBox.the_row.Denot) → d.at ≡ p
      → Step K 𝓛 (‵ (ErasedBox.the_row.own_val d (both (ptr_val d.at) h ∷ [])) ∷ Γ) G (‵ (pass_owns d.hand d.alloc d.at) ∷ ‵ (handle E d.alloc h) ∷ Γ) G
  held_in t p h d e = step (λ s. let v : Val = both (ptr_val d.at) h in
      nothing t $ move t (2 ∷ 0 ∷ []) $ fjoin t $ feq_i t (List Val) (ptr_val d.at ∷ []) (ptr_val d.at ∷ []) refl $ fjoin t $ feq_i t (List Val) (v ∷ []) (v ∷ []) refl $ fjoin t $
      fpack t (Valss (fields ErasedBox.the_type)) (within (shape ErasedBox.the_type) (to ErasedBox.the_type d) (v ∷ [])) (ptr_val d.at ∷ [], (h ∷ [], tt)) $ fjoin t $ s)
