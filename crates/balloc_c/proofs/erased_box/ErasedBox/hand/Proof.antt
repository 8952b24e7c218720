-- `hand` lends the pass behind the pointer, and what holds it follows.
use mathlib.Core.Path.{◌≡◌, refl, sym}
use Prim.Native.Nat.{ℕ}
use mathlib.Core.List.{List, [], ◌∷◌}
use Rattle.std.specs.Prelude.{Some, Option}
use seplogic.Ra.Ura.{Ura}
use base.Fraction.{full_share}
use base.Logic.{SProp, ent, sep, id⊢, never, fst∗}
use base.Fml.{Lft, GName, Share, Fml, ftrue, flft, fsep}
use mir.Raw.{raw as bare}
use mir.Syntax.{named}
use mir.Val.{Val, vptr}
use prog.Memory.{Memory}
use prog.Routine.{Routine}
use prog.Wp.{Env, Calls, Loops, WpFn}
use types.Logic.{Logic, sem}
use contract.Monad.{Fun, fact}
use contract.Running.{tables}
use types.Kit.{‵, ◌⊛◌, some, at_ret, ◌$◌, ◌∵◌, !, qed, by, move, keep, use1, drop, split, join, pick, fsplit, fsplit3, fjoin, fpack, suffices, frame, done, raw, later, await, group, rewrite}
use types.Part.{whole, sub, look_in}
use types.Run.{stop, fld, load, of_opd, first, blocks, exec, returns, enter, addr}
use types.ByLocal.{alloc_all, pass_all, free_all, look_at, get, through, sets, env, sets_last}
use denote.Exit.{no}
use denote.Follow.{follows, Part, lends_Part}
use denote.Memory.{cell_at, mem, part_at, part_of}
use denote.RattleType.{owns}
use denote.RawPtr.{Ptr, block_ptr, null_ptr, ptr_val, in_a_block}
use denote.Ref.{MutBor, MutRef, mut_vals, mut_Tells}
use denote.Signature.{plain, mut_ref_to}
use denote.Steps.{heard, nothing, opens}
use denote.Triple.Entry.{on_entry}
use denote.Triple.Walked.{says, Stays, stay_dropped, walk_of, ends_at, Goes-spent_ref}
use Rattle.std.proofs.alloc.Calls.{token}
use Rattle.std.proofs.raw_atomic.Walks.{proved}
use Rattle.std_alloc.specs.Box.Ownership.{box_owns}
use Rattle.std_alloc.proofs.BoxSteps.Form.{τ, handle}
use Rattle.std_alloc.proofs.VecSteps.Shapes.{after}
use Rattle.balloc_c.specs.Lent.{with_hand}
use Rattle.balloc_c.specs.Owned.{pass_owns}
use Rattle.balloc_c.proofs.Seal.{E, both, held_in, held_out}
use Rattle.balloc_c.specs.contracts.hand.Hand as T
use Rattle.balloc_c.specs.contracts.erased_box.ErasedBox as S
use Rattle.balloc_c.specs.declared.hand.Hand.{Hand}
use Rattle.balloc_c.specs.declared.erased_box.ErasedBox.{ErasedBox}
use Rattle.balloc_c.specs.contracts.erased_box.ErasedBox.hand as F
use Rattle.balloc_c.proofs.erased_box.ErasedBox.hand.Statement as stated
use Rattle.balloc_c.proofs.erased_box.ErasedBox.hand.Code as code

abbrev stayed : Stays (F.ended).signature.params (F.ended).kept
stayed = (stay_dropped (mut_ref_to (0 ∷ []) tt (plain (λ _. S.the_row))) no, tt)

module _ {M : Type 1} {𝓤 : Ura M} (𝓛 : Logic 𝓤) (at_mem : Memory → SProp 𝓤) (run : Routine → Fun 𝓤)
    (κ : Lft) (q : Share) (rb ro : ℕ) (γ : GName) (h : ErasedBox) (s : Hand) (is : h.hand ≡ Some s) where
  open 𝓛 use {H, A}

  abbrev given : MutBor ErasedBox
  given = record { ref_ptr = (rb, ro); ghost_name = γ; now = h }

  abbrev bound : (walk_of 𝓛 F.ended stayed (F.clauses 𝓛 at_mem run)).Ghost
  bound = (((κ, tt), (q, tt), tt, (given, tt), (vptr rb ro ∷ [], tt)), tt)

  abbrev Post : Val → SProp 𝓤
  Post = (walk_of 𝓛 F.ended stayed (F.clauses 𝓛 at_mem run)).post bound

  -- the place of what is held, with these machine values
  abbrev Place : List Val → Fml
  Place vs = cell_at full_share S.the_row.mir vs rb ro

  abbrev Owned : Ptr → Fml
  Owned p = box_owns (token E.al h.alloc) T.the_row p s

  module _ (b o : ℕ) (hv : Val) where
    abbrev word : Val
    word = both (ptr_val (block_ptr b o)) hv

    -- all of what is held but the pass
    abbrev Rest : Fml
    Rest = fsep (fsep (token E.al h.alloc (bare (τ E)) (block_ptr b o)) (handle E h.alloc hv)) (Place (word ∷ []))

    abbrev Holds : Hand → List Val → Fml
    Holds w = S.the_row.own_val (with_hand h w)

    back : h.at ≡ block_ptr b o → (w : Hand)
        → ent 𝓤 (sep 𝓤 (sem 𝓛 ((mem T.the_row).own_at w b o)) (sem 𝓛 Rest)) (sem 𝓛 ((mem S.the_row).own_at (with_hand h w) rb ro))
    unfolding part_of
    back at_b w =
        qed 𝓛 (‵ (part_at T.the_row full_share w b o) ∷ ‵ Rest ∷ []) ∵ move ! (1 ∷ []) $ fsplit ! $ fsplit ! $ move ! (3 ∷ []) $ fjoin ! $
        use1 𝓛 (‵ (pass_owns (Some w) h.alloc (block_ptr b o))) (id⊢ 𝓤 _) $
        rewrite ! 0 (λ (p : Ptr). ‵ (pass_owns (Some w) h.alloc p)) (sym at_b) refl $ held_in ! h.at hv (with_hand h w) refl $
        rewrite ! 0 (λ (p : Ptr). ‵ (Holds w (both (ptr_val p) hv ∷ []))) at_b refl $ move ! (1 ∷ 0 ∷ []) $ fjoin ! $
        fpack ! (List Val) (λ vs. fsep (Place vs) (Holds w vs)) (word ∷ []) $ done !

    abbrev lent : GName → MutBor Hand
    lent γ' = record { ref_ptr = (b, o); ghost_name = γ'; now = s }

    abbrev Lent : GName → Fml
    Lent γ' = (MutRef (named 0) κ T.the_row).own_val (lent γ') (vptr b o ∷ [])

    abbrev Follows : GName → Fml
    Follows γ' = follows S.the_row T.the_row γ γ' (with_hand h)

    exits : (γ' : GName) → ent 𝓤 (sep 𝓤 (sem 𝓛 (Lent γ')) (sep 𝓤 (A.lft κ q) (sem 𝓛 (Follows γ')))) (Post (vptr b o))
    exits γ' =
        qed 𝓛 (‵ (Lent γ') ∷ ‵ (flft κ q) ∷ ‵ (Follows γ') ∷ []) ∵
        suffices ! _ (ends_at 𝓛 F.ended stayed (F.clauses 𝓛 at_mem run) bound (vptr b o) (lent γ') (tt, tt) (tt, tt)) $
        nothing ! $ nothing ! $ fjoin ! $ join ! $ nothing ! $ move ! (2 ∷ 0 ∷ []) $ join ! $ join ! $ frame ! $ says ! is $ done !

  module _ (C : Calls 𝓤 H) (Λ : Loops 𝓤 H) where
    walk : ent 𝓤 (on_entry 𝓛 (F.ended).signature (κ, tt) (q, tt) (given, tt) (vptr rb ro ∷ [], tt)) (WpFn 𝓤 H C Λ code.function (vptr rb ro ∷ []) Post)
    walk =
        qed 𝓛 ((‵ (flft κ q) ⊛ ‵ ftrue) ∷ ‵ (owns (MutRef (named 0) κ S.the_row ∷ []) (given, tt) (vptr rb ro ∷ [], tt)) ∷ []) ∵
        enter ! C Λ code.function (vptr rb ro ∷ []) _ $
        alloc_all ! (λ l. pass_all ! refl ((tt, tt), tt) $
        let En : Env 𝓤 H = env code.function.locals l in
        move ! (1 ∷ []) $ fsplit ! $ fsplit3 ! $ drop ! $ move ! (3 ∷ []) $ split ! $ move ! (2 ∷ 3 ∷ 0 ∷ []) $
        opens ! tt S.the_row {h = h} rb ro (λ vs. move ! (1 ∷ []) $ held_out ! h vs (λ hv ws fa.
        rewrite ! 0 (λ (t : Option Hand). ‵ (pass_owns t h.alloc h.at)) is refl $ use1 𝓛 (‵ (Owned h.at)) (id⊢ 𝓤 _) $
        in_a_block ! h.at Owned (fst∗ 𝓤 (never 𝓤) (sem 𝓛 (token E.al h.alloc (bare (τ E)) null_ptr))) (λ b o at_b.
        fsplit ! $ move ! (1 ∷ 2 ∷ []) $ fjoin ! $ move ! (1 ∷ []) $
        rewrite ! 2 (λ (us : List Val). ‵ (Place us)) ws refl $ rewrite ! 2 (λ (p : Ptr). ‵ (Place (both (ptr_val p) hv ∷ []))) at_b refl $
        first ! $ blocks ! $
        sets ! (of_opd ! (load ! (through ! refl (fld ! refl (stop !))) (look_in ! 2 (sub ! 0 refl (whole !))))) refl (tt, tt) $
        sets ! (of_opd ! (get ! refl)) refl (tt, tt) $
        sets_last ! (addr ! (through ! refl (stop !))) refl (tt, tt) $
        exec ! C Λ En (after 1 code.function.body) (at_ret En Post) $
        sets ! (of_opd ! (get ! refl)) refl (tt, tt) $
        move ! (1 ∷ 2 ∷ []) $ fjoin ! $ move ! (2 ∷ 3 ∷ 4 ∷ 1 ∷ 0 ∷ []) $ group ! 5 $
        let rest = sem 𝓛 (Rest b o hv) in
        let code = S.the_row.coded.code h in
        use1 𝓛 (later (some (λ (γ' : GName). raw (Part 𝓛 S.the_row T.the_row (with_hand h) (named 0) κ q rb ro b o γ rest (back b o hv at_b) s γ'))))
        (lends_Part 𝓛 S.the_row T.the_row (with_hand h) (named 0) κ q rb ro b o γ rest (back b o hv at_b) code code s) $ await ! tt $ pick ! (λ γ'.
        returns ! (look_at ! 0 refl) $ free_all ! refl $
        keep ! (0 ∷ []) $ by ! (exits b o hv γ'))))))

pub hand_spec : {M : Type 1} → stated.statement M
hand_spec 𝓤 𝓛 𝓜 𝓡 wired =
    let 𝓣 = tables 𝓤 𝓛.H 𝓜 𝓡 𝓡.env in
    let Is : MutBor ErasedBox → Type 0 = λ it. (hand : Hand) × (it.now.hand ≡ Some hand) in
    proved 𝓛 F.ended stayed (F.clauses 𝓛 𝓜.mem 𝓡.returns) 𝓜 𝓡 (Goes-spent_ref 𝓛 1 (0 ∷ []) tt (plain (λ _. S.the_row)), tt)
    F.Key.name code.function (code.unfolded 𝓤 𝓛.H 𝓜 𝓡 wired) (λ κs. (mut_vals, tt)) (λ κs. (mut_Tells (named 0) κs.0 S.the_row, tt))
    (λ κs qs bounds a g are. let it = a.0 in
    qed 𝓛 (raw (on_entry 𝓛 (F.ended).signature κs qs a (vptr it.ref_ptr.0 it.ref_ptr.1 ∷ [], tt)) ∷ raw (fact 𝓤 (Is it)) ∷ []) ∵
    move ! (1 ∷ []) $ heard ! (Is it) (λ is.
    by ! (walk 𝓛 𝓜.mem 𝓡.returns κs.0 qs.0 it.ref_ptr.0 it.ref_ptr.1 it.ghost_name it.now is.0 is.1 𝓣.C 𝓣.Λ)))
