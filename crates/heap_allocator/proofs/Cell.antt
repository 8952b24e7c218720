-- What a cell of a desk holds is one machine value, which a `&` reaches with the thread's token. Assumes `Logic`.
use Rattle.std.proofs.Common.{◌≡◌, ℕ, List, [], ◌∷◌, IfSome, None, Some, T, refl}
use seplogic.Ra.Ura.{Ura}
use mir.Syntax.{Ty}
use mir.Val.{Val}
use base.Fraction.{full_share}
use base.Logic.{sep, wand, apply∗}
use base.Fml.{Lft, Share, Fml, Incl-refl, ftrue, fsep, fat, flft, ftok}
use base.Mask.{every, less}
use types.Logic.{Logic, sem}
use types.Kit.{Item, Goal, Seq, Step, Soaks, step, ‵, raw, ◌⊛◌, later, ◌$◌, move, drop, use1, use2, use3, split, join, fsplit, fjoin, fpick, fpack, rewrite, await}
use types.Na.{na_acc_in}
use denote.RattleType.{RattleType}
use denote.Exit.{Last, left, yes}
use denote.Param.Mute.{blank}
use denote.Laws.{Lawful}
use denote.Memory.{cell_at, hidden_shr, lone}
use denote.Opens.{unhide}
use denote.Param.{layout}
use denote.Steps.{nothing}
use denote.Struct.Members.{Member}
use Rattle.core.specs.contracts.option.Option as option
use Rattle.core.proofs.option.Option.TheLaws.{the_row_laws as option_laws}
use Rattle.core.proofs.cell.Inside.{Good, round, wraps, unwraps}
use Rattle.std_alloc.specs.contracts.boxed.Box as box
use Rattle.std_alloc.proofs.boxed.Box.TheLaws.{the_row_laws as box_laws}
use Rattle.std_heap.specs.contracts.Global as global
use Rattle.std_heap.specs.contracts.GlobalAllocator.TheImpl.{ghosts}
use Rattle.std_heap.proofs.Global.TheLaws.{the_row_laws as global_laws}
use Rattle.heap_allocator.specs.Cells.{kept_at, kept_val, known}
use Rattle.heap_allocator.specs.Desks.{IsDeskOf, Owner}
use Rattle.heap_allocator.specs.contracts.desk.Desk as desk
use Rattle.heap_allocator.proofs.desk.Desk.TheLaws.{the_row_laws as desk_laws}
use Rattle.heap_allocator.specs.contracts.slot.Slot as slot
use Rattle.heap_allocator.specs.contracts.slot.Slot.TheInside as inside

-- a desk in its box, or nothing
abbrev pub Held : RattleType
Held = option.the_row (box.the_row desk.the_row global.the_row ghosts)

abbrev held : Member
held = record { row = Held; ty = layout Held }

abbrev pub Fields : RattleType
Fields = inside.the_row

abbrev pub slot_type : Ty
slot_type = lone Fields.mir

-- where there is a desk, it is one of this owner
abbrev pub Keeps : Owner → Held.Denot → Type 0
Keeps h x = IfSome x (λ d. IsDeskOf h d.value)

abbrev keeps_in : Owner → Fields.Denot → Type 0
keeps_in h i = Keeps h i.desk

abbrev pub contents : Owner → List Val → Fml
contents h = kept_val Fields (keeps_in h)

pub held_Lawful : {M : Type 1} {𝓤 : Ura M} (𝓛 : Logic 𝓤) → Lawful 𝓛 Held
held_Lawful 𝓛 =
    (option_laws (box.the_row desk.the_row global.the_row ghosts) (box_laws desk.the_row global.the_row ghosts desk_laws global_laws)).lawful 𝓛

-- one that is moved away leaves nothing
pub quiet : (x : Held.Denot) (f : Last (Held.exit yes) x) → T (blank (left (Held.exit yes) x f))
quiet None f = tt
quiet (Some d) f = tt

-- what shuts the cell at b, o again, with the lifetime κ and the token back
abbrev pub Open : {M : Type 1} {𝓤 : Ura M} (𝓛 : Logic 𝓤) → Owner → ℕ → ℕ → Lft → Share → Item 𝓤
Open {𝓤 = 𝓤} 𝓛 h b o κ q =
    ‵ (ftok (less every (b, o)))
    ⊛ raw (wand 𝓤 (sep 𝓤 (sem 𝓛 (kept_at Fields (keeps_in h) b o)) (𝓛.A.tok (less every (b, o)))) (𝓛.H.⇛ (sep 𝓤 (𝓛.A.lft κ q) (𝓛.A.tok every))))

module _ {M : Type 1} {𝓤 : Ura M} {𝓛 : Logic 𝓤} {K : Type 0} {Γ : List (Item 𝓤)} {G : Goal 𝓤 𝓛.H} (h : Owner) where
  open 𝓛 use {H, A}

  -- the fields are one machine value; and are made of it
  pub contents_out : K → (vs : List Val)
      → ((x : Held.Denot) (v : Val) → Keeps h x → Good (layout Held) v → vs ≡ round v ∷ [] → Seq K 𝓛 (‵ (Held.own_val x (v ∷ [])) ∷ Γ) G)
      → Seq K 𝓛 (‵ (contents h vs) ∷ Γ) G
  contents_out t vs k = fpick t (λ i. fsplit t $ move t (1 ∷ []) $ fpick t (λ is. drop t $
      unwraps held t (held_Lawful 𝓛) [] [] i.desk vs (λ v good e. k i.desk v is good e)))

  pub contents_in : K → (x : Held.Denot) (v : Val) → Keeps h x → Step K 𝓛 (‵ (contents h (round v ∷ [])) ∷ Γ) G (‵ (Held.own_val x (v ∷ [])) ∷ Γ) G
  contents_in t x v is = step (λ s.
      let i : Fields.Denot = record { desk = x } in
      use1 𝓛 (‵ (Fields.own_val i (round v ∷ []))) (wraps held 𝓛 [] [] x v) $ nothing t $ fpack t (Keeps h x) (λ _. ftrue) is $
      move t (1 ∷ 0 ∷ []) $ fjoin t $ fpack t Fields.Denot (λ j. fsep (Fields.own_val j (round v ∷ [])) (known (keeps_in h j))) i $ s)

module _ {M : Type 1} {𝓤 : Ura M} {𝓛 : Logic 𝓤} {K : Type 0} {Γ : List (Item 𝓤)} {G : Goal 𝓤 𝓛.H} (h : Owner) (b o : ℕ) where
  open 𝓛 use {H, A}

  pub opens_slot : K → Soaks G → {κ : Lft} {q : Share}
      → ((x : Held.Denot) (v : Val) → Keeps h x → Good (layout Held) v → Seq K 𝓛 (‵ (fat full_share slot_type b o (round v)) ∷ ‵ (Held.own_val x (v ∷ [])) ∷ Open 𝓛 h b o κ q ∷ Γ) G)
      → Seq K 𝓛 (‵ (hidden_shr slot.the_row κ h b o) ∷ ‵ (flft κ q) ∷ ‵ (ftok every) ∷ Γ) G
  opens_slot t z {κ} {q} k =
      let all : Fml = kept_at Fields (keeps_in h) b o in
      unhide t $ use3 𝓛 (later (‵ all ⊛ Open 𝓛 h b o κ q)) (na_acc_in 𝓛 κ ((κ, q) ∷ []) every (b, o) all (Incl-refl κ) refl) $ await t z $ split t $
      fpick t (λ vs. fsplit t $ move t (1 ∷ []) $ contents_out h t vs (λ x v is good e.
      rewrite t 1 (λ (us : List Val). ‵ (cell_at full_share Fields.mir us b o)) e refl $ move t (1 ∷ []) $
      use1 𝓛 (‵ (fat full_share slot_type b o (round v))) (𝓛.laws.raw_at full_share slot_type b o (round v)) $ k x v is good))

  pub shuts_slot : K → Soaks G → {κ : Lft} {q : Share} (x : Held.Denot) (v : Val) → Keeps h x
      → Step K 𝓛 (‵ (flft κ q) ∷ ‵ (ftok every) ∷ Γ) G (‵ (fat full_share slot_type b o (round v)) ∷ ‵ (Held.own_val x (v ∷ [])) ∷ Open 𝓛 h b o κ q ∷ Γ) G
  shuts_slot t z {κ} {q} x v is = step (λ s.
      let all : Fml = kept_at Fields (keeps_in h) b o in
      use1 𝓛 (‵ (cell_at full_share Fields.mir (round v ∷ []) b o)) (𝓛.laws.at_raw full_share slot_type b o (round v)) $ move t (1 ∷ []) $
      contents_in h t x v is $ move t (1 ∷ 0 ∷ []) $ fjoin t $
      fpack t (List Val) (λ us. fsep (cell_at full_share Fields.mir us b o) (contents h us)) (round v ∷ []) $ move t (1 ∷ []) $ split t $ move t (2 ∷ 0 ∷ []) $ join t $
      use2 𝓛 (later (‵ (flft κ q) ⊛ ‵ (ftok every))) (apply∗ 𝓤 (sep 𝓤 (sem 𝓛 all) (A.tok (less every (b, o)))) (H.⇛ (sep 𝓤 (A.lft κ q) (A.tok every)))) $ await t z $ split t $ s)
