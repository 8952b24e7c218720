-- A piece goes out as room for a type, with the right to give it back. Assumes `Logic`.
use Rattle.std.proofs.Common.{◌≡◌, ℕ, zero, suc, ◌+◌, ◌-◌, ◌*◌, ◌%◌, ◌^◌, ◌<◌, ◌≤◌, List, [], ◌∷◌, ◌++◌, length, IfSome, None, Some, refl, sym, ap, subst, ◌∙◌, arith}
use seplogic.Ra.Ura.{Ura}
use mir.Syntax.{Ty}
use mir.Val.{Val, vcons, vnil, of_list}
use base.Logic.{ent, sep}
use base.Fml.{Fml, ftrue, fsep, fex, fwand, froom}
use prog.Memory.{size, capped}
use prog.Capped.{capped_is, capped_small}
use types.Logic.{Logic, sem}
use types.Kit.{Item, Goal, Seq, ‵, ◌⊛◌, ◌$◌, ◌∵◌, !, qed, move, drop, use1, split, frame, rewrite, fsplit, fjoin, fpick, fpack, feq_l, done}
use types.Match.{live}
use denote.RattleType.{RattleType}
use denote.Builtin.{u64, unit}
use denote.RawPtr.{Ptr, block_ptr, block_of, count_of, at_block}
use denote.Shadow.{pure_l}
use denote.Signature.{Slot, plain}
use denote.Steps.{only}
use Rattle.std.specs.Ptr.{ptr_add}
use Rattle.core.specs.contracts.option.Option as option
use Rattle.plain_words.specs.Owned.{Lies}
use Rattle.heap_allocator.specs.Pieces.{words_for, labelled, piece_owns, piece_token, behind, bytes_before, kept_back, IsPieceFor, IsOut}
use Rattle.heap_allocator.specs.Served.{IsServed}
use Rattle.heap_allocator.specs.contracts.piece.Piece as piece
use Rattle.heap_allocator.proofs.Rooms.{lends, is-behind}
use Rattle.heap_allocator.proofs.Values.{piece_val, Bare, bare_told}

-- a parameter by its number
abbrev pub param_of : {n : ℕ} → ℕ → List (Slot n) → Slot n
param_of k [] = plain (λ _. unit)
param_of zero (s ∷ ss) = s
param_of (suc k) (s ∷ ss) = param_of k ss

abbrev pub Taken : RattleType
Taken = option.the_row piece.the_row

-- what `take` says of its answer, where n bytes were asked for at the alignment a
abbrev pub Told : Ptr → ℕ → ℕ → Taken.Denot → Type 0
Told p n a r = IfSome r (λ x. IsServed p x × (x.size ≡ n) × (a ≤ 16) × (x.first % 2 ≡ 1))

-- the place of a word behind p
abbrev pub lies_at_word : Ptr → ℕ → Ptr
lies_at_word p first = block_ptr (block_of p) (first * 8 + count_of p)

pub hands_out : {M : Type 1} {𝓤 : Ura M} (𝓛 : Logic 𝓤) (p : Ptr) (first n count label : ℕ) (τ : Ty) → capped (size τ) ≡ n → ptr_add u64 first p ≡ lies_at_word p first
    → words_for n ≤ count → n < 2 ^ 63 → IsPieceFor n first count label → first % 2 ≡ 1
    → ent 𝓤 (sem 𝓛 (piece_owns p first count label)) (sep 𝓤 (𝓛.H.room τ (block_of p) (first * 8 + count_of p)) (sem 𝓛 (piece_token p τ (lies_at_word p first))))
hands_out {𝓤 = 𝓤} 𝓛 p first n count label τ sized there room small piece odd =
    let b : ℕ = block_of p in let o : ℕ = first * 8 + count_of p in let q : Ptr = lies_at_word p first in
    let short : size τ < 2 ^ 63 = capped_small (size τ) (omega arith) in let same : n ≡ size τ = sym sized ∙ capped_is (size τ) (omega arith) in
    let enough : words_for (size τ) ≤ count = subst (λ (k : ℕ). words_for k ≤ count) same room in
    let out : IsOut p τ q first count label = record { there = sym there; room = enough; small = short; piece = subst (λ (k : ℕ). IsPieceFor k first count label) same piece } in
    let room_ : ℕ = bytes_before count in let ρ : Ty = behind room_ τ in let Kept : ℕ → ℕ → ℕ → Fml = λ j k l. kept_back p τ (behind (bytes_before k) τ) q j k l in
    qed 𝓛 (‵ (piece_owns p first count label) ∷ []) ∵
    use1 𝓛 ((‵ (froom τ b o) ⊛ ‵ (froom ρ b (o + size τ))) ⊛ ‵ (fwand (fsep (froom τ b o) (froom ρ b (o + size τ))) (piece_owns p first count label))) (lends 𝓛 p first count label τ ρ (is-behind room_ τ (omega (arith, enough))) odd) $ split ! $ split ! $ frame ! $ fjoin ! $
    fpack ! (IsOut p τ q first count label) (λ _. Kept first count label) out $
    fpack ! ℕ (λ l. fex (IsOut p τ q first count l) (λ _. Kept first count l)) label $
    fpack ! ℕ (λ k. fex ℕ (λ l. fex (IsOut p τ q first k l) (λ _. Kept first k l))) count $
    fpack ! ℕ (λ j. fex ℕ (λ k. fex ℕ (λ l. fex (IsOut p τ q j k l) (λ _. Kept j k l)))) first $ done !

module _ {M : Type 1} {𝓤 : Ura M} {𝓛 : Logic 𝓤} {K : Type 0} {Γ : List (Item 𝓤)} {G : Goal 𝓤 𝓛.H} where
  -- words that are owned lie in a block
  pub in_its_block : K → (p : Ptr) (first count label : ℕ) → (ptr_add u64 first p ≡ lies_at_word p first → Seq K 𝓛 (‵ (piece_owns p first count label) ∷ Γ) G) → Seq K 𝓛 (‵ (piece_owns p first count label) ∷ Γ) G
  in_its_block t p first count label k =
      fsplit t $ fpick t (λ lies. fpack t (Lies p (first + length (labelled count label))) (λ _. ftrue) lies $ fjoin t $ k (ap (ptr_add u64 first) (at_block p lies.0)))

  -- the two cases of what `take` answered
  pub taken : K → (p : Ptr) (n a : ℕ) (r : Taken.Denot) (v : Val) → Told p n a r
      → ((first count label : ℕ) → ptr_add u64 first p ≡ lies_at_word p first → words_for n ≤ count → n < 2 ^ 63 → IsPieceFor n first count label → first % 2 ≡ 1 → v ≡ live 1 (vcons (piece_val (lies_at_word p first) n) vnil)
      → Seq K 𝓛 (‵ (piece_owns p first count label) ∷ Γ) G) → (v ≡ live 0 vnil → Seq K 𝓛 Γ G) → Seq K 𝓛 (‵ (Taken.own_val r (v ∷ [])) ∷ Γ) G
  taken t p n a None v told some none =
      fpick t (λ us. fsplit t $ feq_l t (λ is. fpick t (λ vss. fsplit t $ feq_l t (λ is'. drop t $ none (ap only is ∙ ap (λ (ws : List Val). live 0 (of_list ws)) is')))))
  taken t p n a (Some x) v told some none =
      fpick t (λ us. fsplit t $ feq_l t (λ is. fpick t (λ vss. fsplit t $ feq_l t (λ is'. fsplit t $ move t (1 ∷ []) $ drop t $ fsplit t $ pure_l t (Bare.own_val (x.memory, (x.size, tt)) vss.0) (λ s.
      rewrite t 0 (λ (u : Ptr). ‵ (piece_owns u x.first x.count x.label)) told.0.begins refl $ in_its_block t p x.first x.count x.label (λ there.
      let lies : x.memory ≡ lies_at_word p x.first = x.placed.0 ∙ ap (ptr_add u64 x.first) told.0.begins ∙ there in
      some x.first x.count x.label there (subst (λ (k : ℕ). words_for k ≤ x.count) told.1 x.placed.1) (subst (λ (k : ℕ). k < 2 ^ 63) told.1 x.placed.2) (subst (λ (k : ℕ). IsPieceFor k x.first x.count x.label) told.1 told.0.piece) told.3
      (ap only is ∙ ap (λ (xs : List Val). live 1 (of_list xs)) (is' ∙ ap (λ (xs : List Val). xs ++ []) (bare_told x.memory x.size vss.0 s).0) ∙ (λ i. live 1 (vcons (piece_val (lies i) (told.1 i)) vnil)))))))))
