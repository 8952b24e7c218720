-- Words in a row as room for a type, and back. Assumes `Logic`.
use Rattle.std.proofs.Common.{◌≡◌, ℕ, zero, suc, ◌+◌, ◌-◌, ◌*◌, ◌/◌, ◌%◌, ◌^◌, ◌<◌, ◌≤◌, ◌⊎◌, inl, inr, max, List, [], ◌∷◌, ◌++◌, length, refl, sym, ap, subst, ◌∙◌, length-append, arith}
use lib.ListN.{length-replicate}
use Rattle.std.proofs.lemmas.List.{replicate-append-replicate}
use native.Mathlib.Nat.{mod_self, sub-zero, mul-zero, div-mul-le_self, le-div_iff_mul-le}
use seplogic.Ra.Ura.{Ura}
use mir.Syntax.{Ty, Tys, Width, w8, w16, w32, w64, w128, tnil, tcons, ty_int, ty_bool, ty_float, ty_ptr, ty_ref, ty_array, ty_unit, ty_struct, ty_enum, ty_param, ty_const, ty_array_p, ty_named}
use base.Logic.{SProp, ent, sep, wand, apply∗, id⊢}
use mir.Val.{bytes}
use base.Fml.{ftrue, froom}
use prog.Memory.{size, align, pad, up, end_of}
use prog.Model.{rooms_at}
use prog.Align.{Dv, dv→, dv_zero, dv_one, dv_add, dv_trans, align_pos, align_size, align_w, align-bytes}
use types.Logic.{Logic, sem}
use types.Kit.{‵, raw, ◌⊛◌, ◌$◌, ◌∵◌, !, qed, by, move, drop, use0, use1, use2, split, split3, join, fsplit, fjoin, fpick, fpack, frame, assume, rewrite, done}
use denote.RawPtr.{Ptr, block_of, count_of}
use Rattle.core.proofs.ptr.Rows.{add_times}
use denote.Steps.{nothing}
use Rattle.std.specs.Prelude.{Some, None}
use Rattle.plain_words.specs.Places.{Place, laid, blanks, number_at, IsLaid, AllHere}
use Rattle.plain_words.specs.Owned.{row, pairs_ty, Lies}
use Rattle.plain_words.proofs.Rows.{one, blanked, all_blanked, mates, of_pairs, to_pairs, cut, glue}
use Rattle.heap_allocator.specs.Pieces.{labelled, piece_owns, bytes_before, behind, most_of}

-- where a multiple of the alignment is asked for, nothing is skipped
flush : (a n : ℕ) → Dv a n → up a n ≡ n
flush a n d =
    let gone : pad a n ≡ 0 = ap (λ (r : ℕ). (a - r) % a) (dv→ a n d) ∙ ap (λ (r : ℕ). r % a) (sub-zero a) ∙ mod_self a in
    ap (λ (r : ℕ). n + r) gone ∙ omega arith

-- a type asks for no more alignment than a word has, or for that of a pair
asks_for : (w : Width) → Dv (bytes w) 8 ⊎ (bytes w ≡ 16)
asks_for w8 = inl tt
asks_for w16 = inl tt
asks_for w32 = inl tt
asks_for w64 = inl tt
asks_for w128 = inr refl

abbrev words_ty : ℕ → Ty
words_ty n = ty_array (ty_int w64) n

pub labelled-long : (count label : ℕ) → 0 < count → length (labelled count label) ≡ count
labelled-long count label some =
    omega (arith, length-append (blanks (count - 1)) (laid label ∷ []), length-replicate {A = Place} (count - 1) (Some None))

-- values that lie in so many bytes are at most as many as do
pub most : (room s n : ℕ) → n * s ≤ room → n < 2 ^ 64 → n ≤ most_of room s
most room zero n fits small = omega arith
most room (suc s) n fits small = (le-div_iff_mul-le {k = suc s} {x = n} {y = room} (omega arith)).1 fits

no_bytes : (a b room : ℕ) → a * 0 ≤ room → a * 0 + b * 0 ≤ room
no_bytes a b room fits = omega (arith, fits, mul-zero a, mul-zero b)

all_fit : (room s n : ℕ) → n * s ≤ room → n * s + (most_of room s - n) * s ≤ room
all_fit room zero n fits = no_bytes n (2 ^ 64 - n) room fits
all_fit room (suc s) n fits =
    let q : ℕ = room / suc s in let le : n ≤ q = (le-div_iff_mul-le {k = suc s} {x = n} {y = room} (omega arith)).1 fits in let e : n + (q - n) ≡ q = omega (arith, le) in
    omega (arith, div-mul-le_self room (suc s), ap (λ (k : ℕ). k * suc s) e, add_times n (q - n) (suc s))

-- what a τ may grow by lies right behind it, in the same bytes, and asks for no more alignment; the τ's divides the two
pub record IsBehind (room : ℕ) (τ ρ : Ty) : Type 0 where
  pub fits : size τ + size ρ ≤ room
  pub low : align ρ ≤ align τ
  pub flush : Dv (align ρ) (size τ)
  pub whole : Dv (align τ) (size τ + size ρ)

nothing_behind : (room : ℕ) (τ : Ty) → size τ ≤ room → IsBehind room τ ty_unit
nothing_behind room τ le = record {
  fits = omega (arith, le);
  low = align_pos τ;
  flush = dv_one (size τ);
  whole = dv_add (align τ) (size τ) 0 (align_size τ) (dv_zero (align τ));
}

pub is-behind : (room : ℕ) (τ : Ty) → size τ ≤ room → IsBehind room τ (behind room τ)
is-behind room (ty_array τ n) le = let k : ℕ = most_of room (size τ) - n in record {
  fits = all_fit room (size τ) n le;
  low = omega arith;
  flush = align_size (ty_array τ n);
  whole = dv_add (align τ) (n * size τ) (k * size τ) (align_size (ty_array τ n)) (align_size (ty_array τ k));
}
is-behind room (ty_int w) le = nothing_behind room (ty_int w) le
is-behind room ty_bool le = nothing_behind room ty_bool le
is-behind room (ty_float f) le = nothing_behind room (ty_float f) le
is-behind room ty_ptr le = nothing_behind room ty_ptr le
is-behind room (ty_ref κ μ τ) le = nothing_behind room (ty_ref κ μ τ) le
is-behind room ty_unit le = nothing_behind room ty_unit le
is-behind room (ty_struct ν τs) le = nothing_behind room (ty_struct ν τs) le
is-behind room (ty_enum ν τss) le = nothing_behind room (ty_enum ν τss) le
is-behind room (ty_param i) le = nothing_behind room (ty_param i) le
is-behind room (ty_const n) le = nothing_behind room (ty_const n) le
is-behind room (ty_array_p τ i) le = nothing_behind room (ty_array_p τ i) le
is-behind room (ty_named ν θ) le = nothing_behind room (ty_named ν θ) le

module _ {M : Type 1} {𝓤 : Ura M} (𝓛 : Logic 𝓤) (b : ℕ) where
  open 𝓛 use {H}

  abbrev Pr : Type 2
  Pr = SProp 𝓤

  abbrev ◌⊢◌ : Pr → Pr → Type 1
  P ⊢ Q = ent 𝓤 P Q

  abbrev ◌∗◌ : Pr → Pr → Pr
  P ∗ Q = sep 𝓤 P Q

  abbrev ◌-∗◌ : Pr → Pr → Pr
  P -∗ Q = wand 𝓤 P Q

  infix 26 ◌⊢◌
  infixr 35 ◌∗◌
  infixr 30 ◌-∗◌
  -- what all the words but the i-th hold is given up
  pub forgets : (c : ℕ) (ps : List Place) (i m k : ℕ) → AllHere ps → IsLaid ps i → length ps ≡ i + 1 + m → sem 𝓛 (row b c k ps) ⊢ sem 𝓛 (row b c k (blanks i ++ (laid (number_at ps i) ∷ blanks m)))
  forgets c [] i m k here is long = absurd (omega arith)
  forgets c (p ∷ ps) zero m k here is long = let same : length ps ≡ m = omega (arith, long) in
      qed 𝓛 (‵ (one 𝓛 b c k p) ∷ ‵ (row b c (suc k) ps) ∷ []) ∵ rewrite ! 0 (λ (q : Place). ‵ (one 𝓛 b c k q)) is refl $ move ! (1 ∷ []) $
      use1 𝓛 (‵ (row b c (suc k) (blanks (length ps)))) (all_blanked 𝓛 b c ps (suc k) (λ j lt. here (suc j) (omega (arith, lt)))) $
      rewrite ! 0 (λ (j : ℕ). ‵ (row b c (suc k) (blanks j))) same refl $ move ! (1 ∷ 0 ∷ []) $ done !
  forgets c (p ∷ ps) (suc i) m k here is long =
      qed 𝓛 (‵ (one 𝓛 b c k p) ∷ ‵ (row b c (suc k) ps) ∷ []) ∵ use1 𝓛 (‵ (one 𝓛 b c k (Some None))) (blanked 𝓛 b c k p (here 0 (omega arith))) $ move ! (1 ∷ []) $
      use1 𝓛 (‵ (row b c (suc k) (blanks i ++ (laid (number_at ps i) ∷ blanks m)))) (forgets c ps i m (suc k) (λ j lt. here (suc j) (omega (arith, lt))) is (omega (arith, long))) $ move ! (1 ∷ 0 ∷ []) $ done !

  abbrev Both : Ty → Ty → ℕ → Pr
  Both τ ρ o = H.room τ b o ∗ H.room ρ b (o + size τ)

  -- room for a κ is room for a type and for what lies behind it, as a struct of the two and of the bytes that are left
  serves : (κ τ ρ : Ty) (o : ℕ) → IsBehind (size κ) τ ρ → Dv (align τ) (align κ) → H.room κ b o ⊢ Both τ ρ o ∗ (Both τ ρ o -∗ H.room κ b o)
  serves κ τ ρ o is dv =
      let spare : Tys = tcons (ty_array (ty_int w8) (size κ - (size τ + size ρ))) tnil in let ω : Ty = ty_struct [] (tcons τ (tcons ρ spare)) in
      let one : max (align τ) (max (align ρ) 1) ≡ align τ = omega (arith, align_pos τ, is.low) in
      let start : up (align τ) 0 ≡ 0 = flush (align τ) 0 (dv_zero (align τ)) in
      let first : up (align τ) 0 + size τ ≡ size τ = omega (arith, start) in
      let next : up (align ρ) (up (align τ) 0 + size τ) ≡ size τ = ap (up (align ρ)) first ∙ flush (align ρ) (size τ) is.flush in
      let last : ℕ = up (align ρ) (up (align τ) 0 + size τ) + size ρ in
      let end : end_of zero (tcons τ (tcons ρ spare)) ≡ size κ = ap (λ (k : ℕ). k + (size κ - (size τ + size ρ)) * 1) (flush 1 last (dv_one last) ∙ ap (λ (k : ℕ). k + size ρ) next) ∙ omega (arith, is.fits) in
      let same : size ω ≡ size κ = (λ i. up (one i) (end i)) ∙ flush (align τ) (size κ) (dv_trans (align τ) (align κ) (size κ) dv (align_size κ)) in
      let here : o + up (align τ) 0 ≡ o = ap (λ (k : ℕ). o + k) start ∙ omega arith in
      let there : o + up (align ρ) (up (align τ) 0 + size τ) ≡ o + size τ = ap (λ (k : ℕ). o + k) next in
      let Rest : Pr = rooms_at 𝓤 H spare last b o in let At : ℕ → ℕ → Pr = λ d e. H.room τ b d ∗ H.room ρ b e in let d : ℕ = o + up (align τ) 0 in let e : ℕ = o + up (align ρ) (up (align τ) 0 + size τ) in
      let All : Pr = H.room τ b d ∗ (H.room ρ b e ∗ Rest) in
      subst (λ (u : ℕ × ℕ). H.room κ b o ⊢ At u.0 u.1 ∗ (At u.0 u.1 -∗ H.room κ b o)) (λ i. (here i, there i))
      (qed 𝓛 (raw (H.room κ b o) ∷ []) ∵
      use1 𝓛 (raw (H.room ω b o) ⊛ raw (H.room ω b o -∗ H.room κ b o)) (𝓛.laws.room_as κ ω b o same (subst (λ (k : ℕ). Dv k (align κ)) (sym one) dv)) $ split ! $
      use1 𝓛 ((raw (H.room τ b d) ⊛ (raw (H.room ρ b e) ⊛ raw Rest)) ⊛ raw (All -∗ H.room ω b o)) (𝓛.laws.room_fields [] (tcons τ (tcons ρ spare)) b o) $ split ! $ split3 ! $
      join ! $ use1 𝓛 (raw (At d e)) (id⊢ 𝓤 (At d e)) $ frame ! $ assume ! (raw (At d e)) $
      use1 𝓛 (raw (H.room τ b d) ⊛ raw (H.room ρ b e)) (id⊢ 𝓤 (At d e)) $ split ! $ move ! (1 ∷ 2 ∷ []) $ join ! $ move ! (1 ∷ 0 ∷ []) $ join ! $ use1 𝓛 (raw All) (id⊢ 𝓤 All) $
      use2 𝓛 (raw (H.room ω b o)) (apply∗ 𝓤 All (H.room ω b o)) $ by ! (apply∗ 𝓤 (H.room ω b o) (H.room κ b o)))

  module _ (c : ℕ) where
    -- words that were never laid are room for as many, and what goes with each
    to_words : (n k o : ℕ) → k * 8 + c ≡ o → sem 𝓛 (row b c k (blanks n)) ⊢ H.room (words_ty n) b o ∗ sem 𝓛 (mates 𝓛 b c k n)
    to_words zero k o e = qed 𝓛 (‵ (row b c k (blanks zero)) ∷ []) ∵ use0 𝓛 (‵ (froom (words_ty zero) b o)) (𝓛.laws.room_nil (ty_int w64) b o) $ done !
    to_words (suc n) k o e = qed 𝓛 (‵ (one 𝓛 b c k (Some None)) ∷ ‵ (row b c (suc k) (blanks n)) ∷ []) ∵ fsplit ! $ rewrite ! 0 (λ (i : ℕ). ‵ (froom (ty_int w64) b i)) e refl $ move ! (2 ∷ []) $
        use1 𝓛 (‵ (froom (words_ty n) b (o + 8)) ⊛ ‵ (mates 𝓛 b c (suc k) n)) (to_words n (suc k) (o + 8) (omega arith)) $ split ! $ move ! (2 ∷ 0 ∷ []) $
        use2 𝓛 (‵ (froom (words_ty (suc n)) b o)) (𝓛.laws.room_cons (ty_int w64) n b o) $ move ! (2 ∷ 1 ∷ []) $ fjoin ! $ move ! (1 ∷ 0 ∷ []) $ done !

    of_words : (n k o : ℕ) → k * 8 + c ≡ o → H.room (words_ty n) b o ∗ sem 𝓛 (mates 𝓛 b c k n) ⊢ sem 𝓛 (row b c k (blanks n))
    of_words zero k o e = qed 𝓛 (‵ (froom (words_ty zero) b o) ∷ ‵ (mates 𝓛 b c k zero) ∷ []) ∵ drop ! $ done !
    of_words (suc n) k o e = qed 𝓛 (‵ (froom (words_ty (suc n)) b o) ∷ ‵ (mates 𝓛 b c k (suc n)) ∷ []) ∵
        use1 𝓛 (‵ (froom (ty_int w64) b o) ⊛ ‵ (froom (words_ty n) b (o + 8))) (𝓛.laws.room_uncons (ty_int w64) n b o) $ split ! $ move ! (2 ∷ []) $ fsplit ! $ move ! (3 ∷ 1 ∷ []) $
        use2 𝓛 (‵ (row b c (suc k) (blanks n))) (of_words n (suc k) (o + 8) (omega arith)) $ move ! (2 ∷ []) $ rewrite ! 0 (λ (i : ℕ). ‵ (froom (ty_int w64) b i)) (sym e) refl $
        move ! (0 ∷ 2 ∷ []) $ fjoin ! $ done !

    -- n words from an odd one on go out as room for a type and what lies behind it, and come back: each on its own where the type asks for no more, and else in pairs
    as_words : (n k o : ℕ) (τ ρ : Ty) → k * 8 + c ≡ o → IsBehind (n * 8) τ ρ → Dv (align τ) 8 → sem 𝓛 (row b c k (blanks n)) ⊢ Both τ ρ o ∗ (Both τ ρ o -∗ sem 𝓛 (row b c k (blanks n)))
    as_words n k o τ ρ at is dv = let Words : Pr = H.room (words_ty n) b o in
        qed 𝓛 (‵ (row b c k (blanks n)) ∷ []) ∵ use1 𝓛 (raw Words ⊛ ‵ (mates 𝓛 b c k n)) (to_words n k o at) $ split ! $
        use1 𝓛 (raw (Both τ ρ o) ⊛ raw (Both τ ρ o -∗ Words)) (serves (words_ty n) τ ρ o is dv) $ split ! $ frame ! $ assume ! (raw (Both τ ρ o)) $
        use2 𝓛 (raw Words) (apply∗ 𝓤 (Both τ ρ o) Words) $ by ! (of_words n k o at)

    as_pairs : (n k o : ℕ) (τ ρ : Ty) → k * 8 + c ≡ o → k % 2 ≡ 1 → IsBehind (n * 8) τ ρ → align τ ≡ 16 → sem 𝓛 (row b c k (blanks n)) ⊢ Both τ ρ o ∗ (Both τ ρ o -∗ sem 𝓛 (row b c k (blanks n)))
    as_pairs n k o τ ρ at odd is wide =
        let m : ℕ = n / 2 in let Pairs : Pr = H.room (pairs_ty m) b o in let left : ℕ = n - (m + m) in let j : ℕ = m + m + k in
        let all_ : blanks n ≡ blanks (m + m) ++ blanks left = ap blanks (omega arith) ∙ sym (replicate-append-replicate (m + m) left (Some None)) in
        let far : j ≡ length (blanks (m + m)) + k = ap (λ (i : ℕ). i + k) (sym (length-replicate (m + m) (Some None))) in
        let even : (size τ + size ρ) % 16 ≡ 0 = dv→ 16 (size τ + size ρ) (subst (λ (a : ℕ). Dv a (size τ + size ρ)) wide is.whole) in
        let is' : IsBehind (m * 16) τ ρ = record { fits = omega (arith, is.fits, even); low = is.low; flush = is.flush; whole = is.whole } in
        qed 𝓛 (‵ (row b c k (blanks n)) ∷ []) ∵ rewrite ! 0 (λ (l : List Place). ‵ (row b c k l)) all_ refl $
        use1 𝓛 (‵ (row b c k (blanks (m + m))) ⊛ ‵ (row b c j (blanks left))) (cut 𝓛 b c (blanks (m + m)) (blanks left) k j far) $ split ! $ use1 𝓛 (raw Pairs) (to_pairs 𝓛 b c m (m + m) k o refl odd at) $
        use1 𝓛 (raw (Both τ ρ o) ⊛ raw (Both τ ρ o -∗ Pairs)) (serves (pairs_ty m) τ ρ o is' (subst (λ (a : ℕ). Dv a 16) (sym wide) tt)) $ split ! $ frame ! $ assume ! (raw (Both τ ρ o)) $
        use2 𝓛 (raw Pairs) (apply∗ 𝓤 (Both τ ρ o) Pairs) $ use1 𝓛 (‵ (row b c k (blanks (m + m)))) (of_pairs 𝓛 b c m (m + m) k o refl odd at) $
        use2 𝓛 (‵ (row b c k (blanks (m + m) ++ blanks left))) (glue 𝓛 b c (blanks (m + m)) (blanks left) k j far) $ rewrite ! 0 (λ (l : List Place). ‵ (row b c k l)) (sym all_) refl $ done !

    pub lends_row : (n k o : ℕ) (τ ρ : Ty) → k * 8 + c ≡ o → k % 2 ≡ 1 → IsBehind (n * 8) τ ρ → sem 𝓛 (row b c k (blanks n)) ⊢ Both τ ρ o ∗ (Both τ ρ o -∗ sem 𝓛 (row b c k (blanks n)))
    lends_row n k o τ ρ at odd is = elim (asks_for (align_w τ)) [
      | inl few ↦ as_words n k o τ ρ at is (subst (λ (a : ℕ). Dv a 8) (sym (align-bytes τ)) few)
      | inr pair ↦ as_pairs n k o τ ρ at odd is (align-bytes τ ∙ pair)
    ]

module _ {M : Type 1} {𝓤 : Ura M} (𝓛 : Logic 𝓤) (p : Ptr) (first count label : ℕ) where
  open 𝓛 use {H}

  abbrev at : ℕ
  at = first * 8 + count_of p

  -- the words before the label, from an odd word on, go out as room for a type and what lies behind it, and come back
  pub lends : (τ ρ : Ty) → IsBehind (bytes_before count) τ ρ → first % 2 ≡ 1
      → ent 𝓤 (sem 𝓛 (piece_owns p first count label)) (sep 𝓤 (sep 𝓤 (H.room τ (block_of p) at) (H.room ρ (block_of p) (at + size τ))) (wand 𝓤 (sep 𝓤 (H.room τ (block_of p) at) (H.room ρ (block_of p) (at + size τ))) (sem 𝓛 (piece_owns p first count label))))
  lends τ ρ is odd =
      let b : ℕ = block_of p in let c : ℕ = count_of p in let k : ℕ = count - 1 in let back : List Place = laid label ∷ [] in let last : ℕ = k + first in let all_ : ℕ = first + length (labelled count label) in
      let far : last ≡ length (blanks k) + first = ap (λ (j : ℕ). j + first) (sym (length-replicate k (Some None))) in
      let Out : SProp 𝓤 = sep 𝓤 (H.room τ b at) (H.room ρ b (at + size τ)) in let Words : SProp 𝓤 = sem 𝓛 (row b c first (blanks k)) in
      qed 𝓛 (‵ (piece_owns p first count label) ∷ []) ∵ fsplit ! $ fpick ! (λ lies. drop ! $
      use1 𝓛 (‵ (row b c first (blanks k)) ⊛ ‵ (row b c last back)) (cut 𝓛 b c (blanks k) back first last far) $ split ! $
      use1 𝓛 (raw Out ⊛ raw (wand 𝓤 Out Words)) (lends_row 𝓛 b c k first at τ ρ refl odd is) $ split ! $ frame ! $ assume ! (raw Out) $
      use2 𝓛 (‵ (row b c first (blanks k))) (apply∗ 𝓤 Out Words) $
      use2 𝓛 (‵ (row b c first (labelled count label))) (glue 𝓛 b c (blanks k) back first last far) $ nothing ! $ fpack ! (Lies p all_) (λ _. ftrue) lies $ fjoin ! $ done !)
