-- The words of a block, copied one after the other.
use Rattle.std.proofs.Common.{ℕ, zero, suc, true, false, ◌≡◌, ◌<◌, ◌≤◌, ◌+◌, ◌∷◌, ◌++◌, List, [], length, refl, sym, ap, ◌∙◌, subst, inl, inr, arith, append-nil, append_assoc}
use Rattle.std.specs.Prelude.{min, nat_lt}
use Rattle.std.specs.List.{flat_map, range_with_len, slice_index_or}
use Rattle.std.proofs.lemmas.Bool.{cases_lt, lt-ltb, le-ltb}
use Rattle.std.proofs.lemmas.List.{get_or_append_left, length-append}
use Rattle.std.proofs.Math.Nat.{min-eq_left, min-eq_right}
use Rattle.std.proofs.Math.Seq.{get_or-append_seam}
use Rattle.heap_geometry.specs.declared.need.Need.{Need}
use Rattle.heap_geometry.specs.Need.{usable_words}
use Rattle.errand_steps.specs.declared.reply.Reply.{Reply}
use Rattle.errand_steps.specs.declared.reply.Reply.TheVariants as reply
use Rattle.errand_steps.specs.Calls.{Call, read, write}
use Rattle.sound_laws.specs.events.Made.{LeadsBy, answered, copied, copied_word}
use Rattle.sound_laws.proofs.events_lemmas.MadeLemmas.{leads-more}

-- numbered pieces in a row, with one more
pub pieces-more :
    {X : Type 0} (f : ℕ → List X) (a n : ℕ) → flat_map f (range_with_len a (n + 1)) ≡ flat_map f (range_with_len a n) ++ f (a + n)
pieces-more f a zero = let here : a + 0 ≡ a = omega arith in append-nil (f a) ∙ ap f (sym here)
pieces-more f a (suc n) =
    let there : a + 1 + n ≡ a + suc n = omega arith in
    let more : suc n + 1 ≡ suc (n + 1) = omega arith in
    ap (λ k. flat_map f (range_with_len a k)) more ∙ ap (λ xs. f a ++ xs) (pieces-more f (a + 1) n) ∙ sym
    (append_assoc (f a) (flat_map f (range_with_len (a + 1) n)) (f (a + 1 + n)))
    ∙ ap (λ k. (f a ++ flat_map f (range_with_len (a + 1) n)) ++ f k) there

-- numbered pieces that are the same one by one are the same in a row
pub pieces-same :
    {X : Type 0} (f g : ℕ → List X) (a n : ℕ) → ((i : ℕ) → i < a + n → f i ≡ g i) → flat_map f (range_with_len a n) ≡ flat_map g (range_with_len a n)
pieces-same f g a zero same = refl
pieces-same f g a (suc n) same =
    ap (λ xs. xs ++ flat_map f (range_with_len (a + 1) n)) (same a (omega arith))
    ∙ ap (λ xs. g a ++ xs) (pieces-same f g (a + 1) n (λ i inside. same i (omega (arith, inside))))

module _ (from : ℕ) (from_need : Need) (to : ℕ) (to_need : Need) where
  -- a word that was read, and one past the end
  pub copied-read :
      (words : List ℕ) (i : ℕ) → i < length words
      → copied_word from from_need to to_need words i
      ≡ answered (read from from_need i) (reply.Word (slice_index_or words i 0))
      ∷ answered (write to to_need i (slice_index_or words i 0)) reply.Wrote ∷ []
  copied-read words i inside = let t : nat_lt i (length words) ≡ true = lt-ltb i (length words) inside in rw t refl

  pub copied-past :
      (words : List ℕ) (i : ℕ) → length words ≤ i → copied_word from from_need to to_need words i ≡ answered (write to to_need i 0) reply.Wrote ∷ []
  copied-past words i past = let t : nat_lt i (length words) ≡ false = le-ltb i (length words) past in rw t refl

  -- a word that is read later changes none of the words copied before
  copied-longer :
      (words : List ℕ) (word i : ℕ) → i < length words
      → copied_word from from_need to to_need (words ++ word ∷ []) i ≡ copied_word from from_need to to_need words i
  copied-longer words word i inside =
      let same : slice_index_or (words ++ word ∷ []) i 0 ≡ slice_index_or words i 0 = get_or_append_left words (word ∷ []) 0 i inside in
      copied-read (words ++ word ∷ []) i (let all = length-append words (word ∷ []) in omega (arith, all, inside))
      ∙ ap (λ w. answered (read from from_need i) (reply.Word w) ∷ answered (write to to_need i w) reply.Wrote ∷ []) same
      ∙ sym (copied-read words i inside)

  pub copied-more :
      (words : List ℕ) (i : ℕ) → copied from from_need to to_need words (i + 1)
      ≡ copied from from_need to to_need words i ++ copied_word from from_need to to_need words i
  copied-more words i =
      let here : 0 + i ≡ i = omega arith in
      pieces-more (copied_word from from_need to to_need words) 0 i
      ∙ ap (λ k. copied from from_need to to_need words i ++ copied_word from from_need to to_need words k) here

  -- the calls of a copy with one word more that was read
  pub copied-one :
      (words : List ℕ) (word : ℕ)
      → copied from from_need to to_need (words ++ word ∷ []) (length words + 1)
      ≡ copied from from_need to to_need words (length words)
      ++ answered (read from from_need (length words)) (reply.Word word) ∷ answered (write to to_need (length words) word) reply.Wrote ∷ []
  copied-one words word =
      let i = length words in
      let last : slice_index_or (words ++ word ∷ []) i 0 ≡ word = get_or-append_seam words word [] 0 in
      copied-more (words ++ word ∷ []) i
      ∙ ap (λ xs. xs ++ copied_word from from_need to to_need (words ++ word ∷ []) i)
      (pieces-same (copied_word from from_need to to_need (words ++ word ∷ [])) (copied_word from from_need to to_need words) 0 i
      (λ j inside. copied-longer words word j (omega (arith, inside))))
      ∙ ap (λ xs. copied from from_need to to_need words i ++ xs)
      (copied-read (words ++ word ∷ []) i (let all = length-append words (word ∷ []) in omega (arith, all))
      ∙ ap (λ w. answered (read from from_need i) (reply.Word w) ∷ answered (write to to_need i w) reply.Wrote ∷ []) last)

-- the first words of a block, as many as this, are copied into another one, and as many of them read as the one has
abbrev pub CopiesSoFar : {S : Type 0} → (S → Call → Reply → S → Type 0) → S → ℕ → Need → ℕ → Need → ℕ → S → Type 0
CopiesSoFar called before from from_need to to_need count after =
    (words : List ℕ) × (length words ≡ min (usable_words from_need) count)
    × LeadsBy called before (copied from from_need to to_need words count) after

module _ {S : Type 0} (called : S → Call → Reply → S → Type 0) (from : ℕ) (from_need : Need) (to : ℕ) (to_need : Need) (first : S) where
  -- one word more is copied
  pub copies-more :
      (i word : ℕ) (s t u : S) → CopiesSoFar called first from from_need to to_need i s
      → (i < usable_words from_need → called s (read from from_need i) (reply.Word word) t)
      → (usable_words from_need ≤ i → (t ≡ s) × (word ≡ 0)) → called t (write to to_need i word) reply.Wrote u
      → CopiesSoFar called first from from_need to to_need (i + 1) u
  copies-more i word s t u (words, all, leads) reads past wrote =
      let n = usable_words from_need in
      let so_far = copied from from_need to to_need words i in
      elim (cases_lt i n) [
        | inl inside ↦
            let all_is : length words ≡ i = all ∙ min-eq_right (omega (arith, inside)) in
            let one = answered (read from from_need i) (reply.Word word) in
            let last = answered (write to to_need i word) reply.Wrote in
            let both : copied from from_need to to_need (words ++ word ∷ []) (i + 1) ≡ (so_far ++ one ∷ []) ++ last ∷ [] =
            subst
            (λ k. copied from from_need to to_need (words ++ word ∷ []) (k + 1)
            ≡ copied from from_need to to_need words k
            ++ answered (read from from_need k) (reply.Word word) ∷ answered (write to to_need k word) reply.Wrote ∷ [])
            all_is (copied-one from from_need to to_need words word)
            ∙ sym (append_assoc so_far (one ∷ []) (last ∷ [])) in (
              words ++ word ∷ [],
              length-append words (word ∷ []) ∙ ap (λ k. k + 1) all_is ∙ sym (min-eq_right (omega (arith, inside))),
              subst (λ ms. LeadsBy called first ms u) (sym both)
                  (leads-more called first t u (so_far ++ one ∷ []) (write to to_need i word) reply.Wrote
                  (leads-more called first s t so_far (read from from_need i) (reply.Word word) leads (reads inside)) wrote),
            )
        | inr beyond ↦
            let all_is : length words ≡ n = all ∙ min-eq_left beyond in
            let nothing = past beyond in
            let more : copied from from_need to to_need words (i + 1) ≡ so_far ++ answered (write to to_need i word) reply.Wrote ∷ [] =
            copied-more from from_need to to_need words i
            ∙ ap (λ xs. so_far ++ xs) (copied-past from from_need to to_need words i (omega (arith, all_is, beyond)))
            ∙ ap (λ w. so_far ++ answered (write to to_need i w) reply.Wrote ∷ []) (sym nothing.1) in (
              words,
              all_is ∙ sym (min-eq_left (omega (arith, beyond))),
              subst (λ ms. LeadsBy called first ms u) (sym more)
                  (leads-more called first s u so_far (write to to_need i word) reply.Wrote leads
                  (subst (λ x. called x (write to to_need i word) reply.Wrote u) nothing.0 wrote)),
            )
      ]
