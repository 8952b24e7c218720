-- The words of a block are copied into another one, as plain memory: the calls that are made when that comes home.
use Rattle.std.proofs.Common.{ℕ, zero, suc, ◌≡◌, ◌≢◌, ◌<◌, ◌≤◌, ◌+◌, ◌^◌, List, [], ◌∷◌, ◌++◌, length, refl, sym, ap, ◌∙◌, subst, arith, inl, inr, append_assoc}
use Rattle.std.specs.Prelude.{map, min, slice_index, slice_index_or, slice_set, take}
use Rattle.std.specs.List.{flat_map, range_with_len}
use Rattle.std.proofs.lemmas.Bool.{cases_lt}
use Rattle.std.proofs.lemmas.List.FromFn.{length-map-range_with_len}
use Rattle.std.proofs.lemmas.List.{get_or-take, length-append, length-take-le, set-get_or, set_at}
use Rattle.heap_geometry.specs.declared.need.Need.{Need}
use Rattle.heap_geometry.specs.Need.{usable_words}
use Rattle.errand_steps.specs.declared.reply.Reply.TheVariants as reply
use Rattle.errand_steps.specs.Calls.{read, write}
use Rattle.sound_laws.specs.events.Made.{Made, answered, copied, copied_word}
use Rattle.sound_laws.proofs.events_lemmas.CopyLemmas.{copied-past, copied-read}
use Rattle.live_heap.specs.declared.pass.Pass.{Pass}
use Rattle.live_heap.specs.declared.view.Lent.{Lent}
use Rattle.live_heap.specs.Lending.{AreElsewhere, LeadTo, copy_of}
use Rattle.live_heap.specs.Passes.{OwnsAt}
use Rattle.live_heap.proofs.WordCalls.{AreOnOwn}

-- the words of a block that are copied into one of another need: as many as both have
abbrev pub words_read : Lent → Need → List ℕ
words_read from need = take (min (usable_words from.need) (usable_words need)) from.numbers

-- the calls that copy the first of these blocks into the one at the place, and where that block lies
abbrev pub copies_of : ℕ → Need → List Lent → List Made
copies_of place need [] = []
copies_of place need (from ∷ others) = copied from.place from.need place need (words_read from need) (usable_words need)

abbrev pub next_place : List Lent → ℕ
next_place [] = 0
next_place (from ∷ others) = from.place

-- they are so many
pub copy-long : (numbers : List ℕ) (count : ℕ) → length (copy_of numbers count) ≡ count
copy-long numbers count = length-map-range_with_len (λ i. slice_index_or numbers i 0) 0 count

-- a word behind the last one counts as 0
pub past-last : (numbers : List ℕ) (i : ℕ) → length numbers ≤ i → slice_index_or numbers i 0 ≡ 0
past-last [] i past = refl
past-last (n ∷ ns) zero past = absurd (omega (arith, past))
past-last (n ∷ ns) (suc i) past = past-last ns i (omega (arith, past))

module _ (from : Lent) (to : ℕ) (need : Need) (others shown : List Lent) (long : length from.numbers ≡ usable_words from.need)
    (once : AreElsewhere from.place others) (apart : from.place ≢ to) (hidden : AreElsewhere from.place shown)
    (small : (i : ℕ) → i < usable_words need → slice_index_or from.numbers i 0 < 2 ^ 64) where
  abbrev value : ℕ → ℕ
  value i = slice_index_or from.numbers i 0

  abbrev words : List ℕ
  words = words_read from need

  pub many : length words ≡ min (usable_words from.need) (usable_words need)
  many = length-take-le (min (usable_words from.need) (usable_words need)) from.numbers (omega (arith, long))

  same : (i : ℕ) → i < length words → slice_index_or words i 0 ≡ value i
  same i inside = get_or-take (min (usable_words from.need) (usable_words need)) from.numbers i 0 (omega (arith, many, inside))

  rest : (i : ℕ) → length words ≤ i → i < usable_words need → value i ≡ 0
  rest i past inside = past-last from.numbers i (omega (arith, many, past, inside, long))

  -- one word of the copy
  one-copied :
      (done : List ℕ) (o : ℕ) (behind : List ℕ) (i : ℕ) (more : List Made) (new : List ℕ) → length done ≡ i → i < usable_words need
      → LeadTo to need [] (from ∷ others) shown ((done ++ value i ∷ []) ++ behind) more new
      → LeadTo to need [] (from ∷ others) shown (done ++ o ∷ behind) (copied_word from.place from.need to need words i ++ more) new
  one-copied done o behind i more new at inside leads =
      let next : (done ++ value i ∷ []) ++ behind ≡ slice_set (done ++ o ∷ behind) i (value i) =
      append_assoc done (value i ∷ []) behind ∙ sym (set_at done o behind (value i) i at) in
      elim (cases_lt i (length words)) [
        | inl read_too ↦
            let w : ℕ = slice_index_or words i 0 in
            let is : value i ≡ w = sym (same i read_too) in
            let W : ℕ → Type 0 = λ x.
            LeadTo to need [] (from ∷ others) shown (done ++ o ∷ behind)
            (answered (read from.place from.need i) (reply.Word x) ∷ answered (write to need i x) reply.Wrote ∷ more) new in
            let both : W (value i) = (
              done ++ o ∷ behind,
              (inr (from, (refl, others, refl, once), apart, hidden, refl, refl, omega (arith, many, read_too), refl), refl),
              ((done ++ value i ∷ []) ++ behind, (refl, refl, inside, small i inside, next), leads),
            ) in
            subst (λ (ms : List Made). LeadTo to need [] (from ∷ others) shown (done ++ o ∷ behind) (ms ++ more) new)
            (sym (copied-read from.place from.need to need words i read_too)) (subst W is both)
        | inr past ↦
            let is : value i ≡ 0 = rest i past inside in
            let W : ℕ → Type 0 = λ x.
            LeadTo to need [] (from ∷ others) shown (done ++ o ∷ behind) (answered (write to need i x) reply.Wrote ∷ more) new in
            let one : W (value i) = ((done ++ value i ∷ []) ++ behind, (refl, refl, inside, small i inside, next), leads) in
            subst (λ (ms : List Made). LeadTo to need [] (from ∷ others) shown (done ++ o ∷ behind) (ms ++ more) new)
            (sym (copied-past from.place from.need to need words i past)) (subst W is one)
      ]

  copies-from :
      (done old : List ℕ) (i n : ℕ) → length done ≡ i → length old ≡ n → i + n ≤ usable_words need
      → LeadTo to need [] (from ∷ others) shown (done ++ old) (flat_map (copied_word from.place from.need to need words) (range_with_len i n))
      (done ++ map value (range_with_len i n))
  copies-from done [] i zero at many_old within = refl
  copies-from done (o ∷ os) i zero at many_old within = absurd (omega (arith, many_old))
  copies-from done [] i (suc n) at many_old within = absurd (omega (arith, many_old))
  copies-from done (o ∷ os) i (suc n) at many_old within =
      let more = copies-from (done ++ value i ∷ []) os (i + 1) n (length-append done (value i ∷ []) ∙ ap (λ k. k + 1) at) (omega (arith, many_old)) (omega (arith, within)) in
      one-copied done o os i (flat_map (copied_word from.place from.need to need words) (range_with_len (i + 1) n))
      (done ++ value i ∷ map value (range_with_len (i + 1) n)) at (omega (arith, within))
      (subst
      (λ (l : List ℕ).
      LeadTo to need [] (from ∷ others) shown ((done ++ value i ∷ []) ++ os)
      (flat_map (copied_word from.place from.need to need words) (range_with_len (i + 1) n)) l)
      (append_assoc done (value i ∷ []) (map value (range_with_len (i + 1) n))) more)

  -- all words are copied
  pub copies-all :
      (old : List ℕ) → length old ≡ usable_words need
      → LeadTo to need [] (from ∷ others) shown old (copied from.place from.need to need words (usable_words need)) (copy_of from.numbers (usable_words need))
  copies-all old many_old = copies-from [] old 0 (usable_words need) refl many_old (omega arith)

  -- they are on a pass's own words
  module _ (p : Pass) (mine : OwnsAt p from.place from.need) (mine_too : OwnsAt p to need) where
    own-one : (i : ℕ) (more : List Made) → i < usable_words need → AreOnOwn p more → AreOnOwn p (copied_word from.place from.need to need words i ++ more)
    own-one i more inside own = elim (cases_lt i (length words)) [
      | inl read_too ↦
          let less : slice_index_or words i 0 < 2 ^ 64 = subst (λ x. x < 2 ^ 64) (sym (same i read_too)) (small i inside) in
          subst (λ (ms : List Made). AreOnOwn p (ms ++ more)) (sym (copied-read from.place from.need to need words i read_too))
          ((mine, omega (arith, many, read_too)), ((mine_too, inside, less), own))
      | inr past ↦
          subst (λ (ms : List Made). AreOnOwn p (ms ++ more)) (sym (copied-past from.place from.need to need words i past))
          ((mine_too, inside, omega arith), own)
    ]

    own-from : (i n : ℕ) → i + n ≤ usable_words need → AreOnOwn p (flat_map (copied_word from.place from.need to need words) (range_with_len i n))
    own-from i zero within = tt
    own-from i (suc n) within =
        own-one i (flat_map (copied_word from.place from.need to need words) (range_with_len (i + 1) n)) (omega (arith, within))
        (own-from (i + 1) n (omega (arith, within)))

    pub own-copies : AreOnOwn p (copied from.place from.need to need words (usable_words need))
    own-copies = own-from 0 (usable_words need) (omega arith)

-- a block is copied into itself: its words stay
module _ (place : ℕ) (need : Need) (others shown : List Lent) (ns : List ℕ) (long : length ns ≡ usable_words need)
    (small : (i : ℕ) → i < usable_words need → slice_index ns i < 2 ^ 64) where
  itself-from :
      (i n : ℕ) → i + n ≤ usable_words need
      → LeadTo place need [] others shown ns (flat_map (copied_word place need place need ns) (range_with_len i n)) ns
  itself-from i zero within = refl
  itself-from i (suc n) within =
      let inside : i < usable_words need = omega (arith, within) in
      let more = itself-from (i + 1) n (omega (arith, within)) in
      let rest : List Made = flat_map (copied_word place need place need ns) (range_with_len (i + 1) n) in
      let both :
      LeadTo place need [] others shown ns
      (answered (read place need i) (reply.Word (slice_index ns i)) ∷ answered (write place need i (slice_index ns i)) reply.Wrote ∷ rest) ns =
      (ns, (inl (refl, refl, inside, refl), refl), (ns, (refl, refl, inside, small i inside, sym (set-get_or ns i 0)), more)) in
      subst (λ (ms : List Made). LeadTo place need [] others shown ns (ms ++ rest) ns) (sym (copied-read place need place need ns i (omega (arith, inside, long)))) both

  pub copies-itself : LeadTo place need [] others shown ns (copied place need place need ns (usable_words need)) ns
  copies-itself = itself-from 0 (usable_words need) (omega arith)
