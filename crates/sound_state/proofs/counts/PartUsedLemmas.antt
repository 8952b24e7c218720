-- A look finds few part-used frames: each is a superblock's that is near the class.
use Rattle.std.proofs.Common.{ℕ, ◌≡◌, ◌<◌, ◌≤◌, ◌+◌, List, [], ◌∷◌, sym, subst, ◌∙◌, ap, arith, inl, inr, ◌==◌, IsTrue, eq-eqb, ne_eqb}
use Rattle.std.proofs.lemmas.Bool.{cases_eq, cond-true, cond-false}
use Rattle.sound_state.proofs.Common.{Geometry, CLASSES, block_count_of, block_place, WordName, descriptor_count, Exists, occurs, block_at, pool_of, ErrandFields, State}
use Rattle.sound_state.proofs.Common.{waiting, holds_of, word_keeps, full_keeps, errand_has, IsPartlyUsed, Lists, IsSoundWith, sum_below, words_sum, callers_sum}
use Rattle.sound_state.proofs.Common.{Superblock, superblock_of, is_there, anchor_for, info_for, word_reserves, reserved_among, errand_reserves, reserved_of, errand_keeps}
use Rattle.sound_state.proofs.Common.{errand_away, waiting_of, is_bound, chain_of, held_back}
use Rattle.packed_words.specs.declared.anchor.AnchorState.{AnchorState as Phase}
use Rattle.packed_words.specs.declared.anchor.AnchorState.TheVariants as phase
use Rattle.pool_model.specs.Legal.{IsPartUsed, IsWorn}
use Rattle.errand_steps.specs.tables.Holding.{Reserved}
use Rattle.sound_state.proofs.counts.FrameCounts.{frames-most}
use Rattle.sound_state.proofs.counts.NearCounts.{class_keeps, credited_among, errand_nears, near_of, near-most}
use Rattle.sound_state.proofs.shared.HasLemmas.{bound-away}
use Rattle.sound_state.proofs.shared.KeptCounts.{kept-named}
use Rattle.sound_state.proofs.shared.ListFacts.{occurring-all}
use Rattle.sound_state.proofs.shared.WeightSums.{words-least, words-some, callers-least, callers-some}
use Rattle.sound_state.proofs.shared.SumLemmas.{sum-none, sum-plus, sum-least}

-- an active word or slot that holds a superblock is one of its class
word-near :
    (g : Geometry) (s : State) (l : Lists) (class d : ℕ) → IsSoundWith g s l → (info_for s d).class ≡ class → (n : WordName) → Exists g n
    → word_keeps d n (s.word n) ≤ class_keeps class d n (s.word n)
word-near g s l class d sound is n exists = grind (arith, sound, is, exists, eq-eqb, ne_eqb)

words-near :
    (g : Geometry) (s : State) (l : Lists) (class d : ℕ) → IsSoundWith g s l → (info_for s d).class ≡ class
    → words_sum g (word_keeps d) s.word ≤ words_sum g (class_keeps class d) s.word
words-near g s l class d sound is = words-least g (word_keeps d) (class_keeps class d) s.word (word-near g s l class d sound is)

-- a word that offers blocks of d holds it
word-offers-kept : (d : ℕ) (n : WordName) (word : ℕ) → 0 < word_reserves d n word → 1 ≤ word_keeps d n word
word-offers-kept d n word some = grind (arith, some)

words-offer-kept : (g : Geometry) (d : ℕ) (words : WordName → ℕ) → 0 < words_sum g (word_reserves d) words → 1 ≤ words_sum g (word_keeps d) words
words-offer-kept g d words some = words-some g (word_reserves d) (word_keeps d) words (λ n. word-offers-kept d n (words n)) some

-- a caller that has reserved blocks of d is near it
credits-near : (d : ℕ) (rs : List Reserved) → 0 < reserved_among d rs → 1 ≤ credited_among d rs
credits-near d [] some = absurd (omega (arith, some))
credits-near d (r ∷ rs) some =
    elim (cases_eq r.desc d) [
      | inl same ↦ omega (arith, cond-true {A = ℕ} (r.desc == d) 1 0 (eq-eqb r.desc d same))
      | inr differ ↦
          omega (arith, credits-near d rs (omega (arith, some, cond-false {A = ℕ} (r.desc == d) r.blocks 0 (ne_eqb r.desc d differ))))
    ]

callers-reserve :
    (g : Geometry) (d : ℕ) (errands : ℕ → ErrandFields) → 0 < callers_sum g (errand_reserves d) errands
    → 1 ≤ callers_sum g (errand_nears d) errands
callers-reserve g d errands some =
    callers-some g (errand_reserves d) (errand_nears d) errands (λ e here. omega (arith, credits-near d (holds_of e.point).credits here)) some

-- a descriptor whose superblock waits at a caller is near
callers-wait : (g : Geometry) (s : State) (d : ℕ) → waiting_of g s d ≤ callers_sum g (errand_nears d) s.errand
callers-wait g s d =
    callers-least g (errand_keeps waiting d) (errand_nears d) s.errand (λ e. omega (arith, kept-named d (holds_of e.point).kept))

callers-keep :
    (g : Geometry) (d : ℕ) (errands : ℕ → ErrandFields)
    → callers_sum g (errand_has d) errands ≤ callers_sum g (errand_away d) errands + callers_sum g (errand_nears d) errands
unfolding callers_sum
callers-keep g d errands =
    let away = λ (i : ℕ). errand_away d (errands i) in
    let nears = λ (i : ℕ). errand_nears d (errands i) in
    omega (
      arith,
      sum-plus g.callers away nears,
      sum-least g.callers (λ i. errand_has d (errands i)) (λ i. away i + nears i)
          (λ i lt. omega (arith, kept-named d (holds_of (errands i).point).kept)),
    )

-- a descriptor of the class is in no list, where the class's list is empty
unlisted :
    (g : Geometry) (s : State) (l : Lists) (class d : ℕ) → IsSoundWith g s l → l.partials class ≡ [] → (info_for s d).class ≡ class
    → sum_below CLASSES (λ c. occurs d (l.partials c)) ≡ 0
unlisted g s l class d sound bare is =
    sum-none CLASSES (λ c. occurs d (l.partials c))
    (λ c lt.
    elim (cases_eq (occurs d (l.partials c)) 0) [
      | inl none ↦ none
      | inr some ↦
          let in_c : IsPartlyUsed s d c =
          occurring-all (λ e. IsPartlyUsed s e c) d (l.partials c) (sound.kept.listed c lt) (omega (arith, some)) in
          let same : c ≡ class = sym in_c.class ∙ is in ap (λ k. occurs d (l.partials k)) same ∙ ap (occurs d) bare
    ])

-- a FULL superblock has no free block that nobody has reserved
full-bare : (p : Phase) (count : ℕ) → (p ≡ phase.Full → count ≡ 0) → 1 ≤ count → full_keeps p ≡ 0
full-bare p count bare some = grind (arith, bare, some)

-- a chain that has an index is not empty; only the superblock of a caller that installs it holds a block back
some-chain : (next : ℕ → ℕ) (k a i : ℕ) → 0 < occurs i (chain_of next k a) → 1 ≤ k
some-chain next k a i some = grind (arith, some)

some-held : (b : Superblock) (i : ℕ) → held_back b i ≤ b.waiting
some-held b i = grind (arith)

-- a superblock of the class with a block that isn't live is near, where the class's list is empty
pub unlive-near :
    (g : Geometry) (s : State) (l : Lists) (class d i : ℕ) → IsSoundWith g s l → l.partials class ≡ [] → d < descriptor_count g
    → IsTrue (is_bound g s l d) → (info_for s d).class ≡ class → i < block_count_of class → (superblock_of g s d).live i ≡ 0
    → 1 ≤ near_of g s class d
unlive-near g s l class d i sound bare has bound is below unlive =
    let b = superblock_of g s d in
    let a = anchor_for s d in
    let chain = sound.chained.chained d has bound in
    let size : i < b.size = subst (λ c. i < block_count_of c) (sym is) below in
    let once = chain.once i size in
    let words = words-near g s l class d sound is in
    let waits = callers-wait g s d in
    elim (cases_eq b.waiting 0) [
      | inr some ↦ omega (arith, some, waits)
      | inl none ↦
          let free : 1 ≤ a.count + reserved_of g s d =
          some-chain b.next (a.count + reserved_of g s d) a.avail i (omega (arith, once, unlive, none, some-held b i)) in
          elim (cases_eq a.count 0) [
            | inl nobody ↦
                elim (cases_eq (words_sum g (word_reserves d) s.word) 0) [
                  | inl callers ↦ omega (arith, callers-reserve g d s.errand (omega (arith, free, nobody, callers)))
                  | inr offers ↦ omega (arith, words, words-offer-kept g d s.word (omega (arith, offers)))
                ]
            | inr some ↦
                omega (
                  arith,
                  sound.kept.once d has,
                  words,
                  unlisted g s l class d sound bare is,
                  bound-away g s l d bound,
                  callers-keep g d s.errand,
                  full-bare a.state a.count (sound.kept.full d has) (omega (arith, some)),
                )
          ]
    ]

-- a part-used frame is that of a superblock near the class
part-near :
    (g : Geometry) (s : State) (l : Lists) (class f : ℕ) → IsSoundWith g s l → l.partials class ≡ [] → IsPartUsed (pool_of s.history) class f
    → (d : ℕ) × (d < descriptor_count g) × (1 ≤ near_of g s class d) × ((info_for s d).frame ≡ f)
part-near g s l class f sound bare part =
    let b = part.block in
    let (d, of_desc, said) = sound.tied.small b.place class b part.live part.of_class in
    let here : (info_for s d).frame ≡ f = of_desc.located.frame ∙ part.here in
    let is : (info_for s d).class ≡ class = of_desc.located.class in
    let place : block_place (info_for s d).frame (info_for s d).class part.index ≡ block_place f class part.index = rw (here, is) in
    let unlive : (superblock_of g s d).live part.index ≡ 0 = ap (λ p. is_there (block_at p (pool_of s.history))) place ∙ ap is_there part.free in
    (d, of_desc.exists, unlive-near g s l class d part.index sound bare of_desc.exists of_desc.bound is part.in_frame unlive, here)

-- a look finds few part-used frames: two for each heap and each other caller
pub look-counted :
    (g : Geometry) (s : State) (l : Lists) (caller class : ℕ) → IsSoundWith g s l → caller < g.callers → class < CLASSES → l.partials class ≡ []
    → (holds_of (s.errand caller).point).kept ≡ [] → (holds_of (s.errand caller).point).credits ≡ [] → IsWorn g (pool_of s.history) class
look-counted g s l caller class sound has is_class bare no_kept no_credits fs rises all =
    let most =
    frames-most g.frames (descriptor_count g) (λ d. (info_for s d).frame) (near_of g s class) (IsPartUsed (pool_of s.history) class)
    (λ f lt part. part-near g s l class f sound bare part) fs rises all in
    omega (arith, most, near-most g s caller class has no_kept no_credits)
