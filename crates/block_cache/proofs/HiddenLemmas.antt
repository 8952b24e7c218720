-- The pool as the caller of a cache is to see it.
use Rattle.std.proofs.Common.{ℕ, ◌≡◌, ◌≢◌, ◌++◌, inl, inr, Bool, true, false, List, [], ◌∷◌, Option, Some, None, if◌then◌else◌, refl, sym, ap, ◌∙◌, subst, ne_eqb, eq-eqb}
use Rattle.std.specs.Prelude.{All, filter, reverse}
use Rattle.std.proofs.lemmas.Bool.{cases_eq, cases_Bool}
use Rattle.std.proofs.lemmas.List.Elements.{All-head, All-tail}
use Rattle.std.proofs.lemmas.Option.{none-some}
use Rattle.pool_model.specs.Owned.{if_of}
use Rattle.pool_model.specs.Pool.{Block as PoolBlock, Pool, block_at, pool_of}
use Rattle.pool_model.proofs.PoolLemmas.{block_at-here, block_at-past}
use Rattle.live_heap.specs.declared.block.Block.{Block}
use Rattle.live_heap.specs.declared.pass.Pass.{Pass}
use Rattle.live_heap.specs.Contents.{owned_in}
use Rattle.live_heap.specs.Passes.{seen}
use Rattle.block_cache.specs.declared.cache.Cache.{Cache}
use Rattle.block_cache.specs.Caches.{cached_in}
use Rattle.block_cache.specs.Magazines.{all_in, leaving}
use Rattle.std.proofs.lemmas.List.{reverse-append}
use Rattle.block_cache.specs.Hidden.{hidden_at, hidden_pool_of, is_elsewhere}

-- what a pass owns at a place, where none of these blocks lies there
abbrev pub shown : Pass → List Block → ℕ → Option PoolBlock
shown p blocks place = if is_elsewhere place blocks then owned_in p place else None

-- a pool of which blocks at some places are left out
filtered : (keep : ℕ → Bool) (place : ℕ) (pool : Pool)
    → block_at place (filter (λ block. keep block.place) pool) ≡ (if keep place then block_at place pool else None)
filtered keep place [] = elim (cases_Bool (keep place)) [ inl on ↦ rw on refl | inr off ↦ rw off refl ]
filtered keep place (b ∷ pool) =
    let rest = filtered keep place pool in
    elim (cases_eq b.place place) [
      | inl here ↦
          elim (cases_Bool (keep b.place)) [
            | inl on ↦
                let there : keep place ≡ true = subst (λ k. keep k ≡ true) here on in
                rw on (rw there (block_at-here place b (filter (λ block. keep block.place) pool) here ∙ sym (block_at-here place b pool here)))
            | inr off ↦
                let there : keep place ≡ false = subst (λ k. keep k ≡ false) here off in
                rw off (rest ∙ rw there refl)
          ]
      | inr past ↦
          elim (cases_Bool (keep b.place)) [
            | inl on ↦
                rw on
                (block_at-past place b (filter (λ block. keep block.place) pool) past ∙ rest
                ∙ ap (λ (o : Option PoolBlock). if keep place then o else None) (sym (block_at-past place b pool past)))
            | inr off ↦
                rw off (rest ∙ ap (λ (o : Option PoolBlock). if keep place then o else None) (sym (block_at-past place b pool past)))
          ]
    ]

-- what the caller of a cache is to see at a place
pub hidden-shown : (c : Cache) (place : ℕ) → hidden_at c place ≡ shown c.pass (cached_in c) place
hidden-shown c place =
    let caller = c.pass.errand.caller in
    let keep = λ (k : ℕ). is_elsewhere k (cached_in c) in
    ap (if_of caller) (filtered keep place (pool_of (seen c.pass)))
    ∙ elim (cases_Bool (keep place)) [ inl on ↦ rw on refl | inr off ↦ rw off refl ]

-- a block of the hidden pool is live
pub hidden-found : (c : Cache) (place : ℕ) (block : PoolBlock) → block_at place (hidden_pool_of c) ≡ Some block
    → block_at place (pool_of (seen c.pass)) ≡ Some block
hidden-found c place block found =
    let keep = λ (k : ℕ). is_elsewhere k (cached_in c) in
    let is = sym (filtered keep place (pool_of (seen c.pass))) ∙ found in
    elim (cases_Bool (keep place)) [
      | inl on ↦ (let e : block_at place (pool_of (seen c.pass)) ≡ Some block = rw on at is in e)
      | inr off ↦ absurd (none-some block (rw off at is))
    ]

-- whether blocks lie elsewhere: where all do; where one lies there; and where one doesn't
pub elsewhere-all : (place : ℕ) (blocks : List Block) → All (λ block. block.place ≢ place) blocks → is_elsewhere place blocks ≡ true
elsewhere-all place [] apart = refl
elsewhere-all place (b ∷ bs) apart =
    rw (ne_eqb b.place place (All-head (λ (block : Block). block.place ≢ place) b bs apart))
    (elsewhere-all place bs (All-tail (λ (block : Block). block.place ≢ place) b bs apart))

pub elsewhere-here : (front back : List Block) (block : Block) → is_elsewhere block.place (front ++ block ∷ back) ≡ false
elsewhere-here [] back block = rw (eq-eqb block.place block.place refl) refl
elsewhere-here (b ∷ bs) back block =
    elim (cases_eq b.place block.place) [
      | inl here ↦ rw (eq-eqb b.place block.place here) refl
      | inr past ↦ rw (ne_eqb b.place block.place past) (elsewhere-here bs back block)
    ]

pub elsewhere-past : (front back : List Block) (block : Block) (place : ℕ) → block.place ≢ place
    → is_elsewhere place (front ++ block ∷ back) ≡ is_elsewhere place (front ++ back)
elsewhere-past [] back block place past = rw (ne_eqb block.place place past) refl
elsewhere-past (b ∷ bs) back block place past =
    elim (cases_eq b.place place) [
      | inl here ↦ rw (eq-eqb b.place place here) refl
      | inr other ↦ rw (ne_eqb b.place place other) (elsewhere-past bs back block place past)
    ]

-- what is shown at a place where none of the blocks lies, where one does, and without one that doesn't
pub shown-all : (p : Pass) (blocks : List Block) (place : ℕ) → All (λ block. block.place ≢ place) blocks → shown p blocks place ≡ owned_in p place
shown-all p blocks place apart = rw (elsewhere-all place blocks apart) refl

pub shown-here : (p : Pass) (front back : List Block) (block : Block) → shown p (front ++ block ∷ back) block.place ≡ None
shown-here p front back block = rw (elsewhere-here front back block) refl

pub shown-past : (p : Pass) (front back : List Block) (block : Block) (place : ℕ) → block.place ≢ place
    → shown p (front ++ block ∷ back) place ≡ shown p (front ++ back) place
shown-past p front back block place past = ap (λ (b : Bool). if b then owned_in p place else None) (elsewhere-past front back block place past)

-- where nothing is owned nothing is shown; and the same is shown where the same is owned
pub shown-none : (p : Pass) (blocks : List Block) (place : ℕ) → owned_in p place ≡ None → shown p blocks place ≡ None
shown-none p blocks place nothing =
    elim (cases_Bool (is_elsewhere place blocks)) [ inl on ↦ rw on nothing | inr off ↦ rw off refl ]

pub shown-same : (p q : Pass) (blocks : List Block) (place : ℕ) → owned_in q place ≡ owned_in p place → shown q blocks place ≡ shown p blocks place
shown-same p q blocks place same = ap (λ (o : Option PoolBlock). if is_elsewhere place blocks then o else None) same

-- whether a block lies in a list doesn't depend on its order
elsewhere-append : (place : ℕ) (xs ys : List Block)
    → is_elsewhere place (xs ++ ys) ≡ (if is_elsewhere place xs then is_elsewhere place ys else false)
elsewhere-append place [] ys = refl
elsewhere-append place (x ∷ xs) ys =
    elim (cases_eq x.place place) [
      | inl here ↦ rw (eq-eqb x.place place here) refl
      | inr past ↦ rw (ne_eqb x.place place past) (elsewhere-append place xs ys)
    ]

elsewhere-reverse : (place : ℕ) (xs : List Block) → is_elsewhere place (reverse xs) ≡ is_elsewhere place xs
elsewhere-reverse place [] = refl
elsewhere-reverse place (x ∷ xs) =
    let rest = elsewhere-reverse place xs in
    ap (is_elsewhere place) (reverse-append (x ∷ []) xs) ∙ elsewhere-append place (reverse xs) (x ∷ [])
    ∙ elim (cases_eq x.place place) [
      | inl here ↦ rw (eq-eqb x.place place here) (elim (cases_Bool (is_elsewhere place (reverse xs))) [ inl on ↦ rw on refl | inr off ↦ rw off refl ])
      | inr past ↦
          rw (ne_eqb x.place place past)
          (elim (cases_Bool (is_elsewhere place (reverse xs))) [
            | inl on ↦ rw on (sym on ∙ rest)
            | inr off ↦ rw off (sym off ∙ rest)
          ])
    ]

pub elsewhere-leaving : (place : ℕ) (stacks : List (List Block)) → is_elsewhere place (leaving stacks) ≡ is_elsewhere place (all_in stacks)
elsewhere-leaving place [] = refl
elsewhere-leaving place (x ∷ xs) =
    elsewhere-append place (reverse x) (leaving xs)
    ∙ ap (λ (b : Bool). if b then is_elsewhere place (leaving xs) else false) (elsewhere-reverse place x)
    ∙ ap (λ (b : Bool). if is_elsewhere place x then b else false) (elsewhere-leaving place xs)
    ∙ sym (elsewhere-append place x (all_in xs))

pub shown-leaving : (p : Pass) (stacks : List (List Block)) (place : ℕ) → shown p (leaving stacks) place ≡ shown p (all_in stacks) place
shown-leaving p stacks place = ap (λ (b : Bool). if b then owned_in p place else None) (elsewhere-leaving place stacks)
