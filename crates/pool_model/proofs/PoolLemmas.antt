-- The live block at a place, and what a change of the pool leaves there.
use Rattle.std.proofs.Common.{ℕ, ◌≡◌, ◌≢◌, [], ◌∷◌, Some, None, ⊎_elim, refl, sym, ◌∙◌, ap, subst, arith, eq-eqb, ne_eqb}
use Rattle.std.proofs.lemmas.Bool.{cases_eq}
use Rattle.std.proofs.lemmas.List.Elements.{All-nil, All-cons}
use Rattle.std.proofs.lemmas.List.Kept.{AllPairs-cons}
use Rattle.std.specs.Prelude.{All, AllPairs}
use Rattle.pool_model.specs.Pool.{Block, Pool, block_at, EachBlock, without, with_changed}

-- the first block is at its place, and at any other place is a later one
pub block_at-here : (place : ℕ) (block : Block) (pool : Pool) → block.place ≡ place → block_at place (block ∷ pool) ≡ Some block
block_at-here place block pool e = rw (eq-eqb block.place place e) refl

pub block_at-past :
    (place : ℕ) (block : Block) (pool : Pool) → block.place ≢ place → block_at place (block ∷ pool) ≡ block_at place pool
block_at-past place block pool ne = rw (ne_eqb block.place place ne) refl

-- a block that a look-up finds is at the place, and is one of the list
pub place-found : (place : ℕ) (pool : Pool) (block : Block) → block_at place pool ≡ Some block → block.place ≡ place
place-found place [] block found = absurd (cc)
place-found place (first ∷ pool) block found =
    ⊎_elim
    (λ here. let same : first ≡ block = let e : block_at place (first ∷ pool) ≡ Some first = block_at-here place first pool here in cc in
    let place_same : first.place ≡ block.place = ap (λ (b : Block). b.place) same in cc)
    (λ past. place-found place pool block (sym (block_at-past place first pool past) ∙ found))
    (cases_eq first.place place)

-- each block of the list has a property
abbrev pub Every : (Block → Type 0) → Pool → Type 0
Every P [] = Unit {0}
Every P (block ∷ pool) = P block × Every P pool

-- each two blocks of the list, in their order, stand in a relation
abbrev pub Pairs : (Block → Block → Type 0) → Pool → Type 0
Pairs R [] = Unit {0}
Pairs R (block ∷ pool) = Every (R block) pool × Pairs R pool

abbrev pub Differ : Block → Block → Type 0
Differ a b = a.place ≢ b.place

pub every-found : (P : Block → Type 0) (place : ℕ) (pool : Pool) (block : Block) → Every P pool → block_at place pool ≡ Some block → P block
every-found P place [] block every found = absurd (cc)
every-found P place (first ∷ pool) block every found =
    ⊎_elim
    (λ here. let same : first ≡ block = let e : block_at place (first ∷ pool) ≡ Some first = block_at-here place first pool here in cc in
    subst P same every.0)
    (λ past. every-found P place pool block every.1 (sym (block_at-past place first pool past) ∙ found))
    (cases_eq first.place place)

pub every-each : (P : Block → Type 0) (pool : Pool) → Every P pool → EachBlock P pool
every-each P pool every = λ place block found. every-found P place pool block every found

pub every-map : (P Q : Block → Type 0) (pool : Pool) → ((block : Block) → P block → Q block) → Every P pool → Every Q pool
every-map P Q [] f every = tt
every-map P Q (block ∷ pool) f every = (f block every.0, every-map P Q pool f every.1)

pub every-both : (P Q : Block → Type 0) (pool : Pool) → Every P pool → Every Q pool → Every (λ block. P block × Q block) pool
every-both P Q [] p q = tt
every-both P Q (block ∷ pool) p q = ((p.0, q.0), every-both P Q pool p.1 q.1)

pub pairs-map :
    (R S : Block → Block → Type 0) (pool : Pool) → ((a b : Block) → R a b → S a b) → Pairs R pool → Pairs S pool
pairs-map R S [] f pairs = tt
pairs-map R S (block ∷ pool) f pairs = (every-map (R block) (S block) pool (f block) pairs.0, pairs-map R S pool f pairs.1)

-- no block of the list is at the place
pub block_at-none : (place : ℕ) (pool : Pool) → Every (λ block. block.place ≢ place) pool → block_at place pool ≡ None
block_at-none place [] every = refl
block_at-none place (block ∷ pool) every = block_at-past place block pool every.0 ∙ block_at-none place pool every.1

-- what holds of each block that a look-up finds holds of each of the list, where no two are at one place
pub each-every : (P : Block → Type 0) (pool : Pool) → Pairs Differ pool → EachBlock P pool → Every P pool
each-every P [] differ each = tt
each-every P (block ∷ pool) differ each = (
  each block.place block (block_at-here block.place block pool refl),
  each-every P pool differ.1
      (λ place other found.
      let apart : block.place ≢ other.place = every-found (Differ block) place pool other differ.0 found in
      let at : other.place ≡ place = place-found place pool other found in
      let past : block.place ≢ place = λ e. apart (e ∙ sym at) in
      each place other (block_at-past place block pool past ∙ found)),
)

-- the pool without the block at a place: properties and relations stay, other places are as before, and that one is empty
pub every-without : (P : Block → Type 0) (place : ℕ) (pool : Pool) → Every P pool → Every P (without place pool)
every-without P place [] every = tt
every-without P place (block ∷ pool) every =
    ⊎_elim
    (λ here. rw (eq-eqb block.place place here) every.1)
    (λ past. rw (ne_eqb block.place place past) (every.0, every-without P place pool every.1))
    (cases_eq block.place place)

pub pairs-without : (R : Block → Block → Type 0) (place : ℕ) (pool : Pool) → Pairs R pool → Pairs R (without place pool)
pairs-without R place [] pairs = tt
pairs-without R place (block ∷ pool) pairs =
    ⊎_elim
    (λ here. rw (eq-eqb block.place place here) pairs.1)
    (λ past. rw (ne_eqb block.place place past) (every-without (R block) place pool pairs.0, pairs-without R place pool pairs.1))
    (cases_eq block.place place)

pub block_at-without_other : (place other : ℕ) (pool : Pool) → other ≢ place → block_at other (without place pool) ≡ block_at other pool
block_at-without_other place other [] ne = refl
block_at-without_other place other (block ∷ pool) ne =
    ⊎_elim
    (λ here.
    let past : block.place ≢ other = λ e. ne (sym e ∙ here) in
    rw (eq-eqb block.place place here) (sym (block_at-past other block pool past)))
    (λ apart. rw (ne_eqb block.place place apart)
    (⊎_elim
    (λ found. block_at-here other block (without place pool) found ∙ sym (block_at-here other block pool found))
    (λ past. block_at-past other block (without place pool) past ∙ block_at-without_other place other pool ne
    ∙ sym (block_at-past other block pool past))
    (cases_eq block.place other)))
    (cases_eq block.place place)

pub block_at-without_same : (place : ℕ) (pool : Pool) → Pairs Differ pool → block_at place (without place pool) ≡ None
block_at-without_same place [] differ = refl
block_at-without_same place (block ∷ pool) differ =
    ⊎_elim
    (λ here. rw (eq-eqb block.place place here)
    (block_at-none place pool
    (every-map (Differ block) (λ b. b.place ≢ place) pool (λ b apart e. apart (here ∙ sym e)) differ.0)))
    (λ past. rw (ne_eqb block.place place past)
    (block_at-past place block (without place pool) past ∙ block_at-without_same place pool differ.1))
    (cases_eq block.place place)

-- each block has a property after a change at a place, where both the changed and the unchanged blocks get it from another one
pub every-changed :
    (P Q : Block → Type 0) (place : ℕ) (change : Block → Block) (pool : Pool) → ((block : Block) → P block → Q (change block))
    → ((block : Block) → P block → Q block) → Every P pool → Every Q (with_changed place change pool)
every-changed P Q place change [] on off every = tt
every-changed P Q place change (block ∷ pool) on off every =
    ⊎_elim
    (λ here. rw (eq-eqb block.place place here) (on block every.0, every-map P Q pool off every.1))
    (λ past. rw (ne_eqb block.place place past) (off block every.0, every-changed P Q place change pool on off every.1))
    (cases_eq block.place place)

-- a property of each block is kept by a change that keeps it for the block at the place
pub every-changed_at :
    (P : Block → Type 0) (place : ℕ) (change : Block → Block) (pool : Pool)
    → ((block : Block) → block_at place pool ≡ Some block → P block → P (change block)) → Every P pool
    → Every P (with_changed place change pool)
every-changed_at P place change [] on every = tt
every-changed_at P place change (block ∷ pool) on every =
    ⊎_elim
    (λ here. rw (eq-eqb block.place place here) (on block (block_at-here place block pool here) every.0, every.1))
    (λ past. rw (ne_eqb block.place place past)
    (every.0, every-changed_at P place change pool (λ b found. on b (block_at-past place block pool past ∙ found)) every.1))
    (cases_eq block.place place)

-- a change that keeps a relation with each block that has a property, on both sides, keeps it between each two of the pool
pub pairs-changed :
    (R : Block → Block → Type 0) (P : Block → Type 0) (place : ℕ) (change : Block → Block) (pool : Pool)
    → ((a b : Block) → P b → R a b → R (change a) b) → ((a b : Block) → P a → R a b → R a (change b)) → Every P pool
    → Pairs R pool → Pairs R (with_changed place change pool)
pairs-changed R P place change [] left right every pairs = tt
pairs-changed R P place change (block ∷ pool) left right every pairs =
    ⊎_elim
    (λ here. rw (eq-eqb block.place place here) (
      every-map (λ b. P b × R block b) (R (change block)) pool (λ b h. left block b h.0 h.1)
          (every-both P (R block) pool every.1 pairs.0),
      pairs.1,
    ))
    (λ past. rw (ne_eqb block.place place past) (
      every-changed (R block) (R block) place change pool (λ b r. right block b every.0 r) (λ b r. r) pairs.0,
      pairs-changed R P place change pool left right every.1 pairs.1,
    ))
    (cases_eq block.place place)

pub block_at-changed_other :
    (place other : ℕ) (change : Block → Block) (pool : Pool) → ((block : Block) → (change block).place ≡ block.place)
    → other ≢ place → block_at other (with_changed place change pool) ≡ block_at other pool
block_at-changed_other place other change [] keeps ne = refl
block_at-changed_other place other change (block ∷ pool) keeps ne =
    ⊎_elim
    (λ here.
    let past : block.place ≢ other = λ e. ne (sym e ∙ here) in
    let past_changed : (change block).place ≢ other = λ e. past (sym (keeps block) ∙ e) in
    rw (eq-eqb block.place place here)
    (block_at-past other (change block) pool past_changed ∙ sym (block_at-past other block pool past)))
    (λ apart. rw (ne_eqb block.place place apart)
    (⊎_elim
    (λ found.
    block_at-here other block (with_changed place change pool) found ∙ sym (block_at-here other block pool found))
    (λ past. block_at-past other block (with_changed place change pool) past
    ∙ block_at-changed_other place other change pool keeps ne ∙ sym (block_at-past other block pool past))
    (cases_eq block.place other)))
    (cases_eq block.place place)

pub block_at-changed_same :
    (place : ℕ) (change : Block → Block) (pool : Pool) (block : Block) → ((b : Block) → (change b).place ≡ b.place)
    → block_at place pool ≡ Some block → block_at place (with_changed place change pool) ≡ Some (change block)
block_at-changed_same place change [] block keeps found = absurd (cc)
block_at-changed_same place change (first ∷ pool) block keeps found =
    ⊎_elim
    (λ here.
    let same : first ≡ block = let e : block_at place (first ∷ pool) ≡ Some first = block_at-here place first pool here in cc in
    rw (eq-eqb first.place place here)
    (block_at-here place (change first) pool (keeps first ∙ here) ∙ ap (λ (b : Block). Some (change b)) same))
    (λ past. rw (ne_eqb first.place place past)
    (block_at-past place first (with_changed place change pool) past
    ∙ block_at-changed_same place change pool block keeps (sym (block_at-past place first pool past) ∙ found)))
    (cases_eq first.place place)

-- two blocks at different places stand in a relation that has no order
pub pairs-found :
    (R : Block → Block → Type 0) (pool : Pool) → ((a b : Block) → R a b → R b a) → Pairs R pool → (p q : ℕ) (a b : Block)
    → block_at p pool ≡ Some a → block_at q pool ≡ Some b → p ≢ q → R a b
pairs-found R [] turn pairs p q a b at_p at_q ne = absurd (let e : None ≡ Some a = at_p in cc)
pairs-found R (first ∷ pool) turn pairs p q a b at_p at_q ne =
    ⊎_elim
    (λ here.
    let same : first ≡ a = let e : block_at p (first ∷ pool) ≡ Some first = block_at-here p first pool here in cc in
    let past : first.place ≢ q = λ e. ne (sym here ∙ e) in
    let r : R first b = every-found (R first) q pool b pairs.0 (sym (block_at-past q first pool past) ∙ at_q) in
    subst (λ (x : Block). R x b) same r)
    (λ past_p.
    ⊎_elim
    (λ here.
    let same : first ≡ b = let e : block_at q (first ∷ pool) ≡ Some first = block_at-here q first pool here in cc in
    let r : R first a = every-found (R first) p pool a pairs.0 (sym (block_at-past p first pool past_p) ∙ at_p) in
    subst (λ (x : Block). R a x) same (turn first a r))
    (λ past_q. pairs-found R pool turn pairs.1 p q a b (sym (block_at-past p first pool past_p) ∙ at_p)
    (sym (block_at-past q first pool past_q) ∙ at_q) ne)
    (cases_eq first.place q))
    (cases_eq first.place p)

-- a property of each block of a pool, said by recursion, holds of each block by its index
pub every-All : (P : Block → Type 0) (pool : Pool) → Every P pool → All P pool
every-All P [] every = All-nil P
every-All P (block ∷ pool) every = All-cons P block pool every.0 (every-All P pool every.1)

pub pairs-AllPairs : (R : Block → Block → Type 0) (pool : Pool) → Pairs R pool → AllPairs R pool
pairs-AllPairs R [] pairs = λ i j d before below. absurd (omega arith)
pairs-AllPairs R (block ∷ pool) pairs =
    AllPairs-cons R block pool (every-All (R block) pool pairs.0) (pairs-AllPairs R pool pairs.1)
