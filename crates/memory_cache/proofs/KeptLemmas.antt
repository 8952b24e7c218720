-- The pieces in magazines.
use Rattle.std.proofs.Common.{ℕ, ◌≡◌, ◌≢◌, List, [], ◌∷◌, ◌++◌, sym, subst}
use Rattle.std.specs.Prelude.{All}
use Rattle.std.proofs.lemmas.List.Elements.{All-nil, All-cons, All-head, All-tail}
use Rattle.live_heap.specs.Heaps.{HeapFields}
use Rattle.live_heap.specs.declared.pass.Pass.{Pass}
use Rattle.live_heap.specs.declared.plain.Memory.{Memory}
use Rattle.live_heap.specs.Memory.{HasTaken}
use Rattle.block_cache.specs.declared.magazines.Magazines.{Magazines}
use Rattle.block_cache.specs.Magazines.{AreForClasses, Splits, all_in, stacks_of}
use Rattle.block_cache.proofs.MagazineLemmas.{all-in, all-out}
use Rattle.memory_cache.specs.declared.cache.MemoryCache.{MemoryCache}
use Rattle.memory_cache.specs.Caches.{AreKept, IsCache, LieApart, kept_in}
use Rattle.memory_cache.specs.Rooms.{IsRoomOf}
use Rattle.memory_cache.specs.Settled.{IsPassFor}
use Rattle.memory_cache.proofs.SettledLemmas.{LentSame, taken-on}

-- a piece among others: it is memory that is out, it lies apart from the others, and these are kept
abbrev pub IsPiece : HeapFields → Pass → Memory → List Memory → Type 0
IsPiece h p m others = (IsRoomOf h m × HasTaken p m) × LieApart m others × AreKept h p others

kept-out : (h : HeapFields) (p : Pass) (before after : List Memory) (m : Memory) → AreKept h p (before ++ m ∷ after) → IsPiece h p m (before ++ after)
kept-out h p [] after m kept = kept
kept-out h p (b ∷ bs) after m kept =
    let rest = kept-out h p bs after m kept.2 in
    let out = all-out (λ other. other.block.place ≢ b.block.place) bs after m kept.1 in (
      rest.0,
      All-cons (λ (other : Memory). other.block.place ≢ m.block.place) b (bs ++ after) (λ same. out.0 (sym same)) rest.1,
      (kept.0, out.1, rest.2),
    )

kept-in : (h : HeapFields) (p : Pass) (before after : List Memory) (m : Memory) → IsPiece h p m (before ++ after) → AreKept h p (before ++ m ∷ after)
kept-in h p [] after m piece = piece
kept-in h p (b ∷ bs) after m piece =
    let here : b.block.place ≢ m.block.place = All-head (λ (other : Memory). other.block.place ≢ m.block.place) b (bs ++ after) piece.1 in
    let rest : AreKept h p (b ∷ bs ++ after) = piece.2 in (
      rest.0,
      all-in (λ other. other.block.place ≢ b.block.place) bs after m (λ same. here (sym same)) rest.1,
      kept-in h p bs after m (piece.0, All-tail (λ (other : Memory). other.block.place ≢ m.block.place) b (bs ++ after) piece.1, rest.2),
    )

-- a piece leaves the others, or comes to them
pub piece-leaves : (h : HeapFields) (p : Pass) (m : Memory) (more less : List Memory) → Splits m more less → AreKept h p more → IsPiece h p m less
piece-leaves h p m more less s kept =
    subst (IsPiece h p m) (sym s.without_it) (kept-out h p s.front s.back m (subst (AreKept h p) s.with_it kept))

pub piece-comes : (h : HeapFields) (p : Pass) (m : Memory) (more less : List Memory) → Splits m more less → IsPiece h p m less → AreKept h p more
piece-comes h p m more less s piece =
    subst (AreKept h p) (sym s.with_it) (kept-in h p s.front s.back m (subst (IsPiece h p m) s.without_it piece))

-- a piece that lies apart from more lies apart from one of them, and from fewer; and the other way round
pub apart-leaves : (other m : Memory) (more less : List Memory) → Splits m more less → LieApart other more → (m.block.place ≢ other.block.place) × LieApart other less
apart-leaves other m more less s apart =
    let out =
    all-out (λ (x : Memory). x.block.place ≢ other.block.place) s.front s.back m
    (subst (LieApart other) s.with_it apart) in
    (out.0, subst (LieApart other) (sym s.without_it) out.1)

pub apart-comes : (other m : Memory) (more less : List Memory) → Splits m more less → m.block.place ≢ other.block.place → LieApart other less → LieApart other more
apart-comes other m more less s here apart =
    subst (LieApart other) (sym s.with_it)
    (all-in (λ (x : Memory). x.block.place ≢ other.block.place) s.front s.back m here (subst (LieApart other) s.without_it apart))

-- what is so of all that is out is so of all pieces
pub kept-all : (h : HeapFields) (p : Pass) (P : Memory → Type 0) → ((m : Memory) → HasTaken p m → P m) → (ms : List Memory) → AreKept h p ms → All P ms
kept-all h p P each [] kept = All-nil P
kept-all h p P each (m ∷ ms) kept = All-cons P m ms (each m kept.0.1) (kept-all h p P each ms kept.2)

-- pieces stay kept where what they need stays out
pub kept-on :
    (h : HeapFields) (p q : Pass) (L : Memory → Type 0) → ((m : Memory) → L m → HasTaken p m → HasTaken q m)
    → (ms : List Memory) → All L ms → AreKept h p ms → AreKept h q ms
kept-on h p q L on [] all kept = tt
kept-on h p q L on (m ∷ ms) all kept =
    ((kept.0.0, on m (All-head L m ms all) kept.0.1), kept.1, kept-on h p q L on ms (All-tail L m ms all) kept.2)

pub kept-same : (h : HeapFields) (p q : Pass) → ((m : Memory) → HasTaken p m → HasTaken q m) → (ms : List Memory) → AreKept h p ms → AreKept h q ms
kept-same h p q on ms kept = kept-on h p q (λ m. Unit {0}) (λ m left taken. on m taken) ms (λ k d within. tt) kept

-- a cache whose pass went on is one still; and one with other magazines
pub passed : (h : HeapFields) (c : MemoryCache) (q : Pass) → IsCache h c → IsPassFor h q → AreKept h q (kept_in c)
    → IsCache h (record { pass = q; magazines = c.magazines; hits = c.hits })
passed h c q is pass kept = record { pass = pass; magazines = is.magazines; kept = kept }

pub refilled : (h : HeapFields) (c : MemoryCache) (p : Pass) (m : Magazines Memory) (hits : ℕ) → IsCache h c → IsPassFor h p → m.depth ≡ c.magazines.depth
    → AreForClasses (λ (memory : Memory). memory.block.need) c.magazines.depth m.stacks.items → AreKept h p (all_in (stacks_of m.stacks.items))
    → IsCache h (record { pass = p; magazines = m; hits = hits })
refilled h c p m hits is pass depth ready kept =
    record {
      pass = pass;
      magazines = subst (λ k. AreForClasses (λ (memory : Memory). memory.block.need) k m.stacks.items) (sym depth) ready;
      kept = kept;
    }

-- a cache whose pass has settled, with the same words out, is one still
pub settled-cache : (h : HeapFields) (c : MemoryCache) (q : Pass) → IsCache h c → IsPassFor h q → LentSame c.pass q
    → IsCache h (record { pass = q; magazines = c.magazines; hits = c.hits })
settled-cache h c q is pass lent = passed h c q is pass (kept-same h c.pass q (λ m. taken-on c.pass q m lent) (kept_in c) is.kept)
