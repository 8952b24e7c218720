-- The tokens in slots, and what a change of one slot makes of them.
use Rattle.std.proofs.Common.{ℕ, zero, suc, ◌≡◌, ◌≢◌, List, [], ◌∷◌, ◌++◌, Option, Some, None, length, refl, sym, ◌∙◌, ap, subst, append_assoc}
use Rattle.std.specs.List.{slice_get, slice_set}
use Rattle.std.specs.Prelude.{All}
use Rattle.std.proofs.lemmas.List.Elements.{All-append, All-cons, All-head, All-nil, All-tail}
use Rattle.std.proofs.lemmas.Option.{none-some}
use Rattle.pool_model.specs.Pool.{Block as PoolBlock}
use Rattle.live_heap.specs.declared.block.Block.{Block}
use Rattle.live_heap.specs.declared.pass.Pass.{Pass}
use Rattle.live_heap.specs.Holdings.{Holds, HoldsExactly}
use Rattle.live_heap.specs.Passes.{Owns}
use Rattle.live_heap.specs.Contents.{owned_in}
use Rattle.live_heap.proofs.laws_for_builders.Hands.{hand-left}
use Rattle.typed_store.specs.declared.slot.Slot.{Slot}
use Rattle.typed_store.specs.declared.slot.Slot.TheVariants.{Node, Spare}
use Rattle.typed_store.specs.Nodes.{node_at, node_in, nodes_at, token_in, tokens_in}

-- the tokens in front of a slot and behind it stay where it changes
pub record Around (slots : List Slot) (slot : ℕ) (holds : Slot) : Type 0 where
  pub before : List Block
  pub after : List Block
  pub was : tokens_in slots ≡ before ++ (token_in holds ++ after)
  pub now : (other : Slot) → tokens_in (slice_set slots slot other) ≡ before ++ (token_in other ++ after)

pub around : (slots : List Slot) (slot : ℕ) (holds : Slot) → slice_get slots slot ≡ Some holds → Around slots slot holds
around [] slot holds is = absurd (none-some holds is)
around (x ∷ xs) zero holds is =
    let same : x ≡ holds = cc in
    record { before = []; after = tokens_in xs; was = ap (λ s. token_in s ++ tokens_in xs) same; now = λ other. refl }
around (x ∷ xs) (suc slot) holds is =
    let rest = around xs slot holds is in
    record {
      before = token_in x ++ rest.before;
      after = rest.after;
      was = ap (λ l. token_in x ++ l) rest.was ∙ sym (append_assoc (token_in x) rest.before (token_in holds ++ rest.after));
      now = λ other. ap (λ l. token_in x ++ l) (rest.now other) ∙ sym (append_assoc (token_in x) rest.before (token_in other ++ rest.after));
    }

-- what stands in a slot after a change
pub get-set : {A : Type 0} (xs : List A) (slot : ℕ) (was now : A) → slice_get xs slot ≡ Some was → slice_get (slice_set xs slot now) slot ≡ Some now
get-set [] slot was now is = absurd (none-some was is)
get-set (x ∷ xs) zero was now is = refl
get-set (x ∷ xs) (suc slot) was now is = get-set xs slot was now is

pub get-other : {A : Type 0} (xs : List A) (slot other : ℕ) (now : A) → other ≢ slot → slice_get (slice_set xs slot now) other ≡ slice_get xs other
get-other [] slot other now differ = refl
get-other (x ∷ xs) zero zero now differ = absurd (differ refl)
get-other (x ∷ xs) zero (suc other) now differ = refl
get-other (x ∷ xs) (suc slot) zero now differ = refl
get-other (x ∷ xs) (suc slot) (suc other) now differ = get-other xs slot other now (λ e. differ (ap suc e))

pub length-set : {A : Type 0} (xs : List A) (slot : ℕ) (now : A) → length (slice_set xs slot now) ≡ length xs
length-set [] slot now = refl
length-set (x ∷ xs) zero now = refl
length-set (x ∷ xs) (suc slot) now = ap suc (length-set xs slot now)

-- the token in a slot is in the hand: it is owned, and the others of the hand lie elsewhere
pub token-out :
    (p : Pass) (slots : List Slot) (more : List Block) (slot : ℕ) (block : Block) → HoldsExactly p (tokens_in slots ++ more)
    → slice_get slots slot ≡ Some (Node block) → Owns p block
token-out p slots more slot block held is =
    let a = around slots slot (Node block) is in
    let whole : tokens_in slots ++ more ≡ a.before ++ block ∷ (a.after ++ more) =
    ap (λ l. l ++ more) a.was ∙ append_assoc a.before (block ∷ a.after) more in
    (hand-left p a.before (a.after ++ more) block (subst (Holds p) whole held.0)).0

-- a node stands in a slot with a token
pub node-token :
    (owned : ℕ → Option PoolBlock) (o : Option Slot) (next : ℕ) (pair : ℕ × ℕ) → node_in owned o ≡ Some (next, pair)
    → (block : Block) × (o ≡ Some (Node block)) × (node_at (owned block.place) ≡ Some (next, pair))
node-token owned None next pair is = absurd (none-some (next, pair) is)
node-token owned (Some (Node block)) next pair is = (block, refl, is)
node-token owned (Some (Spare number)) next pair is = absurd (none-some (next, pair) is)

-- what is so of all tokens is so of those in front, and of one
pub all-front : (P : Block → Type 0) (xs ys : List Block) → All P (xs ++ ys) → All P xs
all-front P [] ys all = All-nil P
all-front P (x ∷ xs) ys all = All-cons P x xs (All-head P x (xs ++ ys) all) (all-front P xs ys (All-tail P x (xs ++ ys) all))

all-one : (P : Block → Type 0) (before after : List Block) (block : Block) → All P (before ++ block ∷ after) → P block
all-one P [] after block all = All-head P block after all
all-one P (x ∷ xs) after block all = all-one P xs after block (All-tail P x (xs ++ block ∷ after) all)

pub all-token :
    (P : Block → Type 0) (slots : List Slot) (slot : ℕ) (block : Block) → slice_get slots slot ≡ Some (Node block) → All P (tokens_in slots)
    → P block
all-token P slots slot block is all =
    let a = around slots slot (Node block) is in
    all-one P a.before a.after block (subst (All P) a.was all)

all-behind : (P : Block → Type 0) (xs ys : List Block) → All P (xs ++ ys) → All P ys
all-behind P [] ys all = all
all-behind P (x ∷ xs) ys all = all-behind P xs ys (All-tail P x (xs ++ ys) all)

-- it stays so where a slot gets a token of which it is so, or loses one
pub all-set :
    (P : Block → Type 0) (slots : List Slot) (slot : ℕ) (was now : Slot) → slice_get slots slot ≡ Some was → All P (tokens_in slots) → All P (token_in now)
    → All P (tokens_in (slice_set slots slot now))
all-set P slots slot was now is all new =
    let a = around slots slot was is in
    let old = subst (All P) a.was all in
    let back = all-behind P (token_in was) a.after (all-behind P a.before (token_in was ++ a.after) old) in
    subst (All P) (sym (a.now now))
    (All-append P a.before (token_in now ++ a.after) (all-front P a.before (token_in was ++ a.after) old) (All-append P (token_in now) a.after new back))

-- the tokens in two slots lie apart
slots-apart :
    (p : Pass) (slots : List Slot) (more : List Block) (slot other : ℕ) (block token : Block) → HoldsExactly p (tokens_in slots ++ more)
    → slice_get slots slot ≡ Some (Node block) → slice_get slots other ≡ Some (Node token) → other ≢ slot → token.place ≢ block.place
slots-apart p slots more slot other block token held is there away =
    let P : Block → Type 0 = λ x. x.place ≢ block.place in
    let a = around slots slot (Node block) is in
    let whole : tokens_in slots ++ more ≡ a.before ++ block ∷ (a.after ++ more) =
    ap (λ l. l ++ more) a.was ∙ append_assoc a.before (block ∷ a.after) more in
    let out = (hand-left p a.before (a.after ++ more) block (subst (Holds p) whole held.0)).1 in
    let left : All P (a.before ++ a.after) =
    all-front P (a.before ++ a.after) more (subst (All P) (sym (append_assoc a.before a.after more)) out) in
    all-token P (slice_set slots slot (Spare 0)) other token (get-other slots slot other (Spare 0) away ∙ there) (subst (All P) (sym (a.now (Spare 0))) left)

node-in-other :
    (owned now : ℕ → Option PoolBlock) (o : Option Slot) → ((token : Block) → o ≡ Some (Node token) → now token.place ≡ owned token.place)
    → node_in now o ≡ node_in owned o
node-in-other owned now None same = refl
node-in-other owned now (Some (Node token)) same = ap node_at (same token refl)
node-in-other owned now (Some (Spare n)) same = refl

-- where the block of one slot changes, the nodes in the others stay
pub nodes-other :
    (p : Pass) (now : ℕ → Option PoolBlock) (slots : List Slot) (more : List Block) (slot : ℕ) (block : Block)
    → HoldsExactly p (tokens_in slots ++ more) → slice_get slots slot ≡ Some (Node block)
    → ((place : ℕ) → place ≢ block.place → now place ≡ owned_in p place) → (other : ℕ) → other ≢ slot
    → nodes_at now slots other ≡ nodes_at (owned_in p) slots other
nodes-other p now slots more slot block held is others other away =
    node-in-other (owned_in p) now (slice_get slots other)
    (λ token there. others token.place (slots-apart p slots more slot other block token held is there away))

-- a slot without a node comes behind the others
pub tokens-push : (slots : List Slot) (next : ℕ) → tokens_in (slots ++ Spare next ∷ []) ≡ tokens_in slots
tokens-push [] next = refl
tokens-push (x ∷ xs) next = ap (λ l. token_in x ++ l) (tokens-push xs next)

pub nodes-push :
    (owned : ℕ → Option PoolBlock) (slots : List Slot) (next slot : ℕ) → nodes_at owned (slots ++ Spare next ∷ []) slot ≡ nodes_at owned slots slot
nodes-push owned [] next zero = refl
nodes-push owned [] next (suc slot) = refl
nodes-push owned (x ∷ xs) next zero = refl
nodes-push owned (x ∷ xs) next (suc slot) = nodes-push owned xs next slot

pub get-push : {A : Type 0} (xs : List A) (x : A) → slice_get (xs ++ x ∷ []) (length xs) ≡ Some x
get-push [] x = refl
get-push (y ∷ ys) x = get-push ys x
