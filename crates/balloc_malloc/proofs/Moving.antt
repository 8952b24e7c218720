-- How memory moves over to larger memory.
use Rattle.std.proofs.Common.{◌≡◌, ◌≢◌, ℕ, ◌%◌, ◌<◌, ◌≤◌, Option, Some, sym, refl, ap, ◌∙◌, subst, arith, inl, inr, ◌⊎◌}
use Rattle.std.specs.Arc.{arc_value}
use denote.RawPtr.{Ptr}
use Rattle.live_heap.specs.Heaps.{HeapFields}
use Rattle.plain_words.specs.declared.plain.PlainWords.{PlainWords}
use Rattle.memory_cache.specs.declared.paged.PagedCache.{PagedCache}
use Rattle.memory_cache.specs.declared.piece.Piece.{Piece}
use Rattle.memory_cache.specs.Paged.{IsOut}
use Rattle.memory_cache.specs.Pages.{IsPiece}
use Rattle.memory_cache.specs.Sizes.{piece_words}
use Rattle.balloc_malloc.specs.declared.codes.TheConstants.{CAUSES}
use Rattle.balloc_malloc.specs.declared.tenant.Tenant.{Tenant}
use Rattle.balloc_malloc.specs.Out.{IsAt, IsLent}
use Rattle.balloc_malloc.specs.Resizes.{HasCopied, IsEnough, Resizes}
use Rattle.balloc_malloc.specs.Sizes.{bytes_of, words_for}
use Rattle.balloc_malloc.specs.Takes.{Lacks}
use Rattle.balloc_malloc.specs.Tenants.{heap_of}
use Rattle.balloc_malloc.proofs.Taking.{few_of, is_lent}

pub stays_out :
    (before after : Tenant) (words : PlainWords) (size bytes code : ℕ) (told : Option PlainWords) (p : Ptr) → told ≡ Some words → IsAt words p
    → ((code ≡ size) × IsEnough before size bytes after) ⊎ ((CAUSES ≤ code) × (bytes_of size < bytes) × Lacks before bytes code after)
    → Resizes before words size bytes code told p after
stays_out before after words size bytes code told p is there why = subst (λ (o : Option PlainWords). Resizes before words size bytes code o p after) (sym is) (inl (refl, there, why))

-- what a take tells of larger memory, which leads to this cache
pub record Larger (before : Tenant) (mid : PagedCache) (bytes : ℕ) (larger : Piece) : Type 0 where
  pub sized : larger.size ≡ piece_words (words_for bytes)
  pub enough : words_for bytes ≤ larger.size
  pub aligned : larger.first % 2 ≡ 1
  pub out : IsOut mid larger.first larger.size
  pub fresh : (other : ℕ) → ¬ IsOut before.cache larger.first other
  pub keeps : (first other : ℕ) → IsOut before.cache first other → IsOut mid first other
  pub only : (first other : ℕ) → IsOut mid first other → first ≢ larger.first → IsOut before.cache first other

pub moves :
    (h : HeapFields) (before after : Tenant) (mid : PagedCache) (words : PlainWords) (first size bytes code : ℕ) (told : Option PlainWords) (larger x : Piece) (p : Ptr)
    → h ≡ heap_of before → after.heap ≡ before.heap → IsLent before words first size → Larger before mid bytes larger
    → ((x.first ≡ larger.first) × (x.size ≡ larger.size)) → IsPiece h x → HasCopied words x.words
    → ((other n : ℕ) → IsOut mid other n → other ≢ first → IsOut after.cache other n)
    → ((other n : ℕ) → IsOut after.cache other n → IsOut mid other n × (other ≢ first))
    → code ≡ x.size → told ≡ Some x.words → IsAt x.words p → Resizes before words size bytes code told p after
moves h before after mid words first size bytes code told larger x p same heap lent l place piece copied keeps only is out there =
    let begins : x.words.first ≡ larger.first = piece.begins ∙ place.0 in
    let away : larger.first ≢ first = λ one. l.fresh size (subst (λ (n : ℕ). IsOut before.cache n size) (sym one) lent.out) in
    let held : IsOut after.cache x.first x.size =
    subst (λ (n : ℕ). IsOut after.cache n x.size) (sym place.0) (subst (λ (n : ℕ). IsOut after.cache larger.first n) (sym place.1) (keeps larger.first larger.size l.out away)) in
    subst (λ (o : Option PlainWords). Resizes before words size bytes code o p after) (sym out)
    (inr (record {
      lent = is_lent h after code x (same ∙ (λ i. arc_value (sym heap i))) is piece (few_of x.size (words_for bytes) (place.1 ∙ l.sized)) held;
      there = there;
      enough = omega (arith, is, place.1, l.enough);
      aligned = ap (λ (n : ℕ). n % 2) begins ∙ l.aligned;
      copied = copied;
      fresh = λ other has. l.fresh other (subst (λ (n : ℕ). IsOut before.cache n other) begins has);
      keeps = λ other n has ne. keeps other n (l.keeps other n has) (λ one. ne (one ∙ sym lent.here.begins));
      only = λ other n has ne. let o = only other n has in (l.only other n o.0 (λ one. ne (one ∙ sym begins)), λ one. o.1 (one ∙ lent.here.begins));
      heap = heap;
    }))
