-- How memory is taken.
use Rattle.std.proofs.Common.{◌≡◌, ◌≢◌, ℕ, ◌+◌, ◌*◌, ◌%◌, ◌^◌, ◌<◌, ◌≤◌, Option, Some, None, Result, Ok, Err, sym, ap, refl, ◌∙◌, subst, arith}
use Rattle.std.specs.Prelude.{IfOk}
use Rattle.std.specs.Arc.{arc_value}
use Rattle.std.specs.declared.alloc.AllocError.{AllocError}
use denote.RawPtr.{Ptr, null_ptr}
use Rattle.heap_geometry.specs.declared.limits.TheConstants.{LARGE_MOST}
use Rattle.live_heap.specs.Heaps.{HeapFields}
use Rattle.live_heap.specs.declared.answers.AllocAnswer.{AllocAnswer}
use Rattle.live_heap.specs.declared.answers.AllocAnswer.TheVariants.{Given, Refused, TooLarge, Spent, Busy}
use Rattle.plain_words.specs.declared.plain.PlainWords.{PlainWords}
use Rattle.memory_cache.specs.declared.piece.Piece.{Piece}
use Rattle.memory_cache.specs.Paged.{CameOf, HasNewPage, IsIn, IsOut, LiesElsewhere}
use Rattle.memory_cache.specs.Pages.{IsPiece}
use Rattle.memory_cache.specs.Sizes.{page_words, piece_words}
use Rattle.balloc_malloc.specs.declared.codes.TheConstants.{CAUSES, DONE}
use Rattle.balloc_malloc.specs.declared.tenant.TheConstants.{READY_MOST, TRIES}
use Rattle.balloc_malloc.specs.declared.tenant.Tenant.{Tenant}
use Rattle.balloc_malloc.specs.Codes.{GivesNone, code_of}
use Rattle.balloc_malloc.specs.Out.{IsAt, IsLent}
use Rattle.balloc_malloc.specs.Sizes.{words_for}
use Rattle.balloc_malloc.specs.Takes.{HasReady, IsGiven, IsRefused, Lacks, Serves, Takes}
use Rattle.balloc_malloc.specs.Tenants.{heap_of}
use Rattle.balloc_malloc.proofs.PieceSizes.{piece_words-few}

pub goes_out :
    (before after : Tenant) (bytes code : ℕ) (told : Option PlainWords) (p : Ptr) (words : PlainWords) → told ≡ Some words
    → IsGiven before bytes code words p after → Takes before bytes code told p after
goes_out before after bytes code told p words is given = subst (λ (o : Option PlainWords). Takes before bytes code o p after) (sym is) given

pub serves_out :
    (h : HeapFields) (before after : Tenant) (bytes code : ℕ) (told : Option PlainWords) (p : Ptr) (x : Piece) → told ≡ Some x.words → code ≡ x.size
    → HasReady before bytes → IsGiven before bytes code x.words p after → IsPiece h x → IsIn before.cache x.first x.size → Serves before bytes code told p after
serves_out h before after bytes code told p x is sized ready given piece page =
    let here : IsIn before.cache x.words.first code =
    subst (λ (f : ℕ). IsIn before.cache f code) (sym piece.begins) (subst (λ (n : ℕ). IsIn before.cache x.first n) (sym sized) page) in
    subst (λ (o : Option PlainWords). Serves before bytes code o p after) (sym is) (ready, given, here)

pub serves_none :
    (before after : Tenant) (bytes code : ℕ) (told : Option PlainWords) (p : Ptr) → told ≡ None → code ≡ DONE → p ≡ null_ptr → after ≡ before
    → (bytes ≤ READY_MOST → ¬ HasReady before bytes) → Serves before bytes code told p after
serves_none before after bytes code told p is done null same none =
    subst (λ (o : Option PlainWords). Serves before bytes code o p after) (sym is) (done, null, same, none)

pub stays :
    (before after : Tenant) (bytes code : ℕ) (told : Option PlainWords) (p : Ptr) → told ≡ None → p ≡ null_ptr → Lacks before bytes code after
    → Takes before bytes code told p after
stays before after bytes code told p is null why = subst (λ (o : Option PlainWords). Takes before bytes code o p after) (sym is) (null, why)

-- a piece that is out is C's
pub is_lent :
    (h : HeapFields) (after : Tenant) (code : ℕ) (x : Piece) → h ≡ heap_of after → code ≡ x.size → IsPiece h x → x.size < CAUSES → IsOut after.cache x.first x.size
    → IsLent after x.words x.words.first code
is_lent h after code x same is piece few out = record {
  here = record { at = piece.at ∙ ap (λ (k : HeapFields). k.region.at) same; begins = refl; long = piece.long ∙ sym is; here = piece.here };
  out = subst (λ (n : ℕ). IsOut after.cache n code) (sym piece.begins) (subst (λ (n : ℕ). IsOut after.cache x.first n) (sym is) out);
  within = subst (λ (n : ℕ). n < CAUSES) (sym is) few;
}

pub few_of : (n words : ℕ) → n ≡ piece_words words → n < CAUSES
few_of n words is = subst (λ (k : ℕ). k < CAUSES) (sym is) (piece_words-few words)

pub is_given :
    (h : HeapFields) (before after : Tenant) (bytes code : ℕ) (x : Piece) (p : Ptr) → h ≡ heap_of before → after.heap ≡ before.heap → code ≡ x.size
    → IsAt x.words p → IsPiece h x → x.size ≡ piece_words (words_for bytes) → words_for bytes ≤ x.size → IsOut after.cache x.first x.size → x.first % 2 ≡ 1
    → ((other : ℕ) → ¬ IsOut before.cache x.first other) → ((first other : ℕ) → IsOut before.cache first other → IsOut after.cache first other)
    → ((first other : ℕ) → IsOut after.cache first other → first ≢ x.first → IsOut before.cache first other)
    → (HasReady before bytes → (after.cache.cache ≡ before.cache.cache) × (after.cache.hits ≡ (before.cache.hits + 1) % 2 ^ 64))
    → ((¬ HasReady before bytes) → HasNewPage h before.cache (words_for bytes) TRIES x.first after.cache × (after.cache.hits ≡ before.cache.hits))
    → IsGiven before bytes code x.words p after
is_given h before after bytes code x p same heap is there piece sized enough out odd fresh keeps only served new = record {
  lent = is_lent h after code x (same ∙ (λ i. arc_value (sym heap i))) is piece (few_of x.size (words_for bytes) sized) out;
  there = there;
  fresh = λ other has. fresh other (subst (λ (n : ℕ). IsOut before.cache n other) piece.begins has);
  keeps = keeps;
  only = λ first other has ne. only first other has (λ at. ne (at ∙ sym piece.begins));
  aligned = ap (λ (n : ℕ). n % 2) piece.begins ∙ odd;
  sized = is ∙ sized;
  enough = omega (arith, is, enough);
  heap = heap;
  served = served;
  new = λ none.
      let n = new none in
      let Of : HeapFields → ℕ → Type 0 = λ k first. HasNewPage k before.cache (words_for bytes) TRIES first after.cache in
      (subst (λ (k : HeapFields). Of k x.words.first) same (subst (Of h) (sym piece.begins) n.0), n.1);
}

-- a cause is no size
pub lacks : (told : Result (AllocAnswer Piece) AllocError) → GivesNone told → CAUSES ≤ code_of told
lacks (Ok (Given x)) none = absurd none
lacks (Ok Refused) none = omega arith
lacks (Ok TooLarge) none = omega arith
lacks (Ok Spent) none = omega arith
lacks (Ok Busy) none = omega arith
lacks (Err error) none = omega arith

-- where no memory is given there is none that others lie apart from
elsewhere : (told : Result (AllocAnswer Piece) AllocError) (first : ℕ) → GivesNone told → LiesElsewhere told first
elsewhere (Ok (Given x)) first none = absurd none
elsewhere (Ok Refused) first none = tt
elsewhere (Ok TooLarge) first none = tt
elsewhere (Ok Spent) first none = tt
elsewhere (Ok Busy) first none = tt
elsewhere (Err error) first none = tt

pub is_refused :
    (h : HeapFields) (before after : Tenant) (bytes code words : ℕ) (told : Result (AllocAnswer Piece) AllocError) → h ≡ heap_of before → after.heap ≡ before.heap
    → words ≡ words_for bytes → bytes ≤ 8 * LARGE_MOST → code ≡ code_of told → GivesNone told → (HasReady before bytes → (x : Piece) × (told ≡ Ok (Given x)))
    → IfOk told (λ answer. CameOf h before.cache.cache.pass (page_words words) TRIES answer after.cache.cache.pass)
    → ((first size : ℕ) → IsOut before.cache first size → IsOut after.cache first size)
    → ((first size : ℕ) → IsOut after.cache first size → LiesElsewhere told first → IsOut before.cache first size)
    → ((¬ HasReady before bytes) → after.cache.hits ≡ before.cache.hits) → IsRefused before bytes code after
is_refused h before after bytes code words told same heap for fits is none served came keeps only hits = record {
  fits = fits;
  none = λ ready. let s = served ready in subst GivesNone s.1 none;
  answer = told;
  told = is;
  lacks = (none, subst (λ (n : ℕ). CAUSES ≤ n) (sym is) (lacks told none));
  came = subst (λ (n : ℕ). IfOk told (λ answer. CameOf (heap_of before) before.cache.cache.pass (page_words n) TRIES answer after.cache.cache.pass)) for
      (subst (λ (k : HeapFields). IfOk told (λ answer. CameOf k before.cache.cache.pass (page_words words) TRIES answer after.cache.cache.pass)) same came);
  keeps = keeps;
  only = λ first size has. only first size has (elsewhere told first none);
  heap = heap;
  hits = hits (λ ready. let s = served ready in subst GivesNone s.1 none);
}
