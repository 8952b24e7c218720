-- The words of a page, cut into pieces and joined again.
use Rattle.std.proofs.Common.{ℕ, ◌≡◌, ◌≢◌, ◌+◌, ◌-◌, ◌*◌, ◌/◌, ◌%◌, ◌<◌, ◌≤◌, List, [], ◌∷◌, ◌++◌, None, length, take, drop, refl, sym, ap, subst, ◌∙◌, arith, inl, inr, slice_index_or, length-append, length-drop, length-take}
use Rattle.std.proofs.Math.Nat.{mul-div_cancel}
use Rattle.std.proofs.lemmas.Bool.{cases_eq, cases_lt}
use Rattle.std.proofs.lemmas.Nat.{div-add-mod', div-mul-add, mod_below, mul-le}
use Rattle.std.proofs.lemmas.List.{get_or-append_right, get_or-drop, get_or-take, get_or_append_left, get_or_past, get_or_push, length-take-le, length_push, take-take, take_at}
use Rattle.heap_geometry.specs.declared.need.Need.{Need}
use Rattle.heap_geometry.specs.Need.{usable_words}
use Rattle.plain_words.specs.declared.plain.PlainWords.{PlainWords}
use Rattle.plain_words.specs.Places.{AllHere, Place, place_at}
use Rattle.live_heap.specs.Heaps.{HeapFields}
use Rattle.live_heap.specs.declared.plain.Memory.{Memory}
use Rattle.memory_cache.specs.declared.page.Page.{Page}
use Rattle.memory_cache.specs.declared.page.Slot.{Slot}
use Rattle.memory_cache.specs.declared.page.Slot.TheVariants.{Home, Out}
use Rattle.memory_cache.specs.Pages.{AllHome, AreHere, IsPage, IsPageFor, IsSlot, count_of, first_of, slot_at}
use Rattle.memory_cache.specs.Rooms.{IsRoomOf}

-- one piece more has its size more words
pub one-more : (number size : ℕ) → (number + 1) * size ≡ number * size + size
one-more number size = grind arith

-- each of the pieces that words have room for lies within them
pub within-words : (number size words : ℕ) → number < words / size → number * size + size ≤ words
within-words number size words below =
    let most : (number + 1) * size ≤ words / size * size = mul-le (number + 1) size (words / size) size (omega arith) (omega arith) in
    omega (arith, one-more number size, div-add-mod' words size)

-- the inverse of a size tells how often it stands in few words
pub tells-number :
    (number size inverse : ℕ) → 0 < size → inverse ≡ 4194304 / size + 1 → number * size < 2048 → number * size * inverse / 4194304 ≡ number
tells-number number size inverse some is few =
    let q : ℕ = 4194304 / size in
    let r : ℕ = 4194304 % size in
    let more : ℕ = size - r in
    let below : r < size = mod_below 4194304 size some in
    let all : q * size + r ≡ 4194304 = div-add-mod' 4194304 size in
    let once : (q + 1) * size ≡ 4194304 + more = omega (arith, one-more q size) in
    let spread : number * size * inverse ≡ number * ((q + 1) * size) = rw is (grind arith) in
    let parts : number * (4194304 + more) ≡ number * 4194304 + number * more = grind arith in
    let least : number * more ≤ number * size = mul-le number more number size (omega arith) (omega arith) in
    ap (λ n. n / 4194304) (spread ∙ ap (λ n. number * n) once ∙ parts) ∙ div-mul-add number 4194304 (number * more) (omega arith)

-- words have room for a piece that fits
pub some-pieces : (size words : ℕ) → 0 < size → size ≤ words → 0 < words / size
some-pieces size words some fits =
    elim (cases_lt 0 (words / size)) [
      | inl is ↦ is
      | inr none ↦
          let zero : words / size ≡ 0 = omega (arith, none) in
          let nothing : 0 * size ≡ 0 = omega arith in
          let times : words / size * size ≡ 0 = ap (λ q. q * size) zero ∙ nothing in
          absurd (omega (arith, times, fits, div-add-mod' words size, mod_below words size some))
    ]

-- a page has at most 2047 pieces
pub pieces-few : (size place : ℕ) (need : Need) → IsPageFor size place need → usable_words need / size < 2048
pieces-few size place need is =
    let last : ℕ = usable_words need / size - 1 in
    elim (cases_lt 0 (usable_words need / size)) [
      | inl some ↦
          let near : last * size + 1 < 2048 = is.narrow last (omega arith) in
          let least : last * 1 ≤ last * size = mul-le last 1 last size (omega arith) is.some in
          omega arith
      | inr none ↦ omega arith
    ]

-- a piece that is home isn't out
pub home-in : (words : PlainWords) (next : ℕ) → Home words next ≢ Out
home-in words next same = cc

-- two pieces that begin at one word are one
pub same-piece : (number other size : ℕ) → 0 < size → number * size ≡ other * size → number ≡ other
same-piece number other size some same =
    sym (mul-div_cancel number some) ∙ ap (λ n. n / size) same ∙ mul-div_cancel other some

module _ (h : HeapFields) (first size count : ℕ) where
  -- the first words of those that are here
  pub first-here :
      (words piece : PlainWords) → count ≤ size → AreHere h first size words → piece.at ≡ words.at → piece.first ≡ words.first
      → piece.places ≡ take count words.places → AreHere h first count piece
  first-here words piece fits is at begins places =
      let long : count ≤ length words.places = omega (arith, is.long) in
      record {
        at = at ∙ is.at;
        begins = begins ∙ is.begins;
        long = ap length places ∙ length-take-le count words.places long;
        here = λ i within.
            let short : i < count = omega (arith, within, ap length places, length-take-le count words.places long) in
            let same : place_at piece.places i ≡ place_at words.places i =
            ap (λ (ps : List Place). slice_index_or ps i None) places ∙ get_or-take count words.places i None short in
            subst (λ (p : Place). p ≢ None) (sym same) (is.here i (omega arith));
      }

  -- and the others
  pub others-here :
      (next left : ℕ) (words others : PlainWords) → next ≡ first + count → left + count ≡ size → AreHere h first size words
      → others.at ≡ words.at → others.first ≡ words.first + count → others.places ≡ drop count words.places → AreHere h next left others
  others-here next left words others from fits is at begins places =
      let long : length (drop count words.places) ≡ left = length-drop count words.places ∙ (omega (arith, is.long)) in
      record {
        at = at ∙ is.at;
        begins = omega (arith, begins, is.begins);
        long = ap length places ∙ long;
        here = λ i within.
            let short : i < left = omega (arith, within, ap length places) in
            let same : place_at others.places i ≡ place_at words.places (count + i) =
            ap (λ (ps : List Place). slice_index_or ps i None) places ∙ get_or-drop count words.places i None in
            subst (λ (p : Place). p ≢ None) (sym same) (is.here (count + i) (omega (arith, is.long)));
      }

  -- words that lie right behind others are here with them
  pub joined-here :
      (next left : ℕ) (piece others words : PlainWords) → next ≡ first + count → left + count ≡ size → AreHere h first count piece
      → AreHere h next left others → words.at ≡ piece.at → words.first ≡ piece.first → words.places ≡ piece.places ++ others.places
      → AreHere h first size words
  joined-here next left piece others words from fits is are at begins places =
      let long : length (piece.places ++ others.places) ≡ size =
      length-append piece.places others.places ∙ (omega (arith, is.long, are.long)) in
      record {
        at = at ∙ is.at;
        begins = begins ∙ is.begins;
        long = ap length places ∙ long;
        here = λ i within.
            let same : place_at words.places i ≡ place_at (piece.places ++ others.places) i =
            ap (λ (ps : List Place). slice_index_or ps i None) places in
            elim (cases_lt i count) [
              | inl below ↦
                  subst (λ (p : Place). p ≢ None) (sym (same ∙ get_or_append_left piece.places others.places None i (omega (arith, is.long))))
                  (is.here i (omega (arith, is.long)))
              | inr above ↦
                  subst (λ (p : Place). p ≢ None) (sym (same ∙ get_or-append_right piece.places others.places count i None is.long above))
                  (are.here (i - count) (omega (arith, within, ap length places, are.long)))
            ];
      }

-- a slot more, behind the others
module _ (slots more : List Slot) (slot : Slot) (number : ℕ) (long : length slots ≡ number) (is : more ≡ slots ++ slot ∷ []) where
  slot-last : slice_index_or more number Out ≡ slot
  slot-last = ap (λ (xs : List Slot). slice_index_or xs number Out) is ∙ get_or_push slots slot Out number long

  slot-before : (k : ℕ) → k ≢ number → slice_index_or more k Out ≡ slice_index_or slots k Out
  slot-before k ne =
      elim (cases_lt k number) [
        | inl below ↦ ap (λ (xs : List Slot). slice_index_or xs k Out) is ∙ get_or_append_left slots (slot ∷ []) Out k (omega arith)
        | inr above ↦
            get_or_past more k Out (omega (arith, ap length is, length_push slots slot)) ∙ sym (get_or_past slots k Out (omega arith))
      ]

  -- what holds of each slot holds of them and the new one
  pub slots-more :
      (P : ℕ → Slot → Type 0) → ((k : ℕ) → P k (slice_index_or slots k Out)) → P number slot → (k : ℕ) → P k (slice_index_or more k Out)
  slots-more P all one k =
      elim (cases_eq k number) [
        | inl same ↦ subst (λ j. P j (slice_index_or more j Out)) (sym same) (subst (P number) (sym slot-last) one)
        | inr ne ↦ subst (P k) (sym (slot-before k ne)) (all k)
      ]

  pub homes-more :
      ((k : ℕ) → k < number → slice_index_or slots k Out ≢ Out) → slot ≢ Out → (k : ℕ) → k < number + 1 → slice_index_or more k Out ≢ Out
  homes-more all one k within =
      elim (cases_eq k number) [
        | inl same ↦
            subst (λ j. slice_index_or more j Out ≢ Out) (sym same) (subst (λ (s : Slot). s ≢ Out) (sym slot-last) one)
        | inr ne ↦ subst (λ (s : Slot). s ≢ Out) (sym (slot-before k ne)) (all k (omega arith))
      ]

  -- the same up to the new one
  pub each-more :
      (P : ℕ → Slot → Type 0) → ((k : ℕ) → k < number → P k (slice_index_or slots k Out)) → P number slot
      → (k : ℕ) → k < number + 1 → P k (slice_index_or more k Out)
  each-more P all one k within =
      elim (cases_eq k number) [
        | inl same ↦ subst (λ j. P j (slice_index_or more j Out)) (sym same) (subst (P number) (sym slot-last) one)
        | inr ne ↦ subst (P k) (sym (slot-before k ne)) (all k (omega arith))
      ]

-- the last slot of those that are left of a page
module _ (h : HeapFields) (p : Page) (slots less : List Slot) (slot : Slot) (is : IsPage h p)
    (begins : slots ≡ take (length slots) p.slots.items) (splits : slots ≡ less ++ slot ∷ []) where
  last-long : length slots ≡ length less + 1
  last-long = ap length splits ∙ length_push less slot

  last-within : length less < count_of p
  last-within = omega (arith, last-long, ap length begins, length-take (length slots) p.slots.items)

  last-slot : slot_at p (length less) ≡ slot
  last-slot =
      let at : List Slot → Slot = λ xs. slice_index_or xs (length less) Out in
      sym (get_or-take (length slots) p.slots.items (length less) Out (omega (arith, last-long)))
      ∙ ap at (sym begins) ∙ ap at splits ∙ get_or_push less slot Out (length less) refl

  -- the others are the first ones of the page too
  pub last-begins : less ≡ take (length less) p.slots.items
  last-begins =
      sym (take_at less (slot ∷ []) (length less) refl) ∙ ap (take (length less)) (sym splits ∙ begins)
      ∙ take-take (length less) (length slots) p.slots.items (omega (arith, last-long))

  -- its piece is home, where each is
  pub last-home : AllHome p → slot ≢ Out
  last-home home = subst (λ (s : Slot). s ≢ Out) last-slot (home (length less) last-within)

  pub last-here : (piece : PlainWords) (next : ℕ) → slot ≡ Home piece next → AreHere h (first_of p (length less)) p.size piece
  last-here piece next home = subst (IsSlot h (first_of p (length less)) p.size) (last-slot ∙ home) (is.slots (length less))

  last-times : length slots * p.size ≡ length less * p.size + p.size
  last-times = ap (λ n. n * p.size) last-long ∙ one-more (length less) p.size

  -- the words behind it begin where it ends
  pub last-next : first_of p (length slots) ≡ first_of p (length less) + p.size
  last-next = omega (arith, last-times)

  pub last-left : (usable_words p.need - length slots * p.size) + p.size ≡ usable_words p.need - length less * p.size
  last-left =
      omega (arith, last-times, within-words (length less) p.size (usable_words p.need) (subst (λ n. length less < n) is.count last-within))

-- words from the first piece on, as many as the block has, are memory of the block
pub whole-room :
    (h : HeapFields) (p : Page) (count : ℕ) (words : PlainWords) (m : Memory) → count ≡ 0
    → AreHere h (first_of p count) (usable_words p.need - count * p.size) words → m.words ≡ words → m.block.place ≡ p.place
    → m.block.need ≡ p.need → IsRoomOf h m
whole-room h p count words m none are same place need =
    let here : AreHere h (first_of p 0) (usable_words p.need - 0 * p.size) words =
    subst (λ n. AreHere h (first_of p n) (usable_words p.need - n * p.size) words) none are in
    record {
      at = ap (λ (w : PlainWords). w.at) same ∙ here.at;
      first = omega (arith, ap (λ (w : PlainWords). w.first) same, here.begins);
      long =
          let most : usable_words p.need - 0 * p.size ≡ usable_words p.need = omega arith in
          ap (λ (w : PlainWords). length w.places) same ∙ here.long ∙ most ∙ ap usable_words (sym need);
      here = subst (λ (w : PlainWords). AllHere w.places) (sym same) here.here;
    }
