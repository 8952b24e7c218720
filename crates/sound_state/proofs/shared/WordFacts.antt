-- What single words say: active words, next words, shelves, descriptors and the names of the arena.
use Rattle.std.proofs.Common.{ℕ, false, Some, ◌≡◌, ◌<◌, ◌+◌, ◌*◌, ◌^◌, refl, arith, ne_eqb, Option, ◌%◌, ◌==◌, IsSome}
use Rattle.sound_state.proofs.Common.{IsChecked, Geometry, active_word, active_of, Null, Held, descriptor_count, SeatFields, active_name, IsSiteOf, Exists, Site}
use Rattle.sound_state.proofs.Common.{info_or_zero, active-exact, IsActiveWord, InfoFields, shelf_word, CREDIT_BITS, descriptor_count_within, arena_words, heap_of}
use Rattle.sound_state.proofs.Common.{info_within, IsSeatOf, info_at}
use Rattle.packed_words.specs.Info.{IsInfo}
use Rattle.packed_words.specs.declared.shelf.ShelfWord.TheVariants as shelf
use Rattle.step_parts.specs.hazard.Points.{link_in}

-- an active word has room for any descriptor and its credits, and says them
pub held-fits : (g : Geometry) (d credits : ℕ) → IsChecked g → d < descriptor_count g → credits < 2 ^ CREDIT_BITS → IsActiveWord (Held d credits)
held-fits g d credits checked has few = (omega (arith, has, descriptor_count_within g checked), few)

pub held-said : (d credits : ℕ) → IsActiveWord (Held d credits) → active_of (active_word (Held d credits)) ≡ Some (Held d credits)
held-said d credits fit = active-exact.back (Held d credits) fit

-- an active word that holds a superblock isn't 0, and one that is null is
pub held-not-zero : (d credits : ℕ) → (active_word (Held d credits) == 0) ≡ false
unfolding active_word
held-not-zero d credits = ne_eqb (credits + (d + 1) * 2 ^ CREDIT_BITS) 0 (λ e. let bad : ⊥ = omega (arith, e) in bad)

pub null-none : active_word Null ≡ 0
unfolding active_word
null-none = refl

pub null-said : active_of (active_word Null) ≡ Some Null
null-said = active-exact.back Null tt

-- a seat's active word is one of the heap's
pub seat-active : (g : Geometry) (caller : ℕ) (seat : SeatFields) → IsChecked g → IsSeatOf g caller seat → Exists g (active_name seat)
seat-active g caller seat checked of = grind (arith, checked, of)

-- an active word names one descriptor
pub held-desc : (d credits e others : ℕ) → Some (Held d credits) ≡ Some (Held e others) → d ≡ e
held-desc d credits e others same = cc

-- a next word that names an index, or none, is the number that it says
pub link-some : (g : Geometry) (word next : ℕ) → link_in g word ≡ Some next → word ≡ next
link-some g word next is = grind (arith)

-- the word of a shelf on which nothing lies
pub shelf-nothing : shelf_word shelf.Nothing ≡ 0
unfolding shelf_word
shelf-nothing = refl

-- a descriptor's frame is one of the heap's
pub frame-of-within : (g : Geometry) (o : Option InfoFields) → IsSome (info_within g o) → (info_or_zero o).frame < g.frames
frame-of-within g o some = grind (arith, some)

-- the arena's names are of 32 bits
pub payload-uncut : (g : Geometry) (place i : ℕ) → IsChecked g → place + 1 + i < arena_words g → (place + 1 + i) % 2 ^ 32 ≡ place + 1 + i
payload-uncut g place i checked within = omega (arith, within, checked.frames.1, checked.units.1)

-- the name of a descriptor fits a word
pub name-below : (g : Geometry) (d : ℕ) → IsChecked g → d < descriptor_count g → d + 1 < 2 ^ 64
name-below g d checked exists = omega (arith, descriptor_count_within g checked, exists)

-- the processor heap of a superblock at hand, and its info word, are within the heap's limits
pub site-heap : (g : Geometry) (caller : ℕ) (at : Site) → IsChecked g → IsSiteOf g caller at → heap_of at.seat < g.heaps
site-heap g caller at checked site = grind (arith, checked, site)

pub site-info : (g : Geometry) (caller : ℕ) (at : Site) → IsChecked g → IsSiteOf g caller at → IsInfo (info_at at)
site-info g caller at checked site = grind (arith, checked, site, site-heap)
