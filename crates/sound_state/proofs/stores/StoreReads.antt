-- A store into a word that its caller stores alone keeps what is read of the other words, and what every caller remembers that reads no such word.
use Rattle.std.proofs.Common.{ℕ, ◌≡◌, ◌≢◌, ◌<◌, arith, ap, sym, subst, refl, ◌∙◌, IsSome}
use Rattle.std.specs.List.{AllByRecursion}
use Rattle.std.proofs.lemmas.List.Elements.{All-from_recursion}
use Rattle.sound_state.proofs.Common.{Geometry, info_of, WordName, descriptor_count, info_in, Writes, prefix_name, Point, recalls_of}
use Rattle.sound_state.proofs.Common.{Part, places, link_words, single, State, Lists, IsSoundWith, info_or_zero}
use Rattle.word_table.specs.declared.name.WordName.TheVariants as name
use Rattle.sound_state.proofs.shared.BackedRecalls.{AllRead}
use Rattle.sound_state.proofs.shared.RecallTables.{IsLink}
use Rattle.sound_state.proofs.stores.StoreFields.{IsLone, with_lone, IsPlaceKept, IsStillSaid, LinksKept, PlacesKept, BlocksKept, LoneKept}
use Rattle.sound_state.proofs.shared.RecallFrame.{Reads}

-- the words after a write of one that is stored alone are those of the state in between
pub lone-written :
    (words : WordName → ℕ) (n : WordName) (new : ℕ) (words' : WordName → ℕ) → IsLone n → Writes words n new words' → (m : WordName)
    → words' m ≡ with_lone words' words m
lone-written words n new words' lone w m = grind (arith, lone, w)

-- the two other kinds of such words beside links: words of the arena, and what descriptors say
abbrev pub IsOfArena : WordName → Type 0
IsOfArena (name.Arena place) = Unit {0}
IsOfArena n = ⊥

abbrev pub IsOfDesc : WordName → Type 0
IsOfDesc (name.Info d) = Unit {0}
IsOfDesc n = ⊥

-- a store into no link word keeps the links
pub links-stay :
    (g : Geometry) (s : State) (l : Lists) (n : WordName) (new : ℕ) (words' : WordName → ℕ) → IsSoundWith g s l → Writes s.word n new words'
    → (IsLink n → ⊥) → LinksKept g s l words'
links-stay g s l n new words' old w other = grind (arith, old, w, other)

-- a store of another kind keeps the words of the arena
pub blocks-kept :
    (g : Geometry) (s : State) (l : Lists) (n : WordName) (new : ℕ) (words' : WordName → ℕ) → Writes s.word n new words'
    → (IsOfArena n → ⊥) → BlocksKept g s l words'
blocks-kept g s l n new words' w other = grind (arith, w, other)

pub place-same : (s : State) (w : WordName → ℕ) (d : ℕ) → w (name.Info d) ≡ s.word (name.Info d) → IsPlaceKept s w d
place-same s w d same = (ap (λ v. (info_or_zero (info_of v)).frame) same, ap (λ v. (info_or_zero (info_of v)).class) same)

-- what the descriptors say is kept where every frame and class stay
pub all-places-kept :
    (g : Geometry) (s : State) (l : Lists) (w : WordName → ℕ) → ((d : ℕ) → d < descriptor_count g → IsSome (info_in g (w (name.Info d))))
    → ((d : ℕ) → IsPlaceKept s w d) → PlacesKept g s l w
all-places-kept g s l w infos place = grind (arith, infos, place)

-- a store of another kind keeps them
pub place-stays :
    (s : State) (n : WordName) (new : ℕ) (words' : WordName → ℕ) → Writes s.word n new words' → (IsOfDesc n → ⊥) → (d : ℕ) → IsPlaceKept s words' d
place-stays s n new words' w other d =
    place-same s words' d (w.elsewhere (name.Info d) (λ is. other (subst IsOfDesc is tt)))

pub places-stay :
    (g : Geometry) (s : State) (l : Lists) (n : WordName) (new : ℕ) (words' : WordName → ℕ) → IsSoundWith g s l → Writes s.word n new words'
    → (IsOfDesc n → ⊥) → PlacesKept g s l words'
places-stay g s l n new words' old w other = grind (arith, old, w, other, all-places-kept, place-stays)

-- the part reads no such word: neither the word itself nor a link there
abbrev pub IsBlindTo : WordName → Part → Type 0
IsBlindTo n (single m) = m ≢ n
IsBlindTo n (link_words f c blocks) = (k : ℕ) → k < blocks → prefix_name f c k ≢ n
IsBlindTo n q = Unit {0}

-- nothing of the word is read at the point
abbrev pub IsUnread : WordName → Point → Type 0
IsUnread n p = AllRead (IsBlindTo n) p

pub unread-stands :
    (s : State) (i : ℕ) (n : WordName) (p : Point) → (s.errand i).point ≡ p → AllByRecursion (Reads (IsBlindTo n)) (recalls_of p)
    → IsUnread n (s.errand i).point
unread-stands s i n p stands each = subst (IsUnread n) (sym stands) (All-from_recursion (Reads (IsBlindTo n)) (recalls_of p) each)

-- a store of a word that isn't read leaves what is read word by word, and so the places that it leaves
pub off-said :
    (s : State) (n : WordName) (new : ℕ) (words' : WordName → ℕ) → IsLone n → Writes s.word n new words' → (q : Part) → IsBlindTo n q
    → ((d : ℕ) → q ≡ places d → IsPlaceKept s words' d) → IsStillSaid s words' q
off-said s n new words' lone w (places d) off kept = kept d refl
off-said s n new words' lone w (single m) off kept = sym (lone-written s.word n new words' lone w m) ∙ w.elsewhere m off
off-said s n new words' lone w (link_words f c blocks) off kept = λ k lt. w.elsewhere (prefix_name f c k) (off k lt)
off-said s n new words' lone w q off kept = tt

-- where every frame and class stay, a store of a word that nobody reads keeps all that is read
pub lone-kept :
    (g : Geometry) (s : State) (l : Lists) (n : WordName) (new : ℕ) (words' : WordName → ℕ) → IsLone n → Writes s.word n new words'
    → LinksKept g s l words' → PlacesKept g s l words' → BlocksKept g s l words' → ((d : ℕ) → IsPlaceKept s words' d)
    → ((i : ℕ) → i < g.callers → IsUnread n (s.errand i).point) → LoneKept g s l words'
lone-kept g s l n new words' lone w links named blocks place unread = record {
  links = links;
  places = named;
  blocks = blocks;
  recalls = λ i has k r lt. off-said s n new words' lone w _ (unread i has k r lt) (λ d is. place d);
}
