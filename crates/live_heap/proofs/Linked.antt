-- The words of a heap as they are opened, one link after the other.
use Rattle.std.proofs.Common.{ℕ, ◌≡◌, ◌≢◌, ◌<◌, ◌+◌, List, arith, ◌∙◌, inl, inr, ◌⊎◌}
use Rattle.std.proofs.lemmas.Bool.{cases_eq}
use Rattle.errand_steps.specs.Openings.{opening}
use Rattle.heap_geometry.specs.declared.geometry.Geometry.{Geometry}
use Rattle.live_heap.specs.placement.Places.{words_at}
use Rattle.live_heap.specs.placement.Writes.{Wrote, word_at}
use Rattle.live_heap.proofs.placement_lemmas.WordsLemmas.{at-word_name, length-words_at}
use Rattle.step_machine.specs.Firsts.{IsTable}
use Rattle.word_table.specs.Counts.{descriptor_count, word_count}
use Rattle.word_table.specs.Table.{Exists, word_name}
use Rattle.word_table.specs.declared.name.WordName.{WordName}
use Rattle.word_table.specs.declared.name.WordName.TheVariants.{Arena, Anchor, Next, Info, Active, Slot, ListHead, FrameNext, FrameHead, DescHead, Hazard, Units, Shelf}
use Rattle.word_table.proofs.TableLemmas.{word_name-Exists}
use Rattle.live_heap.specs.Linked.{AreLinked, IsNoLink}

pub none-linked :
    (g : Geometry) (placed : List ℕ) → ((name : WordName) → Exists g name → word_at g placed name ≡ 0) → AreLinked g placed 0 0
none-linked g placed blank = record {
  nexts = λ desc below is. absurd (omega arith);
  frame_nexts = λ frame below is. absurd (omega arith);
  others = λ name is no_link. blank name is;
}

pub next-linked :
    (g : Geometry) (before after : List ℕ) (desc new : ℕ) → AreLinked g before desc 0 → new ≡ opening g (Next desc)
    → Wrote g before (Next desc) new after → AreLinked g after (desc + 1) 0
next-linked g before after desc new l is w = record {
  nexts = λ d below there. go d below there (cases_eq d desc);
  frame_nexts = λ frame below there. absurd (omega arith);
  others = λ name there no_link. w.elsewhere name there (no_link.0 desc) ∙ l.others name there no_link;
}
  where
    go : (d : ℕ) → d < desc + 1 → Exists g (Next d) → (d ≡ desc) ⊎ (d ≢ desc) → word_at g after (Next d) ≡ opening g (Next d)
    go d below there (inl same) = rw same (w.here ∙ is)
    go d below there (inr differ) = w.elsewhere (Next d) there (λ e. differ (one d desc e)) ∙ l.nexts d (omega arith) there
      where
        one : (a b : ℕ) → Next a ≡ Next b → a ≡ b
        one a b e = cc

pub frame-linked :
    (g : Geometry) (before after : List ℕ) (descs frame new : ℕ) → AreLinked g before descs frame → new ≡ opening g (FrameNext frame)
    → Wrote g before (FrameNext frame) new after → AreLinked g after descs (frame + 1)
frame-linked g before after descs frame new l is w = record {
  nexts = λ d below there. w.elsewhere (Next d) there (λ e. apart d frame e) ∙ l.nexts d below there;
  frame_nexts = λ f below there. go f below there (cases_eq f frame);
  others = λ name there no_link. w.elsewhere name there (no_link.1 frame) ∙ l.others name there no_link;
}
  where
    apart : (a b : ℕ) → Next a ≢ FrameNext b
    apart a b e = cc

    one : (a b : ℕ) → FrameNext a ≡ FrameNext b → a ≡ b
    one a b e = cc

    go : (f : ℕ) → f < frame + 1 → Exists g (FrameNext f) → (f ≡ frame) ⊎ (f ≢ frame) → word_at g after (FrameNext f) ≡ opening g (FrameNext f)
    go f below there (inl same) = rw same (w.here ∙ is)
    go f below there (inr differ) = w.elsewhere (FrameNext f) there (λ e. differ (one f frame e)) ∙ l.frame_nexts f (omega arith) there

-- with all links and the two heads written, all words are as at opening
module _ (g : Geometry) (linked framed placed : List ℕ) (l : AreLinked g linked (descriptor_count g) g.frames) (f : Wrote g linked FrameHead 1 framed)
    (d : Wrote g framed DescHead 1 placed) where
  still : (name : WordName) → Exists g name → name ≢ FrameHead → name ≢ DescHead → word_at g placed name ≡ word_at g linked name
  still name is not_frames not_descs = d.elsewhere name is not_descs ∙ f.elsewhere name is not_frames

  zero_there : (name : WordName) → Exists g name → name ≢ FrameHead → name ≢ DescHead → IsNoLink name → word_at g placed name ≡ 0
  zero_there name is not_frames not_descs no_link = still name is not_frames not_descs ∙ l.others name is no_link

  each-opened : (name : WordName) → Exists g name → word_at g placed name ≡ opening g name
  each-opened (Arena word) is = zero_there (Arena word) is (λ e. cc) (λ e. cc) ((λ k e. cc), (λ k e. cc))
  each-opened (Anchor desc) is = zero_there (Anchor desc) is (λ e. cc) (λ e. cc) ((λ k e. cc), (λ k e. cc))
  each-opened (Next desc) is = still (Next desc) is (λ e. cc) (λ e. cc) ∙ l.nexts desc is is
  each-opened (Info desc) is = zero_there (Info desc) is (λ e. cc) (λ e. cc) ((λ k e. cc), (λ k e. cc))
  each-opened (Active heap class) is = zero_there (Active heap class) is (λ e. cc) (λ e. cc) ((λ k e. cc), (λ k e. cc))
  each-opened (Slot heap class) is = zero_there (Slot heap class) is (λ e. cc) (λ e. cc) ((λ k e. cc), (λ k e. cc))
  each-opened (ListHead class) is = zero_there (ListHead class) is (λ e. cc) (λ e. cc) ((λ k e. cc), (λ k e. cc))
  each-opened (FrameNext frame) is = still (FrameNext frame) is (λ e. cc) (λ e. cc) ∙ l.frame_nexts frame is is
  each-opened FrameHead is = d.elsewhere FrameHead is (λ e. cc) ∙ f.here
  each-opened DescHead is = d.here
  each-opened (Hazard caller) is = zero_there (Hazard caller) is (λ e. cc) (λ e. cc) ((λ k e. cc), (λ k e. cc))
  each-opened Units is = zero_there Units is (λ e. cc) (λ e. cc) ((λ k e. cc), (λ k e. cc))
  each-opened (Shelf shelf) is = zero_there (Shelf shelf) is (λ e. cc) (λ e. cc) ((λ k e. cc), (λ k e. cc))

  pub is-opened : IsTable g (opening g) (word_count g) (words_at g placed)
  is-opened = record {
    all = length-words_at g placed;
    each = λ i below. at-word_name g placed i below ∙ each-opened (word_name g i) (word_name-Exists g i below);
  }
