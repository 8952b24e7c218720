-- An effect that changes no head and no next word keeps the lists.
use Rattle.std.proofs.Common.{ℕ, ◌≡◌, ◌≢◌, ◌<◌, ◌≤◌, List, sym, subst, All}
use Rattle.std.proofs.Math.Path.{fun_ext}
use Rattle.sound_state.proofs.Common.{Geometry, WordName, descriptor_count, Frames, Partials, Stacked, next_in, Lists, IsListed}
use Rattle.word_table.specs.declared.name.WordName.TheVariants as name

-- the word is a head or a next word
abbrev pub IsListWord : WordName → Type 0
IsListWord (name.Next d) = Unit {0}
IsListWord (name.FrameNext f) = Unit {0}
IsListWord name.FrameHead = Unit {0}
IsListWord name.DescHead = Unit {0}
IsListWord (name.ListHead class) = Unit {0}
IsListWord n = ⊥

-- a write of the head of the available descriptors makes their list what it leads to, and leaves the others
pub listed-anew :
    (g : Geometry) (words words' : WordName → ℕ) (l : Lists) (ys : List ℕ)
    → ((n : WordName) → IsListWord n → n ≢ name.DescHead → words' n ≡ words n)
    → Stacked (next_in words Partials) (words' name.DescHead) ys → All (λ d. d < descriptor_count g) ys → IsListed g words l
    → IsListed g words' (record l { available = ys })
listed-anew g words words' l ys same leads exist listed =
    let next : (d : ℕ) → words' (name.Next d) ≡ words (name.Next d) = λ d. same (name.Next d) tt (λ is. cc) in
    let frame_next : (f : ℕ) → words' (name.FrameNext f) ≡ words (name.FrameNext f) = λ f. same (name.FrameNext f) tt (λ is. cc) in
    let frames : next_in words' Frames ≡ next_in words Frames = fun_ext frame_next in
    let partials : next_in words' Partials ≡ next_in words Partials = fun_ext next in
    record {
      nexts = λ d has. subst (λ w. w ≤ descriptor_count g) (sym (next d)) (listed.nexts d has);
      frame_nexts = λ f has. subst (λ w. w ≤ g.frames) (sym (frame_next f)) (listed.frame_nexts f has);
      frames = rw (frames, same name.FrameHead tt (λ is. cc)) listed.frames;
      frames_exist = listed.frames_exist;
      available = rw partials leads;
      available_exist = exist;
      partials = λ class has. rw (partials, same (name.ListHead class) tt (λ is. cc)) (listed.partials class has);
      partials_exist = listed.partials_exist;
    }

-- all lists stay where no head and no next word changes
pub listed-kept :
    (g : Geometry) (words words' : WordName → ℕ) (l : Lists) → ((n : WordName) → IsListWord n → words' n ≡ words n)
    → IsListed g words l → IsListed g words' l
listed-kept g words words' l same listed =
    listed-anew g words words' l l.available (λ n is differ. same n is)
    (subst (λ w. Stacked (next_in words Partials) w l.available) (sym (same name.DescHead tt)) listed.available) listed.available_exist listed
