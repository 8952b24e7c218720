use Rattle.std.proofs.Common.{◌≡◌, ℕ, List, length, replicate, drop, sym, ap, ◌∙◌}
use lib.ListN.{length-replicate}
use lib.Seq.{take_at}
use Rattle.std.proofs.lemmas.List.{length-map}
use Rattle.plain_words.specs.Places.{Place, laid, laids, numbers}
use Rattle.region_tests.proofs.Steps.{laid_all}
use Rattle.region_tests.proofs.lock.Lock.add_one.Goals as goal

named : (n v : ℕ) (w : List ℕ) → w ≡ replicate n v → (x : ℕ) × (w ≡ replicate n x)
named n v w e = (v, e)

pub slice_mut-all-requires : goal.slice_mut-all-requires
slice_mut-all-requires c = let ps : List Place = c.in_ok-held.held.places in let got = c.in_ok-held.ensures.some in let n : ℕ = c.args.self.now.words in let all = laid_all n ps got.2.0 got.2.1 got.2.2 in
    let size : length ps ≡ n = ap length all.1 ∙ length-map (replicate n all.0) laid ∙ length-replicate n all.0 in (c.start.ensures ∙ sym got.0, sym got.1, sym size, (replicate n all.0, all.1))

pub release-requires-clause-words : goal.release-requires-clause-words
release-requires-clause-words c = let ps : List Place = c.in_ok-held.held.places in let got = c.in_ok-held.ensures.some in let n : ℕ = c.args.self.now.words in let all = laid_all n ps got.2.0 got.2.1 got.2.2 in
    let size : length ps ≡ n = ap length all.1 ∙ length-map (replicate n all.0) laid ∙ length-replicate n all.0 in let r : List ℕ = c.slice_mut-all.result.now in let w : List ℕ = c.fill.new.self in
    let size_r : length r ≡ length ps = sym (length-map r laid) ∙ sym (ap length c.slice_mut-all.ensures.value) in let filled = named (length r) _ w (c.fill.ensures.after (λ y e. e)) in let v : ℕ = filled.0 in
    let is : w ≡ replicate n v = filled.1 ∙ ap (λ (k : ℕ). replicate k v) (size_r ∙ size) in let size_w : length w ≡ length ps = ap length is ∙ length-replicate n v ∙ sym size in
    (got.0, got.1, (v, ap laids (take_at w (drop (length w) (numbers ps)) (length ps) size_w ∙ is)))
