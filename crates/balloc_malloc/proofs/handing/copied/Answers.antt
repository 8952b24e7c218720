use Rattle.std.proofs.Common.{◌≡◌, ℕ, ◌+◌, ◌-◌, ◌<◌, List, length, get_or, set, sym, refl, ap, ◌∙◌, subst, arith, length-set}
use Rattle.plain_words.specs.Places.{AllHere, Place, laid, laids, place_at}
use Rattle.balloc_malloc.proofs.Firsts.{all_run, here_at, laids_at, length-laids, one_more}
use Rattle.balloc_malloc.proofs.handing.copied.Goals as goal

pub loop-i-init : goal.loop-i-init
loop-i-init c = record { at = refl; first = refl; long = refl; here = c.requires.to.here; done = λ k lo. absurd (omega (arith, lo)) }

pub lay-requires : goal.lay-requires
lay-requires c =
    let from = c.args.from.now in
    let inv = c.loop-i.invariant in
    let i : ℕ = c.loop-i.i in
    let had = c.slice-had.result.now in
    let all : from.words.places ≡ laids had =
    all_run from.words.places (from.first - from.words.first) from.size had (omega (arith, c.requires.from.0.begins)) (sym c.requires.from.0.long) c.slice-had.ensures in
    let count : length from.words.places ≡ length had = ap length all ∙ length-laids had in
    let begins : c.loop-i.words.first ≡ c.args.to.first = inv.first ∙ c.requires.to.begins in
    let there : (c.args.to.first + i) - c.loop-i.words.first ≡ i = omega (arith, begins) in
    let within : i < length c.loop-i.words.places =
    omega (arith, inv.long, c.requires.to.long, c.requires.larger, c.loop-i-test.true, count, c.requires.from.0.long) in (
      c.start-in-loop-i.ensures ∙ sym (inv.at ∙ c.requires.to.at),
      omega (arith, begins),
      omega (arith, begins, within),
      λ out. inv.here i within (ap (place_at c.loop-i.words.places) (sym there) ∙ out),
    )

pub loop-i-preserved : goal.loop-i-preserved
loop-i-preserved c =
    let from = c.args.from.now in
    let inv = c.loop-i.invariant in
    let i : ℕ = c.loop-i.i in
    let had = c.slice-had.result.now in
    let n : ℕ = get_or had i 0 in
    let all : from.words.places ≡ laids had =
    all_run from.words.places (from.first - from.words.first) from.size had (omega (arith, c.requires.from.0.begins)) (sym c.requires.from.0.long) c.slice-had.ensures in
    let count : length from.words.places ≡ length had = ap length all ∙ length-laids had in
    let begins : c.loop-i.words.first ≡ c.args.to.first = inv.first ∙ c.requires.to.begins in
    let there : (c.args.to.first + i) - c.loop-i.words.first ≡ i = omega (arith, begins) in
    let within : i < length c.loop-i.words.places =
    omega (arith, inv.long, c.requires.to.long, c.requires.larger, c.loop-i-test.true, count, c.requires.from.0.long) in
    let places : c.lay.new.self.places ≡ set c.loop-i.words.places i (laid n) =
    c.lay.ensures.2 ∙ ap (λ (j : ℕ). set c.loop-i.words.places j (laid n)) there in
    record {
      at = c.lay.ensures.0 ∙ inv.at;
      first = c.lay.ensures.1 ∙ inv.first;
      long = ap length places ∙ length-set c.loop-i.words.places i (laid n) ∙ inv.long;
      here = subst AllHere (sym places) (here_at c.loop-i.words.places i n inv.here);
      done = one_more c.loop-i.words.places c.lay.new.self.places had i places within inv.done;
    }

pub returns-clause-piece : goal.returns-clause-piece
returns-clause-piece c =
    let inv = c.loop-i.invariant in
    record { at = inv.at ∙ c.requires.to.at; begins = inv.first ∙ c.requires.to.begins; long = inv.long ∙ c.requires.to.long; here = inv.here }

pub returns-clause-copied : goal.returns-clause-copied
returns-clause-copied c =
    let from = c.args.from.now in
    let had = c.slice-had.result.now in
    let all : from.words.places ≡ laids had =
    all_run from.words.places (from.first - from.words.first) from.size had (omega (arith, c.requires.from.0.begins)) (sym c.requires.from.0.long) c.slice-had.ensures in
    let count : length from.words.places ≡ length had = ap length all ∙ length-laids had in
    λ k hi.
    let low : k < length had = omega (arith, hi, count) in
    c.loop-i.invariant.done k (omega (arith, low, c.loop-i-test.false)) ∙ sym (laids_at had k low) ∙ ap (λ (ps : List Place). place_at ps k) (sym all)
