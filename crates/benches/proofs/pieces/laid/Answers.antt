use Rattle.std.proofs.Common.{◌≡◌, ℕ, ◌+◌, ◌-◌, ◌%◌, ◌^◌, ◌<◌, length, sym, refl, ap, ◌∙◌, subst, arith, length-set}
use Rattle.std.specs.Prelude.{slice_set}
use Rattle.plain_words.specs.Places.{AllHere, IsLaid, laid, place_at}
use Rattle.benches.proofs.PieceLemmas.{all-here, one-more-laid}
use Rattle.benches.proofs.pieces.laid.Goals as goal

pub loop-i-init : goal.loop-i-init
loop-i-init c = record { at = refl; first = refl; long = refl; here = c.requires.piece.here; laid = λ k lo. absurd (omega (arith, lo)) }

pub lay-requires : goal.lay-requires
lay-requires c =
    let inv = c.loop-i.invariant in
    let i : ℕ = c.loop-i.i in
    let begins : c.loop-i.words.first ≡ c.args.piece.first = inv.first ∙ c.requires.piece.begins in
    let there : (c.args.piece.first + i) - c.loop-i.words.first ≡ i = omega (arith, begins) in
    let within : i < length c.loop-i.words.places = omega (arith, inv.long, c.requires.piece.long, c.requires.count, c.loop-i-test.true) in (
      c.start.ensures ∙ sym (inv.at ∙ c.requires.piece.at),
      omega (arith, begins),
      omega (arith, begins, within),
      λ out. inv.here i within (ap (place_at c.loop-i.words.places) (sym there) ∙ out),
    )

pub loop-i-preserved : goal.loop-i-preserved
loop-i-preserved c =
    let inv = c.loop-i.invariant in
    let i : ℕ = c.loop-i.i in
    let n : ℕ = (c.args.from + i) % 2 ^ 64 in
    let begins : c.loop-i.words.first ≡ c.args.piece.first = inv.first ∙ c.requires.piece.begins in
    let there : (c.args.piece.first + i) - c.loop-i.words.first ≡ i = omega (arith, begins) in
    let within : i < length c.loop-i.words.places = omega (arith, inv.long, c.requires.piece.long, c.requires.count, c.loop-i-test.true) in
    let places : c.lay.new.self.places ≡ slice_set c.loop-i.words.places i (laid n) =
    c.lay.ensures.2 ∙ ap (λ (j : ℕ). slice_set c.loop-i.words.places j (laid n)) there in
    record {
      at = c.lay.ensures.0 ∙ inv.at;
      first = c.lay.ensures.1 ∙ inv.first;
      long = ap length places ∙ length-set c.loop-i.words.places i (laid n) ∙ inv.long;
      here = subst AllHere (sym places) (all-here c.loop-i.words.places i n within inv.here);
      laid = λ k lo. subst (λ ps. IsLaid ps k) (sym places) (one-more-laid c.loop-i.words.places i n within inv.laid k lo);
    }

pub returns-clause-piece : goal.returns-clause-piece
returns-clause-piece c =
    let inv = c.loop-i.invariant in
    record {
      at = inv.at ∙ c.requires.piece.at;
      begins = inv.first ∙ c.requires.piece.begins;
      long = inv.long ∙ c.requires.piece.long;
      here = inv.here;
    }
