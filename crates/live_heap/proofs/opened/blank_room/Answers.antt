use Rattle.std.proofs.Common.{ℕ, ◌≡◌, ◌≤◌, ◌+◌, ◌-◌, List, ◌++◌, length, take, drop, replicate, ap, ◌∙◌, sym, subst, arith}
use Rattle.std.specs.Prelude.{Some, None}
use Rattle.std.proofs.lemmas.List.{drop-replicate, length-replicate}
use Rattle.plain_words.specs.Places.{AllHere, Place, blanks, laids}
use Rattle.live_heap.specs.placement.Places.{placed_count}
use Rattle.live_heap.specs.FirstRoom.{IsBlankRoom}
use Rattle.live_heap.specs.Pieces.{mark_count}
use Rattle.live_heap.proofs.FirstRoomLemmas.{blank-here, first-many, half-here, half-long, half_laid, is-blank, others-many}
use Rattle.live_heap.proofs.Shows.{arena-placed}
use Rattle.live_heap.proofs.opened.blank_room.Goals as goal

pub split-arena-requires : goal.split-arena-requires
split-arena-requires c =
    let words : ℕ = c.count.result + c.mark_count.result in
    let long : length c.into_parts-all.result.0.places ≡ words = rw (c.into_parts-all.ensures.0) (ap length c.in_ok-new.ensures ∙ length-replicate words (Some None)) in
    omega (arith, long, c.arena_words-arena_words.ensures, c.count.ensures, arena-placed c.args.layout.now)

pub fill-requires : goal.fill-requires
fill-requires c =
    let words : ℕ = c.count.result + c.mark_count.result in
    let arena : ℕ = c.arena_words-arena_words.result in
    let within : arena ≤ words = omega (arith, c.arena_words-arena_words.ensures, c.count.ensures, arena-placed c.args.layout.now) in
    let all : c.into_parts-all.result.0.places ≡ blanks words = rw (c.into_parts-all.ensures.0) c.in_ok-new.ensures in
    let first : c.into_parts-all.result.0.first ≡ 0 = rw (c.into_parts-all.ensures.0) c.in_ok-new.field-0.whole.1 in
    let at : c.into_parts-all.result.0.at ≡ c.into_parts-all.result.1.start.at = rw (c.into_parts-all.ensures.0, c.into_parts-all.ensures.1) c.in_ok-new.field-0.whole.0 in
    let own : c.split-arena.result.1.places ≡ drop arena (blanks words) = c.split-arena.ensures.others.2 ∙ ap (drop arena) all in (
      sym (c.split-arena.ensures.others.0 ∙ at),
      omega (arith, c.split-arena.ensures.others.1, first),
      omega (arith, c.split-arena.ensures.others.1, first, ap length own, others-many arena words within),
      subst AllHere (sym (own ∙ drop-replicate arena words (Some None))) (λ i inside. blank-here (words - arena) i (omega (arith, inside, length-replicate {A = Place} (words - arena) (Some None)))),
    )

pub join-requires : goal.join-requires
join-requires c =
    let words : ℕ = c.count.result + c.mark_count.result in
    let arena : ℕ = c.arena_words-arena_words.result in
    let within : arena ≤ words = omega (arith, c.arena_words-arena_words.ensures, c.count.ensures, arena-placed c.args.layout.now) in
    let all : c.into_parts-all.result.0.places ≡ blanks words = rw (c.into_parts-all.ensures.0) c.in_ok-new.ensures in
    let long : length c.split-arena.result.0.places ≡ arena = ap length (c.split-arena.ensures.first.2 ∙ ap (take arena) all) ∙ first-many arena words within in (
      c.fill.ensures.0 ∙ c.split-arena.ensures.others.0 ∙ sym c.split-arena.ensures.first.0,
      omega (arith, c.fill.ensures.1, c.split-arena.ensures.others.1, c.split-arena.ensures.first.1, long),
    )

pub invariant_of-result : goal.invariant_of-result
invariant_of-result c =
    let words : ℕ = c.count.result + c.mark_count.result in
    let arena : ℕ = c.arena_words-arena_words.result in
    let within : arena ≤ words = omega (arith, c.arena_words-arena_words.ensures, c.count.ensures, arena-placed c.args.layout.now) in
    let all : c.into_parts-all.result.0.places ≡ blanks words = rw (c.into_parts-all.ensures.0) c.in_ok-new.ensures in
    let at : c.into_parts-all.result.0.at ≡ c.into_parts-all.result.1.start.at = rw (c.into_parts-all.ensures.0, c.into_parts-all.ensures.1) c.in_ok-new.field-0.whole.0 in
    let first : c.into_parts-all.result.0.first ≡ 0 = rw (c.into_parts-all.ensures.0) c.in_ok-new.field-0.whole.1 in
    let own : c.fill.new.self.places ≡ laids (replicate (length (drop arena (blanks words))) 0) =
    c.fill.ensures.2 ∙ ap (λ (l : List Place). laids (replicate (length l) 0)) (c.split-arena.ensures.others.2 ∙ ap (drop arena) all) in
    let are : c.join.result.places ≡ half_laid arena words = c.join.ensures.2 ∙ (λ i. (c.split-arena.ensures.first.2 ∙ ap (take arena) all) i ++ own i) in
    let backed : words ≡ c.into_parts-all.result.1.words = rw (c.into_parts-all.ensures.1) (sym (ap length c.in_ok-new.ensures ∙ length-replicate words (Some None)) ∙ c.in_ok-new.field-0.whole.2) in
    record {
      whole = (
        c.join.ensures.0 ∙ c.split-arena.ensures.first.0 ∙ at,
        c.join.ensures.1 ∙ c.split-arena.ensures.first.1 ∙ first,
        ap length are ∙ half-long arena words within ∙ backed,
        subst AllHere (sym are) (half-here arena words within),
      );
    }

pub returns : goal.returns
returns c =
    let g = c.args.layout.now in
    let words : ℕ = c.count.result + c.mark_count.result in
    let arena : ℕ = c.arena_words-arena_words.result in
    let within : arena ≤ words = omega (arith, c.arena_words-arena_words.ensures, c.count.ensures, arena-placed g) in
    let all : c.into_parts-all.result.0.places ≡ blanks words = rw (c.into_parts-all.ensures.0) c.in_ok-new.ensures in
    let own : c.fill.new.self.places ≡ laids (replicate (length (drop arena (blanks words))) 0) =
    c.fill.ensures.2 ∙ ap (λ (l : List Place). laids (replicate (length l) 0)) (c.split-arena.ensures.others.2 ∙ ap (drop arena) all) in
    let are : c.join.result.places ≡ half_laid arena words = c.join.ensures.2 ∙ (λ i. (c.split-arena.ensures.first.2 ∙ ap (take arena) all) i ++ own i) in
    let count : words ≡ placed_count g + mark_count g = omega (arith, c.count.ensures, c.mark_count.ensures) in
    subst (IsBlankRoom g) (sym are) (is-blank arena words within g c.arena_words-arena_words.ensures count)
