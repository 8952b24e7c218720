use Rattle.std.proofs.Common.{◌≡◌, None, refl, sym, ap, ◌∙◌, subst}
use Rattle.std.proofs.lemmas.Option.{same_Some}
use Rattle.plain_words.specs.Places.{numbers}
use Rattle.live_heap.proofs.laws_for_builders.Memory.{numbers-laids}
use Rattle.balloc_c.specs.declared.kept.Kept.TheVariants as kept
use Rattle.balloc_c.specs.declared.lent.LentBlock.{LentBlock}
use Rattle.balloc_c.specs.Kept.{block_of}
use Rattle.balloc_c.specs.Lending.{HasComeHome, IsRoomFor, zeros}
use Rattle.balloc_c.specs.Outcomes.{HasFreed}
use Rattle.balloc_c.proofs.LendingLemmas.{same-lent}
use Rattle.balloc_c.proofs.MemoryCalls.{gives-words, zeros-memory}
use Rattle.balloc_c.proofs.Numbers.{slot-named}
use Rattle.balloc_c.proofs.Packing.{few-behind}
use Rattle.balloc_c.proofs.lending.free_out.Goals as goal

pub zeroed-words-requires : goal.zeroed-words-requires
zeroed-words-requires c =
    let w = c.requires.words in
    let lent : w.0 ≡ c.in-Some.lent.now = same-lent w.0 c.in-Some.lent.now (sym w.2 ∙ c.in-Some.ensures.out) in
    let words : w.1 ≡ c.into_words.result = same_Some w.1 c.into_words.result (sym w.3 ∙ c.into_words.ensures) in
    subst (λ (l : LentBlock). IsRoomFor c.args.heap.now l c.into_words.result) lent (subst (IsRoomFor c.args.heap.now w.0) words w.4)

pub come_home-requires-clause-words : goal.come_home-requires-clause-words
come_home-requires-clause-words c =
    let h = c.args.heap.now in
    let w = c.requires.words in
    let words : w.1 ≡ c.into_words.result = same_Some w.1 c.into_words.result (sym w.3 ∙ c.into_words.ensures) in
    let z = c.zeroed-words.ensures in
    (w.0, w.2, zeros-memory h w.0 c.into_words.result c.zeroed-words.result (subst (IsRoomFor h w.0) words w.4) z.0 z.1 z.2)

pub free_home-requires-clause-home : goal.free_home-requires-clause-home
free_home-requires-clause-home c =
    let v = c.come_home.new.table in
    let home = c.come_home.ensures.home in
    let block = block_of (kept.Out home.lent) in
    (block, sym (slot-named v c.args.number c.args.index (kept.Home block) c.requires.is home.now.here) ∙ home.now.here)

pub free_home-requires-clause-named : goal.free_home-requires-clause-named
free_home-requires-clause-named c =
    let home = c.come_home.ensures.home in
    slot-named c.come_home.new.table c.args.number c.args.index (kept.Home (block_of (kept.Out home.lent))) c.requires.is home.now.here

pub returns-clause-answers : goal.returns-clause-answers
returns-clause-answers c =
    let h = c.args.heap.now in
    let s = c.args.cache.now in
    let t = c.args.table.now in
    let n = c.args.number in
    let e = c.come_home.new.cache in
    let v = c.come_home.new.table in
    let holds : numbers c.zeroed-words.result.places ≡ zeros c.into_words.result = ap numbers c.zeroed-words.ensures.2 ∙ numbers-laids (zeros c.into_words.result) in
    gives-words h s t n zeros (λ a b result d u. HasFreed a b n result d u) c.args.back.words None c.into_words.result c.free_home.result e c.free_home.new.cache v
    c.free_home.new.table c.into_words.ensures refl (subst (λ ns. HasComeHome h s t n ns e v) holds c.come_home.ensures.home) c.free_home.ensures.answers

pub returns-clause-few : goal.returns-clause-few
returns-clause-few c = few-behind c.args.table.now c.come_home.new.table c.free_home.new.table c.come_home.ensures.count c.come_home.ensures.blocks c.free_home.ensures.few
