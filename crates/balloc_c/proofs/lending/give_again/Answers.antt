use Rattle.std.proofs.Common.{ℕ, arith, ◌≡◌, ◌≤◌, ◌+◌, Some, refl, sym, ap, ◌∙◌, subst}
use Rattle.std.specs.Ptr.{ptr_add}
use Rattle.std.specs.Borrow.{u64}
use Rattle.heap_geometry.specs.declared.need.Need.{Need}
use Rattle.heap_geometry.specs.declared.limits.TheConstants.{LARGE_MOST}
use Rattle.heap_geometry.specs.Need.{need_of, usable_words}
use Rattle.plain_words.specs.declared.plain.PlainWords.{PlainWords}
use Rattle.live_heap.specs.declared.block.Block.{Block}
use Rattle.live_heap.specs.declared.plain.Memory.{Memory}
use Rattle.balloc_c.specs.declared.kept.Kept.TheVariants as kept
use Rattle.balloc_c.specs.Laid.{slot_of}
use Rattle.balloc_c.specs.Lending.{memory_at, words_for}
use Rattle.balloc_c.specs.Tended.{IsOutAt, Stands}
use Rattle.balloc_c.proofs.Enough.{bytes-enough, need-enough}
use Rattle.balloc_c.proofs.LaidLemmas.{turned-tends}
use Rattle.balloc_c.proofs.lending.give_again.Goals as goal

pub of_words-requires : goal.of_words-requires
of_words-requires c =
    let h = c.args.heap.now in
    let s = c.args._cache.now in
    let t = c.args.table.now in
    let memory : Memory = c.lift-number.result.1 in
    let ready = c.lift-number.ensures.ready in
    let stands : Stands h s.pass (Some (kept.Laid memory)) = subst (Stands h s.pass) ready.there (c.requires.tends.stand (slot_of t.laid c.args.class)) in
    let room = stands.1 in (
      c.start.ensures ∙ sym room.at ∙ ap (λ (w : PlainWords). w.at) (sym c.into_words.ensures),
      ap (λ (n : ℕ). n + 1) c.place.ensures ∙ sym room.first ∙ ap (λ (w : PlainWords). w.first) (sym c.into_words.ensures),
    )

pub returns-clause-tends : goal.returns-clause-tends
returns-clause-tends c =
    let h = c.args.heap.now in
    let s = c.args._cache.now in
    let t = c.args.table.now in
    let memory : Memory = c.lift-number.result.1 in
    let ready = c.lift-number.ensures.ready in
    let stands : Stands h s.pass (Some (kept.Laid memory)) = subst (Stands h s.pass) ready.there (c.requires.tends.stand (slot_of t.laid c.args.class)) in
    let out = c.lift-number.ensures.out in
    turned-tends h s t.slots.items c.lift-number.new.self.slots.items (slot_of t.laid c.args.class) (kept.Laid memory) (kept.Out out.0) c.requires.tends ready.there
    out.2 out.1 (subst (λ (b : Block). IsOutAt h s.pass b.place b.need) (sym out.1) stands.0)

pub returns-clause-count : goal.returns-clause-count
returns-clause-count c = c.lift-number.ensures.out.2.count

pub returns-clause-again : goal.returns-clause-again
returns-clause-again c idle =
    let h = c.args.heap.now in
    let s = c.args._cache.now in
    let t = c.args.table.now in
    let memory : Memory = c.lift-number.result.1 in
    let ready = c.lift-number.ensures.ready in
    let stands : Stands h s.pass (Some (kept.Laid memory)) = subst (Stands h s.pass) ready.there (c.requires.tends.stand (slot_of t.laid c.args.class)) in
    let bytes = c.args._bytes in
    let room = stands.1 in
    let out = c.lift-number.ensures.out in
    let small : need_of (words_for bytes) ≡ memory.block.need = c.requires.words.1 ∙ sym ready.serves in
    let few : words_for bytes ≤ LARGE_MOST = c.requires.words.0 in
    let enough : words_for bytes ≤ usable_words memory.block.need =
    subst (λ (n : Need). words_for bytes ≤ usable_words n) small (need-enough (words_for bytes) few) in
    let begins : c.of_words.result.memory ≡ memory_at h memory.block.place =
    c.of_words.ensures.0 ∙ ap (λ (w : PlainWords). ptr_add u64 w.first w.at) c.into_words.ensures ∙ (λ i. ptr_add u64 (room.first i) (room.at i)) in
    let first = room.first in
    let even = stands.0.2 in
    record {
      idle = idle;
      memory = memory;
      ready = record { class = c.args.class; small = c.requires.words.1; ready = ready };
      is = c.of_words.ensures.2 ∙ ap (λ (w : PlainWords). Some w) c.into_words.ensures;
      begins = begins;
      enough = bytes-enough bytes (usable_words memory.block.need) few enough;
      room = room;
      aligned = omega (arith, first, even);
      lent = out.0;
      token = out.1;
      again = out.3;
      still = refl;
    }
