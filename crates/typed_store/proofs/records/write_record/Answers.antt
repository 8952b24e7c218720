use Rattle.std.proofs.Common.{suc, ◌≡◌, ◌+◌, Some, length, sym, ◌∙◌, subst, arith}
use Rattle.std.specs.Prelude.{slice_index}
use Rattle.std.proofs.lemmas.Option.{slice_get-get_or}
use Rattle.live_heap.specs.Contents.{word_in}
use Rattle.live_heap.proofs.laws_for_builders.Words.{wrote-word}
use Rattle.typed_store.proofs.PassLemmas.{rests-on, write-changes, write-rests, wrote-owns}
use Rattle.typed_store.proofs.SliceLemmas.{slice-writes}
use Rattle.typed_store.proofs.records.write_record.Goals as goal

pub write_slice-requires-clause-owned : goal.write_slice-requires-clause-owned
write_slice-requires-clause-owned c =
    let b = c.args.block.now in
    let many = length c.args.words.now in
    let e = c.write.ensures in
    wrote-owns c.args.pass.now c.write.new.pass b 0 many (write-changes c.args.heap.now c.args.pass.now c.write.new.pass b.place 0 many b.need e.of e.called) e.called.caller e.called.lent
    c.requires.owned

pub returns : goal.returns
returns c =
    let b = c.args.block.now in
    let h = c.args.heap.now in
    let p = c.args.pass.now in
    let q = c.write.new.pass in
    let r = c.write_slice.new.pass in
    let e = c.write.ensures in
    let words = c.args.words.now in
    let many = length words in
    let changes = write-changes h p q b.place 0 many b.need e.of e.called in
    let owned = wrote-owns p q b 0 many changes e.called.caller e.called.lent c.requires.owned in
    let x = slice-writes h q b 1 words r e.of e.called.idle owned c.write_slice.ensures.wrote in
    record {
      rests = rests-on h p q r (write-rests h p q b.place 0 many b.need c.requires.of c.requires.owned e.of e.called) x.rests;
      «record» = record {
        counted = x.stays 0 many (omega arith) (wrote-word h p q b.place b.need 0 many 0 e.of e.called);
        each = λ i below.
            let next : 1 + i ≡ suc i = omega arith in
            subst (λ k. word_in r b.place k ≡ Some (slice_index words i)) next (x.wrote i below) ∙ sym (slice_get-get_or words i 0 below);
      };
      others = λ place far. x.others place far ∙ changes.others place far;
    }
