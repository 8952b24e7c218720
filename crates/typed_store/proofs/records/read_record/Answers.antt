use Rattle.std.proofs.Common.{ℕ, ◌≡◌, List, length, drop, sym, ◌∙◌, subst, arith}
use lib.Seq.{take_at}
use Rattle.live_heap.proofs.laws_for_builders.Words.{read-word}
use Rattle.typed_store.specs.Walks.{LedBy, record_reads}
use Rattle.typed_store.proofs.PassLemmas.{read-reads, same-owns}
use Rattle.typed_store.proofs.RecordLemmas.{record-within}
use Rattle.typed_store.proofs.SliceLemmas.{record-read}
use Rattle.typed_store.proofs.records.read_record.Goals as goal

pub read-count-requires-clause-word : goal.read-count-requires-clause-word
read-count-requires-clause-word c =
    let r = c.requires.record in
    let within = record-within c.args.heap.now c.args.pass.now c.args.block.now r.0 c.requires.of c.requires.owned r.1 in
    omega (arith, within)

pub overflow_cast-count : goal.overflow_cast-count
overflow_cast-count c =
    let r = c.requires.record in
    let b = c.args.block.now in
    let h = c.args.heap.now in
    let e = c.read-count.ensures in
    let within = record-within h c.args.pass.now b r.0 c.requires.of c.requires.owned r.1 in
    let many : c.read-count.result ≡ length r.0 =
    read-word h c.args.pass.now c.read-count.new.pass b.place b.need 0 0 c.read-count.result (length r.0) e.of e.called e.contents r.1.counted in
    omega (arith, within, many, c.usable_words-most.ensures, c.usable_words-most.type_inv)

pub returns-in_err-words-clause-reads : goal.returns-in_err-words-clause-reads
returns-in_err-words-clause-reads c =
    let b = c.args.block.now in
    read-reads c.args.heap.now c.args.pass.now c.read-count.new.pass b.place 0 c.read-count.result b.need c.requires.of c.requires.owned c.read-count.ensures.of c.read-count.ensures.called

pub read_slice-requires-clause-owned : goal.read_slice-requires-clause-owned
read_slice-requires-clause-owned c =
    let b = c.args.block.now in
    let e = c.read-count.ensures in
    let r = read-reads c.args.heap.now c.args.pass.now c.read-count.new.pass b.place 0 c.read-count.result b.need c.requires.of c.requires.owned e.of e.called in
    same-owns c.args.pass.now c.read-count.new.pass b r.same r.rests.caller r.rests.lent c.requires.owned

pub read_slice-requires-clause-words : goal.read_slice-requires-clause-words
read_slice-requires-clause-words c =
    let r = c.requires.record in
    let b = c.args.block.now in
    let h = c.args.heap.now in
    let e = c.read-count.ensures in
    let within = record-within h c.args.pass.now b r.0 c.requires.of c.requires.owned r.1 in
    let many : c.read-count.result ≡ length r.0 =
    read-word h c.args.pass.now c.read-count.new.pass b.place b.need 0 0 c.read-count.result (length r.0) e.of e.called e.contents r.1.counted in
    omega (arith, within, many, c.deref_mut.ensures.len, c.in_ok-words.ensures.len)

pub returns-clause-reads : goal.returns-clause-reads
returns-clause-reads c =
    let b = c.args.block.now in
    let h = c.args.heap.now in
    let e = c.read-count.ensures in
    let ws = c.read_slice.new.into in
    let long : length ws ≡ c.read-count.result = omega (arith, c.read_slice.ensures.long, c.deref_mut.ensures.len, c.in_ok-words.ensures.len) in
    (record-read h c.args.pass.now c.read-count.new.pass c.read_slice.new.pass b c.read-count.result ws c.requires.of c.requires.owned e.of e.called e.contents
    c.read_slice.ensures.found long).0

pub returns-clause-words : goal.returns-clause-words
returns-clause-words c = λ words is.
    let b = c.args.block.now in
    let h = c.args.heap.now in
    let e = c.read-count.ensures in
    let ws = c.read_slice.new.into in
    let long : length ws ≡ c.read-count.result = omega (arith, c.read_slice.ensures.long, c.deref_mut.ensures.len, c.in_ok-words.ensures.len) in
    let whole : length ws ≡ c.in_ok-words.words.len = omega (arith, c.read_slice.ensures.long, c.deref_mut.ensures.len) in
    take_at ws (drop (length ws) c.in_ok-words.words.items) c.in_ok-words.words.len whole
    ∙ (record-read h c.args.pass.now c.read-count.new.pass c.read_slice.new.pass b c.read-count.result ws c.requires.of c.requires.owned e.of e.called e.contents
    c.read_slice.ensures.found long).2 words is

pub returns-clause-found : goal.returns-clause-found
returns-clause-found c =
    let b = c.args.block.now in
    let h = c.args.heap.now in
    let p = c.args.pass.now in
    let e = c.read-count.ensures in
    let ws : List ℕ = c.read_slice.new.into in
    let long : length ws ≡ c.read-count.result = omega (arith, c.read_slice.ensures.long, c.deref_mut.ensures.len, c.in_ok-words.ensures.len) in
    let whole : length ws ≡ c.in_ok-words.words.len = omega (arith, c.read_slice.ensures.long, c.deref_mut.ensures.len) in
    subst (λ (l : List ℕ). LedBy h p (record_reads b l) c.read_slice.new.pass) (sym (take_at ws (drop (length ws) c.in_ok-words.words.items) c.in_ok-words.words.len whole))
    (record-read h p c.read-count.new.pass c.read_slice.new.pass b c.read-count.result ws c.requires.of c.requires.owned e.of e.called e.contents
    c.read_slice.ensures.found long).1
