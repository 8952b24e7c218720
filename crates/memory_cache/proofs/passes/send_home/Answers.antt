use Rattle.std.proofs.Common.{ℕ, List, replicate, ◌≡◌, ◌∙◌, ap, sym, subst}
use Rattle.live_heap.specs.declared.block.Block.{Block}
use Rattle.live_heap.specs.Memory.{before_taking, writes_from}
use Rattle.live_heap.specs.Answers.{FreeTells}
use Rattle.live_heap.specs.Passes.{IsHome}
use Rattle.live_heap.specs.Words.{CallsOnWord}
use Rattle.sound_laws.specs.events.Made.{LeadsBy}
use Rattle.plain_words.specs.Places.{numbers}
use Rattle.heap_geometry.specs.Need.{usable_words}
use Rattle.memory_cache.specs.Asking.{free_told}
use Rattle.memory_cache.proofs.SettledLemmas.{at-once, home-only, home-settled, taken-on, writes-caller}
use Rattle.memory_cache.proofs.passes.send_home.Goals as goal

pub free-requires-clause-settled : goal.free-requires-clause-settled
free-requires-clause-settled c =
    let h = c.args.heap.now in
    let p = c.args.pass.now in
    let q = c.bring_home-block.new.pass in
    let m = c.laid_with_zeros-memory.result in
    let b = c.bring_home-block.result in
    let x = c.bring_home-block.ensures in
    let ns = numbers m.words.places in
    let wrote : LeadsBy (CallsOnWord h) (before_taking p b.place) (writes_from b.place b.need 0 ns) q =
    subst (λ (k : Block). LeadsBy (CallsOnWord h) (before_taking p k.place) (writes_from k.place k.need 0 ns) q) (sym x.block) x.wrote in
    home-settled h p q b.place b.need ns c.requires.settled.out x.of x.idle x.owned wrote

pub returns-clause-keeps : goal.returns-clause-keeps
returns-clause-keeps c other taken ne =
    let same = ap (λ (b : Block). b.place) c.laid_with_zeros-memory.ensures.block in
    taken-on c.bring_home-block.new.pass c.free.new.pass other c.free.ensures.out
    (c.bring_home-block.ensures.others other taken (λ there. ne (there ∙ same)))

pub returns-clause-only : goal.returns-clause-only
returns-clause-only c other taken =
    let h = c.args.heap.now in
    let p = c.args.pass.now in
    let q = c.bring_home-block.new.pass in
    let m = c.laid_with_zeros-memory.result in
    let b = c.bring_home-block.result in
    let x = c.bring_home-block.ensures in
    let there : b.place ≡ m.block.place = ap (λ (k : Block). k.place) x.block in
    let same : m.block.place ≡ c.args.memory.block.place = ap (λ (k : Block). k.place) c.laid_with_zeros-memory.ensures.block in
    let only =
    home-only h p q m.block.place m.block.need (numbers m.words.places) other (subst (IsHome q) there x.owned.1) x.wrote
    (taken-on c.free.new.pass q other (sym c.free.ensures.out) taken) in
    (only.0, λ here. only.1 (here ∙ sym same))

pub returns-clause-sent : goal.returns-clause-sent
returns-clause-sent c =
    let h = c.args.heap.now in
    let p = c.args.pass.now in
    let q = c.bring_home-block.new.pass in
    let memory = c.args.memory in
    let m = c.laid_with_zeros-memory.result in
    let b = c.bring_home-block.result in
    let x = c.bring_home-block.ensures in
    let l = c.laid_with_zeros-memory.ensures in
    let zeros = replicate (usable_words memory.block.need) 0 in
    let wrote : LeadsBy (CallsOnWord h) (before_taking p m.block.place) (writes_from m.block.place m.block.need 0 zeros) q =
    subst (λ (ns : List ℕ). LeadsBy (CallsOnWord h) (before_taking p m.block.place) (writes_from m.block.place m.block.need 0 ns) q) l.zeros x.wrote in
    record {
      settled = p;
      has_settled = at-once h p c.args.tries c.requires.settled;
      home = q;
      wrote =
          subst (λ (k : Block). LeadsBy (CallsOnWord h) (before_taking p k.place) (writes_from k.place k.need 0 zeros) q) l.block wrote;
      told = free_told c.free.result;
      frees =
          subst (λ (k : Block). FreeTells q k c.args.tries (free_told c.free.result) c.free.new.pass) (x.block ∙ l.block) c.free.ensures.tells;
    }

pub returns-clause-caller : goal.returns-clause-caller
returns-clause-caller c =
    let p = c.args.pass.now in
    let m = c.laid_with_zeros-memory.result in
    c.free.ensures.caller
    ∙ writes-caller c.args.heap.now m.block.place m.block.need 0 (numbers m.words.places) (before_taking p m.block.place) c.bring_home-block.new.pass
    c.bring_home-block.ensures.wrote
