use Rattle.std.proofs.Common.{suc, ◌≡◌, [], ◌-◌, ◌++◌, ◌∷◌, List, length, sym, ap, ◌∙◌, subst, arith}
use Rattle.std.specs.Prelude.{All}
use Rattle.std.proofs.lemmas.List.Elements.{All-cons, All-nil}
use Rattle.heap_geometry.specs.Need.{need_of}
use Rattle.live_heap.specs.declared.block.Block.{Block}
use Rattle.live_heap.specs.Contents.{owned_in}
use Rattle.live_heap.specs.Holdings.{HoldsExactly}
use Rattle.typed_store.specs.declared.slot.Slot.{Slot}
use Rattle.typed_store.specs.declared.slot.Slot.TheVariants.{Node, Spare}
use Rattle.typed_store.specs.Nodes.{IsSpare, Spells, tokens_in}
use Rattle.typed_store.specs.Stores.{blocks_of}
use Rattle.typed_store.proofs.PassLemmas.{blank-need}
use Rattle.typed_store.proofs.SlotLemmas.{all-set, length-set}
use Rattle.typed_store.proofs.StayLemmas.{same-away, same-front}
use Rattle.typed_store.proofs.StoreLemmas.{exact-in, list-linked, more-tokens, spare-has, spare-in, words-stay}
use Rattle.typed_store.proofs.store.Store.link.Goals as goal

pub put_in-self-requires-clause-spare : goal.put_in-self-requires-clause-spare
put_in-self-requires-clause-spare c =
    let s = c.args.self.now in
    let has = spare-has s.slots.items s.unused c.requires.built.spare c.requires.room in
    (has.next, has.there)

pub returns-clause-list : goal.returns-clause-list
returns-clause-list c = λ pairs has.
    let s = c.args.self.now in
    let q = c.write_node.new.pass in
    let put = c.put_in-self.ensures in
    let same = same-away s.pass q c.args.block.place c.write_node.ensures.others (blocks_of s) c.requires.exactly.0.1 in
    let tokens = same-front s.pass q (tokens_in s.slots.items) s.records.items same in
    let spelled =
    list-linked s.pass q s.slots.items s.unused s.head c.put_in-self.new.unused c.args.key c.args.value c.args.block pairs c.requires.room put.was
    c.write_node.ensures.node tokens has.0 in (
      subst (λ n. Spells (owned_in q) c.put_in-self.new.slots.items n ((c.args.key, c.args.value) ∷ pairs)) (sym put.number)
          (subst (λ (l : List Slot). Spells (owned_in q) l s.unused ((c.args.key, c.args.value) ∷ pairs)) (sym put.slots) spelled),
      omega (arith, has.1),
    )

pub returns-clause-records : goal.returns-clause-records
returns-clause-records c = λ records has.
    let s = c.args.self.now in
    let q = c.write_node.new.pass in
    words-stay s q records (same-away s.pass q c.args.block.place c.write_node.ensures.others (blocks_of s) c.requires.exactly.0.1) has

pub returns-clause-ready : goal.returns-clause-ready
returns-clause-ready c =
    let s = c.args.self.now in
    let q = c.write_node.new.pass in
    let put = c.put_in-self.ensures in
    let rests = c.write_node.ensures.rests in
    let b = c.requires.built in
    let slot = s.unused - 1 in
    let same = same-away s.pass q c.args.block.place c.write_node.ensures.others (blocks_of s) c.requires.exactly.0.1 in
    let held =
    exact-in q s.slots.items slot c.put_in-self.new.unused c.args.block s.records.items put.was (rests.hand (c.args.block ∷ blocks_of s) c.requires.exactly) in
    let more = more-tokens s.slots.items slot c.put_in-self.new.unused c.args.block put.was in
    record {
      of = rests.of;
      idle = rests.idle;
      exactly = subst (λ (l : List Slot). HoldsExactly q (tokens_in l ++ s.records.items)) (sym put.slots) held;
      built = record {
        pairs = (c.args.key, c.args.value) ∷ b.pairs;
        list = returns-clause-list c b.pairs b.list;
        nodes = ap (λ (l : List Slot). length (tokens_in l)) put.slots ∙ (more ∙ ap suc b.nodes);
        words = b.words;
        records = words-stay s q b.words same b.records;
        sized = (
          subst (λ (l : List Slot). All (λ (x : Block). x.need ≡ need_of 3) (tokens_in l)) (sym put.slots)
              (all-set (λ (x : Block). x.need ≡ need_of 3) s.slots.items slot (Spare c.put_in-self.new.unused) (Node c.args.block) put.was b.sized.0
              (All-cons (λ (x : Block). x.need ≡ need_of 3) c.args.block []
              (blank-need s.pass c.args.block s.pass.errand.caller 3 c.requires.exactly.0.0 c.requires.blank)
              (All-nil (λ (x : Block). x.need ≡ need_of 3)))),
          b.sized.1,
        );
        spare =
            subst (λ (l : List Slot). IsSpare l c.put_in-self.new.unused) (sym put.slots)
            (spare-in s.slots.items s.unused c.put_in-self.new.unused c.args.block b.spare c.requires.room put.was);
      };
    }

pub returns-clause-slots : goal.returns-clause-slots
returns-clause-slots c =
    let s = c.args.self.now in
    ap (λ (l : List Slot). length l) c.put_in-self.ensures.slots ∙ length-set s.slots.items (s.unused - 1) (Node c.args.block)
