use Rattle.std.proofs.Common.{ℕ, ◌≡◌, ◌+◌, ◌++◌, ◌∷◌, [], List, length, length-append, sym, ap, ◌∙◌, subst, arith, append_assoc, append-nil}
use Rattle.std.specs.List.{AllZip}
use Rattle.heap_geometry.specs.Need.{need_of}
use Rattle.live_heap.specs.declared.block.Block.{Block}
use Rattle.live_heap.specs.Holdings.{HoldsExactly}
use Rattle.live_heap.proofs.laws_for_builders.AllBlocks.{order-exact}
use Rattle.typed_store.specs.Nodes.{tokens_in}
use Rattle.typed_store.specs.Records.{IsRecord}
use Rattle.typed_store.specs.Stores.{blocks_of}
use Rattle.typed_store.proofs.PassLemmas.{blank-need}
use Rattle.typed_store.proofs.RecordLemmas.{zip-push}
use Rattle.typed_store.proofs.StayLemmas.{same-away}
use Rattle.typed_store.proofs.StoreLemmas.{list-stays, words-stay}
use Rattle.typed_store.proofs.store.Store.file.Goals as goal

pub returns-clause-list : goal.returns-clause-list
returns-clause-list c = λ pairs has.
    let s = c.args.self.now in
    let q = c.write_record.new.pass in
    list-stays s q pairs (same-away s.pass q c.args.block.place c.write_record.ensures.others (blocks_of s) c.requires.exactly.0.1) has

pub returns-clause-records : goal.returns-clause-records
returns-clause-records c = λ records has.
    let s = c.args.self.now in
    let q = c.write_record.new.pass in
    let words = c.args.words.now in
    let same = same-away s.pass q c.args.block.place c.write_record.ensures.others (blocks_of s) c.requires.exactly.0.1 in
    let old = words-stay s q records same has in
    let long = length-append records (words ∷ []) in (
      subst (λ (l : List Block). AllZip (λ block words. IsRecord q block words) l (records ++ words ∷ [])) (sym c.push_reserved.ensures.items)
          (zip-push (λ block words. IsRecord q block words) s.records.items records c.args.block words old.0 c.write_record.ensures.record),
      omega (arith, old.1, long),
    )

-- the block was given for these words and how many they are
abbrev Serves : Block → List ℕ → Type 0
Serves block words = block.need ≡ need_of (length words + 1)

pub returns-clause-ready : goal.returns-clause-ready
returns-clause-ready c =
    let s = c.args.self.now in
    let q = c.write_record.new.pass in
    let b = c.requires.built in
    let block = c.args.block in
    let rests = c.write_record.ensures.rests in
    let held = rests.hand (block ∷ blocks_of s) c.requires.exactly in
    let last : HoldsExactly q (blocks_of s ++ block ∷ []) =
    (order-exact q (blocks_of s) [] block).1 (subst (λ (l : List Block). HoldsExactly q (block ∷ l)) (sym (append-nil (blocks_of s))) held) in
    let now : blocks_of s ++ block ∷ [] ≡ tokens_in s.slots.items ++ c.push_reserved.new.self.items =
    append_assoc (tokens_in s.slots.items) s.records.items (block ∷ []) ∙ ap (λ (l : List Block). tokens_in s.slots.items ++ l) (sym c.push_reserved.ensures.items) in
    record {
      of = rests.of;
      idle = rests.idle;
      exactly = subst (HoldsExactly q) now last;
      built = record {
        pairs = b.pairs;
        list = returns-clause-list c b.pairs b.list;
        nodes = b.nodes;
        words = b.words ++ c.args.words.now ∷ [];
        records = returns-clause-records c b.words b.records;
        sized = (
          b.sized.0,
          subst (λ (l : List Block). AllZip Serves l (b.words ++ c.args.words.now ∷ [])) (sym c.push_reserved.ensures.items)
              (zip-push Serves s.records.items b.words block c.args.words.now b.sized.1
              (blank-need s.pass block s.pass.errand.caller (length c.args.words.now + 1) c.requires.exactly.0.0 c.requires.blank)),
        );
        spare = b.spare;
      };
    }
