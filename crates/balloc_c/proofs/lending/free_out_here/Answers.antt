use Rattle.std.proofs.Common.{ℕ, ◌≡◌, Some, refl, sym, ap, ◌∙◌, subst}
use Rattle.std.proofs.lemmas.Option.{same_Some}
use Rattle.balloc_c.specs.declared.kept.Kept.TheVariants as kept
use Rattle.balloc_c.specs.declared.lent.LentBlock.{LentBlock}
use Rattle.balloc_c.specs.Kept.{memory_of}
use Rattle.balloc_c.specs.Laid.{first_of}
use Rattle.balloc_c.specs.Numbers.{number_at}
use Rattle.balloc_c.specs.Slots.{after_at}
use Rattle.balloc_c.specs.Lending.{IsRoomFor}
use Rattle.balloc_c.specs.Tended.{Stands}
use Rattle.balloc_c.proofs.LaidLemmas.{turned-tends}
use Rattle.balloc_c.proofs.LendingLemmas.{same-lent}
use Rattle.balloc_c.proofs.Numbers.{names-itself, some-not-none}
use Rattle.balloc_c.proofs.lending.free_out_here.Goals as goal

pub into_words-requires : goal.into_words-requires
into_words-requires c = let at = c.requires.at in (at.2, at.3)

pub lay-requires-clause-is : goal.lay-requires-clause-is
lay-requires-clause-is c =
    let lent = c.requires.at.0 in
    let at = c.requires.at.1 in
    let t = c.args.table.now in
    (at.is, ap (number_at t) at.is ∙ names-itself t c.args.number (λ none. some-not-none (kept.Out lent) (sym at.names ∙ none)))

pub lay-requires-clause-within : goal.lay-requires-clause-within
lay-requires-clause-within c = c.requires.at.1.within

pub lay-requires-clause-class : goal.lay-requires-clause-class
lay-requires-clause-class c = (c.requires.at.1.bound, c.requires.at.1.some)

pub lay-requires-clause-out : goal.lay-requires-clause-out
lay-requires-clause-out c = (c.requires.at.0, c.requires.at.1.here, c.requires.at.1.small)

pub returns-clause-tends : goal.returns-clause-tends
returns-clause-tends c =
    let h = c.args._heap.now in
    let s = c.args._cache.now in
    let t = c.args.table.now in
    let laid = c.lay.ensures.laid in
    let w = c.requires.at in
    let lent : w.0 ≡ laid.0 = same-lent w.0 laid.0 (sym w.1.here ∙ laid.1) in
    let words : w.2 ≡ c.into_words.result = same_Some w.2 c.into_words.result (sym w.3 ∙ c.into_words.ensures) in
    let room : IsRoomFor h laid.0 c.into_words.result =
    subst (λ (l : LentBlock). IsRoomFor h l c.into_words.result) lent (subst (IsRoomFor h w.0) words w.4) in
    turned-tends h s t.slots.items c.lay.new.self.slots.items c.args.index (kept.Out laid.0) (kept.Laid (memory_of laid.0 c.into_words.result)) c.requires.tends
    laid.1 laid.2 refl (subst (Stands h s.pass) laid.1 (c.requires.tends.stand c.args.index), room)

pub returns-clause-count : goal.returns-clause-count
returns-clause-count c = c.lay.ensures.laid.2.count

pub returns-clause-kept : goal.returns-clause-kept
returns-clause-kept c =
    let w = c.requires.at in
    let at = w.1 in
    let laid = c.lay.ensures.laid in
    let same : w.0 ≡ laid.0 = same-lent w.0 laid.0 (sym at.here ∙ laid.1) in
    record {
      idle = c.requires.idle;
      room = record {
        it = kept.Out laid.0;
        is = at.names ∙ ap (λ (l : LentBlock). Some (kept.Out l)) same;
        class = c.args.class;
        small = ap (λ (l : LentBlock). l.need) (sym same) ∙ at.small;
        some = at.some;
      };
      now = kept.Laid (memory_of laid.0 c.into_words.result);
      becomes = (c.into_words.result, c.into_words.ensures, refl);
      made = refl;
      nothing = refl;
      less = c.lay.ensures.less (λ none. some-not-none (kept.Out w.0) (sym at.names ∙ none));
      ready = laid.3;
      fewer = c.lay.ensures.fewer;
      chain = subst (λ (k : ℕ). after_at c.lay.new.self.slots.items k ≡ first_of c.args.table.now.laid c.args.class) at.is c.lay.ensures.chain;
      still = refl;
    }
