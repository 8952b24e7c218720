use Rattle.std.proofs.Common.{ℕ, ◌≡◌, ◌<◌, length, Some, None, Option, sym, ◌∙◌, ap, unwrap_or, get_or, subst, rules}
use Rattle.std.proofs.lemmas.List.{get_or_read}
use Rattle.pool_model.specs.Pool.{Block, block_at, pool_of}
use Rattle.plain_pool.specs.Plain.{PlainState, OwnsWord, pool_in, word_in}
use Rattle.plain_pool.specs.Stored.{IsStored, block_of}
use Rattle.plain_pool.proofs.KeptLemmas.{live-from_stored, kept-word}
use Rattle.plain_pool.proofs.pool.PlainPool.read.Goals as goal

pub index-requires : goal.index-requires
index-requires c =
    let owns : OwnsWord (pool_of c.self.inside.events.items) c.args.caller c.args.place c.args.i =
    subst (λ (s : PlainState). OwnsWord (pool_in s) c.args.caller c.args.place c.args.i) (sym c.self.view_is) c.requires in
    let stored : IsStored c.self.inside.blocks c.args.place c.in-Some.block.now = sym c.in-Some.ensures.value in
    let within : c.args.i < length c.in-Some.block.now.words.items =
    kept-word c.self.inside.geometry c.self.inside.blocks c.self.inside.events.items c.args.caller c.args.place c.args.i
    c.in-Some.block.now c.self.invariant owns stored in
    search rules

pub returns-in-Some : goal.returns-in-Some
returns-in-Some c =
    let owns : OwnsWord (pool_of c.self.inside.events.items) c.args.caller c.args.place c.args.i =
    subst (λ (s : PlainState). OwnsWord (pool_in s) c.args.caller c.args.place c.args.i) (sym c.self.view_is) c.requires in
    let stored : IsStored c.self.inside.blocks c.args.place c.in-Some.block.now = sym c.in-Some.ensures.value in
    let within : c.args.i < length c.in-Some.block.now.words.items =
    kept-word c.self.inside.geometry c.self.inside.blocks c.self.inside.events.items c.args.caller c.args.place c.args.i
    c.in-Some.block.now c.self.invariant owns stored in
    let live : block_at c.args.place (pool_of c.self.inside.events.items) ≡ Some (block_of c.args.place c.in-Some.block.now) =
    live-from_stored c.self.inside.blocks c.self.inside.events.items c.self.invariant.stored c.args.place c.in-Some.block.now stored in
    let word : c.index.result.now ≡ get_or c.in-Some.block.now.words.items c.args.i None =
    get_or_read c.in-Some.block.now.words.items c.args.i c.index.result.now within c.index.ensures None in
    let value : c.unwrap_or.result ≡ word_in (Some (block_of c.args.place c.in-Some.block.now)) c.args.i =
    c.unwrap_or.ensures ∙ ap (λ (o : Option ℕ). unwrap_or o 0) word in
    value ∙ sym (ap (λ (o : Option Block). word_in o c.args.i) live)
    ∙ ap (λ (s : PlainState). word_in (block_at c.args.place (pool_in s)) c.args.i) c.self.view_is
