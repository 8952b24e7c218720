use Rattle.std.proofs.Common.{◌≡◌, None, Ok, refl, sym, subst, inl}
use Rattle.balloc_c.specs.Hands.{heap_of}
use Rattle.balloc_c.specs.Lending.{IsBackFor, KeepsBack}
use Rattle.balloc_c.proofs.MemoryCalls.{nothing-left}
use Rattle.balloc_c.proofs.Packing.{few-same}
use Rattle.balloc_c.proofs.hand.Hand.free.Goals as goal

pub returns-in-Some : goal.returns-in-Some
returns-in-Some c =
    let hand = c.args.self.now in
    let r = c.free_here in
    let at = c.in-Some.ensures.2 in
    let back = c.args.back.words in
    let nothing : back ≡ None = subst (λ slot. IsBackFor (heap_of hand) slot back) at.names c.requires.back in
    let left = subst (λ left. KeepsBack hand.cache hand.table c.args.number None (Ok tt) left hand.cache r.new.table) (sym r.ensures.words) r.ensures.kept in
    let kept = subst (λ given. KeepsBack hand.cache hand.table c.args.number given (Ok tt) r.result.words hand.cache r.new.table) (sym nothing) left in (
      Ok tt,
      r.ensures.code,
      nothing-left (Ok tt) r.result.words r.ensures.words,
      (inl kept, refl, refl, few-same hand.table r.new.table r.ensures.count),
    )
