use Rattle.std.proofs.Common.{◌≡◌, [], length, vec_capacity}
use Rattle.block_cache.specs.Magazines.{AreMagazines, all_in, stacks_of}
use Rattle.block_cache.proofs.magazines.Magazines.new.Given as goal

abbrev pub invariant-loop-class : goal.invariant-loop-class
invariant-loop-class g l = record {
  len : length l.stacks.items ≡ l._class;
  room : vec_capacity l.stacks ≡ vec_capacity l.initial.stacks;
  each : AreMagazines g.T.Kept.need_of 0 l.depth l.stacks.items;
  empty : all_in (stacks_of l.stacks.items) ≡ [];
}
