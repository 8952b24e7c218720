-- Each of the three has the things so far, and the map none of the others.
use Rattle.std.proofs.Common.{◌≡◌, ◌≤◌, ℕ, None, vec_len, btree_map_len}
use Rattle.std.specs.Ordering.{nat_cmp}
use Rattle.std.specs.String.{string_len}
use Rattle.std.specs.BTreeMap.{get}
use Rattle.worked_programs.proofs.collections.build.build.Given as goal

abbrev pub invariant-loop-thing : goal.invariant-loop-thing
invariant-loop-thing l = record {
  list : vec_len l.list ≡ l.thing;
  map : btree_map_len l.map ≡ l.thing;
  fresh : (k : ℕ) → l.thing ≤ k → get nat_cmp l.map k ≡ None;
  text : string_len l.text ≡ l.thing;
}
