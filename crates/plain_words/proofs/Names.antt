-- The names of the logic that the walks use, in one place.
pub use Rattle.atomic_table.proofs.Names.{◌≡◌, ℕ, ◌+◌, ◌-◌, ◌*◌, ◌^◌, ◌<◌, ◌≤◌, ◌++◌, List, [], ◌∷◌, length, sym, refl, ap, ◌∙◌, subst, arith, w64, a_type, dcons, dnil, named, Val, vunit, vint, vptr, vstruct, vcons, vnil, inst_fn, SProp, emp, ent, Lft, Fml, ftrue, fsep, flft, sem, ‵, raw, ◌⊛◌, given, some, later, at_ret, ◌$◌, ◌∵◌, !, qed, by, move, keep, drop, split, split3, join, fsplit, fsplit3, fjoin, fjoin3, fpick, fpack, pick, learn, await, suffices, use0, use1, use2, use3, rewrite, feq_i, flt_i, stop, fld, lit, of_opd, unit_lit, bin, no_more, and_then, first, blocks, exec, returns, enter, alloc_all, pass_all, free_all, look_at, get, get_in, through, sets, is, env, sub, whole, agg, tables, yes, no, RattleType, owns, Valss, types_at, plain, Ptr, block_ptr, ptr_val, block_of, count_of, at_block, InBlock, nothing, opens, closes, heard, param, bounded, alive, Stays, stay_dropped, stay_ref, walk_of, Goes-dropped, Goes-ref, fact, fact_i, Coded, via, id⊢, RefOf, u64, usize, mut_vals, mut_Tells, shr_vals, shr_Tells, uint_vals, uint_Tells, unhide, Tuple, WpFn}
pub use Rattle.atomic_table.proofs.Walks.{proved, leaves}
pub use Rattle.core.proofs.atomic.Steps.{tail}
pub use base.Logic.{all, all_e, apply∗, sep, wand}
pub use base.Fraction.{full_share}
pub use base.Fml.{fat, froom, fwand}
pub use types.Kit.{group, frame}
pub use types.Run.{init, assigns_last}
pub use types.ByLocal.{take_at, give_at, sets_last}
pub use denote.RawPtr.{RawPtr}
pub use types.Kit.{any_q, done}
pub use mir.Syntax.{Body}
pub use prog.Wp.{Env}
