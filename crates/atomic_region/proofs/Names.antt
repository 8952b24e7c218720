-- The names of the logic that the walks use, in one place.
pub use Rattle.atomic_table.proofs.Names.{◌≡◌, ℕ, ◌+◌, ◌*◌, ◌^◌, ◌<◌, ◌≤◌, List, [], ◌∷◌, length, sym, refl, ap, ◌∙◌, subst, lit<, arith, w64, a_type, dcons, dnil, named, Val, vunit, vint, vptr, vstruct, vcons, vnil, inst_fn, SProp, emp, ent, Lft, Fml, ftrue, fsep, flft, sem, ‵, raw, ◌⊛◌, given, some, later, mean, at_ret, ◌$◌, ◌∵◌, !, qed, by, move, keep, drop, split, split3, join, fsplit, fsplit3, fjoin, fjoin3, fpick, fpack, pick, learn, await, suffices, use0, use1, use2, use3, rewrite, feq_i, flt_i, stop, fld, load, lit, of_opd, unit_lit, bin, no_more, and_then, first, blocks, exec, Calls-last, returns, enter, alloc_all, pass_all, free_all, look_at, get, get_in, through, sets, lands_last, is, env, sub, whole, agg, tables, yes, no, RattleType, owns, Valss, types_at, plain, Ptr, block_ptr, ptr_val, block_of, count_of, at_block, InBlock, nothing, opens, closes, heard, param, bounded, layouts, alive, Stays, stay_dropped, stay_ref, walk_of, Goes-dropped, Goes-ref, fact, fact_i, Coded, via, id⊢, RefOf, u64, usize, mut_vals, mut_Tells, shr_vals, shr_Tells, uint_vals, uint_Tells, unhide, Tuple, shr_bor-open, obor_close, tokens_halve, WpFn}
pub use Rattle.atomic_table.proofs.Walks.{proved, leaves}
pub use Rattle.atomic_table.proofs.Calls.{fm, found, finds, seq_cst, loads, exchanges, swaps, adds, subs, ands, ors, xors, raises, lowers, stores, stored, has_stored}
pub use Rattle.core.proofs.atomic.Steps.{tail}
pub use base.Fml.{fex}
