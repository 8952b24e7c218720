-- A `&` to a cell is a borrow of all of it, which only the thread's token opens. Assumes `Logic`.
use mathlib.Core.List.{[], ◌∷◌}
use base.Fraction.{full_share}
use base.Fml.{Fml, fbor}
use types.Logic.{lfts}
use types.Kit.{‵, raw, later, ◌$◌, ◌∵◌, !, qed, use1, await, updating, now, done}
use types.Na.{na_bor, bor_na}
use denote.Memory.{part_at, part_of}
use denote.Hidden.{guarded_shr_laws}
use Rattle.heap_allocator.specs.contracts.slot.Slot.{the_written}
use Rattle.heap_allocator.proofs.slot.Slot.TheLaw.Statement.{statement}

pub shares : statement
unfolding part_of
shares = record {
  shr_laws = λ h b o. guarded_shr_laws (b, o) (part_at the_written full_share h b o);
  shares = λ M 𝓤 𝓛 h κ ts b o inc sp.
      let all : Fml = part_at the_written full_share h b o in
      qed 𝓛 (‵ (fbor κ all) ∷ raw (lfts 𝓛 ts) ∷ []) ∵ updating ! $
      use1 𝓛 (later (‵ (na_bor κ (b, o) all))) (bor_na 𝓛 κ (b, o) all) $ await ! tt $ now ! $ done !;
}
