-- Words may go to another thread, and a deed may where its allocator frees from any.
use Rattle.std.proofs.Common.{ℕ, zero, suc, ◌+◌, ◌*◌, ◌%◌, List, [], ◌∷◌}
use Rattle.std.specs.Prelude.{Some, None}
use base.Fraction.{full_share}
use base.Fml.{Fml}
use base.Shift.{Keyless}
use denote.Builtin.{u64}
use denote.RattleType.{RattleType}
use denote.RawPtr.{Ptr, block_of, count_of}
use denote.Struct.Struct.{exits_of}
use denote.Struct.Owning.{shape, fields, to}
use denote.Param.Send.{IsSend, IsSync, Common, AllSend, part_keyless, owning_send, struct_send, struct_sync, sendable}
use Rattle.core.specs.declared.alloc.Allocator.{Ghosts}
use Rattle.std_alloc.proofs.SendSync.{FreesAnywhere, quiet}
use Rattle.plain_words.specs.Places.{Place}
use Rattle.plain_words.specs.Owned.{place, pairs_up, if_odd, mate, row, place_lent, row_lent, plain_owns, plain_lent}
use Rattle.plain_words.specs.contracts.block.Deed as deed

word_send : IsSend u64
word_send = search sendable

word_sync : IsSync u64
word_sync = search sendable

pub place_keyless : (b o : ℕ) (p : Place) → Keyless (place b o p)
place_keyless b o None = tt
place_keyless b o (Some None) = tt
place_keyless b o (Some (Some n)) = part_keyless u64 word_send full_share n b o

if_odd_keyless : (n : ℕ) (φ : Fml) → Keyless φ → Keyless (if_odd n φ)
if_odd_keyless zero φ k = tt
if_odd_keyless (suc n) φ k = k

mate_keyless : (b c k : ℕ) (p : Place) → Keyless (mate b c k p)
mate_keyless b c k None = tt
mate_keyless b c k (Some p) = if_odd_keyless (k % 2) (pairs_up b (k * 8 + c)) ((tt, tt), tt)

pub row_keyless : (b c k : ℕ) (ps : List Place) → Keyless (row b c k ps)
row_keyless b c k [] = tt
row_keyless b c k (p ∷ ps) = ((place_keyless b (k * 8 + c) p, mate_keyless b c k p), row_keyless b c (suc k) ps)

pub plain_keyless : (p : Ptr) (k : ℕ) (ps : List Place) → Keyless (plain_owns p k ps)
plain_keyless p k ps = ((λ _. tt), row_keyless (block_of p) (count_of p) k ps)

place_common : (b o : ℕ) (p : Place) → Common (place_lent b o p)
place_common b o None κ = tt
place_common b o (Some None) κ = tt
place_common b o (Some (Some n)) κ = word_sync.shared n b o κ

row_common : (b c k : ℕ) (ps : List Place) → Common (row_lent b c k ps)
row_common b c k [] κ = tt
row_common b c k (p ∷ ps) κ = (place_common b (k * 8 + c) p κ, row_common b c (suc k) ps κ)

pub plain_common : (p : Ptr) (k : ℕ) (ps : List Place) → Common (plain_lent p k ps)
plain_common p k ps κ = ((λ _. tt), row_common (block_of p) (count_of p) k ps κ)

module _ (A : RattleType) (g : Ghosts A.Denot) where
  pub deed_send : FreesAnywhere A.Denot g → IsSend (deed.the_row A g)
  deed_send f =
      let O = deed.the_type A g in let all : AllSend (fields O) = (search sendable, tt) in
      owning_send O all (λ d. ((λ _. tt), (tt, (((tt, tt), tt), f.frees d.alloc _ d.block)))) (λ k. quiet (to O) (exits_of k (fields O)) ((struct_send (shape O) all).leaving k))

  pub deed_sync : IsSync (deed.the_row A g)
  deed_sync = let O = deed.the_type A g in record { shared = λ d b o κ. ((struct_sync (shape O) (search sendable, tt)).shared (to O d) b o κ, tt) }
