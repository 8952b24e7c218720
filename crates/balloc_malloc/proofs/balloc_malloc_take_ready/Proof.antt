-- The pointer goes out, and the words with it.
use Rattle.plain_words.proofs.Names.{ℕ, ◌^◌, ◌<◌, List, [], ◌∷◌, refl, ap, w64, named, Val, vint, vptr, SProp, ftrue, flft, ‵, raw, ◌⊛◌, some, later, ◌$◌, ◌∵◌, !, qed, by, move, keep, drop, split, split3, join, pick, fsplit, fsplit3, fjoin, fjoin3, fpack, await, use1, rewrite, feq_i, flt_i, stop, fld, of_opd, no_more, and_then, returns, enter, alloc_all, pass_all, free_all, look_at, get, get_in, through, sets, sub, whole, tables, yes, RattleType, owns, types_at, plain, ptr_val, nothing, opens, closes, heard, Stays, stay_dropped, stay_ref, walk_of, Goes-dropped, Goes-ref, fact, id⊢, usize, mut_vals, mut_Tells, uint_vals, uint_Tells, proved, leaves, full_share, RawPtr}
use Rattle.std.proofs.Common.{w32}
use base.Fml.{fex}
use types.Kit.{feq_l}
use types.Run.{addr, assigns, store}
use types.ByLocal.{lands_as}
use denote.Laws.{shows}
use denote.Memory.{cell_at}
use denote.Steps.{peeks, only}
use denote.Triple.Call.{calls_at}
use denote.Triple.Clauses.{Lasts, lasts}
use denote.Triple.Spec.{triple_of}
use denote.Triple.Walked.{gave_ref, Goes-gave_ref}
use Rattle.std.specs.Prelude.{Option}
use Rattle.std_alloc.proofs.RcSteps.{Ptr-Good}
use Rattle.core.proofs.atomic.Steps.{fm}
use Rattle.plain_words.specs.declared.plain.PlainWords.{PlainWords}
use Rattle.balloc_malloc.specs.Handing.{words_own}
use Rattle.balloc_malloc.specs.Takes.{ServesBy}
use Rattle.balloc_malloc.specs.declared.seat.ThreadSeat.{ThreadSeat}
use Rattle.balloc_malloc.specs.contracts.seat.ThreadSeat as seat
use Rattle.balloc_malloc.specs.contracts.handed.Handed as handed
use Rattle.balloc_malloc.specs.contracts.calls.take_ready as taking
use Rattle.balloc_malloc.proofs.calls.take_ready.Met.{met as takes}
use Rattle.balloc_malloc.specs.contracts.balloc_malloc_take_ready.{ended, clauses}
use Rattle.balloc_malloc.specs.contracts.balloc_malloc_take_ready.Key.{name as #self}
use Rattle.balloc_malloc.proofs.balloc_malloc_take_ready.Statement.{statement}
use Rattle.balloc_malloc.proofs.balloc_malloc_take_ready.Code as code
use Rattle.balloc_malloc.proofs.Values.{bare_told, handed_good}

pub balloc_malloc_take_ready_spec : {M : Type 1} → statement M
balloc_malloc_take_ready_spec 𝓤 𝓛 𝓜 𝓡 wired =
    let H = 𝓛.H in let 𝓣 = tables 𝓤 H 𝓜 𝓡 𝓡.env in let Se : RattleType = seat.the_row in let Hd : RattleType = handed.the_row in let c = clauses 𝓛 𝓜.mem 𝓡.returns in let fn = code.function in
    let one = plain (λ _. Se) in let count = plain (λ _. usize) in let out = plain (λ _. RawPtr) in
    let hs : Stays ended.signature.params ended.kept = (gave_ref (0 ∷ []) tt one, (stay_dropped count yes, (stay_ref (1 ∷ []) tt out, tt))) in
    proved 𝓛 ended hs c 𝓜 𝓡 (Goes-gave_ref 𝓛 2 0 tt one, (Goes-dropped 𝓛 2 count yes (λ κs x f. refl), (Goes-ref 𝓛 2 1 tt out, tt))) #self fn (code.unfolded 𝓤 H 𝓜 𝓡 wired)
    (λ κs. (mut_vals, (uint_vals w64, (mut_vals, tt)))) (λ κs. (mut_Tells (named 0) κs.0 Se, (uint_Tells w64, (mut_Tells (named 1) κs.1.0 RawPtr, tt)))) (λ κs qs bounds a gh are.
    let s = a.0 in let n : ℕ = a.1.0 in let m = a.1.1.0 in let sb : ℕ = s.ref_ptr.0 in let so : ℕ = s.ref_ptr.1 in let mb : ℕ = m.ref_ptr.0 in let mo : ℕ = m.ref_ptr.1 in let was = s.now.held.tenant in
    let y : (walk_of 𝓛 ended hs c).Ghost = ((κs, qs, bounds, a, (vptr sb so ∷ [], (vint w64 n ∷ [], (vptr mb mo ∷ [], tt)))), gh) in let Post : Val → SProp 𝓤 = (walk_of 𝓛 ended hs c).post y in
    let k = triple_of 𝓛 taking.signature (taking.spec 𝓛 𝓜.mem 𝓡.returns) in let z : k.Ghost = (((κs.0, tt), (qs.0, tt), tt, (s, (n, tt)), (vptr sb so ∷ [], (vint w64 n ∷ [], tt))), tt) in
    qed 𝓛 (((‵ (flft κs.0 qs.0) ⊛ ‵ (flft κs.1.0 qs.1.0) ⊛ ‵ ftrue) ⊛ ‵ (owns (types_at ended.signature.params κs) a y.0.4)) ∷ raw ((c κs a).requires gh) ∷ []) ∵
    move ! (1 ∷ []) $ drop ! $ split ! $ split3 ! $ move ! (3 ∷ []) $ fsplit ! $ move ! (1 ∷ []) $ fsplit ! $ move ! (1 ∷ []) $ fsplit ! $ fsplit3 ! $ keep ! (5 ∷ 4 ∷ 6 ∷ 1 ∷ 2 ∷ 7 ∷ []) $
    -- [the seat; the bytes; the token of its loan; two parts of the variable; the token of its loan]
    enter ! 𝓣.C 𝓣.Λ fn (vptr sb so ∷ vint w64 n ∷ vptr mb mo ∷ []) Post $ alloc_all ! (λ l. pass_all ! refl ((tt, tt), ((tt, record { fits = are.1.0.1 }), ((tt, tt), tt))) $
    sets ! (addr ! (through ! refl (stop !))) refl (tt, tt) $
    nothing ! $ move ! (2 ∷ 0 ∷ []) $ fjoin ! $ move ! (1 ∷ 0 ∷ []) $ fjoin ! $ nothing ! $ move ! (2 ∷ 0 ∷ []) $ join ! $ join ! $ nothing ! $ move ! (1 ∷ 0 ∷ []) $ join ! $ use1 𝓛 (raw (k.pre z)) (id⊢ 𝓤 _) $
    calls_at ! (fm 𝓛 𝓜 𝓡) k (takes 𝓤 𝓛 𝓜 𝓡 (code.calls-balloc_malloc::calls::take_ready 𝓡.env wired)) z (and_then ! (get ! refl) (and_then ! (get ! refl) (no_more !))) (λ v.
    let Told : Hd.Denot → ThreadSeat → Type 0 = λ r t. ServesBy was n r.code r.words r.memory t.held.tenant in
    use1 𝓛 (later (some (λ (r : Hd.Denot). ((‵ (flft κs.0 qs.0) ⊛ ‵ ftrue) ⊛ ‵ (Hd.own_val r (v ∷ []))) ⊛ some (λ (ls : Lasts taking.ended (κs.0, tt) z.0.3). ‵ (lasts taking.ended (κs.0, tt) z.0.3 ls) ⊛ raw (fact 𝓤 (Told r ls.0)))))) (id⊢ 𝓤 (k.post z v)) $
    await ! tt $ pick ! (λ r. split ! $ move ! (1 ∷ []) $ pick ! (λ ls. split ! $ move ! (1 ∷ []) $ heard ! (Told r ls.0) (λ told. fsplit ! $ move ! (2 ∷ []) $ split ! $ move ! (1 ∷ []) $
    peeks ! Hd _ (shows 𝓛 Hd) r (v ∷ []) (λ is. let e = (bare_told r.memory r.code (v ∷ []) is.0).0 in let fits : r.code < 2 ^ 32 = (bare_told r.memory r.code (v ∷ []) is.0).1 in
    fsplit ! $ drop ! $
    -- [the words; the token of the seat's loan; the seat's last value; nothing; two parts of the variable; the token of its loan]
    lands_as ! (ap only e) refl (handed_good r.memory r.code fits) $
    sets ! (of_opd ! (get_in ! (fld ! refl (stop !)) (sub ! 0 refl (whole !)))) refl (Ptr-Good r.memory) $ sets ! (of_opd ! (get_in ! (fld ! refl (stop !)) (sub ! 1 refl (whole !)))) refl (tt, record { fits = fits }) $
    move ! (4 ∷ 5 ∷ 6 ∷ []) $ opens ! tt RawPtr mb mo (λ us. move ! (1 ∷ []) $ feq_l ! (λ was_. rewrite ! 0 (λ (ws : List Val). ‵ (cell_at full_share RawPtr.mir ws mb mo)) was_ refl $
    assigns ! (of_opd ! (get ! refl)) (through ! refl (stop !)) (store ! 0 refl (Ptr-Good r.memory)) $ sets ! (of_opd ! (get ! refl)) refl (tt, record { fits = fits }) $
    feq_i ! (List Val) (ptr_val r.memory ∷ []) (ptr_val r.memory ∷ []) refl $ move ! (1 ∷ 0 ∷ []) $ closes ! tt RawPtr r.memory (ptr_val r.memory ∷ []) mb mo $ feq_i ! (List Val) (vptr mb mo ∷ []) (vptr mb mo ∷ []) refl $ fjoin3 ! $
    nothing ! $ move ! (1 ∷ 0 ∷ []) $ fjoin ! $ nothing ! $ fjoin ! $ move ! (4 ∷ 0 ∷ []) $ fjoin ! $ move ! (3 ∷ []) $ split ! $ move ! (3 ∷ 1 ∷ []) $ join ! $ move ! (1 ∷ 0 ∷ []) $ join ! $ move ! (2 ∷ []) $
    let P : Option PlainWords → Type 0 = λ words. ServesBy was n r.code words r.memory ls.0.held.tenant in
    fpack ! (P r.words) (λ _. words_own r.words) told $ fpack ! (Option PlainWords) (λ words. fex (P words) (λ _. words_own words)) r.words $
    flt_i ! r.code (2 ^ 32) fits $ feq_i ! (List Val) (vint w32 r.code ∷ []) (vint w32 r.code ∷ []) refl $ fjoin ! $
    returns ! (look_at ! 0 refl) $ free_all ! refl $ keep ! (2 ∷ 3 ∷ 0 ∷ 1 ∷ []) $ by ! (leaves 𝓛 ended hs c y (vint w32 r.code) r.code (ls.0, (tt, (r.memory, tt))) (tt, (tt, (tt, tt)))))))))))))
