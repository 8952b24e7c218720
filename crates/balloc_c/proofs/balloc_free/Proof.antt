-- The words that are out come in, and go out again where they are C's still.
use Rattle.plain_words.proofs.Names.{◌≡◌, ℕ, ◌^◌, ◌<◌, List, [], ◌∷◌, refl, ap, named, Val, vint, vptr, SProp, emp, ‵, raw, ◌⊛◌, some, later, ◌$◌, ◌∵◌, !, qed, by, move, keep, drop, split, join, pick, fsplit, fjoin, fpack, await, use0, use1, feq_i, flt_i, stop, fld, lit, of_opd, no_more, and_then, returns, enter, alloc_all, pass_all, free_all, look_at, get, get_in, through, sets, sub, whole, agg, tables, yes, RattleType, owns, types_at, plain, nothing, heard, alive, Stays, stay_dropped, walk_of, Goes-dropped, fact, fact_i, id⊢, mut_vals, mut_Tells, uint_vals, uint_Tells, u64, w64, proved, leaves}
use Rattle.std.proofs.Common.{w32}
use lib.Dec.{lit<}
use base.Fml.{fex}
use types.Run.{addr, neg_lit}
use types.ByLocal.{lands_as}
use denote.Laws.{shows}
use denote.RawPtr.{null_ptr}
use denote.Steps.{peeks, only}
use denote.Triple.Call.{calls_at}
use denote.Triple.Clauses.{Lasts, lasts}
use denote.Triple.Spec.{triple_of}
use denote.Triple.Walked.{gave_ref, Goes-gave_ref}
use Rattle.std.specs.Prelude.{Option}
use Rattle.core.proofs.atomic.Steps.{fm}
use Rattle.plain_words.specs.declared.plain.PlainWords.{PlainWords}
use Rattle.balloc_c.specs.Handled.{FreesBy, IsBackOf}
use Rattle.balloc_c.specs.Handing.{words_own}
use Rattle.balloc_c.specs.declared.refusal.Refusal.TheVariants as refusal
use Rattle.balloc_c.specs.Codes.{code_of, word_of}
use Rattle.balloc_c.specs.declared.handle.PassHandle.{PassHandle}
use Rattle.balloc_c.specs.contracts.handle.PassHandle as handle
use Rattle.balloc_c.specs.contracts.handed.Handed as handed
use Rattle.balloc_c.specs.contracts.handled.free as giving
use Rattle.balloc_c.proofs.handled.free.Met.{met as gives}
use Rattle.balloc_c.specs.contracts.balloc_free.{ended, clauses}
use Rattle.balloc_c.specs.contracts.balloc_free.Key.{name as #self}
use Rattle.balloc_c.proofs.balloc_free.Statement.{statement}
use Rattle.balloc_c.proofs.balloc_free.Code as code
use Rattle.balloc_c.proofs.Values.{handed_val, Bare, bare_told, bare_made, handed_good}

pub balloc_free_spec : {M : Type 1} → statement M
balloc_free_spec 𝓤 𝓛 𝓜 𝓡 wired =
    let H = 𝓛.H in let 𝓣 = tables 𝓤 H 𝓜 𝓡 𝓡.env in let Se : RattleType = handle.the_row in let Hd : RattleType = handed.the_row in let c = clauses 𝓛 𝓜.mem 𝓡.returns in let fn = code.function in
    let one = plain (λ _. Se) in let number = plain (λ _. u64) in
    let hs : Stays ended.signature.params ended.kept = (gave_ref (0 ∷ []) tt one, (stay_dropped number yes, tt)) in
    proved 𝓛 ended hs c 𝓜 𝓡 (Goes-gave_ref 𝓛 1 0 tt one, (Goes-dropped 𝓛 1 number yes (λ κs x f. refl), tt)) #self fn (code.unfolded 𝓤 H 𝓜 𝓡 wired)
    (λ κs. (mut_vals, (uint_vals w64, tt))) (λ κs. (mut_Tells (named 0) κs.0 Se, (uint_Tells w64, tt))) (λ κs qs bounds a gh are.
    let s = a.0 in let n : ℕ = a.1.0 in let back : Option PlainWords = gh in let sb : ℕ = s.ref_ptr.0 in let so : ℕ = s.ref_ptr.1 in let was = s.now.held.hand in let busy : 4294967291 < 2 ^ 32 = lit< tt in let fits_n : n < 2 ^ 64 = are.1.0.1 in
    let y : (walk_of 𝓛 ended hs c).Ghost = ((κs, qs, bounds, a, (vptr sb so ∷ [], (vint w64 n ∷ [], tt))), gh) in let Post : Val → SProp 𝓤 = (walk_of 𝓛 ended hs c).post y in
    let h : Hd.Denot = record { memory = null_ptr; code = 4294967291; words = back } in
    let k = triple_of 𝓛 giving.signature (giving.spec 𝓛 𝓜.mem 𝓡.returns) in let z : k.Ghost = ((κs, qs, bounds, (s, (n, (h, tt))), (vptr sb so ∷ [], (vint w64 n ∷ [], (handed_val null_ptr 4294967291 ∷ [], tt)))), tt) in
    let Asked : Type 0 = IsBackOf was n back in
    qed 𝓛 ((raw (alive 𝓛 ended.signature κs qs) ⊛ ‵ (owns (types_at ended.signature.params κs) a y.0.4)) ∷ raw (fact 𝓤 Asked) ∷ ‵ (words_own back) ∷ []) ∵
    move ! (1 ∷ []) $ heard ! Asked (λ asked. split ! $ move ! (1 ∷ []) $ fsplit ! $ keep ! (3 ∷ 0 ∷ 2 ∷ []) $
    -- [the words; the pass; the token of its loan]
    enter ! 𝓣.C 𝓣.Λ fn (vptr sb so ∷ vint w64 n ∷ []) Post $ alloc_all ! (λ l. pass_all ! refl ((tt, tt), ((tt, record { fits = fits_n }), tt)) $
    sets ! (agg ! (and_then ! (lit ! tt) (and_then ! (neg_lit ! tt) (no_more !)))) refl (handed_good null_ptr 4294967291 busy) $ sets ! (addr ! (through ! refl (stop !))) refl (tt, tt) $
    use0 𝓛 (‵ (Bare.own_val (null_ptr, (4294967291, tt)) (handed_val null_ptr 4294967291 ∷ []))) (bare_made 𝓛 null_ptr 4294967291 busy) $ fjoin ! $ nothing ! $ move ! (1 ∷ 0 ∷ []) $ fjoin ! $
    flt_i ! n (2 ^ 64) fits_n $ feq_i ! (List Val) (vint w64 n ∷ []) (vint w64 n ∷ []) refl $ fjoin ! $ fjoin ! $ move ! (1 ∷ 0 ∷ []) $ fjoin ! $ move ! (1 ∷ 0 ∷ []) $ join ! $
    let Req : Type 0 = IsBackOf was n back × (h.code ≡ word_of (code_of refusal.InCall)) in
    use0 𝓛 (raw (fact 𝓤 Req)) (fact_i 𝓤 Req (emp 𝓤) (asked, refl)) $ move ! (1 ∷ 0 ∷ []) $ join ! $ use1 𝓛 (raw (k.pre z)) (id⊢ 𝓤 _) $
    calls_at ! (fm 𝓛 𝓜 𝓡) k (gives 𝓤 𝓛 𝓜 𝓡 (code.calls-balloc_c::handled::free 𝓡.env wired)) z (and_then ! (get ! refl) (and_then ! (get ! refl) (and_then ! (get ! refl) (no_more !)))) (λ v.
    let Told : Hd.Denot → PassHandle → Type 0 = λ r t. FreesBy was n back r.code r.words t.held.hand in
    use1 𝓛 (later (some (λ (r : Hd.Denot). (raw (alive 𝓛 ended.signature κs qs) ⊛ ‵ (Hd.own_val r (v ∷ []))) ⊛ some (λ (ls : Lasts giving.ended κs z.0.3). ‵ (lasts giving.ended κs z.0.3 ls) ⊛ raw (fact 𝓤 (Told r ls.0)))))) (id⊢ 𝓤 (k.post z v)) $
    await ! tt $ pick ! (λ r. split ! $ move ! (1 ∷ []) $ pick ! (λ ls. split ! $ move ! (1 ∷ []) $ heard ! (Told r ls.0) (λ told. move ! (1 ∷ []) $ split ! $ move ! (1 ∷ []) $
    peeks ! Hd _ (shows 𝓛 Hd) r (v ∷ []) (λ is. let e = (bare_told r.memory r.code (v ∷ []) is.0).0 in let fits : r.code < 2 ^ 32 = (bare_told r.memory r.code (v ∷ []) is.0).1 in
    fsplit ! $ drop ! $
    move ! (2 ∷ []) $ fsplit ! $ move ! (1 ∷ []) $ drop ! $ nothing ! $ nothing ! $ fjoin ! $ move ! (1 ∷ 0 ∷ []) $ fjoin ! $ move ! (1 ∷ 2 ∷ []) $
    -- [the words; the token; the pass's last value]
    lands_as ! (ap only e) refl (handed_good r.memory r.code fits) $
    sets ! (of_opd ! (get_in ! (fld ! refl (stop !)) (sub ! 1 refl (whole !)))) refl (tt, record { fits = fits }) $ sets ! (of_opd ! (get ! refl)) refl (tt, record { fits = fits }) $
    let P : Option PlainWords → Type 0 = λ words. FreesBy was n back r.code words ls.0.held.hand in
    fpack ! (P r.words) (λ _. words_own r.words) told $ fpack ! (Option PlainWords) (λ words. fex (P words) (λ _. words_own words)) r.words $
    flt_i ! r.code (2 ^ 32) fits $ feq_i ! (List Val) (vint w32 r.code ∷ []) (vint w32 r.code ∷ []) refl $ fjoin ! $
    returns ! (look_at ! 0 refl) $ free_all ! refl $ keep ! (2 ∷ 3 ∷ 0 ∷ 1 ∷ []) $ by ! (leaves 𝓛 ended hs c y (vint w32 r.code) r.code (ls.0, (tt, tt)) (tt, (tt, tt)))))))))))
