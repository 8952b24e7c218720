-- All the words are lent as a slice, and the token follows it. Assumes `Logic`.
use Rattle.plain_words.proofs.Names.{◌≡◌, ℕ, ◌+◌, ◌*◌, ◌^◌, ◌<◌, List, [], ◌∷◌, length, sym, refl, ap, ◌∙◌, subst, arith, w64, named, Val, vint, vptr, SProp, emp, ent, Lft, Fml, ftrue, fsep, flft, sem, ‵, raw, ◌⊛◌, some, later, at_ret, ◌$◌, ◌∵◌, !, qed, by, move, keep, drop, split, join, fsplit, fsplit3, fjoin, fpick, fpack, pick, await, suffices, use0, use1, use2, rewrite, stop, fld, lit, of_opd, bin, no_more, and_then, first, blocks, exec, returns, enter, alloc_all, pass_all, free_all, look_at, get, get_in, sets, env, sub, whole, agg, tables, yes, no, RattleType, owns, types_at, plain, Ptr, block_ptr, block_of, count_of, at_block, nothing, opens, heard, Stays, stay_dropped, walk_of, Goes-dropped, fact, fact_i, id⊢, u64, usize, mut_vals, mut_Tells, uint_vals, uint_Tells, proved, leaves, tail, sep, full_share, done, fat, group, take_at, give_at, sets_last, RawPtr}
use Rattle.plain_words.proofs.Made.{Token, start_val, start_told, start_good}
use Rattle.plain_words.specs.contracts.plain.PlainWords as plain_words
use Rattle.plain_words.specs.contracts.plain.PlainWords.slice_mut.{ended, clauses}
use Rattle.plain_words.specs.contracts.plain.PlainWords.slice_mut.Key.{name as #self}
use Rattle.plain_words.proofs.plain.PlainWords.slice_mut.Statement.{statement}
use Rattle.plain_words.proofs.plain.PlainWords.slice_mut.Code as code
use lib.Seq.{take_at as take_front}
use seplogic.Ra.Ura.{Ura}
use Rattle.std.proofs.lemmas.List.{length-map}
use Rattle.std.specs.List.{refill}
use base.Fml.{GName}
use types.Logic.{Logic}
use types.SemTy.{cells}
use denote.Array.{Array}
use denote.Follow.{follows}
use denote.FollowSlice.{Elements, lends_Elements}
use denote.Memory.{mem, cell_at, part_of}
use denote.Param.{layout}
use denote.Ref.{MutBor}
use denote.Signature.{mut_ref_to}
use denote.Slice.{MutSlice, slice_val}
use denote.Triple.Walked.{Goes-spent_ref}
use Rattle.std.proofs.Common.{drop as drop_l}
use Rattle.plain_words.specs.Places.{Place, laid, laids, numbers}
use Rattle.plain_words.specs.Owned.{Lies, row}
use Rattle.plain_words.specs.Lends.{with_words}
use Rattle.plain_words.specs.contracts.plain.Start as start
use Rattle.plain_words.proofs.Rows.{mates, to_cells, of_cells}

abbrev Pw : RattleType
Pw = plain_words.the_row

module _ {M : Type 1} {𝓤 : Ura M} (𝓛 : Logic 𝓤) (w : (Pw).Denot) (rb ro : ℕ) (vs : List Val) where
  -- what goes with the words, and the token itself, where it lies
  abbrev Rest : Fml
  Rest = fsep (mates 𝓛 (block_of w.at) (count_of w.at) w.first (length w.places)) (fsep ((Token RawPtr).own_val (record {}, tt) vs) (cell_at full_share (Pw).mir vs rb ro))

  back : Lies w.at (w.first + length w.places) → (e : ℕ) → e ≡ w.first * 8 + count_of w.at → (ws : List ℕ) → length ws ≡ length w.places
      → ent 𝓤 (sep 𝓤 (sem 𝓛 (cells (mem u64) ws (block_of w.at) e)) (sem 𝓛 Rest)) (sem 𝓛 ((mem Pw).own_at (with_words w ws) rb ro))
  unfolding part_of
  back lies e far ws same =
      let b : ℕ = block_of w.at in let f : ℕ = count_of w.at in let k : ℕ = w.first in let n : ℕ = length w.places in let old : List ℕ = numbers w.places in let w' : (Pw).Denot = with_words w ws in
      let is : refill n old ws ≡ ws = take_front ws (drop_l (length ws) old) n same in let long : length w'.places ≡ n = ap (λ (l : List ℕ). length (laids l)) is ∙ length-map ws laid ∙ same in
      qed 𝓛 (‵ (cells (mem u64) ws b e) ∷ ‵ Rest ∷ []) ∵ move ! (1 ∷ []) $ fsplit ! $ move ! (2 ∷ 0 ∷ []) $ use2 𝓛 (‵ (row b f k (laids ws))) (of_cells 𝓛 b f ws k e n (sym far) same) $ rewrite ! 0 (λ (l : List ℕ). ‵ (row b f k (laids l))) (sym is) refl $
      nothing ! $ fpack ! (Lies w.at (w.first + length w'.places)) (λ _. ftrue) (lies.0, subst (λ (m : ℕ). (w.first + m) * 8 < 2 ^ 63) (sym long) lies.1) $ fjoin ! $ move ! (1 ∷ []) $ fsplit ! $ move ! (0 ∷ 2 ∷ []) $ fjoin ! $ move ! (1 ∷ 0 ∷ []) $ fjoin ! $
      fpack ! (List Val) (λ us. fsep (cell_at full_share (Pw).mir us rb ro) ((Pw).own_val w' us)) vs $ done !

pub slice_mut_spec : {M : Type 1} → statement M
slice_mut_spec 𝓤 𝓛 𝓜 𝓡 wired =
    let H = 𝓛.H in let A = 𝓛.A in let 𝓣 = tables 𝓤 H 𝓜 𝓡 𝓡.env in let St : RattleType = start.the_row in let c = clauses 𝓛 𝓜.mem 𝓡.returns in let fn = code.function in
    let one = plain (λ _. Pw) in let there = plain (λ _. St) in let count = plain (λ _. usize) in
    let hs : Stays ended.signature.params ended.kept = (stay_dropped (mut_ref_to (0 ∷ []) tt one) no, (stay_dropped there yes, (stay_dropped count yes, (stay_dropped count yes, tt)))) in
    proved 𝓛 ended hs c 𝓜 𝓡 (Goes-spent_ref 𝓛 1 (0 ∷ []) tt one, (Goes-dropped 𝓛 1 there yes (λ κs x f. refl), (Goes-dropped 𝓛 1 count yes (λ κs x f. refl), (Goes-dropped 𝓛 1 count yes (λ κs x f. refl), tt)))) #self fn (code.unfolded 𝓤 H 𝓜 𝓡 wired)
    (λ κs. (mut_vals, ((λ x. start_val x.at ∷ []), (uint_vals w64, (uint_vals w64, tt))))) (λ κs. (mut_Tells (named 0) κs.0 Pw, (start_told, (uint_Tells w64, (uint_Tells w64, tt))))) (λ κs qs bounds a gh are.
    let κ : Lft = κs.0 in let q = qs.0 in let rb : ℕ = a.0.ref_ptr.0 in let ro : ℕ = a.0.ref_ptr.1 in let γ : GName = a.0.ghost_name in let w : (Pw).Denot = a.0.now in let u : Ptr = a.1.0.at in let i : ℕ = a.1.1.0 in let n : ℕ = a.1.1.1.0 in
    let p : Ptr = w.at in let k : ℕ = w.first in let ps : List Place = w.places in let Asked : Type 0 = (u ≡ p) × (i ≡ k) × (n ≡ length ps) × ((ns : List ℕ) × (ps ≡ laids ns)) in
    let y : (walk_of 𝓛 ended hs c).Ghost = ((κs, qs, bounds, a, (vptr rb ro ∷ [], (start_val u ∷ [], (vint w64 i ∷ [], (vint w64 n ∷ [], tt))))), gh) in let Post : Val → SProp 𝓤 = (walk_of 𝓛 ended hs c).post y in
    qed 𝓛 (((‵ (flft κ q) ⊛ ‵ ftrue) ⊛ ‵ (owns (types_at ended.signature.params κs) a y.0.4)) ∷ raw (fact 𝓤 Asked) ∷ []) ∵
    move ! (1 ∷ []) $ heard ! Asked (λ asked. split ! $ split ! $ move ! (2 ∷ []) $ fsplit ! $ fsplit3 ! $ keep ! (1 ∷ 2 ∷ 4 ∷ []) $
    enter ! 𝓣.C 𝓣.Λ fn (vptr rb ro ∷ start_val u ∷ vint w64 i ∷ vint w64 n ∷ []) Post $ alloc_all ! (λ l. pass_all ! refl ((tt, tt), (start_good u, ((tt, record { fits = are.1.1.0.1 }), ((tt, record { fits = are.1.1.1.0.1 }), tt)))) $ let Ev = env fn.locals l in
    opens ! tt Pw {h = w} rb ro (λ vs. move ! (1 ∷ []) $ fsplit ! $ move ! (1 ∷ []) $ fsplit ! $ fpick ! (λ lies. drop ! $
    -- [the row; the token; its cell; the open borrow; obs; auth]
    let ns : List ℕ = asked.3.0 in let is : ps ≡ laids ns = asked.3.1 in let long : length ns ≡ length ps = sym (length-map ns laid) ∙ sym (ap length is) in let same : length ns ≡ n = long ∙ sym asked.2 in
    let b : ℕ = block_of p in let f : ℕ = count_of p in let e : ℕ = i * 8 + f in let there_ : u ≡ block_ptr b (count_of p) = asked.0 ∙ at_block p lies.0 in
    let room : (k + length ps) * 8 < 2 ^ 63 = lies.1 in let at_first : i ≡ k = asked.1 in let small : i * 8 < 2 ^ 64 = omega arith in let far : e ≡ k * 8 + f = ap (λ (m : ℕ). m * 8 + f) at_first in
    let few : length ns < 2 ^ 64 = omega arith in let fits : length ns * 8 < 2 ^ 63 = omega arith in
    take_at ! 2 $ rewrite ! 0 (λ (x : Ptr). ‵ (fat full_share (layout St) (l 2) 0 (start_val x))) there_ refl $ give_at ! 2 $ first ! $ blocks ! $
    sets ! (bin ! (get ! refl) (lit ! tt) (record { fits = small })) refl (tt, record { fits = small }) $
    sets ! (bin ! (get_in ! (fld ! refl (stop !)) (sub ! 0 refl (whole !))) (get ! refl) tt) refl (tt, tt) $
    rewrite ! 0 (λ (l : List Place). ‵ (row b f k l)) is refl $ use1 𝓛 (‵ (cells (mem u64) ns b e) ⊛ ‵ (mates 𝓛 b f k (length ns))) (to_cells 𝓛 b f ns k e (sym far)) $ split ! $ rewrite ! 1 (λ (m : ℕ). ‵ (mates 𝓛 b f k m)) long refl $
    sets_last ! (agg ! (and_then ! (get ! refl) (and_then ! (get ! refl) (no_more !)))) refl (tt, (tt, (record { fits = are.1.1.1.0.1 }, tt))) $
    exec ! 𝓣.C 𝓣.Λ Ev (tail fn.body) (at_ret Ev Post) $ sets ! (of_opd ! (get ! refl)) refl (tt, (tt, (record { fits = are.1.1.1.0.1 }, tt))) $
    let way = λ (ws : List ℕ) (m : length ws ≡ length ns). back 𝓛 w rb ro vs lies e far ws (m ∙ long) in let Left : SProp 𝓤 = sem 𝓛 (Rest 𝓛 w rb ro vs) in let code_ = (Pw).coded.code w in
    move ! (2 ∷ 3 ∷ []) $ fjoin ! $ move ! (2 ∷ 0 ∷ []) $ fjoin ! $ move ! (2 ∷ 3 ∷ 4 ∷ 1 ∷ 0 ∷ []) $ group ! 5 $
    use1 𝓛 (later (some (λ (δ : GName). raw (Elements 𝓛 Pw u64 (with_words w) (named 0) κ q rb ro b e γ ns (few, fits) Left way δ))))
    (lends_Elements 𝓛 Pw u64 (with_words w) (named 0) κ q rb ro b e γ ns (few, fits) Left way code_ code_) $ await ! tt $ pick ! (λ δ.
    let r : MutBor (List ℕ) = record { ref_ptr = (b, e); ghost_name = δ; now = ns } in let Told : Type 0 = ps ≡ laids ns in let v : Val = slice_val (b, e) n in
    returns ! (look_at ! 0 refl) $ free_all ! refl $ keep ! (0 ∷ []) $
    suffices ! (sep 𝓤 (sem 𝓛 ((MutSlice (named 0) κ u64).own_val r (v ∷ []))) (sep 𝓤 (A.lft κ q) (sem 𝓛 (follows Pw (Array u64 0) γ δ (with_words w)))))
    (qed 𝓛 (‵ ((MutSlice (named 0) κ u64).own_val r (v ∷ [])) ∷ ‵ (flft κ q) ∷ ‵ (follows Pw (Array u64 0) γ δ (with_words w)) ∷ []) ∵ use0 𝓛 (raw (fact 𝓤 Told)) (fact_i 𝓤 Told (emp 𝓤) is) $ move ! (3 ∷ 0 ∷ []) $ join ! $
    nothing ! $ move ! (3 ∷ 0 ∷ []) $ join ! $ nothing ! $ nothing ! $ fjoin ! $ nothing ! $ fjoin ! $ nothing ! $ fjoin ! $ nothing ! $ fjoin ! $ move ! (1 ∷ 0 ∷ 3 ∷ 2 ∷ []) $
    by ! (leaves 𝓛 ended hs c y v r (tt, (tt, (tt, (tt, tt)))) (tt, (tt, (tt, (tt, tt)))))) $
    by ! (subst (λ (m : ℕ). ent 𝓤 (Elements 𝓛 Pw u64 (with_words w) (named 0) κ q rb ro b e γ ns (few, fits) Left way δ) (sep 𝓤 (sem 𝓛 ((MutSlice (named 0) κ u64).own_val r (slice_val (b, e) m ∷ []))) (sep 𝓤 (A.lft κ q) (sem 𝓛 (follows Pw (Array u64 0) γ δ (with_words w)))))) same (id⊢ 𝓤 _))))))))
