-- Each move of an end keeps the rule of the line.
use Rattle.std.proofs.Common.{ℕ, zero, suc, true, ◌≡◌, ◌≢◌, ◌<◌, ◌⊎◌, List, [], ◌∷◌, ◌++◌, length, set, refl, sym, ◌∙◌, ap, subst, subst₂, inl, inr, ⊎_elim, append_assoc, append-nil, eq-eqb, ne_eqb, arith, true≢false}
use Rattle.std.specs.Prelude.{if◌then◌else◌, ◌==◌}
use Rattle.std.proofs.lemmas.List.{same_from_push}
use Rattle.std.proofs.lemmas.List.Elements.{filter-append}
use mathlib.Core.Option.{some, some-injective, some-ne-none}
use lib.ListN.{get_elem?}
use Rattle.crossbeam_queue.specs.Fifo.{Pushes, Pops, Forks, Merges, Learns}
use Rattle.crossbeam_queue.proofs.Lists.{at_set}
use Rattle.block_pipe.specs.declared.note.Note.{Note}
use Rattle.block_pipe.specs.declared.rule.Known.{Known}
use Rattle.block_pipe.specs.Notes.{AreNumbered, FitsHeap, HasFirstPart, MayComeNext, Piped, RuleStands, StandsFor, first_out, first_sender, nobody, of_sender, unset, shelf_for, whole, with_senders, with_sent, with_taken}

-- the notes of a sender in lists that are joined
pub of-append : (k : ℕ) (xs ys : List Note) → of_sender k (xs ++ ys) ≡ of_sender k xs ++ of_sender k ys
of-append k xs ys = filter-append (λ (note : Note). note.sender == k) xs ys

-- the notes of a sender in a list with one more note of that sender
pub of-same : (k : ℕ) (notes : List Note) (x : Note) → x.sender ≡ k → of_sender k (notes ++ x ∷ []) ≡ of_sender k notes ++ x ∷ []
of-same k notes x is =
    let one : of_sender k (x ∷ []) ≡ x ∷ [] = rw (eq-eqb x.sender k is) refl in
    of-append k notes (x ∷ []) ∙ ap (λ (l : List Note). of_sender k notes ++ l) one

-- the notes of a sender in a list with one more note of another one
pub of-other : (k : ℕ) (notes : List Note) (x : Note) → x.sender ≢ k → of_sender k (notes ++ x ∷ []) ≡ of_sender k notes
of-other k notes x ne =
    let none : of_sender k (x ∷ []) ≡ [] = rw (ne_eqb x.sender k ne) refl in
    of-append k notes (x ∷ []) ∙ ap (λ (l : List Note). of_sender k notes ++ l) none ∙ append-nil (of_sender k notes)

-- a list is empty, or has a last note
last_cases : (notes : List Note) → (notes ≡ []) ⊎ ((before : List Note) × (note : Note) × (notes ≡ before ++ note ∷ []))
last_cases [] = inl refl
last_cases (first ∷ notes) =
    inr (elim (last_cases notes) [
      | inl none ↦ ([], first, ap (λ (xs : List Note). first ∷ xs) none)
      | inr last_is ↦ (first ∷ last_is.0, last_is.1, ap (λ (xs : List Note). first ∷ xs) last_is.2)
    ])

-- a numbered list stays so with one note more that may come next
numbered-push :
    (senders shelves : ℕ) (notes : List Note) (x : Note) → AreNumbered senders shelves notes → MayComeNext senders shelves notes x
    → AreNumbered senders shelves (notes ++ x ∷ [])
numbered-push senders shelves notes x each last before rest next e =
    elim (last_cases rest) [
      | inl none ↦
          let whole_is : notes ++ x ∷ [] ≡ before ++ next ∷ [] = e ∙ ap (λ (xs : List Note). before ++ next ∷ xs) none in
          let same = same_from_push notes before x next whole_is in
          subst₂ (MayComeNext senders shelves) same.0 same.1 last
      | inr last_is ↦
          let whole_is : notes ++ x ∷ [] ≡ (before ++ next ∷ last_is.0) ++ last_is.1 ∷ [] =
          e ∙ ap (λ (xs : List Note). before ++ next ∷ xs) last_is.2 ∙ sym (append_assoc before (next ∷ last_is.0) (last_is.1 ∷ [])) in
          each before last_is.0 next (same_from_push notes (before ++ next ∷ last_is.0) x last_is.1 whole_is).0
    ]

numbered-none : (senders shelves : ℕ) → AreNumbered senders shelves []
numbered-none senders shelves [] rest note e = absurd (let t : [] ≡ note ∷ rest = e in cc)
numbered-none senders shelves (x ∷ xs) rest note e = absurd (let t : [] ≡ x ∷ (xs ++ note ∷ rest) = e in cc)

abbrev Each : (ℕ → Known → Type 0) → List Known → Type 0
Each F views = (port : ℕ) (v : Known) → get_elem? views port ≡ some v → F port v

each-set :
    (F : ℕ → Known → Type 0) (views : List Known) (port : ℕ) (w : Known) → F port w
    → ((j : ℕ) (u : Known) → j ≢ port → get_elem? views j ≡ some u → F j u) → Each F (set views port w)
each-set F views port w mine others j u e =
    ⊎_elim (λ (x : (j ≡ port) × (w ≡ u)). subst (λ (y : ℕ × Known). F y.0 y.1) (λ i. (sym x.0 i, x.1 i)) mine)
    (λ (x : (j ≢ port) × (get_elem? views j ≡ some u)). others j u x.0 x.1) (at_set views port j w u e)

snoc-at :
    (l : List Known) (a b : Known) (j : ℕ) → get_elem? (l ++ a ∷ []) j ≡ some b → (get_elem? l j ≡ some b) ⊎ ((j ≡ length l) × (a ≡ b))
snoc-at [] a b zero e = inr (refl, some-injective a b e)
snoc-at [] a b (suc j) e = absurd (some-ne-none b (sym e))
snoc-at (x ∷ xs) a b zero e = inl e
snoc-at (x ∷ xs) a b (suc j) e = elim (snoc-at xs a b j e) [ inl h ↦ inl h | inr h ↦ inr (ap suc h.0, h.1) ]

-- what holds of each end and of a new one holds of all with the new one behind the others
each-snoc :
    (F : ℕ → Known → Type 0) (views : List Known) (w : Known) → Each F views → F (length views) w → Each F (views ++ w ∷ [])
each-snoc F views w each new j u e =
    elim (snoc-at views w u j e) [
      | inl old ↦ each j u old
      | inr is ↦ subst (λ (y : ℕ × Known). F y.0 y.1) (λ i. (sym is.0 i, is.1 i)) new
    ]

-- before the start there is one end, which isn't set
only : (port : ℕ) (v : Known) → get_elem? (unset ∷ []) port ≡ some v → (port ≡ 0) × (unset ≡ v)
only zero v e = (refl, some-injective unset v e)
only (suc port) v e = absurd (some-ne-none v (sym e))

pub not-first : {X : Type 0} (views : List Known) (port : ℕ) (v : Known) → v.set ≡ true → views ≡ unset ∷ [] → get_elem? views port ≡ some v → X
not-first views port v is_set first at =
    absurd (let is = only port v (ap (λ l. get_elem? l port) (sym first) ∙ at) in
    true≢false (sym is_set ∙ ap (λ (x : Known). x.set) (sym is.1)))

-- an end that does nothing fits everywhere
nobody-fits : (keeper : ℕ → ℕ) (reader senders shelves : ℕ) (all got : List Note) (port : ℕ) → FitsHeap keeper reader senders shelves all got port nobody
nobody-fits keeper reader senders shelves all got port =
    record {
      sizes = λ e. absurd (true≢false (sym e));
      sends = λ k st. absurd (omega (arith, st.1));
      receives = λ e. absurd (true≢false (sym e));
    }

pub begins : Piped [] (unset ∷ [])
begins = inl (refl, refl)

-- the rule of the queue is kept where the sizes are set
pub sets : (port senders shelves : ℕ) (v : Known) → v ≡ unset → Forks Piped port v (whole senders shelves) nobody
sets port senders shelves v is items views h at =
    elim h [
      | inl first ↦
          let w : Known = whole senders shelves in
          let at_unset : get_elem? (unset ∷ []) port ≡ some v = ap (λ l. get_elem? l port) (sym first.1) ∙ at in
          let zero_is = (only port v at_unset).0 in
          let F : ℕ → Known → Type 0 = FitsHeap (λ k. port) port senders shelves [] [] in
          let mine : F port w = record { sizes = λ e. (refl, refl); sends = λ k st. (refl, refl, refl); receives = λ e. (refl, refl, refl) } in
          inr (record {
            senders = senders;
            shelves = shelves;
            all = [];
            got = [];
            line = sym first.0;
            numbered = numbered-none senders shelves;
            keeper = λ k. port;
            reader = port;
            each =
                each-snoc F (set views port w) nobody
                (each-set F views port w mine
                (λ j u other e. absurd (other ((only j u (ap (λ l. get_elem? l j) (sym first.1) ∙ e)).0 ∙ sym zero_is))))
                (nobody-fits (λ k. port) port senders shelves [] [] (length (set views port w)));
          })
      | inr r ↦
          let at_unset : get_elem? views port ≡ some unset = at ∙ ap some is in
          absurd (true≢false (sym ((r.each port unset at_unset).receives refl).0))
    ]

-- the rule of the queue is kept where the first sender gets an end of its own
pub peels : (port : ℕ) (v : Known) → v.set ≡ true → v.from < v.until → Forks Piped port v (first_out v) (first_sender v)
peels port v is_set below items views h at =
    elim h [
      | inl first ↦ not-first views port v is_set first.1 at
      | inr r ↦
          let mine = r.each port v at in
          let l : Known = first_out v in
          let vs : List Known = set views port l in
          let keeper : ℕ → ℕ = λ k. if k == v.from then length vs else r.keeper k in
          let F : ℕ → Known → Type 0 = FitsHeap keeper r.reader r.senders r.shelves r.all r.got in
          let same : (k : ℕ) → k ≢ v.from → r.keeper k ≡ keeper k = λ k ne. rw (ne_eqb k v.from ne) refl in
          let left : F port l =
          record {
            sizes = mine.sizes;
            sends = λ k st.
                let m = mine.sends k (omega (arith, st.0), st.1) in
                (m.0, m.1 ∙ same k (λ e. absurd (omega (arith, st.0, e))), m.2);
            receives = mine.receives;
          } in
          let others : (j : ℕ) (u : Known) → j ≢ port → get_elem? views j ≡ some u → F j u = λ j u other e.
          let theirs = r.each j u e in
          record {
            sizes = theirs.sizes;
            sends = λ k st.
                let m = theirs.sends k st in
                (m.0, m.1 ∙ same k (λ is. other (m.1 ∙ sym (mine.sends k (omega (arith, is), omega (arith, is, below))).1)), m.2);
            receives = theirs.receives;
          } in
          let right : F (length vs) (first_sender v) =
          record {
            sizes = mine.sizes;
            sends = λ k st.
                let is : k ≡ v.from = omega (arith, st.0, st.1) in
                (is_set, sym (rw (eq-eqb k v.from is) refl), (mine.sends k (st.0, omega (arith, is, below))).2);
            receives = λ e. absurd (true≢false (sym e));
          } in
          inr (record {
            senders = r.senders;
            shelves = r.shelves;
            all = r.all;
            got = r.got;
            line = r.line;
            numbered = r.numbered;
            keeper = keeper;
            reader = r.reader;
            each = each-snoc F vs (first_sender v) (each-set F views port l left others) right;
          })
    ]

-- the rule of the queue is kept where a note is sent
pub sends :
    (n port : ℕ) (v : Known) (x : Note) → v.set ≡ true → StandsFor v x.sender → MayComeNext v.senders v.shelves v.sent x
    → Pushes Piped n port v x (λ w. w ≡ with_sent v x)
sends n port v x is_set stands next items views room h at =
    elim h [
      | inl first ↦ not-first views port v is_set first.1 at
      | inr r ↦
          let mine = r.each port v at in
          let my = mine.sends x.sender stands in
          let w : Known = with_sent v x in
          let all : List Note = r.all ++ x ∷ [] in
          let sizes = mine.sizes is_set in
          let next_all : MayComeNext r.senders r.shelves r.all x =
          record {
            sender = subst (λ (n : ℕ). x.sender < n) sizes.0 next.sender;
            seq = next.seq ∙ ap length my.2;
            few = next.few;
            shelf = next.shelf ∙ ap (λ (n : ℕ). shelf_for n x.sender x.seq) sizes.1;
          } in
          let F : ℕ → Known → Type 0 = FitsHeap r.keeper r.reader r.senders r.shelves all r.got in
          let new : F port w =
          record {
            sizes = mine.sizes;
            sends = λ k st.
                let m = mine.sends k st in
                (m.0, m.1, of-append k v.sent (x ∷ []) ∙ ap (λ (l : List Note). l ++ of_sender k (x ∷ [])) m.2 ∙ sym (of-append k r.all (x ∷ [])));
            receives = mine.receives;
          } in
          let others : (j : ℕ) (u : Known) → j ≢ port → get_elem? views j ≡ some u → F j u = λ j u other e.
          let theirs = r.each j u e in
          record {
            sizes = theirs.sizes;
            sends = λ k st.
                let m = theirs.sends k st in
                (m.0, m.1, m.2 ∙ sym (of-other k r.all x (λ is. other (m.1 ∙ ap r.keeper (sym is) ∙ sym my.1))));
            receives = theirs.receives;
          } in (
            w,
            inr (record {
              senders = r.senders;
              shelves = r.shelves;
              all = all;
              got = r.got;
              line = ap (λ (l : List Note). l ++ x ∷ []) r.line ∙ append_assoc r.got items (x ∷ []);
              numbered = numbered-push r.senders r.shelves r.all x r.numbered next_all;
              keeper = r.keeper;
              reader = r.reader;
              each = each-set F views port w new others;
            }),
            refl,
          )
    ]

-- the rule of the queue is kept where a note is taken; the note is the next one
pub takes :
    (port : ℕ) (v : Known) → v.set ≡ true → v.receives ≡ true
    → Pops Piped port v (λ x w. MayComeNext v.senders v.shelves v.taken x × (w ≡ with_taken v x))
takes port v is_set may x items views h at =
    elim h [
      | inl first ↦ not-first views port v is_set first.1 at
      | inr r ↦
          let mine = r.each port v at in
          let my = mine.receives may in
          let w : Known = with_taken v x in
          let got : List Note = r.got ++ x ∷ [] in
          let sizes = mine.sizes is_set in
          let is_next : MayComeNext r.senders r.shelves r.got x = r.numbered r.got items x r.line in
          let of_mine : MayComeNext r.senders r.shelves v.taken x = subst (λ (l : List Note). MayComeNext r.senders r.shelves l x) (sym my.2) is_next in
          let next : MayComeNext v.senders v.shelves v.taken x =
          subst₂ (λ (m n : ℕ). MayComeNext m n v.taken x) (sym sizes.0) (sym sizes.1) of_mine in
          let F : ℕ → Known → Type 0 = FitsHeap r.keeper r.reader r.senders r.shelves r.all got in
          let new : F port w =
          record {
            sizes = mine.sizes;
            sends = mine.sends;
            receives = λ e. (is_set, my.1, ap (λ (l : List Note). l ++ x ∷ []) my.2);
          } in
          let others : (j : ℕ) (u : Known) → j ≢ port → get_elem? views j ≡ some u → F j u = λ j u other e.
          let theirs = r.each j u e in
          record {
            sizes = theirs.sizes;
            sends = theirs.sends;
            receives = λ p. absurd (other ((theirs.receives p).1 ∙ sym my.1));
          } in (
            w,
            inr (record {
              senders = r.senders;
              shelves = r.shelves;
              all = r.all;
              got = got;
              line = r.line ∙ sym (append_assoc r.got (x ∷ []) items);
              numbered = r.numbered;
              keeper = r.keeper;
              reader = r.reader;
              each = each-set F views port w new others;
            }),
            (next, refl),
          )
    ]

-- the rule of the queue is kept where an end takes over the senders of another
pub takes_over :
    (port : ℕ) (v : Known) (other : ℕ) (w : Known) → v.set ≡ true → Merges Piped port v other w (with_senders v w) nobody
takes_over port v other w is_set items views h at two at_w =
    elim h [
      | inl first ↦ not-first views port v is_set first.1 at
      | inr r ↦
          let mine = r.each port v at in
          let both : Known = with_senders v w in
          let vs : List Known = set views port both in
          let was : get_elem? views other ≡ some w =
          ⊎_elim (λ (x : (other ≡ port) × (both ≡ w)). absurd (two x.0)) (λ x. x.1) (at_set views port other both w at_w) in
          let theirs = r.each other w was in
          let keeper : ℕ → ℕ = λ k. if r.keeper k == other then port else r.keeper k in
          let F : ℕ → Known → Type 0 = FitsHeap keeper r.reader r.senders r.shelves r.all r.got in
          let Now : ℕ → Known → Type 0 = λ j y. j ≢ other → F j y in
          let here : F port both =
          record {
            sizes = mine.sizes;
            sends = λ k st.
                let m = theirs.sends k st in
                (is_set, sym (rw (eq-eqb (r.keeper k) other (sym m.1)) refl), m.2);
            receives = mine.receives;
          } in
          let now : Each Now vs =
          each-set Now views port both (λ apart. here)
          (λ j u away e apart.
          let rest = r.each j u e in
          record {
            sizes = rest.sizes;
            sends = λ k st.
                let m = rest.sends k st in
                (m.0, m.1 ∙ sym (rw (ne_eqb (r.keeper k) other (λ is. apart (m.1 ∙ is))) refl), m.2);
            receives = rest.receives;
          }) in
          inr (record {
            senders = r.senders;
            shelves = r.shelves;
            all = r.all;
            got = r.got;
            line = r.line;
            numbered = r.numbered;
            keeper = keeper;
            reader = r.reader;
            each = each-set F vs other nobody (nobody-fits keeper r.reader r.senders r.shelves r.all r.got other) (λ j y apart e. now j y e apart);
          })
    ]

-- an end learns that the rule of the queue stands
pub stands-learn : (port : ℕ) (v : Known) → Learns Piped port v (RuleStands v)
stands-learn port v items views h at = (port, views, h, at)

pub first_part-learn : (port : ℕ) (v : Known) → v.set ≡ true → v.receives ≡ true → Learns Piped port v (λ items. HasFirstPart v)
first_part-learn port v is_set may items views h at =
    elim h [
      | inl first ↦ not-first views port v is_set first.1 at
      | inr r ↦ λ k st.
          let mine = r.each port v at in
          let my = mine.receives may in (
            of_sender k items,
            (mine.sends k st).2 ∙ ap (of_sender k) (r.line ∙ ap (λ (l : List Note). l ++ items) (sym my.2)) ∙ of-append k v.taken items,
          )
    ]
