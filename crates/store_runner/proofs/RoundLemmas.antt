-- Rounds of the script, and what is left behind the last one.
use Rattle.std.proofs.Common.{ℕ, suc, ◌≡◌, ◌+◌, ◌%◌, List, [], ◌∷◌, length, count_by, refl, sym, ◌∙◌, ap, subst, arith}
use Rattle.pool_model.specs.declared.event.Event.{Event}
use Rattle.pool_model.specs.Counts.{is_alloc, is_free}
use Rattle.pool_model.specs.Histories.{own}
use Rattle.live_heap.specs.Heaps.{HeapFields}
use Rattle.live_heap.specs.declared.pass.Pass.{Pass}
use Rattle.live_heap.specs.Contents.{owned_after, owned_in}
use Rattle.live_heap.specs.Passes.{IsFresh, seen}
use Rattle.typed_store.specs.declared.store.Store.{Store}
use Rattle.typed_store.specs.Nodes.{Spells, nodes_at, without_first}
use Rattle.typed_store.specs.Passings.{Rests, freed_in, given_in}
use Rattle.typed_store.specs.Stores.{HasList, HasRecords, IsReady}
use Rattle.typed_store.proofs.LedLemmas.{begins-on, led-grows}
use Rattle.typed_store.proofs.LinkLemmas.{leads-one}
use Rattle.store_runner.specs.declared.script.Script.{Script}
use Rattle.store_runner.specs.Counts.{CountsBlocks}
use Rattle.store_runner.specs.Ends.{HasRun}
use Rattle.store_runner.specs.Scripts.{IsBehind, IsRound, latest, list_after, values_of}
use Rattle.store_runner.proofs.CallLemmas.{Frees, come-on, made-grows, rests-count}
use Rattle.store_runner.proofs.KeepLemmas.{KeepsRead}
use Rattle.store_runner.proofs.ScriptLemmas.{latest-without}

-- the store's list has changed so; and all its records stay
abbrev Lists : Store → Store → (List (ℕ × ℕ) → List (ℕ × ℕ)) → Type 0
Lists s t change = (pairs : List (ℕ × ℕ)) → HasList s pairs → HasList t (change pairs)

abbrev Records : Store → Store → Type 0
Records s t = (records : List (List ℕ)) → HasRecords s records → HasRecords t records

-- a store of caller 0 shows its round by the events that its pass has seen
round-of :
    (u : Store) (rounds : ℕ) → u.pass.errand.caller ≡ 0 → HasList u (list_after rounds) → given_in u.pass ≡ rounds
    → freed_in u.pass + length (list_after rounds) ≡ rounds → IsRound rounds (seen u.pass)
round-of u rounds caller has given freed =
    record {
      slots = u.slots.items;
      head = u.head;
      list = subst (λ k. Spells (owned_after (seen u.pass) k) u.slots.items u.head (list_after rounds)) caller has.0;
      given = ap (λ k. count_by is_alloc (own k (seen u.pass))) (sym caller) ∙ given;
      freed = ap (λ k. count_by is_free (own k (seen u.pass)) + length (list_after rounds)) (sym caller) ∙ freed;
    }

round-behind :
    (h : HeapFields) (rounds : ℕ) (s t u : Store) → IsBehind h rounds s → Lists s t (without_first ((rounds + 1) % 7)) → Records s t
    → ((pairs : List (ℕ × ℕ)) → HasList s pairs → Frees s t ((rounds + 1) % 7) pairs) → IsReady h u
    → Lists t u (λ pairs. ((rounds + 1) % 7, rounds + 1) ∷ pairs) → Records t u → CountsBlocks 1 0 t.pass u.pass → IsBehind h (rounds + 1) u
round-behind h rounds s t u behind out kept frees ready front stay counts =
    let pairs = list_after rounds in
    let up : rounds + 1 ≡ suc rounds = omega arith in
    let left : without_first ((rounds + 1) % 7) pairs ≡ latest rounds 6 = latest-without rounds 1 6 (omega arith) (omega arith) in
    let freed = frees pairs behind.list in
    let now : HasList u (((rounds + 1) % 7, rounds + 1) ∷ latest rounds 6) = front (latest rounds 6) (subst (HasList t) left (out pairs behind.list)) in
    let less : length (latest rounds 6) + freed.0 ≡ length pairs =
    subst (λ (l : List (ℕ × ℕ)). length l + freed.0 ≡ length pairs) left freed.2 in
    let back = λ (n : ℕ). HasList u ((n % 7, n) ∷ latest rounds 6) in
    let listed : HasList u (list_after (suc rounds)) = subst back up now in
    let caller : u.pass.errand.caller ≡ 0 = counts.caller ∙ (freed.1.caller ∙ behind.caller) in
    let given : given_in u.pass ≡ suc rounds = omega (arith, counts.given_is, freed.1.given_is, behind.given) in
    let left_over : freed_in u.pass + length (list_after (suc rounds)) ≡ suc rounds =
    omega (arith, counts.freed_is, freed.1.freed_is, behind.freed, less) in
    subst (λ n. IsBehind h n u) (sym up) (record {
      ready = ready;
      caller = caller;
      list = listed;
      records = stay [] (kept [] behind.records);
      come = come-on h 1 0 t.pass u.pass (come-on h 0 freed.0 s.pass t.pass behind.come freed.1) counts;
      played = (
        seen s.pass,
        behind.played,
        begins-on (seen s.pass) (seen t.pass) (seen u.pass) (made-grows s.pass t.pass freed.1.made freed.1.led)
            (made-grows t.pass u.pass counts.made counts.led),
        round-of u (suc rounds) caller listed given left_over,
      );
      given = given;
      freed = left_over;
    })

-- the store stands behind one round more, by whatever number is that of the rounds
pub round-at :
    (h : HeapFields) (rounds n : ℕ) (s t u : Store) → n ≡ rounds → IsBehind h rounds s → Lists s t (without_first ((n + 1) % 7)) → Records s t
    → ((pairs : List (ℕ × ℕ)) → HasList s pairs → Frees s t ((n + 1) % 7) pairs) → IsReady h u
    → Lists t u (λ pairs. ((n + 1) % 7, n + 1) ∷ pairs) → Records t u → CountsBlocks 1 0 t.pass u.pass → IsBehind h (rounds + 1) u
round-at h rounds n s t u is behind out kept frees ready front stay counts =
    subst (λ k. IsBehind h (k + 1) u) is
    (round-behind h n s t u (subst (λ k. IsBehind h k s) (sym is) behind) out kept frees ready front stay counts)

-- a new store stands before the first round
pub none-behind :
    (h : HeapFields) (p : Pass) (s : Store) → IsFresh h p → p.errand.caller ≡ 0 → IsReady h s → HasList s [] → HasRecords s [] → s.pass ≡ p
    → IsBehind h 0 s
none-behind h p s fresh caller ready list records same =
    let none : (P : Event → Rattle.std.proofs.Common.Bool) → count_by P (own p.errand.caller (Rattle.live_heap.specs.Passes.seen p)) ≡ 0 =
    λ P. ap (λ (l : List Event). count_by P (own p.errand.caller l)) fresh.nothing_seen in
    record {
      ready = ready;
      caller = ap (λ (q : Pass). q.errand.caller) same ∙ caller;
      list = list;
      records = records;
      come = record { first = p; fresh = fresh; made = []; led = same };
      played = ap seen same ∙ fresh.nothing_seen;
      given = ap given_in same ∙ none is_alloc;
      freed = omega (arith, ap freed_in same, none is_free);
    }

one-list : (s : Store) (pairs others : List (ℕ × ℕ)) → HasList s pairs → HasList s others → pairs ≡ others
one-list s pairs others has too = leads-one (nodes_at (owned_in s.pass) s.slots.items) s.head pairs others has.0 too.0

-- the script has run, behind its last round: the list is read, its values are noted, and both are read back
pub script-ran :
    (h : HeapFields) (rounds : ℕ) (s t u : Store) (listed : List (ℕ × ℕ)) (values : List ℕ) (script : Script) → IsBehind h rounds s → HasList s listed
    → values ≡ values_of listed → Rests h s.pass t.pass → Lists s t (λ pairs. pairs) → Lists t u (λ pairs. pairs) → HasRecords u (values ∷ [])
    → CountsBlocks 1 0 t.pass u.pass → Rests h u.pass script.pass → HasList u script.pairs.items
    → ((words : List ℕ) → HasRecords u (words ∷ []) → script.words.items ≡ words)
    → ((pairs : List (ℕ × ℕ)) (words : List ℕ) → HasList u pairs → HasRecords u (words ∷ [])
    → KeepsRead (owned_in script.pass) h pairs words script.pairs.items script.words.items script.pass)
    → HasRun h rounds script
script-ran h rounds s t u listed values script behind has is reads first then noted counts rests read words keeps =
    let pairs = list_after rounds in
    let same : listed ≡ pairs = one-list s listed pairs has behind.list in
    let now : HasList u pairs = then pairs (first pairs behind.list) in
    let values_are : values ≡ values_of pairs = is ∙ ap values_of same in
    let kept =
    subst (λ (l : List ℕ). KeepsRead (owned_in script.pass) h pairs l script.pairs.items script.words.items script.pass) values_are
    (keeps pairs values now noted) in
    record {
      of = rests.of;
      idle = rests.idle;
      caller = rests.caller ∙ (counts.caller ∙ (reads.caller ∙ behind.caller));
      pairs = one-list u script.pairs.items pairs read now;
      words = words values noted ∙ values_are;
      keeps = kept.0;
      read = kept.1;
      come =
          come-on h 0 0 u.pass script.pass
          (come-on h 1 0 t.pass u.pass (come-on h 0 0 s.pass t.pass behind.come (rests-count h s.pass t.pass reads)) counts)
          (rests-count h u.pass script.pass rests);
      played = (
        seen s.pass,
        behind.played,
        begins-on (seen s.pass) (seen t.pass) (seen script.pass) (led-grows h s.pass t.pass reads.made reads.led)
            (begins-on (seen t.pass) (seen u.pass) (seen script.pass) (made-grows t.pass u.pass counts.made counts.led)
            (led-grows h u.pass script.pass rests.made rests.led)),
      );
      given = omega (arith, rests.given, counts.given_is, reads.given, behind.given);
      freed = omega (arith, rests.freed, counts.freed_is, reads.freed, behind.freed);
    }
