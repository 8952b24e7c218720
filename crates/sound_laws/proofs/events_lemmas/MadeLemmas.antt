-- Whole calls one after the other, and one more.
use Rattle.std.proofs.Common.{ℕ, suc, ◌≡◌, ◌+◌, ◌%◌, ◌^◌, ◌∷◌, ◌++◌, List, [], length, refl, sym, ap, ◌∙◌, subst, arith}
use Rattle.std.specs.Prelude.{sum}
use Rattle.std.proofs.lemmas.List.FromFn.{map-range_with_len_more}
use Rattle.std.proofs.lemmas.List.Sums.{sum_by_push}
use Rattle.std.proofs.Math.Nat.{mod-add-mod}
use Rattle.heap_geometry.specs.declared.need.Need.{Need}
use Rattle.errand_steps.specs.declared.reply.Reply.{Reply}
use Rattle.errand_steps.specs.declared.reply.Reply.TheVariants as reply
use Rattle.errand_steps.specs.Calls.{Call, write, read}
use Rattle.sound_laws.specs.events.Made.{LeadsBy, Made, answered, found_from, wrote}

-- the writes of a block's first words with one more, and the reads of its words with one more
pub wrote-more :
    (place : ℕ) (need : Need) (v i : ℕ)
    → wrote place need v (i + 1) ≡ wrote place need v i ++ answered (write place need i ((v + i) % 2 ^ 64)) reply.Wrote ∷ []
wrote-more place need v i =
    map-range_with_len_more (λ i. answered (write place need i ((v + i) % 2 ^ 64)) reply.Wrote) 0 i i (omega arith)

pub found-more :
    (place : ℕ) (need : Need) (i : ℕ) (words : List ℕ) (word j : ℕ) → j ≡ i + length words
    → found_from place need i (words ++ word ∷ []) ≡ found_from place need i words ++ answered (read place need j) (reply.Word word) ∷ []
found-more place need i [] word j is = ap (λ k. answered (read place need k) (reply.Word word) ∷ []) (omega (arith, is))
found-more place need i (w ∷ words) word j is =
    ap (λ ms. answered (read place need i) (reply.Word w) ∷ ms) (found-more place need (suc i) words word j (omega (arith, is)))

-- calls that lead from one state to another lead on by one call more
pub leads-more :
    {S : Type 0} (called : S → Call → Reply → S → Type 0) (s t u : S) (made : List Made) (call : Call) (answer : Reply)
    → LeadsBy called s made t → called t call answer u → LeadsBy called s (made ++ answered call answer ∷ []) u
leads-more called s t u [] call answer leads one = (u, subst (λ x. called x call answer u) leads one, refl)
leads-more called s t u (m ∷ made) call answer leads one = (leads.0, leads.1, leads-more called leads.0 t u made call answer leads.2 one)

-- the sum of words with one word more
pub sum-one : (words : List ℕ) (total word : ℕ) → total ≡ sum words % 2 ^ 64 → (total + word) % 2 ^ 64 ≡ sum (words ++ word ∷ []) % 2 ^ 64
sum-one words total word is =
    ap (λ n. (n + word) % 2 ^ 64) is ∙ mod-add-mod (sum words) (2 ^ 64) word ∙ ap (λ n. n % 2 ^ 64) (sym (sum_by_push (λ n. n) words word))
