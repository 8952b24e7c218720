-- Words of a block are read or written by a slice: what the pass is then.
use Rattle.std.proofs.Common.{ℕ, zero, suc, ◌≡◌, ◌≢◌, ◌<◌, ◌+◌, List, [], ◌∷◌, Some, length, refl, sym, ap, ◌∙◌, subst, arith, inr}
use Rattle.std.specs.Prelude.{slice_get, slice_index}
use Rattle.std.proofs.lemmas.Option.{slice_get-get_or}
use Rattle.errand_steps.specs.declared.reply.Reply.TheVariants as reply
use Rattle.errand_steps.specs.Begins.{IsIdle}
use Rattle.errand_steps.specs.Calls.{read, write}
use Rattle.sound_laws.specs.events.Made.{LeadsBy, answered, found_from}
use Rattle.live_heap.specs.declared.block.Block.{Block}
use Rattle.live_heap.specs.Heaps.{HeapFields}
use Rattle.live_heap.specs.declared.pass.Pass.{Pass}
use Rattle.live_heap.specs.Answers.{IsContents}
use Rattle.live_heap.specs.Calls.{HasCalled}
use Rattle.live_heap.specs.Contents.{owned_in, word_in, word_of}
use Rattle.live_heap.specs.Memory.{writes_from}
use Rattle.live_heap.specs.Passes.{IsOf, Owns}
use Rattle.live_heap.specs.Words.{CallsOnWord}
use Rattle.live_heap.proofs.laws_for_builders.Words.{called-keeps_word, read-word, wrote-word}
use Rattle.typed_store.specs.Passings.{KeepsWords, Rests}
use Rattle.typed_store.specs.Records.{IsRecord}
use Rattle.typed_store.specs.Walks.{LedBy, record_reads}
use Rattle.typed_store.proofs.PassLemmas.{read-reads, reads-on, reads-self, rests-on, same-owns, write-changes, write-rests, wrote-owns}
use Rattle.typed_store.proofs.RecordLemmas.{got, words-one}

-- words of a block, from one on, were read, and what was written there was found
pub record FindsWords (h : HeapFields) (p : Pass) (b : Block) (first : ℕ) (words : List ℕ) (q : Pass) : Type 0 where
  pub keeps : KeepsWords h p q
  pub led : LedBy h p (found_from b.place b.need first words) q
  pub found : (k v : ℕ) → k < length words → word_in p b.place (first + k) ≡ Some v → slice_index words k ≡ v

pub slice-reads :
    (h : HeapFields) (p : Pass) (b : Block) (first : ℕ) (words : List ℕ) (q : Pass) → IsOf h p → IsIdle p.errand → Owns p b
    → LeadsBy (CallsOnWord h) p (found_from b.place b.need first words) q → FindsWords h p b first words q
slice-reads h p b first [] q of idle owns same =
    subst (FindsWords h p b first []) (sym same) (record { keeps = reads-self h p of idle; led = refl; found = λ k v none. absurd (omega (arith, none)) })
slice-reads h p b first (word ∷ words) q of idle owns (r, one, rest) =
    let keeps_one = read-reads h p r b.place first word b.need of owns one.of one.called in
    let more = slice-reads h r b (suc first) words q one.of one.called.idle (same-owns p r b keeps_one.same keeps_one.rests.caller keeps_one.rests.lent owns) rest in
    record {
      keeps = reads-on h p r q keeps_one more.keeps;
      led = (r, (one.called, one.owned, (one.of, one.called.idle)), more.led);
      found = finds r one keeps_one more;
    }
  where
    finds :
        (r : Pass) → (one : CallsOnWord h p (read b.place b.need first) (reply.Word word) r) → KeepsWords h p r → FindsWords h r b (suc first) words q
        → (k v : ℕ) → k < length (word ∷ words) → word_in p b.place (first + k) ≡ Some v → slice_index (word ∷ words) k ≡ v
    finds r one keeps_one more zero v below is =
        let here : first + 0 ≡ first = omega arith in
        read-word h p r b.place b.need first 0 word v one.of one.called one.contents (subst (λ i. word_in p b.place i ≡ Some v) here is)
    finds r one keeps_one more (suc k) v below is =
        let next : first + suc k ≡ suc first + k = omega arith in
        more.found k v (omega (arith, below))
        (ap (λ o. word_of o (suc first + k)) (keeps_one.same b.place) ∙ subst (λ i. word_in p b.place i ≡ Some v) next is)

-- words of a block, from one on, were written: they are there now, and those in front of them and all other blocks are as they were
pub record HasWritten (h : HeapFields) (p : Pass) (b : Block) (first : ℕ) (words : List ℕ) (q : Pass) : Type 0 where
  pub rests : Rests h p q
  pub owned : Owns q b
  pub others : (place : ℕ) → place ≢ b.place → owned_in q place ≡ owned_in p place
  pub wrote : (k : ℕ) → k < length words → word_in q b.place (first + k) ≡ Some (slice_index words k)
  pub stays : (i v : ℕ) → i < first → word_in p b.place i ≡ Some v → word_in q b.place i ≡ Some v

pub slice-writes :
    (h : HeapFields) (p : Pass) (b : Block) (first : ℕ) (words : List ℕ) (q : Pass) → IsOf h p → IsIdle p.errand → Owns p b
    → LeadsBy (CallsOnWord h) p (writes_from b.place b.need first words) q → HasWritten h p b first words q
slice-writes h p b first [] q of idle owns same =
    subst (HasWritten h p b first []) (sym same)
    (record {
      rests = (reads-self h p of idle).rests;
      owned = owns;
      others = λ place away. refl;
      wrote = λ k none. absurd (omega (arith, none));
      stays = λ i v below is. is;
    })
slice-writes h p b first (word ∷ words) q of idle owns (r, one, rest) =
    let changes = write-changes h p r b.place first word b.need one.of one.called in
    let more = slice-writes h r b (suc first) words q one.of one.called.idle (wrote-owns p r b first word changes one.called.caller one.called.lent owns) rest in
    record {
      rests = rests-on h p r q (write-rests h p r b.place first word b.need of owns one.of one.called) more.rests;
      owned = more.owned;
      others = λ place away. more.others place away ∙ changes.others place away;
      wrote = writes r one more;
      stays = λ i v below is.
          more.stays i v (omega (arith, below))
          (called-keeps_word h p r (write b.place b.need first word) 0 reply.Wrote b.place i v one.of one.called (inr (λ same. omega (arith, same, below))) is);
    }
  where
    writes :
        (r : Pass) → (one : CallsOnWord h p (write b.place b.need first word) reply.Wrote r) → HasWritten h r b (suc first) words q
        → (k : ℕ) → k < length (word ∷ words) → word_in q b.place (first + k) ≡ Some (slice_index (word ∷ words) k)
    writes r one more zero below =
        let here : first ≡ first + 0 = omega arith in
        subst (λ i. word_in q b.place i ≡ Some word) here
        (more.stays first word (omega arith) (wrote-word h p r b.place b.need first word 0 one.of one.called))
    writes r one more (suc k) below =
        let next : suc first + k ≡ first + suc k = omega arith in
        subst (λ i. word_in q b.place i ≡ Some (slice_index words k)) next (more.wrote k (omega (arith, below)))

-- three words are these
pub three-words : (words : List ℕ) → length words ≡ 3 → words ≡ slice_index words 0 ∷ slice_index words 1 ∷ slice_index words 2 ∷ []
three-words (x ∷ y ∷ z ∷ []) long = refl
three-words [] long = absurd (omega (arith, long))
three-words (x ∷ []) long = absurd (omega (arith, long))
three-words (x ∷ y ∷ []) long = absurd (omega (arith, long))
three-words (x ∷ y ∷ z ∷ w ∷ more) long = absurd (omega (arith, long))

-- a record is read: how many words there are, and then these
pub record-read :
    (h : HeapFields) (p q r : Pass) (b : Block) (n : ℕ) (ws : List ℕ) → IsOf h p → Owns p b → IsOf h q → (called : HasCalled p (read b.place b.need 0) 0 (reply.Word n) q)
    → IsContents q b.place 0 n → LeadsBy (CallsOnWord h) q (found_from b.place b.need 1 ws) r → length ws ≡ n
    → KeepsWords h p r × LedBy h p (record_reads b ws) r × ((words : List ℕ) → IsRecord p b words → ws ≡ words)
record-read h p q r b n ws was owns of called contents leads many =
    let one = read-reads h p q b.place 0 n b.need was owns of called in
    let x = slice-reads h q b 1 ws r of called.idle (same-owns p q b one.same one.rests.caller one.rests.lent owns) leads in (
      reads-on h p q r one x.keeps,
      subst (λ k. LedBy h p (answered (read b.place b.need 0) (reply.Word k) ∷ found_from b.place b.need 1 ws) r) (sym many)
          (q, (called, owns, (of, called.idle)), x.led),
      λ words is.
          let counted : n ≡ length words = read-word h p q b.place b.need 0 0 n (length words) of called contents is.counted in
          words-one ws words (many ∙ counted)
          (λ i below.
          let g = got words i (omega (arith, below, many, counted)) in
          let next : suc i ≡ 1 + i = omega arith in
          let there : word_in q b.place (1 + i) ≡ Some g.0 =
          ap (λ o. word_of o (1 + i)) (one.same b.place)
          ∙ (subst (λ k. word_in p b.place k ≡ slice_get words i) next (is.each i (omega (arith, below, many, counted))) ∙ g.1) in
          slice_get-get_or ws i 0 below ∙ ap (λ (v : ℕ). Some v) (x.found i g.0 below there) ∙ sym g.1),
    )
