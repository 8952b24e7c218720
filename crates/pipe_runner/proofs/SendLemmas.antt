-- A sender sends one message more.
use Rattle.std.proofs.Common.{ℕ, suc, ◌≡◌, ◌<◌, ◌+◌, ◌++◌, List, [], ◌∷◌, refl, sym, ap, ◌∙◌, subst, inl, inr, arith}
use Rattle.std.specs.Prelude.{All, count_by}
use Rattle.std.proofs.lemmas.Bool.{cases_eq}
use Rattle.std.proofs.lemmas.List.Elements.{All-append, All-cons, All-head, All-nil, All-tail}
use Rattle.pool_model.specs.declared.event.Event.{Event}
use Rattle.pool_model.specs.declared.event.Event.TheVariants.{Alloc, Looked, Refuse, Free, Write, Put, Take, TakeNone}
use Rattle.pool_model.specs.Histories.{own}
use Rattle.pool_model.specs.Parcels.{Parcel, parcel_of, parcels_in}
use Rattle.pool_model.specs.Pool.{Block as PoolBlock}
use Rattle.pool_model.proofs.HistoryLemmas.{EachAfter-push}
use Rattle.shelf_laws.specs.Quiet.{IsQuiet, IsQuietAfter, is_put_of, sender_of, sent, turn_of}
use Rattle.shelf_laws.proofs.GrowLemmas.{count-more, parcels-add, parcels-none}
use Rattle.shelf_laws.proofs.OwnLemmas.{from-sender, puts-own}
use Rattle.shelf_laws.proofs.PipeLemmas.{put-is, put-turn, turn-home}
use Rattle.live_heap.specs.Heaps.{HeapFields}
use Rattle.live_heap.specs.declared.pass.Pass.{Pass}
use Rattle.live_heap.specs.Passes.{seen}
use Rattle.pipe_runner.specs.Messages.{contents_of, message_of, messages}
use Rattle.pipe_runner.specs.Moves.{PassGoesOn, StaysHome}
use Rattle.pipe_runner.specs.Senders.{HasSent, IsBetween, PutsWithin}
use Rattle.pipe_runner.proofs.HandLemmas.{IsHandedAt}
use Rattle.pipe_runner.proofs.MessageLemmas.{contents-push}
use Rattle.pipe_runner.proofs.MoveLemmas.{goes-own, goes-quiet, goes-sent, goes-turns}

-- what HasSent says of the events seen
pub record HasSentIn (passed : ℕ → ℕ → Type 0) (senders start count c : ℕ) (events : List Event) : Type 0 where
  pub quiet : IsQuiet senders 8 (own c events)
  pub within : All (PutsWithin senders) (own c events)
  pub puts : count_by (is_put_of 8 c) (own c events) ≡ count
  pub contents : contents_of (sent 8 c events) ≡ messages start c count
  pub passed_gate : (i : ℕ) → i < count → passed c i

home-within : (senders : ℕ) (event : Event) → StaysHome event → PutsWithin senders event
home-within senders (Alloc caller need place) home = tt
home-within senders (Looked caller class) home = tt
home-within senders (Refuse caller need) home = tt
home-within senders (Free caller place) home = tt
home-within senders (Write caller place i v) home = tt
home-within senders (Put caller place shelf) home = absurd home
home-within senders (Take caller shelf place) home = absurd home
home-within senders (TakeNone caller shelf) home = tt

pub all-within : (senders : ℕ) (events : List Event) → All StaysHome events → All (PutsWithin senders) events
all-within senders [] home = All-nil (PutsWithin senders)
all-within senders (event ∷ events) home =
    All-cons (PutsWithin senders) event events (home-within senders event (All-head StaysHome event events home))
    (all-within senders events (All-tail StaysHome event events home))

pub goes-within :
    (senders : ℕ) (p q : Pass) → PassGoesOn p q → All (PutsWithin senders) (own p.errand.caller (seen p))
    → All (PutsWithin senders) (own p.errand.caller (seen q))
goes-within senders p q g within =
    let c = p.errand.caller in
    subst (All (PutsWithin senders)) (sym (goes-own p q g))
    (All-append (PutsWithin senders) (own c (seen p)) (own c g.more) within (all-within senders (own c g.more) g.home))

pub sent-goes :
    (passed : ℕ → ℕ → Type 0) (h : HeapFields) (senders start count : ℕ) (p q : Pass) → p.errand.caller < senders → HasSent passed h senders start count p
    → PassGoesOn p q → HasSentIn passed senders start count p.errand.caller (seen q)
sent-goes passed h senders start count p q below has g = record {
  quiet = goes-quiet senders 8 p q g has.between.quiet;
  within = goes-within senders p q g has.between.within;
  puts = (goes-turns senders 8 p.errand.caller p q (omega arith) below g).0 ∙ has.puts;
  contents = ap contents_of (goes-sent 8 p.errand.caller p q refl g) ∙ has.contents;
  passed_gate = has.passed_gate;
}

-- a sender has sent one more message, with the put of it on its next shelf
pub sent-more :
    (passed : ℕ → ℕ → Type 0) (senders start count c place shelf : ℕ) (h now : List Event) (b : PoolBlock) → c < senders
    → HasSentIn passed senders start count c h → passed c count → shelf ≡ turn_of 8 c count → b.contents ≡ message_of start c count
    → IsHandedAt c h now (Put c place shelf) place b → HasSentIn passed senders start (count + 1) c now
sent-more passed senders start count c place shelf h now b below has gate turn words at =
    let event = Put c place shelf in
    let mine = own c h in
    let one : suc count ≡ count + 1 = omega arith in
    let home : sender_of 8 shelf ≡ c = ap (sender_of 8) turn ∙ turn-home 8 c count (omega arith) in
    let next : IsQuietAfter senders 8 mine event =
    subst (λ (k : ℕ). IsQuietAfter senders 8 mine (Put c place k)) (ap (turn_of 8 c) has.puts ∙ sym turn) (put-turn senders 8 c place mine (omega arith)) in
    let none : count_by (is_put_of 8 c) at.more ≡ 0 = sym (puts-own 8 c at.more) ∙ ap (count_by (is_put_of 8 c)) at.others in
    let list : sent 8 c now ≡ sent 8 c h ++ parcel_of b ∷ [] =
    ap (sent 8 c) at.grows ∙ parcels-add (is_put_of 8 c) (h ++ at.more) event (parcel_of b) (put-is 8 c place shelf home) (ap parcels_in at.there)
    ∙ ap (λ (l : List Parcel). l ++ parcel_of b ∷ []) (parcels-none (is_put_of 8 c) h at.more none) in
    let whole : contents_of (sent 8 c now) ≡ messages start c (suc count) =
    ap contents_of list ∙ contents-push (sent 8 c h) (parcel_of b) ∙ ap (λ (l : _). l ++ b.contents ∷ []) has.contents
    ∙ ap (λ (x : _). messages start c count ++ x ∷ []) words in
    record {
      quiet = subst (IsQuiet senders 8) (sym at.own_more) (EachAfter-push (IsQuietAfter senders 8) mine event has.quiet next);
      within = subst (All (PutsWithin senders)) (sym at.own_more)
          (All-append (PutsWithin senders) mine (event ∷ []) has.within
          (All-cons (PutsWithin senders) event [] (from-sender senders 8 c shelf (omega arith) below home) (All-nil (PutsWithin senders))));
      puts = ap (count_by (is_put_of 8 c)) at.own_more ∙ count-more (is_put_of 8 c) mine event (put-is 8 c place shelf home) ∙ ap (λ (n : ℕ). n + 1) has.puts;
      contents = whole ∙ ap (messages start c) one;
      passed_gate = λ i lt. elim (cases_eq i count) [
        | inl same ↦ subst (passed c) (sym same) gate
        | inr other ↦ has.passed_gate i (omega (arith, lt, other))
      ];
    }

pub sent-ends :
    (passed : ℕ → ℕ → Type 0) (h : HeapFields) (senders start count c : ℕ) (q : Pass) → q.errand.caller ≡ c → IsBetween h senders q
    → HasSentIn passed senders start count c (seen q) → HasSent passed h senders start count q
sent-ends passed h senders start count c q caller between has =
    let at : HasSentIn passed senders start count q.errand.caller (seen q) =
    subst (λ (k : ℕ). HasSentIn passed senders start count k (seen q)) (sym caller) has in
    record { between = between; puts = at.puts; contents = at.contents; passed_gate = at.passed_gate }
