-- A step whose word and errand weigh together what they weighed before changes nothing that is shown.
use Rattle.std.proofs.Common.{ℕ, ◌≡◌, ◌<◌, ◌≤◌, ◌+◌, refl, arith, ap}
use Rattle.sound_state.proofs.Common.{Geometry, anchor_of, WordName, descriptor_count, Exists, Writes, ErrandFields, State, Moves, errand_frames, waiting, on_its_way}
use Rattle.sound_state.proofs.Common.{word_keeps, errand_has, full_keeps, Lists, word_stock, errand_stock, full_stock, sum_below, word_reserves, errand_reserves}
use Rattle.sound_state.proofs.Common.{errand_keeps, errand_away, away_of, is_bound, emptied_out, IsPlain}
use Rattle.word_table.specs.declared.name.WordName.TheVariants as name
use Rattle.sound_state.proofs.shared.AlikeLemmas.{Alike}
use Rattle.sound_state.proofs.shared.SumLemmas.{words-written, callers-moved, sum-same}

-- the word is no active word and no slot
abbrev pub IsStill : WordName → Type 0
IsStill (name.Active heap class) = ⊥
IsStill (name.Slot heap class) = ⊥
IsStill n = Unit {0}

-- the word after the step and the new errand weigh what those before it did; a hazard word that the step writes may change
pub record WeighMost (n : WordName) (before after : ℕ) (a b : ErrandFields) : Type 0 where
  pub plain : IsPlain n → after ≡ before
  pub reserves : (d : ℕ) → word_reserves d n after + errand_reserves d b ≡ word_reserves d n before + errand_reserves d a
  pub waits : (d : ℕ) → errand_keeps waiting d b ≡ errand_keeps waiting d a
  pub ways : (d : ℕ) → errand_keeps on_its_way d b ≡ errand_keeps on_its_way d a
  pub away : (d : ℕ) → errand_away d b ≡ errand_away d a
  pub places : (d : ℕ) → word_keeps d n after + errand_has d b ≡ word_keeps d n before + errand_has d a
  pub frames : (f : ℕ) → errand_frames f b ≡ errand_frames f a
  pub stock : (class : ℕ) → word_stock class n after + errand_stock class b ≡ word_stock class n before + errand_stock class a

-- the word after the step and the new errand weigh what the word before it and the old errand did; no hazard word changes
pub record WeighAlike (n : WordName) (before after : ℕ) (a b : ErrandFields) : Type 0 where
  pub still : IsStill n → after ≡ before
  pub reserves : (d : ℕ) → word_reserves d n after + errand_reserves d b ≡ word_reserves d n before + errand_reserves d a
  pub waits : (d : ℕ) → errand_keeps waiting d b ≡ errand_keeps waiting d a
  pub ways : (d : ℕ) → errand_keeps on_its_way d b ≡ errand_keeps on_its_way d a
  pub away : (d : ℕ) → errand_away d b ≡ errand_away d a
  pub places : (d : ℕ) → word_keeps d n after + errand_has d b ≡ word_keeps d n before + errand_has d a
  pub frames : (f : ℕ) → errand_frames f b ≡ errand_frames f a
  pub stock : (class : ℕ) → word_stock class n after + errand_stock class b ≡ word_stock class n before + errand_stock class a

pub alike-most : (n : WordName) (before after : ℕ) (a b : ErrandFields) → WeighAlike n before after a b → WeighMost n before after a b
alike-most n before after a b h = grind (arith, h)

-- no hazard word changes where the write leaves its own, if that is one
pub hazards-stay :
    (words : WordName → ℕ) (n : WordName) (new : ℕ) (words' : WordName → ℕ) → Writes words n new words'
    → (IsStill n → new ≡ words n) → (i : ℕ) → words' (name.Hazard i) ≡ words (name.Hazard i)
hazards-stay words n new words' w still i = grind (arith, w, still)

-- words that are no active words, no slots and no hazard words stay
plain-same :
    (words : WordName → ℕ) (n : WordName) (new : ℕ) (words' : WordName → ℕ) → Writes words n new words'
    → (IsPlain n → new ≡ words n) → (m : WordName) → IsPlain m → words' m ≡ words m
plain-same words n new words' w still m plain = grind (arith, w, still, plain)

-- the descriptors that are away stay away, and no other one is
away-same :
    (g : Geometry) (s : State) (l : Lists) (caller : ℕ) (n : WordName) (before after : ℕ) (e : ErrandFields) (s' : State) → caller < g.callers
    → Moves s.errand caller e s'.errand → WeighMost n before after (s.errand caller) e → (d : ℕ) → away_of g s' l d ≡ away_of g s l d
away-same g s l caller n before after e s' has m weigh d =
    omega (arith, callers-moved g (errand_away d) s.errand caller e s'.errand has m, weigh.away d)

-- as many superblocks are FULL, where no anchor and no info word changes
pub full-same :
    (g : Geometry) (s s' : State) (class : ℕ) → ((d : ℕ) → s'.word (name.Anchor d) ≡ s.word (name.Anchor d))
    → ((d : ℕ) → s'.word (name.Info d) ≡ s.word (name.Info d))
    → sum_below (descriptor_count g) (full_stock s' class) ≡ sum_below (descriptor_count g) (full_stock s class)
full-same g s s' class anchor info = grind (arith, anchor, info, sum-same)

-- word and errand weigh what they did, but that an EMPTY superblock's descriptor may go away, and stand for its class no more
pub record WeighClose (n : WordName) (before after : ℕ) (a b : ErrandFields) : Type 0 where
  pub plain : IsPlain n → after ≡ before
  pub reserves : (d : ℕ) → word_reserves d n after + errand_reserves d b ≡ word_reserves d n before + errand_reserves d a
  pub waits : (d : ℕ) → errand_keeps waiting d b ≡ errand_keeps waiting d a
  pub ways : (d : ℕ) → errand_keeps on_its_way d b ≡ errand_keeps on_its_way d a
  pub places : (d : ℕ) → word_keeps d n after + errand_has d b ≡ word_keeps d n before + errand_has d a
  pub frames : (f : ℕ) → errand_frames f b ≡ errand_frames f a
  pub stock : (class : ℕ) → word_stock class n after + errand_stock class b ≤ word_stock class n before + errand_stock class a

-- a step that writes a word and tells nothing
module _
    (g : Geometry) (s : State) (l : Lists) (caller : ℕ) (n : WordName) (new : ℕ) (e : ErrandFields) (s' : State) (exists : Exists g n)
    (has : caller < g.callers) (w : Writes s.word n new s'.word) (m : Moves s.errand caller e s'.errand) (past : s'.history ≡ s.history) where
  pub weigh-close : ((d : ℕ) → is_bound g s' l d ≡ is_bound g s l d) → WeighClose n (s.word n) new (s.errand caller) e → Alike g s l s'
  weigh-close bound weigh =
      let plain = plain-same s.word n new s'.word w weigh.plain in
      let words = λ (weight : WordName → ℕ → ℕ). words-written g weight s.word n new s'.word exists w in
      let callers = λ (weight : ErrandFields → ℕ). callers-moved g weight s.errand caller e s'.errand has m in
      let anchor = λ (d : ℕ). ap anchor_of (plain (name.Anchor d) tt) in
      record {
        word = plain;
        history = past;
        reserved = λ d. omega (arith, words (word_reserves d), callers (errand_reserves d), weigh.reserves d);
        waits = λ d. omega (arith, callers (errand_keeps waiting d), weigh.waits d);
        ways = λ d. omega (arith, callers (errand_keeps on_its_way d), weigh.ways d);
        bound = bound;
        places = λ d.
            omega (arith, words (word_keeps d), callers (errand_has d), weigh.places d, ap (λ a. full_keeps a.state) (anchor d));
        frames = λ f. omega (arith, callers (errand_frames f), weigh.frames f);
        stock = λ stocked.
            record {
              most = λ class has.
                  omega (
                    arith,
                    words (word_stock class),
                    callers (errand_stock class),
                    weigh.stock class,
                    full-same g s s' class (λ d. plain (name.Anchor d) tt) (λ d. plain (name.Info d) tt),
                    stocked.most class has,
                  );
            };
      }

  pub weigh-alike : WeighMost n (s.word n) new (s.errand caller) e → Alike g s l s'
  weigh-alike weigh =
      let plain = plain-same s.word n new s'.word w weigh.plain in
      weigh-close
      (λ d. rw (away-same g s l caller n _ new e s' has m weigh d, ap anchor_of (plain (name.Anchor d) tt)) refl) (record {
        plain = weigh.plain;
        reserves = weigh.reserves;
        waits = weigh.waits;
        ways = weigh.ways;
        places = weigh.places;
        frames = weigh.frames;
        stock = λ class. omega (arith, weigh.stock class);
      })

-- as many superblocks are EMPTY and out
pub weigh-emptied :
    (g : Geometry) (s : State) (l : Lists) (caller : ℕ) (n : WordName) (new : ℕ) (e : ErrandFields) (s' : State) → caller < g.callers
    → Writes s.word n new s'.word → Moves s.errand caller e s'.errand → WeighMost n (s.word n) new (s.errand caller) e
    → sum_below (descriptor_count g) (emptied_out g s' l) ≡ sum_below (descriptor_count g) (emptied_out g s l)
weigh-emptied g s l caller n new e s' has w m weigh = grind (arith, has, w, m, weigh, plain-same, sum-same, away-same)
