-- A walk that has the thread's token from the call to the return. Assumes `Logic`.
use Rattle.std.proofs.Common.{ℕ, zero, suc, List, [], ◌∷◌, subst}
use seplogic.Ra.Ura.{Ura}
use mir.Syntax.{Fn, Callee}
use base.Logic.{ent, via, fst∗, snd∗}
use base.Mask.{every}
use prog.Wp.{Calls, Loops, WpFn, Tables}
use prog.Model.{Model}
use prog.Routine.{over, ◌≼⁺◌}
use types.Logic.{Logic, sem}
use contract.Monad.{fact_use}
use contract.Running.{Running, tables_of, bare_tables}
use contract.Beside.{Carries}
use contract.Named.{bare_unfolds}
use sound.WpLaws.{WpFn-mono}
use denote.RattleType.{owns}
use denote.Laws.{Ises, Are, owns_show, showss}
use denote.Builtin.{unit}
use denote.Signature.{Slot, plain, types_at}
use denote.Triple.Clauses.{Ended, Clauses, closing}
use denote.Triple.Entry.{on_entry, alive}
use denote.Triple.Spec.{Meets, triple_of}
use denote.Triple.Table.{entered}
use denote.Triple.Handed.{holding, hands}
use denote.Triple.Walked.{Stays, AllGo, walk_of, walk_Meets}

-- the parameter of this number
abbrev pub param_at : {n : ℕ} → ℕ → List (Slot n) → Slot n
param_at k [] = plain (λ _. unit)
param_at zero (s ∷ ss) = s
param_at (suc k) (s ∷ ss) = param_at k ss

module _ {M : Type 1} {𝓤 : Ura M} (𝓛 : Logic 𝓤) (E : Ended) (stays : Stays E.signature.params E.kept) (c : Clauses 𝓤 E) where
  open 𝓛 use {H, A}

  -- the same clauses beside the token
  abbrev pub with_token : Clauses 𝓤 E
  with_token = holding 𝓤 E (A.tok every) c

  pub proved_with_token : (𝓜 : Model 𝓤 H) (𝓡 : Running 𝓤 H 𝓜) → AllGo 𝓛 E.signature.lifetimes E.signature.params E.kept stays
      → (k : Callee) (e : Fn) → over 𝓡.env e ≼⁺ 𝓡.env k
      → ((C : Calls 𝓤 H) (Λ : Loops 𝓤 H) (y : (walk_of 𝓛 E stays with_token).Ghost)
      → Are (types_at E.signature.params y.0.0) (Ises (types_at E.signature.params y.0.0)) y.0.3 y.0.4
      → ent 𝓤 ((walk_of 𝓛 E stays with_token).pre y) (WpFn 𝓤 H C Λ e ((walk_of 𝓛 E stays with_token).args y) ((walk_of 𝓛 E stays with_token).post y)))
      → Meets 𝓛 E.signature (𝓡.run (𝓡.env k)) (closing 𝓛 E c)
  unfolding tables_of
  proved_with_token 𝓜 𝓡 go k e is walk =
      let S = E.signature in
      let W = walk_of 𝓛 E stays with_token in
      let carried : Carries 𝓤 H 𝓜 (A.tok every) = subst (Carries 𝓤 H 𝓜) 𝓛.turn_is 𝓡.carries in
      let 𝓣 : Tables 𝓤 H = tables_of 𝓤 H carried.inner (bare_tables 𝓤 H carried.inner 𝓡.allowed 𝓡.how 𝓡.env) in
      let told : (y : W.Ghost) → ent 𝓤 (W.pre y) (sem 𝓛 (owns (types_at S.params y.0.0) y.0.3 y.0.4)) = λ y.
      let entry = on_entry 𝓛 S y.0.0 y.0.1 y.0.3 y.0.4 in
      via 𝓤 entry (fst∗ 𝓤 entry ((with_token y.0.0 y.0.3).requires y.1)) (snd∗ 𝓤 (alive 𝓛 S y.0.0 y.0.1) (sem 𝓛 (owns (types_at S.params y.0.0) y.0.3 y.0.4))) in
      hands 𝓛 E (A.tok every) c 𝓜 carried 𝓡 (𝓡.env k)
      (entered 𝓤 H (triple_of 𝓛 S (closing 𝓛 E with_token)) 𝓣.C 𝓣.Λ k e (bare_unfolds 𝓤 H carried.inner 𝓡.allowed 𝓡.how 𝓡.env k e is)
      (walk_Meets 𝓛 E stays go with_token (WpFn 𝓤 H 𝓣.C 𝓣.Λ e) (WpFn-mono 𝓤 H 𝓛.laws 𝓣 e) (λ y.
      let Rs = types_at S.params y.0.0 in
      fact_use 𝓤 (Are Rs (Ises Rs) y.0.3 y.0.4) (via 𝓤 (sem 𝓛 (owns Rs y.0.3 y.0.4)) (told y) (owns_show 𝓛 Rs (Ises Rs) (showss 𝓛 Rs) y.0.3 y.0.4)) (walk 𝓣.C 𝓣.Λ y))))
