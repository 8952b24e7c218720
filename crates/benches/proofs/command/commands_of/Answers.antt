use Rattle.std.proofs.Common.{◌≡◌, List, ◌++◌, [], ◌∷◌, All, sym, subst}
use Rattle.std.proofs.lemmas.List.Elements.{All-push}
use Rattle.heap_geometry.specs.Geometry.{IsChecked}
use Rattle.benches.specs.declared.command.Command.{Command}
use Rattle.benches.proofs.command.commands_of.Goals as goal

pub loop-own-preserved : goal.loop-own-preserved
loop-own-preserved c =
    let P : Command → Type 0 = λ command. IsChecked command.geometry in
    let before = c.loop-own.commands.items in
    let own = c.in-Some-command_of in
    let items : c.push.new.self.items ≡ before ++ own.command ∷ [] = c.in_ok-push.ensures.items in
    record {
      checked = subst (λ (l : List Command). All P l) (sym items) (All-push P before own.command c.loop-own.invariant.checked own.ensures);
    }
