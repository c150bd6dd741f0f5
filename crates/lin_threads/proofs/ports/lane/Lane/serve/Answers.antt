use Rattle.std.proofs.Common.{◌≡◌, ◌++◌, ◌∷◌, [], refl, sym, ap, ◌∙◌, subst, List}
use Rattle.lin_core.specs.Core.{entry_with_reply}
use Rattle.lin_core.specs.declared.log.LogEntry.{LogEntry}
use Rattle.lin_threads.specs.Lanes.{Serves}
use Rattle.lin_threads.specs.declared.ports.lane.Lane.{Lane}
use Rattle.lin_threads.proofs.LaneLemmas.{serves_own}
use Rattle.lin_threads.proofs.ports.lane.Lane.serve.Goals as goal

pub returns-clause-serves : goal.returns-clause-serves
returns-clause-serves c base s =
    let lane : Lane = record c.args.self.now { steps = c.pop.new.self } in
    let e : LogEntry = entry_with_reply c.make_room.new.self c.port-port.result c.in-Some.step in
    let log : c.step.new.self.log ≡ c.args.core.now.log ++ e ∷ [] = c.in-Ok.ensures.stepped.0 ∙ ap (λ (xs : List LogEntry). xs ++ e ∷ []) c.make_room.ensures.log in
    subst (λ (l : List LogEntry). Serves base l lane) (sym log)
    (serves_own base c.args.core.now.log e c.args.self.now lane s c.port-port.ensures
    (c.in-Some.ensures.same.0 c.args.self.now.number) c.in-Some.ensures.some refl refl refl refl)
