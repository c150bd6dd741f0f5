use Rattle.std.proofs.Common.{◌∙◌, ◌++◌, sym, ap, append-nil}
use Rattle.lin_bench.proofs.RulesInForce.{state-default, state-kept, states-next}
use Rattle.lin_bench.proofs.rules_in_force.add_states.Goals as goal
use Rattle.lin_bench.proofs.rules_in_force.add_states.Goals.{in-Some+in_ok-add_line, in_default}

pub loop-node-preserved : goal.loop-node-preserved
loop-node-preserved c =
    let cluster = c.args.cluster.now in
    let states = c.args.states.now in
    let at = c.loop-node in
    let first = c.args.lines.now.items in
    elim c.match-kept_state.branch [
      | in-Some+in_ok-add_line w ↦
          rw w.lines-is
          (states-next cluster states at.node first at.lines.items w.add_line.new.lines.items at.invariant
          (w.in_ok-add_line.ensures ∙ ap (λ l. at.lines.items ++ l) (state-kept cluster states at.node w.in-Some.state.now w.in-Some.ensures)))
      | in_default w ↦
          rw w.lines-is
          (states-next cluster states at.node first at.lines.items at.lines.items at.invariant
          (sym (append-nil at.lines.items) ∙ ap (λ l. at.lines.items ++ l) (state-default cluster states at.node w.in_default.ensures)))
    ]
