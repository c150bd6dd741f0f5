use Rattle.std.proofs.Common.{◌∙◌, ◌++◌, sym, ap, append-nil}
use Rattle.lin_bench.specs.RulesInForce.{off_lines_of}
use Rattle.lin_bench.proofs.RulesInForce.{lines-next, off-default, off-kept}
use Rattle.lin_bench.proofs.rules_in_force.add_offs.Goals as goal
use Rattle.lin_bench.proofs.rules_in_force.add_offs.Goals.{then-is_off+in_ok-add_line, else-is_off}

pub loop-node-preserved : goal.loop-node-preserved
loop-node-preserved c =
    let cluster = c.args.cluster.now in
    let offs = c.args.offs.now in
    let at = c.loop-node in
    let of = off_lines_of cluster offs in
    let first = c.args.lines.now.items in
    elim c.if-is_off.branch [
      | then-is_off+in_ok-add_line w ↦
          rw w.lines-is
          (lines-next of at.node first at.lines.items w.add_line.new.lines.items at.invariant
          (w.in_ok-add_line.ensures ∙ ap (λ l. at.lines.items ++ l) (off-kept cluster offs at.node (sym c.is_off.ensures ∙ w.if-is_off.true))))
      | else-is_off w ↦
          rw w.lines-is
          (lines-next of at.node first at.lines.items at.lines.items at.invariant
          (sym (append-nil at.lines.items) ∙ ap (λ l. at.lines.items ++ l) (off-default cluster offs at.node (sym c.is_off.ensures ∙ w.if-is_off.false))))
    ]
