use Rattle.std.proofs.Common.{◌≤◌, ◌<◌, List, length, subst, sym, ap, ◌∙◌}
use Rattle.std.specs.List.{position_or_len}
use Rattle.std.specs.Str.{bytes_eq}
use Rattle.lin_cluster.specs.FindingsNames.{same_name}
use Rattle.lin_cluster.proofs.FindingsNodes.{responder-numbered, no-node}
use Rattle.lin_cluster.proofs.findings.known.Known.node.Goals as goal
use Rattle.lin_parts.specs.declared.description.Name.{Name}

pub returns-then-number-slaves : goal.returns-then-number-slaves
returns-then-number-slaves c =
    rw (← c.self.view_is) (responder-numbered c.self.inside.description.now c.args.name.now c.number_by-number.result
    ((λ i. bytes_eq (sym c.as_slice.ensures i) (sym c.as_slice-2.ensures i)) ∙ sym c.eq.ensures ∙ c.if-eq.false)
    (c.number_by-number.ensures ∙ ap (position_or_len (λ (x : Name). same_name x c.args.name.now)) c.slaves-slaves.ensures.value)
    (subst (λ (xs : List Name). c.number_by-number.result < length xs) c.slaves-slaves.ensures.value c.if-number-slaves.true))

pub returns-else-number-slaves : goal.returns-else-number-slaves
returns-else-number-slaves c =
    rw (← c.self.view_is) (no-node c.self.inside.description.now c.args.name.now c.number_by-number.result
    ((λ i. bytes_eq (sym c.as_slice.ensures i) (sym c.as_slice-2.ensures i)) ∙ sym c.eq.ensures ∙ c.if-eq.false)
    (c.number_by-number.ensures ∙ ap (position_or_len (λ (x : Name). same_name x c.args.name.now)) c.slaves-slaves.ensures.value)
    (subst (λ (xs : List Name). length xs ≤ c.number_by-number.result) c.slaves-slaves.ensures.value c.if-number-slaves.false))
