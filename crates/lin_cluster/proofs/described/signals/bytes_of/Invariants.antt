use Rattle.std.proofs.Common.{◌≡◌, map, take}
use Rattle.lin_parts.specs.declared.description.Number.{Number}
use Rattle.lin_cluster.proofs.described.signals.bytes_of.Given as goal

abbrev pub invariant-loop-item : goal.invariant-loop-item
invariant-loop-item l = l.bytes.items ≡ map (λ (n : Number). n.value) (take l.item-index l.items)
