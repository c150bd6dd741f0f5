use Rattle.std.proofs.Common.{◌≡◌, drop, flat_map}
use Rattle.lin_frame.specs.Words.{numbers}
use Rattle.lin_sections.specs.Configuring.{identity_at}
use Rattle.lin_sections.proofs.configuring.identities_in.Given as goal

abbrev pub invariant-loop-node : goal.invariant-loop-node
invariant-loop-node l = l.all.items ≡ flat_map (identity_at l.cluster l.identities) (drop 1 (numbers l.node))
