use Rattle.std.proofs.Common.{◌≡◌, map, take}
use Rattle.lin_sections.specs.Requests.{frames_in}
use Rattle.lin_sections.specs.declared.identities.ConfigurableFrame.{ConfigurableFrame}
use Rattle.lin_parts.specs.Cluster.{node_of}
use Rattle.lin_sections.proofs.configuring.identity_in.Given as goal

abbrev pub invariant-loop-frame : goal.invariant-loop-frame
invariant-loop-frame l = l.messages.items ≡ map (λ (f : ConfigurableFrame). f.message) (take l.frame-index (frames_in l.identities (node_of l.cluster l.node).name))
