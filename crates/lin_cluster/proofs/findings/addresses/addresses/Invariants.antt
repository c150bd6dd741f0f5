use Rattle.std.proofs.Common.{◌≡◌, take}
use Rattle.std.specs.List.{filter_map}
use Rattle.lin_cluster.specs.Addresses.{block_address}
use Rattle.lin_cluster.proofs.findings.addresses.addresses.Given as goal

abbrev pub invariant-loop-block : goal.invariant-loop-block
invariant-loop-block l = l.addresses.items ≡ filter_map (block_address l.known) (take l.block-index l.blocks)
