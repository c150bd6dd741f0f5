use Rattle.std.proofs.Common.{◌≡◌, ◌++◌, map}
use Rattle.lin_sections.specs.TransferLimits.{limits_of}
use Rattle.lin_sections.proofs.transfer_limits.limits_of_all.Given as goal

abbrev pub invariant-loop-block : goal.invariant-loop-block
invariant-loop-block l = record {
  kept : l.all.items ≡ map limits_of l.yielded;
  whole : l.yielded ++ l.block-iterator.rest.items ≡ l.fn.blocks.items;
}
