use Rattle.std.proofs.Common.{◌≡◌, drop}
use Rattle.lin_sections.specs.TransferLimits.{first_time}
use Rattle.lin_sections.proofs.transfer_limits.first_time.Given as goal

abbrev pub invariant-loop-attribute : goal.invariant-loop-attribute
invariant-loop-attribute l =
    first_time l.word l.attributes ≡ first_time l.word (drop l.attribute-index l.attributes)
