use Rattle.std.proofs.Common.{◌≡◌, ◌++◌, map, take}
use Rattle.lin_cluster.specs.FindingsNames.{at_name}
use Rattle.lin_cluster.specs.Kinds.{finding_at}
use Rattle.lin_cluster.specs.declared.finding.FindingKind.TheVariants.{ExtraMark, HeaderLine}
use Rattle.lin_field.proofs.normalizing.header_warnings.Given as goal

abbrev pub invariant-loop-mark : goal.invariant-loop-mark
invariant-loop-mark l = l.warned.items ≡ map (λ t. finding_at ExtraMark t.line t.column) (take l.mark-index l.marks)

abbrev pub invariant-loop-word : goal.invariant-loop-word
invariant-loop-word l =
    l.warned.items ≡ l.initial.warned.items ++ map (at_name HeaderLine) (take l.word-index l.header.unknown)
