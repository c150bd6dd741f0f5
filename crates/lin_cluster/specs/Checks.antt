-- What a refusal of a description says.
use Rattle.std.specs.Prelude.{◌≡◌, ◌≢◌, List, []}
use Rattle.lin_cluster.specs.Findings.{candidates, AreFindings}
use Rattle.lin_cluster.specs.declared.finding.CheckFault.{CheckFault}
use Rattle.lin_cluster.specs.declared.finding.CheckFault.TheVariants.{Findings, OutOfMemory}
use Rattle.lin_cluster.specs.declared.finding.Finding.{Finding}
use Rattle.lin_parts.specs.declared.description.Description.{Description}

-- all that is found, which is something, and no other list is that; out of memory says nothing of
-- the description
abbrev pub IsCheckFault : Description → CheckFault → Type 0
IsCheckFault d (Findings found) =
    AreFindings d found × (candidates d ≢ [])
    × ((other : List Finding) → AreFindings d other → other ≡ found)
IsCheckFault d OutOfMemory = Unit {0}
