-- Faults as text, with the names of nodes.
use Rattle.std.specs.Prelude.{ℕ, nat_lt, if◌then◌else◌, List, [], ◌∷◌, ◌++◌, codes, flat_map, Option, Some, None}
use Rattle.std.specs.Fmt.{decimal}
use Rattle.lin_parts.specs.Cluster.{node_of}
use Rattle.lin_parts.specs.declared.parts.Parts.{Parts}
use Rattle.lin_bench.specs.declared.faults.FaultKind.{FaultKind}
use Rattle.lin_bench.specs.declared.faults.FaultKind.TheVariants.{Damage, Absent}
use Rattle.lin_bench.specs.declared.faults.SlotFault.{SlotFault}

abbrev pub slots_text : ℕ → Option ℕ → List ℕ
slots_text first None = decimal first ++ codes ".."
slots_text first (Some last) =
    if nat_lt first last then decimal first ++ (codes ".." ++ decimal last) else decimal first

abbrev pub kind_text : Parts → FaultKind → List ℕ
kind_text c Damage = codes ":damage"
kind_text c (Absent n) = codes ":absent:" ++ (node_of c n).name

abbrev pub fault_text : Parts → SlotFault → List ℕ
fault_text c f = slots_text f.first f.last ++ kind_text c f.kind

abbrev pub faults_text : Parts → List SlotFault → List ℕ
faults_text c [] = codes "-"
faults_text c (f ∷ fs) = fault_text c f ++ flat_map (λ g. codes "+" ++ fault_text c g) fs
