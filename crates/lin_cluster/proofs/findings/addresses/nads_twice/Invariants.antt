use Rattle.std.proofs.Common.{◌≡◌, ◌++◌, ℕ, take}
use Rattle.std.specs.Prelude.{◌==◌, nat_eq}
use Rattle.std.specs.List.{flat_map, list_any}
use Rattle.std.specs.List.{enumerate_from}
use Rattle.indexmap.specs.IndexSet.{contains}
use Rattle.lin_cluster.specs.Addresses.{nad_twice}
use Rattle.lin_cluster.proofs.findings.addresses.nads_twice.Given as goal

abbrev pub invariant-loop-nad : goal.invariant-loop-nad
invariant-loop-nad l = record {
  twice : l.found.items ≡ l.fn.found.items ++ flat_map (nad_twice l.nads) (take l.nad-index (enumerate_from 0 l.nads));
  earlier : (q : ℕ) → contains nat_eq l.earlier q ≡ list_any (λ y. y.value == q) (take l.nad-index l.nads);
}
