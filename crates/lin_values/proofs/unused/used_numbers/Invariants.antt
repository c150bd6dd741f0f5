use Rattle.std.proofs.Common.{◌≡◌, ℕ, take}
use Rattle.std.specs.Prelude.{nat_eq}
use Rattle.std.specs.List.{list_any}
use Rattle.indexmap.specs.IndexSet.{contains}
use Rattle.lin_values.specs.Gathered.{encoding_in}
use Rattle.lin_values.specs.Unused.{is_raw_number}
use Rattle.lin_values.proofs.unused.used_numbers.Given as goal

abbrev pub invariant-loop-signal : goal.invariant-loop-signal
invariant-loop-signal l = (n : ℕ) → contains nat_eq l.used n ≡ list_any (λ s. is_raw_number n (encoding_in l.named.map s.name.text)) (take l.signal-index l.signals)
