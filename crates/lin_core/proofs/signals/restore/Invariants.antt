use Rattle.std.proofs.Common.{◌≡◌, ℕ, false, length, take}
use Rattle.std.specs.Prelude.{◌||◌, slice_index_or}
use Rattle.lin_core.specs.kept.Signals.{is_cleared}
use Rattle.lin_core.proofs.signals.restore.Given as goal

abbrev pub invariant-loop-put : goal.invariant-loop-put
invariant-loop-put l = record {
  count : length l.pending.items ≡ length l.fn.pending.items;
  flags : (f : ℕ) → slice_index_or l.pending.items f false ≡ (slice_index_or l.fn.pending.items f false || is_cleared (take l.put-index l.puts) f);
}
