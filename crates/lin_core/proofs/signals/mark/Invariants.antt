use Rattle.std.proofs.Common.{◌≡◌, ℕ, false, true, length, take}
use Rattle.std.specs.Prelude.{slice_index_or, if◌then◌else◌}
use Rattle.lin_core.specs.History.{is_in}
use Rattle.lin_core.proofs.signals.mark.Given as goal

abbrev pub invariant-loop-frame : goal.invariant-loop-frame
invariant-loop-frame l = record {
  count : length l.pending.items ≡ length l.fn.pending.items;
  flags : (f : ℕ) → slice_index_or l.pending.items f false ≡ (if is_in (take l.frame-index l.frames) f then true else slice_index_or l.fn.pending.items f false);
}
