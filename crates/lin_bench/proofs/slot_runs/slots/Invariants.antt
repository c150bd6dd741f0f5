use Rattle.std.proofs.Common.{◌≡◌, ◌-◌, length}
use Rattle.std.specs.Prelude.{option_map}
use Rattle.lin_core.specs.Core.{past_of}
use Rattle.lin_core.specs.History.{time}
use Rattle.lin_bench.specs.Making.{ending_of, ends_at}
use Rattle.lin_bench.specs.Searches.{IsSearchState, taken_by}
use Rattle.lin_bench.specs.Slots.{most}
use Rattle.lin_bench.specs.Watches.{IsWatch}
use Rattle.lin_bench.proofs.SlotSteps.{AreBegun}
use Rattle.lin_bench.proofs.slot_runs.slots.Given as goal

abbrev pub invariant-loop : goal.invariant-loop
invariant-loop l = record {
  begun :
      AreBegun l.fn.ruled l.how l.ends.extent (ends_at l.fn.ruled.core.cluster l.fn.ruled.core.opening (taken_by l.fn.ruled.core.log l.fn.taken) (length (past_of l.fn.ruled.core)) (option_map ending_of l.ends.ending)) l.fn.left l.ruled
      (most l.ends.extent - l.counter) l.left;
  began : l.start.time ≡ time l.fn.ruled.core.cluster (past_of l.fn.ruled.core);
  entries : l.start.entries ≡ length (past_of l.fn.ruled.core);
  taken : taken_by l.ruled.core.log l.taken ≡ taken_by l.fn.ruled.core.log l.fn.taken;
  known : IsSearchState l.ruled.core.log l.taken;
  watch : IsWatch l.ruled.core.cluster l.ruled.core.log l.watch;
}
