use Rattle.std.proofs.Common.{◌≤◌, ◌-◌, [], length}
use Rattle.lin_bench.specs.Files.{source_data}
use Rattle.lin_tool.specs.Playing.{AreMissing}
use Rattle.lin_tool.proofs.plays.included_files.Given as goal

abbrev pub invariant-files : goal.invariant-files
invariant-files g l = record {
  missing : AreMissing (source_data l.source) [] l.files.items;
  few : length l.files.items ≤ 1000000;
}

abbrev pub decreases-files : goal.decreases-files
decreases-files g l = 1000000 - length l.files.items
