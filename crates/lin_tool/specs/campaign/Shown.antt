-- What formats show of a row of a campaign.
use Rattle.std.specs.Prelude.{ℕ, List, [], ◌∷◌, ◌++◌, Option}
use Rattle.lin_core.specs.declared.log.LogEntry.{LogEntry}
use Rattle.lin_bench.specs.declared.faults.SlotFault.{SlotFault}
use Rattle.lin_bench.specs.declared.got.Judgement.{Judgement}
use Rattle.lin_tool.specs.declared.campaign.row.Row.{Row}
use Rattle.lin_tool.specs.declared.campaign.shown.ShownRow.{ShownRow}
use Rattle.lin_tool.specs.declared.campaign.singles.Single.{Single}

-- a row with its number and its faults, of which the only one may be a single fault, and the log and the
-- judgements of its play, with what values mean in them
pub record RowData : Type 0 where
  pub number : ℕ
  pub faults : List SlotFault
  pub single : Option Single
  pub row : Row
  pub log : List LogEntry
  pub judgements : List Judgement

abbrev pub row_data : ShownRow → RowData
row_data s = record {
  number = s.number;
  faults = s.faults.now;
  single = s.single;
  row = s.row.now;
  log = s.core.now.log;
  judgements = s.judgements.now;
}
