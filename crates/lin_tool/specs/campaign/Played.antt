-- The play of a row: the play of the script under its faults.
use Rattle.std.specs.Prelude.{◌≡◌, List, [], Option, Some, None, Result, Ok, Err}
use Rattle.lin_parts.specs.declared.parts.Parts.{Parts}
use Rattle.lin_values.specs.Coded.{CodedData}
use Rattle.lin_bench.specs.Plays.{ComesUnder, OverfillsUnder}
use Rattle.lin_bench.specs.declared.faults.SlotFault.{SlotFault}
use Rattle.lin_bench.specs.declared.line.ScriptLine.{ScriptLine}
use Rattle.lin_bench.specs.declared.place.LinePlace.{LinePlace}
use Rattle.lin_bench.specs.declared.playing.PlayedUnder.{PlayedUnder}
use Rattle.lin_export.specs.WhereTold.{given_coding}
use Rattle.lin_tool.specs.Playing.{judgements_with_meanings, limit_fault}
use Rattle.lin_tool.specs.campaign.Row.{row_of}
use Rattle.lin_tool.specs.declared.campaign.Campaign.{Campaign}
use Rattle.lin_tool.specs.declared.campaign.Play.{Play}
use Rattle.lin_tool.specs.declared.fault.Fault.{Fault}
use Rattle.lin_tool.specs.declared.fault.Fault.TheVariants.{LogFull, OutOfMemory, SlotLimit}

-- what came of a script that was played: its core, its judgements with what values mean, and its row
pub record IsPlayOf (k : Option CodedData) (it : PlayedUnder) (p : Play) : Type 0 where
  pub core : p.core ≡ it.core
  pub judgements : p.judgements ≡ judgements_with_meanings k it.judgements
  pub row : p.row ≡ row_of it

-- why a play of these lines under these faults isn't finished
abbrev pub IsUnfinished : Campaign → Parts → List SlotFault → List (LinePlace × ScriptLine) → Fault → Type 0
IsUnfinished on c fs ls LogFull = OverfillsUnder c on.table on.capacity fs ls
IsUnfinished on c fs ls OutOfMemory = Unit {0}
IsUnfinished on c fs ls fault = ⊥

abbrev pub IsMemoryFault : Fault → Type 0
IsMemoryFault OutOfMemory = Unit {0}
IsMemoryFault fault = ⊥

-- a play of these lines under these faults
pub record IsPlayUnder (on : Campaign) (c : Parts) (fs : List SlotFault) (ls : List (LinePlace × ScriptLine))
    (p : Play) : Type 0 where
  pub it : PlayedUnder
  pub comes : ComesUnder on.is_strict c on.table on.capacity fs ls it
  pub is : IsPlayOf (given_coding on.coded) it p

-- what playing a row answers
abbrev pub PlaysRow : Campaign → Parts → List SlotFault → List (LinePlace × ScriptLine)
    → Result Play Fault → Type 0
PlaysRow on c fs ls (Ok p) = IsPlayUnder on c fs ls p
PlaysRow on c fs ls (Err fault) = IsUnfinished on c fs ls fault

-- what playing the script without faults answers: the slot limit is an error here
pub record ReachesLimit (on : Campaign) (c : Parts) (ls : List (LinePlace × ScriptLine)) (n : LinePlace) : Type 0
  where
    pub it : PlayedUnder
    pub comes : ComesUnder on.is_strict c on.table on.capacity [] ls it
    pub limit : it.limit ≡ Some n

pub record IsUndisturbedPlay (on : Campaign) (c : Parts) (ls : List (LinePlace × ScriptLine)) (p : Play)
    : Type 0 where
  pub it : PlayedUnder
  pub comes : ComesUnder on.is_strict c on.table on.capacity [] ls it
  pub is : IsPlayOf (given_coding on.coded) it p
  pub limit : it.limit ≡ None

abbrev pub PlaysUndisturbed : Campaign → Parts → List (LinePlace × ScriptLine) → Result Play Fault → Type 0
PlaysUndisturbed on c ls (Ok p) = IsUndisturbedPlay on c ls p
PlaysUndisturbed on c ls (Err (SlotLimit n file)) =
    ReachesLimit on c ls n × (SlotLimit n file ≡ limit_fault on.source.files.now n)
PlaysUndisturbed on c ls (Err fault) = IsUnfinished on c [] ls fault
