-- What a log is written as.
use Rattle.std.specs.Prelude.{ℕ, List, [], ◌∷◌, ◌++◌, drop, reverse, take}
use Rattle.lin_core.specs.declared.log.LogEntry.{LogEntry}

-- what each entry says on those before it, which stand the newest first, as in histories
abbrev pub each_entry : (LogEntry → List LogEntry → List ℕ) → List LogEntry → List LogEntry → List ℕ
each_entry says past [] = []
each_entry says past (e ∷ es) = says e past ++ each_entry says (e ∷ past) es

-- what a format puts of a log: before the entries, of each, and after them
pub record LogFormat : Type 0 where
  pub begins : List ℕ
  pub says : LogEntry → List LogEntry → List ℕ
  pub ends : List LogEntry → List ℕ

abbrev pub entries_as : LogFormat → List LogEntry → List ℕ
entries_as format log = each_entry format.says [] log ++ format.ends (reverse log)

abbrev pub log_as : LogFormat → List LogEntry → List ℕ
log_as format log = format.begins ++ entries_as format log

-- the entries of a log from one on
abbrev pub entries_from : LogFormat → List LogEntry → ℕ → List ℕ
entries_from format log from = each_entry format.says (reverse (take from log)) (drop from log)
