-- A handle, opened.
use Rattle.std.specs.Prelude.{◌≡◌, ◌<◌, ◌≤◌, ℕ, List, [], length, Option, Some, None, false, Result, Ok, Err}
use Rattle.lin_bench.specs.Rules.{no_rules}
use Rattle.lin_bench.specs.Slots.{slot_limit}
use Rattle.lin_core.specs.Core.{CoreData}
use Rattle.lin_live.specs.Told.{HandData}
use Rattle.linsim_c.specs.BenchSettings.{AreSound, SettingsFaults, settings_in}
use Rattle.linsim_c.specs.Described.{AnswersLdfText}
use Rattle.linsim_c.specs.Setups.{IsSetUp, SetupFaults}
use Rattle.linsim_c.specs.Statuses.{CallResult}
use Rattle.linsim_c.specs.Writing.{told_of}
use Rattle.linsim_c.specs.declared.bench_settings.BenchSettings.{BenchSettings}
use Rattle.linsim_c.specs.declared.ldf_cluster.Described.{Described}
use Rattle.linsim_c.specs.declared.fault.Fault.{Fault}
use Rattle.linsim_c.specs.declared.fault.Fault.TheVariants.{BadSize, UnknownFlags, BadCapacity}
use Rattle.linsim_c.specs.declared.fault.Fault.TheVariants.{UnknownFormat, NoSuchTable, OutOfMemory}
use Rattle.linsim_c.specs.declared.fault.Fault.TheVariants.{IsOpen}
use Rattle.linsim_c.specs.declared.kept.Session.{Session}
use Rattle.linsim_c.specs.declared.kept.Session.TheVariants.{Script, Bench}
use Rattle.linsim_c.specs.declared.settings.Settings.{Settings}

-- a core with an empty log on the text's cluster, with these settings
abbrev pub IsFresh : List ℕ → Settings → CoreData → Type 0
IsFresh ldf s c =
    IsSetUp c.cluster ldf s × (c.log ≡ []) × (c.opening ≡ s.table) × (c.capacity ≡ s.capacity)

abbrev pub OpensCore : Result CoreData Fault → List ℕ → Settings → Type 0
OpensCore (Ok core) ldf s = IsFresh ldf s core
OpensCore (Err why) ldf s = SetupFaults why ldf s

-- a handle without a session has this one, or it still has none; one that had a session keeps it
abbrev pub OpensBy : Option Session → Option Session → CallResult → (Session → Type 0) → (Fault → Type 0)
    → Type 0
OpensBy (Some s) after answer new why = (answer ≡ Err IsOpen) × (after ≡ Some s)
OpensBy None after (Ok told) new why =
    (told ≡ told_of 0 []) × ((s : Session) × (after ≡ Some s) × new s)
OpensBy None after (Err fault) new why = (after ≡ None) × why fault

abbrev pub IsNewScript : List ℕ → Settings → Session → Type 0
IsNewScript ldf s (Script c) = IsFresh ldf s c
IsNewScript ldf s (Bench b) = ⊥

abbrev pub Opens : Option Session → Option Session → CallResult → List ℕ → Settings → Type 0
Opens before after answer ldf s =
    OpensBy before after answer (IsNewScript ldf s) (λ why. SetupFaults why ldf s)

-- ---- benches

-- a bench in hand on which no line was made
abbrev pub hand_of_settings : BenchSettings → Described → HandData
hand_of_settings s d = record {
  format = s.format;
  cluster = d.cluster;
  opening = s.table;
  capacity = s.capacity;
  coded = Some d.coded;
  limits = d.limits;
  is_physical = s.is_physical;
  sets = [];
  bench = record { past = []; rules = no_rules; taken = []; left = slot_limit };
  marks = [];
  begun = false;
  was_bad = false;
  was_unmet = false;
}

-- settings, and what the LDF describes where it is read as they say
abbrev pub IsBenchSetUp : List ℕ → List ℕ → Described → Type 0
IsBenchSetUp ldf bytes d =
    AreSound bytes × AnswersLdfText (settings_in bytes).is_field (settings_in bytes).is_configured (Ok d) ldf
    × ((settings_in bytes).table < length d.cluster.tables)

-- why there is no bench: faults of the settings come before those of the LDF, and a missing table last
abbrev pub BenchFaults : Fault → List ℕ → List ℕ → Type 0
BenchFaults BadSize ldf bytes = SettingsFaults BadSize bytes
BenchFaults UnknownFlags ldf bytes = SettingsFaults UnknownFlags bytes
BenchFaults BadCapacity ldf bytes = SettingsFaults BadCapacity bytes
BenchFaults UnknownFormat ldf bytes = SettingsFaults UnknownFormat bytes
BenchFaults NoSuchTable ldf bytes =
    AreSound bytes × ((d : Described) × AnswersLdfText (settings_in bytes).is_field (settings_in bytes).is_configured (Ok d) ldf
    × (length d.cluster.tables ≤ (settings_in bytes).table))
BenchFaults OutOfMemory ldf bytes = Unit {0}
BenchFaults why ldf bytes = AreSound bytes × AnswersLdfText (settings_in bytes).is_field (settings_in bytes).is_configured (Err why) ldf

abbrev pub OpensHand : Result HandData Fault → List ℕ → List ℕ → Type 0
OpensHand (Ok h) ldf bytes = (d : Described) × IsBenchSetUp ldf bytes d × (h ≡ hand_of_settings (settings_in bytes) d)
OpensHand (Err why) ldf bytes = BenchFaults why ldf bytes

abbrev pub IsNewBench : List ℕ → List ℕ → Session → Type 0
IsNewBench ldf bytes (Script c) = ⊥
IsNewBench ldf bytes (Bench b) = OpensHand (Ok b.hand) ldf bytes × (b.answer ≡ [])

abbrev pub OpensBench : Option Session → Option Session → CallResult → List ℕ → List ℕ → Type 0
OpensBench before after answer ldf bytes =
    OpensBy before after answer (IsNewBench ldf bytes) (λ why. BenchFaults why ldf bytes)
