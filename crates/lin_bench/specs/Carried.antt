-- What is kept of a slot that is open at a place in a log.
use Rattle.std.specs.Prelude.{◌≡◌, ℕ, Bool, true, false, List, map}
use Rattle.std.specs.Prelude.{Option, option_map}
use Rattle.lin_core.specs.History.{Slot, open_slot}
use Rattle.lin_core.specs.declared.log.LogEntry.{LogEntry}
use Rattle.lin_core.specs.declared.step.Step.{Step}
use Rattle.lin_core.specs.declared.step.Step.TheVariants.{Open}
use Rattle.lin_bench.specs.declared.carried.OpenSlot.{OpenSlot}

-- the table, the entry, the header, and the nodes that put responses
pub record Shape : Type 0 where
  pub table : ℕ
  pub entry : ℕ
  pub header : Option ℕ
  pub nodes : List ℕ

abbrev pub shape : Slot → Shape
shape s = record {
  table = s.table;
  entry = s.entry;
  header = s.header;
  nodes = map (λ (p : ℕ × List ℕ). p.0) s.puts;
}

abbrev pub shape_in : OpenSlot → Shape
shape_in s = record {
  table = s.table;
  entry = s.entry;
  header = s.header;
  nodes = s.nodes.items;
}

-- the slot is kept that is open after this history
abbrev pub KeepsOpenSlot : Option OpenSlot → List LogEntry → Type 0
KeepsOpenSlot kept past = option_map shape_in kept ≡ option_map shape (open_slot past)

abbrev pub is_open_step : Step → Bool
is_open_step Open = true
is_open_step step = false
