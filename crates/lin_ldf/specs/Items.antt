-- The items of each list: how they are spelled.
use Rattle.std.specs.Prelude.{ℕ, List}
use Rattle.lin_ldf.specs.Loops.{Items}
use Rattle.lin_ldf.specs.Words.{word, new_word, int, same_state, with_name}
use Rattle.lin_ldf.specs.Grammar.{signal, with_signal, placement, frame_declaration, with_frame, sporadic_frame}
use Rattle.lin_ldf.specs.Grammar.{with_sporadic, event_frame, with_event, attribute_block}
use Rattle.lin_ldf.specs.Grammar.{with_block, entry, table, with_table}
use Rattle.lin_ldf.specs.GrammarLaws.{word_takes, declared_takes, int_takes, signal_takes}
use Rattle.lin_ldf.specs.GrammarLaws.{placed_takes, frame_takes, sporadic_frame_takes}
use Rattle.lin_ldf.specs.GrammarLaws.{event_frame_takes, attribute_block_takes, entry_takes}
use Rattle.lin_ldf.specs.GrammarLaws.{table_takes}
use Rattle.lin_ldf.specs.declared.node_attributes.NodeBlocks.{NodeBlocks}
use Rattle.lin_parts.specs.declared.description.Attributes.{Attributes}
use Rattle.lin_parts.specs.declared.description.EventFrame.{EventFrame}
use Rattle.lin_parts.specs.declared.description.Frame.{Frame}
use Rattle.lin_parts.specs.declared.description.Name.{Name}
use Rattle.lin_parts.specs.declared.description.Number.{Number}
use Rattle.lin_parts.specs.declared.description.PlacedSignal.{PlacedSignal}
use Rattle.lin_parts.specs.declared.description.Signal.{Signal}
use Rattle.lin_parts.specs.declared.description.Sporadic.{Sporadic}
use Rattle.lin_parts.specs.declared.description.Table.{Table}
use Rattle.lin_parts.specs.declared.description.TableEntry.{TableEntry}

abbrev pub word_items : Items (Unit {0}) Name
word_items = record {
  form = λ (s : Unit {0}). word;
  next = same_state;
  shrinks = λ s. word_takes.shrinks;
}

abbrev pub declared_items : Items (List (List ℕ)) Name
declared_items = record {
  form = new_word;
  next = with_name;
  shrinks = λ seen. (declared_takes seen).shrinks;
}

abbrev pub int_items : Items (Unit {0}) Number
int_items = record {
  form = λ (s : Unit {0}). int;
  next = same_state;
  shrinks = λ s. int_takes.shrinks;
}

abbrev pub signal_items : Items (List (List ℕ)) Signal
signal_items = record {
  form = signal;
  next = with_signal;
  shrinks = λ seen. (signal_takes seen).shrinks;
}

abbrev pub placed_items : Items (Unit {0}) PlacedSignal
placed_items = record {
  form = λ (s : Unit {0}). placement;
  next = same_state;
  shrinks = λ s. (placed_takes s).shrinks;
}

abbrev pub frame_items : Items (List (List ℕ)) Frame
frame_items = record {
  form = frame_declaration;
  next = with_frame;
  shrinks = λ seen. (frame_takes seen).shrinks;
}

abbrev pub sporadic_items : Items (List (List ℕ)) Sporadic
sporadic_items = record {
  form = sporadic_frame;
  next = with_sporadic;
  shrinks = λ seen. (sporadic_frame_takes seen).shrinks;
}

abbrev pub event_items : Items (List (List ℕ)) EventFrame
event_items = record {
  form = event_frame;
  next = with_event;
  shrinks = λ seen. (event_frame_takes seen).shrinks;
}

abbrev pub attribute_items : Items (NodeBlocks) Attributes
attribute_items = record {
  form = attribute_block;
  next = with_block;
  shrinks = λ s. (attribute_block_takes s).shrinks;
}

abbrev pub entry_items : Items (Unit {0}) TableEntry
entry_items = record {
  form = λ (s : Unit {0}). entry;
  next = same_state;
  shrinks = λ s. (entry_takes s).shrinks;
}

abbrev pub table_items : Items (List (List ℕ)) Table
table_items = record {
  form = table;
  next = with_table;
  shrinks = λ seen. (table_takes seen).shrinks;
}
