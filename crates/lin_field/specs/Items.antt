-- The items of each list of texts of the field: how they are spelled.
use Rattle.std.specs.Prelude.{ℕ, List}
use Rattle.lin_ldf.specs.Loops.{Items}
use Rattle.lin_ldf.specs.Words.{same_state}
use Rattle.lin_ldf.specs.declared.node_attributes.NodeBlocks.{NodeBlocks}
use Rattle.lin_field.specs.Grammar.{loose_signal, with_loose_signal, loose_frame, with_loose_frame}
use Rattle.lin_field.specs.Grammar.{loose_event, with_loose_event, loose_block, with_loose_block, node_address}
use Rattle.lin_field.specs.Grammar.{loose_entry, loose_table, with_loose_table}
use Rattle.lin_field.specs.GrammarLaws.{loose_signal_takes, loose_frame_takes, loose_event_takes}
use Rattle.lin_field.specs.GrammarLaws.{loose_block_takes, address_takes, loose_entry_takes}
use Rattle.lin_field.specs.GrammarLaws.{loose_table_takes}
use Rattle.lin_field.specs.declared.loose.LooseSignal.{LooseSignal}
use Rattle.lin_field.specs.declared.loose.LooseFrame.{LooseFrame}
use Rattle.lin_field.specs.declared.loose.LooseEvent.{LooseEvent}
use Rattle.lin_field.specs.declared.loose.LooseAttributes.{LooseAttributes}
use Rattle.lin_field.specs.declared.loose.NodeAddress.{NodeAddress}
use Rattle.lin_field.specs.declared.loose.LooseEntry.{LooseEntry}
use Rattle.lin_field.specs.declared.loose.LooseTable.{LooseTable}

abbrev pub loose_signal_items : Items (List (List ℕ)) LooseSignal
loose_signal_items = record {
  form = loose_signal;
  next = with_loose_signal;
  shrinks = λ seen. (loose_signal_takes seen).shrinks;
}

abbrev pub loose_frame_items : Items (List (List ℕ)) LooseFrame
loose_frame_items = record {
  form = loose_frame;
  next = with_loose_frame;
  shrinks = λ seen. (loose_frame_takes seen).shrinks;
}

abbrev pub loose_event_items : Items (List (List ℕ)) LooseEvent
loose_event_items = record {
  form = loose_event;
  next = with_loose_event;
  shrinks = λ seen. (loose_event_takes seen).shrinks;
}

abbrev pub loose_attribute_items : Items (NodeBlocks) LooseAttributes
loose_attribute_items = record {
  form = loose_block;
  next = with_loose_block;
  shrinks = λ s. (loose_block_takes s).shrinks;
}

abbrev pub address_items : Items (Unit {0}) NodeAddress
address_items = record {
  form = λ (s : Unit {0}). node_address;
  next = same_state;
  shrinks = λ s. (address_takes s).shrinks;
}

abbrev pub loose_entry_items : Items (Unit {0}) LooseEntry
loose_entry_items = record {
  form = λ (s : Unit {0}). loose_entry;
  next = same_state;
  shrinks = λ s. (loose_entry_takes s).shrinks;
}

abbrev pub loose_table_items : Items (List (List ℕ)) LooseTable
loose_table_items = record {
  form = loose_table;
  next = with_loose_table;
  shrinks = λ seen. (loose_table_takes seen).shrinks;
}
