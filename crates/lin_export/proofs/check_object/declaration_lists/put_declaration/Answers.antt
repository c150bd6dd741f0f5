use Rattle.std.proofs.Common.{arith}
use Rattle.lin_export.proofs.check_object.declaration_lists.put_declaration.Goals as goal

pub put_node-requires : goal.put_node-requires
put_node-requires g c = let few = rw c.in-Nodes.is at c.requires in omega arith

pub put_signal-requires : goal.put_signal-requires
put_signal-requires g c = rw c.in-Signals.is at c.requires

pub put_frame-requires : goal.put_frame-requires
put_frame-requires g c = rw c.in-Frames.is at c.requires

pub put_sporadic-requires : goal.put_sporadic-requires
put_sporadic-requires g c = rw c.in-Sporadics.is at c.requires

pub put_event-requires : goal.put_event-requires
put_event-requires g c = rw c.in-Events.is at c.requires

pub put_table-requires : goal.put_table-requires
put_table-requires g c = rw c.in-Tables.is at c.requires

pub returns-in-Nodes : goal.returns-in-Nodes
returns-in-Nodes g c = rw c.in-Nodes.is c.put_node.ensures

pub returns-in-Signals : goal.returns-in-Signals
returns-in-Signals g c = rw c.in-Signals.is c.put_signal.ensures

pub returns-in-Frames : goal.returns-in-Frames
returns-in-Frames g c = rw c.in-Frames.is c.put_frame.ensures

pub returns-in-Sporadics : goal.returns-in-Sporadics
returns-in-Sporadics g c = rw c.in-Sporadics.is c.put_sporadic.ensures

pub returns-in-Events : goal.returns-in-Events
returns-in-Events g c = rw c.in-Events.is c.put_event.ensures

pub returns-in-Tables : goal.returns-in-Tables
returns-in-Tables g c = rw c.in-Tables.is c.put_table.ensures
