use Rattle.std.proofs.Common.{codes, map}
use Rattle.lin_frame.specs.Words.{numbers}
use Rattle.lin_parts.specs.Cluster.{nodes}
use Rattle.lin_export.specs.Json.{json_array, member, printable_text}
use Rattle.lin_export.specs.Jsonl.{meant_members, signal_value}
use Rattle.lin_export.specs.LastSlot.{kept_slot, last_slot_value}
use Rattle.lin_export.specs.WhereTold.{given_coding, where_told}
use Rattle.lin_export.proofs.Objects.{grows-list, grows-member, puts-all, puts-more, puts-one}
use Rattle.lin_live.specs.Values.{node_value, slot_in_box, versions_value}
use Rattle.lin_live.proofs.answer_objects.put_said.Goals as goal

pub returns-in-Signal : goal.returns-in-Signal
returns-in-Signal g c =
    let signal = c.in-Signal.signal in
    let value = c.in-Signal.value in
    rw c.in-Signal.is
    (puts-more (puts-one (member (codes "value") (signal_value value)) c.put_value_member.ensures)
    (puts-all (where_told (given_coding c.args.coded) (λ d. meant_members (codes "text") d signal value)) c.put_meant.ensures)).text

pub returns-in-Version : goal.returns-in-Version
returns-in-Version g c =
    rw c.in-Version.is (puts-one (member (codes "value") versions_value) (grows-member (codes "value") c.put_key.ensures c.put_versions.ensures)).text

pub returns-in-Nodes : goal.returns-in-Nodes
returns-in-Nodes g c =
    let x = c.args.cluster.now in
    let values = map (node_value x) (numbers (nodes x)) in
    rw c.in-Nodes.is
    (puts-one (member (codes "value") (json_array values))
    (grows-list (codes "value") values (grows-member (codes "value") c.put_key-in-Nodes.ensures c.put_byte.ensures) c.put_nodes.ensures c.put_byte-in-Nodes.ensures)).text

pub returns-in-LastSlot : goal.returns-in-LastSlot
returns-in-LastSlot g c =
    rw c.in-LastSlot.is
    (puts-one (member (codes "value") (last_slot_value c.args.cluster.now (kept_slot (slot_in_box c.in-LastSlot.last))))
    (grows-member (codes "value") c.put_key-in-LastSlot.ensures (rw c.unboxed.ensures at c.put_last_slot_value.ensures))).text

pub returns-in-Rules : goal.returns-in-Rules
returns-in-Rules g c =
    let values = map printable_text c.in-Rules.lines in
    rw c.in-Rules.is
    (puts-one (member (codes "value") (json_array values))
    (grows-list (codes "value") values (grows-member (codes "value") c.put_key-in-Rules.ensures c.put_byte-in-Rules.ensures)
    (rw c.as_slice.ensures at c.put_rule_values.ensures) c.put_byte-in-Rules-2.ensures)).text
