use Rattle.lin_text.proofs.Growing.{grows-more}
use Rattle.lin_tool.proofs.campaign.fault_names.put_fault.Goals as goal

pub returns-in-Damage : goal.returns-in-Damage
returns-in-Damage g c = rw c.in-Damage.is (grows-more c.put_slots.ensures c.put_text.ensures)

pub returns-in-Absent : goal.returns-in-Absent
returns-in-Absent g c = rw c.in-Absent.is (grows-more c.put_slots.ensures (grows-more c.put_text-in-Absent.ensures c.put_node_name.ensures))
