use Rattle.lin_export.proofs.jsonl.put_sent.Goals as goal

pub returns : goal.returns
returns g c = rw (c.node_name.ensures, c.from.ensures) at c.put_object_line.ensures
