use Rattle.lin_export.proofs.check_object.encodings.put_item.Goals as goal

pub returns-in-Logical : goal.returns-in-Logical
returns-in-Logical g c = rw (c.in-Logical.is) (rw c.as_slice.ensures at c.put_logical.ensures)

pub returns-in-Physical : goal.returns-in-Physical
returns-in-Physical g c = rw (c.in-Physical.is) (rw c.as_slice-in-Physical.ensures at c.put_physical.ensures)
