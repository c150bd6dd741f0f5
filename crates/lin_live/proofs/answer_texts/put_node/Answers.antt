use Rattle.lin_live.proofs.answer_texts.put_node.Goals as goal

pub returns : goal.returns
returns g c = rw (c.address_word-address.ensures, c.nad.ensures) at c.put_all_after.ensures
