use Rattle.lin_text.proofs.Growing.{grows-more}
use Rattle.lin_tool.proofs.campaign.page.put_slot.Goals as goal

pub returns : goal.returns
returns g c = λ s is.
    rw is at
    (grows-more c.put_text.ensures
    (grows-more (rw c.table_name.ensures at c.put_guarded.ensures)
    (grows-more (rw c.from.ensures at c.put_numbered.ensures)
    (grows-more c.put_byte.ensures
    (grows-more (rw (c.slot_name.ensures, c.frame.ensures s is) at c.put_guarded-2.ensures)
    (grows-more c.put_byte-2.ensures
    (grows-more (rw (c.word.ensures, c.look.ensures s is) at c.put_text-2.ensures) c.put_byte-3.ensures)))))))
