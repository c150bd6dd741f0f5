use Rattle.std.specs.Prelude.{codes}
use Rattle.lin_log.proofs.Ends.{grows-last}
use Rattle.lin_text.proofs.Growing.{grows-more}
use Rattle.lin_export.proofs.Objects.{grows-list, grows-member}
use Rattle.lin_tool.proofs.campaign.jsonl_rows.put_ended.Goals as goal

pub returns : goal.returns
returns g c =
    grows-more (grows-list (codes "lost") _ (grows-more c.put_key.ensures c.put_byte.ensures) (rw (c.cluster.ensures, c.as_slice.ensures) at c.put_losses.ensures) c.put_byte-2.ensures)
    (grows-more (grows-list (codes "refused") _ (grows-more c.put_key-2.ensures c.put_byte-3.ensures) (rw c.as_slice-2.ensures at c.put_refusals.ensures) c.put_byte-4.ensures)
    (grows-more (grows-member (codes "slots") c.put_key-3.ensures c.put_number.ensures)
    (grows-more c.put_member.ensures
    (grows-more (grows-member (codes "waiting") c.put_key-4.ensures c.put_number-2.ensures)
    (grows-last
    (grows-more c.put_text.ensures (grows-more (rw c.log.ensures.entries at c.put_letters.ensures) c.put_byte-5.ensures)))))))
