use Rattle.std.proofs.Common.{ap}
use Rattle.std.specs.Prelude.{codes}
use Rattle.lin_export.specs.Csv.{after_comma}
use Rattle.lin_log.proofs.Ends.{grows-last}
use Rattle.lin_text.proofs.Growing.{grows-more, same-growth}
use Rattle.lin_tool.specs.campaign.Jsonl.{word_member}
use Rattle.lin_tool.proofs.campaign.jsonl_rows.put_place.Goals as goal

pub returns-in-Some : goal.returns-in-Some
returns-in-Some g c =
    rw c.in-Some.is
    (grows-more (same-growth (ap (λ t. after_comma (word_member (codes "table") t)) c.table_name.ensures) c.put_member.ensures)
    (grows-more (rw c.from.ensures at c.put_member-in-Some.ensures)
    (grows-last (same-growth (ap (λ t. after_comma (word_member (codes "frame") t)) c.slot_name-frame.ensures) c.put_member-in-Some-2.ensures))))

pub returns-in-None : goal.returns-in-None
returns-in-None g c = rw c.in-None.is c.put_text.ensures
