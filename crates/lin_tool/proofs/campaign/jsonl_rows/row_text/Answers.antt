use Rattle.std.proofs.Common.{rules}
use Rattle.lin_text.proofs.Growing.{text-written}
use Rattle.lin_export.proofs.Puttings.{written-same}
use Rattle.lin_tool.proofs.campaign.jsonl_rows.row_text.Goals as goal

pub returns-in-Ok : goal.returns-in-Ok
returns-in-Ok c =
    let put = rw c.in_ok-put_row.was at c.put_row.ensures in
    let written = written-same put.all (text-written c.new-out.ensures put.grows (rw c.in-Ok.is at c.finish.ensures)) in
    search rules
