use Rattle.lin_text.proofs.Growing.{grows-more}
use Rattle.lin_export.proofs.cluster_lists.timing.put_table.Goals as goal

pub returns : goal.returns
returns g c =
    let frames = rw c.as_slice.ensures.value at c.put_frames.ensures in
    let signals = rw c.as_slice-2.ensures.value at c.put_signals.ensures in
    grows-more (grows-more (grows-more (grows-more c.put_table_line.ensures frames) signals) c.put_transfer.ensures) c.put_transfer-2.ensures
