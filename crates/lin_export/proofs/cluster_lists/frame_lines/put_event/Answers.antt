use Rattle.std.proofs.Common.{◌∷◌, [], List, ℕ, codes}
use Rattle.std.specs.Fmt.{decimal}
use Rattle.hex.specs.Hex.{encode_upper}
use Rattle.lin_parts.specs.Cluster.{event_name, event_of, named_table}
use Rattle.lin_log.specs.CallerTexts.{seen_text}
use Rattle.lin_text.proofs.Growing.{grows-more, same-growth}
use Rattle.lin_export.specs.ListedFrames.{identifier_word, member_words}
use Rattle.lin_export.proofs.ListedLines.{head-and-members}
use Rattle.lin_export.proofs.cluster_lists.frame_lines.put_event.Goals as goal

pub returns : goal.returns
returns g c =
    let x = c.args.cluster.now in
    let event = event_of x c.args.event in
    let head : List (List ℕ) =
    decimal c.args.event ∷ seen_text (event_name x c.args.event) ∷ identifier_word event.pid ∷ encode_upper (event.pid ∷ []) ∷ seen_text (named_table x event.table).name ∷ [] in
    same-growth (head-and-members (codes "event") head (member_words x event.frames))
    (grows-more
    (rw (c.from.ensures, c.event_pid-pid.ensures, c.event_name.ensures, c.table_name.ensures, c.event_table.ensures) at c.put_head.ensures)
    (rw c.event_frames.ensures at c.put_members.ensures))
