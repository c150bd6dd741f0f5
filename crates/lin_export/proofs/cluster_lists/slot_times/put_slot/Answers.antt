use Rattle.std.proofs.Common.{◌∷◌, [], ◌++◌, List, ℕ, codes, flat_map, rules}
use Rattle.std.specs.Fmt.{decimal}
use Rattle.lin_parts.specs.Cluster.{entry_kind, entry_name, line_of}
use Rattle.lin_cluster.specs.SlotTimes.{slot_bytes, slot_need}
use Rattle.lin_log.specs.CallerTexts.{seen_text}
use Rattle.lin_log.specs.Words.{spaced_word}
use Rattle.lin_text.proofs.Growing.{grows-more, same-growth}
use Rattle.lin_text.specs.Written.{Grows}
use Rattle.lin_export.specs.ListedSlots.{slack}
use Rattle.lin_export.proofs.ListedLines.{head-and-members}
use Rattle.lin_export.proofs.cluster_lists.slot_times.put_slot.Goals as goal

pub returns : goal.returns
returns g c =
    let x = c.args.cluster.now in
    let entry = (line_of x c.args.table c.args.number).entry in
    let delay = (line_of x c.args.table c.args.number).delay_us in
    let need = slot_need x entry in
    let head : List (List ℕ) =
    decimal c.args.table ∷ decimal c.args.number ∷ seen_text (entry_name x entry) ∷ seen_text (entry_kind entry) ∷ decimal (slot_bytes x entry) ∷ decimal delay
    ∷ decimal need ∷ [] in
    let first : Grows g.W.Write.contents c.args.out.now c.put_head.new.out (codes "slot" ++ flat_map spaced_word head) = search rules in
    let last : Grows g.W.Write.contents c.put_byte.new.self c.put_slack.new.out (slack delay need) = search rules in
    same-growth (head-and-members (codes "slot") head (slack delay need ∷ []))
    (grows-more first (grows-more c.put_byte.ensures (grows-more last c.put_byte-2.ensures)))
