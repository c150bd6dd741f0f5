use Rattle.std.proofs.Common.{◌∷◌, [], ◌++◌, List, ℕ, codes, flat_map, rules}
use Rattle.std.specs.Fmt.{decimal}
use Rattle.lin_parts.specs.Cluster.{named_table, table_of}
use Rattle.lin_log.specs.CallerTexts.{seen_text}
use Rattle.lin_log.specs.Words.{spaced_word}
use Rattle.lin_schedule.specs.Cycles.{longest_cycle}
use Rattle.lin_schedule.specs.Schedule.{total}
use Rattle.lin_text.proofs.Growing.{grows-more, same-growth}
use Rattle.lin_text.specs.Written.{Grows}
use Rattle.lin_export.specs.ListedSlots.{bits_of, permille, slack}
use Rattle.lin_export.specs.ListedTiming.{tightest_slot}
use Rattle.lin_export.proofs.ListedLines.{head-and-members}
use Rattle.lin_export.proofs.cluster_lists.timing.put_table_line.Goals as goal

pub returns : goal.returns
returns g c =
    let x = c.args.cluster.now in
    let t = c.args.table in
    let slot : ℕ × ℕ = tightest_slot x t in
    let head : List (List ℕ) =
    decimal t ∷ seen_text (named_table x t).name ∷ decimal (total (table_of x t)) ∷ decimal (longest_cycle x t)
    ∷ decimal (permille (bits_of x t) x.speed (total (table_of x t))) ∷ [] in
    let first : Grows g.W.Write.contents c.args.out.now c.put_head.new.out (codes "timing" ++ flat_map spaced_word head) = search rules in
    let last : Grows g.W.Write.contents c.put_byte.new.self c.put_slack.new.out (slack slot.0 slot.1) = search rules in
    same-growth (head-and-members (codes "timing") head (slack slot.0 slot.1 ∷ []))
    (grows-more first (grows-more c.put_byte.ensures (grows-more last c.put_byte-2.ensures)))
