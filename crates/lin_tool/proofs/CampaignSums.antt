-- The lines of counts.
use Rattle.std.proofs.Common.{◌≡◌, ℕ, List, [], ◌∷◌, ◌++◌, length, refl, sym}
use Rattle.std.specs.Prelude.{Option, Some, None, codes, option_map}
use Rattle.std.specs.Fmt.{decimal}
use Rattle.std.specs.Option.{option_map_or}
use Rattle.lin_parts.specs.declared.parts.Parts.{Parts}
use Rattle.lin_bench.specs.declared.faults.SlotFault.{SlotFault}
use Rattle.lin_bench.specs.declared.got.Judgement.{Judgement}
use Rattle.lin_tool.specs.campaign.Summary.{AreCountsOf, RowCountsData, IsCountOf, NumberedRow, expectation, line_count_text, broken_mark, numbers_text, worst_after, worst_lines, worst_of, worst_text}
use Rattle.lin_tool.specs.declared.campaign.row.Row.{Row}
use Rattle.lin_tool.specs.declared.campaign.summary.LineCount.{LineCount}
use Rattle.lin_tool.specs.declared.campaign.summary.Worst.{Worst}

pub line-text : (script : List ℕ) (c : Parts) (js : List Judgement) (rows : List Row) (n : ℕ) (l : LineCount) (all : ℕ) → IsCountOf js rows n l → all ≡ length rows
    → script ++ (codes ":" ++ (decimal n ++ (codes ": " ++ (decimal l.broken ++ (codes " of " ++ (decimal all ++ (expectation c js n ++ (broken_mark l.broken all ++ 10 ∷ []))))))))
    ≡ line_count_text script c js rows n
line-text script c js rows n l all is e = rw (is.broken, e) refl

worst-same : (c : Parts) (w : Option NumberedRow) (faults : List SlotFault) → option_map_or (λ x. x.faults) w [] ≡ faults
    → option_map_or (λ (x : Worst). worst_lines c faults x.lines) (option_map worst_of w) [] ≡ worst_text c w
worst-same c None faults e = refl
worst-same c (Some w) faults e = rw (sym e) refl

pub numbers-text : (c : Parts) (js : List Judgement) (rows : List NumberedRow) (faults : List SlotFault) (t : RowCountsData) → AreCountsOf js rows t
    → option_map_or (λ w. w.faults) (worst_after None rows) [] ≡ faults
    → codes "campaign: "
    ++ (decimal t.rows
    ++ (codes " rows, "
    ++ (decimal t.tolerated
    ++ (codes " tolerated, "
    ++ (decimal t.broken
    ++ (codes " broken, "
    ++ (decimal t.limited
    ++ (codes " at the slot limit, "
    ++ (decimal t.missed
    ++ (codes " with faults that missed"
    ++ (option_map_or (λ (x : Worst). worst_lines c faults x.lines) t.worst [] ++ 10 ∷ [])))))))))))
    ≡ numbers_text c rows
numbers-text c js rows faults t is e =
    rw (is.rows_are, is.tolerated, is.broken, is.limited, is.missed, is.worst, worst-same c (worst_after None rows) faults e) refl
