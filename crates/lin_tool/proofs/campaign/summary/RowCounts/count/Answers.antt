use Rattle.std.proofs.Common.{◌≡◌, ◌∙◌, ◌+◌, ℕ, ap, if◌then◌else◌, length, refl}
use Rattle.lin_core.specs.History.{is_in}
use Rattle.lin_tool.specs.campaign.Summary.{RowCountsData, broken_lines, counted_by, line_at, one_if, worse_of}
use Rattle.lin_tool.proofs.CampaignCounts.{counts-more}
use Rattle.lin_tool.proofs.campaign.summary.RowCounts.count.Goals as goal

pub returns-clause-counts : goal.returns-clause-counts
returns-clause-counts c = λ js rows faults h.
    let t = c.self.inside in
    let row = c.args.row.now in
    let old : RowCountsData = record {
      lines = t.lines.items;
      rows = t.rows;
      tolerated = t.tolerated;
      broken = t.broken;
      limited = t.limited;
      missed = t.missed;
      worst = t.worst;
    } in
    let new : RowCountsData = record {
      lines = c.count_lines.new.lines.items;
      rows = t.rows + 1;
      tolerated = t.tolerated + c.one_if-2.result;
      broken = t.broken + c.one_if-3.result;
      limited = t.limited + c.one_if-4.result;
      missed = t.missed + c.one_if.result;
      worst = c.worse-self-inside.result;
    } in
    let same = rw c.in_ok-count_lines.was at c.count_lines.ensures.same in
    let at : (n : ℕ) → line_at new.lines n ≡ (if is_in (broken_lines row) n then counted_by (t.rows + 1) (line_at t.lines.items n) else line_at t.lines.items n) =
    λ n. same n ∙ ap (λ l. if is_in l n then counted_by (t.rows + 1) (line_at t.lines.items n) else line_at t.lines.items n) c.broken_lines-lines.ensures in
    counts-more js rows (record { number = c.args.number; faults = faults; row = row }) old new c.self.invariant (rw (← c.self.view_is) at h) at refl
    (ap (λ k. t.tolerated + k) (c.one_if-2.ensures ∙ ap one_if c.is_tolerated.ensures)) (ap (λ k. t.broken + k) (c.one_if-3.ensures ∙ ap one_if c.is_broken.ensures))
    (ap (λ k. t.limited + k) (c.one_if-4.ensures ∙ ap one_if c.is_limited.ensures)) (ap (λ k. t.missed + k) c.one_if.ensures)
    (c.worse-self-inside.ensures ∙ ap (λ l. worse_of t.worst c.args.number (length l)) c.broken_lines-lines.ensures)
