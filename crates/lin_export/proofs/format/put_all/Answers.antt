use Rattle.std.proofs.Common.{◌++◌, List, ap, append_assoc, reverse, ◌∙◌}
use Rattle.lin_parts.specs.declared.parts.Parts.{Parts}
use Rattle.lin_core.specs.declared.log.LogEntry.{LogEntry}
use Rattle.lin_text.proofs.Growing.{grows-more, same-growth}
use Rattle.lin_export.specs.Telling.{LogFormat}
use Rattle.lin_export.proofs.Puttings.{puts-all, puts-some}
use Rattle.lin_export.proofs.format.put_all.Goals as goal

pub put_entries-requires-clause-track : goal.put_entries-requires-clause-track
put_entries-requires-clause-track g c = c.new-track.ensures c.args.cluster.now

pub returns-in_err-put_entries : goal.returns-in_err-put_entries
returns-in_err-put_entries g c =
    let put = c.put_entries.ensures.text in
    let end = (g.F.EntryFormat.text c.args.format.now c.args.cluster.now).ends (reverse c.args.log.now.entries) in
    puts-some (put.rest ++ end) c.from_residual.ensures.0 (ap (λ l. l ++ end) put.whole ∙ append_assoc put.part put.rest end) put.grows

pub returns : goal.returns
returns g c =
    let all : List LogEntry = reverse c.args.log.now.entries in
    let x = c.args.cluster.now in
    let was = c.in_ok-put_entries.was in
    let put = rw was at c.put_entries.ensures.text in
    let kept = rw was at c.put_entries.ensures.track in
    let keeps = rw was at c.put_entries.ensures.keeps in
    puts-all (ap (λ l. l ++ (g.F.EntryFormat.text c.args.format.now x).ends all) put.all)
    (grows-more put.grows
    (same-growth (ap (λ (text : Parts → LogFormat). (text x).ends all) c.put_entries.ensures.same) (c.put_end.ensures all kept keeps)))
