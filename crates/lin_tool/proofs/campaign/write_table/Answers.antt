use Rattle.std.proofs.Common.{◌∙◌, Err, Ok, refl, subst, sym}
use Rattle.std.proofs.lemmas.Result.{err_from_is_err_and}
use Rattle.lin_tool.specs.Formats.{export_fault}
use Rattle.lin_tool.specs.Playing.{WritesTextOrPart}
use Rattle.lin_tool.specs.campaign.Steps.{SaysLines, WritesRows, calm_row, counts_text, head_with_calm}
use Rattle.lin_tool.specs.declared.fault.Fault.TheVariants.{Denied, OutOfMemory, WriteFailed}
use Rattle.lin_tool.proofs.CampaignEnds.{begins-nothing, campaign-unplayed, no_counts, rows-fail, table-done, tail-fails, text-begins, written-fault}
use Rattle.lin_tool.proofs.CampaignTexts.{when-ok, writes-whole}
use Rattle.lin_tool.proofs.campaign.write_table.Goals as goal

pub returns-in_err-counts : goal.returns-in_err-counts
returns-in_err-counts g c = λ ls is.
    let p = err_from_is_err_and c.from_residual.result c.from_residual.ensures.1 in
    let core = c.args.core in
    let old = g.W.Write.contents c.args.writer.now in
    let silent = g.E.Write.contents c.args.errors.now in
    rw (p.1, p.2)
    (campaign-unplayed c.args.campaign.now c.args.plan.now c.args.table.now core ls c.args.table.now.is_watched OutOfMemory old old silent silent c.requires.table is tt
    (begins-nothing old (head_with_calm c.args.campaign.now c.args.table.now core.cluster (calm_row c.args.table.now core))))

pub returns-in_err-write_first : goal.returns-in_err-write_first
returns-in_err-write_first g c = λ ls is.
    let on = c.args.campaign.now in
    let t = c.args.table.now in
    let core = c.args.core in
    let old = g.W.Write.contents c.args.writer.now in
    let silent = g.E.Write.contents c.args.errors.now in
    let mid = g.W.Write.contents c.write_first.new.writer in
    let p = err_from_is_err_and c.from_residual-in_err-write_first.result c.from_residual-in_err-write_first.ensures.1 in
    rw (p.1, p.2)
    (campaign-unplayed on c.args.plan.now t core ls t.is_watched (export_fault c.in_err-write_first.field-0.0) old mid silent silent c.requires.table is
    (written-fault on t core.cluster ls c.in_err-write_first.field-0.0) (text-begins c.write_first.ensures))

pub returns-in_err-cluster : goal.returns-in_err-cluster
returns-in_err-cluster g c = λ ls is.
    let on = c.args.campaign.now in
    let t = c.args.table.now in
    let core = c.args.core in
    let old = g.W.Write.contents c.args.writer.now in
    let silent = g.E.Write.contents c.args.errors.now in
    let mid = g.W.Write.contents c.write_first.new.writer in
    let same = c.into_cluster-cluster.ensures in
    let fault = c.in_err-cluster.field-0.0 in
    let new = g.W.Write.contents c.write_rows.new.writer in
    let first = writes-whole c.in_ok-write_first.was c.write_first.ensures in
    let rows =
    subst (λ x. WritesRows on t x ls (Err fault) no_counts no_counts mid new) same (c.in_err-cluster.ensures.writes ls (subst (λ x. SaysLines on x ls) (sym same) is.says)) in
    let p = err_from_is_err_and c.from_residual-in_err-cluster.result c.from_residual-in_err-cluster.ensures.1 in
    rw (p.1, p.2) (rows-fail on c.args.plan.now t core ls t.is_watched fault no_counts no_counts old mid new silent (g.E.Write.contents c.write_rows.new.errors) c.requires.table is first rows)

pub returns-in_err-write_tail : goal.returns-in_err-write_tail
returns-in_err-write_tail g c = λ ls is.
    let on = c.args.campaign.now in
    let t = c.args.table.now in
    let core = c.args.core in
    let old = g.W.Write.contents c.args.writer.now in
    let silent = g.E.Write.contents c.args.errors.now in
    let mid = g.W.Write.contents c.write_first.new.writer in
    let same = c.into_cluster-cluster.ensures in
    let first = writes-whole c.in_ok-write_first.was c.write_first.ensures in
    let before = c.in_ok-counts.counts in
    let after = c.write_rows.new.counts in
    let rest = g.W.Write.contents c.write_rows.new.writer in
    let rows =
    subst (λ x. WritesRows on t x ls (Ok c.in_ok-cluster.cluster) before after mid rest) same (c.in_ok-cluster.ensures.writes ls (subst (λ x. SaysLines on x ls) (sym same) is.says)) in
    let p = err_from_is_err_and c.from_residual-in_err-write_tail.result c.from_residual-in_err-write_tail.ensures.1 in
    rw (p.1, p.2)
    (tail-fails on c.args.plan.now t core c.in_ok-cluster.cluster ls t.is_watched WriteFailed c.write_tail.result before after old mid rest (g.W.Write.contents c.write_tail.new.writer) silent silent
    c.requires.table is first rows c.write_tail.ensures tt)

pub returns-in_err-write_counts : goal.returns-in_err-write_counts
returns-in_err-write_counts g c = λ ls is.
    let on = c.args.campaign.now in
    let t = c.args.table.now in
    let core = c.args.core in
    let old = g.W.Write.contents c.args.writer.now in
    let silent = g.E.Write.contents c.args.errors.now in
    let mid = g.W.Write.contents c.write_first.new.writer in
    let same = c.into_cluster-cluster.ensures in
    let first = writes-whole c.in_ok-write_first.was c.write_first.ensures in
    let before = c.in_ok-counts.counts in
    let after = c.write_rows.new.counts in
    let rest = g.W.Write.contents c.write_rows.new.writer in
    let rows =
    subst (λ x. WritesRows on t x ls (Ok c.in_ok-cluster.cluster) before after mid rest) same (c.in_ok-cluster.ensures.writes ls (subst (λ x. SaysLines on x ls) (sym same) is.says)) in
    let p = err_from_is_err_and c.from_residual-in_err-write_counts.result c.from_residual-in_err-write_counts.ensures.1 in
    rw (p.1, p.2)
    (tail-fails on c.args.plan.now t core c.in_ok-cluster.cluster ls t.is_watched OutOfMemory c.write_tail.result before after old mid rest (g.W.Write.contents c.write_tail.new.writer) silent silent
    c.requires.table is first rows c.write_tail.ensures tt)

pub returns-then-is_denied : goal.returns-then-is_denied
returns-then-is_denied g c = λ ls is.
    let on = c.args.campaign.now in
    let t = c.args.table.now in
    let core = c.args.core in
    let old = g.W.Write.contents c.args.writer.now in
    let silent = g.E.Write.contents c.args.errors.now in
    let mid = g.W.Write.contents c.write_first.new.writer in
    let same = c.into_cluster-cluster.ensures in
    let first = writes-whole c.in_ok-write_first.was c.write_first.ensures in
    let before = c.in_ok-counts.counts in
    let after = c.write_rows.new.counts in
    let rest = g.W.Write.contents c.write_rows.new.writer in
    let rows =
    subst (λ x. WritesRows on t x ls (Ok c.in_ok-cluster.cluster) before after mid rest) same (c.in_ok-cluster.ensures.writes ls (subst (λ x. SaysLines on x ls) (sym same) is.says)) in
    let quiet = g.E.Write.contents c.write_rows.new.errors in
    let heard = g.E.Write.contents c.write_counts.new.errors in
    table-done on c.args.plan.now t core c.in_ok-cluster.cluster ls t.is_watched c.is_denied.result (Err Denied) before after old mid rest (g.W.Write.contents c.write_tail.new.writer) silent quiet
    heard c.requires.table is refl first c.in_ok-counts.ensures rows c.write_rows.ensures.quiet (writes-whole c.in_ok-write_tail.was c.write_tail.ensures)
    (λ rs are names.
    subst (λ x. WritesTextOrPart quiet heard (counts_text on t x rs)) (c.in_ok-cluster.ensures.same ∙ same)
    (when-ok c.write_counts.result tt c.in_ok-write_counts.was c.write_counts.ensures rs are names))
    c.is_denied.ensures (λ text told written heard_all. (c.if-is_denied.true, written, heard_all))

pub returns : goal.returns
returns g c = λ ls is.
    let on = c.args.campaign.now in
    let t = c.args.table.now in
    let core = c.args.core in
    let old = g.W.Write.contents c.args.writer.now in
    let silent = g.E.Write.contents c.args.errors.now in
    let mid = g.W.Write.contents c.write_first.new.writer in
    let same = c.into_cluster-cluster.ensures in
    let first = writes-whole c.in_ok-write_first.was c.write_first.ensures in
    let before = c.in_ok-counts.counts in
    let after = c.write_rows.new.counts in
    let rest = g.W.Write.contents c.write_rows.new.writer in
    let rows =
    subst (λ x. WritesRows on t x ls (Ok c.in_ok-cluster.cluster) before after mid rest) same (c.in_ok-cluster.ensures.writes ls (subst (λ x. SaysLines on x ls) (sym same) is.says)) in
    let quiet = g.E.Write.contents c.write_rows.new.errors in
    let heard = g.E.Write.contents c.write_counts.new.errors in
    table-done on c.args.plan.now t core c.in_ok-cluster.cluster ls t.is_watched c.is_denied.result (Ok tt) before after old mid rest (g.W.Write.contents c.write_tail.new.writer) silent quiet
    heard c.requires.table is refl first c.in_ok-counts.ensures rows c.write_rows.ensures.quiet (writes-whole c.in_ok-write_tail.was c.write_tail.ensures)
    (λ rs are names.
    subst (λ x. WritesTextOrPart quiet heard (counts_text on t x rs)) (c.in_ok-cluster.ensures.same ∙ same)
    (when-ok c.write_counts.result tt c.in_ok-write_counts.was c.write_counts.ensures rs are names))
    c.is_denied.ensures (λ text told written heard_all. (c.if-is_denied.false, written, heard_all))
