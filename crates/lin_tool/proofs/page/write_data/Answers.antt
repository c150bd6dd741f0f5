use Rattle.std.proofs.Common.{refl, flat_map}
use Rattle.lin_export.specs.WhereTold.{given_coding}
use Rattle.lin_log.specs.Words.{text}
use Rattle.lin_export.proofs.Puttings.{writes-more, written-short}
use Rattle.lin_tool.specs.Page.{cluster_lines, log_head, unmet_data_line}
use Rattle.lin_tool.specs.PageFields.{guarded_text}
use Rattle.lin_tool.proofs.page.write_data.Goals as goal

pub returns-in_err-write_data_head : goal.returns-in_err-write_data_head
returns-in_err-write_data_head g c =
    let x = c.args.core.now.cluster in
    let log = c.args.core.now.log in
    let failed = c.from_residual.ensures.0 in
    written-short (flat_map (unmet_data_line c.args.shown.now.script c.args.shown.now.files.now x log) c.args.shown.now.judgements.now) failed refl
    (written-short (text log) failed refl
    (written-short (log_head x (given_coding c.args.shown.now.coded)) failed refl
    (written-short (guarded_text (cluster_lines x)) failed refl
    (rw c.cluster-cluster.ensures at c.write_data_head.ensures))))

pub returns-in_err-write_cluster : goal.returns-in_err-write_cluster
returns-in_err-write_cluster g c =
    let x = c.args.core.now.cluster in
    let log = c.args.core.now.log in
    let failed = c.from_residual-in_err-write_cluster.ensures.0 in
    let s1 = rw c.in_ok-write_data_head.was at (rw c.cluster-cluster.ensures at c.write_data_head.ensures) in
    written-short (flat_map (unmet_data_line c.args.shown.now.script c.args.shown.now.files.now x log) c.args.shown.now.judgements.now) failed refl
    (written-short (text log) failed refl
    (written-short (log_head x (given_coding c.args.shown.now.coded)) failed refl
    (writes-more s1 (rw c.cluster-cluster.ensures at c.write_cluster.ensures))))

pub returns-in_err-write_log_head : goal.returns-in_err-write_log_head
returns-in_err-write_log_head g c =
    let x = c.args.core.now.cluster in
    let log = c.args.core.now.log in
    let failed = c.from_residual-in_err-write_log_head.ensures.0 in
    let s1 = rw c.in_ok-write_data_head.was at (rw c.cluster-cluster.ensures at c.write_data_head.ensures) in
    let s2 = writes-more s1 (rw c.in_ok-write_cluster.was at (rw c.cluster-cluster.ensures at c.write_cluster.ensures)) in
    written-short (flat_map (unmet_data_line c.args.shown.now.script c.args.shown.now.files.now x log) c.args.shown.now.judgements.now) failed refl
    (written-short (text log) failed refl
    (writes-more s2 (rw c.cluster-cluster.ensures at c.write_log_head.ensures)))

pub returns-in_err-write_log : goal.returns-in_err-write_log
returns-in_err-write_log g c =
    let x = c.args.core.now.cluster in
    let log = c.args.core.now.log in
    let failed = c.from_residual-in_err-write_log.ensures.0 in
    let s1 = rw c.in_ok-write_data_head.was at (rw c.cluster-cluster.ensures at c.write_data_head.ensures) in
    let s2 = writes-more s1 (rw c.in_ok-write_cluster.was at (rw c.cluster-cluster.ensures at c.write_cluster.ensures)) in
    let s3 = writes-more s2 (rw c.in_ok-write_log_head.was at (rw c.cluster-cluster.ensures at c.write_log_head.ensures)) in
    written-short (flat_map (unmet_data_line c.args.shown.now.script c.args.shown.now.files.now x log) c.args.shown.now.judgements.now) failed refl
    (writes-more s3 (rw c.log-log.ensures.entries at c.write_log.ensures))

pub returns : goal.returns
returns g c =
    let s1 = rw c.in_ok-write_data_head.was at (rw c.cluster-cluster.ensures at c.write_data_head.ensures) in
    let s2 = writes-more s1 (rw c.in_ok-write_cluster.was at (rw c.cluster-cluster.ensures at c.write_cluster.ensures)) in
    let s3 = writes-more s2 (rw c.in_ok-write_log_head.was at (rw c.cluster-cluster.ensures at c.write_log_head.ensures)) in
    let s4 = writes-more s3 (rw c.in_ok-write_log.was at (rw c.log-log.ensures.entries at c.write_log.ensures)) in
    writes-more s4 c.write_unmet_lines.ensures
