use Rattle.std.proofs.Common.{◌∙◌, ◌++◌, ◌+◌, [], ap, arith, drop, flat_map, append-nil, sym}
use Rattle.std.proofs.lemmas.List.{take_all}
use Rattle.std.specs.declared.alloc.AllocError.{AllocError}
use Rattle.lin_text.proofs.Growing.{grows-more, grows-next, grows-nothing, same-growth}
use Rattle.lin_export.proofs.Puttings.{puts-all, puts-some}
use Rattle.lin_tool.specs.Page.{unmet_data_line}
use Rattle.lin_tool.specs.Placing.{moment_of}
use Rattle.lin_tool.proofs.Reports.{broke-off}
use Rattle.lin_tool.proofs.page.unmet.put_unmet_lines.Goals as goal

pub loop-one-init : goal.loop-one-init
loop-one-init g c = record {
  put = grows-nothing c.args.out.now;
  told = c.new-moment.ensures c.cluster-cluster.result.now;
  time = rw (c.new-moment.ensures c.cluster-cluster.result.now) (omega arith);
  count = rw (c.new-moment.ensures c.cluster-cluster.result.now) (omega arith);
  few = omega arith;
}

pub returns-in_err-put_unmet_line : goal.returns-in_err-put_unmet_line
returns-in_err-put_unmet_line g c =
    let x = c.cluster-cluster.result.now in
    let log = c.log-log.result.now.entries in
    let f = unmet_data_line c.args.shown.now.script c.args.shown.now.files.now x log in
    let js = c.args.shown.now.judgements.now in
    let i = c.loop-one.one-index in
    let told = c.at-moment.ensures.told ∙ ap (moment_of x) c.within-entries.ensures.same in
    let put = c.put_unmet_line.ensures log told in
    rw (c.cluster-cluster.ensures, c.log-log.ensures.entries) at
    (puts-some (put.rest ++ (flat_map f (drop (i + 1) js) ++ [])) c.from_residual.ensures.0
    (sym (append-nil (flat_map f js)) ∙ broke-off f js i c.one-item.result put.part put.rest [] c.one-item.is (omega arith) put.whole)
    (grows-more c.loop-one.invariant.put put.grows))

pub loop-one-preserved : goal.loop-one-preserved
loop-one-preserved g c =
    let x = c.cluster-cluster.result.now in
    let log = c.log-log.result.now.entries in
    let told = c.at-moment.ensures.told ∙ ap (moment_of x) c.within-entries.ensures.same in
    let put = rw c.in_ok-put_unmet_line.was at (c.put_unmet_line.ensures log told) in
    record {
      put =
          grows-next (unmet_data_line c.args.shown.now.script c.args.shown.now.files.now x log) c.args.shown.now.judgements.now c.loop-one.one-index c.one-item.result c.one-item.is (omega arith) c.loop-one.invariant.put
          (same-growth put.all put.grows);
      told = c.at-moment.ensures.told;
      time = c.at-moment.ensures.time;
      count = c.at-moment.ensures.count;
      few = c.within-entries.ensures.there;
    }

pub returns : goal.returns
returns g c =
    let f = unmet_data_line c.args.shown.now.script c.args.shown.now.files.now c.cluster-cluster.result.now c.log-log.result.now.entries in
    rw (c.cluster-cluster.ensures, c.log-log.ensures.entries) at
    (puts-all {E = AllocError} (ap (λ l. flat_map f l) (take_all c.loop-one.one-index c.args.shown.now.judgements.now (omega arith))) c.loop-one.invariant.put)
