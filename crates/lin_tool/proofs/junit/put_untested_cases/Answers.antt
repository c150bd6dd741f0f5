use Rattle.std.proofs.Common.{◌∙◌, ◌++◌, ◌+◌, [], ap, arith, drop, flat_map, append-nil, sym}
use Rattle.std.proofs.lemmas.List.{take_all}
use Rattle.lin_text.proofs.Growing.{grows-more, grows-next, grows-nothing, same-growth}
use Rattle.lin_export.proofs.Puttings.{puts-all, puts-some}
use Rattle.lin_tool.specs.Junit.{untested_text}
use Rattle.lin_tool.specs.Placing.{moment_of}
use Rattle.lin_tool.proofs.Reports.{broke-off}
use Rattle.lin_tool.proofs.junit.put_untested_cases.Goals as goal

pub loop-one-init : goal.loop-one-init
loop-one-init g c = record {
  put = grows-nothing c.args.out.now;
  told = c.new-moment.ensures c.args.cluster.now;
  time = rw (c.new-moment.ensures c.args.cluster.now) (omega arith);
  count = rw (c.new-moment.ensures c.args.cluster.now) (omega arith);
  few = omega arith;
}

pub returns-in_err-put_untested : goal.returns-in_err-put_untested
returns-in_err-put_untested g c =
    let f = untested_text c.args.names.script.now c.args.names.files.now c.args.cluster.now c.args.log.now.entries in
    let js = c.args.judgements.now in
    let i = c.loop-one.one-index in
    let told = c.at-moment.ensures.told ∙ ap (moment_of c.args.cluster.now) c.within-entries.ensures.same in
    let put = c.put_untested.ensures c.args.log.now.entries told in
    puts-some (put.rest ++ (flat_map f (drop (i + 1) js) ++ [])) c.from_residual.ensures.0
    (sym (append-nil (flat_map f js)) ∙ broke-off f js i c.one-item.result put.part put.rest [] c.one-item.is (omega arith) put.whole)
    (grows-more c.loop-one.invariant.put put.grows)

pub loop-one-preserved : goal.loop-one-preserved
loop-one-preserved g c =
    let log = c.args.log.now.entries in
    let told = c.at-moment.ensures.told ∙ ap (moment_of c.args.cluster.now) c.within-entries.ensures.same in
    let put = rw c.in_ok-put_untested.was at (c.put_untested.ensures log told) in
    record {
      put =
          grows-next (untested_text c.args.names.script.now c.args.names.files.now c.args.cluster.now log) c.args.judgements.now c.loop-one.one-index c.one-item.result c.one-item.is (omega arith) c.loop-one.invariant.put
          (same-growth put.all put.grows);
      told = c.at-moment.ensures.told;
      time = c.at-moment.ensures.time;
      count = c.at-moment.ensures.count;
      few = c.within-entries.ensures.there;
    }

pub returns : goal.returns
returns g c =
    let f = untested_text c.args.names.script.now c.args.names.files.now c.args.cluster.now c.args.log.now.entries in
    puts-all (ap (λ l. flat_map f l) (take_all c.loop-one.one-index c.args.judgements.now (omega arith))) c.loop-one.invariant.put
