use Rattle.std.proofs.Common.{◌∙◌, ap, arith}
use Rattle.lin_text.proofs.Growing.{grows-next, grows-nothing}
use Rattle.lin_tool.specs.Placing.{moment_of, placed_unmet}
use Rattle.lin_tool.proofs.placing.put_all_unmet.Goals as goal

pub loop-one-init : goal.loop-one-init
loop-one-init g c = record {
  put = grows-nothing c.args.out.now;
  told = c.new-moment.ensures c.args.cluster.now;
  time = rw (c.new-moment.ensures c.args.cluster.now) (omega arith);
  count = rw (c.new-moment.ensures c.args.cluster.now) (omega arith);
  few = omega arith;
}

pub loop-one-preserved : goal.loop-one-preserved
loop-one-preserved g c =
    let log = c.args.log.now.entries in
    let told = c.at-moment.ensures.told ∙ ap (moment_of c.args.cluster.now) c.within-entries.ensures.same in
    record {
      put =
          grows-next (placed_unmet c.args.names.script.now c.args.names.files.now c.args.cluster.now log) c.args.judgements.now c.loop-one.one-index c.one-item.result c.one-item.is (omega arith) c.loop-one.invariant.put
          (c.put_unmet.ensures log told);
      told = c.at-moment.ensures.told;
      time = c.at-moment.ensures.time;
      count = c.at-moment.ensures.count;
      few = c.within-entries.ensures.there;
    }
