use Rattle.std.proofs.Common.{◌∙◌, ap, arith, sym}
use Rattle.std.specs.Prelude.{count_by, flat_map}
use Rattle.std.proofs.lemmas.List.{take_all}
use Rattle.lin_core.specs.History.{events}
use Rattle.lin_bench.specs.Verdicts.{is_of_kind}
use Rattle.lin_bench.proofs.Events.{with-entry}
use Rattle.lin_bench.proofs.left_events.count_from.Goals as goal

pub loop-index-init : goal.loop-index-init
loop-index-init c =
    let kept = c.count_kept-so_far.ensures.count c.args.log.now.entries c.requires.within c.requires.kept in
    record {
      within = kept.within;
      count = rw (c.count_kept-so_far.ensures.kind, c.count_kept-so_far.ensures.first) at kept.count;
      few = kept.few;
    }

pub loop-index-preserved : goal.loop-index-preserved
loop-index-preserved c =
    let es = c.args.log.now.entries in
    let i = c.loop-index.index in
    let more = with-entry c.args.kind es i c.entry.result.now c.events_of.result.now (omega arith) c.entry.ensures c.events_of.ensures in
    record {
      within = omega arith;
      count = omega (arith, c.loop-index.invariant.count, more, c.count_of.ensures);
      few = omega (arith, c.loop-index.invariant.few, c.count_of.type_inv);
    }

pub returns : goal.returns
returns c =
    let es = c.args.log.now.entries in
    let i = c.loop-index.index in
    let all = ap (λ l. count_by (is_of_kind c.args.kind) (flat_map events l)) (take_all i es (omega arith)) in
    let last = ap (λ l. count_by (is_of_kind c.args.kind) (flat_map events l)) (take_all c.len.result es (omega arith)) in
    record {
      count = omega (arith, c.loop-index.invariant.count, all);
      kept = record {
        order = omega arith;
        within = omega arith;
        count = c.loop-index.invariant.count ∙ all ∙ sym last;
        few = omega (arith, c.loop-index.invariant.few);
      };
    }
