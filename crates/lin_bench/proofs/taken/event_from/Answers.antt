use Rattle.std.proofs.Common.{◌≡◌, ◌∙◌, ◌+◌, ap, arith, sym}
use Rattle.std.specs.Prelude.{filter, flat_map, slice_get}
use Rattle.lin_core.specs.History.{events}
use Rattle.lin_bench.specs.Verdicts.{is_of_kind}
use Rattle.lin_bench.proofs.Events.{found-behind, none-behind, reached-at, with-entry}
use Rattle.lin_bench.proofs.FirstEvents.{fewer}
use Rattle.lin_bench.proofs.taken.event_from.Goals as goal

pub returns-in-Ok : goal.returns-in-Ok
returns-in-Ok c =
    let kind = c.args.kind in
    let es = c.args.log.now.entries in
    let i = c.loop-index.index in
    let found = c.in-Ok.ensures in
    record {
      event_is =
          sym (ap (slice_get (filter (is_of_kind kind) (flat_map events es))) (sym c.loop-index.invariant.same)
          ∙ found-behind kind es i c.entry.result.now c.events_of.result.now c.loop-index.skip c.in-Ok.event.now (omega arith) c.entry.ensures c.events_of.ensures found.0);
      behind = record {
        within = omega arith;
        place = omega (arith, found.1, c.loop-index.invariant.same);
        reached =
            let few = reached-at kind es i c.entry.result.now c.events_of.result.now c.loop-index.skip c.in-Ok.event.now (omega arith) c.entry.ensures c.events_of.ensures found.0 in
            omega (arith, found.1, few);
      };
      some = omega (arith, found.1);
    }

pub loop-index-preserved : goal.loop-index-preserved
loop-index-preserved c =
    let es = c.args.log.now.entries in
    let i = c.loop-index.index in
    let e = with-entry c.args.kind es i c.entry.result.now c.events_of.result.now (omega arith) c.entry.ensures c.events_of.ensures in
    let left = c.in-Err.ensures in
    record { within = omega arith; same = omega (arith, e, left, c.loop-index.invariant.same) }

pub returns : goal.returns
returns c =
    let es = c.args.log.now.entries in
    let i = c.loop-index.index in
    let end : c.len.result ≡ i = omega arith in
    let all = fewer c.args.kind es (c.args.from.entry + 1) (i + 1) (omega arith) in
    record {
      event_is = sym (ap (slice_get (filter (is_of_kind c.args.kind) (flat_map events es))) (sym c.loop-index.invariant.same) ∙ none-behind c.args.kind es i c.loop-index.skip (omega arith));
      behind = record {
        within = omega arith;
        place = rw end (omega (arith, c.loop-index.invariant.same));
        reached = rw end (omega (arith, c.loop-index.invariant.same, c.requires.reached, all));
      };
      some = omega arith;
    }
