use Rattle.std.proofs.Common.{◌++◌, ◌∙◌, ap, arith, map, refl}
use Rattle.std.proofs.lemmas.Result.{err_from_is_err_and}
use Rattle.lin_parts.proofs.Configuring.{few-identities}
use Rattle.lin_bench.proofs.Few.{full-under-by-rule}
use Rattle.lin_bench.proofs.Unders.{under-failed, under-played}
use Rattle.lin_bench.proofs.playing.play_under.Goals as goal

pub returns-in_err-limit : goal.returns-in_err-limit
returns-in_err-limit c =
    let e = c.in_ok-core.ensures in
    let p = err_from_is_err_and c.from_residual-in_err-limit.result c.from_residual-in_err-limit.ensures.1 in
    let on = rw (c.under-bench.ensures, c.in_ok-armed.ensures, c.new-judgements.ensures.items, c.in_ok-ends.ensures.items) at c.play_on-played.ensures in
    let fails =
    under-failed c.args.is_strict c.args.cluster c.args.table c.args.capacity c.args.faults.now c.args.lines.items c.in_ok-core.core c.play_on-played.new.bench c.play_on-played.new.judgements.items
    c.play_on-played.new.ends.items c.play_on-played.result c.in_err-limit.field-0.0 (record { log = e.0; cluster = e.1; opening = e.2; capacity = e.3 }) on c.in_err-limit.ensures in
    rw (p.1, p.2) (record {
      plays = fails;
      few = full-under-by-rule c.args.is_strict c.args.cluster c.args.table c.args.capacity c.args.faults.now c.args.lines.items c.in_err-limit.field-0.0
          (c.sound.ensures.rules.nodes.number.1, let most = few-identities c.args.cluster c.args.cluster.identities c.sound.ensures.rules.nodes.number.1 c.sound.ensures.rules.identities in omega (arith, most)) fails;
    })

pub returns-clause-plays : goal.returns-clause-plays
returns-clause-plays c =
    let e = c.in_ok-core.ensures in
    let on = rw (c.under-bench.ensures, c.in_ok-armed.ensures, c.new-judgements.ensures.items, c.in_ok-ends.ensures.items) at c.play_on-played.ensures in
    under-played c.args.is_strict c.args.cluster c.args.table c.args.capacity c.args.faults.now c.args.lines.items c.in_ok-core.core c.play_on-played.new.bench c.play_on-played.new.judgements.items
    c.play_on-played.new.ends.items c.play_on-played.result c.in_ok-limit.limit _ (record { log = e.0; cluster = e.1; opening = e.2; capacity = e.3 }) on c.in_ok-limit.ensures refl c.into_core.ensures
    c.new-2.ensures c.new-3.ensures c.missed-missed.ensures
