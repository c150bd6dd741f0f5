use Rattle.std.proofs.Common.{◌++◌, ◌∙◌, ap, arith}
use Rattle.lin_parts.proofs.Configuring.{few-identities}
use Rattle.lin_bench.specs.Bench.{new_bench}
use Rattle.lin_bench.specs.Plays.{judged_on}
use Rattle.lin_bench.proofs.Few.{full-by-rule}
use Rattle.lin_bench.proofs.Runs.{all-come}
use Rattle.lin_bench.proofs.Unders.{play-fails}
use Rattle.lin_bench.proofs.playing.play.Goals as goal

pub returns-in-Err : goal.returns-in-Err
returns-in-Err c =
    let e = c.in_ok-new.ensures in
    let fails =
    play-fails c.args.is_strict c.args.cluster c.args.table c.args.capacity c.args.lines.items c.in_ok-new.field-0 c.play_on.new.bench c.new-judgements.result.items c.play_on.new.judgements.items
    c.new-ends.result.items c.play_on.new.ends.items c.in-Err.fault (record { log = e.0; cluster = e.1; opening = e.2; capacity = e.3 }) (rw (c.new-bench.ensures, c.in-Err.is) at c.play_on.ensures) in
    record {
      plays = fails;
      few = full-by-rule c.args.is_strict c.args.cluster c.args.table c.args.capacity c.args.lines.items c.in-Err.fault
          (c.sound.ensures.rules.nodes.number.1, let most = few-identities c.args.cluster c.args.cluster.identities c.sound.ensures.rules.nodes.number.1 c.sound.ensures.rules.identities in omega (arith, most)) fails;
    }

pub returns-in-Ok-clause-plays : goal.returns-in-Ok-clause-plays
returns-in-Ok-clause-plays c =
    let e = c.in_ok-new.ensures in
    let on = rw (c.new-bench.ensures, c.in-Ok.is) at c.play_on.ensures in
    all-come c.args.is_strict c.args.cluster c.args.table c.args.capacity c.args.lines.items c.in_ok-new.field-0 c.play_on.new.bench _ e.0 e.1 e.2 e.3 on.0 on.3 c.into_core.ensures
    (c.new-in-Ok.ensures ∙ on.1 ∙ ap (λ js. js ++ judged_on c.args.is_strict (new_bench c.in_ok-new.field-0) c.args.lines.items) c.new-judgements.ensures.items)
