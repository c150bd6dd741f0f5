use Rattle.std.proofs.Common.{◌≡◌, ◌∙◌, sym, ap, arith, take, subst, length, ◌<◌, List, Some}
use Rattle.std.specs.List.{All}
use Rattle.std.proofs.lemmas.Grind.{common_steps}
use Rattle.lin_core.specs.declared.log.LogEntry.{LogEntry}
use Rattle.lin_log.specs.Replay.{log_of}
use Rattle.std.proofs.lemmas.List.Elements.{All-more}
use Rattle.lin_core.specs.Runs.{steps_of}
use Rattle.lin_log.proofs.Runs.{steps-next_is, runs-again}
use Rattle.lin_log.specs.Laws.{FitsEntry}
use Rattle.lin_log.proofs.Logs.{steps-text}
use Rattle.lin_log.proofs.log_steps.steps_of.Goals as goal

pub loop-index-preserved : goal.loop-index-preserved
loop-index-preserved c =
    let es = c.args.log.now.entries in
    let i = c.loop-index.index in
    let e = c.entry-entry.result.now in
    let lt : i < length es = omega arith in
    record {
      same = rw (c.in_ok-push.ensures.items, c.loop-index.invariant.same, c.port_of.ensures.same, c.in_ok-copy.ensures.same) (sym (steps-next_is es i e c.entry-entry.ensures lt));
      fits = All-more FitsEntry es i e lt c.loop-index.invariant.fits (subst FitsEntry c.entry-entry.ensures (c.port_of.ensures.fits, c.copy.ensures.fits));
    }

pub returns-clause-steps : goal.returns-clause-steps
returns-clause-steps c =
    let whole : take c.loop-index.index c.args.log.now.entries ≡ c.args.log.now.entries = grind (arith, common_steps) in
    c.loop-index.invariant.same ∙ ap steps_of whole

pub returns-clause-text : goal.returns-clause-text
returns-clause-text c =
    let es = c.args.log.now.entries in
    let whole : take c.loop-index.index es ≡ es = grind (arith, common_steps) in
    let P : List LogEntry → Type 0 = λ l. All FitsEntry l in
    steps-text es (subst P whole c.loop-index.invariant.fits) ∙ ap (λ (l : List LogEntry). Some (steps_of l)) (sym whole) ∙ ap Some (sym c.loop-index.invariant.same)

pub returns-clause-history : goal.returns-clause-history
returns-clause-history c cluster opening capacity h =
    let es = c.args.log.now.entries in
    let whole : take c.loop-index.index es ≡ es = grind (arith, common_steps) in
    ap (log_of cluster opening capacity) (c.loop-index.invariant.same ∙ ap steps_of whole) ∙ runs-again es cluster opening capacity h
