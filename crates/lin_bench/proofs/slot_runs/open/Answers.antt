use Rattle.std.proofs.Common.{◌∙◌, ap, refl}
use Rattle.std.proofs.lemmas.Result.{err_from_is_err_and}
use Rattle.lin_core.specs.Core.{entry_with_reply, past_of}
use Rattle.lin_core.specs.declared.log.LogEntry.{LogEntry}
use Rattle.lin_core.specs.declared.port.PortId.TheVariants.{Bus}
use Rattle.lin_core.specs.declared.step.Step.TheVariants.{Open}
use Rattle.lin_bench.specs.Slots.{due_in}
use Rattle.lin_bench.proofs.Makes.{grown-made, newest-past, open-past, some-past}
use Rattle.lin_bench.proofs.slot_runs.open.Goals as goal

pub newest-requires : goal.newest-requires
newest-requires c =
    let past = open-past c.args.ruled.now c.make.new.self c.in_ok-make.ensures in
    rw c.core.ensures (some-past c.make.new.self.core _ _ past)

pub returns-in_err-due_in-clause-made : goal.returns-in_err-due_in-clause-made
returns-in_err-due_in-clause-made c =
    let p = err_from_is_err_and c.from_residual-in_err-due_in.result c.from_residual-in_err-due_in.ensures.1 in
    rw (p.1, p.2) (tt, grown-made c.args.ruled.now c.make.new.self _ c.in_ok-make.ensures)

pub returns-clause-due : goal.returns-clause-due
returns-clause-due c =
    let a = c.args.ruled.now in
    let past = open-past a c.make.new.self c.in_ok-make.ensures in
    let newest = newest-past c.make.new.self.core (entry_with_reply a.core Bus Open) c.newest.result.now (past_of a.core) past (rw c.core.ensures at c.newest.ensures) in
    c.in_ok-due_in.ensures ∙ ap (λ (e : LogEntry). due_in e.reply) newest
