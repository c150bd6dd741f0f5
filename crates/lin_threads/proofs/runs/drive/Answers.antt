use Rattle.std.proofs.Common.{◌≡◌, ℕ, List, rules, subst}
use Rattle.lin_threads.specs.Runs.{Advances, bus_steps}
use Rattle.lin_threads.proofs.RunLemmas.{advances_quiet_ok}
use Rattle.lin_threads.proofs.runs.drive.Goals as goal

pub returns-clause-advances : goal.returns-clause-advances
returns-clause-advances g c =
    let plan = c.args.plan in
    let same : c.as_slice.result.now ≡ plan.hurt.items = search rules in
    advances_quiet_ok c.args.pump.now c.all_slots.new.pump c.make_last_rounds.new.pump (bus_steps plan.hurt.items plan.slots) c.make_last_rounds.result
    (subst (λ (hurt : List ℕ). Advances c.args.pump.now c.all_slots.new.pump (bus_steps hurt plan.slots)) same c.in_ok-all_slots.ensures.advances) c.make_last_rounds.ensures.advances
