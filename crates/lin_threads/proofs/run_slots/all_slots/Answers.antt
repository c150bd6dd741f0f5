use Rattle.lin_threads.specs.Runs.{bus_steps, slot_steps}
use Rattle.lin_threads.proofs.RunLemmas.{advances_refl, advances_trans, no_slot, one_more_slot}
use Rattle.lin_threads.proofs.run_slots.all_slots.Goals as goal

pub loop-number-init : goal.loop-number-init
loop-number-init c = rw (no_slot c.args.hurt.now) (advances_refl c.args.pump.now)

pub loop-number-preserved : goal.loop-number-preserved
loop-number-preserved c =
    let hurt = c.args.hurt.now in
    let n = c.loop-number.number in
    rw (← one_more_slot hurt n) (advances_trans c.args.pump.now c.loop-number.pump c.one_slot.new.pump (bus_steps hurt n) (slot_steps hurt n) c.loop-number.invariant c.in_ok-one_slot.ensures.advances)
