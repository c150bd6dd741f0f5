use Rattle.std.proofs.Common.{[], ◌∷◌}
use Rattle.lin_core.specs.declared.step.Step.TheVariants.{Finish, Open}
use Rattle.lin_threads.specs.Runs.{damage}
use Rattle.lin_threads.proofs.RoundLemmas.{pump_trans}
use Rattle.lin_threads.proofs.FaultLemmas.{stops_after}
use Rattle.lin_threads.proofs.RunLemmas.{advances_ok, advances_trans}
use Rattle.lin_threads.proofs.run_slots.one_slot.Goals as goal

pub returns-clause-advances : goal.returns-clause-advances
returns-clause-advances c =
    let hurt = damage c.args.hurt.now c.args.number in
    let rounds = advances_trans c.args.pump.now c.own.new.pump c.make_rounds.new.pump (Open ∷ []) [] c.in_ok-own.ensures.advances c.in_ok-make_rounds.ensures.advances in
    advances_ok c.args.pump.now c.hurt_slot.new.pump c.own-2.new.pump (Open ∷ hurt) (Finish ∷ []) c.own-2.result
    (advances_trans c.args.pump.now c.make_rounds.new.pump c.hurt_slot.new.pump (Open ∷ []) hurt rounds c.in_ok-hurt_slot.ensures.advances) c.own-2.ensures.advances

pub returns-clause-stops : goal.returns-clause-stops
returns-clause-stops c =
    let opened = c.in_ok-own.ensures.advances.pump in
    let rounds = c.in_ok-make_rounds.ensures.advances.pump in
    let hurt = c.in_ok-hurt_slot.ensures.advances.pump in
    stops_after c.args.pump.now c.hurt_slot.new.pump c.own-2.new.pump c.own-2.result (pump_trans _ _ _ (pump_trans _ _ _ opened rounds) hurt) c.own-2.ensures.stops
