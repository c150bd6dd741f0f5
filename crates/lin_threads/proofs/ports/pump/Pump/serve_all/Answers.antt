use Rattle.std.proofs.Common.{◌+◌, arith, refl, ◌∙◌}
use Rattle.lin_threads.proofs.RoundLemmas.{pump_refl, pump_trans, same_count, round_none, round_add, round_up}
use Rattle.lin_threads.proofs.SettleLemmas.{stays_trans}
use Rattle.lin_threads.proofs.ports.pump.Pump.serve_all.Goals as goal
use Rattle.lin_threads.proofs.ports.pump.Pump.serve_all.Goals.{then-took, else-took}

pub loop-i-init : goal.loop-i-init
loop-i-init c = record { pump = pump_refl _; adds = round_none _; few = omega arith; count = refl; stays = λ r s. (s, refl) }

pub returns-in-Err-clause-pump : goal.returns-in-Err-clause-pump
returns-in-Err-clause-pump c = pump_trans _ _ _ c.loop-i.invariant.pump c.in-Err.ensures.pump

pub returns-in-Err-clause-adds : goal.returns-in-Err-clause-adds
returns-in-Err-clause-adds c =
    let test = c.loop-i-test.true in
    (c.loop-i.steps, round_up c.loop-i.i c.args.count c.loop-i.steps c.args.self.now.core c.loop-i.self.core c.serve.new.self.core (omega arith) c.in-Err.ensures.adds c.loop-i.invariant.adds, tt)

pub returns-in-Err-clause-stays : goal.returns-in-Err-clause-stays
returns-in-Err-clause-stays c = stays_trans c.args.self.now c.loop-i.self c.serve.new.self c.loop-i.invariant.stays c.in-Err.ensures.stays

pub loop-i-preserved : goal.loop-i-preserved
loop-i-preserved c =
    let inv = c.loop-i.invariant in
    let e = c.in-Ok.ensures in
    let few = inv.few in
    let pump = pump_trans _ _ _ inv.pump e.pump in
    let count = same_count c.loop-i.self c.serve.new.self e.pump ∙ inv.count in
    elim c.if-took.branch [
      | then-took w ↦ let is = w.steps-is in record {
        pump = pump;
        adds = rw w.steps-is (round_add c.loop-i.i c.loop-i.steps c.args.self.now.core c.loop-i.self.core c.serve.new.self.core inv.pump.alike inv.adds (rw w.if-took.true at e.adds));
        few = omega arith;
        count = count;
        stays = stays_trans c.args.self.now c.loop-i.self c.serve.new.self inv.stays e.stays;
      }
      | else-took w ↦ let is = w.steps-is in record {
        pump = pump;
        adds = rw w.steps-is (round_up c.loop-i.i (c.loop-i.i + 1) c.loop-i.steps c.args.self.now.core c.loop-i.self.core c.serve.new.self.core (omega arith) (rw w.if-took.false at e.adds) inv.adds);
        few = omega arith;
        count = count;
        stays = stays_trans c.args.self.now c.loop-i.self c.serve.new.self inv.stays e.stays;
      }
    ]
