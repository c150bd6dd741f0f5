use Rattle.std.proofs.Common.{◌≡◌, false, Result, Ok, Err, OnOk, sym, ◌∙◌, arith}
use Rattle.std.specs.Result.{is_err}
use Rattle.std.proofs.lemmas.Option.{slice_get_within}
use Rattle.lin_threads.proofs.RoundLemmas.{pump_trans, same_count}
use Rattle.lin_threads.proofs.SettleLemmas.{stays_trans}
use Rattle.lin_threads.proofs.ports.pump.Pump.round.Goals as goal

was_ok : {E P : Type 0} (r : Result Unit E) → is_err r ≡ false → OnOk r P → P
was_ok (Ok u) well h = h
was_ok (Err e) well h = absurd (cc)

pub returns-then-is_err-clause-pump : goal.returns-then-is_err-clause-pump
returns-then-is_err-clause-pump c = pump_trans _ _ _ c.loop-i.invariant.pump c.tell.ensures.pump

pub returns-then-is_err-clause-stays : goal.returns-then-is_err-clause-stays
returns-then-is_err-clause-stays c = stays_trans c.args.self.now c.loop-i.self c.tell.new.self c.loop-i.invariant.stays c.tell.ensures.stays

pub loop-i-preserved : goal.loop-i-preserved
loop-i-preserved c =
    let inv = c.loop-i.invariant in
    record {
      pump = pump_trans _ _ _ inv.pump c.tell.ensures.pump;
      count = inv.count ∙ sym (same_count c.loop-i.self c.tell.new.self c.tell.ensures.pump);
      core = c.tell.ensures.core ∙ inv.core;
      stays = stays_trans c.args.self.now c.loop-i.self c.tell.new.self inv.stays c.tell.ensures.stays;
      told = was_ok c.tell.result (sym c.is_err.ensures.value ∙ c.if-is_err.false) (c.tell.ensures.told inv.told);
    }

pub returns-clause-told : goal.returns-clause-told
returns-clause-told c i lane at =
    let p = c.loop-i.self in
    let within = slice_get_within p.lanes.items i lane at in
    let count = c.loop-i.invariant.count in
    let ok = p.lanes.ok in
    let end = c.loop-i-test.false in
    c.loop-i.invariant.told i lane (omega arith) at
