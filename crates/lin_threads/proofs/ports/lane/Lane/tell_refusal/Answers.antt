use Rattle.std.proofs.Common.{◌≡◌, true, false, refl}
use Rattle.lin_threads.specs.Steps.{same_port}
use Rattle.lin_threads.specs.Lanes.{port_of}
use Rattle.lin_threads.proofs.TellLemmas.{serves_refusal, tells_none, tells_more}
use Rattle.lin_threads.proofs.ports.lane.Lane.tell_refusal.Goals as goal

pub returns-then-not-is_same-clause-serves : goal.returns-then-not-is_same-clause-serves
returns-then-not-is_same-clause-serves c e by is base log s at =
    let other : same_port e.port (port_of c.args.self.now) ≡ false = rw by (rw (c.is_same.ensures, c.port.ensures) at c.if-not-is_same.true) in
    serves_refusal base log e c.args.refusal false c.args.self.now _ s at is other (tells_none c.args.self.now _ refl refl refl refl refl) refl refl

pub returns-clause-serves : goal.returns-clause-serves
returns-clause-serves c e by is base log s at =
    let own : same_port e.port (port_of c.args.self.now) ≡ true = rw by (rw (c.is_same.ensures, c.port.ensures) at c.if-not-is_same.false) in
    let seen = c.has_room.ensures.seen in
    serves_refusal base log e c.args.refusal true c.args.self.now _ s at is own
    (tells_more c.args.self.now c.has_room.new.self _ _ c.has_room.ensures.told refl refl c.push_reserved.ensures.ring c.push_reserved.ensures.sent.0 refl refl) (rw seen refl) refl
