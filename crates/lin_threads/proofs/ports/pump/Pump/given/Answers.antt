use Rattle.std.proofs.Common.{refl, sym, ap, length}
use Rattle.lin_threads.proofs.GivenLemmas.{given_by, given_out}
use Rattle.lin_threads.proofs.ports.pump.Pump.given.Goals as goal

pub returns-in-Some-clause-count : goal.returns-in-Some-clause-count
returns-in-Some-clause-count c = (given_by c.args.self.now c.args.port c.in-Some.i _ c.in-Some.ensures.some.1 c.in-Some.ensures.some.0 c.index.ensures).0

pub returns-in-Some-clause-first : goal.returns-in-Some-clause-first
returns-in-Some-clause-first c = (given_by c.args.self.now c.args.port c.in-Some.i _ c.in-Some.ensures.some.1 c.in-Some.ensures.some.0 c.index.ensures).1

pub returns-in-None-clause-count : goal.returns-in-None-clause-count
returns-in-None-clause-count c = sym (ap length (given_out c.args.self.now c.args.port c.in-None.ensures.none))

pub returns-in-None-clause-first : goal.returns-in-None-clause-first
returns-in-None-clause-first c = rw (given_out c.args.self.now c.args.port c.in-None.ensures.none) (_, refl)
