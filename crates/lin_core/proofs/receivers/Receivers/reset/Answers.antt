use Rattle.lin_core.proofs.receivers.Receivers.reset.Goals as goal

pub returns-in-Down-clause-own : goal.returns-in-Down-clause-own
returns-in-Down-clause-own c = rw c.in-Down.is (record { ear = c.reset.ensures.ear; ends = c.reset.ensures.ends })

pub returns-in-Up-clause-own : goal.returns-in-Up-clause-own
returns-in-Up-clause-own c = rw c.in-Up.is (record { ear = c.reset-in-Up.ensures.ear; ends = c.reset-in-Up.ensures.ends })
