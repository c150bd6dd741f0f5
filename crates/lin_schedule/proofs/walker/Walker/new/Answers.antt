use Rattle.lin_schedule.proofs.Standings.{position-start}
use Rattle.lin_schedule.proofs.Walks.{Walks-start}
use Rattle.lin_schedule.proofs.walker.Walker.new.Goals as goal

pub returns-clause-stands : goal.returns-clause-stands
returns-clause-stands c = λ cluster. position-start cluster c.args.table

pub returns-clause-walks : goal.returns-clause-walks
returns-clause-walks c = λ cluster rules lt. Walks-start cluster rules c.args.table lt
