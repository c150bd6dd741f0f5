use Rattle.lin_live.proofs.HeldBack.{held-back, held-of, held-opening}
use Rattle.lin_live.proofs.held.HeldBench.back.Goals as goal

pub back-requires-clause-mark : goal.back-requires-clause-mark
back-requires-clause-mark c = held-of c.self.inside c.args.self c.args.mark.now c.self.view_is c.requires.mark

pub back-requires-clause-table : goal.back-requires-clause-table
back-requires-clause-table c = (held-opening c.self.inside c.args.self c.args.opening c.self.view_is c.requires.opening).0

pub back-requires-clause-capacity : goal.back-requires-clause-capacity
back-requires-clause-capacity c = (held-opening c.self.inside c.args.self c.args.opening c.self.view_is c.requires.opening).1

pub back-requires-clause-tables : goal.back-requires-clause-tables
back-requires-clause-tables c = (held-opening c.self.inside c.args.self c.args.opening c.self.view_is c.requires.opening).2

pub returns : goal.returns
returns c = held-back c.self.inside c.args.self c.in_ok-back.field-0 c.args.mark.now c.self.view_is c.in_ok-back.ensures.state c.in_ok-back.ensures.alike
