use Rattle.lin_live.proofs.HeldBack.{held-mark}
use Rattle.lin_live.proofs.held.HeldBench.mark.Goals as goal

pub returns : goal.returns
returns c =
    let p = held-mark c.self.inside c.args.self.now c.mark.result c.self.view_is c.mark.ensures.mark c.mark.ensures.state in
    record { mark = p.0; state = p.1 }
