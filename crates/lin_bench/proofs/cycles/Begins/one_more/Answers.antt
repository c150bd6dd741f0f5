use Rattle.lin_bench.proofs.FrameCycles.{first-begin, next-begin}
use Rattle.lin_bench.proofs.cycles.Begins.one_more.Goals as goal

pub returns-in-None : goal.returns-in-None
returns-in-None c = λ ts known. first-begin c.args.cycle ts c.args.self c.args.time known c.in-None.is

pub returns-in-Some : goal.returns-in-Some
returns-in-Some c = λ ts known.
    let other = rw c.saturating_sub.ensures at c.first_other.ensures in
    next-begin c.args.cycle ts c.args.self c.in-Some.last c.args.time c.first_other.result known c.in-Some.is other
