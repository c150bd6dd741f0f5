use Rattle.std.proofs.Common.{◌∙◌, ap, sym}
use Rattle.std.specs.Prelude.{option_map}
use Rattle.lin_bench.specs.declared.got.Got.TheVariants as got
use Rattle.lin_bench.proofs.FrameCycles.{cycle-by, no-cycle}
use Rattle.lin_bench.proofs.cycles.Begins.verdict.Goals as goal

pub returns-then-not-self : goal.returns-then-not-self
returns-then-not-self c = λ cycle ts known. no-cycle cycle ts c.args.self known c.if-not-self.true

pub returns-in-Some : goal.returns-in-Some
returns-in-Some c = λ cycle ts known.
    ap (option_map got.Took) (sym c.in-Some.is) ∙ cycle-by cycle ts c.args.self known c.if-not-self.false

pub returns-in-None : goal.returns-in-None
returns-in-None c = λ cycle ts known.
    ap (option_map got.Took) (sym c.in-None.is) ∙ cycle-by cycle ts c.args.self known c.if-not-self.false
