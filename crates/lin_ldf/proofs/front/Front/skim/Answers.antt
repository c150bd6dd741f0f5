use Rattle.std.proofs.Common.{subst, sym}
use Rattle.lin_ldf.specs.Forms.{tail}
use Rattle.lin_ldf.specs.Skimming.{Over}
use Rattle.lin_ldf.specs.Stream.{symbols_of}
use Rattle.lin_ldf.proofs.Skimming.{skims_front}
use Rattle.lin_ldf.proofs.front.Front.skim.Goals as goal

pub returns-clause-over : goal.returns-clause-over
returns-clause-over c =
    subst (Over c.args.end c.args.depth c.skimmed-size.result.1 (tail (symbols_of c.args.self.now))) (sym c.advance.ensures.tail)
    (skims_front c.args.end c.args.depth c.skimmed-size.result.1 c.skimmed-size.result.0 c.args.self.now c.pass.new.self c.split_at.result.1.now c.requires.front
    c.skimmed-size.ensures.skims c.skimmed-size.ensures.within c.split_at.ensures.back c.pass.ensures.source c.pass.ensures.offset c.pass.ensures.place)
