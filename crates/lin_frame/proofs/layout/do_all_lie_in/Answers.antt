use Rattle.std.proofs.Common.{rules, tests}
use Rattle.std.proofs.lemmas.Iterator.{YieldsList-from_slice}
use Rattle.std.proofs.lemmas.Iterator.Search.{all_from_yields_List}
use Rattle.lin_frame.specs.Bits.{lies_in}
use Rattle.lin_frame.proofs.layout.do_all_lie_in.Goals as goal

pub returns : goal.returns
returns c =
    all_from_yields_List (lies_in c.args.first c.args.end) _ _ _ c.all.ensures.ran (YieldsList-from_slice c.args.places.now cc) (λ x b q k. search (rules, tests))
