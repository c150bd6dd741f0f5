use Rattle.std.proofs.Common.{rules, tests}
use Rattle.std.proofs.lemmas.Iterator.{YieldsList-from_slice}
use Rattle.std.proofs.lemmas.Iterator.Search.{all_from_yields_List}
use Rattle.lin_frame.specs.Bits.{are_apart}
use Rattle.lin_frame.proofs.layout.is_apart_from_all.Goals as goal

pub returns : goal.returns
returns c =
    all_from_yields_List (are_apart c.args.place.now) _ _ _ c.all.ensures.ran (YieldsList-from_slice c.args.others.now cc) (λ x b q k. search (rules, tests))
