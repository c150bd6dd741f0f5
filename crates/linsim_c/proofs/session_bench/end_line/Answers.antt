use Rattle.std.proofs.Common.{◌==◌, rules, tests}
use Rattle.std.proofs.lemmas.Iterator.Search.{find_from_yields_List}
use Rattle.std.proofs.lemmas.Iterator.Splits.{YieldsList-from_slice_split}
use Rattle.linsim_c.specs.Answering.{says_end}
use Rattle.linsim_c.proofs.session_bench.end_line.Goals as goal

pub returns : goal.returns
returns c = find_from_yields_List says_end _ _ _ c.find.ensures.ran
    (YieldsList-from_slice_split _ (λ b. b == 10) c.args.answer.now c.split.ensures.rest c.split.ensures.done c.split.ensures.closure (λ x r q k. search (rules, tests)))
    (λ x b q k. search (rules, tests))
