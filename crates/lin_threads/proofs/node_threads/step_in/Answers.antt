use Rattle.std.proofs.Common.{◌≡◌, ◌==◌, refl, sym, ◌∙◌, rules, tests}
use Rattle.std.proofs.lemmas.Iterator.{YieldsList-from_slice}
use Rattle.std.proofs.lemmas.Iterator.Search.{any_from_yields_List}
use Rattle.std.specs.List.{list_any}
use Rattle.lin_threads.proofs.node_threads.step_in.Goals as goal

pub returns-else-any : goal.returns-else-any
returns-else-any c =
    let leave = c.args.leave.now in
    let found : c.any.result ≡ list_any (λ n. n == c.args.number) leave =
    any_from_yields_List (λ n. n == c.args.number) _ _ c.any.result c.any.ensures.ran (YieldsList-from_slice leave cc) (λ x b q k. search (rules, tests)) in
    rw (sym found ∙ c.if-any.false) refl
