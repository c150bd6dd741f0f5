use Rattle.std.proofs.Common.{IfOk, IsPermutation, option_map, subst, sym}
use Rattle.std.specs.Borrow.{Bor}
use Rattle.lin_tool.specs.Coding.{with_lints}
use Rattle.lin_tool.proofs.Warned.{linted_answer}
use Rattle.lin_values.specs.declared.codings.Codings.{Codings}
use Rattle.lin_tool.proofs.coding.with_lints.Goals as goal

pub returns-clause-all : goal.returns-clause-all
returns-clause-all c =
    let k = option_map (λ (k : Bor Codings). k.now) c.args.codings in
    subst (λ cs. IfOk c.with_findings-2.result (λ all. IsPermutation (with_lints c.args.description.now c.args.placed_elsewhere.now cs k c.args.warnings) all)) (sym c.in-Some.is)
    (linted_answer c.args.description.now c.args.placed_elsewhere.now c.in-Some.configurables c.as_slice.result.now k c.args.warnings c.in_ok-odd.odd c.in_ok-found.found.items c.as_slice-2.result.now
    c.in_ok-unused.unused.items c.as_slice-3.result.now c.with_findings-2.result c.as_slice.ensures c.in_ok-found.ensures.all c.as_slice-2.ensures.value
    c.in_ok-odd.ensures.all c.in_ok-unused.ensures c.as_slice-3.ensures.value c.with_findings-2.ensures.all)
