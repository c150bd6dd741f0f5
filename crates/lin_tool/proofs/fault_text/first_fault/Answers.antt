use Rattle.std.proofs.Common.{◌≡◌, ◌∙◌, ◌+◌, ap, arith, length, sym}
use Rattle.std.specs.Prelude.{Some, None}
use Rattle.lin_tool.specs.FaultText.{split_around}
use Rattle.lin_tool.proofs.FaultTexts.{pieces, rest_length, shorter, split-around}
use Rattle.lin_tool.proofs.fault_text.first_fault.Goals as goal

pub returns-in-Some-clause-faults : goal.returns-in-Some-clause-faults
returns-in-Some-clause-faults c =
    let text = c.args.text.now in
    let found : split_around 43 text ≡ Some (c.in-Some.first.now, c.in-Some.rest.now) = sym c.in-Some.ensures in
    split-around text ∙ ap (λ o. pieces o text) found

pub returns-in-Some-clause-shorter : goal.returns-in-Some-clause-shorter
returns-in-Some-clause-shorter c =
    let text = c.args.text.now in
    let found : split_around 43 text ≡ Some (c.in-Some.first.now, c.in-Some.rest.now) = sym c.in-Some.ensures in
    let same : rest_length (split_around 43 text) ≡ length c.in-Some.rest.now + 1 = ap rest_length found in
    omega (arith, shorter 43 text)

pub returns-in-None-clause-faults : goal.returns-in-None-clause-faults
returns-in-None-clause-faults c =
    let text = c.args.text.now in
    let none : split_around 43 text ≡ None = sym c.in-None.ensures in
    split-around text ∙ ap (λ o. pieces o text) none
