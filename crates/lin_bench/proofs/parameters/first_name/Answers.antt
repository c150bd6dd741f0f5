use Rattle.std.proofs.Common.{◌≡◌, ◌∙◌, false, sym}
use Rattle.lin_log.specs.Said.{is_number}
use Rattle.lin_bench.specs.RuleLines.{is_name_sign}
use Rattle.lin_bench.proofs.Pieces.{taken}
use Rattle.lin_bench.proofs.parameters.first_name.Goals as goal

pub returns : goal.returns
returns c =
    let no : is_number c.args.text.now ≡ false = sym c.is_number.ensures ∙ c.if-is_number.false in
    let e = c.name_length.ensures in
    rw no (taken is_name_sign c.args.text.now c.name_length.result e.within e.clean e.ends)
