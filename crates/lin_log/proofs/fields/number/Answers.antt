use Rattle.std.proofs.Common.{◌≡◌, sym, ◌∙◌, None, arith}
use Rattle.std.proofs.lemmas.Grind.{common_steps}
use Rattle.lin_log.specs.Said.{number_after}
use Rattle.lin_log.proofs.Lines.{after-bad}
use Rattle.lin_log.proofs.fields.number.Goals as goal

pub returns-then-not-is_ascii_digit : goal.returns-then-not-is_ascii_digit
returns-then-not-is_ascii_digit c =
    let e : number_after 0 c.args.word.now ≡ None =
    sym c.loop-c.invariant.left ∙ after-bad c.loop-c.n c.args.word.now c.loop-c.c-index (omega arith) (sym c.is_ascii_digit.ensures.value ∙ c.if-not-is_ascii_digit.true) in
    grind (arith, common_steps, e)
