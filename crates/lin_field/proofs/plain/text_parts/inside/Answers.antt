use Rattle.std.proofs.Common.{◌≡◌, ◌+◌, ◌-◌, length, drop, arith}
use Rattle.std.proofs.lemmas.List.{length-drop}
use Rattle.lin_field.proofs.PlainParts.{without-last}
use Rattle.lin_field.proofs.plain.text_parts.inside.Goals as goal

pub returns-in-len3-up : goal.returns-in-len3-up
returns-in-len3-up c =
    let ts = c.args.part.now in
    let same : length ts - 1 - 2 + 1 ≡ length (drop 2 ts) = omega (arith, length-drop 2 ts) in
    without-last (length ts - 1 - 2) (drop 2 ts) same
