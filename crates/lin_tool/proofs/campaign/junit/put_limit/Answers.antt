use Rattle.std.proofs.Common.{◌++◌, ◌∷◌, ◌∙◌, ap, append_assoc, sym}
use Rattle.std.specs.Prelude.{codes}
use Rattle.std.specs.Fmt.{decimal}
use Rattle.lin_text.proofs.Growing.{grows-more, same-growth}
use Rattle.lin_tool.specs.Junit.{xml_text}
use Rattle.lin_tool.proofs.campaign.junit.put_limit.Goals as goal

pub returns : goal.returns
returns g c =
    let script = xml_text c.args.script.now in
    let line = decimal c.args.line in
    let words = codes ": slot limit" in
    let end = codes "</failure>\n</testcase>\n" in
    let begin = codes ">\n<failure message=\"slot limit\">" in
    same-growth
    (ap (λ l. begin ++ l) (ap (λ l. script ++ (58 ∷ l)) (sym (append_assoc line words end)) ∙ sym (append_assoc script (58 ∷ (line ++ words)) end)))
    (grows-more c.put_text.ensures (grows-more (rw c.as_bytes.ensures.value at c.put_escaped.ensures) (grows-more c.put_numbered.ensures c.put_text-2.ensures)))
