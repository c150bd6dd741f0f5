use Rattle.std.proofs.Common.{◌≡◌, ◌<◌, ◌++◌, ◌∙◌, ℕ, zero, suc, List, [], ap, arith, refl, sym}
use Rattle.std.specs.Prelude.{codes}
use Rattle.lin_bench.specs.Files.{file_name}
use Rattle.lin_bench.specs.declared.files.ScriptFile.{ScriptFile}
use Rattle.lin_text.proofs.Growing.{grows-more, same-growth}
use Rattle.lin_tool.specs.Junit.{case_mark, xml_text}
use Rattle.lin_tool.proofs.junit.put_case_mark.Goals as goal

-- the mark of a file that is included
included : (fs : List ScriptFile) (n : ℕ) → 0 < n → xml_text (file_name [] fs n) ++ codes ":" ≡ case_mark fs n
included fs zero h = absurd (omega arith)
included fs (suc i) h = refl

pub returns-else-number-eq0 : goal.returns-else-number-eq0
returns-else-number-eq0 g c =
    let some : 0 < c.args.number = let h = c.if-number-eq0.false in omega arith in
    same-growth (ap (λ l. xml_text l ++ codes ":") c.file_name.ensures ∙ included c.args.files.now c.args.number some)
    (grows-more c.put_escaped.ensures c.put_text-else-number-eq0.ensures)
