use Rattle.std.proofs.Common.{◌∙◌, ap, refl}
use Rattle.lin_text.proofs.Growing.{grows-more, grows-nothing, same-growth}
use Rattle.lin_export.proofs.Puttings.{puts-all, puts-some}
use Rattle.lin_tool.specs.Junit.{test_case_text, xml_text}
use Rattle.lin_tool.proofs.junit.put_test.Goals as goal

pub returns-in_err-name : goal.returns-in_err-name
returns-in_err-name g c = puts-some (test_case_text c.args.file.now c.args.test.now c.args.case.now) c.from_residual.ensures.0 refl (grows-nothing c.args.out.now)

pub returns : goal.returns
returns g c =
    puts-all refl
    (grows-more c.put_text.ensures
    (grows-more (rw c.as_bytes.ensures.value at c.put_escaped.ensures)
    (grows-more c.put_text-2.ensures
    (grows-more (same-growth (ap xml_text (c.as_slice.ensures.value ∙ c.in_ok-name.ensures)) c.put_escaped-2.ensures)
    (grows-more c.put_text-3.ensures c.put_test_end.ensures)))))
