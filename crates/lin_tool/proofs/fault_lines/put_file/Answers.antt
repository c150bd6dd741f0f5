use Rattle.std.proofs.Common.{◌++◌, ap, codes}
use Rattle.lin_text.proofs.Growing.{grows-more, same-growth}
use Rattle.lin_tool.proofs.fault_lines.put_file.Goals as goal

pub returns-in-Some : goal.returns-in-Some
returns-in-Some g c = rw c.in-Some.is (same-growth (ap (λ t. t ++ codes ":") c.as_slice.ensures) (grows-more c.put.ensures c.put_text.ensures))
