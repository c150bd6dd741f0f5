use Rattle.std.proofs.Common.{sym, ◌∙◌}
use Rattle.lin_text.proofs.Growing.{grows-more}
use Rattle.lin_tool.proofs.page.field.put_escaped.Goals as goal

pub returns-else-is_plain : goal.returns-else-is_plain
returns-else-is_plain g c = rw (sym c.is_plain.ensures ∙ c.if-is_plain.false) (grows-more c.put_byte-else-is_plain.ensures c.put_hex_byte.ensures)
