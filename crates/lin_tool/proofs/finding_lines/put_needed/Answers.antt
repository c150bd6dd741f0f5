use Rattle.std.proofs.lemmas.Bool.{ne_eqb}
use Rattle.lin_text.proofs.Growing.{grows-more}
use Rattle.lin_tool.proofs.finding_lines.put_needed.Goals as goal

pub returns-then-finding-eq9 : goal.returns-then-finding-eq9
returns-then-finding-eq9 g c =
    rw (c.if-finding-eq9.true) (grows-more c.put_byte.ensures (grows-more c.put_number.ensures c.put_byte-then-finding-eq9.ensures))

pub returns-else-finding-eq9 : goal.returns-else-finding-eq9
returns-else-finding-eq9 g c = rw (ne_eqb c.args.finding.now.number 9 c.if-finding-eq9.false) c.put.ensures
