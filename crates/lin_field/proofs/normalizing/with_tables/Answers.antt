use Rattle.std.proofs.Common.{List, ap, ◌∙◌}
use Rattle.lin_parts.specs.declared.description.Table.{Table}
use Rattle.lin_field.proofs.normalizing.with_tables.Goals as goal

pub returns-clause-tables : goal.returns-clause-tables
returns-clause-tables c =
    ap (λ (ts : List Table). record c.args.description { tables = ts }) (c.new.ensures ∙ c.in_ok-tables.ensures.timed)

pub returns-clause-warned : goal.returns-clause-warned
returns-clause-warned c = c.in_ok-tables.ensures.warned
