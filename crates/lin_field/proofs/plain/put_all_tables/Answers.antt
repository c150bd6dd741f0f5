use Rattle.std.proofs.Common.{List, ℕ, ap, map, arith}
use Rattle.std.specs.Prelude.{zip}
use Rattle.std.proofs.lemmas.List.{take_all}
use Rattle.lin_parts.specs.declared.description.Table.{Table}
use Rattle.lin_text.proofs.Growing.{same-growth}
use Rattle.lin_field.specs.Plain.{table_text_by, with_parts}
use Rattle.lin_field.proofs.PlainWords.{grows-part, pair-at, zip-long}
use Rattle.lin_field.proofs.plain.put_all_tables.Goals as goal

pub loop-number-preserved : goal.loop-number-preserved
loop-number-preserved g c =
    let tables = c.args.named.tables.now in
    let names = c.args.named.names.now in
    let long = zip-long tables names c.requires in
    let table = c.index-tables-number in
    let name = c.index-names-number in
    grows-part (λ (p : Table × List ℕ). table_text_by c.args.source.now p.0 p.1) (map (λ p. p.now) c.args.named.parts.now) (zip tables names) c.loop-number.number (table.result, name.result)
    (pair-at tables names c.loop-number.number table.result name.result table.is name.is (omega arith) (omega (arith, c.requires))) (omega (arith, long))
    c.loop-number.invariant (rw c.inside_at-tokens.ensures at c.put_table.ensures)

pub returns : goal.returns
returns g c =
    let tables = c.args.named.tables.now in
    let names = c.args.named.names.now in
    let long = zip-long tables names c.requires in
    same-growth
    (ap (with_parts (λ (p : Table × List ℕ). table_text_by c.args.source.now p.0 p.1) (map (λ p. p.now) c.args.named.parts.now) 0) (take_all c.loop-number.number (zip tables names) (omega (arith, long))))
    c.loop-number.invariant
