use Rattle.std.proofs.Common.{◌≤◌, ◌∙◌, List, flat_map, length, map, ap, subst}
use Rattle.lin_parts.specs.declared.description.Table.{Table}
use Rattle.lin_sections.specs.NewNames.{has_in, is_among, keyed_name, renames_data, RenamesData}
use Rattle.lin_sections.specs.Renames.{all_table_names, table_keys_of}
use Rattle.lin_sections.specs.Things.{compared_data, lines_in, ComparedData}
use Rattle.lin_sections.proofs.RenamedKinds.{all-alone}
use Rattle.lin_sections.proofs.diff.table_facts.keys.Goals as goal

pub returns : goal.returns
returns c =
    let r : RenamesData = renames_data c.args.renames.now in
    let d : ComparedData = compared_data c.args.facts.now.ldf in
    let xs : List Table = d.description.tables in
    let le : length xs ≤ c.loop-table.table-index =
    subst (λ (ys : List Table). length ys ≤ c.loop-table.table-index) c.tables-tables.ensures c.loop-table-test.false in
    all-alone (λ (ts : List Table). flat_map (table_keys_of (lines_in d) r) ts) (has_in c.in_ok-others.others.map) (all_table_names (compared_data c.args.other.now.ldf))
    (map keyed_name c.loop-table.keys.items) c.loop-table.table-index xs le
    (λ q. c.in_ok-others.ensures q ∙ ap (λ (ts : List Table). is_among (map (λ t. t.name.text) ts) q) c.tables.ensures)
    c.loop-table.invariant
