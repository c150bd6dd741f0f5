use Rattle.std.proofs.Common.{◌≡◌, ◌∙◌, ◌++◌, ◌<◌, ◌≤◌, ℕ, List, length, flat_map, get_or, ap, arith}
use Rattle.std.specs.Prelude.{min}
use Rattle.std.proofs.lemmas.List.{get_or_default}
use Rattle.lin_parts.specs.declared.description.Table.{Table}
use Rattle.lin_sections.specs.NewNames.{renames_data, RenamesData}
use Rattle.lin_sections.specs.Things.{compared_data, lines_in, table_thing_of, text_tables, ComparedData}
use Rattle.lin_schedule.specs.declared.table_load.TableLoad.{TableLoad}
use Rattle.lin_sections.specs.declared.diff.fact.Thing.{Thing}
use Rattle.lin_sections.specs.declared.diff.table_facts.TableLines.{TableLines}
use Rattle.lin_sections.proofs.FactSteps.{all-pairs}
use Rattle.lin_sections.proofs.TableSteps.{pairs-more}
use Rattle.lin_sections.proofs.diff.table_facts.things.Goals as goal

pub loop-number-preserved : goal.loop-number-preserved
loop-number-preserved c =
    let r : RenamesData = renames_data c.args.renames.now in
    let d : ComparedData = compared_data c.args.facts.now.ldf in
    let of : Table × TableLoad → List Thing = λ t. table_thing_of (lines_in d) r t.0 t.1 in
    let xs : List Table = d.description.tables in
    let ys : List TableLoad = d.loads in
    let i : ℕ = c.loop-number.number in
    let x : Table = c.index-tables-number.result in
    let none : TableLoad = record { cycle_us = 0; load = 0; delay_us = 0; needed_us = 0 } in
    let y : TableLoad = get_or ys i none in
    let lines : c.as_slice-in-loop-number.result.now ≡ lines_in d =
    c.as_slice-in-loop-number.ensures.value ∙ c.in_ok-lines.ensures ∙ ap (text_tables d.tokens) c.tables-tables.ensures in
    let size : length c.tables-tables.result.now ≡ length xs = ap (λ (ts : List Table). length ts) c.tables-tables.ensures in
    let lt : i < length xs = omega arith in
    let few : i < length ys = omega arith in
    let is : x ≡ get_or xs i x = c.index-tables-number.is ∙ ap (λ (ts : List Table). get_or ts i x) c.tables-tables.ensures in
    pairs-more of xs ys i x y c.loop-number.things.items c.add_thing.new.things.items lt few is (get_or_default ys i none y few) c.loop-number.invariant
    (c.in_ok-add_thing.ensures ∙ ap (λ (ls : List TableLines). c.loop-number.things.items ++ table_thing_of ls r x y) lines)

pub returns : goal.returns
returns c =
    let r : RenamesData = renames_data c.args.renames.now in
    let d : ComparedData = compared_data c.args.facts.now.ldf in
    let size : length c.tables-tables.result.now ≡ length d.description.tables = ap (λ (ts : List Table). length ts) c.tables-tables.ensures in
    let end : min (length d.description.tables) (length d.loads) ≤ c.loop-number.number = omega arith in
    c.loop-number.invariant
    ∙ ap (λ (ps : List (Table × TableLoad)). flat_map (λ (t : Table × TableLoad). table_thing_of (lines_in d) r t.0 t.1) ps) (all-pairs d.description.tables d.loads c.loop-number.number end)
