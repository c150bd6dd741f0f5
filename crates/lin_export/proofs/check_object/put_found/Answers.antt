use Rattle.std.proofs.Common.{codes}
use Rattle.lin_export.specs.CheckObject.{declarations_member, header_value}
use Rattle.lin_export.specs.Found.{found_data}
use Rattle.lin_export.specs.Json.{member}
use Rattle.lin_export.specs.declared.check_object.declaration_lists.Declarations.TheVariants.{Nodes, Signals, Frames, Sporadics, Events, Tables}
use Rattle.lin_export.proofs.Objects.{grows-member, puts-more, puts-one}
use Rattle.lin_export.proofs.check_object.put_found.Goals as goal

pub returns : goal.returns
returns g c =
    let f = found_data c.args.found.now in
    let all =
    puts-more (puts-one (member (codes "header") (header_value f)) (grows-member (codes "header") c.put_key.ensures c.put_header.ensures))
    (puts-more (puts-one (declarations_member f Nodes) c.put_declarations.ensures)
    (puts-more (puts-one (declarations_member f Signals) c.put_declarations-2.ensures)
    (puts-more (puts-one (declarations_member f Frames) c.put_declarations-3.ensures)
    (puts-more (puts-one (declarations_member f Sporadics) c.put_declarations-4.ensures)
    (puts-more (puts-one (declarations_member f Events) c.put_declarations-5.ensures)
    (puts-one (declarations_member f Tables) c.put_declarations-6.ensures)))))) in
    all.text
