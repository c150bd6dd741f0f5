use Rattle.std.proofs.Common.{◌≡◌, sym, arith}
use Rattle.lin_text.proofs.Growing.{grows-more, same-growth}
use Rattle.lin_export.specs.CheckObject.{declaration_count, declaration_object, declarations_key}
use Rattle.lin_export.specs.Found.{found_data}
use Rattle.lin_export.proofs.Objects.{grows-list, joined-numbers}
use Rattle.lin_export.proofs.check_object.declaration_lists.put_declarations.Goals as goal

pub loop-number-preserved : goal.loop-number-preserved
loop-number-preserved g c =
    same-growth (sym (joined-numbers (declaration_object (found_data c.args.found.now) c.args.kind) c.loop-number.number))
    (grows-more c.loop-number.invariant (grows-more c.put_separator.ensures c.put_declaration.ensures))

pub returns : goal.returns
returns g c =
    let all : c.loop-number.number ≡ declaration_count c.args.found.now.cluster.now c.args.kind = omega arith in
    grows-list (declarations_key c.args.kind) _ (rw c.key.ensures at c.put_list.ensures) (rw all at c.loop-number.invariant) c.put_byte.ensures
