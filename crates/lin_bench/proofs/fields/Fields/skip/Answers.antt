use Rattle.std.proofs.Common.{◌≡◌, ◌∙◌, [], arith, sym}
use Rattle.lin_bench.specs.Parts.{fields_of}
use Rattle.lin_bench.proofs.FieldParts.{none-after, one-passed}
use Rattle.lin_bench.proofs.fields.Fields.skip.Goals as goal

pub returns-in_default : goal.returns-in_default
returns-in_default c =
    let none : fields_of c.loop.left ≡ [] = c.in_default.ensures.split in
    none ∙ sym (none-after c.loop.counter c.args.n (fields_of c.args.self) (sym c.loop.invariant ∙ none) (omega arith))

pub loop-preserved : goal.loop-preserved
loop-preserved c = sym (one-passed c.loop.counter (fields_of c.args.self) _ (fields_of c.in-Some.rest) (sym c.loop.invariant ∙ c.in-Some.ensures.split))
