use Rattle.std.proofs.Common.{[], sym}
use Rattle.std.specs.Str.{bytes_eq}
use Rattle.std.proofs.lemmas.List.Quantifiers.{position-Some}
use Rattle.lin_bench.specs.Parts.{fields_of}
use Rattle.lin_bench.proofs.FieldParts.{found-further}
use Rattle.lin_bench.proofs.fields.Fields.word_at.Goals as goal

pub returns-then-eq-clause-first : goal.returns-then-eq-clause-first
returns-then-eq-clause-first c =
    sym (found-further (λ f. bytes_eq f c.args.word.now) c.in-Some.field.now (fields_of c.loop-field.left) (fields_of c.in-Some.rest) _ _ c.loop-field.invariant.at c.in-Some.ensures.split (sym c.if-eq.ensures))

pub returns-then-eq-clause-within : goal.returns-then-eq-clause-within
returns-then-eq-clause-within c =
    (position-Some (λ f. bytes_eq f c.args.word.now) (fields_of c.args.self) _ []
    (found-further (λ f. bytes_eq f c.args.word.now) c.in-Some.field.now (fields_of c.loop-field.left) (fields_of c.in-Some.rest) _ _ c.loop-field.invariant.at c.in-Some.ensures.split (sym c.if-eq.ensures))).0
