use Rattle.std.proofs.Common.{◌∙◌, ◌++◌, ◌∷◌, [], ap, sym}
use Rattle.lin_log.specs.Words.{value_word}
use Rattle.lin_bench.specs.LineWords.{fields_text}
use Rattle.lin_bench.specs.Parts.{fields_of}
use Rattle.lin_bench.proofs.JoinedFields.{last-joined, next-joined}
use Rattle.lin_bench.proofs.words.in_numbers.Goals as goal

pub loop-field-preserved : goal.loop-field-preserved
loop-field-preserved c = λ s w.
    next-joined c.in-Some.field.now (fields_of c.loop-field.left) (fields_of c.in-Some.rest) s w c.loop-field.text.items c.push.new.self.items (fields_text (fields_of c.args.before ++ s ∷ w ∷ []))
    c.in-Some.ensures.split (c.in_ok-push.ensures.items ∙ ap (λ t. t ++ 32 ∷ []) c.in_ok-extend_from_slice.ensures.items) (c.loop-field.invariant s w)
