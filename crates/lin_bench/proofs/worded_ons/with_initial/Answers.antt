use Rattle.std.proofs.Common.{◌∙◌, ◌++◌, ◌∷◌, [], ap, flat_map}
use Rattle.lin_log.specs.Words.{spaced_word, value_word}
use Rattle.lin_bench.specs.LineWords.{fields_text}
use Rattle.lin_bench.specs.Parts.{fields_of}
use Rattle.lin_bench.specs.RawValues.{some_value}
use Rattle.lin_bench.proofs.JoinedFields.{joined-after}
use Rattle.lin_bench.proofs.worded_ons.with_initial.Goals as goal

pub returns : goal.returns
returns c =
    let line = c.args.line.now in
    c.in_ok-add_spaced.ensures ∙ ap (λ t. t ++ flat_map spaced_word (fields_of line.behind)) c.in_ok-text.ensures
    ∙ ap (λ v. fields_text (fields_of line.before ++ line.signal.now ∷ value_word v ∷ []) ++ flat_map spaced_word (fields_of line.behind))
    c.in_ok-value.ensures
    ∙ joined-after (fields_of line.before) line.signal.now (value_word (some_value c.args.cluster.now line.signal.now))
    (fields_of line.behind)
