use Rattle.std.proofs.Common.{ℕ, List, ◌∷◌, append-nil, ap, map}
use Rattle.std.specs.Prelude.{Option}
use Rattle.std.specs.Option.{option_to_list}
use Rattle.lin_log.proofs.Ends.{grows-last}
use Rattle.lin_log.specs.Language.{named_language}
use Rattle.lin_log.specs.Words.{spaced_word, value_word}
use Rattle.lin_log.specs.Words.Word.{Raw, Said}
use Rattle.lin_text.proofs.Growing.{grows-more, same-growth}
use Rattle.lin_bench.specs.LineWords.{spaced_words}
use Rattle.lin_values.specs.Meant.{Meant}
use Rattle.lin_values.specs.Shown.{shown}
use Rattle.lin_live.proofs.answer_texts.put_signal.Goals as goal

pub returns : goal.returns
returns g c =
    let v = c.args.value.now in
    let says : Option Meant → List ℕ = λ o. spaced_words (named_language c.args.cluster.now) (Raw v ∷ map (λ m. Said (shown m)) (option_to_list o)) in
    let value = same-growth (append-nil (spaced_word (value_word v))) c.put_all_after.ensures in
    rw c.in-Some.is (same-growth (ap says c.in-Some-meaning.ensures) (grows-more value (grows-last (grows-more c.put_byte.ensures c.put_line_meaning.ensures))))
