-- What is told of expectations in words that aren't met: what the value means.
use Rattle.std.specs.Prelude.{ℕ, List, Option, Some, None, map}
use Rattle.std.specs.Option.{option_map_or}
use Rattle.lin_frame.specs.declared.value.Value.{Value}
use Rattle.lin_values.specs.Coded.{CodedData}
use Rattle.lin_values.specs.Meaning.{meaning}
use Rattle.lin_values.specs.Shown.{shown}
use Rattle.lin_bench.specs.declared.expected.Condition.{Condition}
use Rattle.lin_bench.specs.declared.expected.Condition.TheVariants as condition
use Rattle.lin_bench.specs.declared.expected.Expected.{Expected}
use Rattle.lin_bench.specs.declared.expected.Expected.TheVariants as expected
use Rattle.lin_bench.specs.declared.got.Got.{Got}
use Rattle.lin_bench.specs.declared.got.Got.TheVariants as got
use Rattle.lin_bench.specs.declared.got.Judged.{Judged}
use Rattle.lin_bench.specs.declared.got.Judged.TheVariants as judged
use Rattle.lin_bench.specs.declared.got.Judgement.{Judgement}
use Rattle.lin_bench.specs.declared.got.Verdict.{Verdict}
use Rattle.lin_bench.specs.declared.got.Verdict.TheVariants as verdicts

-- the text of a value, or the value itself where it means nothing
abbrev pub meaning_got : CodedData → ℕ → Value → Got
meaning_got k s v = option_map_or (λ m. got.Meaning (shown m)) (meaning k s v) (got.Value v)

abbrev pub value_meaning : CodedData → ℕ → Got → Got
value_meaning k s (got.Value v) = meaning_got k s v
value_meaning k s g = g

-- the signal of what is expected in words
abbrev pub worded_signal : Condition → Option ℕ
worded_signal (condition.SignalMeans node s text values) = Some s
worded_signal what = None

abbrev pub signal_in_words : Expected → Option ℕ
signal_in_words (expected.Is what) = worded_signal what
signal_in_words (expected.Not what) = worded_signal what
signal_in_words what = None

abbrev pub with_meaning : CodedData → Expected → Got → Got
with_meaning k e g = option_map_or (λ s. value_meaning k s g) (signal_in_words e) g

abbrev pub told_meaning : CodedData → Verdict → Verdict
told_meaning k (verdicts.Unmet e g) = verdicts.Unmet e (with_meaning k e g)
told_meaning k v = v

abbrev pub judged_meaning : CodedData → Judged → Judged
judged_meaning k (judged.Unmet e g) = judged.Unmet e (with_meaning k e g)
judged_meaning k j = j

abbrev pub judgement_meaning : CodedData → Judgement → Judgement
judgement_meaning k j = record j { judged = judged_meaning k j.judged }

abbrev pub with_meanings : CodedData → List Judgement → List Judgement
with_meanings k js = map (judgement_meaning k) js
