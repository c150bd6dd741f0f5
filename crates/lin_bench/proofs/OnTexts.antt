-- The texts of forms after `on`.
use Rattle.std.proofs.Common.{◌≡◌, ◌∙◌, [], ◌∷◌, ◌++◌, Bool, true, false, Some, None, refl, sym, ap, codes}
use Rattle.std.proofs.lemmas.Grind.{flat_map-append}
use Rattle.lin_parts.specs.declared.parts.Parts.{Parts}
use Rattle.lin_log.specs.Language.{Language, named_language}
use Rattle.lin_log.specs.Words.{spaced_word}
use Rattle.lin_log.specs.Words.Word.{Fixed}
use Rattle.lin_bench.specs.LineWords.{text_after_space, spaced_words, words_text}
use Rattle.lin_bench.specs.Texts.{cluster_text, condition_words, on_end_words}
use Rattle.lin_bench.specs.declared.expected.Condition.{Condition}
use Rattle.lin_bench.specs.declared.expected.Condition.TheVariants as condition
use Rattle.lin_bench.specs.declared.rules.Form.{Form}

-- the words of a condition begin with a word that has a space before it
spaced-condition : (l : Language) (wanted : Bool) (what : Condition) → spaced_words l (condition_words wanted what) ≡ 32 ∷ words_text l (condition_words wanted what)
spaced-condition l true (condition.Signal node signal value) = refl
spaced-condition l false (condition.Signal node signal value) = refl
spaced-condition l true (condition.SignalWithin node signal low high) = refl
spaced-condition l false (condition.SignalWithin node signal low high) = refl
spaced-condition l true (condition.SignalMeans node signal text values) = refl
spaced-condition l false (condition.SignalMeans node signal text values) = refl
spaced-condition l true (condition.Waiting host count) = refl
spaced-condition l false (condition.Waiting host count) = refl
spaced-condition l true (condition.Messages from to low high) = refl
spaced-condition l false (condition.Messages from to low high) = refl
spaced-condition l true (condition.Seen how) = refl
spaced-condition l false (condition.Seen how) = refl
spaced-condition l true (condition.Frame frame None) = refl
spaced-condition l false (condition.Frame frame None) = refl
spaced-condition l true (condition.Frame frame (Some pattern)) = refl
spaced-condition l false (condition.Frame frame (Some pattern)) = refl
spaced-condition l true (condition.Slot table entry) = refl
spaced-condition l false (condition.Slot table entry) = refl
spaced-condition l true (condition.Changed node signal first) = refl
spaced-condition l false (condition.Changed node signal first) = refl

-- the end of the steps that a form calls for
pub on-end-text : (c : Parts) (f : Form)
    → codes " on " ++ (cluster_text c (condition_words f.wanted f.what) ++ codes " off") ≡ spaced_word (cluster_text c (on_end_words f))
on-end-text c f =
    let l = named_language c in
    let words = condition_words f.wanted f.what in
    sym (ap (λ t. codes " on" ++ t)
    (flat_map-append (text_after_space l) words (Fixed (codes "off") ∷ []) ∙ ap (λ t. t ++ codes " off") (spaced-condition l f.wanted f.what)))
