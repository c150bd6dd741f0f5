use Rattle.std.proofs.Common.{◌∷◌, [], List, ℕ, ap, ◌∙◌, codes, map}
use Rattle.std.specs.Prelude.{slice_index}
use Rattle.lin_log.specs.CallerTexts.{seen_text}
use Rattle.lin_log.specs.Language.{named_language}
use Rattle.lin_log.specs.Words.{line, word_text}
use Rattle.lin_text.proofs.Growing.{same-growth}
use Rattle.lin_export.specs.Named.{control_words, who_word}
use Rattle.lin_log.specs.Shown.{word_shown}
use Rattle.lin_export.proofs.named.put_transport.Goals as goal

pub returns : goal.returns
returns g c =
    let x = c.args.cluster.now in
    let l = named_language x in
    let answer = c.args.answer.now in
    let way = seen_text c.args.way.now in
    let control = c.control_words in
    let texts : ℕ → ℕ → List (List ℕ) = λ byte length. map (word_text l) (control_words byte length) in
    same-growth
    (ap (λ (who : List ℕ). line (codes ">" ∷ codes "transport" ∷ who ∷ way ∷ word_shown control.result.0 ∷ word_shown control.result.1 ∷ []))
    (c.who_word-who.ensures ∙ ap (λ n. word_text l (who_word x n)) c.byte_at.ensures)
    ∙ ap (λ (words : List (List ℕ)). line (codes ">" ∷ codes "transport" ∷ word_text l (who_word x (slice_index answer 0)) ∷ way ∷ words))
    (control.ensures l ∙ ap (λ n. texts n c.byte_at-3.result) c.byte_at-2.ensures ∙ ap (texts (slice_index answer 1)) c.byte_at-3.ensures))
    c.put_reply.ensures
