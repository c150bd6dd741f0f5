use Rattle.std.proofs.Common.{inl, inr}
use Rattle.lin_log.specs.Language.{named_language}
use Rattle.lin_text.proofs.Growing.{grows-more, same-growth}
use Rattle.lin_bench.specs.Texts.{expected_text, expected_words, got_text, got_words}
use Rattle.lin_bench.proofs.LineWords.{line-quiet}
use Rattle.lin_live.proofs.SaidWords.{failed-text}
use Rattle.lin_live.proofs.answer_texts.put_verdict_ending.Goals as goal

pub returns-in-Unmet : goal.returns-in-Unmet
returns-in-Unmet g c = λ k.
    let x = c.args.core.now.cluster in
    let l = named_language x in
    let what = c.in-Unmet.expected in
    let got = c.in-Unmet.got in
    rw c.in-Unmet.is
    (same-growth (failed-text l (expected_text x what) (got_text x got) (line-quiet l (expected_words what)) (line-quiet l (got_words got)))
    (grows-more c.put_byte.ensures (rw c.cluster.ensures at c.put_verdict.ensures)))

pub returns-in-Nothing : goal.returns-in-Nothing
returns-in-Nothing g c = λ k.
    let text = rw (c.first_refusal.ensures, c.log.ensures.entries) at (c.put_steps_ending.ensures c.args.core.now.cluster k) in
    elim c.in-Nothing.is [ inl e ↦ rw e text | inr e ↦ rw e.1 text ]
