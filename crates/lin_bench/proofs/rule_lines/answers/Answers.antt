use Rattle.std.proofs.Common.{◌≡◌, ◌∙◌, ℕ, Bool, ◌+◌, List, arith, length, [], ◌∷◌, ◌++◌, Some, None, Result, Ok, Err, refl, sym, ap, append_assoc, drop, take}
use Rattle.std.specs.Prelude.{codes}
use Rattle.std.specs.List.{position, slice_split}
use Rattle.std.specs.Str.{bytes_eq}
use Rattle.std.proofs.lemmas.List.{drop-drop, length-drop}
use Rattle.std.proofs.lemmas.Result.{err_from_is_err_and}
use Rattle.lin_bench.specs.Fields.{◌>>=◌}
use Rattle.lin_bench.specs.Parts.{fields_of}
use Rattle.lin_bench.specs.Read.{Fails}
use Rattle.lin_bench.specs.RuleLines.{answer_form, answers_form, answers_in_turn, equals_word}
use Rattle.lin_bench.specs.declared.fault.LineFault.{LineFault}
use Rattle.lin_bench.specs.declared.fault.LineFault.TheVariants.{Bad, OutOfMemory}
use Rattle.lin_bench.specs.declared.reason.Reason.{Reason}
use Rattle.lin_bench.specs.declared.rules.RuleAnswer.{RuleAnswer}
use Rattle.lin_bench.proofs.Places.{split-at, split-nowhere}
use Rattle.lin_bench.proofs.rule_lines.answers.Goals as goal

abbrev then-is : List ℕ → List ℕ → Bool
then-is word f = bytes_eq f word

-- an answer before `then`, and those after it
first-of : (word : List ℕ) (fs : List (List ℕ)) (i : ℕ) → word ≡ codes "then" → Some i ≡ position (then-is word) fs
    → answers_form fs ≡ (answer_form (take i fs) >>= (λ a. answers_form (drop (i + 1) fs) >>= (λ more. Ok (a ∷ more))))
first-of word fs i same e =
    ap (λ w. answers_in_turn (slice_split (equals_word w) fs)) (sym same)
    ∙ ap answers_in_turn (split-at (equals_word word) fs i e)
    ∙ ap (λ w. answer_form (take i fs) >>= (λ a. answers_in_turn (slice_split (equals_word w) (drop (i + 1) fs)) >>= (λ more. Ok (a ∷ more)))) same

last-of : (word : List ℕ) (fs : List (List ℕ)) → word ≡ codes "then" → None ≡ position (then-is word) fs
    → answers_form fs ≡ (answer_form fs >>= (λ a. Ok (a ∷ [])))
last-of word fs same e =
    ap (λ w. answers_in_turn (slice_split (equals_word w) fs)) (sym same)
    ∙ ap answers_in_turn (split-nowhere (equals_word word) fs e)

abbrev with : List RuleAnswer → Result (List RuleAnswer) Reason → Result (List RuleAnswer) Reason
with answers r = r >>= (λ more. Ok (answers ++ more))

with-one : (answers : List RuleAnswer) (a : RuleAnswer) (r : Result (List RuleAnswer) Reason)
    → with answers (r >>= (λ more. Ok (a ∷ more))) ≡ with (answers ++ a ∷ []) r
with-one answers a (Ok more) = ap Ok (sym (append_assoc answers (a ∷ []) more))
with-one answers a (Err why) = refl

fails : (e : LineFault) (r : Result RuleAnswer Reason) (rest : RuleAnswer → Result (List RuleAnswer) Reason) (answers : List RuleAnswer) → Fails e r
    → Fails e (with answers (r >>= rest))
fails (Bad why) r rest answers h = rw h refl
fails OutOfMemory r rest answers h = tt

pub returns-in_err-one : goal.returns-in_err-one
returns-in_err-one c =
    let p = err_from_is_err_and c.from_residual.result c.from_residual.ensures.1 in
    let fs = fields_of c.loop-end.left in
    let i = c.in-Some.end in
    let first = first-of c.as_slice.result.now fs i c.as_slice.ensures c.in-Some.ensures.first in
    rw (p.1, p.2, c.loop-end.invariant, first)
    (fails c.in_err-one.field-0.0 (answer_form (take i fs)) (λ a. answers_form (drop (i + 1) fs) >>= (λ more. Ok (a ∷ more))) c.loop-end.answers
    (rw c.take.ensures at c.in_err-one.ensures))

pub loop-end-preserved : goal.loop-end-preserved
loop-end-preserved c =
    let fs = fields_of c.loop-end.left in
    let i = c.in-Some.end in
    let first = first-of c.as_slice.result.now fs i c.as_slice.ensures c.in-Some.ensures.first in
    let one : answer_form (take i fs) ≡ Ok c.in_ok-one.one = rw c.take.ensures at c.in_ok-one.ensures in
    c.loop-end.invariant ∙ ap (with c.loop-end.answers) first
    ∙ ap (λ r. with c.loop-end.answers (r >>= (λ a. answers_form (drop (i + 1) fs) >>= (λ more. Ok (a ∷ more))))) one
    ∙ with-one c.loop-end.answers c.in_ok-one.one (answers_form (drop (i + 1) fs))
    ∙ ap (λ l. with l (answers_form (drop (i + 1) fs))) (sym c.in_ok-push.ensures)
    ∙ ap (λ l. with c.push.new.self (answers_form l)) (sym (c.skip-left.ensures ∙ ap (drop 1) c.skip.ensures ∙ drop-drop 1 i fs))

pub loop-end-smaller : goal.loop-end-smaller
loop-end-smaller c =
    let fs = fields_of c.loop-end.left in
    let left = ap length (c.skip-left.ensures ∙ ap (drop 1) c.skip.ensures ∙ drop-drop 1 c.in-Some.end fs) ∙ length-drop (c.in-Some.end + 1) fs in
    omega (arith, left, c.in-Some.ensures.within)

pub returns-in_err-last : goal.returns-in_err-last
returns-in_err-last c =
    let p = err_from_is_err_and c.from_residual-in_err-last.result c.from_residual-in_err-last.ensures.1 in
    let fs = fields_of c.loop-end.left in
    let last = last-of c.as_slice.result.now fs c.as_slice.ensures (sym c.in_default.is ∙ c.word_at.ensures.first) in
    rw (p.1, p.2, c.loop-end.invariant, last)
    (fails c.in_err-last.field-0.0 (answer_form fs) (λ a. Ok (a ∷ [])) c.loop-end.answers c.in_err-last.ensures)

pub returns : goal.returns
returns c =
    let fs = fields_of c.loop-end.left in
    let last = last-of c.as_slice.result.now fs c.as_slice.ensures (sym c.in_default.is ∙ c.word_at.ensures.first) in
    c.loop-end.invariant ∙ ap (with c.loop-end.answers) last ∙ ap (λ r. with c.loop-end.answers (r >>= (λ a. Ok (a ∷ [])))) c.in_ok-last.ensures
    ∙ ap Ok (sym c.in_ok-push-2.ensures)
