use Rattle.std.proofs.Common.{◌≡◌, ◌∙◌, ℕ, suc, ◌+◌, List, [], ◌∷◌, Option, Some, None, refl, sym, ap, add-one, drop, take}
use Rattle.std.specs.List.{position}
use Rattle.std.specs.Prelude.{codes, option_map}
use Rattle.std.specs.Str.{bytes_eq}
use Rattle.lin_parts.specs.declared.parts.Parts.{Parts}
use Rattle.lin_bench.specs.Fields.{maybe_text}
use Rattle.lin_bench.specs.Parts.{fields_of}
use Rattle.lin_bench.specs.RuleLines.{answers_of, before_enter, silent_or_end, when_by, when_entering, when_in, when_of}
use Rattle.lin_bench.proofs.Places.{cut-at, cut-nowhere, is-answer}
use Rattle.lin_bench.proofs.rule_lines.when_in.Goals as goal

as-answer : (o : Option ℕ) (word : List ℕ) (fs : List (List ℕ)) → word ≡ codes "answer" → o ≡ position (λ f. bytes_eq f word) fs → o ≡ position is-answer fs
as-answer o word fs same e = e ∙ ap (λ w. position (λ f. bytes_eq f w) fs) same

answered : (c : Parts) (n : List ℕ) (s next : Option (List ℕ)) (f : List ℕ) (fields rest : List (List ℕ)) (i : ℕ) → fields ≡ f ∷ rest → Some i ≡ position is-answer rest
    → when_entering c n s (fields, next) ≡ when_of c n s (take (i + 1) fields) (answers_of (Some (drop (i + 1) rest))) next
answered c n s next f fields rest i is e =
    let first : take (i + 1) fields ≡ f ∷ take i rest = ap (take (i + 1)) is ∙ ap (λ j. take j (f ∷ rest)) (add-one i) in
    ap (λ l. when_entering c n s (l, next)) is ∙ ap (when_by c n s f rest next) (cut-at rest i e)
    ∙ ap (λ l. when_of c n s l (answers_of (Some (drop (i + 1) rest))) next) (sym first)

not-answered : (c : Parts) (n : List ℕ) (s next : Option (List ℕ)) (f : List ℕ) (fields rest : List (List ℕ)) → fields ≡ f ∷ rest → None ≡ position is-answer rest
    → when_entering c n s (fields, next) ≡ silent_or_end c n s fields next
not-answered c n s next f fields rest is e =
    ap (λ l. when_entering c n s (l, next)) is ∙ ap (when_by c n s f rest next) (cut-nowhere rest e)
    ∙ ap (λ l. silent_or_end c n s l next) (sym is)

-- the fields before a state that is entered
entering : (c : Parts) (n : List ℕ) (s next : Option (List ℕ)) (all fields : List (List ℕ)) → (fields, next) ≡ before_enter all
    → when_in c n (s, all) ≡ when_entering c n s (fields, next)
entering c n s next all fields e = ap (when_entering c n s) (sym e)

pub returns-in-Some-word_at : goal.returns-in-Some-word_at
returns-in-Some-word_at c =
    let fields = fields_of c.before_enter.result.0 in
    let rest = fields_of c.in-Some.rest in
    let s = maybe_text c.args.whose.state in
    let next = maybe_text c.before_enter.result.1 in
    let e = as-answer (Some c.in-Some-word_at.end) c.as_slice.result.now rest c.as_slice.ensures c.in-Some-word_at.ensures.first in
    rw (entering c.args.cluster.now c.args.whose.node.now s next (fields_of c.args.fields) fields c.before_enter.ensures
    ∙ answered c.args.cluster.now c.args.whose.node.now s next _ fields rest c.in-Some-word_at.end c.in-Some.ensures.split e
    ∙ ap (λ l. when_of c.args.cluster.now c.args.whose.node.now s l (answers_of (Some (drop (c.in-Some-word_at.end + 1) rest))) next) (sym c.take-pattern.ensures)
    ∙ ap (λ l. when_of c.args.cluster.now c.args.whose.node.now s (fields_of c.take-pattern.result) (answers_of (Some l)) next) (sym c.skip-answers.ensures))
    c.when_with.ensures

pub returns : goal.returns
returns c =
    let fields = fields_of c.before_enter.result.0 in
    let rest = fields_of c.in-Some.rest in
    let s = maybe_text c.args.whose.state in
    let next = maybe_text c.before_enter.result.1 in
    let e = as-answer None c.as_slice.result.now rest c.as_slice.ensures c.in_default-word_at.ensures.first in
    rw (entering c.args.cluster.now c.args.whose.node.now s next (fields_of c.args.fields) fields c.before_enter.ensures
    ∙ not-answered c.args.cluster.now c.args.whose.node.now s next _ fields rest c.in-Some.ensures.split e)
    c.unanswered.ensures
