use Rattle.std.proofs.Common.{rules, ◌≡◌, ◌∙◌, [], ◌∷◌, ◌++◌, true, false, sym, ap, append_assoc, arith, map}
use Rattle.std.proofs.lemmas.Grind.{common_steps}
use Rattle.lin_bench.specs.Added.{send_of}
use Rattle.lin_bench.specs.Rules.{is_due_at}
use Rattle.lin_bench.proofs.Makes.{append-nothing}
use Rattle.lin_bench.proofs.NotedAnswers.{all-kept, none-sent, not-kept, not-sent, one-kept, one-sent}
use Rattle.lin_bench.proofs.ruled.take_noted.Goals as goal

pub loop-one-preserved-in-Continue-1 : goal.loop-one-preserved-in-Continue-1
loop-one-preserved-in-Continue-1 c =
    let at = c.loop-one in
    let next : at.one-iterator.rest.items ≡ c.in-Some.one ∷ c.next.new.self.rest.items = search rules in
    let due : is_due_at c.args.time c.in-Some.one ≡ true = grind (arith, common_steps) in
    record {
      steps = c.in_ok-push.ensures.items ∙ ap (λ s. c.loop-one.steps.items ++ s ∷ []) c.send_of.ensures ∙ one-sent c.args.time c.args.steps.now.items at.steps.items at.yielded c.in-Some.one due at.invariant.steps;
      noted = not-kept c.args.time at.noted at.yielded c.in-Some.one due at.invariant.noted;
      whole = append_assoc at.yielded (c.in-Some.one ∷ []) c.next.new.self.rest.items ∙ ap (λ r. at.yielded ++ r) (sym next) ∙ at.invariant.whole;
    }

pub loop-one-preserved : goal.loop-one-preserved
loop-one-preserved c =
    let at = c.loop-one in
    let next : at.one-iterator.rest.items ≡ c.in-Some.one ∷ c.next.new.self.rest.items = search rules in
    let due : is_due_at c.args.time c.in-Some.one ≡ false = grind (arith, common_steps) in
    record {
      steps = not-sent c.args.time c.args.steps.now.items at.steps.items at.yielded c.in-Some.one due at.invariant.steps;
      noted = c.in_ok-push-2.ensures ∙ one-kept c.args.time at.noted at.yielded c.in-Some.one due at.invariant.noted;
      whole = append_assoc at.yielded (c.in-Some.one ∷ []) c.next.new.self.rest.items ∙ ap (λ r. at.yielded ++ r) (sym next) ∙ at.invariant.whole;
    }

pub returns-then-not-some_due-clause-steps : goal.returns-then-not-some_due-clause-steps
returns-then-not-some_due-clause-steps c =
    let none = rw c.as_slice.ensures at (sym c.some_due.ensures ∙ c.if-not-some_due.true) in
    sym (append-nothing c.args.steps.now.items) ∙ ap (λ l. c.args.steps.now.items ++ map send_of l) (sym (none-sent c.args.time c.args.noted.now none))

pub returns-then-not-some_due-clause-noted : goal.returns-then-not-some_due-clause-noted
returns-then-not-some_due-clause-noted c =
    let none = rw c.as_slice.ensures at (sym c.some_due.ensures ∙ c.if-not-some_due.true) in
    sym (all-kept c.args.time c.args.noted.now none)
