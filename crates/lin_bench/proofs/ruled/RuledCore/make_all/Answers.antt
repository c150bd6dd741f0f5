use Rattle.std.proofs.Common.{rules, ◌≡◌, ◌∙◌, [], ◌∷◌, ◌++◌, sym, ap, append_assoc}
use Rattle.std.proofs.lemmas.Result.{err_from_is_err_and}
use Rattle.lin_bench.proofs.AddedSteps.{added-more, fails-among}
use Rattle.lin_bench.proofs.ruled.RuledCore.make_all.Goals as goal

pub loop-by-preserved : goal.loop-by-preserved
loop-by-preserved c =
    let at = c.loop-by in
    let next : at.by-iterator.rest.items ≡ (c.in-Some.by, c.in-Some.step) ∷ c.next.new.self.rest.items = search rules in
    record {
      added = added-more c.args.self.now.core at.self.core c.alone.new.self.core at.yielded _ at.invariant.added c.in_ok-alone.ensures.added;
      rules = c.in_ok-alone.ensures.rules ∙ at.invariant.rules;
      whole = append_assoc at.yielded ((c.in-Some.by, c.in-Some.step) ∷ []) c.next.new.self.rest.items ∙ ap (λ r. at.yielded ++ r) (sym next) ∙ at.invariant.whole;
    }

pub returns-in_err-alone-clause-added : goal.returns-in_err-alone-clause-added
returns-in_err-alone-clause-added c =
    let at = c.loop-by in
    let next : at.by-iterator.rest.items ≡ (c.in-Some.by, c.in-Some.step) ∷ c.next.new.self.rest.items = search rules in
    let all : c.args.steps.items ≡ at.yielded ++ (c.in-Some.by, c.in-Some.step) ∷ c.next.new.self.rest.items =
    sym (ap (λ r. at.yielded ++ r) (sym next) ∙ at.invariant.whole) in
    let p = err_from_is_err_and c.from_residual.result c.from_residual.ensures.1 in
    rw (p.1, p.2, all)
    (fails-among c.in_err-alone.field-0.0 c.args.self.now.core at.self.core c.alone.new.self.core at.yielded (c.in-Some.by, c.in-Some.step) c.next.new.self.rest.items at.invariant.added c.in_err-alone.ensures.added)
