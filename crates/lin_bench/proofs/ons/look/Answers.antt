use Rattle.std.proofs.Common.{rules, ◌≡◌, ◌∙◌, [], ◌∷◌, ◌++◌, sym, ap, append_assoc}
use Rattle.lin_core.specs.Core.{past_of}
use Rattle.lin_bench.specs.Ons.{looked}
use Rattle.lin_bench.proofs.Reactions.{called-more, looked-more, no-more-called}
use Rattle.lin_bench.proofs.ons.look.Goals as goal
use Rattle.lin_bench.proofs.ons.look.Goals.{then-calls+in_ok-copy+in_ok-push, else-calls}

pub loop-watched-preserved : goal.loop-watched-preserved
loop-watched-preserved c =
    let cluster = c.args.core.now.cluster in
    let past = past_of c.args.core.now in
    let offs = c.args.offs.now in
    let at = c.loop-watched in
    let watched = c.in-Some.watched in
    let held = c.in_ok-held.held in
    let next : at.watched-iterator.rest.items ≡ watched ∷ c.next.new.self.rest.items = search rules in
    record {
      steps = elim c.if-calls.branch [
        | then-calls+in_ok-copy+in_ok-push w ↦
            rw w.steps-is
            (called-more cluster past offs at.yielded watched held _ c.args.steps.now.items at.steps.items _ c.in_ok-held.ensures (sym c.calls.ensures ∙ w.if-calls.true)
            w.in_ok-copy.ensures.same at.invariant.steps w.in_ok-push.ensures.items)
        | else-calls w ↦
            rw w.steps-is
            (no-more-called cluster past offs at.yielded watched held c.args.steps.now.items at.steps.items c.in_ok-held.ensures (sym c.calls.ensures ∙ w.if-calls.false) at.invariant.steps)
      ];
      ons = looked-more cluster past at.yielded watched c.looked.result at.ons _ at.invariant.ons (c.looked.ensures ∙ ap (looked cluster past watched) c.in_ok-held.ensures) c.in_ok-push-2.ensures;
      whole = append_assoc at.yielded (watched ∷ []) c.next.new.self.rest.items ∙ ap (λ r. at.yielded ++ r) (sym next) ∙ at.invariant.whole;
    }
