use Rattle.std.proofs.Common.{◌≡◌, ◌<◌, ◌∙◌, [], ◌∷◌, ◌++◌, ap, sym, append_assoc, rules, arith}
use Rattle.std.proofs.lemmas.Grind.{common_steps}
use Rattle.lin_core.specs.declared.port.PortId.TheVariants.{Host}
use Rattle.lin_threads.specs.Steps.{host_step}
use Rattle.lin_threads.specs.Splitting.{list_at}
use Rattle.lin_threads.proofs.SplitLemmas.{split-more, first-other}
use Rattle.lin_threads.proofs.splitting.split.Goals as goal

pub returns-in_default-of_host : goal.returns-in_default-of_host
returns-in_default-of_host c =
    let at = c.loop-port in
    let next : at.port-iterator.rest.items ≡ (c.in-Some.port, c.in-Some.step) ∷ c.next.new.self.rest.items = search rules in
    first-other c.args.nodes c.args.steps.items at.yielded c.next.new.self.rest.items (c.in-Some.port, c.in-Some.step) at.index
    (ap (λ r. at.yielded ++ r) (sym next) ∙ at.invariant.whole) at.invariant.index at.invariant.split.all (search rules)

pub loop-port-preserved : goal.loop-port-preserved
loop-port-preserved c =
    let at = c.loop-port in
    let host = c.in-Some-of_host.host in
    let own = c.in-Some-of_host.own in
    let next : at.port-iterator.rest.items ≡ (c.in-Some.port, c.in-Some.step) ∷ c.next.new.self.rest.items = search rules in
    let below : host < c.args.nodes = search rules in
    let port : c.in-Some.port ≡ Host host = search rules in
    let same : c.in-Some.step ≡ host_step host own = search rules in
    let added : list_at host c.add.new.lists.items ≡ list_at host at.lists.items ++ own ∷ [] = search rules in
    record {
      split = split-more c.args.nodes at.yielded at.lists.items c.add.new.lists.items (c.in-Some.port, c.in-Some.step) host own at.invariant.split below port same c.add.ensures.count added c.add.ensures.others;
      index = grind (arith, common_steps);
      whole = append_assoc at.yielded ((c.in-Some.port, c.in-Some.step) ∷ []) c.next.new.self.rest.items ∙ ap (λ r. at.yielded ++ r) (sym next) ∙ at.invariant.whole;
    }
