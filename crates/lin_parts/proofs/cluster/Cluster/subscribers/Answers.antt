use Rattle.std.proofs.Common.{◌<◌, ◌∙◌, List, [], All, ap, subst, sym, ℕ}
use Rattle.lin_frame.specs.declared.value.Value.TheVariants.{Scalar}
use Rattle.lin_parts.specs.Cluster.{nodes}
use Rattle.lin_parts.specs.declared.parts.Signal.{Signal}
use Rattle.lin_parts.proofs.cluster.Cluster.subscribers.Goals as goal

pub returns-clause-there : goal.returns-clause-there
returns-clause-there c =
    let cluster = c.args.self.now in
    subst (λ (xs : List ℕ). All (λ n. n < nodes cluster) xs) (sym (c.as_slice.ensures ∙ ap (λ (s : Signal). s.subscribers) c.signal.ensures))
    (c.sound.ensures.rules.signals.subscribers c.args.signal (record { name = []; publisher = 0; subscribers = []; size = 1; initial = Scalar 0 }) c.requires)
