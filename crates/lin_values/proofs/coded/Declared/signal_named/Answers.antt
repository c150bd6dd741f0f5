use Rattle.std.proofs.Common.{ap, ◌∙◌}
use Rattle.std.specs.Prelude.{find}
use Rattle.std.specs.Option.{option_map}
use Rattle.std.specs.Str.{bytes_eq}
use Rattle.lin_values.specs.Gathered.{signal_without_coding, DeclaredData}
use Rattle.lin_values.specs.Warnings.{signal_by_name}
use Rattle.lin_values.proofs.coded.Declared.signal_named.Goals as goal

pub returns : goal.returns
returns c =
    c.copied.ensures ∙ c.get.ensures.value ∙ c.self.invariant.signals c.as_slice.result.now
    ∙ ap (λ q. option_map (signal_without_coding c.self.inside.wide.now) (find (λ s. bytes_eq s.name q) c.self.inside.cluster.now.signals)) c.as_slice.ensures
    ∙ ap (λ (d : DeclaredData). option_map (signal_without_coding d.wide) (signal_by_name d.parts c.args.name.now)) c.self.view_is
