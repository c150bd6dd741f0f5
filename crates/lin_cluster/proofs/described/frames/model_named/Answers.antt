use Rattle.std.proofs.Common.{refl, ◌∙◌}
use Rattle.std.specs.Str.{bytes_eq}
use Rattle.lin_cluster.specs.Models.{frame_model}
use Rattle.lin_cluster.proofs.NamesFound.{lent-at, made_of}
use Rattle.lin_cluster.proofs.described.frames.model_named.Goals as goal

pub returns : goal.returns
returns c =
    c.copied.ensures ∙ lent-at c.args.models.now c.from.result c.get.result c.get.ensures.lookup
    ∙ made_of (frame_model c.args.d.now) (λ x. bytes_eq x.name.text c.args.name.now.text) c.args.d.now.frames c.from.result c.args.models.now _ refl c.requires.models (c.from.ensures ∙ c.frame_number.ensures)
