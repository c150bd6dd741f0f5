use Rattle.std.proofs.Common.{Some, ap, ◌∙◌}
use Rattle.std.specs.Prelude.{is_some}
use Rattle.std.specs.Str.{bytes_eq}
use Rattle.indexmap.specs.IndexMap.{get_by}
use Rattle.std.proofs.lemmas.Map.Text.{hash_map_updates_str}
use Rattle.lin_sections.proofs.NewNameSteps.{some-or-there}
use Rattle.lin_sections.proofs.diff.new_names.KnownNames.add.Goals as goal

pub returns : goal.returns
returns c = λ q.
    ap is_some (hash_map_updates_str c.args.name.now c.args.self.now.map c.insert.new.self (Some tt) c.in_ok-insert.ensures.updates q)
    ∙ some-or-there (bytes_eq c.args.name.now q) (get_by (λ k. bytes_eq q k.now) c.args.self.now.map) tt
