use Rattle.std.proofs.Common.{ap, ◌∙◌}
use Rattle.lin_sections.specs.NewNames.{RenamesData}
use Rattle.lin_sections.specs.Renames.{all_renames}
use Rattle.lin_sections.specs.Things.{all_things, compared_data}
use Rattle.lin_sections.proofs.diff.compared_things.Goals as goal

pub returns : goal.returns
returns c = record {
  olds =
      c.in_ok-olds.ensures
      ∙ ap (λ (r : RenamesData). all_things (compared_data c.in_ok-old.old.ldf) r) c.in_ok-renames.ensures
      ∙ (λ j. all_things (compared_data (c.in_ok-old.ensures.same j)) (all_renames (compared_data (c.in_ok-old.ensures.same j)) (compared_data (c.in_ok-new.ensures.same j))));
  news = c.in_ok-news.ensures ∙ (λ j. all_things (compared_data (c.in_ok-new.ensures.same j)) (c.in_ok-none.ensures j));
}
