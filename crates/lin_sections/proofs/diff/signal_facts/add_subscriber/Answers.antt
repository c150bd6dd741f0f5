use Rattle.std.proofs.Common.{◌≡◌, ◌∙◌, ◌++◌, ◌∷◌, [], ℕ, false, cond, List, ap, sym}
use Rattle.std.specs.Prelude.{codes}
use Rattle.std.specs.List.{list_any}
use Rattle.lin_sections.specs.FactTexts.{with_spaces}
use Rattle.lin_sections.specs.Facts.{fact, place_of_name}
use Rattle.lin_sections.specs.NewNames.{name_in, renames_data, RenamesData}
use Rattle.lin_sections.specs.Things.{is_subscriber}
use Rattle.lin_sections.specs.declared.diff.fact.Class.TheVariants as classes
use Rattle.lin_sections.specs.declared.diff.fact.Fact.{Fact}
use Rattle.lin_sections.proofs.diff.signal_facts.add_subscriber.Goals as goal

pub returns : goal.returns
returns c =
    let r : RenamesData = renames_data c.args.renames.now in
    let facts : List Fact = c.args.facts.now.items in
    let name : List ℕ = name_in r.nodes c.args.subscriber.now.text in
    let named : c.of-name.result.now ≡ name = c.of-name.ensures ∙ ap (name_in r.nodes) c.as_slice.ensures in
    let unknown : list_any (is_subscriber name) facts ≡ false =
    (λ j. list_any (is_subscriber (sym named j)) (sym c.as_slice-2.ensures.value j)) ∙ sym c.is_known.ensures ∙ c.if-is_known.false in
    let key : c.in_ok-key.key ≡ with_spaces (codes "subscriber" ∷ name ∷ []) = c.in_ok-key.ensures ∙ ap (λ t. with_spaces (codes "subscriber" ∷ t ∷ [])) named in
    let value : c.lent.result ≡ name = c.lent.ensures ∙ named in
    let new : Fact = fact (with_spaces (codes "subscriber" ∷ name ∷ [])) name (place_of_name c.args.subscriber.now) classes.Compatible in
    let made : c.new.result ≡ new = c.new.ensures ∙ (λ j. fact (key j) (value j) (c.place_of-place.ensures j) classes.Compatible) in
    c.in_ok-push.ensures.items ∙ ap (λ (f : Fact). facts ++ f ∷ []) made ∙ ap (λ b. cond b facts (facts ++ new ∷ [])) (sym unknown)
