use Rattle.std.proofs.Common.{◌<◌, ◌++◌, ◌∷◌, [], length, map, take, ap, arith, sym, ◌∙◌}
use Rattle.std.specs.List.{position_from}
use Rattle.std.specs.Option.{option_map_or}
use Rattle.std.specs.Str.{bytes_eq}
use Rattle.lin_sections.specs.Differences.{old_places, place_of_entry}
use Rattle.lin_sections.specs.Numbering.{entry_id}
use Rattle.lin_sections.specs.declared.diff.fact.EntryFact.{EntryFact}
use Rattle.lin_sections.proofs.FactSteps.{flat-more}
use Rattle.lin_sections.proofs.diff.entry_pairs.old_places.Goals as goal

pub loop-new-preserved : goal.loop-new-preserved
loop-new-preserved c = λ entries are.
    let lt : c.loop-new.new-index < length c.args.news.now = omega arith in
    c.in_ok-add_place.ensures
    ∙ ap (λ ps. ps ++ option_map_or (λ p. p ∷ []) c.place_of.result []) (c.loop-new.invariant entries are)
    ∙ ap (λ o. old_places entries (take c.loop-new.new-index c.args.news.now) ++ option_map_or (λ p. p ∷ []) o [])
    (c.place_of.ensures (map entry_id entries) are
    ∙ ap (λ t. position_from (λ id. bytes_eq id t) 0 (map entry_id entries)) (c.id.ensures ∙ ap entry_id c.new-item.is))
    ∙ sym (flat-more (λ (e : EntryFact). option_map_or (λ p. p ∷ []) (place_of_entry entries e) []) c.args.news.now c.loop-new.new-index c.new-item.result lt)
