use Rattle.std.proofs.Common.{◌<◌, ◌∙◌, ◌++◌, append_assoc, flat_map, get_or, length, map, take, ap, arith, sym}
use Rattle.std.specs.List.{range_with_len}
use Rattle.lin_sections.specs.Differences.{differences_data, old_entry, old_places, was_moved}
use Rattle.lin_sections.specs.declared.diff.fact.EntryFact.{EntryFact}
use Rattle.lin_sections.proofs.FactSteps.{flat-more}
use Rattle.lin_sections.proofs.diff.entry_pairs.add_old_entries.Goals as goal

pub add_old_entry-requires-clause-moved : goal.add_old_entry-requires-clause-moved
add_old_entry-requires-clause-moved c =
    c.as_slice-in-loop-entry.ensures.value ∙ c.in_ok-moved.ensures
    ∙ ap (λ ps. map (was_moved ps) (range_with_len 0 (length c.as_slice-count.result.now)))
    (c.as_slice-2.ensures.value ∙ c.in_ok-pairs.ensures c.args.old.now.entries c.requires.olds ∙ ap (old_places c.args.old.now.entries) c.as_slice.ensures)
    ∙ ap (λ es. map (was_moved (old_places c.args.old.now.entries c.args.new.now.entries)) (range_with_len 0 (length es))) c.as_slice-count.ensures

pub loop-entry-preserved : goal.loop-entry-preserved
loop-entry-preserved c =
    let step = old_entry c.args.old.now c.args.new.now in
    let entries = c.args.old.now.entries in
    let i = c.loop-entry.entry-index in
    let lt : i < length entries = omega (arith, ap length c.as_slice-entry-items.ensures) in
    c.in_ok-add_old_entry.ensures
    ∙ ap (λ ds. ds ++ step c.entry-item.result) c.loop-entry.invariant
    ∙ append_assoc (differences_data c.args.found.now.items) (flat_map step (take i entries)) (step c.entry-item.result)
    ∙ ap (λ ds. differences_data c.args.found.now.items ++ ds)
    (ap (λ (e : EntryFact). flat_map step (take i entries) ++ step e) (c.entry-item.is ∙ ap (λ es. get_or es i c.entry-item.result) c.as_slice-entry-items.ensures)
    ∙ sym (flat-more step entries i c.entry-item.result lt))
