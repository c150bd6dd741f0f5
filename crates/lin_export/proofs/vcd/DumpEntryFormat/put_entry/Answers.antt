use Rattle.std.proofs.Common.{◌∷◌, List, flat_map, sym, ap, ◌∙◌}
use Rattle.std.specs.Prelude.{slice_index}
use Rattle.lin_core.specs.declared.event.Event.{Event}
use Rattle.lin_export.specs.PutsGroups.{AreCounts}
use Rattle.lin_export.specs.Vcd.{counted_all, event_group, groups, latest, step_groups, timed_groups, waiting_count}
use Rattle.lin_export.specs.WhereTold.{given_coding}
use Rattle.lin_export.proofs.Groups.{counts-done, groups-done, groups-more, same-groups}
use Rattle.lin_text.proofs.Growing.{same-growth}
use Rattle.lin_export.proofs.vcd.DumpEntryFormat.put_entry.Goals as goal

pub returns-clause-keeps : goal.returns-clause-keeps
returns-clause-keeps g c = λ past is kept.
    let x = c.args.next.now.cluster.now in
    let k = given_coding c.args.self.now.coded in
    let e = c.args.next.now.entry.now in
    let es = c.in-Done.events in
    let end = c.time_behind-end.result in
    let step = same-groups (ap (λ n. step_groups x k past n e.step) (sym (c.time_behind-end.ensures past is))) (c.put_step.ensures past is) in
    let waiting : AreCounts (waiting_count (e ∷ past)) c.count_all.new.counts
    = λ h few.
    c.count_all.ensures h few ∙ ap (λ (l : List Event). counted_all h l (slice_index c.args.self.now.counts h)) c.as_slice-events.ensures
    ∙ ap (counted_all h es) (kept.waiting h few) ∙ counts-done e past es h c.in-Done.is in
    let behind = same-groups (ap (flat_map (event_group x end (waiting_count (e ∷ past)))) c.as_slice-events.ensures) (c.put_events.ensures (waiting_count (e ∷ past)) waiting) in
    let all = same-groups (sym (groups-done x k e past es end c.in-Done.is (c.time_behind-end.ensures past is))) (groups-more step behind) in
    record { shown = all.shown ∙ ap (λ n. latest n (groups x k e past)) kept.shown; waiting = waiting }

pub returns-clause-text : goal.returns-clause-text
returns-clause-text g c = λ past is kept.
    let x = c.args.next.now.cluster.now in
    let k = given_coding c.args.self.now.coded in
    let e = c.args.next.now.entry.now in
    let es = c.in-Done.events in
    let end = c.time_behind-end.result in
    let step = same-groups (ap (λ n. step_groups x k past n e.step) (sym (c.time_behind-end.ensures past is))) (c.put_step.ensures past is) in
    let waiting : AreCounts (waiting_count (e ∷ past)) c.count_all.new.counts
    = λ h few.
    c.count_all.ensures h few ∙ ap (λ (l : List Event). counted_all h l (slice_index c.args.self.now.counts h)) c.as_slice-events.ensures
    ∙ ap (counted_all h es) (kept.waiting h few) ∙ counts-done e past es h c.in-Done.is in
    let behind = same-groups (ap (flat_map (event_group x end (waiting_count (e ∷ past)))) c.as_slice-events.ensures) (c.put_events.ensures (waiting_count (e ∷ past)) waiting) in
    let all = same-groups (sym (groups-done x k e past es end c.in-Done.is (c.time_behind-end.ensures past is))) (groups-more step behind) in
    same-growth (ap (λ n. timed_groups n (groups x k e past)) kept.shown) all.text
