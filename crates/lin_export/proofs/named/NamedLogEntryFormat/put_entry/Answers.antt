use Rattle.std.proofs.Common.{◌++◌, ◌∷◌, List, ℕ, flat_map, sym, ap, ◌∙◌}
use Rattle.std.specs.Prelude.{Option, option_map}
use Rattle.std.specs.Option.{option_to_list}
use Rattle.lin_core.specs.History.{Slot, open_slot, time}
use Rattle.lin_core.specs.declared.event.Event.{Event}
use Rattle.lin_core.specs.declared.reply.Reply.{Reply}
use Rattle.lin_log.specs.Language.{named_language}
use Rattle.lin_log.specs.Words.{Word, step_line}
use Rattle.lin_log.proofs.Ends.{grows-last}
use Rattle.lin_text.proofs.Growing.{grows-more, same-growth}
use Rattle.lin_export.specs.Named.{event_lines, lines_of_reply, named_line, time_words, written_values}
use Rattle.lin_export.specs.NamedWords.{event_text, line_or_none}
use Rattle.lin_export.specs.Open.{tracked_slot}
use Rattle.lin_export.specs.Track.{TrackData}
use Rattle.lin_export.specs.WhereTold.{given_coding, where_told}
use Rattle.lin_export.proofs.Lines.{lines-joined, lines-shown}
use Rattle.lin_export.proofs.Rows.{flat-append}
use Rattle.lin_export.proofs.named.NamedLogEntryFormat.put_entry.Goals as goal

pub returns-in-Done-clause-text : goal.returns-in-Done-clause-text
returns-in-Done-clause-text g c = λ past is kept.
    let x = c.args.next.now.cluster.now in
    let k = given_coding c.args.self.now.coded in
    let e = c.args.next.now.entry.now in
    let es = c.in-Done.events in
    let first = step_line (named_language x) e.port e.step in
    let written : List (List Word) = where_told k (λ d. written_values x d e.step) in
    let before : List ℕ → List ℕ = λ l. first ++ (flat_map (named_line x) written ++ l) in
    same-growth
    (ap (λ (l : List Event). before (flat_map (event_text x k (option_map tracked_slot c.slot.result.now)) l ++ line_or_none x (time_words e.step c.time_behind.result))) c.as_slice.ensures
    ∙ ap (λ (o : Option Slot). before (flat_map (event_text x k o) es ++ line_or_none x (time_words e.step c.time_behind.result))) (c.slot.ensures ∙ ap (λ (d : TrackData). d.slot) is)
    ∙ ap (λ l. before (l ++ line_or_none x (time_words e.step c.time_behind.result))) (lines-shown x k (open_slot past) es)
    ∙ ap (λ n. before (flat_map (event_text x k (open_slot past)) es ++ line_or_none x (time_words e.step n))) (c.time_behind.ensures past is)
    ∙ ap before (lines-joined x k (open_slot past) es _)
    ∙ ap (λ l. first ++ l) (sym (flat-append (named_line x) written (flat_map (event_lines x k (open_slot past)) es ++ option_to_list (time_words e.step (time x (e ∷ past))))))
    ∙ ap (λ (r : Reply). first ++ flat_map (named_line x) (lines_of_reply x k e past r)) (sym c.in-Done.is))
    (grows-more c.put_step_line.ensures (grows-more c.put_written.ensures (grows-more c.put_events.ensures (c.put_time.ensures x))))

pub returns-in-Refused-clause-text : goal.returns-in-Refused-clause-text
returns-in-Refused-clause-text g c = λ past is kept.
    let x = c.args.next.now.cluster.now in
    let k = given_coding c.args.self.now.coded in
    let e = c.args.next.now.entry.now in
    let first = step_line (named_language x) e.port e.step in
    same-growth (ap (λ (r : Reply). first ++ flat_map (named_line x) (lines_of_reply x k e past r)) (sym c.in-Refused.is))
    (grows-more c.put_step_line.ensures (grows-last (c.put_refusal.ensures (named_language x))))
