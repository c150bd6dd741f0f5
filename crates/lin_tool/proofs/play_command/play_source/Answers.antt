use Rattle.std.proofs.Common.{Err, Global, Vec, rules, subst}
use Rattle.lin_bench.specs.Plays.{PlaysUnder}
use Rattle.lin_tool.specs.Opening.{room_for}
use Rattle.lin_bench.specs.Files.{source_data}
use Rattle.lin_bench.specs.declared.line.ScriptLine.{ScriptLine}
use Rattle.lin_bench.specs.declared.place.LinePlace.{LinePlace}
use Rattle.lin_tool.proofs.PlayedScripts.{limited, plays, unplayed, unread, unused, unwritten}
use Rattle.lin_tool.specs.Playing.{unused_parameter}
use Rattle.lin_tool.proofs.UnusedNames.{alone-or-not}
use Rattle.lin_tool.proofs.play_command.play_source.Goals as goal

pub returns : goal.returns
returns g c =
    let opened = c.args.play.opened in
    let how = opened.settings in
    let made = c.in_ok-core.ensures.plays in
    let room = c.within_limits-capacity.ensures.value in
    let said = c.in_ok-lines.ensures.lines.0 in
    let counted = rw made.missed at c.put_played-judged.ensures in
    let judged = rw c.as_slice-2.ensures at (rw made.log at (rw made.cluster at (rw room at counted))) in
    let shown = rw c.as_ref-2.ensures.value at (rw c.shown.ensures at judged) in
    let tested = rw c.as_slice.ensures.value at (rw c.in_ok-tests.ensures at (rw c.as_slice-3.ensures at shown)) in
    let written = rw c.as_ref.ensures.value at (rw c.in_ok-judgements.ensures at tested) in
    plays c.args.play.faults.now how.format opened.coded opened.limits (source_data c.args.source) how.is_physical c.args.notes.now.wanted.script how.is_strict _ _ _ c.put_played-judged.result _ _ _ _ _ _ _ said
    (rw c.in-None.is at (rw room at made.lines)) c.in_ok-lines.ensures.lines.1 written

pub returns-in_err-lines : goal.returns-in_err-lines
returns-in_err-lines g c =
    let opened = c.args.play.opened in
    let how = opened.settings in
    let fails = unread (λ (v : Vec (LinePlace × ScriptLine) Global). v.items) c.args.play.faults.now how.format opened.coded opened.limits (source_data c.args.source) how.is_physical c.args.notes.now.wanted.script how.is_strict opened.cluster opened.table (room_for how.capacity)
    c.in_err-lines.field-0.0 (g.W.Write.contents c.args.writer.now) _ _ c.in_err-lines.ensures.lines in
    search rules

pub returns-in_err-check_used : goal.returns-in_err-check_used
returns-in_err-check_used g c =
    let opened = c.args.play.opened in
    let how = opened.settings in
    let fails = unused c.args.play.faults.now how.format opened.coded opened.limits (source_data c.args.source) how.is_physical c.args.notes.now.wanted.script how.is_strict opened.cluster opened.table (room_for how.capacity)
    c.in_err-check_used.field-0.0 (g.W.Write.contents c.args.writer.now) _ _ _ c.in_ok-lines.ensures.lines.0
    (alone-or-not c.args.play.is_alone (unused_parameter (source_data c.args.source)) c.in_err-check_used.field-0.0 c.in_err-check_used.ensures) c.in_ok-lines.ensures.lines.1 in
    search rules

pub returns-in_err-tests : goal.returns-in_err-tests
returns-in_err-tests g c =
    let opened = c.args.play.opened in
    let how = opened.settings in
    let unwritten = unwritten c.args.play.faults.now how.format opened.coded opened.limits (source_data c.args.source) how.is_physical c.args.notes.now.wanted.script how.is_strict opened.cluster opened.table (room_for how.capacity)
    (g.W.Write.contents c.args.writer.now) _ _ c.in_ok-lines.ensures.lines.1 in
    search rules

pub returns-in_err-add_suite : goal.returns-in_err-add_suite
returns-in_err-add_suite g c =
    let opened = c.args.play.opened in
    let how = opened.settings in
    let unwritten = unwritten c.args.play.faults.now how.format opened.coded opened.limits (source_data c.args.source) how.is_physical c.args.notes.now.wanted.script how.is_strict opened.cluster opened.table (room_for how.capacity)
    (g.W.Write.contents c.args.writer.now) _ _ c.in_ok-lines.ensures.lines.1 in
    search rules

pub returns-in_err-limit_fault-in-Some : goal.returns-in_err-limit_fault-in-Some
returns-in_err-limit_fault-in-Some g c =
    let opened = c.args.play.opened in
    let how = opened.settings in
    let unwritten = unwritten c.args.play.faults.now how.format opened.coded opened.limits (source_data c.args.source) how.is_physical c.args.notes.now.wanted.script how.is_strict opened.cluster opened.table (room_for how.capacity)
    (g.W.Write.contents c.args.writer.now) _ _ c.in_ok-lines.ensures.lines.1 in
    search rules

pub returns-in_err-core : goal.returns-in_err-core
returns-in_err-core g c =
    let opened = c.args.play.opened in
    let how = opened.settings in
    let said = c.in_ok-lines.ensures.lines.0 in
    let fails =
    subst (λ n. PlaysUnder how.is_strict opened.cluster opened.table n c.args.play.faults.now c.in_ok-lines.lines.items (Err c.in_err-core.field-0.0)) c.within_limits-capacity.ensures.value
    c.in_err-core.ensures.plays in
    let few = c.in_err-core.ensures.few c.in_ok-lines.ensures.few in
    let unplayed = unplayed c.args.play.faults.now how.format opened.coded opened.limits (source_data c.args.source) how.is_physical c.args.notes.now.wanted.script how.is_strict opened.cluster opened.table (room_for how.capacity)
    c.in_err-core.field-0.0 (g.W.Write.contents c.args.writer.now) _ _ _ said fails few c.in_ok-lines.ensures.lines.1 in
    search rules

pub returns-in_err-judgements : goal.returns-in_err-judgements
returns-in_err-judgements g c =
    let opened = c.args.play.opened in
    let how = opened.settings in
    let unwritten = unwritten c.args.play.faults.now how.format opened.coded opened.limits (source_data c.args.source) how.is_physical c.args.notes.now.wanted.script how.is_strict opened.cluster opened.table (room_for how.capacity)
    (g.W.Write.contents c.args.writer.now) _ _ c.in_ok-lines.ensures.lines.1 in
    search rules

pub returns-in-Some : goal.returns-in-Some
returns-in-Some g c =
    let opened = c.args.play.opened in
    let how = opened.settings in
    let made = c.in_ok-core.ensures.plays in
    let room = c.within_limits-capacity.ensures.value in
    let said = c.in_ok-lines.ensures.lines.0 in
    let limited = limited c.args.play.faults.now how.format opened.coded opened.limits (source_data c.args.source) how.is_physical c.args.notes.now.wanted.script how.is_strict opened.cluster opened.table (room_for how.capacity)
    c.in-Some.place _ (g.W.Write.contents c.args.writer.now) _ _ _ said (rw c.in-Some.is at (rw room at made.lines)) c.in_ok-lines.ensures.lines.1 c.in_ok-limit_fault-in-Some.ensures in
    search rules
