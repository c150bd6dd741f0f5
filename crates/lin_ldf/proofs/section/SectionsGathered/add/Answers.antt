use Rattle.std.proofs.Common.{◌∙◌, sym, fold}
use Rattle.lin_ldf.specs.Words.{once}
use Rattle.lin_ldf.specs.Grammar.{signals, frames_section, with_frame, sporadic, with_sporadic, event, with_event, attributes, with_block, tables}
use Rattle.lin_ldf.proofs.Found.{found_alone, found_with}
use Rattle.lin_ldf.proofs.section.SectionsGathered.add.Goals as goal

pub returns-in-Signals : goal.returns-in-Signals
returns-in-Signals c =
    let s = c.args.self.now in
    let call = c.used_section in
    rw (sym c.section_word.ensures ∙ c.in-Signals.is) (found_alone call.result call.new.found call.new.parser c.args.parser.now (once s.signals signals) (λ o. record s { signals = o }) (rw c.new.ensures at call.ensures.read))

pub returns-in-Frames : goal.returns-in-Frames
returns-in-Frames c =
    let s = c.args.self.now in
    let call = c.used_section-in-Frames in
    rw (sym c.section_word.ensures ∙ c.in-Frames.is) (found_with call.result call.new.found call.new.state call.new.parser c.args.parser.now (once s.frames (frames_section s.frame_names)) (fold with_frame s.frame_names) (λ o n. record s { frames = o; frame_names = n }) call.ensures.state call.ensures.read)

pub returns-in-Sporadic : goal.returns-in-Sporadic
returns-in-Sporadic c =
    let s = c.args.self.now in
    let call = c.used_section-in-Sporadic in
    rw (sym c.section_word.ensures ∙ c.in-Sporadic.is) (found_with call.result call.new.found call.new.state call.new.parser c.args.parser.now (once s.sporadic (sporadic s.frame_names)) (fold with_sporadic s.frame_names) (λ o n. record s { sporadic = o; frame_names = n }) call.ensures.state call.ensures.read)

pub returns-in-Event : goal.returns-in-Event
returns-in-Event c =
    let s = c.args.self.now in
    let call = c.used_section-in-Event in
    rw (sym c.section_word.ensures ∙ c.in-Event.is) (found_with call.result call.new.found call.new.state call.new.parser c.args.parser.now (once s.events (event s.frame_names)) (fold with_event s.frame_names) (λ o n. record s { events = o; frame_names = n }) call.ensures.state call.ensures.read)

pub returns-in-Attributes : goal.returns-in-Attributes
returns-in-Attributes c =
    let s = c.args.self.now in
    let call = c.used_section-in-Attributes in
    rw (sym c.section_word.ensures ∙ c.in-Attributes.is) (found_with call.result call.new.found call.new.state call.new.parser c.args.parser.now (once s.attributes (attributes s.blocks)) (fold with_block s.blocks) (λ o n. record s { attributes = o; blocks = n }) call.ensures.state call.ensures.read)

pub returns-in-Tables : goal.returns-in-Tables
returns-in-Tables c =
    let s = c.args.self.now in
    let call = c.used_section-in-Tables in
    rw (sym c.section_word.ensures ∙ c.in-Tables.is) (found_alone call.result call.new.found call.new.parser c.args.parser.now (once s.tables tables) (λ o. record s { tables = o }) (rw c.new-in-Tables.ensures at call.ensures.read))
