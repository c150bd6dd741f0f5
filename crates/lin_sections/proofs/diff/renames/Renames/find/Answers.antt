use Rattle.std.proofs.Common.{ap, ◌∙◌}
use Rattle.lin_sections.specs.Renames.{with_encoding_names, with_event_names, with_frame_names, with_node_names, with_signal_names, with_sporadic_names, with_table_names}
use Rattle.lin_sections.specs.Things.{compared_data}
use Rattle.lin_sections.proofs.diff.renames.Renames.find.Goals as goal

pub returns : goal.returns
returns c =
    let old = compared_data c.args.old.now.ldf in
    let new = compared_data c.args.new.now.ldf in
    c.in_ok-add_encodings.ensures ∙ ap (with_encoding_names old new)
    (c.in_ok-add_tables.ensures ∙ ap (with_table_names old new)
    (c.in_ok-add_sporadics.ensures ∙ ap (with_sporadic_names old new)
    (c.in_ok-add_signals.ensures ∙ ap (with_signal_names old new)
    (c.in_ok-add_events.ensures ∙ ap (with_event_names old new)
    (c.in_ok-add_frames.ensures ∙ ap (with_frame_names old new)
    (c.in_ok-add_nodes.ensures ∙ ap (with_node_names old new) c.in_ok-renames.ensures))))))
