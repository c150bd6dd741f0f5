use Rattle.std.proofs.Common.{◌<◌, ◌∙◌, length, get_or, ap, sym, arith}
use Rattle.std.proofs.lemmas.List.{get_or_default}
use Rattle.lin_frame.specs.declared.layout.Place.{Place}
use Rattle.lin_parts.specs.Cluster.{frame_of}
use Rattle.lin_core.proofs.slots.ClusterFrames.{frame-is}
use Rattle.lin_export.proofs.ListedLines.{no_place}
use Rattle.lin_export.proofs.Places.{InFrame, in-frame}
use Rattle.lin_export.proofs.frame_places.place_at.Goals as goal

pub offset_bounds-frame_signals-index : goal.offset_bounds-frame_signals-index
offset_bounds-frame_signals-index c =
    let x = c.args.cluster.now in
    let in_frame : InFrame x c.args.frame c.args.index = in-frame x c.args.frame c.args.index (frame-is x c.args.frame c.sound.ensures.rules c.requires.frame) c.requires.index in
    let below : c.args.index < length c.frame_signals.result.now = rw c.frame_signals.ensures in_frame.signals in
    omega arith

pub bounds-frame_signals-index : goal.bounds-frame_signals-index
bounds-frame_signals-index c =
    let x = c.args.cluster.now in
    let in_frame : InFrame x c.args.frame c.args.index = in-frame x c.args.frame c.args.index (frame-is x c.args.frame c.sound.ensures.rules c.requires.frame) c.requires.index in
    rw c.frame_signals.ensures in_frame.signals

pub offset_bounds-as_slice-index : goal.offset_bounds-as_slice-index
offset_bounds-as_slice-index c =
    let x = c.args.cluster.now in
    let in_frame : InFrame x c.args.frame c.args.index = in-frame x c.args.frame c.args.index (frame-is x c.args.frame c.sound.ensures.rules c.requires.frame) c.requires.index in
    let below : c.args.index < length c.as_slice.result.now = rw (c.as_slice.ensures, c.layout.ensures) in_frame.places in
    omega arith

pub bounds-as_slice-index : goal.bounds-as_slice-index
bounds-as_slice-index c =
    let x = c.args.cluster.now in
    let in_frame : InFrame x c.args.frame c.args.index = in-frame x c.args.frame c.args.index (frame-is x c.args.frame c.sound.ensures.rules c.requires.frame) c.requires.index in
    rw (c.as_slice.ensures, c.layout.ensures) in_frame.places

pub returns-clause-known : goal.returns-clause-known
returns-clause-known c =
    let x = c.args.cluster.now in
    let in_frame : InFrame x c.args.frame c.args.index = in-frame x c.args.frame c.args.index (frame-is x c.args.frame c.sound.ensures.rules c.requires.frame) c.requires.index in
    rw c.frame_signals.ensures in_frame.known

pub returns-clause-placed : goal.returns-clause-placed
returns-clause-placed c = λ none.
    let x = c.args.cluster.now in
    let i = c.args.index in
    let in_frame : InFrame x c.args.frame i = in-frame x c.args.frame i (frame-is x c.args.frame c.sound.ensures.rules c.requires.frame) c.requires.index in
    let frame = frame_of x c.args.frame in
    rw (c.frame_signals.ensures, c.as_slice.ensures, c.layout.ensures)
    (ap (λ (p : Place). (get_or frame.signals i 0, p)) (get_or_default frame.layout.places i no_place none in_frame.places) ∙ sym (in_frame.at none))
