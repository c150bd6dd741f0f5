use Rattle.std.proofs.Common.{◌≡◌, ◌<◌, ◌∙◌, ℕ, List, length, take, get_or, ap, sym, arith}
use Rattle.lin_frame.specs.Bits.{unpacked_value}
use Rattle.lin_frame.specs.declared.layout.Layout.{Layout}
use Rattle.lin_frame.specs.declared.value.Value.{Value}
use Rattle.lin_parts.specs.Cluster.{frame_of}
use Rattle.lin_core.proofs.slots.ClusterFrames.{frame-is}
use Rattle.lin_core.proofs.slots.Hearing.{unpacked-same}
use Rattle.lin_export.specs.PlacedValues.{placed_value}
use Rattle.lin_export.proofs.Places.{InFrame, in-frame}
use Rattle.lin_export.proofs.frame_places.value_at.Goals as goal

pub offset_bounds-frame_signals-index : goal.offset_bounds-frame_signals-index
offset_bounds-frame_signals-index c =
    let x = c.args.cluster.now in
    let in_frame : InFrame x c.args.frame c.args.index = in-frame x c.args.frame c.args.index (frame-is x c.args.frame c.sound.ensures.rules c.requires.frame) c.requires.index in
    let below : c.args.index < length c.frame_signals.result.now = rw c.frame_signals.ensures in_frame.signals in
    omega arith

pub bounds-frame_signals-index : goal.bounds-frame_signals-index
bounds-frame_signals-index c =
    let x = c.args.cluster.now in
    let in_frame : InFrame x c.args.frame c.args.index = in-frame x c.args.frame c.args.index (frame-is x c.args.frame c.sound.ensures.rules c.requires.frame) c.requires.index in
    rw c.frame_signals.ensures in_frame.signals

pub unpack-value-requires-clause-in_range : goal.unpack-value-requires-clause-in_range
unpack-value-requires-clause-in_range c =
    let x = c.args.cluster.now in
    let in_frame : InFrame x c.args.frame c.args.index = in-frame x c.args.frame c.args.index (frame-is x c.args.frame c.sound.ensures.rules c.requires.frame) c.requires.index in
    rw c.layout.ensures in_frame.places

pub returns-clause-known : goal.returns-clause-known
returns-clause-known c =
    let x = c.args.cluster.now in
    let in_frame : InFrame x c.args.frame c.args.index = in-frame x c.args.frame c.args.index (frame-is x c.args.frame c.sound.ensures.rules c.requires.frame) c.requires.index in
    rw c.frame_signals.ensures in_frame.known

pub returns-clause-value : goal.returns-clause-value
returns-clause-value c = λ none.
    let x = c.args.cluster.now in
    let i = c.args.index in
    let answer = c.args.answer.now in
    let in_frame : InFrame x c.args.frame i = in-frame x c.args.frame i (frame-is x c.args.frame c.sound.ensures.rules c.requires.frame) c.requires.index in
    let frame = frame_of x c.args.frame in
    let read : c.unpack-value.result ≡ unpacked_value (get_or frame.layout.places i none) (take 8 answer) =
    c.unpack-value.ensures none ∙ ap (λ (l : Layout). unpacked_value (get_or l.places i none) c.data.result) c.layout.ensures
    ∙ unpacked-same (get_or frame.layout.places i none) c.data.result (take 8 answer) c.data.ensures.each in
    ap (λ (l : List ℕ). (get_or l i 0, c.unpack-value.result)) c.frame_signals.ensures ∙ ap (λ (v : Value). (get_or frame.signals i 0, v)) read
    ∙ ap (placed_value answer) (sym (in_frame.at none))
