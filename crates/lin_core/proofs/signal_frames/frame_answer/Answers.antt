use Rattle.std.proofs.Common.{◌≡◌, ◌-◌, ℕ, zero, suc, List, [], ◌∷◌, length-append, length, map, take, refl, ap, sym, ◌∙◌, arith}
use Rattle.std.specs.Prelude.{replicate, slice_index_or}
use Rattle.std.proofs.lemmas.Option.{slice_get-get_or, get_or_from_slice_get}
use Rattle.lin_frame.specs.Bits.{byte_of_bits, frame_bit, packed_bytes, padded_bytes}
use Rattle.lin_frame.specs.Words.{numbers}
use Rattle.std.proofs.lemmas.List.{length-map, take_all, take-append-le}
use Rattle.lin_frame.specs.Frame.{answer_of}
use Rattle.lin_frame.specs.declared.layout.Layout.{Layout}
use Rattle.lin_frame.specs.declared.value.Value.{Value}
use Rattle.lin_parts.specs.Cluster.{frame_of}
use Rattle.lin_core.proofs.slots.ClusterFrames.{FrameIs, frame-is, no_value}
use Rattle.lin_core.proofs.signal_frames.frame_answer.Goals as goal

numbers-length : (n : ℕ) → length (numbers n) ≡ n
numbers-length zero = refl
numbers-length (suc n) = length-append (numbers n) (n ∷ []) ∙ (let e = numbers-length n in omega arith)

data-of : (layout : Layout) (values : List Value) → take layout.len (padded_bytes layout.len (packed_bytes layout values)) ≡ packed_bytes layout values
data-of layout values =
    let n : length (packed_bytes layout values) ≡ layout.len = length-map (numbers layout.len) (byte_of_bits (frame_bit layout values)) ∙ numbers-length layout.len
    in take-append-le layout.len (packed_bytes layout values) (replicate (8 - layout.len) 255) (omega arith) ∙ take_all layout.len (packed_bytes layout values) (omega arith)

pub gather-requires-clause-known : goal.gather-requires-clause-known
gather-requires-clause-known c =
    let f : FrameIs c.args.cluster.now c.args.frame = frame-is c.args.cluster.now c.args.frame c.sound.ensures.rules c.requires.frame in
    rw (c.frame_signals.ensures, c.requires.count) f.known

pub pack-bytes-requires-clause-fit : goal.pack-bytes-requires-clause-fit
pack-bytes-requires-clause-fit c =
    let x = c.args.cluster.now in
    let f : FrameIs x c.args.frame = frame-is x c.args.frame c.sound.ensures.rules c.requires.frame in
    let g : ℕ → Value = λ s. slice_index_or c.args.values.now s no_value in
    let made : c.gather.new.room.items ≡ map g (frame_of x c.args.frame).signals = rw c.frame_signals.ensures at c.gather.ensures.values g (λ s v at. sym (get_or_from_slice_get c.args.values.now s v no_value at)) in
    rw (c.layout-layout.ensures, c.as_slice.ensures.value, made) (f.fits g (λ s l. c.requires.fits s (g s) (slice_get-get_or c.args.values.now s no_value (rw c.requires.count l))))

pub returns-clause-answer : goal.returns-clause-answer
returns-clause-answer c = λ g p.
    let x = c.args.cluster.now in
    let f = frame_of x c.args.frame in
    let made : c.as_slice.result.now ≡ map g f.signals = c.as_slice.ensures.value ∙ (rw c.frame_signals.ensures at c.gather.ensures.values g p) in
    c.answer.ensures ∙ ap (answer_of c.args.model c.args.header)
    (ap (take c.layout-layout.result.now.len) c.pack-bytes.ensures ∙ data-of c.layout-layout.result.now c.as_slice.result.now
    ∙ (rw (c.layout-layout.ensures, made) refl))
