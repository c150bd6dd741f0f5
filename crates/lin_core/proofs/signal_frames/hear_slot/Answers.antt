use Rattle.std.proofs.Common.{◌≡◌, List, ap, sym, ◌∙◌, subst}
use Rattle.std.specs.Prelude.{Option, Some, None, slice_get, option_map, take}
use Rattle.std.specs.Option.{option_copied, unwrap_or}
use Rattle.lin_frame.specs.Bits.{unpacked_value}
use Rattle.lin_frame.specs.declared.value.Value.{Value}
use Rattle.lin_parts.specs.Cluster.{frame_of, line_of}
use Rattle.lin_core.specs.kept.Slots.{frame_by, slot_in}
use Rattle.lin_core.specs.Signals.{place_in, value_in}
use Rattle.lin_core.specs.declared.slot.Put.{Put}
use Rattle.lin_core.proofs.slots.Hearing.{heard-is, unheard-is}
use Rattle.lin_core.proofs.signal_frames.hear_slot.Goals as goal

pub returns-in-Some-frame_by-clause-heard : goal.returns-in-Some-frame_by-clause-heard
returns-in-Some-frame_by-clause-heard c = λ g p s v at.
    let x = c.args.cluster.now in
    let slot = c.args.slot.now in
    let put : Put = c.in-Some-first.put.now in
    let first : slice_get slot.puts.items 0 ≡ Some put
    = subst (λ (ps : List Put). slice_get ps 0 ≡ Some put) c.as_slice.ensures.value (sym c.first.ensures.value ∙ ap option_copied c.in-Some-first.is) in
    let by : frame_by x (line_of x slot.table slot.entry).entry c.in-Some.header put.node ≡ Some c.in-Some-frame_by.frame
    = rw (← c.requires.there.kind_is) (sym c.frame_by.ensures.frame ∙ c.in-Some-frame_by.is) in
    let is : value_in x (slot_in slot) s ≡ option_map (λ q. unpacked_value q (take 8 put.answer)) (place_in (frame_of x c.in-Some-frame_by.frame) s)
    = heard-is x slot c.in-Some.header put c.in-Some-frame_by.frame s c.requires.good c.in-Some.is first by in
    c.hear_frame.ensures.heard g p s v at
    ∙ ap (λ (o : Option Value). unwrap_or o (g s)) (sym is)

pub returns-in_default-frame_by-clause-heard : goal.returns-in_default-frame_by-clause-heard
returns-in_default-frame_by-clause-heard c = λ g p s v at.
    let x = c.args.cluster.now in
    let slot = c.args.slot.now in
    let put : Put = c.in-Some-first.put.now in
    let first : slice_get slot.puts.items 0 ≡ Some put
    = subst (λ (ps : List Put). slice_get ps 0 ≡ Some put) c.as_slice.ensures.value (sym c.first.ensures.value ∙ ap option_copied c.in-Some-first.is) in
    let by : frame_by x (line_of x slot.table slot.entry).entry c.in-Some.header put.node ≡ None
    = rw (← c.requires.there.kind_is) (sym c.frame_by.ensures.frame ∙ c.in_default-frame_by.is) in
    p s v at ∙ ap (λ (o : Option Value). unwrap_or o (g s)) (sym (unheard-is x slot c.in-Some.header put s c.requires.good c.in-Some.is first by))
