use Rattle.std.proofs.Common.{◌++◌, append_assoc, ap, option_map, refl, ◌∙◌}
use Rattle.lin_export.proofs.Puttings.{writes-more, written-short}
use Rattle.lin_export.specs.Listing.{listing}
use Rattle.lin_tool.specs.Listing.{listed_frames, listed_maps, listed_signals, listed_slots}
use Rattle.lin_tool.proofs.check_lists.write_lists.Goals as goal

pub returns-in_err-write_list : goal.returns-in_err-write_list
returns-in_err-write_list g c =
    let x = c.args.cluster.now in
    let second = listed_frames x c.args.lists.frames in
    let third = listed_maps x c.args.lists.maps in
    let fourth = listed_slots x c.args.lists.slots in
    let fifth = listed_signals x (option_map (λ k. k.now) c.args.coded) c.args.lists.signals in
    written-short (((second ++ third) ++ fourth) ++ fifth) c.from_residual.ensures.0
    (ap (λ l. (l ++ fourth) ++ fifth) (append_assoc (listing x) second third)
    ∙ ap (λ l. l ++ fifth) (append_assoc (listing x) (second ++ third) fourth)
    ∙ append_assoc (listing x) ((second ++ third) ++ fourth) fifth) c.write_list.ensures

pub returns-in_err-write_wanted_frames : goal.returns-in_err-write_wanted_frames
returns-in_err-write_wanted_frames g c =
    let x = c.args.cluster.now in
    let first = rw c.in_ok-write_list.was at c.write_list.ensures in
    let second = listed_frames x c.args.lists.frames in
    let third = listed_maps x c.args.lists.maps in
    let fourth = listed_slots x c.args.lists.slots in
    let fifth = listed_signals x (option_map (λ k. k.now) c.args.coded) c.args.lists.signals in
    written-short ((third ++ fourth) ++ fifth) c.from_residual-in_err-write_wanted_frames.ensures.0
    (ap (λ l. l ++ fifth) (append_assoc (listing x ++ second) third fourth) ∙ append_assoc (listing x ++ second) (third ++ fourth) fifth)
    (writes-more first c.write_wanted_frames.ensures)

pub returns-in_err-write_wanted_maps : goal.returns-in_err-write_wanted_maps
returns-in_err-write_wanted_maps g c =
    let x = c.args.cluster.now in
    let first = rw c.in_ok-write_list.was at c.write_list.ensures in
    let second = rw c.in_ok-write_wanted_frames.was at c.write_wanted_frames.ensures in
    let before = (listing x ++ listed_frames x c.args.lists.frames) ++ listed_maps x c.args.lists.maps in
    let fourth = listed_slots x c.args.lists.slots in
    let fifth = listed_signals x (option_map (λ k. k.now) c.args.coded) c.args.lists.signals in
    written-short (fourth ++ fifth) c.from_residual-in_err-write_wanted_maps.ensures.0 (append_assoc before fourth fifth)
    (writes-more (writes-more first second) c.write_wanted_maps.ensures)

pub returns-in_err-write_wanted_slots : goal.returns-in_err-write_wanted_slots
returns-in_err-write_wanted_slots g c =
    let first = rw c.in_ok-write_list.was at c.write_list.ensures in
    let second = rw c.in_ok-write_wanted_frames.was at c.write_wanted_frames.ensures in
    let third = rw c.in_ok-write_wanted_maps.was at c.write_wanted_maps.ensures in
    let fifth = listed_signals c.args.cluster.now (option_map (λ k. k.now) c.args.coded) c.args.lists.signals in
    written-short fifth c.from_residual-in_err-write_wanted_slots.ensures.0 refl
    (writes-more (writes-more (writes-more first second) third) c.write_wanted_slots.ensures)

pub returns : goal.returns
returns g c =
    let first = rw c.in_ok-write_list.was at c.write_list.ensures in
    let second = rw c.in_ok-write_wanted_frames.was at c.write_wanted_frames.ensures in
    let third = rw c.in_ok-write_wanted_maps.was at c.write_wanted_maps.ensures in
    let fourth = rw c.in_ok-write_wanted_slots.was at c.write_wanted_slots.ensures in
    writes-more (writes-more (writes-more (writes-more first second) third) fourth) c.write_wanted_signals.ensures
