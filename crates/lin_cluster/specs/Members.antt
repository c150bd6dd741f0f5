-- Findings 13, bad event-triggered frame, 14, bad sporadic frame, and 18, mixed checksum: members
-- of these frames (LIN 2.2A, sections 9.2.4.2 and 9.2.4.3).
use Rattle.std.specs.Prelude.{ℕ, List, take, slice_get, Bool, true, not, ◌==◌, ◌&&◌, ◌||◌, nat_lt}
use Rattle.std.specs.Prelude.{option_and_then, false}
use Rattle.std.specs.List.{list_any}
use Rattle.std.specs.Option.{option_map_or}
use Rattle.lin_cluster.specs.FindingsNames.{at_name, when, same_name, is_node, signal_named}
use Rattle.lin_cluster.specs.FindingsNames.{frame_named, is_any_frame}
use Rattle.lin_cluster.specs.Models.{model_named, first_model, differ}
use Rattle.lin_cluster.specs.declared.finding.FindingKind.TheVariants.{BadEventFrame, BadSporadic}
use Rattle.lin_cluster.specs.declared.finding.FindingKind.TheVariants.{MixedChecksum}
use Rattle.lin_cluster.specs.declared.finding.Finding.{Finding}
use Rattle.lin_parts.specs.declared.description.Description.{Description}
use Rattle.lin_parts.specs.declared.description.Frame.{Frame}
use Rattle.lin_parts.specs.declared.description.Name.{Name}
use Rattle.lin_parts.specs.declared.description.PlacedSignal.{PlacedSignal}

-- ---- 13 BadEventFrame

abbrev pub has_publisher : Description → Name → Name → Bool
has_publisher d publisher m =
    option_map_or (λ g. same_name g.publisher publisher) (frame_named d m) false

-- another size than the first member, where that is a frame
abbrev pub differs_from_first : Description → List Name → Frame → Bool
differs_from_first d members f =
    option_map_or
    (λ g. not (g.size.value == f.size.value))
    (option_and_then (frame_named d) (slice_get members 0)) false

-- a signal of one bit at least that begins in data byte 0
abbrev pub is_in_front : Description → PlacedSignal → Bool
is_in_front d p =
    nat_lt p.offset.value 8
    && option_map_or (λ s. nat_lt 0 s.size.value) (signal_named d p.signal) false

-- a frame after some members that an event-triggered frame may not carry
abbrev pub is_bad_member : Description → List Name → List Name → Frame → Bool
is_bad_member d members earlier f =
    same_name f.publisher d.master
    || (is_node d f.publisher && list_any (has_publisher d f.publisher) earlier)
    || differs_from_first d members f
    || list_any (is_in_front d) f.placed

-- a member that names something but no frame is wrong too
abbrev pub is_wrong_member : Description → List Name → List Name → Name → Bool
is_wrong_member d members earlier m =
    is_any_frame d m && option_map_or (is_bad_member d members earlier) (frame_named d m) true

-- the member with this number
abbrev pub bad_member_at : Description → List Name → ℕ × Name → List Finding
bad_member_at d members im =
    when (is_wrong_member d members (take im.0 members) im.1) (at_name BadEventFrame im.1)

-- ---- 14 BadSporadic

-- a frame of a node that isn't the commander
abbrev pub is_responders : Description → Frame → Bool
is_responders d f = is_node d f.publisher && not (same_name f.publisher d.master)

abbrev pub bad_sporadic_at : Description → Name → List Finding
bad_sporadic_at d m =
    when (is_any_frame d m && option_map_or (is_responders d) (frame_named d m) true)
    (at_name BadSporadic m)

-- ---- 18 MixedChecksum: a member that is a frame and has another checksum model than the first
-- member, where that is a frame

abbrev pub is_mixed : Description → List Name → Name → Bool
is_mixed d members m =
    option_map_or
    (λ model. option_map_or (differ model) (first_model d members) false) (model_named d m) false

abbrev pub mixed_at : Description → List Name → Name → List Finding
mixed_at d members m = when (is_mixed d members m) (at_name MixedChecksum m)
