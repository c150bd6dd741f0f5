use Rattle.std.proofs.Common.{◌≡◌, ◌≤◌, length, take, flat_map}
use Rattle.lin_text.specs.Written.{Grows}
use Rattle.lin_export.specs.Json.{with_commas}
use Rattle.lin_export.specs.Jsonl.{place_meanings}
use Rattle.lin_export.proofs.Places.{places_of}
use Rattle.lin_export.proofs.slot_meanings.put_frame_meanings.Given as goal

abbrev pub invariant-loop-place : goal.invariant-loop-place
invariant-loop-place g l = record {
  text : Grows g.W.Write.contents l.initial.out l.out (with_commas (flat_map (place_meanings l.fn.column l.fn.cluster l.fn.coded l.fn.answer) (take l.place (places_of l.fn.cluster l.fn.frame))));
  number : l.members ≡ length (flat_map (place_meanings l.fn.column l.fn.cluster l.fn.coded l.fn.answer) (take l.place (places_of l.fn.cluster l.fn.frame)));
  few : l.members ≤ l.place;
}
