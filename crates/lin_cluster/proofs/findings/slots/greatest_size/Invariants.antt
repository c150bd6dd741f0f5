use Rattle.std.proofs.Common.{◌≡◌, take, true}
use Rattle.std.specs.Prelude.{fold, max, is_some}
use Rattle.std.specs.List.{list_all}
use Rattle.std.specs.Option.{option_map_or}
use Rattle.lin_cluster.specs.Slots.{frame_size}
use Rattle.lin_cluster.proofs.findings.slots.greatest_size.Given as goal

abbrev pub invariant-loop-member : goal.invariant-loop-member
invariant-loop-member l = record {
  all : list_all (λ m. is_some (frame_size l.known m)) (take l.member-index l.members) ≡ true;
  value : l.greatest ≡ fold (λ n m. max n (option_map_or (λ k. k) (frame_size l.known m) 0)) 0 (take l.member-index l.members);
}
