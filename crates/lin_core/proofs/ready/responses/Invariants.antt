use Rattle.std.proofs.Common.{◌≡◌, ◌≤◌, [], ◌∷◌, length, map, take}
use Rattle.std.specs.Prelude.{flat_map}
use Rattle.std.specs.Option.{option_map_or}
use Rattle.lin_parts.specs.Cluster.{response_of}
use Rattle.lin_core.specs.kept.Ready.{response_in}
use Rattle.lin_core.proofs.ready.responses.Given as goal

abbrev pub invariant-loop-identity : goal.invariant-loop-identity
invariant-loop-identity l = record {
  responses : map response_in l.all.items ≡ flat_map (λ i. option_map_or (λ r. (i.node, r) ∷ []) (response_of l.cluster i l.request) []) (take l.identity-index l.identity-items);
  few : length l.all.items ≤ l.identity-index;
}
