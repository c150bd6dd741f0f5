-- The limits of transfers in an LDF, by the nodes of its cluster.
use Rattle.std.specs.Prelude.{ℕ, List, [], ◌∷◌, find, flat_map}
use Rattle.std.specs.Option.{option_map_or}
use Rattle.std.specs.Str.{bytes_eq}
use Rattle.lin_frame.specs.Words.{numbers}
use Rattle.lin_parts.specs.Cluster.{node_of, nodes}
use Rattle.lin_parts.specs.declared.parts.Parts.{Parts}
use Rattle.lin_bench.specs.declared.rules.NodeLimits.{NodeLimits}
use Rattle.lin_sections.specs.declared.transfer_limits.TransferLimits.{TransferLimits}

-- of the node's block, which has its name
abbrev pub limits_at : Parts → List TransferLimits → ℕ → List NodeLimits
limits_at c named n =
    option_map_or (λ l. record { node = n; down_us = l.down_us; up_us = l.up_us } ∷ [])
    (find (λ l. bytes_eq l.node.text (node_of c n).name) named) []

abbrev pub node_limits : Parts → List TransferLimits → List NodeLimits
node_limits c named = flat_map (limits_at c named) (numbers (nodes c))
