-- What a cluster keeps beside its parts.
use Rattle.std.specs.Prelude.{ℕ, List, length, map}
use Rattle.std.specs.List.{range_with_len}
use Rattle.lin_parts.specs.Cluster.{frames_with}
use Rattle.lin_parts.specs.declared.parts.Parts.{Parts}

-- the frames of each signal
abbrev pub all_carriers : Parts → List (List ℕ)
all_carriers c = map (frames_with c) (range_with_len 0 (length c.signals))
