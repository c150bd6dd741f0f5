use Rattle.std.proofs.Common.{◌≡◌, ℕ, List, map, take}
use Rattle.lin_sections.specs.NewNames.{has_in, keyed_name, only_in, only_with, has_key}
use Rattle.lin_sections.proofs.diff.new_names.key_names.Given as goal

abbrev pub invariant-loop-thing : goal.invariant-loop-thing
invariant-loop-thing l =
    record {
      only : (q : List ℕ) → only_in l.names.map q ≡ only_with (map keyed_name (take l.thing-index l.things)) q;
      known : (q : List ℕ) → has_in l.names.map q ≡ has_key (map keyed_name (take l.thing-index l.things)) q;
    }
