use Rattle.std.proofs.Common.{◌≡◌, map, take}
use Rattle.lin_sections.specs.NewNames.{alone, has_in, keyed_name}
use Rattle.lin_sections.specs.Renames.{encoding_key}
use Rattle.lin_sections.proofs.diff.encoding_facts.keys.Given as goal

abbrev pub invariant-loop-coding : goal.invariant-loop-coding
invariant-loop-coding l =
    map keyed_name l.keys.items ≡ alone (has_in l.others.map) (map (λ t. encoding_key t.now) (take l.coding-index l.coding-items))
