use Rattle.std.proofs.Common.{ℕ, List, Some}
use Rattle.std.specs.Str.{bytes_eq}
use Rattle.indexmap.specs.IndexMap.{get_by}
use Rattle.std.proofs.lemmas.Map.Text.{hash_map_updates_str}
use Rattle.lin_cluster.proofs.FindingsMaps.{added, none_there}
use Rattle.lin_values.proofs.coded.put_first.Goals as goal

pub returns-clause-put : goal.returns-clause-put
returns-clause-put g c =
    let there = λ (q : List ℕ). get_by (λ k. bytes_eq q k.now) c.args.map.now in
    let after = λ (q : List ℕ). get_by (λ k. bytes_eq q k.now) c.insert.new.self in
    added c.args.name.now c.args.value there after
    (hash_map_updates_str c.args.name.now c.args.map.now c.insert.new.self (Some c.args.value) c.in_ok-insert.ensures.updates)
    (none_there c.args.name.now there c.if-contains_key.ensures)
