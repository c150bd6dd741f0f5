use Rattle.std.proofs.Common.{List, map, ap, ◌∙◌, Some, None, if◌then◌else◌}
use Rattle.std.specs.Option.{option_or}
use Rattle.std.specs.Str.{bytes_eq}
use Rattle.std.proofs.lemmas.Result.{on_ok_weaker}
use Rattle.lin_parts.specs.declared.description.Name.{Name}
use Rattle.lin_sections.specs.NewNames.{keyed_name, known_by, renamed_in, renames_data, stays, NameMap}
use Rattle.lin_sections.specs.Renames.{node_keys, all_node_names}
use Rattle.lin_sections.specs.Things.{compared_data}
use Rattle.lin_sections.proofs.RenamedKinds.{kind-named, nodes-named}
use Rattle.lin_sections.proofs.diff.renames.Renames.add_nodes.Goals as goal

pub returns : goal.returns
returns c =
    let old = c.args.ldfs.old.now.ldf in
    let new = c.args.ldfs.new.now.ldf in
    let d = old.description.now in
    on_ok_weaker c.add_all.result
    (λ is. ap (λ (x : NameMap). record (renames_data c.args.self.now) { nodes = x })
    (kind-named (all_node_names d) (all_node_names new.description.now)
    (node_keys (compared_data old)) (node_keys (compared_data new)) (map keyed_name c.in_ok-olds.olds.items) (map keyed_name c.in_ok-news.news.items)
    (known_by c.args.self.now.nodes) (known_by c.add_all.new.self)
    c.in_ok-olds.ensures c.in_ok-news.ensures
    (nodes-named d.master.text (map (λ n. n.text) d.slaves) (map keyed_name c.in_ok-olds.olds.items) (map keyed_name c.in_ok-news.news.items)
    (known_by c.args.self.now.nodes) (known_by c.add_renamed.new.self) (known_by c.add.new.self) (known_by c.add_all.new.self)
    (λ q. c.in_ok-add_renamed.ensures q
    ∙ (λ j. option_or (known_by c.args.self.now.nodes q) (renamed_in (map keyed_name (c.as_slice.ensures.value j)) (map keyed_name (c.as_slice-2.ensures.value j)) q)))
    (λ q. c.in_ok-add.ensures q ∙ ap (λ t. option_or (known_by c.add_renamed.new.self q) (if bytes_eq t q then Some q else None)) (c.as_slice-3.ensures ∙ ap (λ (n : Name). n.text) c.master.ensures))
    (λ q. is q ∙ ap (λ (ns : List Name). option_or (known_by c.add.new.self q) (stays (map (λ n. n.text) ns) q)) c.slaves.ensures.value))))
    c.add_all.ensures
