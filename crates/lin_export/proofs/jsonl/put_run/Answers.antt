use Rattle.std.proofs.Common.{◌∷◌, [], codes, map}
use Rattle.std.specs.Fmt.{decimal}
use Rattle.lin_parts.specs.Cluster.{named_table, nodes}
use Rattle.lin_frame.specs.Words.{numbers}
use Rattle.lin_text.proofs.Growing.{grows-more}
use Rattle.lin_export.specs.Json.{json_array, member, quoted_text}
use Rattle.lin_export.specs.Jsonl.{nad_value, node_text}
use Rattle.lin_export.proofs.Objects.{grows-member, grows-object, puts-all, puts-more, puts-one}
use Rattle.lin_export.proofs.jsonl.put_run.Goals as goal

pub returns : goal.returns
returns g c =
    let x = c.args.cluster.now in
    let first =
    member (codes "version") (decimal 2) ∷ member (codes "table") (quoted_text (named_table x c.args.opening.table).name)
    ∷ member (codes "capacity") (decimal c.args.opening.capacity) ∷ [] in
    grows-object (codes "run") c.put_type.ensures
    (puts-more (puts-all first (rw c.table_name.ensures at c.put_members.ensures))
    (puts-more
    (puts-one (member (codes "nodes") (json_array (map (node_text x) (numbers (nodes x)))))
    (grows-member (codes "nodes") c.put_key.ensures (grows-more c.put_byte.ensures (grows-more c.put_all_names.ensures c.put_byte-2.ensures))))
    (puts-one (member (codes "nads") (json_array (map (nad_value x) (numbers (nodes x)))))
    (grows-member (codes "nads") c.put_key-2.ensures (grows-more c.put_byte-3.ensures (grows-more c.put_all_nads.ensures c.put_byte-4.ensures))))))
    c.put.ensures
