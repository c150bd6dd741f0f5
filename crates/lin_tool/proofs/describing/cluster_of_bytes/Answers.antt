use Rattle.std.proofs.Common.{rules}
use Rattle.lin_tool.proofs.describing.cluster_of_bytes.Goals as goal

pub returns : goal.returns
returns c =
    let says = rw c.as_slice.ensures.value at c.parse_text-parsed.ensures in
    let from = c.check_parsed-answer.ensures c.args.bytes.items (search rules) says in
    search rules
