use Rattle.std.proofs.Common.{ap, ◌∙◌}
use Rattle.lin_ldf.specs.Stream.{start_of}
use Rattle.lin_ldf.specs.Symbols.{symbols_in}
use Rattle.lin_sections.specs.Reading.{field_codings}
use Rattle.linsim_c.proofs.Texts.{checked_answer}
use Rattle.linsim_c.proofs.ldf_cluster.of_settled.Goals as goal

pub returns : goal.returns
returns c =
    let left = c.args.left.now in
    let codings = c.in_ok-codings.ensures.read ∙ ap (λ wide. field_codings wide (symbols_in left (start_of left).tokens)) c.as_slice.ensures in
    checked_answer c.args.is_configured left c.args.settled.now c.in_ok-codings.codings c.in_ok-limits.limits c.in_ok-cluster.cluster c.in_ok-cluster-2.cluster
    c.with_codings.result c.in_ok-cluster.ensures c.in_ok-cluster-2.ensures.cluster codings c.in_ok-limits.ensures.read
    c.with_codings.ensures.cluster c.with_codings.ensures.coded c.with_codings.ensures.limits c.with_codings.ensures.memory
