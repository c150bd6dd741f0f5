use Rattle.linsim_c.proofs.Texts.{standard_answer}
use Rattle.linsim_c.proofs.ldf_cluster.of_standard.Goals as goal

pub returns : goal.returns
returns c =
    standard_answer c.args.is_configured c.args.ldf.now c.in_ok-codings.codings c.in_ok-limits.limits c.in_ok-cluster.cluster c.in_ok-cluster-2.cluster
    c.with_codings.result (c.in_ok-cluster.ensures c.args.ldf.now c.in_ok-description.ensures) c.in_ok-cluster-2.ensures.cluster
    c.in_ok-codings.ensures.read c.in_ok-limits.ensures.read c.with_codings.ensures.cluster c.with_codings.ensures.coded c.with_codings.ensures.limits c.with_codings.ensures.memory
