use Rattle.std.proofs.Common.{◌≡◌, ℕ, true, sym, ap, arith, length, nat_lt, lt-ltb}
use Rattle.lin_parts.specs.Cluster.{nodes}
use Rattle.lin_core.specs.Core.{past_of}
use Rattle.lin_core.specs.Links.{waiting}
use Rattle.lin_bench.proofs.Hosts.{some-passes}
use Rattle.lin_bench.proofs.slot_runs.some_wait.Goals as goal

pub returns-then-waiting-gt0 : goal.returns-then-waiting-gt0
returns-then-waiting-gt0 c =
    let a = c.args.core.now in
    let n : ℕ → ℕ = λ h. length (waiting a.cluster (past_of a) h) in
    let host = c.loop-host.host in
    let passes : nat_lt 0 (n host) ≡ true = lt-ltb 0 (n host) (let e : c.waiting.result ≡ n host = c.waiting.ensures in omega (arith, e)) in
    sym (some-passes (λ h. nat_lt 0 (n h)) (nodes a.cluster) host (let same = ap nodes c.cluster.ensures in omega (arith, same)) passes)
