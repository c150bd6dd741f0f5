use Rattle.std.proofs.Common.{rules, tests, ℕ, Bool, length, arith}
use Rattle.std.specs.Str.{bytes_eq}
use Rattle.std.proofs.lemmas.Iterator.{YieldsList-from_range}
use Rattle.std.proofs.lemmas.Iterator.Search.{find_from_yields_List}
use Rattle.lin_parts.specs.Cluster.{frame_name}
use Rattle.lin_log.proofs.Found.{found-number}
use Rattle.lin_bench.proofs.fields.frame_named.Goals as goal

pub returns : goal.returns
returns c =
    let n = length c.args.cluster.now.frames in
    let has : ℕ → Bool = λ k. bytes_eq (frame_name c.args.cluster.now k) c.args.name.now in
    found-number has n c.find.result
    (find_from_yields_List has _ _ _ c.find.ensures.ran (YieldsList-from_range 0 n n (cc) (omega arith)) (λ x b q k. search (rules, tests)))
