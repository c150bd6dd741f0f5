use Rattle.std.proofs.Common.{rules, tests, ℕ, Bool, length, arith}
use Rattle.std.specs.Str.{bytes_eq}
use Rattle.std.proofs.lemmas.Iterator.{YieldsList-from_range}
use Rattle.std.proofs.lemmas.Iterator.Search.{find_from_yields_List}
use Rattle.lin_parts.specs.Cluster.{signal_of}
use Rattle.lin_log.proofs.Found.{found-number}
use Rattle.lin_log.proofs.naming.ClusterNaming.signal_called.Goals as goal

pub returns : goal.returns
returns c =
    let n = length c.args.self.now.signals in
    let has : ℕ → Bool = λ k. bytes_eq (signal_of c.args.self.now k).name c.args.name.now in
    found-number has n c.find.result
    (find_from_yields_List has _ _ _ c.find.ensures.ran (YieldsList-from_range 0 n n (cc) (omega arith)) (λ x b q k. search (rules, tests)))
