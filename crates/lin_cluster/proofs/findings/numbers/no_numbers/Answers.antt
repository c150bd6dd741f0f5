use Rattle.std.proofs.Common.{◌≡◌, Bool, true, false}
use Rattle.std.specs.Prelude.{if◌then◌else◌, nat_eq}
use Rattle.indexmap.specs.IndexSet.{contains}
use Rattle.lin_cluster.proofs.findings.numbers.no_numbers.Goals as goal

either : (b x y : Bool) → x ≡ false → y ≡ false → (if b then x else y) ≡ false
either true x y first second = first
either false x y first second = second

pub returns : goal.returns
returns c = λ q.
    let none : contains nat_eq c.new-others.result q ≡ false = search in
    either _ _ _ (c.no_flags.ensures q) none
