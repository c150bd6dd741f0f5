use Rattle.std.proofs.Common.{List, ◌++◌, append-nil, subst, sym}
use Rattle.lin_parts.specs.declared.description.Name.{Name}
use Rattle.lin_values.proofs.NamedLines.{named-step, names-all}
use Rattle.lin_values.specs.Gathered.{AreNamed}
use Rattle.lin_values.proofs.unused.add_line.Goals as goal

pub loop-name-init : goal.loop-name-init
loop-name-init c = λ types before of are. subst (λ (b : List (Name × Name)). AreNamed types b c.args.named.now.map) (sym (append-nil before)) are

pub loop-name-preserved : goal.loop-name-preserved
loop-name-preserved c = λ types before of are q.
    named-step types before c.args.line.now c.as_slice-name-items.result.now c.loop-name.name-index c.name-item.result c.args.encoding c.as_slice.result.now q _ _
    c.as_slice-name-items.ensures.value c.loop-name-test.true c.name-item.is of c.as_slice.ensures (c.loop-name.invariant types before of are q) (c.in_ok-put_first.ensures.put q)

pub returns : goal.returns
returns c = λ types before of are.
    let all = names-all c.args.line.now c.as_slice-name-items.result.now c.loop-name.name-index c.as_slice-name-items.ensures.value c.loop-name-test.false in
    subst (λ (ns : List (Name × Name)). AreNamed types (before ++ ns) c.loop-name.named.map) all (c.loop-name.invariant types before of are)
