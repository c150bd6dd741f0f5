use Rattle.lin_bench.proofs.Makes.{makes-changed, makes-unchanged}
use Rattle.lin_bench.proofs.ruled.RuledCore.make.Goals as goal

pub returns-then-branch : goal.returns-then-branch
returns-then-branch c =
    let e = c.in_ok-strike.ensures in
    makes-changed c.args.self.now c.strike.new.self c.make_changed.new.self (c.args.by, c.args.step) c.make_changed.result c.in_ok-strike.field-0 (record { core = e.core; rules = e.struck }) e.changed
    c.if-branch.true c.make_changed.ensures

pub returns : goal.returns
returns c =
    let e = c.in_ok-strike.ensures in
    makes-unchanged c.args.self.now c.strike.new.self c.make_unchanged.new.self (c.args.by, c.args.step) c.make_unchanged.result c.in_ok-strike.field-0 (record { core = e.core; rules = e.struck }) e.changed
    c.if-branch.false c.make_unchanged.ensures
