use Rattle.std.proofs.Common.{ap, sym, ◌∙◌}
use Rattle.std.specs.Prelude.{nat_eq}
use Rattle.std.specs.Option.{option_copied}
use Rattle.indexmap.specs.IndexMap.{get}
use Rattle.lin_cluster.proofs.FindingsRepeats.{same_number, added_one, added_two}
use Rattle.lin_cluster.proofs.findings.repeats.count.Goals as goal

pub returns-clause-one : goal.returns-clause-one
returns-clause-one c = λ x.
    added_one (nat_eq c.args.id.value x.value) x c.args.id c.with_use-more.result
    (get nat_eq c.args.uses.now x.value) (option_copied c.get.result) (get nat_eq c.insert.new.self x.value) (c.in_ok-insert.ensures.updates.0 x.value)
    (λ e. ap (get nat_eq c.args.uses.now) (sym (same_number c.args.id.value x.value e)) ∙ sym c.get.ensures.value)
    (c.with_use-more.ensures.first x)

pub returns-clause-two : goal.returns-clause-two
returns-clause-two c = λ x.
    added_two (nat_eq c.args.id.value x.value) x c.args.id c.with_use-more.result
    (get nat_eq c.args.uses.now x.value) (option_copied c.get.result) (get nat_eq c.insert.new.self x.value) (c.in_ok-insert.ensures.updates.0 x.value)
    (λ e. ap (get nat_eq c.args.uses.now) (sym (same_number c.args.id.value x.value e)) ∙ sym c.get.ensures.value)
    (c.with_use-more.ensures.second x)
