use Rattle.std.proofs.Common.{rules, ◌≡◌, ◌∙◌, ◌+◌, ◌-◌, ◌++◌, ℕ, suc, true, false, length, map, sym, ap, arith}
use Rattle.std.specs.Prelude.{codes}
use Rattle.lin_ldf.specs.Names.{has_name}
use Rattle.lin_field.specs.Plain.{free_from}
use Rattle.lin_field.proofs.PlainNames.{free-now, free-later}
use Rattle.lin_field.proofs.plain.table_names.free.Goals as goal

pub returns-then-not-is_one_of : goal.returns-then-not-is_one_of
returns-then-not-is_one_of c =
    let taken = map (λ n. n.now) c.args.declared.now in
    let none : has_name taken c.loop.text.items ≡ false = search rules in
    sym (free-now (length c.args.declared.now - c.loop.counter) taken c.loop.text.items none) ∙ c.loop.invariant

pub loop-preserved : goal.loop-preserved
loop-preserved c =
    let taken = map (λ n. n.now) c.args.declared.now in
    let text = c.loop.text.items in
    let left : ℕ = length c.args.declared.now - (c.loop.counter + 1) in
    let taken-one : has_name taken text ≡ true = search rules in
    let pushed : c.push.new.self.items ≡ text ++ codes "_" = search rules in
    let next : length c.args.declared.now - c.loop.counter ≡ suc left = omega arith in
    ap (free_from left taken) pushed ∙ sym (free-later left taken text taken-one)
    ∙ ap (λ k. free_from k taken text) (sym next) ∙ c.loop.invariant
