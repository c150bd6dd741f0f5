use Rattle.std.proofs.Common.{List, map, ap, subst, ◌∙◌}
use Rattle.lin_values.proofs.CodedSignals.{gathered, kept-all}
use Rattle.lin_values.specs.Coded.{named_in}
use Rattle.lin_values.specs.Gathered.{AreNamed}
use Rattle.lin_values.specs.Kept.{kept_signal}
use Rattle.lin_values.specs.declared.codings.CodingType.{CodingType}
use Rattle.lin_values.proofs.coded.coded_signals.Goals as goal

pub returns-clause-signals : goal.returns-clause-signals
returns-clause-signals c =
    ap (map (kept_signal c.args.encodings.now)) (c.in_ok-signals.ensures c.args.wide.now c.in_ok-names.ensures)
    ∙ kept-all c.args.wide.now c.args.encodings.now c.args.lines.now c.in_ok-named.named.map c.args.cluster.now.signals
    (subst (λ (ts : List CodingType). AreNamed ts (named_in c.args.lines.now) c.in_ok-named.named.map) c.in_ok-declared.ensures.types c.in_ok-named.ensures.named)

pub returns-clause-warned : goal.returns-clause-warned
returns-clause-warned c =
    gathered c.args.cluster.now c.in_ok-declared.declared.parts c.args.wide.now c.in_ok-declared.declared.wide c.args.encodings.now c.in_ok-declared.declared.types c.args.lines.now c.args.warned.now.items c.add_twice.new.warned.items c.add_lines.new.warned.items
    c.in_ok-declared.ensures.types c.in_ok-declared.ensures.parts c.in_ok-declared.ensures.wide c.in_ok-add_twice.ensures c.in_ok-named.ensures.warned
