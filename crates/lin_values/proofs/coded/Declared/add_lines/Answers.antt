use Rattle.std.proofs.Common.{List, take, subst, sym}
use Rattle.std.proofs.lemmas.List.{take_all}
use Rattle.lin_parts.specs.declared.description.Name.{Name}
use Rattle.lin_values.proofs.NamedLines.{line-step, names-more}
use Rattle.lin_values.specs.Coded.{named_in}
use Rattle.lin_values.specs.Gathered.{AreNamed}
use Rattle.lin_values.specs.declared.codings.CodedLine.{CodedLine}
use Rattle.lin_values.proofs.coded.Declared.add_lines.Goals as goal

pub loop-line-preserved : goal.loop-line-preserved
loop-line-preserved c =
    let before : List (Name × Name) = named_in (take c.loop-line.line-index c.args.lines.now) in
    record {
      named = subst (λ (ns : List (Name × Name)). AreNamed c.args.self.now.types ns c.add_line.new.named.map) (sym (names-more c.args.lines.now c.loop-line.line-index c.line-item.result c.loop-line-test.true c.line-item.is)) (c.in_ok-add_line.ensures.named before c.loop-line.invariant.named);
      warned = line-step c.args.self.now.parts c.args.self.now.wide c.args.self.now.types c.args.lines.now c.loop-line.line-index c.line-item.result c.args.warned.now.items c.loop-line.warned.items c.add_line.new.warned.items c.loop-line-test.true c.line-item.is c.loop-line.invariant.warned (c.in_ok-add_line.ensures.warned before c.loop-line.invariant.named);
    }

pub returns-clause-named : goal.returns-clause-named
returns-clause-named c =
    subst (λ (ls : List CodedLine). AreNamed c.args.self.now.types (named_in ls) c.loop-line.named.map) (take_all c.loop-line.line-index c.args.lines.now c.loop-line-test.false) c.loop-line.invariant.named
