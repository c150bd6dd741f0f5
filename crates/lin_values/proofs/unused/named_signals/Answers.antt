use Rattle.std.proofs.Common.{List, take, subst, sym}
use Rattle.std.proofs.lemmas.List.{take_all}
use Rattle.lin_parts.specs.declared.description.Name.{Name}
use Rattle.lin_values.proofs.NamedLines.{names-more}
use Rattle.lin_values.specs.Coded.{named_in}
use Rattle.lin_values.specs.Gathered.{AreNamed}
use Rattle.lin_values.specs.declared.codings.CodedLine.{CodedLine}
use Rattle.lin_values.proofs.unused.named_signals.Goals as goal

pub loop-line-preserved : goal.loop-line-preserved
loop-line-preserved c =
    subst (λ (ns : List (Name × Name)). AreNamed c.args.types.now ns c.add_line.new.named.map) (sym (names-more c.args.lines.now c.loop-line.line-index c.line-item.result c.loop-line-test.true c.line-item.is))
    (c.in_ok-add_line.ensures c.args.types.now (named_in (take c.loop-line.line-index c.args.lines.now)) c.encoding_named-encoding.ensures c.loop-line.invariant)

pub returns : goal.returns
returns c =
    subst (λ (ls : List CodedLine). AreNamed c.args.types.now (named_in ls) c.loop-line.named.map) (take_all c.loop-line.line-index c.args.lines.now c.loop-line-test.false) c.loop-line.invariant
