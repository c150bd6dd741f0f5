use Rattle.std.proofs.Common.{◌≡◌, ◌-◌}
use Rattle.lin_sections.specs.Commands.{more_bytes, AreBytes}
use Rattle.lin_sections.proofs.commands.more_bytes.Given as goal

abbrev pub invariant-loop-count : goal.invariant-loop-count
invariant-loop-count l = record {
  read : more_bytes l.bytes.items (l.least - l.count) (l.most - l.count) l.parser ≡ more_bytes l.fn.bytes.items l.least l.most l.fn.parser;
  bytes : AreBytes l.bytes.items;
}
