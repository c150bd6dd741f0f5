use Rattle.std.proofs.Common.{sym, arith}
use Rattle.lin_text.proofs.Growing.{grows-more, same-growth}
use Rattle.lin_log.proofs.Ends.{mapped-more}
use Rattle.lin_export.specs.Csv.{after_comma}
use Rattle.lin_export.specs.Members.{member_shown}
use Rattle.lin_export.proofs.json.put_members.Goals as goal

pub loop-one-preserved : goal.loop-one-preserved
loop-one-preserved g c =
    same-growth (sym (mapped-more after_comma member_shown c.args.members.now c.loop-one.one-index _ (omega arith))) (grows-more c.loop-one.invariant c.put_member.ensures)
