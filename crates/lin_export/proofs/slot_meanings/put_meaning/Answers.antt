use Rattle.std.proofs.Common.{sym, ◌∙◌}
use Rattle.lin_log.proofs.Ends.{grows-last}
use Rattle.lin_text.proofs.Growing.{grows-more}
use Rattle.lin_export.proofs.slot_meanings.put_meaning.Goals as goal

pub returns-clause-text : goal.returns-clause-text
returns-clause-text g c =
    rw c.in-Some.is
    (rw (sym c.has.ensures ∙ c.if-not-has.false) (grows-last (grows-more c.put_separator.ensures (rw c.signal_name.ensures at c.put_member.ensures))))
