use Rattle.linsim_c.proofs.Texts.{first_found, some_found}
use Rattle.linsim_c.proofs.settings.said_by.Goals as goal

pub bounds-as_slice-0 : goal.bounds-as_slice-0
bounds-as_slice-0 c = rw c.as_slice.ensures (some_found c.args.description c.in-Err-Findings.found (rw c.in-Err-Findings.field-0-is at c.in-Err-Findings.ensures.findings))

pub returns-in-Err-Findings : goal.returns-in-Err-Findings
returns-in-Err-Findings c = λ text described. rw c.as_slice.ensures (first_found text c.args.description c.in-Err-Findings.found (record { line = 0; column = 0; number = 0; needed_us = 0 }) described (rw c.in-Err-Findings.field-0-is at c.in-Err-Findings.ensures.findings))
