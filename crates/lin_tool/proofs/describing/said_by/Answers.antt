use Rattle.lin_tool.proofs.describing.said_by.Goals as goal

pub returns-in-Err-Findings-clause-answers : goal.returns-in-Err-Findings-clause-answers
returns-in-Err-Findings-clause-answers c = λ text described. record {
  description = c.args.description;
  described = described;
  all = rw c.in-Err-Findings.field-0-is at c.in-Err-Findings.ensures.findings;
}
