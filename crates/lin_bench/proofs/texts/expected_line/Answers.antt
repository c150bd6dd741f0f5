use Rattle.lin_bench.proofs.texts.expected_line.Goals as goal

pub returns-in-HasRule : goal.returns-in-HasRule
returns-in-HasRule c = absurd (c.requires _ c.in-HasRule.is)
