use Rattle.lin_tool.proofs.laws.Inputs.{transcripts-are-inputs}
use Rattle.lin_tool.proofs.laws.Scripts.{transcripts-are-bench-scripts, transcripts-are-scripts}
use Rattle.lin_tool.proofs.laws.Transcripts.{last-lines-are-remarks, lines-have-no-lf, transcripts-are-logs}
use Rattle.lin_tool.proofs.law.transcripts_are_logs.Goals as goal

pub returns : goal.returns
returns c = record {
  logs = transcripts-are-logs;
  scripts = transcripts-are-scripts;
  bench_scripts = transcripts-are-bench-scripts;
  inputs = transcripts-are-inputs;
  remarks = last-lines-are-remarks;
  lines = lines-have-no-lf;
}
