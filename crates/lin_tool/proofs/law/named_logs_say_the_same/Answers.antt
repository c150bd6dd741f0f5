use Rattle.lin_tool.proofs.laws.NamedLogs.{named-logs}
use Rattle.lin_tool.proofs.laws.TextNames.{named-logs-of_texts}
use Rattle.lin_tool.proofs.law.named_logs_say_the_same.Goals as goal

pub returns : goal.returns
returns c = record { of_words = named-logs; of_texts = named-logs-of_texts }
