use Rattle.lin_threads.proofs.ScriptLemmas.{continues}
use Rattle.lin_threads.proofs.script_task.ScriptTaskHostTask.turn.Goals as goal

pub returns-then-is_empty-clause-port : goal.returns-then-is_empty-clause-port
returns-then-is_empty-clause-port c =
    continues c.args.port.now c.take-note.new.self c.put_next.new.port c.take-note.result c.args.self.now c.put_next.new.self
    c.take-note.ensures.port c.take-note.ensures.put c.take-note.ensures.some c.take-note.ensures.none c.put_next.ensures.port c.put_next.ensures.puts c.put_next.ensures.took

pub returns-clause-port : goal.returns-clause-port
returns-clause-port c =
    continues c.args.port.now c.take-note.new.self c.put_next.new.port c.take-note.result c.args.self.now c.put_next.new.self
    c.take-note.ensures.port c.take-note.ensures.put c.take-note.ensures.some c.take-note.ensures.none c.put_next.ensures.port c.put_next.ensures.puts c.put_next.ensures.took
