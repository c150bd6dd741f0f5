use Rattle.lin_bench.proofs.cycles.state_kept.Goals as goal

pub returns-then-is_of-clause-state : goal.returns-then-is_of-clause-state
returns-then-is_of-clause-state c = λ cl known. rw c.in-Some.is at known

pub returns-clause-state : goal.returns-clause-state
returns-clause-state c = λ cl known. c.new.ensures.state cl
