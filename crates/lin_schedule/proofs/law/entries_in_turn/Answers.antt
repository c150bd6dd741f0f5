use Rattle.lin_schedule.proofs.Turns.{cluster-own_offsets, cluster-in_turn, cluster-due_in_turn}
use Rattle.lin_schedule.proofs.law.entries_in_turn.Goals as goal

pub returns : goal.returns
returns c = record { offsets = cluster-own_offsets; times = cluster-in_turn; slots = cluster-due_in_turn }
