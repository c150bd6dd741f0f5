use Rattle.std.proofs.Common.{arith, refl}
use Rattle.lin_threads.specs.Nodes.{is_due_note, step_in}
use Rattle.lin_threads.specs.States.{IsFurther, node_state}
use Rattle.lin_threads.proofs.NodeLemmas.{due_at_most, follows_note, follows_refl, follows_same, further_put}
use Rattle.lin_threads.proofs.StateLemmas.{further_refl, further_take}
use Rattle.lin_threads.proofs.node_threads.answer_all.Goals as goal
use Rattle.lin_threads.proofs.node_threads.answer_all.Goals.{in-Some, in-None-2}

pub loop-init : goal.loop-init
loop-init g c = record { further = further_refl _; listed = follows_refl c.args.leave.now c.args.port.now; few = omega arith }

pub returns-in-None-clause-listed : goal.returns-in-None-clause-listed
returns-in-None-clause-listed g c =
    (c.loop.due, follows_same c.args.leave.now c.loop.due c.args.port.now (node_state c.loop.port) (node_state c.take.new.self) c.take.ensures.put c.in-None.ensures.none c.loop.invariant.listed)

pub loop-preserved : goal.loop-preserved
loop-preserved g c =
    let leave = c.args.leave.now in
    let port = c.args.port.now in
    let inv = c.loop.invariant in
    let few = inv.few in
    let taken = c.take.new.self in
    let took : IsFurther (node_state port) (node_state taken) =
    further_take (node_state port) c.loop.port taken c.take.result inv.further c.take.ensures.port c.take.ensures.put c.take.ensures.some c.take.ensures.none in
    elim c.match-take.branch [
      | in-Some w ↦ let said = w.answer_note-due.ensures in let n = w.in-Some.note in let due = w.due-is in record {
        further = rw w.port-is (further_put (node_state port) (is_due_note n) (step_in leave c.loop.due) taken w.answer_note-due.new.port took said.port said.put said.took);
        listed = rw (w.port-is, w.due-is, said.due)
            (follows_note leave c.loop.due port c.loop.port taken w.answer_note-due.new.port n (is_due_note n) refl took.wiring c.take.ensures.put w.in-Some.ensures.some said.put said.took inv.listed);
        few = omega (arith, due_at_most n, said.due);
      }
      | in-None-2 w ↦ let due = w.due-is in record {
        further = rw w.port-is took;
        listed = rw (w.port-is, w.due-is) (follows_same leave c.loop.due port (node_state c.loop.port) (node_state taken) c.take.ensures.put w.in-None.ensures.none inv.listed);
        few = omega arith;
      }
    ]
