use Rattle.std.proofs.Common.{ap, ◌∷◌, List, ℕ}
use Rattle.lin_text.proofs.Growing.{grows-more, same-growth}
use Rattle.lin_log.proofs.Words.{port-called}
use Rattle.lin_log.proofs.writing.put_lettered.Goals as goal

pub returns-in-Some : goal.returns-in-Some
returns-in-Some g c =
    same-growth (ap (λ (w : List ℕ). c.args.letter ∷ w) (rw c.in-Some.is at (port-called (g.N.Naming.language c.args.names.now) c.args.node c.name_of_node.result c.name_of_node.ensures)))
    (grows-more c.put_byte.ensures (grows-more c.put_byte-in-Some.ensures c.put_seen.ensures))

pub returns-in-None : goal.returns-in-None
returns-in-None g c =
    same-growth (ap (λ (w : List ℕ). c.args.letter ∷ w) (rw c.in-None.is at (port-called (g.N.Naming.language c.args.names.now) c.args.node c.name_of_node.result c.name_of_node.ensures)))
    (rw c.from.ensures at c.put_numbered.ensures)
