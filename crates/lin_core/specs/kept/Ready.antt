-- No promise rests on this: the responses that are ready.
use Rattle.std.specs.Prelude.{◌≡◌, ◌≤◌, ℕ, List, length, map}
use Rattle.lin_core.specs.History.{LogEntry, Parts}
use Rattle.lin_core.specs.Slots.{ready_responses}
use Rattle.lin_core.specs.declared.ready.Response.{Response}

-- a node with its response
abbrev pub response_in : Response → ℕ × List ℕ
response_in r = (r.node, r.bytes)

-- its node
abbrev pub node_in : Response → ℕ
node_in r = r.node

-- they are those of the history, and few
abbrev pub KeepsReady : Parts → List LogEntry → List Response → Type 0
KeepsReady c past ready =
    (map response_in ready ≡ ready_responses c past) × (length ready ≤ 16)
