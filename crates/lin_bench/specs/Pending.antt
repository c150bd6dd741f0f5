-- What hasn't come yet: messages that wait, and answers that are noted.
use Rattle.std.specs.Prelude.{ℕ, ◌==◌, nat_lt, List, ◌++◌, map, filter, length, count_by}
use Rattle.lin_frame.specs.Words.{numbers}
use Rattle.lin_parts.specs.Cluster.{nodes}
use Rattle.lin_parts.specs.declared.parts.Parts.{Parts}
use Rattle.lin_core.specs.Links.{waiting}
use Rattle.lin_core.specs.declared.log.LogEntry.{LogEntry}
use Rattle.lin_bench.specs.declared.got.Pending.{Pending}
use Rattle.lin_bench.specs.declared.got.Pending.TheVariants.{MessagesWait, AnswersNoted}
use Rattle.lin_bench.specs.declared.rules.Noted.{Noted}

-- the hosts of which messages wait, and how many
abbrev pub hosts_waiting : Parts → List LogEntry → List (ℕ × ℕ)
hosts_waiting c past =
    filter (λ (h : ℕ × ℕ). nat_lt 0 h.1)
    (map (λ h. (h, length (waiting c past h))) (numbers (nodes c)))

-- the nodes of which answers are noted, and how many
abbrev pub nodes_noted : Parts → List Noted → List (ℕ × ℕ)
nodes_noted c noted =
    filter (λ (n : ℕ × ℕ). nat_lt 0 n.1)
    (map (λ n. (n, count_by (λ m. m.node == n) noted)) (numbers (nodes c)))

-- the hosts of which messages wait, and then the nodes of which answers are noted
abbrev pub pending : Parts → List LogEntry → List Noted → List Pending
pending c past noted =
    map (λ (h : ℕ × ℕ). MessagesWait h.0 h.1) (hosts_waiting c past)
    ++ map (λ (n : ℕ × ℕ). AnswersNoted n.0 n.1) (nodes_noted c noted)
