-- The numbers of the nodes that publish, by which publishers are compared.
use Rattle.std.specs.Prelude.{ℕ, List, Option, Some, None, Bool, not, if◌then◌else◌, ◌==◌, nat_lt}
use Rattle.std.specs.Prelude.{false}
use Rattle.std.specs.Option.{option_map_or}
use Rattle.lin_cluster.specs.Described.{node_number}
use Rattle.lin_cluster.specs.FindingsNames.{at_name, when, is_node, signal_named}
use Rattle.lin_cluster.specs.declared.finding.FindingKind.TheVariants.{WrongPublisher}
use Rattle.lin_cluster.specs.declared.finding.Finding.{Finding}
use Rattle.lin_parts.specs.declared.description.Description.{Description}
use Rattle.lin_parts.specs.declared.description.Name.{Name}
use Rattle.lin_parts.specs.declared.description.PlacedSignal.{PlacedSignal}

-- the number of the node with this name, where there is one: the commander's is 0
abbrev pub number_of_node : Description → Name → Option ℕ
number_of_node d n = if is_node d n then Some (node_number d n) else None

abbrev pub is_node_number : ℕ → Option ℕ → Bool
is_node_number k o = option_map_or (λ n. n == k) o false

abbrev pub is_responder_number : Option ℕ → Bool
is_responder_number o = option_map_or (λ n. nat_lt 0 n) o false

-- two nodes, and not the same
abbrev pub are_two : Option ℕ → Option ℕ → Bool
are_two a b = option_map_or (λ n. option_map_or (λ k. not (n == k)) b false) a false

-- a signal in a frame with this publisher
abbrev pub wrong_publisher_by : Description → Option ℕ → PlacedSignal → List Finding
wrong_publisher_by d publisher p =
    when (option_map_or
    (λ s. are_two (number_of_node d s.publisher) publisher) (signal_named d p.signal) false)
    (at_name WrongPublisher p.signal)
