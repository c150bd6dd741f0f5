-- Which names are nodes' (LIN 2.2A, section 9.2.2).
use Rattle.std.specs.Prelude.{List, ◌∷◌, Bool, not, ◌&&◌, ◌||◌}
use Rattle.std.specs.List.{list_any}
use Rattle.lin_cluster.specs.FindingsNames.{same_name}
use Rattle.lin_parts.specs.declared.description.Name.{Name}
use Rattle.lin_field.specs.declared.loose.LooseNodes.{LooseNodes}

abbrev pub node_list : LooseNodes → List Name
node_list n = n.master ∷ n.slaves

abbrev pub is_slave : LooseNodes → Name → Bool
is_slave n x = list_any (λ m. same_name m x) n.slaves

abbrev pub is_loose_node : LooseNodes → Name → Bool
is_loose_node n x = same_name n.master x || is_slave n x

abbrev pub is_loose_responder : LooseNodes → Name → Bool
is_loose_responder n x = not (same_name n.master x) && is_slave n x
