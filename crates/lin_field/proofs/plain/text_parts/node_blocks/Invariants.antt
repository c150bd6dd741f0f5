use Rattle.std.proofs.Common.{◌≡◌, take, map, filter}
use Rattle.lin_ldf.specs.Names.{has_name}
use Rattle.lin_field.specs.Plain.{first_token_text}
use Rattle.lin_field.proofs.plain.text_parts.node_blocks.Given as goal

abbrev pub invariant-loop-block : goal.invariant-loop-block
invariant-loop-block l =
    map (λ p. p.now) l.kept.items
    ≡ filter (λ p. has_name (map (λ w. w.now) l.nodes) (first_token_text l.source p))
    (map (λ p. p.now) (take l.block-index l.block-items))
