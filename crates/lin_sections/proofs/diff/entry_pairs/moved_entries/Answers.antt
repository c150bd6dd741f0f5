use Rattle.std.proofs.Common.{◌≡◌, ◌<◌, ◌∙◌, ℕ, Bool, false, List, length, map, take, refl, ap, arith}
use Rattle.std.specs.Prelude.{◌==◌, ◌&&◌, min, replicate, zip}
use Rattle.std.specs.List.{list_any, range_with_len}
use Rattle.lin_sections.proofs.Marked.{all-unmarked, marked-more, same-flags}
use Rattle.lin_sections.proofs.TextNumbers.{pairs-all}
use Rattle.lin_sections.proofs.diff.entry_pairs.moved_entries.Goals as goal

pub loop-pair-init : goal.loop-pair-init
loop-pair-init c =
    let all : c.loop-place._place ≡ c.args.count = omega arith in
    c.loop-place.invariant ∙ ap (λ n. replicate n false) all ∙ all-unmarked 0 c.args.count

pub loop-pair-preserved : goal.loop-pair-preserved
loop-pair-preserved c =
    let places : List ℕ = c.args.places.now in
    let flags : List Bool = c.in_ok-by_pair.by_pair.items in
    let first : c.loop-pair.pair < length places = omega arith in
    let second : c.loop-pair.pair < length flags = omega arith in
    c.mark.ensures (λ p. list_any (λ (x : ℕ × Bool). x.1 && x.0 == p) (zip (take c.loop-pair.pair places) (take c.loop-pair.pair flags))) c.args.count c.loop-pair.invariant
    ∙ same-flags _ _ 0 c.args.count (λ p le lt. marked-more places flags c.loop-pair.pair _ c.index.result.now first second refl c.index.ensures p)

pub returns : goal.returns
returns c =
    let end : c.loop-pair.pair ≡ min (length c.args.places.now) (length c.in_ok-by_pair.by_pair.items) = omega arith in
    c.loop-pair.invariant
    ∙ ap (λ zs. map (λ p. list_any (λ (x : ℕ × Bool). x.1 && x.0 == p) zs) (range_with_len 0 c.args.count))
    (pairs-all c.args.places.now c.in_ok-by_pair.by_pair.items c.loop-pair.pair end ∙ ap (zip c.args.places.now) c.in_ok-by_pair.ensures)
