use Rattle.std.proofs.Common.{arith, ap, length, ◌≡◌, ◌∙◌, lit<}
use Rattle.std.proofs.lemmas.List.{length-map, length-take-le}
use Rattle.lin_values.specs.Meaning.{shown_character}
use Rattle.lin_values.proofs.Letters.{fewer_at-end}
use Rattle.lin_values.proofs.meaning.shown_characters.Goals as goal

pub push-requires : goal.push-requires
push-requires c =
    let count : length c.loop-byte.letters.items ≡ c.loop-byte.byte-index =
    ap length c.loop-byte.invariant ∙ length-map _ shown_character ∙ length-take-le _ _ c.loop-byte.auto.byte-index-end in
    (lit< tt, omega (arith, count, ap length c.without_zeros-byte-items.ensures, fewer_at-end c.args.bytes.now))
