use Rattle.std.proofs.Common.{◌≡◌, ◌+◌, ◌-◌, ◌*◌, ◌/◌, ◌%◌, ◌^◌, ◌<◌, ◌≤◌, ◌∙◌, ap, arith}
use Rattle.std.proofs.lemmas.Nat.Bits.{ones_shl, ones_shr}
use Rattle.lin_cluster.proofs.FindingsBits.{kept_ones, mask_of}
use Rattle.lin_cluster.proofs.FindingsRanges.{lowest}
use Rattle.lin_cluster.proofs.findings.ranges.mask.Goals as goal

pub returns : goal.returns
returns c =
    let s = c.args.start in
    let after = c.min-after.result in
    let least = lowest c.args.end 64 after c.min-after.ensures in
    mask_of s c.args.end after (18446744073709551615 * 2 ^ s % 18446744073709551616) (18446744073709551615 / 2 ^ (64 - after)) c.min-after.ensures
    (ones_shl 64 s (omega (arith, least.1, c.if-after-start.false)))
    (ones_shr 64 (64 - after) (omega arith) ∙ ap (λ n. 2 ^ n - 1) (kept_ones after least.1))
