use Rattle.std.proofs.Common.{◌≡◌, ◌∙◌, ap, refl}
use Rattle.std.specs.Prelude.{codes}
use Rattle.lin_sections.specs.TransferLimits.{time_or_usual}
use Rattle.lin_sections.proofs.transfer_limits.limits_of.Goals as goal

pub returns : goal.returns
returns c =
    let attributes = c.args.block.attributes in
    let down : c.in_ok-down_us.down_us ≡ time_or_usual (codes "N_Cr_timeout") attributes =
    c.in_ok-down_us.ensures ∙ ap (λ w. time_or_usual w c.as_slice.result.now) c.as_slice-2.ensures ∙ ap (time_or_usual (codes "N_Cr_timeout")) c.as_slice.ensures in
    let up : c.in_ok-up_us.up_us ≡ time_or_usual (codes "N_As_timeout") attributes =
    c.in_ok-up_us.ensures ∙ ap (λ w. time_or_usual w c.as_slice-3.result.now) c.as_slice-4.ensures ∙ ap (time_or_usual (codes "N_As_timeout")) c.as_slice-3.ensures in
    rw (down, up) refl
