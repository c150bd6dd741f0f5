use Rattle.std.proofs.Common.{inr, refl}
use Rattle.lin_tool.proofs.campaign.campaign_script.Goals as goal

pub returns : goal.returns
returns g c =
    inr (_, record { bytes = _; known = c.in_ok-bytes.ensures.0; short = c.in_ok-bytes.ensures.1; is = refl }, rw (c.of-source.ensures, c.as_slice.ensures.value) at c.campaign_source.ensures)
