use Rattle.lin_text.proofs.Growing.{grows-more}
use Rattle.lin_tool.proofs.campaign.text.put_rest.Goals as goal

pub returns : goal.returns
returns g c =
    grows-more c.put_missed.ensures
    (grows-more (rw (c.known_losses.ensures, c.as_slice.ensures) at c.put_losses.ensures) (rw (c.known_refusals.ensures, c.as_slice-2.ensures) at c.put_refusals.ensures))
