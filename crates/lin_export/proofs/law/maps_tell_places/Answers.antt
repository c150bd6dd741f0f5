use Rattle.lin_export.proofs.Maps.{layout-told}
use Rattle.lin_export.proofs.law.maps_tell_places.Goals as goal

pub returns : goal.returns
returns c = λ k d l. layout-told _ (c.sound.ensures.rules.frames.layouts k d l)
