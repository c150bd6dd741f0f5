use Rattle.lin_export.proofs.check_object.put_if_found.Goals as goal

pub returns-in-Some : goal.returns-in-Some
returns-in-Some g c = rw c.in-Some.is c.put_found.ensures
