-- What the reading of a section found is what the sections then have.
use Rattle.std.proofs.Common.{◌≡◌, List, Option, Some, None, Result, Ok, Err, IfOk, IfSome, refl}
use Rattle.lin_ldf.specs.declared.fault.LdfFault.{LdfFault}
use Rattle.lin_ldf.specs.Symbols.{Symbol}
use Rattle.lin_ldf.specs.Forms.{Form, GivesToPlace, Gathers, as_value}
use Rattle.lin_ldf.proofs.SeveralSteps.{fails_before}

pub found_alone : {X S : Type 0} (r : Result (Unit {0}) LdfFault) (found : Option X) (left ts : List Symbol) (form : Form X) (make : Option X → S) → GivesToPlace r found left (form.read ts)
    → Gathers r (make found) left ((as_value (λ x. make (Some x)) form).read ts)
found_alone (Ok u) (Some x) left ts form make h = rw h refl
found_alone (Ok u) None left ts form make h = absurd h
found_alone (Err e) found left ts form make h = fails_before e (form.read ts) _ h

-- the same, where a state changed with it
pub found_with : {X Y S : Type 0} (r : Result (Unit {0}) LdfFault) (found : Option X) (state : Y) (left ts : List Symbol) (form : Form X) (next : X → Y) (make : Option X → Y → S)
    → IfOk r (λ u. IfSome found (λ x. state ≡ next x)) → GivesToPlace r found left (form.read ts) → Gathers r (make found state) left ((as_value (λ x. make (Some x) (next x)) form).read ts)
found_with (Ok u) (Some x) state left ts form next make same h = rw (h, same) refl
found_with (Ok u) None state left ts form next make same h = absurd h
found_with (Err e) found state left ts form next make same h = fails_before e (form.read ts) _ h
