-- The marks of a text that are left out, one token after the other.
use Rattle.std.proofs.Common.{◌≡◌, List, [], Option, Some, None, refl}
use Rattle.lin_ldf.specs.declared.token.Token.{Token}
use Rattle.lin_field.specs.Marks.{extra_after, extra_in}

-- those of these tokens, behind a last one
abbrev pub extra_behind : Option Token → List Token → List Token
extra_behind None ts = extra_in ts
extra_behind (Some t) ts = extra_after t ts

pub nothing_behind : (last : Option Token) → extra_behind last [] ≡ []
nothing_behind None = refl
nothing_behind (Some t) = refl
