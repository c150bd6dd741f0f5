-- What is kept of items, one after the other.
use Rattle.std.specs.Prelude.{ℕ, ◌||◌, Bool, true, false, max, Option, Some, None, if◌then◌else◌}
use Rattle.lin_values.specs.Coded.{same_coding}
use Rattle.lin_values.specs.Value.{fits}
use Rattle.lin_values.specs.declared.encoding.Coding.{Coding}
use Rattle.lin_values.specs.declared.encoding.Coding.TheVariants as codings
use Rattle.lin_values.specs.declared.encoding.Traits.{Traits}
use Rattle.lin_values.specs.declared.codings.Item.{Item}
use Rattle.lin_values.specs.declared.codings.Item.TheVariants.{Logical, Physical, Bcd, Ascii}

abbrev pub is_coding : Option Coding → Coding → Bool
is_coding None c = false
is_coding (Some d) c = same_coding d c

abbrev pub has_coding : Traits → Coding → Bool
has_coding t c = is_coding t.first c || is_coding t.second c

abbrev pub with_number : Traits → ℕ → Traits
with_number t n = record t { is_numeric = true; greatest = max t.greatest n }

abbrev pub coded_behind : Traits → Option Coding → Coding → Traits
coded_behind t None c = record t { first = Some c }
coded_behind t (Some first) c = if same_coding first c then t else record t { second = Some c }

abbrev pub with_coding : Traits → Coding → Traits
with_coding t c = coded_behind t t.first c

abbrev pub with_traits : Traits → Item → Traits
with_traits t (Logical v text) = with_number t v
with_traits t (Physical from to scale offset unit) =
    if fits to scale offset then record (with_number t to) { has_range = true } else t
with_traits t Bcd = with_coding t codings.Bcd
with_traits t Ascii = with_coding t codings.Ascii
