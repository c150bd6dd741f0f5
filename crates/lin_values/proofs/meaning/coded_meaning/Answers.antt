use Rattle.std.proofs.Common.{sym, refl, ap, List, ◌≡◌, ◌∙◌, Option, Some, None, false, is_some, option_map}
use Rattle.std.specs.Prelude.{option_and_then}
use Rattle.lin_frame.specs.declared.value.Value.{Value}
use Rattle.lin_values.specs.Coded.{all_codings, first_coding, second_coding, SignalCoding}
use Rattle.lin_values.specs.Meaning.{coded_meaning, meaning_by, meant, plain_signal}
use Rattle.lin_values.specs.declared.encoding.Coding.{Coding}
use Rattle.lin_values.specs.declared.codings.PlacedItem.{PlacedItem}
use Rattle.lin_values.specs.declared.meaning.Meaning.{Meaning}
use Rattle.lin_values.proofs.CodingOrder.{second-means}
use Rattle.lin_values.proofs.meaning.coded_meaning.Goals as goal

by-second : (s : SignalCoding) (v : Value) (ps : List PlacedItem) (a : Coding) (o : Option Coding) → first_coding ps ≡ Some a → meaning_by s v a ≡ None → second_coding ps ≡ o → coded_meaning s ps v ≡ option_and_then (meaning_by s v) o
by-second s v ps a o e n t = second-means (meaning_by s v) (all_codings ps) a e n ∙ ap (option_and_then (meaning_by s v)) t

not-found : (o : Option Meaning) → false ≡ is_some o → option_map meant o ≡ None
not-found None h = refl
not-found (Some m) h = cc

pub returns-in_err-traits-2 : goal.returns-in_err-traits-2
returns-in_err-traits-2 c =
    rw c.from_residual-in_err-traits-2.ensures
    (sym (by-second (plain_signal c.args.signal) c.args.value.now c.args.encoding.now.items c.in_ok-traits.field-0 None (sym c.traits-traits.ensures.first ∙ c.in_ok-traits.was)
    (sym c.meaning_by-found.ensures ∙ not-found _ c.if-is_some.ensures)
    (sym c.traits-traits.ensures.second ∙ c.in_err-traits-2.was)))

pub returns : goal.returns
returns c =
    c.meaning_by.ensures
    ∙ sym (by-second (plain_signal c.args.signal) c.args.value.now c.args.encoding.now.items c.in_ok-traits.field-0 (Some c.in_ok-traits-2.field-0) (sym c.traits-traits.ensures.first ∙ c.in_ok-traits.was)
    (sym c.meaning_by-found.ensures ∙ not-found _ c.if-is_some.ensures)
    (sym c.traits-traits.ensures.second ∙ c.in_ok-traits-2.was))
