-- What a value means by its number.
use Rattle.std.proofs.Common.{◌≡◌, ℕ, cond, List, Some, None, ap, sym, ◌∙◌, inl, inr}
use Rattle.std.proofs.lemmas.Bool.{cases_Bool}
use Rattle.lin_frame.specs.declared.value.Value.{Value}
use Rattle.lin_frame.specs.declared.value.Value.TheVariants.{Scalar, Bytes}
use Rattle.lin_values.specs.Coded.{item_for, SignalCoding}
use Rattle.lin_values.specs.Meaning.{by_item, coded_meaning, meaning_in, raw_number, wide_number}
use Rattle.lin_values.specs.declared.codings.PlacedItem.{PlacedItem}

pub numbered : (s : SignalCoding) (ps : List PlacedItem) (v : Value) (n : ℕ) → raw_number s.is_wide v ≡ Some n → meaning_in s ps v ≡ by_item s ps v n (item_for ps n)
numbered s ps (Scalar raw) n e =
    let same : raw ≡ n = cc in
    ap (λ m. by_item s ps (Scalar raw) m (item_for ps m)) same
numbered s ps (Bytes bs) n e =
    let number : ℕ = wide_number bs in
    elim (cases_Bool s.is_wide) [
      | inl wide ↦
          let found : Some number ≡ Some n = ap (λ w. cond w (Some number) None) (sym wide) ∙ e in
          let same : number ≡ n = cc in
          ap (λ w. cond w (by_item s ps (Bytes bs) number (item_for ps number)) (coded_meaning s ps (Bytes bs))) wide
          ∙ ap (λ m. by_item s ps (Bytes bs) m (item_for ps m)) same
      | inr narrow ↦ absurd (let none : None ≡ Some n = ap (λ w. cond w (Some number) None) (sym narrow) ∙ e in cc)
    ]
