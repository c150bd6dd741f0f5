-- The cells of one signal more are kept.
use Rattle.std.proofs.Common.{◌≡◌, ◌+◌, ◌⊎◌, ℕ, zero, suc, List, [], ◌∷◌, ◌++◌, length, refl, ap, sym, ◌∙◌, subst, inl, inr, length-append}
use Rattle.std.specs.Prelude.{Some, slice_get, slice_set}
use Rattle.std.proofs.Math.ListN.{length-set}
use Rattle.lin_core.proofs.kept.SignalKeeping.{set-at}
use Rattle.lin_values.specs.Coded.{CodedData}
use Rattle.lin_export.specs.KeptCells.{AreKept, AreCellsOf}
use Rattle.lin_export.specs.declared.kept_cells.KeptCells.{KeptCells}
use Rattle.lin_export.proofs.Slots.{some-same}

-- those at a place are new
pub kept-set : (k : CodedData) (count : ℕ) (xs : List KeptCells) (i : ℕ) (new : KeptCells) → AreKept k count xs → AreCellsOf k i new → AreKept k count (slice_set xs i new)
kept-set k count xs i new h is = record {
  number = length-set xs i new ∙ h.number;
  each = λ s cells at.
      elim (set-at xs i s new cells at) [
        | inl own ↦ subst (λ (x : ℕ). AreCellsOf k x cells) own.0 (subst (λ (y : KeptCells). AreCellsOf k i y) (sym own.1) is)
        | inr other ↦ h.each s cells other.1
      ];
}

get-pushed : {X : Type 0} (xs : List X) (x y : X) (s : ℕ) → slice_get (xs ++ x ∷ []) s ≡ Some y → (slice_get xs s ≡ Some y) ⊎ ((s ≡ length xs) × (x ≡ y))
get-pushed [] x y zero e = inr (refl, some-same x y e)
get-pushed [] x y (suc s) e = cc
get-pushed (a ∷ xs) x y zero e = inl e
get-pushed (a ∷ xs) x y (suc s) e =
    elim (get-pushed xs x y s e) [
      | inl h ↦ inl h
      | inr h ↦ inr (ap suc h.0, h.1)
    ]

-- those of the next signal
pub kept-pushed : (k : CodedData) (i : ℕ) (xs : List KeptCells) (new : KeptCells) → AreKept k i xs → AreCellsOf k i new → AreKept k (i + 1) (xs ++ new ∷ [])
kept-pushed k i xs new h is = record {
  number = length-append xs (new ∷ []) ∙ ap (λ n. n + 1) h.number;
  each = λ s cells at.
      elim (get-pushed xs new cells s at) [
        | inl own ↦ h.each s cells own
        | inr last ↦ subst (λ (x : ℕ). AreCellsOf k x cells) (sym (last.0 ∙ h.number)) (subst (λ (y : KeptCells). AreCellsOf k i y) last.1 is)
      ];
}

pub none-kept : (k : CodedData) → AreKept k 0 []
none-kept k = record { number = refl; each = λ s cells at. cc }
