-- The lines of a script, one at a time.
use Rattle.std.proofs.Common.{◌≡◌, Bool, true, false, not, ◌==◌, ◌≤◌, ◌+◌, ℕ, List, [], ◌∷◌, ◌++◌, if◌then◌else◌, refl, sym, ap, append-nil, arith, flat_map, length}
use Rattle.std.specs.Prelude.{Option, Some, None}
use Rattle.std.specs.Borrow.{Bor}
use Rattle.std.specs.List.{slice_split}
use Rattle.std.specs.Option.{is_none, is_some}
use Rattle.std.proofs.lemmas.List.Splits.{length-slice_split}
use Rattle.lin_log.specs.Judged.{lines_left}
use Rattle.lin_tool.specs.campaign.Page.{page_line, without_empty_last}

with-more : (l : List ℕ) (ls : List (List ℕ)) → 1 ≤ length ls → without_empty_last (l ∷ ls) ≡ l ∷ without_empty_last ls
with-more l [] h = absurd (omega arith)
with-more [] (m ∷ ls) h = refl
with-more (b ∷ bs) (m ∷ ls) h = refl

pub script-next : (l : List ℕ) (rest : Option (Bor (List ℕ)))
    → flat_map page_line (without_empty_last (l ∷ lines_left rest))
    ≡ (if is_none rest then flat_map page_line (without_empty_last (l ∷ [])) else page_line l) ++ flat_map page_line (without_empty_last (lines_left rest))
script-next l None = sym (append-nil (flat_map page_line (without_empty_last (l ∷ []))))
script-next l (Some t) =
    let count = length-slice_split (λ b. b == 10) t.now in
    ap (flat_map page_line) (with-more l (slice_split (λ b. b == 10) t.now) (omega arith))

pub none-is : {X : Type 0} (o : Option X) (b : Bool) → is_some o ≡ not b → is_none o ≡ b
none-is None true e = refl
none-is None false e = absurd (cc)
none-is (Some x) true e = absurd (cc)
none-is (Some x) false e = refl

-- a last line that isn't empty, and an empty one
pub line-kept : (l : List ℕ) → (l ≡ [] → ⊥) → page_line l ≡ flat_map page_line (without_empty_last (l ∷ []))
line-kept [] h = absurd (h refl)
line-kept (b ∷ bs) h = sym (append-nil (page_line (b ∷ bs)))

pub line-left : (l : List ℕ) → l ≡ [] → [] ≡ flat_map page_line (without_empty_last (l ∷ []))
line-left [] h = refl
line-left (b ∷ bs) h = absurd (cc)
