-- The entries of schedule tables, and tables, one by one.
use Rattle.std.proofs.Common.{◌≡◌, ◌∙◌, ◌+◌, ◌<◌, ℕ, List, [], ◌∷◌, ◌++◌, length, take, drop, get_or, add-one, append-nil, append_assoc, drop-cons, sym, ap}
use Rattle.std.specs.Prelude.{flat_map, zip}
use Rattle.std.proofs.lemmas.List.Concat.{flat_map-append}
use Rattle.lin_ldf.specs.Symbols.{Symbol}
use Rattle.lin_parts.specs.declared.description.TableEntry.{TableEntry}
use Rattle.lin_sections.specs.NewNames.{RenamesData}
use Rattle.lin_sections.specs.Passed.{behind_line}
use Rattle.lin_sections.specs.Things.{entry_facts, entry_fact, entry_word}
use Rattle.lin_sections.specs.declared.diff.fact.EntryFact.{EntryFact}
use Rattle.lin_sections.proofs.FactSteps.{pair-more}

-- an entry more, whose line was passed
pub entries-more : (r : RenamesData) (es : List TableEntry) (i : ℕ) (e : TableEntry) (line next : List Symbol) (x : EntryFact) (old new total : List EntryFact)
    → i < length es → e ≡ get_or es i e → next ≡ behind_line 0 line → x ≡ entry_fact (entry_word r e line) i e → new ≡ old ++ x ∷ []
    → old ++ entry_facts r i line (drop i es) ≡ total → new ++ entry_facts r (i + 1) next (drop (i + 1) es) ≡ total
entries-more r es i e line next x old new total lt is passed made added so_far =
    let rest : List EntryFact = entry_facts r (i + 1) (behind_line 0 line) (drop (i + 1) es) in
    let first : entry_facts r i line (drop i es) ≡ x ∷ rest =
    ap (entry_facts r i line) (drop-cons es i e lt ∙ (λ j. sym is j ∷ drop (sym (add-one i) j) es)) ∙ ap (λ (f : EntryFact). f ∷ rest) (sym made) in
    (λ j. added j ++ entry_facts r (i + 1) (passed j) (drop (i + 1) es))
    ∙ append_assoc old (x ∷ []) rest ∙ ap (λ fs. old ++ fs) (sym first) ∙ so_far

-- what is made of a pair more
pub pairs-more : {X Y Z : Type 0} (f : X × Y → List Z) (xs : List X) (ys : List Y) (i : ℕ) (x : X) (y : Y) (old new : List Z) → i < length xs → i < length ys
    → x ≡ get_or xs i x → y ≡ get_or ys i y → old ≡ flat_map f (take i (zip xs ys)) → new ≡ old ++ f (x, y) → new ≡ flat_map f (take (i + 1) (zip xs ys))
pairs-more f xs ys i x y old new lt few is are so here =
    here ∙ (λ j. so j ++ f (is j, are j))
    ∙ ap (λ zs. flat_map f (take i (zip xs ys)) ++ zs) (sym (append-nil (f (get_or xs i x, get_or ys i y))))
    ∙ sym (flat_map-append f (take i (zip xs ys)) ((get_or xs i x, get_or ys i y) ∷ []))
    ∙ ap (flat_map f) (sym (pair-more xs ys i x y lt few))
