-- Tests in which nothing is expected.
use Rattle.std.proofs.Common.{◌≡◌, ◌∙◌, ◌+◌, ◌<◌, ℕ, Bool, true, false, List, [], ◌∷◌, ◌++◌, append_assoc, not, refl, sym, ap, drop, length, slice_index_or, take}
use Rattle.std.specs.Prelude.{is_some}
use Rattle.std.proofs.lemmas.List.{drop_more, map-append, take_more}
use Rattle.std.proofs.lemmas.List.Sums.{take_while-cons}
use Rattle.lin_bench.specs.Made.{expects}
use Rattle.lin_bench.specs.Played.{nothing_expected}
use Rattle.lin_bench.specs.Strict.{begins_test, expects_something, lines_of_test}
use Rattle.lin_bench.specs.declared.got.Judged.TheVariants.{NothingExpected}
use Rattle.lin_bench.specs.declared.got.Judgement.{Judgement}
use Rattle.lin_bench.specs.declared.line.ScriptLine.{ScriptLine}
use Rattle.lin_bench.specs.declared.place.LinePlace.{LinePlace}

abbrev is_within : LinePlace × ScriptLine → Bool
is_within l = not (begins_test l.1)

-- a test ends with the line that begins another one
pub test-over : (l : LinePlace × ScriptLine) (ls : List (LinePlace × ScriptLine)) → begins_test l.1 ≡ true → expects_something (lines_of_test (l ∷ ls)) ≡ false
test-over l ls b = ap expects_something (take_while-cons is_within l ls) ∙ rw b refl

-- a line of it expects something
pub test-expects : (l : LinePlace × ScriptLine) (ls : List (LinePlace × ScriptLine)) → begins_test l.1 ≡ false → is_some (expects l.1) ≡ true
    → expects_something (lines_of_test (l ∷ ls)) ≡ true
test-expects l ls b e = ap expects_something (take_while-cons is_within l ls) ∙ rw (b, e) refl

-- or doesn't
pub test-goes-on : (l : LinePlace × ScriptLine) (ls : List (LinePlace × ScriptLine)) → begins_test l.1 ≡ false → is_some (expects l.1) ≡ false
    → expects_something (lines_of_test (l ∷ ls)) ≡ expects_something (lines_of_test ls)
test-goes-on l ls b e = ap expects_something (take_while-cons is_within l ls) ∙ rw (b, e) refl

-- the line at an index, and those after it
pub line-at : (ls : List (LinePlace × ScriptLine)) (i : ℕ) (l : LinePlace × ScriptLine) → l ≡ slice_index_or ls i l → i < length ls → drop i ls ≡ l ∷ drop (i + 1) ls
line-at ls i l is lt = drop_more ls i l lt ∙ ap (λ y. y ∷ drop (i + 1) ls) (sym is)

-- one judgement more that nothing is expected
abbrev pub on_silent : ℕ → LinePlace → Judgement
on_silent n p = record { place = p; entries = n; judged = NothingExpected }

silent-next : (n : ℕ) (ps : List LinePlace) (i : ℕ) (d : LinePlace) → i < length ps
    → nothing_expected n (take (i + 1) ps) ≡ nothing_expected n (take i ps) ++ on_silent n (slice_index_or ps i d) ∷ []
silent-next n ps i d lt =
    ap (nothing_expected n) (take_more ps i d lt) ∙ map-append (on_silent n) (take i ps) (slice_index_or ps i d ∷ [])

pub silent-more : (old js new : List Judgement) (n : ℕ) (ps : List LinePlace) (i : ℕ) (d : LinePlace) → i < length ps
    → js ≡ old ++ nothing_expected n (take i ps) → new ≡ js ++ on_silent n (slice_index_or ps i d) ∷ [] → new ≡ old ++ nothing_expected n (take (i + 1) ps)
silent-more old js new n ps i d lt h k =
    k ∙ ap (λ l. l ++ on_silent n (slice_index_or ps i d) ∷ []) h ∙ append_assoc old (nothing_expected n (take i ps)) (on_silent n (slice_index_or ps i d) ∷ [])
    ∙ ap (λ l. old ++ l) (sym (silent-next n ps i d lt))
