-- Fields whose parameters are replaced, and the line to which their texts are added.
use Rattle.std.proofs.Common.{◌≡◌, ◌∙◌, ◌++◌, ◌==◌, ◌≤◌, ◌<◌, ℕ, List, [], ◌∷◌, true, false, Option, Result, Ok, Err, ap, append-nil, append_assoc, arith, flat_map, length, refl, sym, take}
use Rattle.std.specs.Prelude.{nat_le}
use Rattle.std.specs.Borrow.{Bor}
use Rattle.std.specs.List.{slice_split}
use Rattle.std.proofs.lemmas.Bool.Decides.{nat_tests}
use Rattle.std.proofs.lemmas.Grind.{flat_map-append}
use Rattle.std.proofs.lemmas.List.{length-take, take_all}
use Rattle.lin_log.specs.Words.{spaced_word}
use Rattle.lin_bench.specs.Fields.{◌>>=◌}
use Rattle.lin_bench.specs.LineWords.{fields_text}
use Rattle.lin_bench.specs.Read.{Fails}
use Rattle.lin_bench.specs.Replacing.{pieces_left}
use Rattle.lin_bench.specs.Resolved.{replaced_after_first, replaced_field, replaced_fields, replaced_piece, replaced_pieces, replaced_text, within_length, without_comments}
use Rattle.lin_bench.specs.declared.fault.LineFault.{LineFault}
use Rattle.lin_bench.specs.declared.fault.LineFault.TheVariants.{Bad, OutOfMemory}
use Rattle.lin_bench.specs.declared.parameters.GivenParameter.{GivenParameter}
use Rattle.lin_bench.specs.declared.parameters.Parameter.{Parameter}
use Rattle.lin_bench.specs.declared.reason.Reason.{Reason}
use Rattle.lin_bench.specs.declared.reason.Reason.TheVariants.{LongLine}
use Rattle.lin_bench.proofs.AddedTexts.{grown, twice}

abbrev text_before : List ℕ → Result (List ℕ) Reason → Result (List ℕ) Reason
text_before t r = r >>= (λ rest. Ok (t ++ rest))

abbrev texts_before : List (List ℕ) → Result (List (List ℕ)) Reason → Result (List (List ℕ)) Reason
texts_before ts r = r >>= (λ rest. Ok (ts ++ rest))

both-before : (t u : List ℕ) (r : Result (List ℕ) Reason) → text_before (t ++ u) r ≡ text_before t (text_before u r)
both-before t u (Ok rest) = ap Ok (append_assoc t u rest)
both-before t u (Err why) = refl

one-before : (ts : List (List ℕ)) (u : List ℕ) (r : Result (List (List ℕ)) Reason) → texts_before (ts ++ u ∷ []) r ≡ texts_before ts (r >>= (λ rest. Ok (u ∷ rest)))
one-before ts u (Ok rest) = ap Ok (append_assoc ts (u ∷ []) rest)
one-before ts u (Err why) = refl

none-before : (r : Result (List (List ℕ)) Reason) → texts_before [] r ≡ r
none-before (Ok rest) = refl
none-before (Err why) = refl

-- ---- the text of the fields
abbrev pub gap_after : List (List ℕ) → List ℕ
gap_after [] = []
gap_after (t ∷ ts) = 32 ∷ []

gap-after-one : (ts : List (List ℕ)) (u : List ℕ) → 32 ∷ [] ≡ gap_after (ts ++ u ∷ [])
gap-after-one [] u = refl
gap-after-one (t ∷ ts) u = refl

one-text-more : (ts : List (List ℕ)) (u : List ℕ) → fields_text ts ++ (gap_after ts ++ u) ≡ fields_text (ts ++ u ∷ [])
one-text-more [] u = sym (append-nil u)
one-text-more (t ∷ ts) u =
    append_assoc t (flat_map spaced_word ts) (32 ∷ u)
    ∙ ap (λ l. t ++ (flat_map spaced_word ts ++ l)) (sym (append-nil (32 ∷ u)))
    ∙ ap (λ l. t ++ l) (sym (flat_map-append spaced_word ts (u ∷ [])))

module _ (given : List GivenParameter) (sets : List Parameter) where
  -- ---- the pieces of a field
  -- what stands for the pieces of a field so far was added to a line; these are left
  abbrev pub AreAdded : List ℕ → List ℕ → List ℕ → List (List ℕ) → Type 0
  AreAdded field old now left =
      (t : List ℕ) × (now ≡ take 65537 (old ++ t)) × (text_before t (replaced_pieces given sets left) ≡ replaced_field given sets field)

  pub first-added : (field first old now : List ℕ) (rest : Option (Bor (List ℕ))) → slice_split (λ b. b == 36) field ≡ first ∷ pieces_left rest → now ≡ take 65537 (old ++ first)
      → AreAdded field old now (pieces_left rest)
  first-added field first old now rest e h = (first, h, sym (ap (replaced_after_first given sets) e))

  pub piece-added : (field old now new piece : List ℕ) (left : List (List ℕ)) → AreAdded field old now (piece ∷ left)
      → (u : List ℕ) × (replaced_piece given sets piece ≡ Ok u) × (new ≡ take 65537 (now ++ u)) → AreAdded field old new left
  piece-added field old now new piece left h k =
      let next : replaced_pieces given sets (piece ∷ left) ≡ text_before k.0 (replaced_pieces given sets left) =
      ap (λ (r : Result (List ℕ) Reason). r >>= (λ text. replaced_pieces given sets left >>= (λ rest. Ok (text ++ rest)))) k.1 in (
        h.0 ++ k.0,
        grown 65537 old h.0 k.0 k.0 now new refl h.1 k.2,
        both-before h.0 k.0 (replaced_pieces given sets left) ∙ ap (text_before h.0) (sym next) ∙ h.2,
      )

  pub piece-fails : (field old now piece : List ℕ) (left : List (List ℕ)) (e : LineFault) → AreAdded field old now (piece ∷ left)
      → Fails e (replaced_piece given sets piece) → Fails e (replaced_field given sets field)
  piece-fails field old now piece left (Bad why) h k =
      let next : replaced_pieces given sets (piece ∷ left) ≡ Err why =
      ap (λ (r : Result (List ℕ) Reason). r >>= (λ text. replaced_pieces given sets left >>= (λ rest. Ok (text ++ rest)))) k in
      sym h.2 ∙ ap (text_before h.0) next
  piece-fails field old now piece left OutOfMemory h k = tt

  pub all-added : (field old now : List ℕ) → AreAdded field old now [] → (t : List ℕ) × (replaced_field given sets field ≡ Ok t) × (now ≡ take 65537 (old ++ t))
  all-added field old now h = (h.0, sym h.2 ∙ ap Ok (append-nil h.0), h.1)

  -- ---- the fields of a line
  -- the texts of the fields so far were added to a line, behind gaps; these are left
  abbrev pub AreReplaced : List (List ℕ) → List ℕ → List ℕ → List (List ℕ) → Type 0
  AreReplaced fields now gap left =
      (ts : List (List ℕ)) × (now ≡ take 65537 (fields_text ts)) × (gap ≡ gap_after ts) × (texts_before ts (replaced_fields given sets left) ≡ replaced_fields given sets fields)

  pub none-replaced : (fields : List (List ℕ)) → AreReplaced fields [] [] fields
  none-replaced fields = ([], refl, refl, none-before (replaced_fields given sets fields))

  pub field-replaced : (fields left : List (List ℕ)) (now gap mid new field : List ℕ) → AreReplaced fields now gap (field ∷ left) → mid ≡ take 65537 (now ++ gap)
      → (u : List ℕ) × (replaced_field given sets field ≡ Ok u) × (new ≡ take 65537 (mid ++ u)) → AreReplaced fields new (32 ∷ []) left
  field-replaced fields left now gap mid new field h m k =
      let next : replaced_fields given sets (field ∷ left) ≡ (replaced_fields given sets left >>= (λ rest. Ok (k.0 ∷ rest))) =
      ap (λ (r : Result (List ℕ) Reason). r >>= (λ text. replaced_fields given sets left >>= (λ rest. Ok (text ∷ rest)))) k.1 in (
        h.0 ++ k.0 ∷ [],
        grown 65537 now gap k.0 k.0 mid new refl m k.2 ∙ ap (λ a. take 65537 (a ++ (gap ++ k.0))) h.1 ∙ twice 65537 (fields_text h.0) (gap ++ k.0)
            ∙ ap (λ g. take 65537 (fields_text h.0 ++ (g ++ k.0))) h.2 ∙ ap (take 65537) (one-text-more h.0 k.0),
        gap-after-one h.0 k.0,
        one-before h.0 k.0 (replaced_fields given sets left) ∙ ap (texts_before h.0) (sym next) ∙ h.3,
      )

  fails-all : (fields left : List (List ℕ)) (now gap field : List ℕ) (why : Reason) → AreReplaced fields now gap (field ∷ left)
      → replaced_field given sets field ≡ Err why → replaced_fields given sets fields ≡ Err why
  fails-all fields left now gap field why h k =
      let next : replaced_fields given sets (field ∷ left) ≡ Err why =
      ap (λ (r : Result (List ℕ) Reason). r >>= (λ text. replaced_fields given sets left >>= (λ rest. Ok (text ∷ rest)))) k in
      sym h.3 ∙ ap (texts_before h.0) next

  pub field-fails : (fields left : List (List ℕ)) (now gap field : List ℕ) (e : LineFault) → AreReplaced fields now gap (field ∷ left)
      → Fails e (replaced_field given sets field) → Fails e (replaced_text given sets fields)
  field-fails fields left now gap field (Bad why) h k = ap (λ (r : Result (List (List ℕ)) Reason). r >>= (λ texts. within_length (fields_text texts))) (fails-all fields left now gap field why h k)
  field-fails fields left now gap field OutOfMemory h k = tt

  -- ---- the whole line
  whole-text : (fields : List (List ℕ)) (now gap : List ℕ) (h : AreReplaced fields now gap []) → replaced_text given sets fields ≡ within_length (fields_text h.0)
  whole-text fields now gap h =
      ap (λ (r : Result (List (List ℕ)) Reason). r >>= (λ texts. within_length (fields_text texts))) (sym h.3 ∙ ap Ok (append-nil h.0))

  pub line-too-long : (fields : List (List ℕ)) (now gap : List ℕ) → AreReplaced fields now gap [] → 65536 < length now → replaced_text given sets fields ≡ Err LongLine
  line-too-long fields now gap h long =
      let text = fields_text h.0 in
      let kept = ap length h.1 in
      let most = length-take 65537 text in
      let more : 65536 < length text = omega (arith, kept, most, long) in
      let no : nat_le (length text) 65536 ≡ false = grind (arith, nat_tests) in
      whole-text fields now gap h ∙ rw no refl

  pub line-fits : (fields : List (List ℕ)) (now gap : List ℕ) → AreReplaced fields now gap [] → length now ≤ 65536 → replaced_text given sets fields ≡ without_comments now
  line-fits fields now gap h short =
      let text = fields_text h.0 in
      let kept = ap length h.1 in
      let most = length-take 65537 text in
      let fits : length text ≤ 65536 = omega (arith, kept, most, short) in
      let yes : nat_le (length text) 65536 ≡ true = grind (arith, nat_tests) in
      whole-text fields now gap h ∙ rw yes refl ∙ ap without_comments (sym (h.1 ∙ take_all 65537 text (omega (arith, fits))))
