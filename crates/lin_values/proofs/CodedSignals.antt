-- The encodings of signals, and all that is wrong, in any order.
use Rattle.std.proofs.Common.{◌≡◌, cond, List, [], ◌∷◌, ◌++◌, map, refl, sym, subst, ap, ◌∙◌, append_assoc, append-nil, ℕ}
use Rattle.std.specs.Prelude.{Option, Some, None, find, flat_map, option_and_then, IsPermutation}
use Rattle.std.specs.List.{list_any}
use Rattle.std.specs.Option.{option_map, option_map_or}
use Rattle.std.proofs.lemmas.List.Sorted.{IsPermutation-refl, IsPermutation-append, IsPermutation-append_comm, IsPermutation-append_left, IsPermutation-append_right, IsPermutation-trans}
use Rattle.indexmap.specs.IndexMap.{IndexMap}
use Rattle.lin_cluster.specs.FindingsNames.{at_name, at_place}
use Rattle.lin_cluster.specs.declared.finding.Finding.{Finding}
use Rattle.lin_cluster.specs.declared.finding.FindingKind.TheVariants as finding
use Rattle.lin_parts.specs.declared.parts.Parts.{Parts}
use Rattle.lin_parts.specs.declared.parts.Signal.{Signal}
use Rattle.lin_parts.specs.declared.description.Name.{Name}
use Rattle.lin_parts.specs.declared.place.Location.{Location}
use Rattle.lin_values.proofs.NamedLines.{known-same, named-found}
use Rattle.lin_values.specs.Coded.{encoding_by, is_named, named_in, signal_coding, type_named}
use Rattle.lin_values.specs.Gathered.{encoding_in, gathered_warnings, lines_of, lines_told, names_of, signal_in, type_at, type_number, AreNamed}
use Rattle.lin_values.specs.Kept.{kept_signal}
use Rattle.lin_values.specs.Warnings.{item_warnings, representation_warnings, name_warnings, signal_by_name, told_by, type_warning, encoding_warnings}
use Rattle.lin_values.specs.declared.codings.CodedLine.{CodedLine}
use Rattle.lin_values.specs.declared.codings.CodingType.{CodingType}
use Rattle.lin_values.specs.declared.codings.Codings.{Codings}
use denote.Ref.{Bor}

-- ---- the encoding of each signal

encoding-same : (ts : List CodingType) (o : Option (Name × Name)) → type_at ts (option_and_then (λ e. e) (option_map (λ p. type_number ts p.1) o)) ≡ option_and_then (λ p. type_named ts p.1) o
encoding-same ts None = refl
encoding-same ts (Some p) = named-found ts p.1

kept-same : {S : Type 0} (wide : List Name) (ts : List CodingType) (ls : List CodedLine) (m : IndexMap (Bor (List ℕ)) (Option ℕ) S) → AreNamed ts (named_in ls) m → (s : Signal) → kept_signal ts (signal_in wide m s) ≡ signal_coding (lines_of wide ts ls) s
kept-same wide ts ls m named s =
    let e : type_at ts (encoding_in m s.name) ≡ encoding_by (lines_of wide ts ls) s =
    ap (λ o. type_at ts (option_and_then (λ e. e) o)) (named s.name) ∙ encoding-same ts (find (is_named s.name) (named_in ls)) in
    ap (λ o. record (signal_coding (lines_of wide ts ls) s) { encoding = o }) e

pub kept-all : {S : Type 0} (wide : List Name) (ts : List CodingType) (ls : List CodedLine) (m : IndexMap (Bor (List ℕ)) (Option ℕ) S) (ss : List Signal) → AreNamed ts (named_in ls) m → map (kept_signal ts) (map (signal_in wide m) ss) ≡ map (signal_coding (lines_of wide ts ls)) ss
kept-all wide ts ls m [] named = refl
kept-all wide ts ls m (s ∷ ss) named = λ i. kept-same wide ts ls m named s i ∷ kept-all wide ts ls m ss named i

-- ---- what is wrong, in another order

told-append : {X : Type 0} (tell : List X → X → List Finding) (before xs ys : List X) → told_by tell before (xs ++ ys) ≡ told_by tell before xs ++ told_by tell (before ++ xs) ys
told-append tell before [] ys = ap (λ b. told_by tell b ys) (sym (append-nil before))
told-append tell before (x ∷ xs) ys =
    ap (λ fs. tell before x ++ fs) (told-append tell (before ++ x ∷ []) xs ys ∙ ap (λ b. told_by tell (before ++ x ∷ []) xs ++ told_by tell b ys) (append_assoc before (x ∷ []) xs))
    ∙ sym (append_assoc (tell before x) (told_by tell (before ++ x ∷ []) xs) (told_by tell (before ++ x ∷ xs) ys))

told-same : {X : Type 0} (tell other : List X → X → List Finding) (before xs : List X) → ((b : List X) (x : X) → tell b x ≡ other b x) → told_by tell before xs ≡ told_by other before xs
told-same tell other before [] same = refl
told-same tell other before (x ∷ xs) same = λ i. same before x i ++ told-same tell other (before ++ x ∷ []) xs same i

middle-moved : (a b c d : List Finding) → IsPermutation ((a ++ b) ++ (c ++ d)) ((a ++ c) ++ (b ++ d))
middle-moved a b c d =
    let from : (a ++ b) ++ (c ++ d) ≡ a ++ ((b ++ c) ++ d) = append_assoc a b (c ++ d) ∙ ap (λ x. a ++ x) (sym (append_assoc b c d)) in
    let to : (a ++ c) ++ (b ++ d) ≡ a ++ ((c ++ b) ++ d) = append_assoc a c (b ++ d) ∙ ap (λ x. a ++ x) (sym (append_assoc c b d)) in
    let moved = IsPermutation-append_right a ((b ++ c) ++ d) ((c ++ b) ++ d) (IsPermutation-append_left d (b ++ c) (c ++ b) (IsPermutation-append_comm b c)) in
    subst (λ z. IsPermutation z ((a ++ c) ++ (b ++ d))) (sym from) (subst (λ z. IsPermutation (a ++ ((b ++ c) ++ d)) z) (sym to) moved)

lines-moved : (c : Parts) (wide : List Name) (ts : List CodingType) (before : List (Name × Name)) (ls : List CodedLine) → IsPermutation (flat_map (representation_warnings (lines_of wide ts [])) ls ++ told_by (name_warnings c (lines_of wide ts [])) before (named_in ls)) (lines_told c wide ts before ls)
lines-moved c wide ts before [] = IsPermutation-refl []
lines-moved c wide ts before (l ∷ ls) =
    let tell : List (Name × Name) → Name × Name → List Finding = name_warnings c (lines_of wide ts []) in
    let first : List Finding = representation_warnings (lines_of wide ts []) l in
    let firsts : List Finding = flat_map (representation_warnings (lines_of wide ts [])) ls in
    let here : List Finding = told_by tell before (names_of l) in
    let rest : List Finding = told_by tell (before ++ names_of l) (named_in ls) in
    let moved : IsPermutation ((first ++ firsts) ++ (here ++ rest)) ((first ++ here) ++ (firsts ++ rest)) = middle-moved first firsts here rest in
    let more : IsPermutation ((first ++ here) ++ (firsts ++ rest)) ((first ++ here) ++ lines_told c wide ts (before ++ names_of l) ls) = IsPermutation-append_right (first ++ here) (firsts ++ rest) (lines_told c wide ts (before ++ names_of l) ls) (lines-moved c wide ts (before ++ names_of l) ls) in
    subst (λ z. IsPermutation ((first ++ firsts) ++ z) ((first ++ here) ++ lines_told c wide ts (before ++ names_of l) ls)) (sym (told-append tell before (names_of l) (named_in ls)))
    (IsPermutation-trans ((first ++ firsts) ++ (here ++ rest)) ((first ++ here) ++ (firsts ++ rest)) ((first ++ here) ++ lines_told c wide ts (before ++ names_of l) ls) moved more)

name-alike : (c : Parts) (k : Codings) (before : List (Name × Name)) (p : Name × Name) → name_warnings c k before p ≡ name_warnings c (lines_of k.wide k.types []) before p
name-alike c k before p =
    ap (λ (f : Signal → List Finding). option_map_or f (signal_by_name c p.0) (at_name finding.UnknownSignal p.0 ∷ []))
    (λ i s. cond (list_any (is_named p.0.text) before) (at_name finding.RepresentedTwice p.0 ∷ []) ((sym (known-same k p.0 (type_named k.types p.1) s) ∙ known-same (lines_of k.wide k.types []) p.0 (type_named k.types p.1) s) i))

pub warnings-moved : (c : Parts) (k : Codings) → IsPermutation (encoding_warnings c k) ((map (at_place finding.BadEncoding) k.bad ++ flat_map (λ t. item_warnings t.items) k.types) ++ gathered_warnings c k.wide k.types k.lines)
warnings-moved c k =
    let bad : List Finding = map (at_place finding.BadEncoding) k.bad in
    let twice : List Finding = told_by type_warning [] k.types in
    let items : List Finding = flat_map (λ (t : CodingType). item_warnings t.items) k.types in
    let lines : List Finding = flat_map (representation_warnings (lines_of k.wide k.types [])) k.lines in
    let told : List Finding = lines_told c k.wide k.types [] k.lines in
    let names : told_by (name_warnings c k) [] (named_in k.lines) ≡ told_by (name_warnings c (lines_of k.wide k.types [])) [] (named_in k.lines) = told-same (name_warnings c k) (name_warnings c (lines_of k.wide k.types [])) [] (named_in k.lines) (name-alike c k) in
    let moved : IsPermutation (lines ++ told_by (name_warnings c k) [] (named_in k.lines)) told = subst (λ z. IsPermutation (lines ++ z) told) (sym names) (lines-moved c k.wide k.types [] k.lines) in
    let all = IsPermutation-append_right bad ((twice ++ items) ++ (lines ++ told_by (name_warnings c k) [] (named_in k.lines))) ((items ++ twice) ++ told) (IsPermutation-append (twice ++ items) (items ++ twice) (lines ++ told_by (name_warnings c k) [] (named_in k.lines)) told (IsPermutation-append_comm twice items) moved) in
    subst (λ z. IsPermutation (bad ++ ((twice ++ items) ++ (lines ++ told_by (name_warnings c k) [] (named_in k.lines)))) z) (ap (λ x. bad ++ x) (append_assoc items twice told) ∙ sym (append_assoc bad items (twice ++ told))) all

pub gathered : (c lent : Parts) (wide names : List Name) (ts types : List CodingType) (ls : List CodedLine) (first between now : List Finding) → types ≡ ts → lent ≡ c → names ≡ wide → between ≡ first ++ told_by type_warning [] types → now ≡ between ++ lines_told lent names types [] ls → now ≡ first ++ gathered_warnings c wide ts ls
gathered c lent wide names ts types ls first between now same parts lent-names so here =
    here ∙ ap (λ fs. fs ++ lines_told lent names types [] ls) so
    ∙ append_assoc first (told_by type_warning [] types) (lines_told lent names types [] ls)
    ∙ (λ i. first ++ (told_by type_warning [] (same i) ++ lines_told (parts i) (lent-names i) (same i) [] ls))

pub all-moved : (c : Parts) (k : Codings) (bad : List Location) (wide : List Name) (types : List CodingType) (lines : List CodedLine) (none one two three sorted made : List Finding) → none ≡ [] → bad ≡ k.bad → one ≡ none ++ map (at_place finding.BadEncoding) bad → two ≡ one ++ flat_map (λ t. item_warnings t.items) k.types → wide ≡ k.wide → types ≡ k.types → lines ≡ k.lines → three ≡ two ++ gathered_warnings c wide types lines → IsPermutation three sorted → made ≡ sorted → IsPermutation (encoding_warnings c k) made
all-moved c k bad wide types lines none one two three sorted made empty bads first items names same lent last moved is =
    let whole : three ≡ (map (at_place finding.BadEncoding) k.bad ++ flat_map (λ (t : CodingType). item_warnings t.items) k.types) ++ gathered_warnings c k.wide k.types k.lines =
    last ∙ (λ i. items i ++ gathered_warnings c (names i) (same i) (lent i))
    ∙ ap (λ fs. (fs ++ flat_map (λ (t : CodingType). item_warnings t.items) k.types) ++ gathered_warnings c k.wide k.types k.lines) (first ∙ (λ i. empty i ++ map (at_place finding.BadEncoding) (bads i))) in
    subst (IsPermutation (encoding_warnings c k)) (sym is)
    (IsPermutation-trans (encoding_warnings c k) three sorted (subst (IsPermutation (encoding_warnings c k)) (sym whole) (warnings-moved c k)) moved)
