-- What names are found by, line by line.
use Rattle.std.proofs.Common.{◌≡◌, ◌<◌, ◌≤◌, ◌+◌, ℕ, zero, suc, Bool, true, false, cond, not, ◌&&◌, ◌||◌, ◌==◌, ◌%◌, List, [], ◌∷◌, ◌++◌, map, length, take, get_or, refl, sym, ap, ◌∙◌, inl, inr, arith, add-one, append_assoc, append-nil}
use Rattle.std.specs.Prelude.{Option, Some, None, find, filter, is_some, nat_lt, option_and_then, position, slice_index_or}
use Rattle.std.specs.List.{list_any, position_from, position_or_len}
use Rattle.std.specs.Option.{option_map, option_map_or, option_or}
use Rattle.std.specs.Str.{bytes_eq}
use Rattle.std.proofs.lemmas.Bool.{cases_lt, le-ltb, lt-ltb}
use Rattle.std.proofs.lemmas.Iterator.Adapters.{position_from-zero}
use Rattle.std.proofs.lemmas.List.{map_more, take-map, take_all, take_more}
use Rattle.std.proofs.lemmas.List.Concat.{flat_map-append}
use Rattle.std.proofs.lemmas.List.Folds.{find-append}
use Rattle.lin_cluster.specs.FindingsNames.{at_name, same_name, when}
use Rattle.lin_cluster.specs.declared.finding.Finding.{Finding}
use Rattle.lin_cluster.specs.declared.finding.FindingKind.TheVariants as finding
use Rattle.lin_parts.specs.declared.parts.Parts.{Parts}
use Rattle.lin_parts.specs.declared.parts.Signal.{Signal}
use Rattle.lin_parts.specs.declared.description.Name.{Name}
use Rattle.lin_values.proofs.ItemSteps.{some-from, told-more, told-step}
use Rattle.lin_values.proofs.ItemTraits.{AreTraits, other, same-itself, second_of}
use Rattle.lin_values.specs.Coded.{all_codings, first_of, is_named, named_in, same_coding, type_named}
use Rattle.lin_values.specs.Gathered.{kind_told, line_told, lines_of, lines_told, name_told, names_of, told_of_kind, type_at, type_number, signal_without_coding}
use Rattle.lin_values.specs.Traits.{has_coding, is_coding}
use Rattle.lin_values.specs.Warnings.{greatest_number, has_numbers, known_warnings, representation_warnings, name_warnings, signal_by_name, told_by, type_warning}
use Rattle.lin_values.specs.declared.coded.CodedSignal.{CodedSignal}
use Rattle.lin_values.specs.declared.encoding.Coding.{Coding}
use Rattle.lin_values.specs.declared.encoding.Coding.TheVariants as codings
use Rattle.lin_values.specs.declared.encoding.Traits.{Traits}
use Rattle.lin_values.specs.declared.codings.CodedLine.{CodedLine}
use Rattle.lin_values.specs.declared.codings.CodingType.{CodingType}
use Rattle.lin_values.specs.declared.codings.Codings.{Codings}

-- ---- what the first of some is

map-or : {A B : Type 0} (f : A → B) (a b : Option A) → option_map f (option_or a b) ≡ option_or (option_map f a) (option_map f b)
map-or f None b = refl
map-or f (Some x) b = refl

one-found : {A B : Type 0} (f : A → B) (b : Bool) (x : A) → option_map f (cond b (Some x) None) ≡ cond b (Some (f x)) None
one-found f true x = refl
one-found f false x = refl

pub found-push : {A B : Type 0} (f : A → B) (p : A → Bool) (xs : List A) (x : A) (v : B) (b : Bool) (old new : Option B) → v ≡ f x → b ≡ p x → old ≡ option_map f (find p xs) → new ≡ option_or old (cond b (Some v) None) → new ≡ option_map f (find p (xs ++ x ∷ []))
found-push f p xs x v b old new is passes so here =
    here ∙ (λ i. option_or (so i) (cond (passes i) (Some (is i)) None))
    ∙ ap (option_or (option_map f (find p xs))) (sym (one-found f (p x) x))
    ∙ sym (map-or f (find p xs) (find p (x ∷ [])))
    ∙ ap (option_map f) (sym (find-append p xs (x ∷ [])))

pub found-more : {A B : Type 0} (f : A → B) (p : A → Bool) (xs : List A) (i : ℕ) (d : A) (v : B) (b : Bool) (old new : Option B) → i < length xs → v ≡ f (get_or xs i d) → b ≡ p (get_or xs i d) → old ≡ option_map f (find p (take i xs)) → new ≡ option_or old (cond b (Some v) None) → new ≡ option_map f (find p (take (i + 1) xs))
found-more f p xs i d v b old new lt is passes so here =
    found-push f p (take i xs) (get_or xs i d) v b old new is passes so here ∙ ap (λ ys. option_map f (find p ys)) (sym (take_more xs i d lt))

pub pushed-more : {A B : Type 0} (f : A → B) (xs : List A) (i : ℕ) (d : A) (v : B) (old new : List B) → i < length xs → v ≡ f (get_or xs i d) → old ≡ map f (take i xs) → new ≡ old ++ v ∷ [] → new ≡ map f (take (i + 1) xs)
pushed-more f xs i d v old new lt is so here = here ∙ (λ j. so j ++ is j ∷ []) ∙ sym (map_more f xs i d lt)

-- ---- the kind of a signal

same-turned : (a b : Coding) → same_coding a b ≡ same_coding b a
same-turned codings.Bcd codings.Bcd = refl
same-turned codings.Bcd codings.Ascii = refl
same-turned codings.Ascii codings.Bcd = refl
same-turned codings.Ascii codings.Ascii = refl

has-other : (f c : Coding) (cs : List Coding) → (same_coding f c || is_coding (first_of (filter (other f) cs)) c) ≡ (same_coding c f || list_any (same_coding c) cs)
has-other codings.Bcd codings.Bcd cs = refl
has-other codings.Ascii codings.Ascii cs = refl
has-other codings.Bcd codings.Ascii [] = refl
has-other codings.Bcd codings.Ascii (codings.Bcd ∷ cs) = has-other codings.Bcd codings.Ascii cs
has-other codings.Bcd codings.Ascii (codings.Ascii ∷ cs) = refl
has-other codings.Ascii codings.Bcd [] = refl
has-other codings.Ascii codings.Bcd (codings.Ascii ∷ cs) = has-other codings.Ascii codings.Bcd cs
has-other codings.Ascii codings.Bcd (codings.Bcd ∷ cs) = refl

has-both : (c : Coding) (cs : List Coding) → (is_coding (first_of cs) c || is_coding (second_of cs) c) ≡ list_any (same_coding c) cs
has-both c [] = refl
has-both c (f ∷ fs) =
    ap (λ b. same_coding f c || is_coding (first_of (cond (not b) (f ∷ filter (other f) fs) (filter (other f) fs))) c) (same-itself f)
    ∙ has-other f c fs

has-any : (t : Traits) (cs : List Coding) (c : Coding) → t.first ≡ first_of cs → t.second ≡ second_of cs → has_coding t c ≡ list_any (same_coding c) cs
has-any t cs c first second = (λ i. is_coding (first i) c || is_coding (second i) c) ∙ has-both c cs

pub kind-same : (t : CodingType) (o : Option CodingType) (r : Traits) (s : CodedSignal) (n : Name) → Some t ≡ o → AreTraits r t.items → told_of_kind r s n ≡ kind_told o s n
kind-same t o r s n is are =
    let bcd = has-any r (all_codings t.items) codings.Bcd are.first are.second in
    let ascii = has-any r (all_codings t.items) codings.Ascii are.first are.second in
    (λ i.
    when (has_numbers s.is_array s.is_wide && (are.numeric i && nat_lt (greatest_number s.bits s.is_wide) (are.greatest i))) (at_name finding.ValueOutside n)
    ++ when (cond (s.is_array && not s.is_wide) (are.numeric i) ((bcd i && not (s.bits % 4 == 0)) || (ascii i && not (s.bits % 8 == 0)))) (at_name finding.KindOfSignal n))
    ∙ ap (λ p. kind_told p s n) is

-- ---- types whose name an earlier one has

next-below : (n i : ℕ) → nat_lt (1 + n) (suc i) ≡ nat_lt n i
next-below n i = elim (cases_lt n i) as (λ _. nat_lt (1 + n) (suc i) ≡ nat_lt n i) [
  | inl lt ↦ lt-ltb (1 + n) (suc i) (omega arith) ∙ sym (lt-ltb n i lt)
  | inr le ↦ le-ltb (1 + n) (suc i) (omega arith) ∙ sym (le-ltb n i le)
]

pub first-below : {X : Type 0} (p : X → Bool) (xs : List X) (i : ℕ) → i ≤ length xs → nat_lt (position_or_len p xs) i ≡ list_any p (take i xs)
first-below p xs zero le = le-ltb (position_or_len p xs) 0 (omega arith)
first-below p [] (suc i) le = absurd (omega arith)
first-below p (x ∷ xs) (suc i) le =
    elim (p x) as (λ b. nat_lt (cond (not b) (1 + position_or_len p xs) 0) (suc i) ≡ (b || list_any p (take i xs))) [
      | true ↦ lt-ltb 0 (suc i) (omega arith)
      | false ↦ next-below (position_or_len p xs) i ∙ first-below p xs i (omega arith)
    ]

pub twice-step : (ts lent : List CodingType) (i : ℕ) (t : CodingType) (number : ℕ) (name : Name) (first old now : List Finding) → lent ≡ ts → i < length lent → t ≡ get_or lent i t → name ≡ t.name → number ≡ position_or_len (λ x. same_name x.name name) lent → old ≡ first ++ told_by type_warning [] (take i ts) → now ≡ old ++ when (nat_lt number i) (at_name finding.EncodingTwice name) → now ≡ first ++ told_by type_warning [] (take (i + 1) ts)
twice-step ts lent i t number name first old now same lt is of at so here =
    let told : when (nat_lt number i) (at_name finding.EncodingTwice name) ≡ type_warning (take i lent) t =
    (λ j. when (nat_lt (at j) i) (at_name finding.EncodingTwice name))
    ∙ ap (λ b. when b (at_name finding.EncodingTwice name)) (first-below (λ (x : CodingType). same_name x.name name) lent i (omega arith))
    ∙ ap (λ (n : Name). when (list_any (λ (x : CodingType). same_name x.name n) (take i lent)) (at_name finding.EncodingTwice n)) of in
    let so-far : old ≡ first ++ told_by type_warning [] (take i lent) = so ∙ ap (λ l. first ++ told_by type_warning [] (take i l)) (sym same) in
    told-step type_warning lent i t first old now (when (nat_lt number i) (at_name finding.EncodingTwice name)) lt is so-far here told
    ∙ ap (λ l. first ++ told_by type_warning [] (take (i + 1) l)) same

-- ---- lines

some-found : {X : Type 0} (p : X → Bool) (xs : List X) → is_some (find p xs) ≡ list_any p xs
some-found p [] = refl
some-found p (x ∷ xs) =
    elim (p x) as (λ b. is_some (cond b (Some x) (find p xs)) ≡ (b || list_any p xs)) [
      | true ↦ refl
      | false ↦ some-found p xs
    ]

-- the item with the number that was found
abbrev at-number : {X : Type 0} → List X → ℕ → Option X
at-number {X} xs n = slice_index_or (map (λ (x : X). Some x) xs) n None

next-at : {X : Type 0} (x : X) (xs ys : List X) (p : X → Bool) (k : ℕ) → option_and_then (at-number (x ∷ xs)) (position_from p (k + 1) ys) ≡ option_and_then (at-number xs) (position_from p k ys)
next-at x xs [] p k = refl
next-at x xs (y ∷ ys) p k =
    elim (p y) as (λ b. option_and_then (at-number (x ∷ xs)) (cond b (Some (k + 1)) (position_from p (k + 1 + 1) ys)) ≡ option_and_then (at-number xs) (cond b (Some k) (position_from p (k + 1) ys))) [
      | true ↦ ap (at-number (x ∷ xs)) (add-one k)
      | false ↦ next-at x xs ys p (k + 1)
    ]

item-found : {X : Type 0} (p : X → Bool) (xs : List X) → option_and_then (at-number xs) (position_from p 0 xs) ≡ find p xs
item-found p [] = refl
item-found p (x ∷ xs) =
    elim (p x) as (λ b. option_and_then (at-number (x ∷ xs)) (cond b (Some 0) (position_from p 1 xs)) ≡ cond b (Some x) (find p xs)) [
      | true ↦ refl
      | false ↦ next-at x xs xs p 0 ∙ item-found p xs
    ]

-- whether a map from names to numbers has a name
pub is-among : (wide : List Name) (q : List ℕ) → is_some (position_from (λ (n : Name). bytes_eq n.text q) 0 wide) ≡ list_any (λ (n : Name). bytes_eq n.text q) wide
is-among wide q = some-from (λ (n : Name). bytes_eq n.text q) 0 wide

pub some-number : {X : Type 0} (p : X → Bool) (xs : List X) → is_some (position p xs) ≡ is_some (find p xs)
some-number p xs = ap is_some (position_from-zero p xs) ∙ some-from p 0 xs ∙ sym (some-found p xs)

pub named-found : (ts : List CodingType) (n : Name) → type_at ts (type_number ts n) ≡ type_named ts n
named-found ts n = ap (type_at ts) (position_from-zero (λ (t : CodingType). same_name t.name n) ts) ∙ item-found (λ (t : CodingType). same_name t.name n) ts

map-some : {A B : Type 0} (f : A → B) (o : Option A) → is_some (option_map f o) ≡ is_some o
map-some f None = refl
map-some f (Some x) = refl

turned : {A : Type 0} (b : Bool) (x y : A) → cond (not b) x y ≡ cond b y x
turned true x y = refl
turned false x y = refl

pub known-same : (k : Codings) (n : Name) (o : Option CodingType) (s : Signal) → kind_told o (signal_without_coding k.wide s) n ≡ known_warnings k n o s
known-same k n None s = refl
known-same k n (Some t) s = refl

-- what is told of a name by those before it
tell-same : (c : Parts) (wide : List Name) (ts : List CodingType) (before : List (Name × Name)) (p : Name × Name) (o : Option Signal) (t : Option CodingType) (is_first : Bool) → is_first ≡ not (list_any (is_named p.0.text) before) → t ≡ type_named ts p.1 → name_told wide is_first t p.0 o ≡ option_map_or (λ s. cond (list_any (is_named p.0.text) before) (at_name finding.RepresentedTwice p.0 ∷ []) (kind_told (type_named ts p.1) (signal_without_coding wide s) p.0)) o (at_name finding.UnknownSignal p.0 ∷ [])
tell-same c wide ts before p None t is_first is of = refl
tell-same c wide ts before p (Some s) t is_first is of =
    (λ i. cond (is i) (kind_told (of i) (signal_without_coding wide s) p.0) (at_name finding.RepresentedTwice p.0 ∷ []))
    ∙ turned (list_any (is_named p.0.text) before) (kind_told (type_named ts p.1) (signal_without_coding wide s) p.0) (at_name finding.RepresentedTwice p.0 ∷ [])

pub name-same : (c : Parts) (wide : List Name) (ts : List CodingType) (before : List (Name × Name)) (p : Name × Name) (t : Option CodingType) (is_first : Bool) → is_first ≡ not (list_any (is_named p.0.text) before) → t ≡ type_named ts p.1 → name_told wide is_first t p.0 (signal_by_name c p.0) ≡ name_warnings c (lines_of wide ts []) before p
name-same c wide ts before p t is_first is of =
    tell-same c wide ts before p (signal_by_name c p.0) t is_first is of
    ∙ ap (λ (f : Signal → List Finding). option_map_or f (signal_by_name c p.0) (at_name finding.UnknownSignal p.0 ∷ [])) (λ i s. cond (list_any (is_named p.0.text) before) (at_name finding.RepresentedTwice p.0 ∷ []) (known-same (lines_of wide ts []) p.0 (type_named ts p.1) s i))

-- one name more
pub name-step : (c : Parts) (wide : List Name) (ts : List CodingType) (before done : List (Name × Name)) (p : Name × Name) (number : Option ℕ) (is_first : Bool) (there : Option (Option ℕ)) (head first old now : List Finding) → number ≡ type_number ts p.1 → is_first ≡ not (is_some there) → there ≡ option_map (λ q. type_number ts q.1) (find (is_named p.0.text) (before ++ done)) → old ≡ first ++ (head ++ told_by (name_warnings c (lines_of wide ts [])) before done) → now ≡ old ++ name_told wide is_first (type_at ts number) p.0 (signal_by_name c p.0) → now ≡ first ++ (head ++ told_by (name_warnings c (lines_of wide ts [])) before (done ++ p ∷ []))
name-step c wide ts before done p number is_first there head first old now is is-first found so here =
    let seen : is_first ≡ not (list_any (is_named p.0.text) (before ++ done)) = is-first ∙ ap (λ o. not (is_some o)) found ∙ ap not (map-some (λ (q : Name × Name). type_number ts q.1) (find (is_named p.0.text) (before ++ done)) ∙ some-found (is_named p.0.text) (before ++ done)) in
    let told = name-same c wide ts (before ++ done) p (type_at ts number) is_first seen (ap (type_at ts) is ∙ named-found ts p.1) in
    here ∙ (λ i. so i ++ told i)
    ∙ append_assoc first (head ++ told_by (name_warnings c (lines_of wide ts [])) before done) (name_warnings c (lines_of wide ts []) (before ++ done) p)
    ∙ ap (λ fs. first ++ fs) (append_assoc head (told_by (name_warnings c (lines_of wide ts [])) before done) (name_warnings c (lines_of wide ts []) (before ++ done) p)
    ∙ ap (λ fs. head ++ fs) (sym (told-more (name_warnings c (lines_of wide ts [])) before done p)))

-- one line more
lines-more : (c : Parts) (wide : List Name) (ts : List CodingType) (before : List (Name × Name)) (ls : List CodedLine) (l : CodedLine) → lines_told c wide ts before (ls ++ l ∷ []) ≡ lines_told c wide ts before ls ++ line_told c wide ts (before ++ named_in ls) l
lines-more c wide ts before [] l = append-nil (line_told c wide ts before l) ∙ ap (λ b. line_told c wide ts b l) (sym (append-nil before))
lines-more c wide ts before (x ∷ xs) l =
    ap (λ fs. line_told c wide ts before x ++ fs) (lines-more c wide ts (before ++ names_of x) xs l ∙ ap (λ b. lines_told c wide ts (before ++ names_of x) xs ++ line_told c wide ts b l) (append_assoc before (names_of x) (named_in xs)))
    ∙ sym (append_assoc (line_told c wide ts before x) (lines_told c wide ts (before ++ names_of x) xs) (line_told c wide ts (before ++ named_in (x ∷ xs)) l))

pub names-more : (ls : List CodedLine) (i : ℕ) (l : CodedLine) → i < length ls → l ≡ get_or ls i l → named_in (take (i + 1) ls) ≡ named_in (take i ls) ++ names_of l
names-more ls i l lt is =
    ap named_in (take_more ls i l lt ∙ ap (λ x. take i ls ++ x ∷ []) (sym is))
    ∙ flat_map-append names_of (take i ls) (l ∷ []) ∙ ap (λ ns. named_in (take i ls) ++ ns) (append-nil (names_of l))

pub line-step : (c : Parts) (wide : List Name) (ts : List CodingType) (ls : List CodedLine) (i : ℕ) (l : CodedLine) (first old now : List Finding) → i < length ls → l ≡ get_or ls i l → old ≡ first ++ lines_told c wide ts [] (take i ls) → now ≡ old ++ line_told c wide ts (named_in (take i ls)) l → now ≡ first ++ lines_told c wide ts [] (take (i + 1) ls)
line-step c wide ts ls i l first old now lt is so here =
    here ∙ ap (λ fs. fs ++ line_told c wide ts (named_in (take i ls)) l) so
    ∙ append_assoc first (lines_told c wide ts [] (take i ls)) (line_told c wide ts (named_in (take i ls)) l)
    ∙ ap (λ fs. first ++ fs) (sym (lines-more c wide ts [] (take i ls) l) ∙ ap (lines_told c wide ts []) (ap (λ x. take i ls ++ x ∷ []) is ∙ sym (take_more ls i l lt)))

-- ---- the names of a line, one after the other

names-step : (l : CodedLine) (lent : List Name) (i : ℕ) (n : Name) → lent ≡ l.signals → i < length lent → n ≡ get_or lent i n → take (i + 1) (names_of l) ≡ take i (names_of l) ++ (n, l.encoding) ∷ []
names-step l lent i n same lt is =
    let pair : Name → Name × Name = λ m. (m, l.encoding) in
    ap (λ ns. take (i + 1) (map pair ns)) (sym same)
    ∙ take-map pair (i + 1) lent ∙ map_more pair lent i n lt
    ∙ (λ j. sym (take-map pair i lent) j ++ pair (sym is j) ∷ [])
    ∙ ap (λ ns. take i (map pair ns) ++ (n, l.encoding) ∷ []) same

pub names-all : (l : CodedLine) (lent : List Name) (i : ℕ) → lent ≡ l.signals → length lent ≤ i → take i (names_of l) ≡ names_of l
names-all l lent i same le =
    let pair : Name → Name × Name = λ m. (m, l.encoding) in
    ap (λ ns. take i (map pair ns)) (sym same) ∙ take-map pair i lent ∙ ap (map pair) (take_all i lent le) ∙ ap (map pair) same

pub named-step : (ts : List CodingType) (before : List (Name × Name)) (l : CodedLine) (lent : List Name) (i : ℕ) (n : Name) (number : Option ℕ) (text q : List ℕ) (old new : Option (Option ℕ)) → lent ≡ l.signals → i < length lent → n ≡ get_or lent i n → number ≡ type_number ts l.encoding → text ≡ n.text → old ≡ option_map (λ p. type_number ts p.1) (find (is_named q) (before ++ take i (names_of l))) → new ≡ option_or old (cond (bytes_eq text q) (Some number) None) → new ≡ option_map (λ p. type_number ts p.1) (find (is_named q) (before ++ take (i + 1) (names_of l)))
named-step ts before l lent i n number text q old new same lt is of at so here =
    let of-name : Name × Name → Option ℕ = λ p. type_number ts p.1 in
    found-push of-name (is_named q) (before ++ take i (names_of l)) (n, l.encoding) number (bytes_eq text q) old new of (ap (λ t. bytes_eq t q) at) so here
    ∙ ap (λ ns. option_map of-name (find (is_named q) ns)) (append_assoc before (take i (names_of l)) ((n, l.encoding) ∷ []) ∙ ap (λ ns. before ++ ns) (sym (names-step l lent i n same lt is)))

pub warned-step : (c : Parts) (wide : List Name) (ts : List CodingType) (before : List (Name × Name)) (l : CodedLine) (lent : List Name) (i : ℕ) (n : Name) (number : Option ℕ) (text : List ℕ) (is_first : Bool) (there : Option (Option ℕ)) (head first old now : List Finding) → lent ≡ l.signals → i < length lent → n ≡ get_or lent i n → number ≡ type_number ts l.encoding → text ≡ n.text → is_first ≡ not (is_some there) → there ≡ option_map (λ p. type_number ts p.1) (find (is_named text) (before ++ take i (names_of l))) → old ≡ first ++ (head ++ told_by (name_warnings c (lines_of wide ts [])) before (take i (names_of l))) → now ≡ old ++ name_told wide is_first (type_at ts number) n (signal_by_name c n) → now ≡ first ++ (head ++ told_by (name_warnings c (lines_of wide ts [])) before (take (i + 1) (names_of l)))
warned-step c wide ts before l lent i n number text is_first there head first old now same lt is of at is-first found so here =
    name-step c wide ts before (take i (names_of l)) (n, l.encoding) number is_first there head first old now of is-first
    (found ∙ ap (λ t. option_map (λ (p : Name × Name). type_number ts p.1) (find (is_named t) (before ++ take i (names_of l)))) at) so here
    ∙ ap (λ ns. first ++ (head ++ told_by (name_warnings c (lines_of wide ts [])) before ns)) (sym (names-step l lent i n same lt is))

flipped : (a b : Bool) → a ≡ not b → b ≡ not a
flipped a true e = ap not (sym e)
flipped a false e = ap not (sym e)

pub line-warned : (wide : List Name) (ts : List CodingType) (l : CodedLine) (number : Option ℕ) (is_none : Bool) (f : Finding) → number ≡ type_number ts l.encoding → is_some number ≡ not is_none → f ≡ at_name finding.UnknownEncoding l.encoding → when is_none f ≡ representation_warnings (lines_of wide ts []) l
line-warned wide ts l number is_none f of none is =
    (λ i. when (flipped (is_some number) is_none none i) (is i))
    ∙ ap (λ o. when (not (is_some o)) (at_name finding.UnknownEncoding l.encoding)) of
    ∙ ap (λ b. when (not b) (at_name finding.UnknownEncoding l.encoding)) (some-number (λ (t : CodingType). same_name t.name l.encoding) ts)
