-- Where nothing is found in a description, its plain text is settled to itself.
use Rattle.std.proofs.Common.{◌≡◌, ◌≢◌, ◌<◌, ◌≤◌, ◌==◌, ◌%◌, ◌/◌, ◌^◌, ℕ, suc, Bool, true, false, not, cond, ◌&&◌, ◌||◌, List, [], ◌∷◌, ◌++◌, length, get_or, map, filter, flat_map, refl, sym, ap, ◌∙◌, arith, append-nil}
use Rattle.std.specs.Prelude.{All, Option, Some, None, is_some, is_none, if◌then◌else◌, nat_le, count_by, codes, find, nat_eq, option_and_then, filter_map}
use Rattle.std.specs.List.{cons_option, list_any, starts_with, AllPairs}
use Rattle.std.specs.Option.{option_or, option_map_or}
use Rattle.std.specs.Str.{bytes_eq}
use Rattle.std.proofs.Math.Nat.{mod-eq_of_lt}
use Rattle.std.proofs.lemmas.Bool.{and_from, and_left, and_parts, and_right, cond-false, cond-true, eq-eqb, eqb-true, le-ltb, leb-true, lt-leb, lt-ltb, ltb-true, ne_eqb, not-false, not_from_false, not_from_true, or_from}
use Rattle.std.proofs.lemmas.List.{length-map}
use Rattle.std.proofs.lemmas.List.Elements.{All-nil, All-head, All-map, All-same, All-tail}
use Rattle.std.proofs.lemmas.List.Sums.{sum_by-cons}
use Rattle.lin_cluster.specs.Addresses.{block_address, addresses, bad_nad}
use Rattle.lin_cluster.specs.Findings.{IsFree, candidates, in_signal}
use Rattle.lin_cluster.specs.FindingsNames.{at_name, at_number, same_name, when}
use Rattle.lin_cluster.specs.FindingsNames as plain
use Rattle.lin_cluster.specs.Identifiers.{is_up_to, is_repeated}
use Rattle.lin_cluster.specs.Kinds.{finding_at}
use Rattle.lin_cluster.specs.Sizes.{bad_init, bad_signal_size, is_array_init, is_good_init}
use Rattle.lin_cluster.specs.UnknownNames.{unknown_node}
use Rattle.lin_cluster.specs.declared.finding.Finding.{Finding}
use Rattle.lin_cluster.specs.declared.finding.FindingKind.TheVariants.{BadId, BadInit, BadNad, EmptyTable, ExtraMark, NadTwice, NoSize, NoTable, UnknownName, WideSignal, ZeroDelay}
use Rattle.lin_cluster.proofs.DescribedNodes.{addresses-apart, mapped-all}
use Rattle.lin_cluster.proofs.GoodParts.{good-frames, good-signals, good-tables}
use Rattle.lin_cluster.proofs.NothingElse.{NothingElse, nothing-else, free-is-sound}
use Rattle.lin_cluster.proofs.NothingIn.{IsShort, four-parts, in-each, when-not}
use Rattle.lin_parts.specs.declared.description.Attributes.{Attributes}
use Rattle.lin_parts.specs.declared.description.Description.{Description}
use Rattle.lin_parts.specs.declared.description.EventFrame.{EventFrame}
use Rattle.lin_parts.specs.declared.description.Frame.{Frame}
use Rattle.lin_parts.specs.declared.description.Init.{Init}
use Rattle.lin_parts.specs.declared.description.Init.TheVariants.{Scalar, Array}
use Rattle.lin_parts.specs.declared.description.Name.{Name}
use Rattle.lin_parts.specs.declared.description.Number.{Number}
use Rattle.lin_parts.specs.declared.description.Signal.{Signal}
use Rattle.lin_parts.specs.declared.description.Table.{Table}
use Rattle.lin_parts.specs.declared.description.TableEntry.{TableEntry}
use Rattle.lin_ldf.specs.declared.token.Token.{Token}
use Rattle.lin_field.proofs.TightSlots.{none-of-each, none-tight}
use Rattle.lin_field.specs.Attributes.{Elsewhere, attribute_warnings, draft, draft_nad_warnings, draft_warnings, drafts, elsewhere_of, good_nad, has_block, is_nad_number, as_list, nad_warning, new_drafts, responder_nads, settled_attributes, settled_block, settled_draft}
use Rattle.lin_field.specs.Frames.{frame_warnings, is_diagnostic_frame, kept_frame}
use Rattle.lin_field.specs.Names.{is_loose_node, is_loose_responder, node_list}
use Rattle.lin_field.specs.PlainTexts.{NamesTables, StaysPlain, header_in, loose_block, loose_entry, loose_event, loose_frame, loose_init, loose_signal, loose_table, as_loose, nodes_in, wide}
use Rattle.lin_field.specs.Settled.{header_warnings, is_old, old_version, tells_tables, without_tables}
use Rattle.lin_field.specs.Signals.{init_warnings, is_narrow, is_wide, kept_bits, low_bits, settled_init, settled_signal, signal_warnings, number_with_value}
use Rattle.lin_field.specs.Signals as told
use Rattle.lin_field.specs.Tables.{event_warnings, is_filled, is_left_out, is_members_name, kept_name, kept_tables, members_name, names_left_out, plain_entry, plain_table, rounded_warnings, settled_event, table_warnings, table_warnings_of}
use Rattle.lin_field.specs.Times.{delay_warnings, member_table, member_tables, rounded_delay, timed_by, timed_entry, timed_table, timed_tables, timing_warnings}
use Rattle.lin_field.specs.declared.loose.LooseAttributes.{LooseAttributes}
use Rattle.lin_field.specs.declared.loose.LooseEntry.{LooseEntry}
use Rattle.lin_field.specs.declared.loose.LooseTable.{LooseTable}

-- ---- lists that stay

map-stays : {X : Type 0} (f : X → X) (xs : List X) → All (λ x. f x ≡ x) xs → map f xs ≡ xs
map-stays f [] all = refl
map-stays f (x ∷ xs) all = λ i. All-head (λ y. f y ≡ y) x xs all i ∷ map-stays f xs (All-tail (λ y. f y ≡ y) x xs all) i

back-and-forth : {X Y : Type 0} (f : X → Y) (g : Y → X) (xs : List X) → All (λ x. g (f x) ≡ x) xs → map g (map f xs) ≡ xs
back-and-forth f g [] all = refl
back-and-forth f g (x ∷ xs) all = λ i. All-head (λ y. g (f y) ≡ y) x xs all i ∷ back-and-forth f g xs (All-tail (λ y. g (f y) ≡ y) x xs all) i

all-kept : {X Y : Type 0} (f : X → Y) (g : Y → Option X) (xs : List X) → All (λ x. g (f x) ≡ Some x) xs → filter_map g (map f xs) ≡ xs
all-kept f g [] all = refl
all-kept f g (x ∷ xs) all =
    ap (λ o. cons_option o (filter_map g (map f xs))) (All-head (λ y. g (f y) ≡ Some y) x xs all)
    ∙ ap (λ ys. x ∷ ys) (all-kept f g xs (All-tail (λ y. g (f y) ≡ Some y) x xs all))

filter-stays : {X : Type 0} (p : X → Bool) (xs : List X) → All (λ x. p x ≡ true) xs → filter p xs ≡ xs
filter-stays p [] all = refl
filter-stays p (x ∷ xs) all =
    cond-true (p x) (x ∷ filter p xs) (filter p xs) (All-head (λ y. p y ≡ true) x xs all)
    ∙ ap (λ ys. x ∷ ys) (filter-stays p xs (All-tail (λ y. p y ≡ true) x xs all))

filter-none : {X : Type 0} (p : X → Bool) (xs : List X) → All (λ x. p x ≡ false) xs → filter p xs ≡ []
filter-none p [] all = refl
filter-none p (x ∷ xs) all =
    cond-false (p x) (x ∷ filter p xs) (filter p xs) (All-head (λ y. p y ≡ false) x xs all)
    ∙ filter-none p xs (All-tail (λ y. p y ≡ false) x xs all)

and-then-stays : {X : Type 0} (f : X → Option X) (o : Option X) → ((x : X) → o ≡ Some x → f x ≡ Some x) → option_and_then f o ≡ o
and-then-stays f None each = refl
and-then-stays f (Some x) each = each x refl

none-behind : {X : Type 0} (xs ys : List X) → ys ≡ [] → xs ++ ys ≡ xs
none-behind xs ys none = ap (λ zs. xs ++ zs) none ∙ append-nil xs

-- ---- signals

abbrev fits_size : Init → ℕ → Bool
fits_size init size = if is_array_init init then nat_le 8 size && nat_le size 64 && size % 8 == 0 else nat_le 1 size && nat_le size 16

not-wide : (size : ℕ) → (nat_le 1 size && nat_le size 16) ≡ true → is_wide size ≡ false
not-wide size good =
    let few = leb-true size 16 (and_parts (nat_le 1 size) (nat_le size 16) good).1
    in and_left (nat_le 24 size) (nat_le size 64 && size % 8 == 0) (lt-leb 24 size (omega arith))

init-stays : (size : ℕ) (init : Init) → fits_size init size ≡ true → is_good_init size init ≡ true → settled_init size (loose_init init) ≡ init
init-stays size (Array place items) good fits = refl
init-stays size (Scalar n) good fits =
    cond-false (is_wide size) (Array (record { line = n.line; column = n.column }) (told.byte_numbers (wide n) (size / 8))) (Scalar (number_with_value (wide n) (low_bits n.value (kept_bits size)))) (not-wide size good)
    ∙ (ap (λ bits. Scalar (number_with_value (wide n) (low_bits n.value bits))) (cond-true (is_narrow size) size 32 good)
    ∙ ap (λ v. Scalar (number_with_value (wide n) v)) (mod-eq_of_lt (ltb-true n.value (2 ^ size) fits)))

init-silent : (size : Number) (init : Init) → fits_size init size.value ≡ true → is_good_init size.value init ≡ true → init_warnings size (loose_init init) ≡ []
init-silent size (Array place items) good fits = refl
init-silent size (Scalar n) good fits =
    let same : (low_bits n.value size.value == n.value) ≡ true = eq-eqb (low_bits n.value size.value) n.value (mod-eq_of_lt (ltb-true n.value (2 ^ size.value) fits))
    in ap (λ w. when w (at_number WideSignal size) ++ when ((w || is_narrow size.value) && not (low_bits n.value size.value == n.value)) (at_number BadInit n)) (not-wide size.value good)
    ∙ ap (λ t. when t (at_number BadInit n)) (and_right (is_narrow size.value) (not (low_bits n.value size.value == n.value)) (not_from_true (low_bits n.value size.value == n.value) same))

known-subscribers : (d : Description) → NothingElse d → (k : ℕ) (s : Signal) → k < length d.signals → All (λ n. is_loose_node (nodes_in d) n ≡ true) (get_or d.signals k s).subscribers
known-subscribers d none k s lt j n in' =
    let here = get_or d.signals k s
    in let parts = four-parts IsShort (unknown_node d here.publisher) (flat_map (unknown_node d) here.subscribers) (bad_signal_size here) (bad_init here) (in-each IsShort (in_signal d) d.signals none.signals k s lt)
    in let node = get_or here.subscribers j n
    in not-false (plain.is_node d node) (when-not (not (plain.is_node d node)) (at_name UnknownName node) refl (in-each IsShort (unknown_node d) here.subscribers parts.1 j n in'))

signals-stay : (d : Description) → NothingElse d → map (settled_signal (nodes_in d)) (map loose_signal d.signals) ≡ d.signals
signals-stay d none =
    back-and-forth loose_signal (settled_signal (nodes_in d)) d.signals (λ k s lt.
    let here = get_or d.signals k s
    in let good = good-signals d none k s lt
    in let init = init-stays here.size.value here.init good.size good.init
    in let subscribers = filter-stays (is_loose_node (nodes_in d)) here.subscribers (known-subscribers d none k s lt)
    in λ i. record { name = here.name; size = here.size; init = init i; publisher = here.publisher; subscribers = subscribers i })

signals-silent : (d : Description) → NothingElse d → flat_map (signal_warnings (nodes_in d)) (map loose_signal d.signals) ≡ []
signals-silent d none =
    none-of-each (signal_warnings (nodes_in d)) (map loose_signal d.signals)
    (All-map (λ s. signal_warnings (nodes_in d) s ≡ []) loose_signal d.signals (λ k s lt.
    let here = get_or d.signals k s
    in let good = good-signals d none k s lt
    in let known = none-of-each (told.unknown_loose_node (nodes_in d)) here.subscribers (λ j n in'.
    let node = get_or here.subscribers j n
    in ap (λ b. when b (at_name UnknownName node)) (not_from_true (is_loose_node (nodes_in d) node) (known-subscribers d none k s lt j n in')))
    in ap (λ fs. fs ++ flat_map (told.unknown_loose_node (nodes_in d)) here.subscribers) (init-silent here.size here.init good.size good.init) ∙ known))

-- ---- frames

not-diagnostic : (f : Frame) → f.id.value < 60 → is_diagnostic_frame (loose_frame f) ≡ false
not-diagnostic f small =
    or_from (bytes_eq f.name.text (codes "MasterReq") && f.id.value == 60) (bytes_eq f.name.text (codes "SlaveResp") && f.id.value == 61)
    (and_right (bytes_eq f.name.text (codes "MasterReq")) (f.id.value == 60) (ne_eqb f.id.value 60 (λ e. omega arith)))
    (and_right (bytes_eq f.name.text (codes "SlaveResp")) (f.id.value == 61) (ne_eqb f.id.value 61 (λ e. omega arith)))

frames-stay : (d : Description) → NothingElse d → filter_map kept_frame (map loose_frame d.frames) ≡ d.frames
frames-stay d none =
    all-kept loose_frame kept_frame d.frames (λ k f lt.
    let here = get_or d.frames k f
    in cond-false (is_diagnostic_frame (loose_frame here)) None (Some here) (not-diagnostic here (good-frames d none k f lt).id))

frames-silent : (d : Description) (is_old : Bool) → NothingElse d → flat_map (frame_warnings is_old) (map loose_frame d.frames) ≡ []
frames-silent d is_old none =
    none-of-each (frame_warnings is_old) (map loose_frame d.frames)
    (All-map (λ f. frame_warnings is_old f ≡ []) loose_frame d.frames (λ k f lt.
    let here = get_or d.frames k f
    in ap (λ b. when b (at_number BadId here.id) ++ when (not b && (not is_old && false)) (at_number NoSize here.id)) (not-diagnostic here (good-frames d none k f lt).id)
    ∙ ap (λ b. when b (at_number NoSize here.id)) (and_right (not is_old) false refl)))

-- ---- tables

abbrev tables_in : Description → List LooseTable
tables_in d = map loose_table d.tables

not-left-out : (d : Description) → NothingElse d → All (λ (t : Table). is_left_out (tables_in d) (loose_table t) ≡ false) d.tables
not-left-out d none k t lt =
    let here = get_or d.tables k t
    in let filled : is_filled (loose_table here) ≡ true = lt-ltb 0 (length (map loose_entry here.entries)) (omega (arith, (good-tables d none k t lt).some, length-map here.entries loose_entry))
    in and_right (list_any is_filled (tables_in d)) (not (is_filled (loose_table here))) (not_from_true (is_filled (loose_table here)) filled)

none-left-out : (d : Description) → NothingElse d → All (λ (t : LooseTable). is_left_out (tables_in d) t ≡ false) (tables_in d)
none-left-out d none = All-map (λ (t : LooseTable). is_left_out (tables_in d) t ≡ false) loose_table d.tables (not-left-out d none)

tables-stay : (d : Description) → NothingElse d → kept_tables (tables_in d) ≡ d.tables
tables-stay d none =
    let ts = tables_in d
    in ap (map plain_table) (filter-stays (λ t. not (is_left_out ts t)) ts (λ k t lt. not_from_false (is_left_out ts (get_or ts k t)) (none-left-out d none k t lt)))
    ∙ back-and-forth loose_table plain_table d.tables (λ k t lt.
    let here = get_or d.tables k t
    in let entries = back-and-forth loose_entry plain_entry here.entries (λ j e in'. refl)
    in λ i. record { name = here.name; entries = entries i })

tables-silent : (d : Description) → NothingElse d → table_warnings (tables_in d) ≡ []
tables-silent d none =
    let ts = tables_in d
    in let rounded = λ (e : LooseEntry). rounded_warnings e.delay
    in none-of-each (table_warnings_of ts) ts (All-map (λ (t : LooseTable). table_warnings_of ts t ≡ []) loose_table d.tables (λ k t lt.
    let here = get_or d.tables k t
    in cond-false (is_left_out ts (loose_table here)) (at_name EmptyTable here.name ∷ []) (flat_map rounded (map loose_entry here.entries)) (not-left-out d none k t lt)
    ∙ none-of-each rounded (map loose_entry here.entries) (All-map (λ (e : LooseEntry). rounded_warnings e.delay ≡ []) loose_entry here.entries (λ j e in'. refl))))

-- ---- delays

abbrev delays_stand : List Table → Type 0
delays_stand ts = All (λ (t : Table). All (λ (e : TableEntry). (e.delay.value == 0) ≡ false) t.entries) ts

delays-stand : (d : Description) → NothingElse d → delays_stand d.tables
delays-stand d none k t lt j e in' =
    let delay = (get_or (get_or d.tables k t).entries j e).delay.value
    in ne_eqb delay 0 (λ is. omega (arith, ((good-tables d none k t lt).lines j e in').some))

times-stay : (d : Description) (ts : List Table) → delays_stand ts → timed_tables d ts ≡ ts
times-stay d ts stand =
    map-stays (timed_table d) ts (λ k t lt.
    let here = get_or ts k t
    in let entries = map-stays (timed_entry d) here.entries (λ j e in'.
    let x = get_or here.entries j e
    in cond-false (x.delay.value == 0) (timed_by x (rounded_delay d x)) x (stand k t lt j e in'))
    in λ i. record { name = here.name; entries = entries i })

times-silent : (d : Description) (ts : List Table) → delays_stand ts → timing_warnings d ts ≡ []
times-silent d ts stand =
    none-of-each (λ (t : Table). flat_map (delay_warnings d) t.entries) ts (λ k t lt.
    let here = get_or ts k t
    in none-of-each (delay_warnings d) here.entries (λ j e in'.
    let x = get_or here.entries j e
    in ap (λ b. when b (at_number ZeroDelay x.delay)) (and_left (x.delay.value == 0) (is_some (rounded_delay d x)) (stand k t lt j e in'))))

-- ---- event-triggered frames

none-named : (ts : List LooseTable) (p : LooseTable → Bool) (q : LooseTable → Bool) → All (λ t. q t ≡ false) ts → option_map_or q (find p ts) false ≡ false
none-named [] p q all = refl
none-named (t ∷ ts) p q all =
    elim (p t) as (λ b. option_map_or q (cond b (Some t) (find p ts)) false ≡ false) [
      | true ↦ All-head (λ u. q u ≡ false) t ts all
      | false ↦ none-named ts p q (All-tail (λ u. q u ≡ false) t ts all)
    ]

kept-name : (d : Description) → NothingElse d → (n : Name) → kept_name (tables_in d) n ≡ Some n
kept-name d none n =
    cond-false (names_left_out (tables_in d) n) None (Some n)
    (none-named (tables_in d) (λ t. same_name t.name n) (is_left_out (tables_in d)) (none-left-out d none))

events-stay : (d : Description) → NothingElse d → map (settled_event (tables_in d)) (map loose_event d.events) ≡ d.events
events-stay d none =
    back-and-forth loose_event (settled_event (tables_in d)) d.events (λ k e lt.
    let here = get_or d.events k e
    in let table = ap (λ o. option_map_or (λ (n : Name). n) o (members_name here.name here.id)) (kept-name d none here.table)
    in λ i. record { name = here.name; table = table i; id = here.id; members = here.members })

events-silent : (d : Description) (is_told : Bool) → NothingElse d → flat_map (event_warnings is_told (tables_in d)) (map loose_event d.events) ≡ []
events-silent d is_told none =
    none-of-each (event_warnings is_told (tables_in d)) (map loose_event d.events)
    (All-map (λ e. event_warnings is_told (tables_in d) e ≡ []) loose_event d.events (λ k e lt.
    let here = get_or d.events k e
    in ap (λ o. when (is_told && is_none o) (at_number NoTable here.id)) (kept-name d none here.table)
    ∙ ap (λ b. when b (at_number NoTable here.id)) (and_right is_told false refl)))

-- ---- attributes

-- a number in a list of numbers that differ isn't repeated
none-counted : {X : Type 0} (p : X → Bool) (xs : List X) → All (λ x. p x ≡ false) xs → count_by p xs ≡ 0
none-counted p [] all = refl
none-counted p (x ∷ xs) all =
    let here : ◌≡◌ {A = ℕ} (cond (p x) 1 0) 0 = cond-false (p x) 1 0 (All-head (λ y. p y ≡ false) x xs all)
    in let rest = none-counted p xs (All-tail (λ y. p y ≡ false) x xs all)
    in omega (arith, sum_by-cons (λ y. cond (p y) 1 0) x xs, here, rest)

one-at-most : (b : Bool) → ◌≤◌ (cond b 1 0) 1
one-at-most true = omega arith
one-at-most false = omega arith

once-counted : (v : ℕ) (q : Number → Bool) (ns : List Number) → AllPairs (λ (y x : Number). y.value ≢ x.value) ns → count_by (λ (y : Number). y.value == v && q y) ns ≤ 1
once-counted v q [] apart = omega arith
once-counted v q (n ∷ ns) apart =
    let p = λ (y : Number). y.value == v && q y
    in elim (n.value == v) as (λ b. (n.value == v) ≡ b → count_by p (n ∷ ns) ≤ 1) [
      | true ↦ λ is.
          let rest = none-counted p ns (λ k y lt. and_left ((get_or ns k y).value == v) (q (get_or ns k y)) (ne_eqb (get_or ns k y).value v (λ same. apart 0 (suc k) y (omega arith) (omega arith) (eqb-true n.value v is ∙ sym same))))
          in omega (arith, sum_by-cons (λ y. cond (p y) 1 0) n ns, rest, one-at-most (p n))
      | false ↦ λ is.
          let here : ◌≡◌ {A = ℕ} (cond (p n) 1 0) 0 = cond-false (p n) 1 0 (and_left (n.value == v) (q n) is)
          in let rest = once-counted v q ns (λ i j x lt in'. apart (suc i) (suc j) x (omega arith) (omega arith))
          in omega (arith, sum_by-cons (λ y. cond (p y) 1 0) n ns, here, rest)
    ] refl

record GoodNad (d : Description) (n : Number) : Type 0 where
  address : is_nad_number n ≡ true
  once : is_repeated (addresses d) n ≡ false

good-nads : (d : Description) → NothingElse d → All (GoodNad d) (addresses d)
good-nads d none k n lt =
    let here = get_or (addresses d) k n
    in record {
      address = not-false (is_nad_number here) (when-not (not (is_nad_number here)) (at_number BadNad here) refl (in-each IsShort bad_nad (addresses d) none.nads k n lt));
      once = le-ltb 1 (count_by (λ (y : Number). y.value == here.value && is_up_to here y) (addresses d)) (once-counted here.value (is_up_to here) (addresses d) (addresses-apart d none));
    }

-- the address of the block with this number, which is a responder's
own-nad : (d : Description) → NothingElse d → (k : ℕ) (a : Attributes) → k < length d.attributes → plain.is_responder d (get_or d.attributes k a).node ≡ true → (n : Number) → (get_or d.attributes k a).configured_nad ≡ Some n → GoodNad d n
own-nad d none k a lt responder n is =
    let here = get_or d.attributes k a
    in mapped-all (GoodNad d) (block_address d) d.attributes (good-nads d none) k a n lt
    (cond-true (plain.is_responder d here.node) here.configured_nad None responder ∙ is)

abbrev nothing_elsewhere : Description → Elsewhere
nothing_elsewhere d = elsewhere_of (nodes_in d) [] None

abbrev blocks_in : Description → List LooseAttributes
blocks_in d = map loose_block d.attributes

or-none : {X : Type 0} (o : Option X) → option_or o None ≡ o
or-none None = refl
or-none (Some x) = refl

chosen : (b : Bool) (o : Option Number) → (if b then option_or o None else o) ≡ o
chosen true o = or-none o
chosen false o = refl

draft-stays : (d : Description) (a : Attributes) → draft (nothing_elsewhere d) (loose_block a) ≡ a
draft-stays d a =
    let protocol = or-none a.protocol
    in let nad = chosen (is_loose_responder (nodes_in d) a.node) a.configured_nad
    in λ i. record { node = a.node; protocol = protocol i; configured_nad = nad i; response_error = a.response_error }

known-blocks : (d : Description) → NothingElse d → All (λ (a : Attributes). is_loose_node (nodes_in d) a.node ≡ true) d.attributes
known-blocks d none k a lt =
    let node = (get_or d.attributes k a).node
    in not-false (plain.is_node d node) (when-not (not (plain.is_node d node)) (at_name UnknownName node) refl (in-each IsShort (λ (b : Attributes). unknown_node d b.node) d.attributes none.attributes k a lt))

not-told : (b : Bool) → ◌≡◌ {A = Option Number} (if b then None else None) None
not-told true = refl
not-told false = refl

none-either : {X : Type 0} (b : Bool) → ◌≡◌ {A = List X} (if b then [] else []) []
none-either true = refl
none-either false = refl

no-new : (d : Description) (node : Name) → new_drafts (nothing_elsewhere d) (blocks_in d) node ≡ []
no-new d node =
    let e = nothing_elsewhere d
    in let nad = not-told (is_loose_responder (nodes_in d) node)
    in ap (λ o. if has_block (blocks_in d) node then [] else as_list (if is_none o then None else Some (record { node = node; protocol = None; configured_nad = o; response_error = None }))) nad
    ∙ none-either (has_block (blocks_in d) node)

drafts-stay : (d : Description) → NothingElse d → drafts (nothing_elsewhere d) (blocks_in d) ≡ d.attributes
drafts-stay d none =
    let e = nothing_elsewhere d
    in ap (λ ds. ds ++ flat_map (new_drafts e (blocks_in d)) (node_list (nodes_in d)))
    (ap (map (draft e)) (filter-stays (λ (a : LooseAttributes). is_loose_node (nodes_in d) a.block.node) (blocks_in d) (All-map (λ (a : LooseAttributes). is_loose_node (nodes_in d) a.block.node ≡ true) loose_block d.attributes (known-blocks d none)))
    ∙ back-and-forth loose_block (draft e) d.attributes (λ k a lt. draft-stays d (get_or d.attributes k a)))
    ∙ none-behind d.attributes (flat_map (new_drafts e (blocks_in d)) (node_list (nodes_in d)))
    (none-of-each (new_drafts e (blocks_in d)) (node_list (nodes_in d)) (λ k n lt. no-new d (get_or (node_list (nodes_in d)) k n)))

good-stays : (d : Description) (n : Number) → GoodNad d n → good_nad (addresses d) n ≡ Some n
good-stays d n good =
    cond-true (is_nad_number n && not (is_repeated (addresses d) n)) (Some n) None
    (and_from (is_nad_number n) (not (is_repeated (addresses d) n)) good.address (not_from_false (is_repeated (addresses d) n) good.once))

attributes-stay : (d : Description) → NothingElse d → settled_attributes (nothing_elsewhere d) (blocks_in d) ≡ d.attributes
attributes-stay d none =
    let e = nothing_elsewhere d
    in ap (λ ds. map (settled_draft e (responder_nads (nodes_in d) ds)) ds) (drafts-stay d none)
    ∙ map-stays (settled_draft e (addresses d)) d.attributes (λ k a lt.
    let here = get_or d.attributes k a
    in elim (is_loose_responder (nodes_in d) here.node) as (λ b. is_loose_responder (nodes_in d) here.node ≡ b → (if b then settled_block (addresses d) here else here) ≡ here) [
      | true ↦ λ is.
          let nad = and-then-stays (good_nad (addresses d)) here.configured_nad (λ n given. good-stays d n (own-nad d none k a lt is n given))
          in λ i. record { node = here.node; protocol = here.protocol; configured_nad = nad i; response_error = here.response_error }
      | false ↦ λ is. refl
    ] refl)

nad-silent : (d : Description) (o : Option Number) → ((n : Number) → o ≡ Some n → GoodNad d n) → nad_warning (addresses d) o ≡ []
nad-silent d None each = refl
nad-silent d (Some n) each =
    let good = each n refl
    in ap (λ b. when (not b) (at_number BadNad n) ++ when (b && is_repeated (addresses d) n) (at_number NadTwice n)) good.address
    ∙ ap (λ b. when b (at_number NadTwice n)) good.once

nothing-either : (b : Bool) → cond {A = List Finding} b [] [] ≡ []
nothing-either true = refl
nothing-either false = refl

attributes-silent : (d : Description) → NothingElse d → attribute_warnings (nothing_elsewhere d) (blocks_in d) ≡ []
attributes-silent d none =
    let e = nothing_elsewhere d
    in ap (λ fs. fs ++ flat_map (draft_nad_warnings e (responder_nads (nodes_in d) (drafts e (blocks_in d)))) (drafts e (blocks_in d)))
    (none-of-each (draft_warnings e) (blocks_in d) (All-map (λ a. draft_warnings e a ≡ []) loose_block d.attributes (λ k a lt.
    let node = (get_or d.attributes k a).node
    in ap (λ b. when b (at_name UnknownName node) ++ cond (is_loose_responder (nodes_in d) node) [] []) (not_from_true (is_loose_node (nodes_in d) node) (known-blocks d none k a lt))
    ∙ nothing-either (is_loose_responder (nodes_in d) node))))
    ∙ (ap (λ ds. flat_map (draft_nad_warnings e (responder_nads (nodes_in d) ds)) ds) (drafts-stay d none)
    ∙ none-of-each (draft_nad_warnings e (addresses d)) d.attributes (λ k a lt.
    let here = get_or d.attributes k a
    in elim (is_loose_responder (nodes_in d) here.node) as (λ b. is_loose_responder (nodes_in d) here.node ≡ b → (if b then nad_warning (addresses d) here.configured_nad else []) ≡ []) [
      | true ↦ λ is. nad-silent d here.configured_nad (λ n given. own-nad d none k a lt is n given)
      | false ↦ λ is. refl
    ] refl))

-- ---- the law

abbrev mark_warning : Token → Finding
mark_warning t = finding_at ExtraMark t.line t.column

header-silent : (version : List ℕ) (language : Option (List ℕ)) (d : Description) (marks : List Token) → header_warnings (header_in version language d) (nodes_in d) marks ≡ map mark_warning marks
header-silent version language d marks =
    let M = map mark_warning marks
    in append-nil (M ++ [] ++ [] ++ []) ∙ (append-nil (M ++ [] ++ []) ∙ (append-nil (M ++ []) ∙ append-nil M))

pub plain-stays : (version : List ℕ) (language : Option (List ℕ)) (d : Description) → starts_with nat_eq version (codes "1.") ≡ false → NamesTables d → IsFree d → StaysPlain (as_loose version language d) d
plain-stays version language d new named free =
    let none = nothing-else d (free-is-sound d free)
    in let l = as_loose version language d
    in let u = without_tables l
    in let nowhere : old_version l.header ≡ None = cond-false (is_old l.header) (Some version) None new
    in let elsewhere = λ (v : Option (List ℕ)). elsewhere_of (nodes_in d) [] v
    in let attributes = ap (λ v. settled_attributes (elsewhere v) (blocks_in d)) nowhere ∙ attributes-stay d none
    in let signals = signals-stay d none
    in let frames = frames-stay d none
    in let events = events-stay d none
    in let kept = tables-stay d none
    in let times = ap (timed_tables u) kept ∙ times-stay u d.tables (delays-stand d none)
    in let members : (ts : List Table) → member_tables u ts ≡ [] = λ ts.
    ap (λ es. map (member_table u ts) (filter (λ (e : EventFrame). is_members_name e.table) es)) events
    ∙ ap (map (member_table u ts)) (filter-none (λ (e : EventFrame). is_members_name e.table) d.events named)
    in let tables = none-behind (timed_tables u (kept_tables l.tables)) (member_tables u (timed_tables u (kept_tables l.tables))) (members (timed_tables u (kept_tables l.tables))) ∙ times
    in record {
      description = λ i. record {
        speed = d.speed;
        master = d.master;
        time_base = d.time_base;
        jitter = d.jitter;
        slaves = d.slaves;
        signals = signals i;
        frames = frames i;
        sporadic = d.sporadic;
        events = events i;
        attributes = attributes i;
        tables = tables i;
      };
      warnings = λ marks.
          let H = header_warnings l.header l.nodes marks
          in let S = flat_map (signal_warnings l.nodes) l.signals
          in let A = attribute_warnings (elsewhere (old_version l.header)) l.attributes
          in let F = flat_map (frame_warnings (is_old l.header)) l.frames
          in let E = flat_map (event_warnings (tells_tables l.header) l.tables) l.events
          in let T = table_warnings l.tables
          in none-behind (H ++ S ++ A ++ F ++ E ++ T) (timing_warnings u (kept_tables l.tables)) (ap (timing_warnings u) kept ∙ times-silent u d.tables (delays-stand d none))
          ∙ (none-behind (H ++ S ++ A ++ F ++ E) T (tables-silent d none)
          ∙ (none-behind (H ++ S ++ A ++ F) E (events-silent d (tells_tables l.header) none)
          ∙ (none-behind (H ++ S ++ A) F (frames-silent d (is_old l.header) none)
          ∙ (none-behind (H ++ S) A (ap (λ v. attribute_warnings (elsewhere v) (blocks_in d)) nowhere ∙ attributes-silent d none)
          ∙ (none-behind H S (signals-silent d none)
          ∙ header-silent version language d marks)))));
      byte_order = refl;
      tight = none-tight d (All-same (λ (f : Finding). f.number ≢ 9) (candidates d) [] free (All-nil (λ (f : Finding). f.number ≢ 9)));
    }
