-- A configured cluster keeps the rules of clusters.
use Rattle.std.proofs.Common.{◌≡◌, ◌<◌, ◌≤◌, ◌+◌, ℕ, zero, suc, List, [], ◌∷◌, length, get_or, take, set, arith, refl, sym, subst, ap, ◌∙◌}
use Rattle.std.specs.Prelude.{All, false, Option, Some, None}
use Rattle.std.specs.List.{AllZip}
use Rattle.lin_parts.specs.Cluster.{nodes}
use Rattle.lin_parts.specs.Configured.{changed_items, entry_with, line_with, table_with, with_configuration}
use Rattle.lin_parts.specs.Rules.{IsCluster, AreEvents, AreTables, AreIdentities, IsSignalAt, IsEntry, IsDelay, is_event}
use Rattle.lin_parts.specs.declared.parts.Entry.{Entry}
use Rattle.lin_parts.specs.declared.parts.Entry.TheVariants.{Frame, Sporadic, Event, MasterReq, SlaveResp, Fixed, Quiet}
use Rattle.lin_parts.specs.declared.parts.Identity.{Identity}
use Rattle.lin_parts.specs.declared.parts.Line.{Line}
use Rattle.lin_parts.specs.declared.parts.Parts.{Parts}
use Rattle.lin_parts.specs.declared.parts.Table.{Table}
use Rattle.std.proofs.lemmas.List.Elements.{All-cons, All-head, All-tail}

-- each item is changed in its turn
pub changed-item : {X Y : Type 0} (f : X → Y → X) (xs : List X) (ys : List Y) (k : ℕ) (x : X) → get_or (changed_items f xs (take k ys)) k x ≡ get_or xs k x
changed-item f [] ys k x = refl
changed-item f (x₁ ∷ xs) [] zero x = refl
changed-item f (x₁ ∷ xs) [] (suc k) x = refl
changed-item f (x₁ ∷ xs) (y ∷ ys) zero x = refl
changed-item f (x₁ ∷ xs) (y ∷ ys) (suc k) x = changed-item f xs ys k x

pub changed-none : {X Y : Type 0} (f : X → Y → X) (xs : List X) → changed_items f xs [] ≡ xs
changed-none f [] = refl
changed-none f (x ∷ xs) = refl

pub changed-long : {X Y : Type 0} (f : X → Y → X) (xs : List X) (ys : List Y) → length (changed_items f xs ys) ≡ length xs
changed-long f [] ys = refl
changed-long f (x ∷ xs) [] = refl
changed-long f (x ∷ xs) (y ∷ ys) = ap suc (changed-long f xs ys)

pub changed-next : {X Y : Type 0} (f : X → Y → X) (xs : List X) (ys : List Y) (k : ℕ) (x : X) (y : Y) → k < length xs → k < length ys
    → set (changed_items f xs (take k ys)) k (f (get_or xs k x) (get_or ys k y)) ≡ changed_items f xs (take (suc k) ys)
changed-next f [] ys k x y here there = absurd (omega (arith, here))
changed-next f (x₁ ∷ xs) [] k x y here there = absurd (omega (arith, there))
changed-next f (x₁ ∷ []) (y₁ ∷ ys) zero x y here there = refl
changed-next f (x₁ ∷ x₂ ∷ xs) (y₁ ∷ ys) zero x y here there = refl
changed-next f (x₁ ∷ xs) (y₁ ∷ ys) (suc k) x y here there =
    ap (λ zs. f x₁ y₁ ∷ zs) (changed-next f xs ys k x y (omega (arith, here)) (omega (arith, there)))

pub changed-past : {X Y : Type 0} (f : X → Y → X) (xs : List X) (ys : List Y) (k : ℕ) → length xs ≤ k → changed_items f xs (take k ys) ≡ changed_items f xs (take (suc k) ys)
changed-past f [] ys k past = refl
changed-past f (x ∷ xs) ys zero past = absurd (omega (arith, past))
changed-past f (x ∷ xs) [] (suc k) past = refl
changed-past f (x ∷ xs) (y ∷ ys) (suc k) past = ap (λ zs. f x y ∷ zs) (changed-past f xs ys k (omega (arith, past)))

-- so a loop changes one more item, or is behind them
pub changed-now : {X Y : Type 0} (f : X → Y → X) (old : List X) (ys : List Y) (xs : List X) (k : ℕ) (x : X) (y : Y) → xs ≡ changed_items f old (take k ys) → k < length xs → k < length ys
    → set xs k (f (get_or old k x) (get_or ys k y)) ≡ changed_items f old (take (k + 1) ys)
changed-now f old ys xs k x y are here there =
    let n = ap length are in
    let m = changed-long f old (take k ys) in
    let next : suc k ≡ k + 1 = omega arith in
    ap (λ zs. set zs k (f (get_or old k x) (get_or ys k y))) are ∙ changed-next f old ys k x y (omega arith) there ∙ ap (λ j. changed_items f old (take j ys)) next

pub changed-after : {X Y : Type 0} (f : X → Y → X) (old : List X) (ys : List Y) (xs : List X) (k : ℕ) → xs ≡ changed_items f old (take k ys) → length xs ≤ k → xs ≡ changed_items f old (take (k + 1) ys)
changed-after f old ys xs k are past =
    let n = ap length are in
    let m = changed-long f old (take k ys) in
    let next : suc k ≡ k + 1 = omega arith in
    are ∙ changed-past f old ys k (omega arith) ∙ ap (λ j. changed_items f old (take j ys)) next

-- what holds of each item, changed or not
pub changed-all : {X Y : Type 0} (P : X → Type 0) (f : X → Y → X) → ((x : X) (y : Y) → P x → P (f x y)) → (xs : List X) (ys : List Y) → All P xs → All P (changed_items f xs ys)
changed-all P f keeps [] ys all = all
changed-all P f keeps (x ∷ xs) [] all = all
changed-all P f keeps (x ∷ xs) (y ∷ ys) all = All-cons P (f x y) (changed_items f xs ys) (keeps x y (All-head P x xs all)) (changed-all P f keeps xs ys (All-tail P x xs all))

-- one item of the changed ones
pub changed-at : {X Y : Type 0} (P : X → Type 0) (f : X → Y → X) → ((x : X) (y : Y) → P x → P (f x y)) → (xs : List X) (ys : List Y) (k : ℕ) (d : X) → P (get_or xs k d) → P (get_or (changed_items f xs ys) k d)
changed-at P f keeps [] ys k d p = p
changed-at P f keeps (x ∷ xs) [] k d p = p
changed-at P f keeps (x ∷ xs) (y ∷ ys) zero d p = keeps x y p
changed-at P f keeps (x ∷ xs) (y ∷ ys) (suc k) d p = changed-at P f keeps xs ys k d p

-- entries
entry-there : (c : Parts) (e : Entry) (r : Option (List ℕ)) → IsEntry c e → IsEntry c (entry_with e r)
entry-there c (Frame f) r i = i
entry-there c (Sporadic k) r i = i
entry-there c (Event e) r i = i
entry-there c MasterReq r i = tt
entry-there c SlaveResp r i = tt
entry-there c (Fixed bytes) r i = tt
entry-there c Quiet (Some bytes) i = tt
entry-there c Quiet None i = tt

entry-event : (e : Entry) (r : Option (List ℕ)) → is_event e ≡ false → is_event (entry_with e r) ≡ false
entry-event (Frame f) r i = i
entry-event (Sporadic k) r i = i
entry-event (Event e) r i = i
entry-event MasterReq r i = i
entry-event SlaveResp r i = i
entry-event (Fixed bytes) r i = i
entry-event Quiet (Some bytes) i = refl
entry-event Quiet None i = i

-- the signals of frames
pub zip-same : {A B : Type 0} (R S : A → B → Type 0) → ((x : A) (y : B) → R x y → S x y) → (xs : List A) (ys : List B) → AllZip R xs ys → AllZip S xs ys
zip-same R S keeps [] [] z = z
zip-same R S keeps [] (y ∷ ys) z = absurd z
zip-same R S keeps (x ∷ xs) [] z = absurd z
zip-same R S keeps (x ∷ xs) (y ∷ ys) z = (keeps x y z.0, zip-same R S keeps xs ys z.1)

-- each rule
entry-same : (c : Parts) (identities : List Identity) (requests : List (List (Option (List ℕ)))) (e : Entry) → IsEntry c e → IsEntry (with_configuration c identities requests) e
entry-same c identities requests (Frame f) i = i
entry-same c identities requests (Sporadic k) i = i
entry-same c identities requests (Event e) i = i
entry-same c identities requests MasterReq i = tt
entry-same c identities requests SlaveResp i = tt
entry-same c identities requests (Fixed bytes) i = tt
entry-same c identities requests Quiet i = tt

configured-tables : (c : Parts) (identities : List Identity) (requests : List (List (Option (List ℕ)))) → AreTables c → AreTables (with_configuration c identities requests)
configured-tables c identities requests rules =
    let c' = with_configuration c identities requests in
    record {
      number = subst (λ n. (1 ≤ n) × (n ≤ 256)) (sym (changed-long table_with c.tables requests)) rules.number;
      lengths = changed-all (λ (t : Table). (1 ≤ length t.lines) × (length t.lines ≤ 1024)) table_with (λ t rs i. subst (λ n. (1 ≤ n) × (n ≤ 1024)) (sym (changed-long line_with t.lines rs)) i) c.tables requests rules.lengths;
      delays = changed-all (λ (t : Table). All (λ (line : Line). IsDelay line.delay_us) t.lines) table_with (λ t rs i. changed-all (λ (line : Line). IsDelay line.delay_us) line_with (λ line r j. j) t.lines rs i) c.tables requests rules.delays;
      entries = changed-all (λ (t : Table). All (λ (line : Line). IsEntry c' line.entry) t.lines) table_with
          (λ t rs i. changed-all (λ (line : Line). IsEntry c' line.entry) line_with (λ line r j. entry-there c' line.entry r j) t.lines rs i) c.tables requests
          (λ k d lt. λ j e there. entry-same c identities requests (get_or (get_or c.tables k d).lines j e).entry (rules.entries k d lt j e there));
    }

configured-events : (c : Parts) (identities : List Identity) (requests : List (List (Option (List ℕ)))) → AreEvents c → AreEvents (with_configuration c identities requests)
configured-events c identities requests rules = record {
  models = rules.models;
  members = rules.members;
  frames = rules.frames;
  own_publishers = rules.own_publishers;
  sizes = rules.sizes;
  tables = λ k d lt. subst (λ n. (get_or c.events k d).table < n) (sym (changed-long table_with c.tables requests)) (rules.tables k d lt);
  resolving = λ k d lt. changed-at (λ (t : Table). All (λ (line : Line). is_event line.entry ≡ false) t.lines) table_with
      (λ t rs i. changed-all (λ (line : Line). is_event line.entry ≡ false) line_with (λ line r j. entry-event line.entry r j) t.lines rs i)
      c.tables requests (get_or c.events k d).table _ (rules.resolving k d lt);
}

pub configured-cluster : (c : Parts) (identities : List Identity) (requests : List (List (Option (List ℕ)))) → IsCluster c → AreIdentities c identities → IsCluster (with_configuration c identities requests)
configured-cluster c identities requests rules known =
    record {
      nodes = record { number = rules.nodes.number; commander = rules.nodes.commander; addresses = rules.nodes.addresses; own_addresses = rules.nodes.own_addresses };
      signals = record { number = rules.signals.number; publishers = rules.signals.publishers; subscribers = rules.signals.subscribers; sizes = rules.signals.sizes; initials = rules.signals.initials };
      frames = record {
        publishers = rules.frames.publishers;
        layouts = rules.frames.layouts;
        signals = λ k d lt. zip-same (IsSignalAt c (get_or c.frames k d).publisher) (IsSignalAt (with_configuration c identities requests) (get_or c.frames k d).publisher)
            (λ p s i. record { declared = i.declared; published = i.published; place = i.place }) (get_or c.frames k d).layout.places (get_or c.frames k d).signals (rules.frames.signals k d lt);
        signals_once = rules.frames.signals_once;
      };
      identifiers = record { carriers = rules.identifiers.carriers; apart = rules.identifiers.apart; own_pids = rules.identifiers.own_pids };
      sporadic = record { number = rules.sporadic.number; members = rules.sporadic.members; frames = rules.sporadic.frames };
      events = configured-events c identities requests rules.events;
      tables = configured-tables c identities requests rules.tables;
      errors = λ k d lt. let i = rules.errors k d lt in record { responder = i.responder; declared = i.declared; published = i.published; scalar = i.scalar; frames = i.frames };
      identities = record {
        each = λ k d lt. let i = known.each k d lt in record { responder = i.responder; addressed = i.addressed; initial = i.initial; product = i.product };
        rising = known.rising;
      };
      times = record { speed = rules.times.speed; jitter = rules.times.jitter; base = rules.times.base };
    }

-- responders by rising numbers are few
rising-at : (c : Parts) (all : List Identity) → AreIdentities c all → (k : ℕ) (d : Identity) → k < length all → k + 1 ≤ (get_or all k d).node
rising-at c all known zero d lt = (known.each zero d lt).responder.0
rising-at c all known (suc k) d lt =
    let before = rising-at c all known k d (omega (arith, lt)) in
    let next = known.rising k (suc k) d (omega arith) lt in
    omega (arith, before, next)

pub few-identities : (c : Parts) (all : List Identity) → nodes c ≤ 16 → AreIdentities c all → length all ≤ 15
few-identities c [] few known = omega arith
few-identities c (i ∷ is) few known =
    let last = rising-at c (i ∷ is) known (length is) i (omega arith) in
    let below = (known.each (length is) i (omega arith)).responder.1 in
    omega (arith, last, below, few)
