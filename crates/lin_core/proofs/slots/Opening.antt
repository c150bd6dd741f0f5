-- A slot that opens: its header and who is due, by what is kept, and what its responses can be.
use Rattle.std.proofs.Common.{◌≡◌, ℕ, ◌+◌, ◌<◌, ◌≤◌, Bool, true, false, List, [], ◌∷◌, ◌++◌, map, length, refl, ap, sym, ◌∙◌, arith, inl, inr, length-append}
use Rattle.std.proofs.Math.Path.{fun_ext}
use Rattle.std.specs.Prelude.{Option, Some, None, ◌&&◌, ◌||◌, not, ◌==◌, if◌then◌else◌, filter, find, is_some, nat_lt, option_map, slice_index_or}
use Rattle.std.specs.List.{list_any}
use Rattle.std.proofs.lemmas.Bool.{ne_eqb}
use Rattle.std.proofs.lemmas.Bool.Decides.{eqb_tells, nat_tests}
use Rattle.std.proofs.lemmas.List.{map-append}
use Rattle.std.proofs.lemmas.List.Folds.{list_any-append}
use Rattle.std.specs.Option.{option_map_or}
use Rattle.lin_frame.specs.Words.{numbers}
use Rattle.lin_parts.specs.Cluster.{frame_of, sporadic_of, event_of, line_of, nodes}
use Rattle.lin_parts.specs.Rules.{IsCluster, IsEntry}
use Rattle.lin_parts.specs.Sound.{IsSignalPid, IsSound}
use Rattle.lin_parts.specs.declared.parts.Parts.{Parts}
use Rattle.lin_parts.specs.declared.parts.Entry.{Entry}
use Rattle.lin_parts.specs.declared.parts.Entry.TheVariants.{Frame, Sporadic, Event, MasterReq, SlaveResp, Fixed, Quiet}
use Rattle.lin_schedule.specs.Due.{due_for}
use Rattle.lin_schedule.specs.Walker.{HasEntry}
use Rattle.lin_transport.proofs.Frames.{and-false}
use Rattle.lin_core.proofs.links.Finishes.{and-true}
use Rattle.lin_core.specs.kept.Slots.{HasDue, header_of, is_due_of, served_by, CanAnswer, IsOpen, IsServed, put_in, slot_in}
use Rattle.lin_core.specs.History.{is_sleep_asked, has_decided, header_is, is_in, open_slot}
use Rattle.lin_core.specs.Links.{waiting}
use Rattle.lin_core.specs.Replies.{refusal}
use Rattle.lin_core.specs.Signals.{is_pending}
use Rattle.lin_core.specs.Slots.{due_nodes, header, is_due, is_service, plain_nodes, ready_responses, served_nodes, selected_node}
use Rattle.lin_core.specs.declared.log.LogEntry.{LogEntry}
use Rattle.lin_core.specs.declared.port.PortId.{PortId}
use Rattle.lin_core.specs.declared.slot.OpenSlot.{OpenSlot}
use Rattle.lin_core.specs.declared.slot.Put.{Put}
use Rattle.lin_core.specs.declared.step.Step.TheVariants.{Answer}
use Rattle.lin_core.proofs.slots.ClusterFrames.{if-found, sporadic-there}
use Rattle.lin_core.proofs.steps.Steps.{and-parts, answer-allowed, in-filter}

-- == what is due
same-flags : (flags : List Bool) (g : ℕ → Bool) → ((f : ℕ) → slice_index_or flags f false ≡ g f) → (λ (f : ℕ). slice_index_or flags f false) ≡ g
same-flags flags g e = fun_ext {f = λ (f : ℕ). slice_index_or flags f false} {g = g} e

some-map : (o : Option ℕ) (g : ℕ → ℕ) → is_some (option_map g o) ≡ is_some o
some-map None g = refl
some-map (Some x) g = refl

some-if : (b : Bool) → is_some {T = ℕ} (if b then Some 0x3C else None) ≡ b
some-if true = refl
some-if false = refl

pub header-due : (c : Parts) (past : List LogEntry) (flags : List Bool) (waits : Bool) (kind : Entry) → ((f : ℕ) → slice_index_or flags f false ≡ is_pending c past f) → (nat_lt 0 (length (waiting c past 0)) || is_sleep_asked past) ≡ waits
    → header_of c waits (due_for c flags kind) ≡ header c past kind
header-due c past flags waits (Frame f) e w = refl
header-due c past flags waits (Sporadic k) e w = ap (λ (p : ℕ → Bool). option_map (λ f. (frame_of c f).pid) (find p (sporadic_of c k))) (same-flags flags (is_pending c past) e)
header-due c past flags waits (Event v) e w = refl
header-due c past flags waits MasterReq e w = rw w refl
header-due c past flags waits SlaveResp e w = refl
header-due c past flags waits (Fixed request) e w = refl
header-due c past flags waits Quiet e w = refl

responder-by : (c : Parts) (past : List LogEntry) (n k : ℕ) (b : Bool) → nat_lt 0 (length (waiting c past k)) ≡ b → option_map_or (λ x. n == x) (if b then Some k else None) false ≡ (n == k && nat_lt 0 (length (waiting c past k)))
responder-by c past n k true e = rw e (sym (and-true (n == k)))
responder-by c past n k false e = rw e (sym (and-false (n == k)))

responder-due : (c : Parts) (past : List LogEntry) (n : ℕ) (o : Option ℕ)
    → option_map_or (λ x. n == x) (option_map_or (λ k. if nat_lt 0 (length (waiting c past k)) then Some k else None) o None) false ≡ option_map_or (λ k. n == k && nat_lt 0 (length (waiting c past k))) o false
responder-due c past n None = refl
responder-due c past n (Some k) = responder-by c past n k (nat_lt 0 (length (waiting c past k))) refl

-- the responder that is due in a slave response: the selected one, where one of its messages waits
abbrev pub responder_now : Parts → List LogEntry → Option ℕ
responder_now c past = option_map_or (λ k. if nat_lt 0 (length (waiting c past k)) then Some k else None) (selected_node c past) None

due-due : (c : Parts) (past : List LogEntry) (flags : List Bool) (waits : Bool) (responder : Option ℕ) (kind : Entry) (n : ℕ) → ((f : ℕ) → slice_index_or flags f false ≡ is_pending c past f) → (nat_lt 0 (length (waiting c past 0)) || is_sleep_asked past) ≡ waits → responder ≡ responder_now c past
    → is_due_of c flags waits responder (due_for c flags kind) n ≡ is_due c past kind n
due-due c past flags waits responder (Frame f) n e w r = refl
due-due c past flags waits responder (Sporadic k) n e w r =
    ap (λ (p : ℕ → Bool). n == 0 && is_some (find p (sporadic_of c k))) (same-flags flags (is_pending c past) e)
    ∙ ap (λ (b : Bool). n == 0 && b) (sym (some-map (find (is_pending c past) (sporadic_of c k)) (λ f. (frame_of c f).pid)))
due-due c past flags waits responder (Event v) n e w r = ap (λ (p : ℕ → Bool). list_any (λ f. n == (frame_of c f).publisher && p f) (event_of c v).frames) (same-flags flags (is_pending c past) e)
due-due c past flags waits responder MasterReq n e w r = ap (λ (b : Bool). n == 0 && b) (sym w ∙ sym (some-if (nat_lt 0 (length (waiting c past 0)) || is_sleep_asked past)))
due-due c past flags waits responder SlaveResp n e w r = rw r (responder-due c past n (selected_node c past))
due-due c past flags waits responder (Fixed request) n e w r = refl
due-due c past flags waits responder Quiet n e w r = refl

pub nodes-due : (c : Parts) (past : List LogEntry) (flags : List Bool) (waits : Bool) (responder : Option ℕ) (kind : Entry) → ((f : ℕ) → slice_index_or flags f false ≡ is_pending c past f) → (nat_lt 0 (length (waiting c past 0)) || is_sleep_asked past) ≡ waits → responder ≡ responder_now c past
    → filter (is_due_of c flags waits responder (due_for c flags kind)) (numbers (nodes c)) ≡ plain_nodes c past kind
nodes-due c past flags waits responder kind e w r =
    ap (λ (p : ℕ → Bool). filter p (numbers (nodes c))) (fun_ext {f = is_due_of c flags waits responder (due_for c flags kind)} {g = is_due c past kind} (λ n. due-due c past flags waits responder kind n e w r))

pub has-due : (c : Parts) (flags : List Bool) (kind : Entry) → IsCluster c → IsEntry c kind → HasDue c (due_for c flags kind)
has-due c flags (Frame f) rules e = e
has-due c flags (Sporadic k) rules e = if-found (λ f. f < length c.frames) (λ f. slice_index_or flags f false) (sporadic_of c k) (sporadic-there c k rules e)
has-due c flags (Event v) rules e = e
has-due c flags MasterReq rules e = tt
has-due c flags SlaveResp rules e = tt
has-due c flags (Fixed request) rules e = tt
has-due c flags Quiet rules e = tt

-- == the header of a master request
request-pid : (p : ℕ) (kind : Entry) → IsSignalPid p → (p == 0x3C) ≡ true → kind ≡ MasterReq
request-pid p kind own h = absurd (let bad : false ≡ true = sym (ne_eqb p 0x3C own.request) ∙ h in cc)

request-some : (c : Parts) (o : Option ℕ) (kind : Entry) → IsSound c → header_is 0x3C (option_map (λ f. (frame_of c f).pid) o) ≡ true → kind ≡ MasterReq
request-some c None kind sound h = cc
request-some c (Some f) kind sound h = request-pid (frame_of c f).pid kind (sound.frames f) h

pub request-is : (c : Parts) (past : List LogEntry) (kind : Entry) → is_service c past kind ≡ false → IsSound c → header_is 0x3C (header c past kind) ≡ true → kind ≡ MasterReq
request-is c past (Frame f) plain sound h = request-pid (frame_of c f).pid (Frame f) (sound.frames f) h
request-is c past (Sporadic k) plain sound h = request-some c (find (is_pending c past) (sporadic_of c k)) (Sporadic k) sound h
request-is c past (Event e) plain sound h = request-pid (event_of c e).pid (Event e) (sound.events e) h
request-is c past MasterReq plain sound h = refl
request-is c past SlaveResp plain sound h = cc
request-is c past (Fixed request) plain sound h = absurd (cc)
request-is c past Quiet plain sound h = cc

-- == those that are due can answer
found-by : (q : ℕ → Bool) (x : ℕ) (xs : List ℕ) (b : Bool) → q x ≡ b → (g : ℕ) × (find q xs ≡ Some g) → (g : ℕ) × (find q (x ∷ xs) ≡ Some g)
found-by q x xs true e f = (x, rw e refl)
found-by q x xs false e f = (f.0, rw e f.1)

found-now : (q : ℕ → Bool) (x : ℕ) (xs : List ℕ) → q x ≡ true → (g : ℕ) × (find q (x ∷ xs) ≡ Some g)
found-now q x xs e = (x, rw e refl)

again : (p q : ℕ → Bool) (x : ℕ) (xs : List ℕ) (f : ℕ) (b : Bool) → p x ≡ b → find p (x ∷ xs) ≡ Some f → q f ≡ true → (find p xs ≡ Some f → (g : ℕ) × (find q xs ≡ Some g)) → (g : ℕ) × (find q (x ∷ xs) ≡ Some g)
again p q x xs f true e h t r = let own : x ≡ f = (let s : Some x ≡ Some f = rw e at h in cc) in found-now q x xs (rw own t)
again p q x xs f false e h t r = let s : find p xs ≡ Some f = rw e at h in found-by q x xs (q x) refl (r s)

found-again : (p q : ℕ → Bool) (xs : List ℕ) (f : ℕ) → find p xs ≡ Some f → q f ≡ true → (g : ℕ) × (find q xs ≡ Some g)
found-again p q [] f e t = absurd (cc)
found-again p q (x ∷ xs) f e t = again p q x xs f (p x) refl e t (λ h. found-again p q xs f h t)

any-by : (p q : ℕ → Bool) (x : ℕ) (xs : List ℕ) (b : Bool) → p x ≡ b → list_any p (x ∷ xs) ≡ true → (p x ≡ true → q x ≡ true) → (list_any p xs ≡ true → (g : ℕ) × (find q xs ≡ Some g)) → (g : ℕ) × (find q (x ∷ xs) ≡ Some g)
any-by p q x xs true e h t r = found-now q x xs (t e)
any-by p q x xs false e h t r = let s : list_any p xs ≡ true = rw e at h in found-by q x xs (q x) refl (r s)

any-found : (p q : ℕ → Bool) (xs : List ℕ) → ((x : ℕ) → p x ≡ true → q x ≡ true) → list_any p xs ≡ true → (g : ℕ) × (find q xs ≡ Some g)
any-found p q [] t h = absurd (cc)
any-found p q (x ∷ xs) t h = any-by p q x xs (p x) refl h (t x) (any-found p q xs t)

own-test : (n : ℕ) → (n == n) ≡ true
own-test n = grind (arith, nat_tests)

sporadic-answers : (c : Parts) (k n : ℕ) (p : ℕ → Bool) (o : Option ℕ) → find p (sporadic_of c k) ≡ o → is_some (option_map (λ f. (frame_of c f).pid) o) ≡ true → CanAnswer c (Sporadic k) (option_map (λ f. (frame_of c f).pid) o) n
sporadic-answers c k n p None e h = absurd (cc)
sporadic-answers c k n p (Some f) e h = ((frame_of c f).pid, refl, inl (found-again p (λ g. (frame_of c f).pid == (frame_of c g).pid) (sporadic_of c k) f e (own-test (frame_of c f).pid)))

request-answers : (c : Parts) (n : ℕ) (b : Bool) → is_some {T = ℕ} (if b then Some 0x3C else None) ≡ true → CanAnswer c MasterReq (if b then Some 0x3C else None) n
request-answers c n true h = (0x3C, refl, inr (inl (refl, refl)))
request-answers c n false h = absurd (cc)

pub can-answer : (c : Parts) (past : List LogEntry) (kind : Entry) (n : ℕ) → is_due c past kind n ≡ true → CanAnswer c kind (header c past kind) n
can-answer c past (Frame f) n h = ((frame_of c f).pid, refl, inl (f, refl))
can-answer c past (Sporadic k) n h =
    sporadic-answers c k n (is_pending c past) (find (is_pending c past) (sporadic_of c k)) refl (and-parts (n == 0) (is_some (option_map (λ f. (frame_of c f).pid) (find (is_pending c past) (sporadic_of c k)))) h).1
can-answer c past (Event e) n h = (
  (event_of c e).pid,
  refl,
  inl (any-found (λ f. n == (frame_of c f).publisher && is_pending c past f) (λ f. n == (frame_of c f).publisher) (event_of c e).frames (λ f t. (and-parts (n == (frame_of c f).publisher) (is_pending c past f) t).0) h),
)
can-answer c past MasterReq n h =
    let waits : Bool = nat_lt 0 (length (waiting c past 0)) || is_sleep_asked past
    in request-answers c n waits (and-parts (n == 0) (is_some {T = ℕ} (if waits then Some 0x3C else None)) h).1
can-answer c past SlaveResp n h = (0x7D, refl, inr (inr (refl, refl)))
can-answer c past (Fixed request) n h = absurd (cc)
can-answer c past Quiet n h = absurd (cc)

-- == a slot for a service
pub is-served : (c : Parts) (past : List LogEntry) (kind : Entry) → is_service c past kind ≡ true → IsServed c kind (header c past kind)
is-served c past (Frame f) e = cc
is-served c past (Sporadic k) e = cc
is-served c past (Event v) e = cc
is-served c past MasterReq e = cc
is-served c past SlaveResp e = record { pid = 0x7D; is = refl; none = λ h n. refl }
is-served c past (Fixed request) e = record { pid = 0x3C; is = refl; none = λ h n. refl }
is-served c past Quiet e = cc

pub served-due : (c : Parts) (past : List LogEntry) (flags : List Bool) (kind : Entry) (ready : List ℕ) → ready ≡ map (λ (r : ℕ × List ℕ). r.0) (ready_responses c past) → served_by (due_for c flags kind) ready ≡ served_nodes c past kind
served-due c past flags (Frame f) ready e = refl
served-due c past flags (Sporadic k) ready e = refl
served-due c past flags (Event v) ready e = refl
served-due c past flags MasterReq ready e = refl
served-due c past flags SlaveResp ready e = e
served-due c past flags (Fixed request) ready e = refl
served-due c past flags Quiet ready e = refl

plain-due : (c : Parts) (past : List LogEntry) (kind : Entry) → is_service c past kind ≡ false → due_nodes c past kind ≡ plain_nodes c past kind
plain-due c past kind e = rw e refl

-- == room for the responses
few-by : (p q : ℕ → Bool) (x : ℕ) (xs : List ℕ) (a b : Bool) → q x ≡ a → p x ≡ b → (a ≡ true → b ≡ true) → length (filter q xs) ≤ length (filter p xs) → length (filter q (x ∷ xs)) ≤ length (filter p (x ∷ xs))
few-by p q x xs true true e f t l = rw (e, f) (omega arith)
few-by p q x xs true false e f t l = absurd (let bad : false ≡ true = t refl in cc)
few-by p q x xs false true e f t l = rw (e, f) (omega arith)
few-by p q x xs false false e f t l = rw (e, f) l

filter-few : (p q : ℕ → Bool) (xs : List ℕ) → ((n : ℕ) → q n ≡ true → p n ≡ true) → length (filter q xs) ≤ length (filter p xs)
filter-few p q [] t = omega arith
filter-few p q (x ∷ xs) t = few-by p q x xs (q x) (p x) refl refl (t x) (filter-few p q xs t)

less-by : (p q : ℕ → Bool) (x y : ℕ) (xs : List ℕ) (a b : Bool) → q y ≡ a → p y ≡ b → (a ≡ true → b ≡ true) → length (filter q xs) + 1 ≤ length (filter p xs) → length (filter q (y ∷ xs)) + 1 ≤ length (filter p (y ∷ xs))
less-by p q x y xs true true e f t l = rw (e, f) (omega arith)
less-by p q x y xs true false e f t l = absurd (let bad : false ≡ true = t refl in cc)
less-by p q x y xs false true e f t l = rw (e, f) (omega arith)
less-by p q x y xs false false e f t l = rw (e, f) l

less-at : (p q : ℕ → Bool) (y : ℕ) (xs : List ℕ) → p y ≡ true → q y ≡ false → length (filter q xs) ≤ length (filter p xs) → length (filter q (y ∷ xs)) + 1 ≤ length (filter p (y ∷ xs))
less-at p q y xs e f l = rw (e, f) (omega arith)

filter-less : (p q : ℕ → Bool) (x : ℕ) (xs : List ℕ) → ((n : ℕ) → q n ≡ true → p n ≡ true) → p x ≡ true → q x ≡ false → is_in xs x ≡ true → length (filter q xs) + 1 ≤ length (filter p xs)
filter-less p q x [] t e f h = absurd (cc)
filter-less p q x (y ∷ xs) t e f h = elim (eqb_tells y x) [
  | inl same ↦ less-at p q y xs (rw same.1 e) (rw same.1 f) (filter-few p q xs t)
  | inr differ ↦ less-by p q x y xs (q y) (p y) refl refl (t y) (filter-less p q x xs t e f (let s : is_in xs x ≡ true = rw differ.0 at h in s))
]

all-by : (p : ℕ → Bool) (x : ℕ) (xs : List ℕ) (b : Bool) → p x ≡ b → length (filter p xs) ≤ length xs → length (filter p (x ∷ xs)) ≤ length (x ∷ xs)
all-by p x xs true e l = rw e (omega arith)
all-by p x xs false e l = rw e (omega arith)

filter-all : (p : ℕ → Bool) (xs : List ℕ) → length (filter p xs) ≤ length xs
filter-all p [] = omega arith
filter-all p (x ∷ xs) = all-by p x xs (p x) refl (filter-all p xs)

-- a slot with one more response
abbrev pub with_put : OpenSlot → Put → OpenSlot
with_put s p = record s { puts = record { items = s.puts.items ++ p ∷ [] } }

-- a node that is due and has not decided
pub record Free (s : OpenSlot) (n : ℕ) : Type 0 where
  pub due : is_in s.due.items n ≡ true
  pub undecided : has_decided (slot_in s) n ≡ false

pub answer-free : (c : Parts) (capacity : ℕ) (past : List LogEntry) (by : PortId) (node : ℕ) (s : OpenSlot) (p : Put) → p.node ≡ node → refusal c capacity past by (Answer node) ≡ None → open_slot past ≡ Some (slot_in s) → Free s p.node
answer-free c capacity past by node s p own h is =
    let a = answer-allowed c capacity past by node h
    in rw own (record { due = (let t : is_in s.due.items node ≡ true = rw is at a.0 in t); undecided = (let t : has_decided (slot_in s) node ≡ false = rw is at a.1 in t) })

or-true : (a b : Bool) → a ≡ true → (a || b) ≡ true
or-true true b e = refl
or-true false b e = cc

decided-more : (s : OpenSlot) (p : Put) (n : ℕ) → has_decided (slot_in (with_put s p)) n ≡ ((list_any (λ (q : ℕ × List ℕ). q.0 == n) (map put_in s.puts.items) || ((p.node == n) || false)) || is_in s.left.items n)
decided-more s p n =
    ap (λ (ps : List (ℕ × List ℕ)). list_any (λ (q : ℕ × List ℕ). q.0 == n) ps || is_in s.left.items n) (map-append put_in s.puts.items (p ∷ []))
    ∙ ap (λ (b : Bool). b || is_in s.left.items n) (list_any-append (λ (q : ℕ × List ℕ). q.0 == n) (map put_in s.puts.items) ((p.node, p.answer) ∷ []))

stays-decided : (a b d : Bool) → not ((a || b) || d) ≡ true → not (a || d) ≡ true
stays-decided true b d e = cc
stays-decided false true d e = cc
stays-decided false false d e = e

now-decided : (a d : Bool) → not ((a || (true || false)) || d) ≡ false
now-decided true d = refl
now-decided false d = refl

not-flip : (b : Bool) → b ≡ false → not b ≡ true
not-flip true e = cc
not-flip false e = refl

pub fewer : (s : OpenSlot) (p : Put) → Free s p.node
    → length (filter (λ n. not (has_decided (slot_in (with_put s p)) n)) s.due.items) + 1 ≤ length (filter (λ n. not (has_decided (slot_in s) n)) s.due.items)
fewer s p free =
    filter-less (λ n. not (has_decided (slot_in s) n)) (λ n. not (has_decided (slot_in (with_put s p)) n)) p.node s.due.items
    (λ n t. stays-decided (list_any (λ (q : ℕ × List ℕ). q.0 == n) (map put_in s.puts.items)) ((p.node == n) || false) (is_in s.left.items n) (sym (ap not (decided-more s p n)) ∙ t))
    (not-flip (has_decided (slot_in s) p.node) free.undecided)
    (ap not (decided-more s p p.node) ∙ rw (own-test p.node) (now-decided (list_any (λ (q : ℕ × List ℕ). q.0 == p.node) (map put_in s.puts.items)) (is_in s.left.items p.node))) free.due

pub put-room : (c : Parts) (s : OpenSlot) (p : Put) → IsOpen c s → Free s p.node → length s.puts.items < 16
put-room c s p o free = let f = fewer s p free in let r = o.room in omega arith

pub put-open : (c : Parts) (s : OpenSlot) (p : Put) → IsOpen c s → Free s p.node → IsOpen c (with_put s p)
put-open c s p o free = record {
  there = o.there;
  kind_is = o.kind_is;
  known = o.known;
  request = o.request;
  answers = o.answers;
  served = o.served;
  room = let f = fewer s p free in let r = o.room in let n = length-append s.puts.items (p ∷ []) in omega arith;
}

-- a slot that has just opened
pub new-open : (c : Parts) (past : List LogEntry) (s : OpenSlot) (kind : Entry) → IsSound c → HasEntry c (s.table, s.entry) → s.kind ≡ (line_of c s.table s.entry).entry → IsEntry c s.kind → (line_of c s.table s.entry).entry ≡ kind → s.header ≡ header c past kind → s.service ≡ is_service c past kind → s.due.items ≡ due_nodes c past kind
    → s.puts.items ≡ [] → s.left.items ≡ [] → length s.due.items ≤ 16 → IsOpen c s
new-open c past s kind sound there own known line h served d e l few = record {
  there = there;
  kind_is = own;
  known = known;
  request = λ plain t. line ∙ request-is c past kind (sym served ∙ plain) sound (ap (header_is 0x3C) (sym h) ∙ t);
  answers = λ plain n i. rw (line, h) (can-answer c past kind n (in-filter (is_due c past kind) (numbers (nodes c)) n (ap (λ (ns : List ℕ). is_in ns n) (sym (d ∙ plain-due c past kind (sym served ∙ plain))) ∙ i)));
  served = λ yes. rw (line, h) (is-served c past kind (sym served ∙ yes));
  room = let none : length s.puts.items ≡ 0 = ap length e in let no : length s.left.items ≡ 0 = ap length l in let f = filter-all (λ n. not (has_decided (slot_in s) n)) s.due.items in omega arith;
}
