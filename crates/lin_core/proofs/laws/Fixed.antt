-- Fates stay, and nothing is accepted after a close.
use Rattle.std.proofs.Common.{◌≡◌, ℕ, zero, suc, Bool, true, false, List, [], ◌∷◌, ◌++◌, map, refl, ap, sym, ◌∙◌, subst, arith, append_assoc}
use Rattle.std.specs.Prelude.{Option, Some, None, ◌==◌, if◌then◌else◌}
use Rattle.std.proofs.lemmas.Bool.Decides.{nat_tests}
use Rattle.std.proofs.lemmas.List.{append-nil, map-append, append_cancel_left}
use Rattle.std.specs.Option.{option_map_or}
use Rattle.lin_parts.specs.declared.parts.Parts.{Parts}
use Rattle.lin_core.specs.History.{Slot, open_slot, is_sleep_asked, is_sleep_slot, is_host_closed as is_closed, done}
use Rattle.lin_core.specs.Links.{Link, same_link, link_of, Message, accepted_from, Fate, blocks, sent_from}
use Rattle.lin_core.specs.Replies.{refusal, refusals, done_events, reply}
use Rattle.lin_parts.specs.Sound.{IsSound}
use Rattle.lin_core.specs.declared.log.LogEntry.{LogEntry}
use Rattle.lin_core.specs.declared.port.PortId.{PortId}
use Rattle.lin_core.specs.declared.step.Step.{Step}
use Rattle.lin_core.specs.declared.step.Step.TheVariants.{Send, Write, Open, Answer, Leave, Hurt, Finish, Timeout, Switch, AskSleep, Wake, Close}
use Rattle.lin_core.specs.declared.event.Event.{Event}
use Rattle.lin_core.specs.declared.reply.Reply.TheVariants.{Done, Refused}
use Rattle.lin_core.specs.declared.reply.Refusal.{Refusal}
use Rattle.lin_core.specs.declared.link.Cause.{Cause}
use Rattle.lin_core.specs.declared.link.Cause.TheVariants.{TimedOut, Slept}
use Rattle.lin_core.proofs.sendings.Hosts.{HostState, message_of}
use Rattle.lin_core.proofs.sendings.Moves.{record_of, advanced, is_last, marked}
use Rattle.lin_core.specs.Links.Fate.{Lost}
use Rattle.lin_core.specs.Runs.{history, entry_of}
use Rattle.lin_core.proofs.steps.Known.{SlotIs, Known, finish-known, served-known}
use Rattle.lin_core.proofs.steps.Known.SlotIs.{closed, served, other, master, slave, sleep, carries}
use Rattle.lin_core.proofs.steps.Steps.{history-known, step-known, none-of, AllFalse, more_if}
use Rattle.lin_core.proofs.links.Results.{outcomes, waiting_one}
use Rattle.lin_core.specs.Law.{outcomes_of, Stays, NoSendAfterClose}
use Rattle.lin_core.proofs.laws.Ends.{Held, held-now}

-- settled messages stay settled
pub record Grows (a b : HostState) : Type 0 where
  pub more : List (Message × Fate)
  pub is : b.done ≡ a.done ++ more

pub same-grows : (a : HostState) → Grows a a
same-grows a = record { more = []; is = sym (append-nil a.done) }

pub cut-grows : (b : Bool) (cause : Cause) (done : List (Message × Fate)) (m : Message) (ms : List Message) (j : ℕ)
    → Grows (record { done = done; rest = m ∷ ms; count = suc j }) (if b then record { done = done ++ (m, Lost cause) ∷ []; rest = ms; count = 0 } else record { done = done; rest = m ∷ ms; count = suc j })
cut-grows true cause done m ms j = record { more = (m, Lost cause) ∷ []; is = refl }
cut-grows false cause done m ms j = record { more = []; is = sym (append-nil done) }

pub marked-grows : (t : Link → Bool) (cause : Cause) (done : List (Message × Fate)) (rest : List Message) (k : ℕ) → Grows (record { done = done; rest = rest; count = k }) (marked t cause done rest k)
marked-grows t cause done rest zero = record { more = []; is = sym (append-nil done) }
marked-grows t cause done [] (suc j) = record { more = []; is = sym (append-nil done) }
marked-grows t cause done (m ∷ ms) (suc j) = cut-grows (t m.link) cause done m ms j

pub advanced-grows : (hurt last : Bool) (s : HostState) (m : Message) (ms : List Message) (k : ℕ) → Grows s (advanced hurt last s.done m ms k)
advanced-grows true last s m ms k = record { more = _; is = refl }
advanced-grows false true s m ms k = record { more = _; is = refl }
advanced-grows false false s m ms k = record { more = []; is = sym (append-nil s.done) }

pub if-grows : (b : Bool) (s x y : HostState) → (b ≡ true → Grows s x) → Grows s y → Grows s (if b then x else y)
if-grows true s x y p q = p refl
if-grows false s x y p q = q

pub more-grows : (b : Bool) (m : Message) (s : HostState) → Grows s (more_if b m s)
more-grows true m s = record { more = []; is = sym (append-nil s.done) }
more-grows false m s = same-grows s

served-grows : (c : Parts) (past : List LogEntry) (port : PortId) (es : List Event) (s : Slot) (b : Bool) (is : open_slot past ≡ Some s) (e : s.service ≡ true) (h : is_sleep_slot s ≡ b) (k : Known c past) (x : ℕ)
    → Grows (k.states x) ((served-known c past port es s b is e h k).states x)
served-grows c past port es s true is e h k x = marked-grows (λ l. true) Slept (k.states x).done (k.states x).rest (k.states x).count
served-grows c past port es s false is e h k x = same-grows (k.states x)

pub finish-grows : (c : Parts) (past : List LogEntry) (port : PortId) (es : List Event) (sound : IsSound c) (k : Known c past) (o : Option Slot) (is : open_slot past ≡ o) (shape : SlotIs c (is_sleep_asked past) k.states o) (x : ℕ)
    → Grows (k.states x) ((finish-known c past port es sound k o is shape).states x)
finish-grows c past port es sound k None is closed x = same-grows (k.states x)
finish-grows c past port es sound k (Some _) is (served s e) x = served-grows c past port es s (is_sleep_slot s) is e refl k x
finish-grows c past port es sound k (Some _) is (other s p q) x = same-grows (k.states x)
finish-grows c past port es sound k (Some _) is (master table entry due left hurt line only w) x = same-grows (k.states x)
finish-grows c past port es sound k (Some _) is (slave table entry due left hurt h line only w) x = same-grows (k.states x)
finish-grows c past port es sound k (Some _) is (sleep table entry due left true only) x = same-grows (k.states x)
finish-grows c past port es sound k (Some _) is (sleep table entry due left false only) x = marked-grows (λ l. true) Slept (k.states x).done (k.states x).rest (k.states x).count
finish-grows c past port es sound k (Some _) is (carries table entry due left hurt h m ms j only host r n) x =
    if-grows (h == x) (k.states x) (advanced hurt (is_last m.bytes j) (k.states h).done m ms j) (k.states x)
    (λ e. let same : h ≡ x = grind (arith, nat_tests, e) in subst (λ (y : ℕ). Grows (k.states y) (advanced hurt (is_last m.bytes j) (k.states h).done m ms j)) same (advanced-grows hurt (is_last m.bytes j) (k.states h) m ms j)) (same-grows (k.states x))

pub step-grows : (c : Parts) (opening capacity : ℕ) (past : List LogEntry) (port : PortId) (step : Step) (sound : IsSound c) (k : Known c past) (r : Option Refusal) (e : refusal c capacity past port step ≡ r) (x : ℕ)
    → Grows (k.states x) ((step-known c opening capacity past port step sound k r e).states x)
step-grows c opening capacity past port step sound k (Some r) e x = same-grows (k.states x)
step-grows c opening capacity past port (Send from to message) sound k None e x = more-grows (from == x) (record { link = link_of from to; bytes = message }) (k.states x)
step-grows c opening capacity past port (Write by signal value) sound k None e x = same-grows (k.states x)
step-grows c opening capacity past port Open sound k None e x = same-grows (k.states x)
step-grows c opening capacity past port (Answer node) sound k None e x = same-grows (k.states x)
step-grows c opening capacity past port (Leave node) sound k None e x = same-grows (k.states x)
step-grows c opening capacity past port (Hurt bytes) sound k None e x = same-grows (k.states x)
step-grows c opening capacity past port Finish sound k None e x = finish-grows c past port (done_events c opening past port Finish) sound k (open_slot past) refl k.slot x
step-grows c opening capacity past port (Timeout node dir) sound k None e x = marked-grows (λ l. same_link l (record_of node dir)) TimedOut (k.states x).done (k.states x).rest (k.states x).count
step-grows c opening capacity past port (Switch table) sound k None e x = same-grows (k.states x)
step-grows c opening capacity past port AskSleep sound k None e x = same-grows (k.states x)
step-grows c opening capacity past port Wake sound k None e x = same-grows (k.states x)
step-grows c opening capacity past port (Close host) sound k None e x = same-grows (k.states x)

-- so fates stay
pub stays-waiting : (ms : List Message) (ys : List (Message × Fate)) (new : List Message) → map message_of ys ≡ ms ++ new → Stays (map waiting_one ms) ys
stays-waiting [] ys new e = tt
stays-waiting (m ∷ ms) [] new e = cc
stays-waiting (m ∷ ms) (y ∷ ys) new e = (let h : y.0 ≡ m = cc in h, (λ w. cc), stays-waiting ms ys new (let h : map message_of ys ≡ ms ++ new = cc in h))

pub stays-done : (ps xs ys : List (Message × Fate)) → Stays xs ys → Stays (ps ++ xs) (ps ++ ys)
stays-done [] xs ys s = s
stays-done (p ∷ ps) xs ys s = (refl, (λ w. refl), stays-done ps xs ys s)

pub waiting-messages : (ms : List Message) → map message_of (map waiting_one ms) ≡ ms
waiting-messages [] = refl
waiting-messages (m ∷ ms) = ap (λ (xs : List Message). m ∷ xs) (waiting-messages ms)

pub stays-by : (a b : HostState) (rest rest' new : List Message) → Grows a b → map message_of b.done ++ rest' ≡ (map message_of a.done ++ rest) ++ new → Stays (a.done ++ map waiting_one rest) (b.done ++ map waiting_one rest')
stays-by a b rest rest' new g e =
    let cut : map message_of a.done ++ (map message_of g.more ++ rest') ≡ map message_of a.done ++ (rest ++ new)
    = sym (append_assoc (map message_of a.done) (map message_of g.more) rest') ∙ ap (λ (xs : List Message). xs ++ rest') (sym (map-append message_of a.done g.more)) ∙ ap (λ (xs : List (Message × Fate)). map message_of xs ++ rest') (sym g.is) ∙ e ∙ append_assoc (map message_of a.done) rest new
    in let ms : map message_of (g.more ++ map waiting_one rest') ≡ rest ++ new
    = map-append message_of g.more (map waiting_one rest') ∙ ap (λ (xs : List Message). map message_of g.more ++ xs) (waiting-messages rest') ∙ append_cancel_left (map message_of a.done) (map message_of g.more ++ rest') (rest ++ new) cut
    in rw (g.is, append_assoc a.done g.more (map waiting_one rest')) (stays-done a.done (map waiting_one rest) (g.more ++ map waiting_one rest') (stays-waiting rest (g.more ++ map waiting_one rest') new ms))

pub accepted-grows : (o : Option Message) (xs : List Message) → (new : List Message) × (option_map_or (λ m. xs ++ m ∷ []) o xs ≡ xs ++ new)
accepted-grows None xs = ([], sym (append-nil xs))
accepted-grows (Some m) xs = (m ∷ [], refl)

pub fates-stay : (c : Parts) (opening capacity : ℕ) (s : PortId × Step) (earlier : List (PortId × Step)) → IsSound c → (h : ℕ)
    → Stays (outcomes_of c (history c opening capacity earlier) h) (outcomes_of c (history c opening capacity (s ∷ earlier)) h)
unfolding reply
fates-stay c opening capacity s earlier sound h =
    let past : List LogEntry = history c opening capacity earlier
    in let e : LogEntry = entry_of c opening capacity past s
    in let k : Known c past = history-known c opening capacity earlier sound
    in let k' : Known c (e ∷ past) = step-known c opening capacity past s.0 s.1 sound k (refusal c capacity past s.0 s.1) refl
    in let g : Grows (k.states h) (k'.states h) = step-grows c opening capacity past s.0 s.1 sound k (refusal c capacity past s.0 s.1) refl h
    in let a : Held c past h (k.states h).done = held-now c past h sound k
    in let b : Held c (e ∷ past) h (k'.states h).done = held-now c (e ∷ past) h sound k'
    in let new = accepted-grows (option_map_or (sent_from h) (done e) None) (accepted_from past h)
    in rw (
      outcomes c h (blocks c past) (accepted_from past h) (k.states h).done a.rest a.block a.holds,
      outcomes c h (blocks c (e ∷ past)) (accepted_from (e ∷ past) h) (k'.states h).done b.rest b.block b.holds,
    )
    (stays-by (k.states h) (k'.states h) a.rest b.rest new.0 g (sym b.holds.accepted_is ∙ new.1 ∙ ap (λ (xs : List Message). xs ++ new.0) a.holds.accepted_is))

-- nothing is accepted after a close
pub no-send-by : (c : Parts) (opening capacity : ℕ) (past : List LogEntry) (port : PortId) (step : Step) (h : ℕ) (r : Option Refusal) → refusal c capacity past port step ≡ r
    → NoSendAfterClose (record { port = port; step = step; reply = option_map_or Refused r (Done (done_events c opening past port step)) }) past h
no-send-by c opening capacity past port step h (Some r) e d = cc
no-send-by c opening capacity past port (Send from to message) h None e d =
    let all : AllFalse (refusals c capacity past port (Send from to message)) = none-of (refusals c capacity past port (Send from to message)) e
    in let same : from ≡ h = grind (arith, nat_tests, d)
    in subst (λ (x : ℕ). is_closed past x ≡ false) same all.1.1.1.0
no-send-by c opening capacity past port (Write by signal value) h None e d = cc
no-send-by c opening capacity past port Open h None e d = cc
no-send-by c opening capacity past port (Answer node) h None e d = cc
no-send-by c opening capacity past port (Leave node) h None e d = cc
no-send-by c opening capacity past port (Hurt bytes) h None e d = cc
no-send-by c opening capacity past port Finish h None e d = cc
no-send-by c opening capacity past port (Timeout node dir) h None e d = cc
no-send-by c opening capacity past port (Switch table) h None e d = cc
no-send-by c opening capacity past port AskSleep h None e d = cc
no-send-by c opening capacity past port Wake h None e d = cc
no-send-by c opening capacity past port (Close host) h None e d = cc

pub no-send : (c : Parts) (opening capacity : ℕ) (s : PortId × Step) (earlier : List (PortId × Step)) (h : ℕ)
    → NoSendAfterClose (entry_of c opening capacity (history c opening capacity earlier) s) (history c opening capacity earlier) h
unfolding reply
no-send c opening capacity s earlier h =
    no-send-by c opening capacity (history c opening capacity earlier) s.0 s.1 h (refusal c capacity (history c opening capacity earlier) s.0 s.1) refl
