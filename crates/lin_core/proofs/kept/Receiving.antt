-- What the receivers of the links hear of each step.
use Rattle.std.proofs.Common.{◌≡◌, ◌≢◌, ℕ, ◌<◌, Bool, true, false, List, [], ◌∷◌, ◌++◌, length, refl, ap, sym, ◌∙◌, subst, arith, inl, inr}
use Rattle.std.specs.Prelude.{Option, Some, None, drop, if◌then◌else◌, is_some, option_to_list, slice_get, slice_index, slice_set}
use Rattle.std.proofs.Math.ListN.{length-set}
use Rattle.std.proofs.lemmas.Bool.Decides.{eqb_tells}
use Rattle.std.proofs.lemmas.List.{drop_at}
use Rattle.std.proofs.lemmas.Option.{slice_get_within}
use Rattle.lin_transport.specs.Transport.{Ear, Heard, frame, heard_to, looks_at, messages_to}
use Rattle.lin_transport.specs.Transport.Heard.{Frame, Reset}
use Rattle.lin_transport.specs.Receiver.{HasHeard, Reads, Reception}
use Rattle.lin_parts.specs.Cluster.{nad}
use Rattle.lin_parts.specs.Sound.{IsSound}
use Rattle.lin_parts.specs.declared.parts.Parts.{Parts}
use Rattle.lin_core.specs.History.{Slot, is_sleep_asked, is_sleep_slot, open_slot}
use Rattle.lin_core.specs.kept.Receivers.{HaveHeardAlike, AreReset, HearAll, HearsOn, HearsToo, IsReset, KeepsHeard, KeepsReceiver, opposite, receiver_in}
use Rattle.lin_core.specs.Links.{Link, Message, accepted_from, link_address, ear_on, goes_over, heard_on, is_down, is_to_all, reading, same_link, signs}
use Rattle.lin_core.specs.kept.Slots.{is_still, pdu_of}
use Rattle.lin_core.specs.Replies.{link_at}
use Rattle.lin_core.specs.Slots.{with_classic}
use Rattle.lin_core.specs.declared.event.Event.{Event}
use Rattle.lin_core.specs.declared.link.Direction.{Direction}
use Rattle.lin_core.specs.declared.link.Direction.TheVariants.{Down, Up}
use Rattle.lin_core.specs.declared.pdu.Pdu.{Pdu}
use Rattle.lin_core.specs.declared.pdu.Pdu.TheVariants.{OfMessage, Nothing, Sleep}
use Rattle.lin_core.specs.declared.log.LogEntry.{LogEntry}
use Rattle.lin_core.specs.declared.port.PortId.{PortId}
use Rattle.lin_core.specs.declared.receivers.Receivers.{Receivers}
use Rattle.lin_core.specs.declared.step.Step.TheVariants.{Finish, Timeout}
use Rattle.lin_transport.proofs.Frames.{frame-address}
use Rattle.lin_core.proofs.links.Finishes.{IsPlace, empty-quiet, finish-heard, frame-adds, frame-is, frame_slot, other-quiet, same-cond, served-quiet, served-sleeps, sleep-good, sleep-hurt, sleep_slot, slot_of, some-address}
use Rattle.lin_core.proofs.sendings.Hosts.{CanGo, IsLink, same-self}
use Rattle.lin_core.proofs.steps.Known.{Known, SlotIs, entry_is, has-nad, place-of}
use Rattle.lin_core.proofs.steps.Known.SlotIs.{carries, closed, master, other, served, slave, sleep}
use Rattle.lin_core.proofs.sendings.Moves.{heard_by, over-all, over-host, over-is, over-self, record_of, same-is, to-all-is}
use Rattle.lin_core.proofs.kept.Places.{get-there, set-other, set-own}
use Rattle.lin_core.proofs.steps.Steps.{first-go}
use Rattle.lin_core.proofs.sendings.Turns.{asleep-unhurt, pdu-frame, other-pdu, served-pdu}

-- == nothing is heard
receiver-same : (c : Parts) (past past' : List LogEntry) (l : Link) (r : Reception) → heard_on c past' l ≡ heard_on c past l → KeepsReceiver c past l r → KeepsReceiver c past' l r
receiver-same c past past' l r e k = record { ear_is = k.ear_is; stands = subst (λ (x : List Heard). HasHeard r x) (sym e) k.stands }

pub heard-same : (c : Parts) (past past' : List LogEntry) (rs : List Receivers) → ((l : Link) → is_some (nad c l.node) ≡ true → heard_on c past' l ≡ heard_on c past l) → KeepsHeard c past rs → KeepsHeard c past' rs
heard-same c past past' rs same k = record {
  count = k.count;
  each = λ h r d at a. receiver-same c past past' (link_at h d) (receiver_in d r) (same (link_at h d) a) (k.each h r d at a);
}

-- == one link's receiver hears something
by-dir : (c : Parts) (past past' : List LogEntry) (n : ℕ) (e d : Direction) (own new : Receivers) → KeepsReceiver c past' (link_at n e) (receiver_in e new) → receiver_in (opposite e) new ≡ receiver_in (opposite e) own
    → ((x : Link) → x ≢ link_at n e → x.node ≡ n → heard_on c past' x ≡ heard_on c past x) → KeepsReceiver c past (link_at n d) (receiver_in d own) → KeepsReceiver c past' (link_at n d) (receiver_in d new)
by-dir c past past' n Down Down own new k o same was = k
by-dir c past past' n Up Up own new k o same was = k
by-dir c past past' n Down Up own new k o same was =
    subst (KeepsReceiver c past' (link_at n Up)) (sym o) (receiver-same c past past' (link_at n Up) own.up (same (link_at n Up) (λ e. let bad : Up ≡ Down = ap (λ (l : Link). l.dir) e in cc) refl) was)
by-dir c past past' n Up Down own new k o same was =
    subst (KeepsReceiver c past' (link_at n Down)) (sym o) (receiver-same c past past' (link_at n Down) own.down (same (link_at n Down) (λ e. let bad : Down ≡ Up = ap (λ (l : Link). l.dir) e in cc) refl) was)

pub heard-one : (c : Parts) (past past' : List LogEntry) (rs : List Receivers) (l : Link) (own new : Receivers) → slice_get rs l.node ≡ Some own → KeepsReceiver c past' l (receiver_in l.dir new)
    → receiver_in (opposite l.dir) new ≡ receiver_in (opposite l.dir) own → ((x : Link) → is_some (nad c x.node) ≡ true → x ≢ l → heard_on c past' x ≡ heard_on c past x) → KeepsHeard c past rs → KeepsHeard c past' (slice_set rs l.node new)
heard-one c past past' rs l own new at keeps o same k = record {
  count = length-set rs l.node new ∙ k.count;
  each = λ h r d there a. elim (eqb_tells l.node h) [
    | inl hit ↦
        let here : slice_get (slice_set rs l.node new) h ≡ Some new = subst (λ (n : ℕ). slice_get (slice_set rs l.node new) n ≡ Some new) hit.1 (set-own rs l.node own new at) in
        let both : Some r ≡ Some new = sym there ∙ here in
        let is : r ≡ new = cc in
        let own_nad : is_some (nad c l.node) ≡ true = subst (λ (n : ℕ). is_some (nad c n) ≡ true) (sym hit.1) a in
        subst (λ (y : Receivers). KeepsReceiver c past' (link_at h d) (receiver_in d y)) (sym is)
        (subst (λ (n : ℕ). KeepsReceiver c past' (link_at n d) (receiver_in d new)) hit.1
        (by-dir c past past' l.node l.dir d own new keeps o (λ x differ e. same x (subst (λ (n : ℕ). is_some (nad c n) ≡ true) (sym e) own_nad) differ) (k.each l.node own d at own_nad)))
    | inr differ ↦
        let was : slice_get rs h ≡ Some r = sym (set-other rs l.node h new differ.1) ∙ there in
        receiver-same c past past' (link_at h d) (receiver_in d r) (same (link_at h d) a (λ e. differ.1 (sym (ap (λ (x : Link). x.node) e)))) (k.each h r d was a)
  ];
}

-- == receivers that are reset
reset-of : (d : Direction) (x y : Receivers) → AreReset x y → IsReset (receiver_in d x) (receiver_in d y)
reset-of Down x y r = r.down
reset-of Up x y r = r.up

pub receiver-reset : (c : Parts) (past past' : List LogEntry) (l : Link) (old new : Reception) → IsReset old new → heard_on c past' l ≡ Reset ∷ heard_on c past l → KeepsReceiver c past l old → KeepsReceiver c past' l new
receiver-reset c past past' l old new r e k = record { ear_is = r.ear ∙ k.ear_is; stands = subst (λ (x : List Heard). HasHeard new x) (sym e) (r.ends (heard_on c past l)) }

pub heard-reset : (c : Parts) (past past' : List LogEntry) (rs new : List Receivers) → length new ≡ length rs → ((h : ℕ) (x y : Receivers) → slice_get rs h ≡ Some x → slice_get new h ≡ Some y → AreReset x y)
    → ((l : Link) → is_some (nad c l.node) ≡ true → heard_on c past' l ≡ Reset ∷ heard_on c past l) → KeepsHeard c past rs → KeepsHeard c past' new
heard-reset c past past' rs new count resets heard k = record {
  count = count ∙ k.count;
  each = λ h y d at a.
      let below : h < length new = slice_get_within new h y at in
      let x = get-there rs h (omega arith) in
      receiver-reset c past past' (link_at h d) (receiver_in d x.0) (receiver_in d y) (reset-of d x.0 y (resets h x.0 y x.1 at)) (heard (link_at h d) a) (k.each h x.0 d x.1 a);
}

-- == what a finish adds
-- the slot carries this frame of the first message of a host
pub record CarriesFrame (c : Parts) (past : List LogEntry) (by : PortId) (k : Known c past) (s : Slot) (h : ℕ) : Type 0 where
  pub message : Message
  pub later : List Message
  pub first : (k.states h).rest ≡ message ∷ later
  pub go : CanGo c h message
  pub puts : s.puts ≡ (h, with_classic (frame (link_address c message.link) message.bytes (k.states h).count)) ∷ []
  pub heard : (es : List Event) (l : Link) → is_some (nad c l.node) ≡ true
      → heard_on c (entry_is by Finish es ∷ past) l ≡ (if goes_over message.link l then heard_by s.hurt (frame (link_address c message.link) message.bytes (k.states h).count) else []) ++ heard_on c past l

served-none : (s : Slot) (h : ℕ) (b : Bool) → s.service ≡ true → is_sleep_slot s ≡ b → pdu_of s ≡ OfMessage h → ⊥
served-none s h true serving e pdu = let bad : Sleep ≡ OfMessage h = sym (served-pdu s true serving e) ∙ pdu in cc
served-none s h false serving e pdu = let bad : Nothing ≡ OfMessage h = sym (served-pdu s false serving e) ∙ pdu in cc

frame-by : (c : Parts) (past : List LogEntry) (by : PortId) (sound : IsSound c) (k : Known c past) (o : Option Slot) (s : Slot) (h : ℕ) → open_slot past ≡ o → SlotIs c (is_sleep_asked past) k.states o → o ≡ Some s → pdu_of s ≡ OfMessage h → CarriesFrame c past by k s h
frame-by c past by sound k None s h is closed e pdu = cc
frame-by c past by sound k (Some _) s h is (served t serving) e pdu = absurd (let same : t ≡ s = cc in served-none t h (is_sleep_slot t) serving refl (ap pdu_of same ∙ pdu))
frame-by c past by sound k (Some _) s h is (other t p q) e pdu = absurd (let same : t ≡ s = cc in let bad : Nothing ≡ OfMessage h = sym (other-pdu t p q) ∙ ap pdu_of same ∙ pdu in cc)
frame-by c past by sound k (Some _) s h is (master table entry due left hurt line only w) e pdu =
    absurd (let t : Slot = slot_of table entry (Some 0x3C) due [] left hurt in let same : t ≡ s = cc in let bad : Nothing ≡ OfMessage h = ap pdu_of same ∙ pdu in cc)
frame-by c past by sound k (Some _) s h is (slave table entry due left hurt g line only w) e pdu =
    absurd (let t : Slot = slot_of table entry (Some 0x7D) due [] left hurt in let same : t ≡ s = cc in let bad : Nothing ≡ OfMessage h = ap pdu_of same ∙ pdu in cc)
frame-by c past by sound k (Some _) s h is (sleep table entry due left hurt only) e pdu =
    absurd (let t : Slot = sleep_slot table entry due left hurt in let same : t ≡ s = cc in let bad : Sleep ≡ OfMessage h = ap pdu_of same ∙ pdu in cc)
frame-by c past by sound k (Some _) s h is (carries table entry due left hurt g m ms j only host r n) e pdu =
    let f : List ℕ = frame (link_address c m.link) m.bytes j
    in let t : Slot = frame_slot table entry due left hurt m.link f
    in let go : CanGo c g m = first-go c g (accepted_from past g) (heard_on c past) (signs c past) (k.states g) m ms r (k.hosts g)
    in let place : IsPlace c m.link = place-of c g m go
    in let same : t ≡ s = cc
    in let pdu_is : pdu_of t ≡ OfMessage g = pdu-frame table entry due left hurt m.link.node m.link.dir f (link_address c m.link) (some-address c m.link sound place) (frame-is (link_address c m.link) m.bytes j) ∙ ap OfMessage host
    in let both : OfMessage g ≡ OfMessage h = sym pdu_is ∙ ap pdu_of same ∙ pdu
    in let hosts : g ≡ h = cc
    in let own : CarriesFrame c past by k t g = record {
      message = m;
      later = ms;
      first = r;
      go = go;
      puts = rw n (ap (λ (x : ℕ). (x, with_classic f) ∷ []) host);
      heard = λ es l b. rw n (finish-heard c past by es t l is ∙ ap (λ (x : List Heard). x ++ heard_on c past l) (frame-adds c table entry due left hurt m.link l f sound place (has-nad c l.node b) (frame-is (link_address c m.link) m.bytes j)).heard);
    }
    in subst (λ (x : ℕ). CarriesFrame c past by k s x) hosts (subst (λ (y : Slot). CarriesFrame c past by k y g) same own)

pub carries-frame : (c : Parts) (past : List LogEntry) (by : PortId) (sound : IsSound c) (k : Known c past) (s : Slot) (h : ℕ) → open_slot past ≡ Some s → pdu_of s ≡ OfMessage h → CarriesFrame c past by k s h
carries-frame c past by sound k s h is pdu = frame-by c past by sound k (open_slot past) s h refl k.slot is pdu

-- a damaged one isn't heard
pub hurt-heard : (c : Parts) (past : List LogEntry) (by : PortId) (k : Known c past) (s : Slot) (h : ℕ) → CarriesFrame c past by k s h → s.hurt ≡ true → (es : List Event) (l : Link) → is_some (nad c l.node) ≡ true
    → heard_on c (entry_is by Finish es ∷ past) l ≡ heard_on c past l
hurt-heard c past by k s h i hurt es l a = i.heard es l a ∙ rw (hurt, same-cond (goes_over i.message.link l)) refl

-- a slot by which nothing moves adds nothing
served-still : (c : Parts) (past : List LogEntry) (by : PortId) (es : List Event) (s : Slot) (b : Bool) → open_slot past ≡ Some s → s.service ≡ true → is_sleep_slot s ≡ b → is_still (pdu_of s) s.hurt ≡ true → (l : Link) → heard_on c (entry_is by Finish es ∷ past) l ≡ heard_on c past l
served-still c past by es s true is serving asleep still l = absurd (let bad : false ≡ true = rw (served-pdu s true serving asleep, asleep-unhurt s asleep) at still in cc)
served-still c past by es s false is serving awake still l = finish-heard c past by es s l is ∙ ap (λ (x : List Heard). x ++ heard_on c past l) (served-quiet c s l serving awake).heard

still-by : (c : Parts) (past : List LogEntry) (by : PortId) (es : List Event) (sound : IsSound c) (k : Known c past) (o : Option Slot) (s : Slot) → open_slot past ≡ o → SlotIs c (is_sleep_asked past) k.states o → o ≡ Some s → is_still (pdu_of s) s.hurt ≡ true
    → (l : Link) → is_some (nad c l.node) ≡ true → heard_on c (entry_is by Finish es ∷ past) l ≡ heard_on c past l
still-by c past by es sound k None s is closed e still l a = cc
still-by c past by es sound k (Some _) s is (served t serving) e still l a =
    let same : t ≡ s = cc in served-still c past by es t (is_sleep_slot t) is serving refl (subst (λ (y : Slot). is_still (pdu_of y) y.hurt ≡ true) (sym same) still) l
still-by c past by es sound k (Some _) s is (other t p q) e still l a = finish-heard c past by es t l is ∙ ap (λ (x : List Heard). x ++ heard_on c past l) (other-quiet c t l.node l.dir p q).heard
still-by c past by es sound k (Some _) s is (master table entry due left hurt line only w) e still l a =
    finish-heard c past by es (slot_of table entry (Some 0x3C) due [] left hurt) l is ∙ ap (λ (x : List Heard). x ++ heard_on c past l) (empty-quiet c table entry (Some 0x3C) due left hurt l.node l.dir).heard
still-by c past by es sound k (Some _) s is (slave table entry due left hurt g line only w) e still l a =
    finish-heard c past by es (slot_of table entry (Some 0x7D) due [] left hurt) l is ∙ ap (λ (x : List Heard). x ++ heard_on c past l) (empty-quiet c table entry (Some 0x7D) due left hurt l.node l.dir).heard
still-by c past by es sound k (Some _) s is (sleep table entry due left true only) e still l a =
    finish-heard c past by es (sleep_slot table entry due left true) l is ∙ ap (λ (x : List Heard). x ++ heard_on c past l) (sleep-hurt c table entry due left l.node l.dir sound (has-nad c l.node a)).heard
still-by c past by es sound k (Some _) s is (sleep table entry due left false only) e still l a =
    absurd (let t : Slot = sleep_slot table entry due left false in let same : t ≡ s = cc in let bad : false ≡ true = ap (λ (y : Slot). is_still (pdu_of y) y.hurt) same ∙ still in cc)
still-by c past by es sound k (Some _) s is (carries table entry due left hurt g m ms j only host r n) e still l a =
    absurd (
    let f : List ℕ = frame (link_address c m.link) m.bytes j
    in let t : Slot = frame_slot table entry due left hurt m.link f
    in let go : CanGo c g m = first-go c g (accepted_from past g) (heard_on c past) (signs c past) (k.states g) m ms r (k.hosts g)
    in let same : t ≡ s = cc
    in let pdu_is = pdu-frame table entry due left hurt m.link.node m.link.dir f (link_address c m.link) (some-address c m.link sound (place-of c g m go)) (frame-is (link_address c m.link) m.bytes j)
    in let bad : false ≡ true = sym (ap (λ (x : Pdu). is_still x hurt) pdu_is) ∙ ap (λ (y : Slot). is_still (pdu_of y) y.hurt) same ∙ still
    in cc
    )

pub still-heard : (c : Parts) (past : List LogEntry) (by : PortId) (es : List Event) (sound : IsSound c) (k : Known c past) (s : Slot) → open_slot past ≡ Some s → is_still (pdu_of s) s.hurt ≡ true
    → (l : Link) → is_some (nad c l.node) ≡ true → heard_on c (entry_is by Finish es ∷ past) l ≡ heard_on c past l
still-heard c past by es sound k s is still l a = still-by c past by es sound k (open_slot past) s refl k.slot is still l a

-- the sleep frame resets each receiver
served-asleep : (c : Parts) (past : List LogEntry) (by : PortId) (es : List Event) (s : Slot) (b : Bool) → open_slot past ≡ Some s → s.service ≡ true → is_sleep_slot s ≡ b → pdu_of s ≡ Sleep → (l : Link) → heard_on c (entry_is by Finish es ∷ past) l ≡ Reset ∷ heard_on c past l
served-asleep c past by es s true is serving asleep pdu l = finish-heard c past by es s l is ∙ ap (λ (x : List Heard). x ++ heard_on c past l) (served-sleeps c s l serving asleep).heard
served-asleep c past by es s false is serving awake pdu l = absurd (let bad : Nothing ≡ Sleep = sym (served-pdu s false serving awake) ∙ pdu in cc)

sleep-by : (c : Parts) (past : List LogEntry) (by : PortId) (es : List Event) (sound : IsSound c) (k : Known c past) (o : Option Slot) (s : Slot) → open_slot past ≡ o → SlotIs c (is_sleep_asked past) k.states o → o ≡ Some s → pdu_of s ≡ Sleep → s.hurt ≡ false
    → (l : Link) → is_some (nad c l.node) ≡ true → heard_on c (entry_is by Finish es ∷ past) l ≡ Reset ∷ heard_on c past l
sleep-by c past by es sound k None s is closed e pdu calm l a = cc
sleep-by c past by es sound k (Some _) s is (served t serving) e pdu calm l a =
    let same : t ≡ s = cc in served-asleep c past by es t (is_sleep_slot t) is serving refl (ap pdu_of same ∙ pdu) l
sleep-by c past by es sound k (Some _) s is (other t p q) e pdu calm l a = absurd (let same : t ≡ s = cc in let bad : Nothing ≡ Sleep = sym (other-pdu t p q) ∙ ap pdu_of same ∙ pdu in cc)
sleep-by c past by es sound k (Some _) s is (master table entry due left hurt line only w) e pdu calm l a =
    absurd (let t : Slot = slot_of table entry (Some 0x3C) due [] left hurt in let same : t ≡ s = cc in let bad : Nothing ≡ Sleep = ap pdu_of same ∙ pdu in cc)
sleep-by c past by es sound k (Some _) s is (slave table entry due left hurt g line only w) e pdu calm l a =
    absurd (let t : Slot = slot_of table entry (Some 0x7D) due [] left hurt in let same : t ≡ s = cc in let bad : Nothing ≡ Sleep = ap pdu_of same ∙ pdu in cc)
sleep-by c past by es sound k (Some _) s is (sleep table entry due left true only) e pdu calm l a =
    absurd (let t : Slot = sleep_slot table entry due left true in let same : t ≡ s = cc in let bad : true ≡ false = ap (λ (y : Slot). y.hurt) same ∙ calm in cc)
sleep-by c past by es sound k (Some _) s is (sleep table entry due left false only) e pdu calm l a =
    finish-heard c past by es (sleep_slot table entry due left false) l is ∙ ap (λ (x : List Heard). x ++ heard_on c past l) (sleep-good c table entry due left l.node l.dir sound (has-nad c l.node a)).heard
sleep-by c past by es sound k (Some _) s is (carries table entry due left hurt g m ms j only host r n) e pdu calm l a =
    absurd (
    let f : List ℕ = frame (link_address c m.link) m.bytes j
    in let t : Slot = frame_slot table entry due left hurt m.link f
    in let go : CanGo c g m = first-go c g (accepted_from past g) (heard_on c past) (signs c past) (k.states g) m ms r (k.hosts g)
    in let same : t ≡ s = cc
    in let pdu_is = pdu-frame table entry due left hurt m.link.node m.link.dir f (link_address c m.link) (some-address c m.link sound (place-of c g m go)) (frame-is (link_address c m.link) m.bytes j)
    in let bad : OfMessage _ ≡ Sleep = sym pdu_is ∙ ap pdu_of same ∙ pdu
    in cc
    )

pub sleep-heard : (c : Parts) (past : List LogEntry) (by : PortId) (es : List Event) (sound : IsSound c) (k : Known c past) (s : Slot) → open_slot past ≡ Some s → pdu_of s ≡ Sleep → s.hurt ≡ false
    → (l : Link) → is_some (nad c l.node) ≡ true → heard_on c (entry_is by Finish es ∷ past) l ≡ Reset ∷ heard_on c past l
sleep-heard c past by es sound k s is pdu calm l a = sleep-by c past by es sound k (open_slot past) s refl k.slot is pdu calm l a

-- == what a timeout adds
timeout-other : (c : Parts) (past : List LogEntry) (by : PortId) (node : ℕ) (dir : Direction) (es : List Event) (l : Link) (b : Bool) → same_link l (record_of node dir) ≡ b → l ≢ link_at node dir → heard_on c (entry_is by (Timeout node dir) es ∷ past) l ≡ heard_on c past l
timeout-other c past by node dir es l true e differ = absurd (differ (same-is l (record_of node dir) e))
timeout-other c past by node dir es l false e differ = rw e refl

timeout-own : (c : Parts) (past : List LogEntry) (by : PortId) (node : ℕ) (dir : Direction) (es : List Event) → same_link (link_at node dir) (link_at node dir) ≡ true → heard_on c (entry_is by (Timeout node dir) es ∷ past) (link_at node dir) ≡ Reset ∷ heard_on c past (link_at node dir)
timeout-own c past by node dir es e = rw e refl

-- == a good frame is heard
heard-to : (e : Ear) (f : List ℕ) (heard : List Heard) → looks_at e (slice_index f 0) ≡ true → heard_to e f heard ≡ Frame f ∷ heard
heard-to e f heard looks = rw looks refl

other-link : (l x : Link) (b : Bool) → is_to_all l ≡ false → goes_over l x ≡ b → x ≢ l → b ≡ false
other-link l x true one e differ = absurd (differ (sym (over-is l x one e)))
other-link l x false one e differ = refl

-- what the receivers stand for then, and what the link's receiver gave
pub record HeardFrame (c : Parts) (past past' : List LogEntry) (l : Link) (given : Option (List ℕ)) (rs : List Receivers) : Type 0 where
  pub keeps : KeepsHeard c past' rs
  pub gains : drop (length (reading c past l)) (reading c past' l) ≡ option_to_list given

pub heard-frame : (c : Parts) (past : List LogEntry) (by : PortId) (es : List Event) (k : Known c past) (s : Slot) (h : ℕ) (i : CarriesFrame c past by k s h) (given : Option (List ℕ)) (rs rs' : List Receivers) → s.hurt ≡ false → is_to_all i.message.link ≡ false
    → HearsOn i.message.link (frame (link_address c i.message.link) i.message.bytes (k.states h).count) given rs rs' → KeepsHeard c past rs → HeardFrame c past (entry_is by Finish es ∷ past) i.message.link given rs'
heard-frame c past by es k s h i given rs rs' calm one on kept =
    let l : Link = i.message.link
    in let link : IsLink c h l = i.go.one one
    in let e : Ear = ear_on c l
    in let n : ℕ = link_address c l
    in let f : List ℕ = frame n i.message.bytes (k.states h).count
    in let past' : List LogEntry = entry_is by Finish es ∷ past
    in let before : List Heard = heard_on c past l
    in let heard : heard_on c past' l ≡ Frame f ∷ before = i.heard es l link.address ∙ rw (over-self l, calm) refl
    in let was : KeepsReceiver c past l (receiver_in l.dir on.was) = kept.each l.node on.was l.dir on.there link.address
    in let hears : Reads (receiver_in l.dir on.was) f before given (receiver_in l.dir on.is) = on.hears before was.stands
    in let looks : looks_at e (slice_index f 0) ≡ true = rw (frame-address n i.message.bytes (k.states h).count) ((i.go.meant l link (over-self l)).heard)
    in let all : heard_to e f before ≡ heard_on c past' l = heard-to e f before looks ∙ sym heard
    in let read : messages_to e (heard_to e f before) ≡ messages_to e before ++ option_to_list given
    = subst (λ (x : Ear). messages_to x (heard_to x f before) ≡ messages_to x before ++ option_to_list given) was.ear_is hears.reads
    in let reads : reading c past' l ≡ reading c past l ++ option_to_list given = ap (messages_to e) (sym all) ∙ read
    in let stands : HasHeard (receiver_in l.dir on.is) (heard_on c past' l)
    = subst (λ (x : List Heard). HasHeard (receiver_in l.dir on.is) x) all (subst (λ (x : Ear). HasHeard (receiver_in l.dir on.is) (heard_to x f before)) was.ear_is hears.stands)
    in record {
      keeps = rw on.set (heard-one c past past' rs l on.was on.is on.there (record { ear_is = hears.ear ∙ was.ear_is; stands = stands }) on.other
          (λ x a differ. i.heard es x a ∙ rw (other-link l x (goes_over l x) one refl differ) refl) kept);
      gains = ap (drop (length (reading c past l))) reads ∙ drop_at (reading c past l) (option_to_list given) (length (reading c past l)) refl;
    }

-- room alone was made
pub heard-alike : (c : Parts) (past : List LogEntry) (rs new : List Receivers) → HaveHeardAlike rs new → KeepsHeard c past rs → KeepsHeard c past new
heard-alike c past rs new alike k = record {
  count = alike.count ∙ k.count;
  each = λ h y d at a.
      let below : h < length new = slice_get_within new h y at in
      let count = alike.count in
      let x = get-there rs h (omega arith) in
      let same = alike.each h d x.0 y x.1 at in
      let was : KeepsReceiver c past (link_at h d) (receiver_in d x.0) = k.each h x.0 d x.1 a in
      record { ear_is = same.0 ∙ was.ear_is; stands = rw (same.0, same.1) was.stands };
}

-- == a good frame to all is heard
all-over : (to : Link) (n : ℕ) (d : Direction) → is_to_all to ≡ true → goes_over to (link_at n d) ≡ is_down d
all-over to n d all = ap (λ (x : Link). goes_over x (link_at n d)) (to-all-is to.node to.dir all) ∙ over-all n d

-- what a receiver down has heard then
pub all-adds : (c : Parts) (past : List LogEntry) (by : PortId) (es : List Event) (k : Known c past) (s : Slot) (h : ℕ) (i : CarriesFrame c past by k s h) → s.hurt ≡ false → is_to_all i.message.link ≡ true → (n : ℕ) → is_some (nad c n) ≡ true
    → (goes_over i.message.link (link_at n Down) ≡ true)
    × (heard_to (ear_on c (link_at n Down)) (frame (link_address c i.message.link) i.message.bytes (k.states h).count) (heard_on c past (link_at n Down)) ≡ heard_on c (entry_is by Finish es ∷ past) (link_at n Down))
all-adds c past by es k s h i calm all n a =
    let to : Link = i.message.link
    in let l : Link = link_at n Down
    in let f : List ℕ = frame (link_address c to) i.message.bytes (k.states h).count
    in let over : goes_over to l ≡ true = all-over to n Down all
    in let looks : looks_at (ear_on c l) (slice_index f 0) ≡ true
    = rw (frame-address (link_address c to) i.message.bytes (k.states h).count) ((i.go.meant l (record { host = sym (over-host to l over) ∙ i.go.host; address = a }) over).heard)
    in (over, heard-to (ear_on c l) f (heard_on c past l) looks ∙ sym (i.heard es l a ∙ rw (over, calm) refl))

all-dir : (c : Parts) (past past' : List LogEntry) (h : ℕ) (d : Direction) (f : List ℕ) (x y : Receivers) → HearsToo f x y → heard_on c past' (link_at h Up) ≡ heard_on c past (link_at h Up)
    → heard_to (ear_on c (link_at h Down)) f (heard_on c past (link_at h Down)) ≡ heard_on c past' (link_at h Down) → KeepsReceiver c past (link_at h d) (receiver_in d x) → KeepsReceiver c past' (link_at h d) (receiver_in d y)
all-dir c past past' h Up f x y hears same adds was = subst (KeepsReceiver c past' (link_at h Up)) (sym hears.up) (receiver-same c past past' (link_at h Up) x.up same was)
all-dir c past past' h Down f x y hears same adds was =
    let before : List Heard = heard_on c past (link_at h Down)
    in record {
      ear_is = hears.ear before was.stands ∙ was.ear_is;
      stands = subst (λ (z : List Heard). HasHeard y.down z) adds (subst (λ (e : Ear). HasHeard y.down (heard_to e f before)) was.ear_is (hears.down before was.stands));
    }

pub to-all-heard : (c : Parts) (past : List LogEntry) (by : PortId) (es : List Event) (k : Known c past) (s : Slot) (h : ℕ) (i : CarriesFrame c past by k s h) (rs new : List Receivers) → s.hurt ≡ false → is_to_all i.message.link ≡ true
    → HearAll c (frame (link_address c i.message.link) i.message.bytes (k.states h).count) rs new → KeepsHeard c past rs → KeepsHeard c (entry_is by Finish es ∷ past) new
to-all-heard c past by es k s h i rs new calm all hears kept = record {
  count = hears.count ∙ kept.count;
  each = λ n y d at a.
      let below : n < length new = slice_get_within new n y at in
      let count = hears.count in
      let x = get-there rs n (omega arith) in
      let up : goes_over i.message.link (link_at n Up) ≡ false = all-over i.message.link n Up all in
      all-dir c past (entry_is by Finish es ∷ past) n d (frame (link_address c i.message.link) i.message.bytes (k.states h).count) x.0 y (hears.each n x.0 y x.1 at a) (i.heard es (link_at n Up) a ∙ rw up refl)
      (all-adds c past by es k s h i calm all n a).1 (kept.each n x.0 d x.1 a);
}

-- == a timeout
pub timeout-heard : (c : Parts) (past : List LogEntry) (by : PortId) (node : ℕ) (dir : Direction) (es : List Event) (rs : List Receivers) (was is : Receivers) → slice_get rs node ≡ Some was → is_some (nad c node) ≡ true
    → IsReset (receiver_in dir was) (receiver_in dir is) → receiver_in (opposite dir) is ≡ receiver_in (opposite dir) was → KeepsHeard c past rs → KeepsHeard c (entry_is by (Timeout node dir) es ∷ past) (slice_set rs node is)
timeout-heard c past by node dir es rs was is there a reset o kept =
    let l : Link = link_at node dir
    in let past' : List LogEntry = entry_is by (Timeout node dir) es ∷ past
    in heard-one c past past' rs l was is there (receiver-reset c past past' l (receiver_in dir was) (receiver_in dir is) reset (timeout-own c past by node dir es (same-self l)) (kept.each node was dir there a)) o
    (λ x b differ. timeout-other c past by node dir es x (same_link x l) refl differ) kept
