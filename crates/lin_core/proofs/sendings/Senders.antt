-- How far the message is that a host has begun, by what is known of the host.
use Rattle.std.proofs.Common.{◌≡◌, ℕ, zero, suc, true, false, List, [], ◌∷◌, ◌++◌, length, map, refl, ap, sym, ◌∙◌, subst, inl, inr}
use Rattle.std.specs.Prelude.{Option, Some, None, filter, find, option_map, slice_index_or}
use Rattle.std.proofs.lemmas.Bool.Decides.{eqb_tells}
use Rattle.std.proofs.lemmas.List.{append-nil}
use Rattle.lin_transport.specs.Transport.{first_frames, frame}
use Rattle.lin_transport.specs.Sender.{SenderData as Sender}
use Rattle.lin_transport.proofs.Frames.{length-first}
use Rattle.lin_parts.specs.declared.parts.Parts.{Parts}
use Rattle.lin_parts.specs.Sound.{IsSound}
use Rattle.lin_core.specs.History.{Slot, is_sleep_asked, open_slot}
use Rattle.lin_core.specs.kept.Hosts.{sender_now, sender_of}
use Rattle.lin_core.specs.Links.{Link, Message, Sending, Sign, Fate, accepted_from, link_address, begins_good, blocks, blocks_of, fate_of, heard_on, is_begun, goes_over, home, is_good_sign, is_waiting, sendings_from, signs}
use Rattle.lin_core.specs.Links.Sign.{Put}
use Rattle.lin_core.specs.declared.log.LogEntry.{LogEntry}
use Rattle.lin_core.proofs.laws.Ends.{begun_block, blocks-carried, carried-held, plain-held, put-no, put-other, put-served, put-sleep, put_block, sign-none}
use Rattle.lin_core.proofs.links.Fates.{good_sign, goods}
use Rattle.lin_core.proofs.links.Finishes.{frame-is}
use Rattle.lin_core.proofs.sendings.Hosts.{HostIs, HostState, IsCount, IsLink, OnLinks, all-fresh, block-after, done-outcomes, fresh-begun, none-begun, on, outcome, sendings-append, settled_ones, AllDone, message_of}
use Rattle.lin_core.proofs.steps.Known.{Known, SlotIs, as-state, has-nad, other-host, place-of}
use Rattle.lin_core.proofs.steps.Known.SlotIs.{carries, closed, master, other, served, slave, sleep}
use Rattle.lin_core.proofs.links.Results.{Holds, few-held, tail-first, tails_with}
use Rattle.lin_core.proofs.steps.Steps.{blocks-closed, blocks-empty}

-- the sender of the first message that waits, where so many of its frames were seen good
abbrev pub sender_for : Parts → List Message → ℕ → Option Sender
sender_for c rest zero = None
sender_for c [] (suc j) = None
sender_for c (m ∷ ms) (suc j) = Some (record { nad = link_address c m.link; size = length m.bytes; sent = suc j })

-- a block of so many good frames, and perhaps one more that is in the open slot
pub record HasGood (b : List Sign) (k : ℕ) : Type 0 where
  pub count : length (filter is_good_sign b) ≡ k
  pub begins : (j : ℕ) → k ≡ suc j → begins_good b ≡ true
  pub none : k ≡ zero → begins_good b ≡ false

all-good : (fs : List (List ℕ)) → length (filter is_good_sign (map good_sign fs)) ≡ length fs
all-good [] = refl
all-good (f ∷ fs) = ap suc (all-good fs)

all-but-one : (fs : List (List ℕ)) (f : List ℕ) → length (filter is_good_sign (map good_sign fs ++ Put f None ∷ [])) ≡ length fs
all-but-one [] f = refl
all-but-one (x ∷ fs) f = ap suc (all-but-one fs f)

begins-by : (fs : List (List ℕ)) (more : List Sign) (j : ℕ) → length fs ≡ suc j → begins_good (map good_sign fs ++ more) ≡ true
begins-by [] more j e = cc
begins-by (f ∷ fs) more j e = refl

none-by : (fs : List (List ℕ)) (more : List Sign) → length fs ≡ zero → begins_good more ≡ false → begins_good (map good_sign fs ++ more) ≡ false
none-by [] more e b = b
none-by (f ∷ fs) more e b = cc

good-plain : (n : ℕ) (m : List ℕ) (k : ℕ) → HasGood (goods n m k) k
good-plain n m k =
    let l : length (first_frames n m k) ≡ k = length-first n m k
    in record {
      count = all-good (first_frames n m k) ∙ l;
      begins = λ j e. subst (λ (b : List Sign). begins_good b ≡ true) (append-nil (goods n m k)) (begins-by (first_frames n m k) [] j (l ∙ e));
      none = λ e. subst (λ (b : List Sign). begins_good b ≡ false) (append-nil (goods n m k)) (none-by (first_frames n m k) [] (l ∙ e) refl);
    }

good-more : (n : ℕ) (m : List ℕ) (k : ℕ) (f : List ℕ) → HasGood (goods n m k ++ Put f None ∷ []) k
good-more n m k f =
    let l : length (first_frames n m k) ≡ k = length-first n m k
    in record {
      count = all-but-one (first_frames n m k) f ∙ l;
      begins = λ j e. begins-by (first_frames n m k) (Put f None ∷ []) j (l ∙ e);
      none = λ e. none-by (first_frames n m k) (Put f None ∷ []) (l ∙ e) refl;
    }

-- the sender by the block of what waits first
found-by : (c : Parts) (m : Message) (ms : List Message) (k : ℕ) (s : Sending) (later : List Sending) → s.message ≡ m → HasGood s.block k → is_waiting (fate_of c s) ≡ true → find (is_begun c) later ≡ None
    → option_map (sender_of c) (find (is_begun c) (s ∷ later)) ≡ sender_for c (m ∷ ms) k
found-by c m ms zero s later is g w none = let e : begins_good s.block ≡ false = g.none refl in rw (w, e, none)
found-by c m ms (suc j) s later is g w none = let e : begins_good s.block ≡ true = g.begins j refl in rw (w, e) (rw (is, g.count) refl)

ones-settled : (c : Parts) (h : ℕ) (blocks tails : Link → List (List Sign)) (done : List (Message × Fate)) → OnLinks c h blocks tails done → AllDone c h done → AllDone c h (map (outcome c) (settled_ones c blocks done))
ones-settled c h blocks tails done o d = rw (done-outcomes c h blocks tails [] done o d) d

held-sender : (c : Parts) (h : ℕ) (blocks : Link → List (List Sign)) (accepted : List Message) (done : List (Message × Fate)) (rest : List Message) (k : ℕ) (b : List Sign)
    → IsCount rest k → Holds c h blocks accepted done rest b → HasGood b k → option_map (sender_of c) (find (is_begun c) (sendings_from c blocks [] accepted)) ≡ sender_for c rest k
held-sender c h blocks accepted done [] zero b i t g =
    rw (t.accepted_is, sendings-append c blocks [] (map message_of done) [])
    (ap (option_map (sender_of c)) (none-begun c h (settled_ones c blocks done) [] (ones-settled c h blocks (tails_with b []) done t.links t.are_done)))
held-sender c h blocks accepted done [] (suc j) b i t g = absurd i
held-sender c h blocks accepted done (m ∷ ms) k b i t g =
    let before : List Message = map message_of done
    in let l : Link = home c m.link
    in let e : slice_index_or (blocks l) (length (filter (on l) before)) [] ≡ b
    = block-after c h blocks (tails_with b (m ∷ ms)) done l t.links t.can_go.0.home_is ∙ tail-first b m ms l t.can_go.0.over
    in let later : List Sending = sendings_from c blocks (before ++ m ∷ []) ms
    in let none : find (is_begun c) later ≡ None = fresh-begun c later (all-fresh c h blocks (before ++ m ∷ []) ms (few-held c h blocks done m ms b t.links) t.can_go.1)
    in let s : Sending = record { number = suc (length before); message = m; block = b }
    in let w : is_waiting (fate_of c s) ≡ true = rw t.waits.waiting refl
    in rw (t.accepted_is, sendings-append c blocks [] before (m ∷ ms), none-begun c h (settled_ones c blocks done) (sendings_from c blocks before (m ∷ ms)) (ones-settled c h blocks (tails_with b (m ∷ ms)) done t.links t.are_done), e)
    (found-by c m ms k s later refl g w none)

-- the block of a host with no frame in the open slot
plain-good : (c : Parts) (rest : List Message) (k : ℕ) → IsCount rest k → HasGood (begun_block c rest k) k
plain-good c [] zero i = record { count = refl; begins = λ j e. cc; none = λ e. refl }
plain-good c [] (suc j) i = absurd i
plain-good c (m ∷ ms) k i = good-plain (link_address c m.link) m.bytes k

plain-sender : (c : Parts) (past : List LogEntry) (h : ℕ) (k : Known c past) → ((l : Link) → IsLink c h l → blocks c past l ≡ blocks_of (signs c past l)) → sender_now c past h ≡ sender_for c (k.states h).rest (k.states h).count
plain-sender c past h k e =
    let s : HostState = k.states h
    in held-sender c h (blocks c past) (accepted_from past h) s.done s.rest s.count (begun_block c s.rest s.count) (k.hosts h).counts
    (plain-held c h (blocks c past) (accepted_from past h) (heard_on c past) (signs c past) s e (k.hosts h)) (plain-good c s.rest s.count (k.hosts h).counts)

sender-by : (c : Parts) (past : List LogEntry) (h : ℕ) → IsSound c → (k : Known c past) → (o : Option Slot) → open_slot past ≡ o → SlotIs c (is_sleep_asked past) k.states o → sender_now c past h ≡ sender_for c (k.states h).rest (k.states h).count
sender-by c past h sound k None is closed = plain-sender c past h k (λ l i. blocks-closed c past l is)
sender-by c past h sound k (Some _) is (served s e) = plain-sender c past h k (λ l i. put-no c past l s is (put-served c s l e))
sender-by c past h sound k (Some _) is (other s p q) = plain-sender c past h k (λ l i. put-no c past l s is (put-other c s l.node l.dir p q))
sender-by c past h sound k (Some _) is (master table entry due left hurt line only w) = plain-sender c past h k (λ l i. blocks-empty c past l table entry (Some 0x3C) due left hurt is)
sender-by c past h sound k (Some _) is (slave table entry due left hurt x line only w) = plain-sender c past h k (λ l i. blocks-empty c past l table entry (Some 0x7D) due left hurt is)
sender-by c past h sound k (Some _) is (sleep table entry due left hurt only) = plain-sender c past h k (λ l i. put-no c past l _ is (put-sleep c table entry due left hurt l.node l.dir sound (has-nad c l.node i.address)))
sender-by c past h sound k (Some _) is (carries table entry due left hurt x m ms j only host r n) =
    let own : HostIs c x (accepted_from past x) (heard_on c past) (signs c past) (record { done = (k.states x).done; rest = m ∷ ms; count = j }) = as-state c x (accepted_from past x) (heard_on c past) (signs c past) (k.states x) (m ∷ ms) j r n (k.hosts x)
    in let f : List ℕ = frame (link_address c m.link) m.bytes j
    in elim (eqb_tells x h) [
      | inl same ↦
          subst (λ (y : ℕ). sender_now c past y ≡ sender_for c (k.states y).rest (k.states y).count) same.1
          (rw (r, n) (held-sender c x (blocks c past) (accepted_from past x) (k.states x).done (m ∷ ms) j (put_block c m j) own.counts
          (carried-held c past table entry due left hurt x m ms j (k.states x).done sound own is) (good-more (link_address c m.link) m.bytes j f)))
      | inr differ ↦ plain-sender c past h k (λ l i.
          blocks-carried c past table entry due left hurt m.link l f sound (place-of c x m own.can_go.0) (has-nad c l.node i.address) (frame-is (link_address c m.link) m.bytes j) is
          ∙ ap blocks_of (sign-none (goes_over m.link l) f (signs c past l) (other-host m.link l (goes_over m.link l) refl (λ e. differ.1 (sym host ∙ e ∙ i.host)))))
    ]

pub sender-is : (c : Parts) (past : List LogEntry) (h : ℕ) → IsSound c → (k : Known c past) → sender_now c past h ≡ sender_for c (k.states h).rest (k.states h).count
sender-is c past h sound k = sender-by c past h sound k (open_slot past) refl k.slot
