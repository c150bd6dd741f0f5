-- The hosts after a finish that puts the cluster to sleep: the message that each has begun is lost.
use Rattle.std.proofs.Common.{◌≡◌, ℕ, zero, suc, ◌+◌, ◌-◌, ◌^◌, ◌<◌, Bool, true, List, [], ◌∷◌, ◌++◌, length, refl, ap, sym, ◌∙◌, subst, arith}
use Rattle.std.specs.Prelude.{Option, Some, None, flat_map, option_map, slice_get}
use Rattle.std.proofs.lemmas.List.{length-map}
use Rattle.lin_frame.specs.Words.{numbers}
use Rattle.lin_transport.specs.Sender.{SenderData as Sender}
use Rattle.lin_parts.specs.Cluster.{nodes}
use Rattle.lin_parts.specs.declared.parts.Parts.{Parts}
use Rattle.lin_parts.specs.Sound.{IsSound}
use Rattle.lin_core.specs.History.{is_host_closed}
use Rattle.lin_core.specs.kept.Hosts.{losses, losses_of, loss_of, host_after_settling, host_after_sleep, KeepsHost, message_of, KeepsSender, sender_now}
use Rattle.lin_core.specs.kept.State.{KeepsLate, IsConsistent, Stage}
use Rattle.lin_core.specs.kept.Bus.{KeepsBus}
use Rattle.lin_core.specs.Links.{Link, Message, accepted_from, waiting}
use Rattle.lin_core.specs.declared.event.Event.TheVariants.{Lost as LostEvent}
use Rattle.lin_core.specs.declared.host.Host.{Host}
use Rattle.lin_core.specs.declared.link.Cause.TheVariants.{Slept}
use Rattle.lin_core.specs.declared.log.LogEntry.{LogEntry}
use Rattle.lin_core.specs.declared.bus_state.BusState.{BusState}
use Rattle.lin_core.proofs.steps.FinishEvents.{lost_by}
use Rattle.lin_core.proofs.sendings.Hosts.{HostState, IsCount}
use Rattle.lin_core.proofs.kept.Keeping.{host-few, queue-length}
use Rattle.lin_core.proofs.steps.Known.{Known}
use Rattle.lin_core.proofs.kept.Places.{get-there}
use Rattle.lin_core.proofs.steps.Making.{past_in}
use Rattle.lin_core.proofs.sendings.Moves.{marked}
use Rattle.lin_core.proofs.sendings.Queues.{accepted-count, waiting-are}
use Rattle.lin_core.proofs.laws.Reports.{flat-append}
use Rattle.lin_core.proofs.sendings.Senders.{sender-is, sender_for}
use Rattle.lin_core.proofs.kept.Settling.{settled-other, settled-own}

-- one host
record Sleeps (c : Parts) (capacity : ℕ) (log past : List LogEntry) (e : LogEntry) (x : ℕ) (host : Host) : Type 0 where
  kept : KeepsHost c capacity (log ++ e ∷ []) (e ∷ past) x host
  sender : host.sender ≡ sender_now c (e ∷ past) x

abbrev all_links : Link → Bool
all_links l = true

-- the host's state after it
abbrev MarkedAt : (c : Parts) (past : List LogEntry) (e : LogEntry) → Known c past → Known c (e ∷ past) → ℕ → Type 0
MarkedAt c past e k k' x = k'.states x ≡ marked all_links Slept (k.states x).done (k.states x).rest (k.states x).count

sleeps-by : (c : Parts) (capacity : ℕ) (log past : List LogEntry) (e : LogEntry) (x : ℕ) (host : Host) → IsSound c → (k : Known c past) (k' : Known c (e ∷ past)) → MarkedAt c past e k k' x → accepted_from (e ∷ past) x ≡ accepted_from past x
    → KeepsHost c capacity log past x host → (rest : List Message) (count : ℕ) → (k.states x).rest ≡ rest → (k.states x).count ≡ count → IsCount rest count → host.sender ≡ sender_for c rest count → Sleeps c capacity log past e x (host_after_sleep host)
sleeps-by c capacity log past e x host sound k k' is accepted own rest zero r n i s =
    let none : host.sender ≡ None = s
    in let same : host ≡ host_after_sleep host = rw none refl
    in let rest' : (k'.states x).rest ≡ (k.states x).rest = ap (λ (z : HostState). z.rest) is ∙ rw n refl
    in let count' : (k'.states x).count ≡ 0 = ap (λ (z : HostState). z.count) is ∙ rw n refl
    in subst (Sleeps c capacity log past e x) same
    (record {
      kept = settled-other c capacity log past e x host sound k k' rest' accepted own;
      sender = none ∙ sym (sender-is c (e ∷ past) x sound k' ∙ rw count' refl);
    })
sleeps-by c capacity log past e x host sound k k' is accepted own [] (suc j) r n i s = absurd i
sleeps-by c capacity log past e x host sound k k' is accepted own (m ∷ ms) (suc j) r n i s =
    let same : host_after_settling host ≡ host_after_sleep host = rw s refl
    in let rest' : (k'.states x).rest ≡ ms = ap (λ (z : HostState). z.rest) is ∙ rw (r, n) refl
    in let count' : (k'.states x).count ≡ 0 = ap (λ (z : HostState). z.count) is ∙ rw (r, n) refl
    in subst (Sleeps c capacity log past e x) same
    (record {
      kept = settled-own c capacity log past e x host m ms sound k k' r rest' accepted own;
      sender = sym (sender-is c (e ∷ past) x sound k' ∙ rw count' refl);
    })

sleeps-at : (c : Parts) (capacity : ℕ) (log past : List LogEntry) (e : LogEntry) (x : ℕ) (host : Host) → IsSound c → (k : Known c past) (k' : Known c (e ∷ past)) → MarkedAt c past e k k' x → accepted_from (e ∷ past) x ≡ accepted_from past x
    → KeepsHost c capacity log past x host → KeepsSender c past x host → Sleeps c capacity log past e x (host_after_sleep host)
sleeps-at c capacity log past e x host sound k k' is accepted own late =
    sleeps-by c capacity log past e x host sound k k' is accepted own (k.states x).rest (k.states x).count refl refl (k.hosts x).counts (late.sender_is ∙ sender-is c past x sound k)

slept-closed : (host : Host) (o : Option Sender) → host.sender ≡ o → (host_after_sleep host).closed ≡ host.closed
slept-closed host None e = rw e refl
slept-closed host (Some s) e = rw e refl

-- the host that was there before
was-there : (hosts hosts' : List Host) (x : ℕ) (y : Host) (o : Option Host) → slice_get hosts x ≡ o → slice_get hosts' x ≡ option_map host_after_sleep o → slice_get hosts' x ≡ Some y → (host : Host) × (slice_get hosts x ≡ Some host) × (y ≡ host_after_sleep host)
was-there hosts hosts' x y None e s at = absurd (let bad : None ≡ Some y = sym s ∙ at in cc)
was-there hosts hosts' x y (Some host) e s at =
    let both : Some y ≡ Some (host_after_sleep host) = sym at ∙ s
    in (host, e, cc)

pub sleeping-hosts : (c : Parts) (capacity : ℕ) (log past : List LogEntry) (e : LogEntry) (bus : BusState) (hosts hosts' : List Host) → IsSound c → (k : Known c past) (k' : Known c (e ∷ past)) → ((x : ℕ) → MarkedAt c past e k k' x)
    → ((x : ℕ) → accepted_from (e ∷ past) x ≡ accepted_from past x) → ((x : ℕ) → slice_get hosts' x ≡ option_map host_after_sleep (slice_get hosts x)) → ((x : ℕ) (y : Host) → slice_get hosts x ≡ Some y → KeepsHost c capacity log past x y) → KeepsLate c past bus hosts
    → (x : ℕ) (y : Host) → slice_get hosts' x ≡ Some y → KeepsHost c capacity (log ++ e ∷ []) (e ∷ past) x y
sleeping-hosts c capacity log past e bus hosts hosts' sound k k' is accepted slept_are each late x y at =
    let b = was-there hosts hosts' x y (slice_get hosts x) refl (slept_are x) at
    in rw b.2 (sleeps-at c capacity log past e x b.0 sound k k' (is x) (accepted x) (each x b.0 b.1) (late.each_sender x b.0 b.1)).kept

pub sleeping-late : (c : Parts) (capacity : ℕ) (log past : List LogEntry) (e : LogEntry) (bus bus' : BusState) (hosts hosts' : List Host) → IsSound c → (k : Known c past) (k' : Known c (e ∷ past)) → ((x : ℕ) → MarkedAt c past e k k' x)
    → ((x : ℕ) → accepted_from (e ∷ past) x ≡ accepted_from past x) → ((x : ℕ) → is_host_closed (e ∷ past) x ≡ is_host_closed past x) → ((x : ℕ) → slice_get hosts' x ≡ option_map host_after_sleep (slice_get hosts x))
    → ((x : ℕ) (y : Host) → slice_get hosts x ≡ Some y → KeepsHost c capacity log past x y) → KeepsBus c (e ∷ past) bus' → KeepsLate c past bus hosts → KeepsLate c (e ∷ past) bus' hosts'
sleeping-late c capacity log past e bus bus' hosts hosts' sound k k' is accepted shut slept_are each kept late = record {
  bus_is = kept;
  each_sender = λ x y at.
      let b = was-there hosts hosts' x y (slice_get hosts x) refl (slept_are x) at
      in let own : KeepsSender c past x b.0 = late.each_sender x b.0 b.1
      in let s : Sleeps c capacity log past e x (host_after_sleep b.0) = sleeps-at c capacity log past e x b.0 sound k k' (is x) (accepted x) (each x b.0 b.1) own
      in let new : KeepsSender c (e ∷ past) x (host_after_sleep b.0) = record { closed_is = slept-closed b.0 b.0.sender refl ∙ own.closed_is ∙ sym (shut x); sender_is = s.sender }
      in rw b.2 new;
}

-- == what is told
-- so many messages of a host are settled
settled-are : (c : Parts) (capacity : ℕ) (log past : List LogEntry) (x : ℕ) (host : Host) → IsSound c → (k : Known c past) → KeepsHost c capacity log past x host → host.settled + 1 ≡ suc (length (k.states x).done)
settled-are c capacity log past x host sound k own =
    let n = queue-length c capacity log past x host own
    in let rest : length (waiting c past x) ≡ length (k.states x).rest = sym (length-map (waiting c past x) message_of) ∙ ap length (waiting-are c past x sound k)
    in let all = accepted-count c past x k
    in let count = own.count
    in omega arith

lost-by : (c : Parts) (k : ℕ → HostState) (x : ℕ) (host : Host) (rest : List Message) (count : ℕ) → (k x).rest ≡ rest → (k x).count ≡ count → IsCount rest count → host.sender ≡ sender_for c rest count
    → host.settled + 1 ≡ suc (length (k x).done) → loss_of x host ≡ lost_by k all_links Slept x
lost-by c k x host rest zero r n i s number = rw (s, n) refl
lost-by c k x host [] (suc j) r n i s number = absurd i
lost-by c k x host (m ∷ ms) (suc j) r n i s number =
    let own : loss_of x host ≡ LostEvent x (host.settled + 1) Slept ∷ [] = rw s refl
    in let told : lost_by k all_links Slept x ≡ LostEvent x (suc (length (k x).done)) Slept ∷ [] = rw (r, n) refl
    in own ∙ ap (λ (z : ℕ). LostEvent x z Slept ∷ []) number ∙ sym told

flat-below : {Y : Type 0} (f g : ℕ → List Y) (n : ℕ) → ((x : ℕ) → x < n → f x ≡ g x) → flat_map f (numbers n) ≡ flat_map g (numbers n)
flat-below f g zero each = refl
flat-below f g (suc n) each =
    flat-append f (numbers n) (n ∷ [])
    ∙ rw (flat-below f g n (λ x l. each x (omega arith)), each n (omega arith)) refl
    ∙ sym (flat-append g (numbers n) (n ∷ []))

pub losses-are : (a : Stage) (w : IsConsistent a) (k : Known a.cluster (past_in a)) → losses a.state.hosts.items ≡ flat_map (lost_by k.states all_links Slept) (numbers (nodes a.cluster))
losses-are a w k =
    let hosts : List Host = a.state.hosts.items
    in flat-below (losses_of hosts) (lost_by k.states all_links Slept) (length hosts)
    (λ x l.
    let y = get-there hosts x l
    in let own : KeepsHost a.cluster a.capacity a.log (past_in a) x y.0 = w.kept.each_host x y.0 y.1
    in let s = w.late.each_sender x y.0 y.1
    in let at : losses_of hosts x ≡ loss_of x y.0 = rw y.1 refl
    in at ∙ lost-by a.cluster k.states x y.0 (k.states x).rest (k.states x).count refl refl (k.hosts x).counts (s.sender_is ∙ sender-is a.cluster (past_in a) x w.sound k) (settled-are a.cluster a.capacity a.log (past_in a) x y.0 w.sound k own))
    ∙ ap (λ (n : ℕ). flat_map (lost_by k.states all_links Slept) (numbers n)) w.kept.hosts_count

-- fewer messages are settled than the log has entries
pub settled-small : (a : Stage) (w : IsConsistent a) → length a.log < 2 ^ 32 - 1 → (x : ℕ) (host : Host) → slice_get a.state.hosts.items x ≡ Some host → host.settled + 1 < 2 ^ 32
settled-small a w few x host at =
    let n = host-few a.cluster a.capacity a.log x host (w.kept.each_host x host at)
    in omega arith
