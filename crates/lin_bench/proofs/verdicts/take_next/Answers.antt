use Rattle.std.proofs.Common.{◌≡◌, ◌∙◌, Option, Some, None, refl, subst}
use Rattle.std.specs.Prelude.{is_some, option_map}
use Rattle.lin_bench.specs.Searches.{Finds, last_end}
use Rattle.lin_bench.specs.declared.taken.Search.{Search}
use Rattle.lin_bench.specs.declared.taken.TakenEvents.{TakenEvents}
use Rattle.lin_bench.proofs.Searches.{IsOneMore, behind-found, known-search, next-found, taken-found}
use Rattle.lin_bench.proofs.verdicts.take_next.Goals as goal

is-some : {A B : Type 0} (f : A → B) (o : Option A) → is_some o ≡ is_some (option_map f o)
is-some f None = refl
is-some f (Some x) = refl

pub returns : goal.returns
returns c =
    let core = c.args.core.now in
    let t = c.args.taken.now in
    let u : TakenEvents = record t { searches = c.push.new.self } in
    let kind = c.args.kind in
    let event = option_map (λ e. e.now) c.event_from.result.0 in
    let end = c.event_from.result.1 in
    let s : Search = record { kind = kind; found = c.is_some.result; end = end } in
    let found : s.found ≡ is_some event = c.is_some.ensures ∙ is-some (λ e. e.now) c.event_from.result.0 in
    let finds : Finds core.log kind (last_end kind t) event end =
    subst (λ from. Finds core.log kind from event end) c.last_end-from.ensures
    (subst (λ log. Finds log kind c.last_end-from.result event end) c.log.ensures.entries c.event_from.ensures) in
    let more : IsOneMore t s u = record { forgotten = refl; searches = c.in_ok-push.ensures.items; cleared = refl } in
    record {
      event = next-found core t kind event end c.requires finds;
      taken = taken-found core t s u event more c.requires finds found;
      known = known-search core.log t s u more c.requires (behind-found core.log s (last_end kind t) event finds found);
    }
