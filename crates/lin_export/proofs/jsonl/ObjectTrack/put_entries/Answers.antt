use Rattle.std.proofs.Common.{refl, ◌≡◌, ◌+◌, ◌≤◌, ◌∷◌, ◌++◌, [], drop, sym, ap, subst, ◌∙◌, append-nil, arith, List, ℕ, reverse, take}
use Rattle.std.proofs.lemmas.List.{drop_all, get_or-take, length-take-le, take-take, take_all}
use Rattle.lin_core.specs.declared.log.LogEntry.{LogEntry}
use Rattle.lin_text.proofs.Growing.{grows-more, grows-nothing}
use Rattle.lin_export.proofs.Puttings.{puts-all, puts-some}
use Rattle.lin_export.proofs.Times.{early}
use Rattle.lin_export.proofs.Tellings.{before, before-next, next-put}
use Rattle.lin_export.specs.Jsonl.{IsObjectTrackOf, entry_objects, objects_of}
use Rattle.lin_export.specs.WhereTold.{given_coding}
use Rattle.lin_export.proofs.jsonl.ObjectTrack.put_entries.Goals as goal

-- the entries before a place, of all and of those up to the end
same-before : (es : List LogEntry) (i end : ℕ) → i ≤ end → before (take end es) i ≡ before es i
same-before es i end h = ap (λ (l : List LogEntry). reverse l) (take-take i end es h)

pub loop-index-init : goal.loop-index-init
loop-index-init g c =
    let es = c.args.range.log.now.entries in
    record {
      told = ([], grows-nothing c.args.out.now, refl);
      kept = subst (λ (l : List LogEntry). IsObjectTrackOf c.args.cluster.now l c.args.self.now) (sym (same-before es c.args.range.from c.args.range.end c.requires.order)) c.requires.track;
    }

pub put_entry-requires : goal.put_entry-requires
put_entry-requires g c =
    let es = c.args.range.log.now.entries in
    (early c.args.cluster.now c.sound.ensures.rules (take c.args.range.end es) c.loop-index.index c.loop-index.self.track c.loop-index.invariant.kept.track (omega (arith, length-take-le c.args.range.end es c.requires.there))).0

pub follow-requires-clause-time : goal.follow-requires-clause-time
follow-requires-clause-time g c =
    let es = c.args.range.log.now.entries in
    (early c.args.cluster.now c.sound.ensures.rules (take c.args.range.end es) c.loop-index.index c.loop-index.self.track c.loop-index.invariant.kept.track (omega (arith, length-take-le c.args.range.end es c.requires.there))).0

pub follow-requires-clause-slots : goal.follow-requires-clause-slots
follow-requires-clause-slots g c =
    let es = c.args.range.log.now.entries in
    (early c.args.cluster.now c.sound.ensures.rules (take c.args.range.end es) c.loop-index.index c.loop-index.self.track c.loop-index.invariant.kept.track (omega (arith, length-take-le c.args.range.end es c.requires.there))).1

pub loop-index-preserved : goal.loop-index-preserved
loop-index-preserved g c =
    let x = c.args.cluster.now in
    let k = given_coding c.args.coded in
    let es = take c.args.range.end c.args.range.log.now.entries in
    let i = c.loop-index.index in
    let e = c.entry-entry.result.now in
    let past : List LogEntry = before es i in
    let v = c.loop-index.invariant in
    let here = c.entry-entry.ensures ∙ sym (get_or-take c.args.range.end c.args.range.log.now.entries i e (omega arith)) in
    let room = length-take-le c.args.range.end c.args.range.log.now.entries c.requires.there in
    let next : before es (i + 1) ≡ e ∷ past = before-next es i e here (omega (arith, room)) in
    record {
      told = (
        v.told.0 ++ entry_objects x k e past,
        grows-more v.told.1 (c.put_entry.ensures past v.kept),
        ap (λ (l : List LogEntry). (v.told.0 ++ entry_objects x k e past) ++ objects_of x k l (drop (i + 1) es)) next
            ∙ next-put (entry_objects x k) es i e v.told.0 _ here (omega (arith, room)) v.told.2,
      );
      kept = subst (λ (l : List LogEntry). IsObjectTrackOf x l c.follow.new.self) (sym next) (c.in_ok-follow.ensures past v.kept);
    }

pub returns-in_err-follow-clause-text : goal.returns-in_err-follow-clause-text
returns-in_err-follow-clause-text g c =
    let x = c.args.cluster.now in
    let k = given_coding c.args.coded in
    let es = take c.args.range.end c.args.range.log.now.entries in
    let i = c.loop-index.index in
    let e = c.entry-entry.result.now in
    let past : List LogEntry = before es i in
    let v = c.loop-index.invariant in
    let here = c.entry-entry.ensures ∙ sym (get_or-take c.args.range.end c.args.range.log.now.entries i e (omega arith)) in
    let room = length-take-le c.args.range.end c.args.range.log.now.entries c.requires.there in
    let start = ap (λ (l : List LogEntry). objects_of x k l (drop c.args.range.from es)) (sym (same-before c.args.range.log.now.entries c.args.range.from c.args.range.end c.requires.order)) in
    puts-some (objects_of x k (e ∷ past) (drop (i + 1) es)) c.from_residual.ensures.0
    (start ∙ sym (next-put (entry_objects x k) es i e v.told.0 _ here (omega (arith, room)) v.told.2))
    (grows-more v.told.1 (c.put_entry.ensures past v.kept))

pub returns : goal.returns
returns g c =
    let x = c.args.cluster.now in
    let k = given_coding c.args.coded in
    let all = c.args.range.log.now.entries in
    let es = take c.args.range.end all in
    let i = c.loop-index.index in
    let v = c.loop-index.invariant in
    let room = length-take-le c.args.range.end all c.requires.there in
    let whole : before es i ≡ reverse es = ap (λ (l : List LogEntry). reverse l) (take_all i es (omega (arith, room))) in
    let none : drop i es ≡ [] = drop_all i es (omega (arith, room)) in
    let start = ap (λ (l : List LogEntry). objects_of x k l (drop c.args.range.from es)) (same-before all c.args.range.from c.args.range.end c.requires.order) in
    record {
      text = puts-all (sym (append-nil v.told.0) ∙ ap (λ (l : List LogEntry). v.told.0 ++ objects_of x k (before es i) l) (sym none) ∙ v.told.2 ∙ start) v.told.1;
      track = subst (λ (l : List LogEntry). IsObjectTrackOf x l c.loop-index.self) whole v.kept;
    }
