-- The first slot ahead that holds up the task's entry is the one that is found.
use Rattle.std.proofs.Common.{◌≡◌, Some, rules, tests, ap, sym, ◌∙◌, List, take, get_or, Bor}
use Rattle.std.specs.Option.{option_map}
use Rattle.std.specs.List.{find}
use Rattle.std.proofs.lemmas.Iterator.{YieldsList-from_slice}
use Rattle.std.proofs.lemmas.Iterator.Search.{find_from_yields_List}
use Rattle.lists.specs.Keeping.{take_map}
use Rattle.kinds.specs.declared.names.Slot.{Slot}
use Rattle.rules.specs.Control.{Entry}
use Rattle.rules.specs.Reports.{holds_up, first_stuck_at, stuck_at, stuck_item}
use Rattle.queue.specs.Queues.{entry_of, entries_in, zero_slot}
use Rattle.queue.specs.Marking.{mark_at}
use Rattle.rings.specs.Listings.{with_item, with_items}
use Rattle.rings.specs.declared.listing.Listing.{Listing}
use Rattle.rings.proofs.Ahead.{from_over, from_other, from_free, from_found, line_is}
use Rattle.rings.proofs.held.push_line.Goals.{then-eq+in_default, else-eq}
use Rattle.rings.proofs.held.push_line.Goals as goal

pub returns-in-Some : goal.returns-in-Some
returns-in-Some c =
    let a = c.args in
    let q = a.q.now in
    let these = mark_at a.on.now in
    let v = c.loop-i.invariant in
    let i = c.loop-i.i in
    let es = take q.count q.slots in
    let e = entry_of (get_or es i zero_slot) in
    let x = c.in-Some.x.now in
    let holds = λ (s : Slot). holds_up these e (entry_of s) in
    let f : Some x ≡ find holds (take i es) =
    find_from_yields_List holds c.find.new.self _ (Some c.in-Some.x) c.in-Some.ensures.ran
    (YieldsList-from_slice (take i es) cc) (λ y b p k. search (rules, tests)) in
    let line = from_found v.line c.loop-i-test.true zero_slot (sym c.eq.ensures ∙ c.if-eq.true) x (sym f) in
    c.push.ensures ∙ ap (λ (l : Listing). with_item l (stuck_item (stuck_at i e (entry_of x)))) v.same
    ∙ ap (with_items stuck_item a.l.now) (line_is these (entries_in q) a.t.0 _ c.if-not-on-t.false
    (ap (λ (l : List Entry). first_stuck_at these l a.t.0) (take_map entry_of q.count q.slots) ∙ line))

pub loop-i-preserved : goal.loop-i-preserved
loop-i-preserved c =
    let q = c.args.q.now in
    let these = mark_at c.args.on.now in
    let v = c.loop-i.invariant in
    let i = c.loop-i.i in
    let es = take q.count q.slots in
    let e = entry_of (get_or es i zero_slot) in
    let holds = λ (s : Slot). holds_up these e (entry_of s) in
    record {
      same = v.same;
      line =
          elim c.if-eq.branch [
            | then-eq+in_default w ↦ from_free v.line c.loop-i-test.true zero_slot (sym c.eq.ensures ∙ w.if-eq.true)
                (sym (ap (option_map (λ (y : Bor Slot). y.now)) (sym w.in_default.is)
                ∙ find_from_yields_List holds _ _ _ w.find.ensures.ran (YieldsList-from_slice (take i es) cc)
                (λ y b p k. search (rules, tests))))
            | else-eq w ↦ from_other v.line c.loop-i-test.true zero_slot (sym c.eq.ensures ∙ w.if-eq.false)
          ];
    }

pub returns : goal.returns
returns c =
    let a = c.args in
    let q = a.q.now in
    let these = mark_at a.on.now in
    c.loop-i.invariant.same
    ∙ ap (with_items stuck_item a.l.now) (line_is these (entries_in q) a.t.0 _ c.if-not-on-t.false
    (ap (λ (l : List Entry). first_stuck_at these l a.t.0) (take_map entry_of q.count q.slots)
    ∙ from_over c.loop-i.invariant.line c.loop-i-test.false))
