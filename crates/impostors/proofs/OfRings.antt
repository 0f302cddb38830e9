-- Wrong answers that the contracts of `rings` rule out. The reports as a whole are in OfServices.
use mathlib.Core.Path.{refl}
use mathlib.Core.Bool.{Bool, cond}
use mathlib.Core.List.{List, [], ◌∷◌, ◌++◌, map}
use Prim.Native.Nat.{ℕ, suc}
use native.Mathlib.Omega.{arith}
use lib.Dec.{eqb, ltb}
use lib.ListN.{length, get_or, take, replicate}
use denote.Ref.{MutBor, at_last}
use Rattle.lists.specs.Pick.{pick}
use Rattle.kinds.specs.Replies.{number_of, besides_of}
use Rattle.kinds.specs.declared.replies.Reply.{Reply}
use Rattle.rules.specs.Names.{firsts}
use Rattle.rules.specs.Control.{Entry}
use Rattle.rules.specs.Codes.{written_on}
use Rattle.rules.specs.Reports.{Standing, queues_of, ItemList, itemised, stuck_list, queues_list}
use Rattle.history.specs.Samples.{start}
use Rattle.queue.specs.Queues.{entries_in, stored_entries}
use Rattle.queue.specs.declared.Queue.{Queue}
use Rattle.rings.specs.Listings.{report_reply, report_written}
use Rattle.rings.proofs.reports.stuck.Reads as stuck
use Rattle.rings.proofs.reports.queues.Reads as queues
use Rattle.impostors.specs.Fitting.{◌⊗◌, fits-Queue, fits_end, fits_mut_lent}
use Rattle.impostors.specs.Opened.{tables_open}
use Rattle.impostors.specs.Samples.{Asking, after, ring_of_two, owned}
use Rattle.impostors.specs.Parts.{mut_lent}
use Rattle.impostors.specs.Wrong.{RuledOutWith, wrong_result, wrong_area}

-- a queue and a list area
abbrev Given : Type 0
Given = Queue × (MutBor (List ℕ) × Unit {0})

abbrev fits-Given : Given → Bool
fits-Given = fits-Queue ⊗ fits_mut_lent ⊗ fits_end

-- the queue after a run, and an area of n bytes of 238
abbrev on : List Asking → ℕ → Given
on l n = (stored_entries (after start l).queue, (mut_lent (replicate n 238), tt))

-- what is reported of another list, and what the area then holds
abbrev reporting : (List Entry → ItemList) → Given → Reply × Given
reporting list a =
    let r = list (entries_in a.0) in
    (report_reply r (length a.1.0.now), (a.0, (at_last a.1.0 (report_written r a.1.0.now), tt)))

-- nobody is ever stuck
pub stuck_nobody : RuledOutWith (λ k. fits-Given) stuck.Pre stuck.Post
    (λ k a. reporting (λ q. record { items = 0; bytes = [] }) a)
unfolding tables_open
stuck_nobody =
    wrong_result ([], tt) (on ring_of_two 6) refl (omega arith, refl) (λ r. eqb (besides_of r) 0) refl refl

-- where the area is too short, what fits is written: the first of two items
abbrev cut_short : Given → Reply × Given
cut_short a =
    let r = stuck_list (entries_in a.0) in (
      report_reply r (length a.1.0.now),
      (a.0, (at_last a.1.0 (take (length a.1.0.now) (written_on r.bytes a.1.0.now)), tt)),
    )

pub stuck_cut_short : RuledOutWith (λ k. fits-Given) stuck.Pre stuck.Post (λ k a. cut_short a)
unfolding tables_open
stuck_cut_short = wrong_area ([], tt) (on ring_of_two 3) refl (omega arith, refl) (λ l. eqb (get_or l 0 0) 2) refl refl

-- the area is told to be too short where it just has room
abbrev one_byte_more : Given → Reply × Given
one_byte_more a =
    let area = a.1.0.now in
    let r = stuck_list (entries_in a.0) in
    let more : ItemList = record { items = r.items; bytes = r.bytes ++ (0 ∷ []) } in
    let left = pick (ltb (length area) (length more.bytes)) area (written_on r.bytes area) in
    (report_reply more (length area), (a.0, (at_last a.1.0 left, tt)))

pub stuck_no_room_to_the_byte : RuledOutWith (λ k. fits-Given) stuck.Pre stuck.Post (λ k a. one_byte_more a)
unfolding tables_open
stuck_no_room_to_the_byte =
    wrong_result ([], tt) (on ring_of_two 6) refl (omega arith, refl) (λ r. eqb (number_of r) 104) refl refl

-- a place counts from 1
pub queues_places_from_1 : RuledOutWith (λ k. fits-Given) queues.Pre queues.Post
    (λ k a. reporting (λ q. itemised (λ (x : Standing). suc x.place ∷ cond x.owner 1 0 ∷ []) (queues_of q)) a)
unfolding tables_open
queues_places_from_1 = wrong_area ([], tt) (on owned 2) refl (omega arith) (λ l. eqb (get_or l 0 0) 1) refl refl

-- the number of names is told for the number of items: two for five
abbrev names_queued : List Entry → ℕ
names_queued q = length (firsts (map (λ (e : Entry). e.name) q))

pub queues_counts_names : RuledOutWith (λ k. fits-Given) queues.Pre queues.Post
    (λ k a. reporting (λ q. record { items = names_queued q; bytes = (queues_list q).bytes }) a)
unfolding tables_open
queues_counts_names =
    wrong_result ([], tt) (on ring_of_two 10) refl (omega arith) (λ r. eqb (besides_of r) 2) refl refl
