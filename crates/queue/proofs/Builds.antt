-- A loop that queues an entry of task t for each name asked for, but for the skipped, behind what stands in q.
use mathlib.Core.Path.{◌≡◌, refl, sym, ap, ◌∙◌}
use mathlib.Core.Bool.{Bool, true, false}
use mathlib.Core.List.{List, [], ◌∷◌, ◌++◌, map, map-append, append-nil, append_assoc}
use Prim.Native.Nat.{ℕ, ◌+◌, ◌≤◌, ◌<◌}
use native.Mathlib.Omega.{arith}
use lib.ListN.{length, get_or, length-set}
use Rattle.lists.specs.Skipping.{left_from, left_view, left_over}
use Rattle.lists.specs.Packed.{appended, append_row, rows_count}
use Rattle.kinds.specs.Limits.{most_entries}
use Rattle.kinds.specs.declared.names.Slot.{Slot}
use Rattle.kinds.specs.declared.names.Pointed.{Pointed}
use Rattle.names.specs.Pointers.{pointed_ask}
use Rattle.rules.specs.Names.{Ask}
use Rattle.rules.specs.Control.{Entry}
use Rattle.rules.specs.Enq.{entry_for, with_tail}
use Rattle.queue.specs.Queues.{slot_of, rows_of, entries_in, stored_entries, PackedEntries}
use Rattle.queue.specs.declared.Queue.{Queue}
use Rattle.queue.proofs.Views.{table}

-- what the names at the places i to n - 1 ask for, but for the skipped
abbrev asks_left : List Bool → List Pointed → ℕ → ℕ → List Ask
asks_left skip ws i n = left_from skip (map pointed_ask ws) i n

-- the slot of an entry for the name that w asks for
abbrev pub slot_for : ℕ → Pointed → Slot
slot_for t w = record { task = record { 0 = t }; exclusive = w.exclusive; name = w.name }

-- what is read of an array past its end, where a law asks for it and the place is within
abbrev pub blank : Pointed
blank = record { exclusive = false; name = record { 0 = 0 } }

-- the names from place i on are left: behind what is stored so far they make the whole, and there is room for them
pub record Tailed (t : ℕ) (q : Queue) (skip : List Bool) (ws : List Pointed) (i n : ℕ) (r : Queue) : Type 0 where
  pub so_far : List Entry
  pub stored : r ≡ stored_entries so_far
  pub whole : with_tail so_far t (asks_left skip ws i n) ≡ with_tail (entries_in q) t (asks_left skip ws 0 n)
  pub room : r.count + length (asks_left skip ws i n) ≤ most_entries
  pub all : length r.slots ≡ most_entries

module _ {t : ℕ} {q : Queue} {skip : List Bool} {ws : List Pointed} where
  pub tailed_start : {n : ℕ} → PackedEntries q → length q.slots ≡ most_entries
      → q.count + length (asks_left skip ws 0 n) ≤ most_entries → Tailed t q skip ws 0 n q
  tailed_start p a h = record { so_far = entries_in q; stored = p.form; whole = refl; room = h; all = a }

  module _ {i n : ℕ} {r : Queue} (v : Tailed t q skip ws i n r) where
    pub tailed_end : i ≡ n → r ≡ stored_entries (with_tail (entries_in q) t (asks_left skip ws 0 n))
    tailed_end e =
        v.stored
        ∙ ap stored_entries
        (sym (append-nil v.so_far)
        ∙ ap (with_tail v.so_far t) (sym (left_over skip (map pointed_ask ws) i n e))
        ∙ v.whole)

    -- the name at place i, by its flag
    module _ (here : i < n) (few : n ≤ length ws) (flagged : i < length skip) (s : Bool) where
      goes : get_or skip i s ≡ true → asks_left skip ws i n ≡ asks_left skip ws (i + 1) n
      goes e = left_view pointed_ask skip ws i n blank s here few flagged ∙ rw e

      comes : (d : Pointed) → get_or skip i s ≡ false
          → asks_left skip ws i n ≡ pointed_ask (get_or ws i d) ∷ asks_left skip ws (i + 1) n
      comes d e = left_view pointed_ask skip ws i n d s here few flagged ∙ rw e

      pub tailed_room : get_or skip i s ≡ false → r.count < most_entries
      tailed_room e = omega (arith, v.room, ap length (comes blank e))

      pub tailed_next : get_or skip i s ≡ false → (d : Pointed) {u : Queue}
          → u ≡ appended table r (slot_for t (get_or ws i d)) → Tailed t q skip ws (i + 1) n u
      tailed_next e d {u} f =
          let x = slot_for t (get_or ws i d) in
          let new = entry_for t (pointed_ask (get_or ws i d)) in
          let z = tailed_room e in
          record {
            so_far = v.so_far ++ (new ∷ []);
            stored =
                append_row table (map slot_of v.so_far) x u r
                (omega (arith, rows_count table (map slot_of v.so_far) r v.stored)) v.stored f
                ∙ ap rows_of (sym (map-append slot_of v.so_far (new ∷ [])));
            whole =
                append_assoc v.so_far (new ∷ []) (map (entry_for t) (asks_left skip ws (i + 1) n))
                ∙ ap (with_tail v.so_far t) (sym (comes d e))
                ∙ v.whole;
            room = omega (arith, v.room, ap length (comes d e), ap (λ (y : Queue). y.count) f);
            all = ap (λ (y : Queue). length y.slots) f ∙ length-set r.slots r.count x ∙ v.all;
          }

      pub tailed_passed : get_or skip i s ≡ true → {u : Queue} → u ≡ r → Tailed t q skip ws (i + 1) n u
      tailed_passed e {u} f = record {
        so_far = v.so_far;
        stored = f ∙ v.stored;
        whole = ap (with_tail v.so_far t) (sym (goes e)) ∙ v.whole;
        room = omega (arith, v.room, ap length (goes e), ap (λ (y : Queue). y.count) f);
        all = ap (λ (y : Queue). length y.slots) f ∙ v.all;
      }
