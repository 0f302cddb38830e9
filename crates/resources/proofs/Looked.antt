-- The looks at the names beside a request, from the flags of each: their codes, and whether every code is 0.
use mathlib.Core.Path.{◌≡◌, refl, sym, ap, ap₂, ◌∙◌}
use mathlib.Core.Bool.{Bool, true, false, not, ◌&&◌, and-true}
use mathlib.Core.List.{List, [], ◌∷◌, map}
use Prim.Native.Nat.{ℕ, ◌+◌, ◌≤◌, ◌<◌}
use native.Mathlib.Omega.{arith}
use native.Mathlib.Nat.{zero-add}
use lib.Dec.{eqb}
use lib.ListN.{length, get_or, take, set, replicate, get_or-replicate, get_or-map}
use lib.Seq.{get_or-take}
use Rattle.std.proofs.lemmas.List.{length-take}
use Rattle.lists.specs.Arrays.{mapped_length}
use Rattle.lists.specs.Lists.{numbers, how_many}
use Rattle.lists.specs.Pick.{pick, pick_true, pick_false}
use Rattle.lists.specs.Numbered.{length_numbers}
use Rattle.lists.specs.Every.{every_append}
use Rattle.lists.specs.Changing.{map_next}
use Rattle.lists.specs.Setting.{how_many_few}
use Rattle.lists.specs.Filling.{number_at, by_number}
use Rattle.kinds.specs.Limits.{longest_list}
use Rattle.kinds.specs.declared.names.Pointed.{Pointed}
use Rattle.kinds.specs.declared.names.PointedList.{PointedList}
use Rattle.kinds.specs.declared.requests.Ret.{Ret}
use Rattle.kinds.specs.declared.requests.Ret.TheVariants.{None, Test, Use, Have, Chng}
use Rattle.names.specs.Pointers.{pointed_ask, pointed_in}
use Rattle.rules.specs.Names.{Ask}
use Rattle.rules.specs.Control.{Entry, available, sole_owner}
use Rattle.rules.specs.Codes.{all_zero}
use Rattle.rules.specs.Enq.{enq_code}
use Rattle.rules.specs.Deq.{deq_code}
use Rattle.laws.specs.Among.{eqb_swap}
use Rattle.queue.specs.Flagging.{flags_of}
use Rattle.queue.specs.declared.looks.Flags.{Flags}
use Rattle.queue.proofs.Filled.{Filled, none_filled, filled_next, filled_all}
use Rattle.queue.proofs.Flagged.{asks_length, flag_at, flags_but}
use Rattle.resources.specs.Coding.{codes_of, code_by, code_at, wants_entry, all_clear, clear_for}
use Rattle.resources.specs.Looking.{told_by, looks_of, looks_as, entered, held_code, enq_looks, deq_looks}
use Rattle.resources.specs.declared.looks.Looks.{Looks}

-- a code for each place, of which the first i are written, and whether these are 0
pub record CodedTo (f : ℕ → ℕ) (i : ℕ) (r : List ℕ) (zero : Bool) : Type 0 where
  pub filled : Filled 0 f (numbers 0 longest_list) i r
  pub zeros : zero ≡ all_zero (map f (take i (numbers 0 longest_list)))

module _ (f : ℕ → ℕ) where
  pub no_codes : CodedTo f 0 (replicate longest_list 0) true
  no_codes = record { filled = none_filled 0 f (numbers 0 longest_list); zeros = refl }

  pub code_next : (i : ℕ) (r : List ℕ) (b : ℕ) (zero : Bool) → i < longest_list → b ≡ f i → CodedTo f i r zero
      → CodedTo f (i + 1) (set r i b) (zero && eqb b 0)
  code_next i r b zero h e v = record {
    filled = filled_next 0 f ns i 0 r b h k at v.filled;
    zeros =
        ap₂ ◌&&◌ v.zeros (eqb_swap b 0 ∙ ap (eqb 0) (sym at) ∙ sym (and-true _))
        ∙ sym (ap all_zero (map_next f ns i 0 k) ∙ every_append (eqb 0) (map f (take i ns)) (f (get_or ns i 0) ∷ []));
  }
    where
      ns : List ℕ
      ns = numbers 0 longest_list

      k : i < length ns
      k = omega (arith, length_numbers 0 longest_list)

      at : f (get_or ns i 0) ≡ b
      at = ap f (number_at 0 longest_list i 0 h ∙ zero-add i) ∙ sym e

-- the names are as many as their count
pub ruleset counted = (asks_length, flags_but, mapped_length, pick_true, pick_false)

-- of the first n flags no more are counted than n
pub fresh_few : (n : ℕ) (l : List Bool) → how_many not (take n l) ≤ n
fresh_few n l = omega (arith, how_many_few not (take n l), length-take n l)

-- the looks that they make
pub told_is : (has clear : Flags) (wanted : Bool) (i n : ℕ) (r : Looks) → r.has ≡ has → i ≡ n
    → CodedTo (code_at has wanted clear) i r.codes.bytes r.zero → r ≡ told_by has wanted clear n
unfolding told_by codes_of
told_is has clear wanted i n r p e v = λ t. record {
  has = p t;
  codes = record { bytes = filled_all 0 f (numbers 0 longest_list) i n r.codes.bytes e v.filled t };
  zero = (v.zeros ∙ ap (λ (j : ℕ). all_zero (map f (take j (numbers 0 longest_list)))) e) t;
}
  where
    f : ℕ → ℕ
    f = code_at has wanted clear

blank : Pointed
blank = record { exclusive = false; name = record { 0 = 0 } }

-- by the flags of all names, where each place has its name's code
module _ (l : PointedList) (h : l.count ≤ length l.names) (k : l.count ≤ longest_list) where
  looks_are : (has clear : Flags) (wanted : Bool) (f : Ask → Bool) (g : Ask → ℕ) → has ≡ flags_of f (pointed_in l)
      → ((j : ℕ) (d : Pointed) → j < l.count
      → code_by (f (pointed_ask (get_or l.names j d))) wanted (get_or clear.of j false)
      ≡ g (pointed_ask (get_or l.names j d)))
      → told_by has wanted clear l.count ≡ looks_of f g (pointed_in l)
  unfolding told_by looks_of
  looks_are has clear wanted f g e w =
      λ t. record { has = e t; codes = codes_of (codes t); zero = all_zero (codes t) }
    where
      n : length (pointed_in l).asks ≡ l.count
      n = asks_length l h

      at : (j : ℕ) → j < length (pointed_in l).asks
          → code_at has wanted clear (0 + j) ≡ g (get_or (pointed_in l).asks j (pointed_ask blank))
      at j u =
          let s : j < l.count = omega (arith, n) in
          let d = get_or-take l.count (map pointed_ask l.names) j (pointed_ask blank) s in
          ap (code_at has wanted clear) (zero-add j)
          ∙ ap (λ (b : Bool). code_by b wanted (get_or clear.of j false)) (flag_at f l has j blank false e s h)
          ∙ w j blank s ∙ ap g (sym (d ∙ get_or-map pointed_ask l.names j blank))

      codes : map (code_at has wanted clear) (take l.count (numbers 0 longest_list)) ≡ map g (pointed_in l).asks
      codes =
          ap (λ (m : ℕ). map (code_at has wanted clear) (take m (numbers 0 longest_list))) (sym n)
          ∙ by_number (code_at has wanted clear) g (pointed_ask blank) 0 longest_list (pointed_in l).asks
          (omega (arith, n)) at

-- the rules' columns, by whether the caller is to have an entry
fresh_code : (has clear : Bool) → code_by has false clear ≡ pick has 8 (pick clear 0 4)
unfolding pick
fresh_code true clear = refl
fresh_code false true = refl
fresh_code false false = refl

held_code_lem : (has clear : Bool) → code_by has true clear ≡ pick has (pick clear 0 4) 8
unfolding pick
held_code_lem true true = refl
held_code_lem true false = refl
held_code_lem false clear = refl

module _ (l : PointedList) (h : l.count ≤ length l.names) (k : l.count ≤ longest_list) (q : List Entry) (c : ℕ)
    (has clear : Flags) (e : has ≡ flags_of (entered q c) (pointed_in l)) where
  abbrev ask : ℕ → Pointed → Ask
  ask j d = pointed_ask (get_or l.names j d)

  all_clear_lem : clear ≡ all_clear → (j : ℕ) → j < l.count → get_or clear.of j false ≡ true
  all_clear_lem v j s =
      ap (λ (f : Flags). get_or f.of j false) v ∙ get_or-replicate longest_list j true false (omega arith)

  -- ENQ
  enq_code_lem : (ret : Ret) → clear ≡ clear_for ret q c (pointed_in l) → (j : ℕ) (d : Pointed) → j < l.count
      → code_by (entered q c (ask j d)) (wants_entry ret) (get_or clear.of j false) ≡ enq_code (looks_as ret) q c (ask j d)
  unfolding clear_for enq_code pick
  enq_code_lem None v j d s = rw (all_clear_lem v j s) (fresh_code (entered q c (ask j d)) true)
  enq_code_lem Test v j d s = rw (flag_at (available q) l clear j d false v s h) (fresh_code (entered q c (ask j d)) _)
  enq_code_lem Use v j d s = rw (flag_at (available q) l clear j d false v s h) (fresh_code (entered q c (ask j d)) _)
  enq_code_lem Have v j d s = rw (all_clear_lem v j s) (fresh_code (entered q c (ask j d)) true)
  enq_code_lem Chng v j d s =
      rw (flag_at (λ (a : Ask). sole_owner q c a.name) l clear j d false v s h) (held_code_lem (entered q c (ask j d)) _)

  pub enq_looks_are : (ret : Ret) (wanted : Bool) → wanted ≡ wants_entry ret → clear ≡ clear_for ret q c (pointed_in l)
      → told_by has wanted clear l.count ≡ enq_looks ret q c (pointed_in l)
  enq_looks_are ret wanted u v =
      ap (λ (b : Bool). told_by has b clear l.count) u
      ∙ looks_are l h k has clear (wants_entry ret) (entered q c) (enq_code (looks_as ret) q c) e (enq_code_lem ret v)

  -- DEQ
  deq_code_lem : clear ≡ all_clear → (j : ℕ) (d : Pointed) → j < l.count
      → code_by (entered q c (ask j d)) true (get_or clear.of j false) ≡ held_code q c (ask j d)
  unfolding deq_code pick
  deq_code_lem v j d s = rw (all_clear_lem v j s) (held_code_lem (entered q c (ask j d)) true)

  pub deq_looks_are : clear ≡ all_clear → told_by has true clear l.count ≡ deq_looks q c (pointed_in l)
  deq_looks_are v =
      looks_are l h k has clear true (entered q c) (held_code q c) e (deq_code_lem v)
