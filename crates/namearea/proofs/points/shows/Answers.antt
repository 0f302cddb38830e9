-- Names of one length are compared part by part.
use Rattle.std.proofs.Common.{rules, ◌≡◌, ◌-◌, true, false, sym, ap, ◌∙◌, arith, take, drop, length, eqb-true, take_all, length-drop}
use mathlib.Core.Bool.{and-true, and-false}
use Rattle.lists.specs.Lists.{same_bytes}
use Rattle.kinds.specs.Limits.{longest_minor}
use Rattle.namearea.specs.Finding.{shows_longer, shows_parts}
use Rattle.namearea.proofs.points.shows.Goals.{then-there-size, else-there-size}
use Rattle.namearea.proofs.points.shows.Goals as goal

pub returns-then-same_bytes : goal.returns-then-same_bytes
returns-then-same_bytes c =
    let a = c.args in
    let n = a.name.now in
    let s = c.spelt_at-there in
    let there = s.result.now in
    let all : take (length there - 9) (drop 9 there) ≡ drop 9 there =
    take_all (length there - 9) (drop 9 there) (omega (arith, length-drop 9 there)) in
    elim c.if-there-size.branch [
      | then-there-size w ↦
          let t : same_bytes (drop 9 there) (take n.length n.minor) ≡ true =
          ap (λ l. same_bytes l (take n.length n.minor)) (sym all)
          ∙ sym w.same_bytes.ensures ∙ sym w.value-is ∙ c.if-same_bytes.true in
          c.same_bytes-then-same_bytes.ensures
          ∙ sym (shows_parts a.bytes.now a.at n.major n.minor n.length c.requires.bytes_len_bound.1 there
          s.ensures.value
          ∙ rw (t, and-true))
      | else-there-size w ↦ absurd (w.if-there-size.false (eqb-true _ _ (sym w.value-is ∙ c.if-same_bytes.true)))
    ]

pub returns-else-same_bytes : goal.returns-else-same_bytes
returns-else-same_bytes c =
    let a = c.args in
    let n = a.name.now in
    let s = c.spelt_at-there in
    let there = s.result.now in
    let all : take (length there - 9) (drop 9 there) ≡ drop 9 there =
    take_all (length there - 9) (drop 9 there) (omega (arith, length-drop 9 there)) in
    let m : length n.minor ≡ longest_minor = search rules in
    c.if-same_bytes.false
    ∙ elim c.if-there-size.branch [
      | then-there-size w ↦
          let t : same_bytes (drop 9 there) (take n.length n.minor) ≡ false =
          ap (λ l. same_bytes l (take n.length n.minor)) (sym all)
          ∙ sym w.same_bytes.ensures ∙ sym w.value-is ∙ c.if-same_bytes.false in
          sym (shows_parts a.bytes.now a.at n.major n.minor n.length c.requires.bytes_len_bound.1 there
          s.ensures.value
          ∙ rw (t, and-false))
      | else-there-size w ↦
          shows_longer a.bytes.now a.at n.major n.minor n.length c.requires.bytes_len_bound.1
          (omega arith)
          (λ e. w.if-there-size.false (omega (arith, s.ensures.size)))
    ]
