-- How an ECB's word and its tests come out, test by test.
use Rattle.std.specs.Prelude.{◌≡◌, refl, Bool, true, false, not, ◌&&◌, ℕ, ◌+◌, ◌*◌, eqb}
use Rattle.std.proofs.Math.Path.{sym}
use Rattle.std.proofs.Math.Bool.{and-false}
use Rattle.std.proofs.Common.{arith, eqb-true, le-leb}
use Rattle.kinds.specs.Limits.{highest_post_code}
use Rattle.kinds.specs.Ranges.{post_code_good}
use Rattle.kinds.specs.declared.ecbs.Ecb.{Ecb}
use Rattle.rules.specs.Events.{word_of}
use Rattle.rules.specs.SoundEcbs.{ecb_word_good, zero_ecb}

-- code 0 is in range
zero_good : (code : ℕ) (b : Bool) → eqb code 0 ≡ b → b ≡ (b && post_code_good code)
zero_good code true e =
    let z : code ≡ 0 = eqb-true code 0 e in sym (le-leb code highest_post_code (omega arith))
zero_good code false e = refl

either_way : (a : Bool) → true ≡ not (not a && false)
either_way true = refl
either_way false = refl

module _ (x : Ecb) where
  pub word_code : eqb x.waiter.0 0 ≡ true → x.complete ≡ false → x.code ≡ word_of x
  unfolding word_of
  word_code w h = rw (w, h) (omega arith)

  pub word_complete : eqb x.waiter.0 0 ≡ true → x.complete ≡ true → (highest_post_code + 1) + x.code ≡ word_of x
  unfolding word_of
  word_complete w h = rw (w, h) (omega arith)

  pub word_waited : eqb x.waiter.0 0 ≡ false → x.complete ≡ false → 2 * (highest_post_code + 1) + x.code ≡ word_of x
  unfolding word_of
  word_waited w h = rw (w, h) (omega arith)

  pub word_both : eqb x.waiter.0 0 ≡ false → x.complete ≡ true
      → 2 * (highest_post_code + 1) + (highest_post_code + 1) + x.code ≡ word_of x
  unfolding word_of
  word_both w h = rw (w, h) (omega arith)

  pub good_complete : x.complete ≡ true → eqb x.waiter.0 0 ≡ true → post_code_good x.code ≡ ecb_word_good x
  unfolding ecb_word_good
  good_complete h w = rw (h, w)

  pub good_waited : x.complete ≡ true → eqb x.waiter.0 0 ≡ false → false ≡ ecb_word_good x
  unfolding ecb_word_good
  good_waited h w = rw (h, w)

  pub good_incomplete : x.complete ≡ false → eqb x.code 0 ≡ ecb_word_good x
  unfolding ecb_word_good
  good_incomplete h = rw (h, sym (either_way (eqb x.waiter.0 0))) (zero_good x.code (eqb x.code 0) refl)

  pub zero_complete : x.complete ≡ true → false ≡ zero_ecb x
  unfolding zero_ecb
  zero_complete h = rw h (sym (and-false (not (not (eqb x.waiter.0 0)))))

  pub zero_waited : eqb x.waiter.0 0 ≡ false → false ≡ zero_ecb x
  unfolding zero_ecb
  zero_waited w = rw w

  pub zero_code : x.complete ≡ false → eqb x.waiter.0 0 ≡ true → eqb x.code 0 ≡ zero_ecb x
  unfolding zero_ecb
  zero_code h w = rw (h, w)
