-- What the one range test of a service says of each of its numbers.
use Rattle.std.specs.Prelude.{ℕ, ◌≡◌, true, not, ◌&&◌, ℤ}
use Rattle.lists.specs.Bools.{both}
use Rattle.kinds.specs.Ranges.{priority_good, dpmod_good, end_code_good, ecb_good, post_code_good, address_good}
use Rattle.kinds.specs.Ranges.{length_good, subpool_good}
use Rattle.kinds.specs.declared.numbers.EcbNumber.{EcbNumber}
use Rattle.kinds.specs.declared.numbers.Address.{Address}
use Rattle.std.specs.Prelude.{Option}
use Rattle.kinds.specs.declared.requests.Ret.{Ret}
use Rattle.rules.specs.Names.{Names, names_good}
use Rattle.rules.specs.Attach.{maybe_good, attach_good}
use Rattle.rules.specs.End.{end_good}
use Rattle.rules.specs.Enq.{asks_shared, enq_good}
use Rattle.rules.specs.Post.{post_good}
use Rattle.rules.specs.Clear.{clear_good}
use Rattle.rules.specs.Getmain.{getmain_good}
use Rattle.rules.specs.Freemain.{freemain_good}

pub attach_ecb : (lpmod : ℕ) (dpmod : ℤ) (ecb : Option EcbNumber) → attach_good lpmod dpmod ecb ≡ true → maybe_good ecb ≡ true
unfolding attach_good
attach_ecb lpmod dpmod ecb h = (both (priority_good lpmod && dpmod_good dpmod) (maybe_good ecb) h).1

pub end_code : (code : ℕ) → end_good code ≡ true → end_code_good code ≡ true
unfolding end_good
end_code code h = h

pub enq_names : (ret : Ret) (l : Names) → enq_good ret l ≡ true → names_good l ≡ true
unfolding enq_good
enq_names ret l h = (both (names_good l) (not (asks_shared ret l)) h).0

pub post_ranges : (e : EcbNumber) (code : ℕ) → post_good e code ≡ true
    → (ecb_good e.0 ≡ true) × (post_code_good code ≡ true)
unfolding post_good
post_ranges e code h = both (ecb_good e.0) (post_code_good code) h

pub clear_ecb : (e : EcbNumber) → clear_good e ≡ true → ecb_good e.0 ≡ true
unfolding clear_good
clear_ecb e h = h

pub getmain_ranges : (bytes subpool : ℕ) → getmain_good bytes subpool ≡ true
    → (length_good bytes ≡ true) × (subpool_good subpool ≡ true)
unfolding getmain_good
getmain_ranges bytes subpool h = both (length_good bytes) (subpool_good subpool) h

pub freemain_length : (address : Address) (bytes subpool : ℕ) → freemain_good address bytes subpool ≡ true
    → length_good bytes ≡ true
unfolding freemain_good
freemain_length address bytes subpool h =
    (both (address_good address.0) (length_good bytes)
    (both (address_good address.0 && length_good bytes) (subpool_good subpool) h).0).1
