-- Wrong answers that the contracts of `names` rule out.
use Prim.Native.Nat.{ℕ, ◌-◌}
use mathlib.Core.Path.{refl}
use mathlib.Core.Bool.{Bool, true, false, not, ◌&&◌, ◌||◌}
use mathlib.Core.List.{List, [], ◌∷◌, map}
use native.Mathlib.Omega.{arith}
use lib.Dec.{eqb, leb}
use lib.ListN.{length, take, replicate}
use Rattle.lists.specs.Lists.{same_bytes, every, distinct, alike}
use Rattle.kinds.specs.Limits.{longest_minor, longest_list, system_bytes}
use Rattle.kinds.specs.Ranges.{between, minor_good, count_good}
use Rattle.kinds.specs.declared.names.Name.{Name}
use Rattle.kinds.specs.declared.names.NameList.{NameList}
use Rattle.kinds.specs.declared.requests.Ret.TheVariants.{None, Use, Chng}
use Rattle.rules.specs.Names.{Resource, Ask, Names, same_name, legal, is_system, names_of as names_among}
use Rattle.rules.specs.Names.{names_good, asks_system}
use Rattle.rules.specs.Enq.{asks_shared}
use Rattle.rules.specs.Table.{named, shr, exc}
use Rattle.rules.specs.SystemCases.{beginning, sysdsn}
use Rattle.history.specs.Samples.{x, y}
use Rattle.names.specs.Named.{resource_of, kept, ask_of, names_in}
use Rattle.names.proofs.same_name.Reads as same_name_fn
use Rattle.names.proofs.is_legal.Reads as is_legal
use Rattle.names.proofs.is_system.Reads as is_system_fn
use Rattle.names.proofs.list.names_good.Reads as names_good_fn
use Rattle.names.proofs.list.asks_shared.Reads as asks_shared_fn
use Rattle.names.proofs.list.asks_system.Reads as asks_system_fn
use Rattle.impostors.specs.Fitting.{◌⊗◌, fits-Name, fits-NameList, fits-Ret, fits_end}
use Rattle.impostors.specs.Opened.{tables_open}
use Rattle.impostors.specs.Samples.{names_of}
use Rattle.impostors.specs.Wrong.{RuledOut, wrong_at}
use Rattle.impostors.specs.Verdicts.{first_only, two_bytes, in_minor_too}

-- a name with x's major part and the bytes 1 9 in front of its array, of which so many are stated to be the minor part
abbrev stated : ℕ → Name
stated n = record { major = replicate 8 88; minor = 1 ∷ 9 ∷ replicate 42 0; length = n }

-- the bytes of the array that the stated length reaches
abbrev in_array : Name → List ℕ
in_array n = take n.length n.minor

abbrev same_major : Name → Name → Bool
same_major m n = same_bytes m.major n.major

-- ONE NAME

-- the minor parts alone are compared: two names with two major parts are one
pub same_name_major_not_compared : RuledOut (λ k. fits-Name ⊗ fits-Name ⊗ fits_end) same_name_fn.Pre same_name_fn.Post
    (λ k a. eqb a.0.length a.1.0.length && same_bytes (in_array a.0) (in_array a.1.0))
unfolding tables_open
same_name_major_not_compared = wrong_at tt (kept x, (kept y, tt)) refl tt (λ b. b) refl refl

-- the arrays are compared and not the lengths: a minor part of 1 and one of 1 0 are one
pub same_name_lengths_not_compared : RuledOut (λ k. fits-Name ⊗ fits-Name ⊗ fits_end) same_name_fn.Pre same_name_fn.Post
    (λ k a. same_bytes a.0.minor a.1.0.minor && same_major a.0 a.1.0)
unfolding tables_open
same_name_lengths_not_compared = wrong_at tt (kept x, (kept (named 88 (1 ∷ 0 ∷ [])), tt)) refl tt (λ b. b) refl refl

-- what stands behind the minor part is compared: two names of
-- the one byte 1 are two, where a 9 stands behind one of them
pub same_name_bytes_behind_compared : RuledOut (λ k. fits-Name ⊗ fits-Name ⊗ fits_end) same_name_fn.Pre same_name_fn.Post
    (λ k a. (eqb a.0.length a.1.0.length && same_bytes a.0.minor a.1.0.minor)
    && same_major a.0 a.1.0)
unfolding tables_open
same_name_bytes_behind_compared = wrong_at tt (kept x, (stated 1, tt)) refl tt not refl refl

-- a stated length above 44 is lost: 45 and 46 count as 44
pub same_name_length_above_44_lost : RuledOut (λ k. fits-Name ⊗ fits-Name ⊗ fits_end) same_name_fn.Pre same_name_fn.Post
    (λ k a. same_bytes (in_array a.0) (in_array a.1.0) && same_major a.0 a.1.0)
unfolding tables_open
same_name_length_above_44_lost = wrong_at tt (stated 45, (stated 46, tt)) refl tt (λ b. b) refl refl

-- an empty minor part passes
pub is_legal_empty_passes : RuledOut (λ k. fits-Name ⊗ fits_end) is_legal.Pre is_legal.Post
    (λ k a. leb a.0.length longest_minor)
unfolding tables_open
is_legal_empty_passes = wrong_at tt (stated 0, tt) refl tt (λ b. b) refl refl

-- a minor part of 44 bytes is too long
pub is_legal_longest_refused : RuledOut (λ k. fits-Name ⊗ fits_end) is_legal.Pre is_legal.Post
    (λ k a. between 1 (longest_minor - 1) a.0.length)
unfolding tables_open
is_legal_longest_refused = wrong_at tt (stated 44, tt) refl tt not refl refl

-- a stated length above 44 is lost: 45 passes as 44
pub is_legal_length_above_44_lost : RuledOut (λ k. fits-Name ⊗ fits_end) is_legal.Pre is_legal.Post
    (λ k a. minor_good (length (in_array a.0)))
unfolding tables_open
is_legal_length_above_44_lost = wrong_at tt (stated 45, tt) refl tt (λ b. b) refl refl

-- only two bytes are compared: E2 E8 E3
pub is_system_two_bytes_compared : RuledOut (λ k. fits-Name ⊗ fits_end) is_system_fn.Pre is_system_fn.Post
    (λ k a. two_bytes (resource_of a.0))
unfolding tables_open
is_system_two_bytes_compared =
    wrong_at tt (kept (beginning (0xE2 ∷ 0xE8 ∷ 0xE3 ∷ [])), tt) refl tt (λ b. b) refl refl

-- the bytes are looked for in the minor part too
pub is_system_in_the_minor_part : RuledOut (λ k. fits-Name ⊗ fits_end) is_system_fn.Pre is_system_fn.Post
    (λ k a. in_minor_too (resource_of a.0))
unfolding tables_open
is_system_in_the_minor_part =
    wrong_at tt (kept (named 88 (0xE2 ∷ 0xE8 ∷ 0xE2 ∷ [])), tt) refl tt (λ b. b) refl refl

-- they are looked for anywhere in the major part: at bytes 2 to 4
abbrev somewhere : List ℕ → Bool
somewhere [] = false
somewhere (b ∷ l) = same_bytes (take (length system_bytes) (b ∷ l)) system_bytes || somewhere l

pub is_system_further_on : RuledOut (λ k. fits-Name ⊗ fits_end) is_system_fn.Pre is_system_fn.Post
    (λ k a. somewhere a.0.major)
unfolding tables_open
is_system_further_on =
    wrong_at tt (kept (beginning (0x40 ∷ 0xE2 ∷ 0xE8 ∷ 0xE2 ∷ [])), tt) refl tt (λ b. b) refl refl

-- the letters are taken in ASCII: SYSDSN, as the book's machine writes it, is free
pub is_system_in_ascii : RuledOut (λ k. fits-Name ⊗ fits_end) is_system_fn.Pre is_system_fn.Post
    (λ k a. same_bytes (take 3 a.0.major) (0x53 ∷ 0x59 ∷ 0x53 ∷ []))
unfolding tables_open
is_system_in_ascii = wrong_at tt (kept sysdsn, tt) refl tt not refl refl

-- LISTS OF NAMES

-- the tests of 101, with another test that no name stands twice
abbrev good_by : (List Ask → Bool) → NameList → Bool
good_by once l = count_good l.count && (every legal (names_among (names_in l)) && once (names_in l).asks)

-- two of a list are the same, names and modes
abbrev same_ask : Ask → Ask → Bool
same_ask v w = alike v.exclusive w.exclusive && same_name v.name w.name

-- a name may stand twice with two modes: x shared and x exclusive pass
pub names_good_twice_with_two_modes : RuledOut (λ k. fits-NameList ⊗ fits_end) names_good_fn.Pre names_good_fn.Post
    (λ k a. good_by (distinct same_ask) a.0)
unfolding tables_open
names_good_twice_with_two_modes = wrong_at tt (names_of (shr x ∷ exc x ∷ []), tt) refl tt (λ b. b) refl refl

-- no name is the same as the next one
abbrev next_from : Ask → List Ask → Bool
next_from v [] = true
next_from v (w ∷ l) = not (same_name v.name w.name) && next_from w l

abbrev next_only : List Ask → Bool
next_only [] = true
next_only (v ∷ l) = next_from v l

-- each name is compared with the next one only: x y x passes
pub names_good_next_only : RuledOut (λ k. fits-NameList ⊗ fits_end) names_good_fn.Pre names_good_fn.Post
    (λ k a. good_by next_only a.0)
unfolding tables_open
names_good_next_only = wrong_at tt (names_of (exc x ∷ exc y ∷ exc x ∷ []), tt) refl tt (λ b. b) refl refl

abbrev legal_once : List Resource → Bool
legal_once ns = every legal ns && distinct same_name ns

-- a list without names passes
pub names_good_none_passes : RuledOut (λ k. fits-NameList ⊗ fits_end) names_good_fn.Pre names_good_fn.Post
    (λ k a. leb a.0.count longest_list && legal_once (names_among (names_in a.0)))
unfolding tables_open
names_good_none_passes = wrong_at tt (names_of [], tt) refl tt (λ b. b) refl refl

-- all 16 places of a list, whatever its count
abbrev all_places : NameList → Names
all_places l = record { count = l.count; asks = map ask_of l.names }

-- the places past the count are tested too: a list of x alone is refused for the zeros behind it
pub names_good_past_the_count : RuledOut (λ k. fits-NameList ⊗ fits_end) names_good_fn.Pre names_good_fn.Post
    (λ k a. names_good (all_places a.0))
unfolding tables_open
names_good_past_the_count = wrong_at tt (names_of (exc x ∷ []), tt) refl tt not refl refl

-- a shared name is refused under every RET kind: USE for x shared
pub asks_shared_use : RuledOut (λ k. fits-Ret ⊗ fits-NameList ⊗ fits_end) asks_shared_fn.Pre asks_shared_fn.Post
    (λ k a. asks_shared Chng (names_in a.1.0))
unfolding tables_open
asks_shared_use = wrong_at tt (Use, (names_of (shr x ∷ []), tt)) refl (omega arith) (λ b. b) refl refl

-- only the first name is looked at: CHNG asks for x exclusive and for y shared
pub asks_shared_first_name_only : RuledOut (λ k. fits-Ret ⊗ fits-NameList ⊗ fits_end) asks_shared_fn.Pre asks_shared_fn.Post
    (λ k a. asks_shared a.0 (record { count = 1; asks = take 1 (names_in a.1.0).asks }))
unfolding tables_open
asks_shared_first_name_only = wrong_at tt (Chng, (names_of (exc x ∷ shr y ∷ []), tt)) refl (omega arith) not refl refl

-- the places past the count are looked at, where zeros say shared: CHNG for x exclusive is refused
pub asks_shared_past_the_count : RuledOut (λ k. fits-Ret ⊗ fits-NameList ⊗ fits_end) asks_shared_fn.Pre asks_shared_fn.Post
    (λ k a. asks_shared a.0 (all_places a.1.0))
unfolding tables_open
asks_shared_past_the_count = wrong_at tt (Chng, (names_of (exc x ∷ []), tt)) refl (omega arith) (λ b. b) refl refl

-- only the first name is looked at: x, and then a system name
pub asks_system_first_name_only : RuledOut (λ k. fits-NameList ⊗ fits_end) asks_system_fn.Pre asks_system_fn.Post
    (λ k a. first_only None (names_in a.0))
unfolding tables_open
asks_system_first_name_only = wrong_at tt (names_of (exc x ∷ exc sysdsn ∷ []), tt) refl (omega arith) not refl refl

-- all names have to be the system's: of two one is
pub asks_system_all_of_them : RuledOut (λ k. fits-NameList ⊗ fits_end) asks_system_fn.Pre asks_system_fn.Post
    (λ k a. every is_system (names_among (names_in a.0)))
unfolding tables_open
asks_system_all_of_them = wrong_at tt (names_of (exc sysdsn ∷ exc x ∷ []), tt) refl (omega arith) not refl refl

-- the places past the count are looked at: a system name was left behind x
abbrev left_behind : NameList
left_behind = record { count = 1; names = (names_of (exc x ∷ exc sysdsn ∷ [])).names }

pub asks_system_past_the_count : RuledOut (λ k. fits-NameList ⊗ fits_end) asks_system_fn.Pre asks_system_fn.Post
    (λ k a. asks_system (all_places a.0))
unfolding tables_open
asks_system_past_the_count = wrong_at tt (left_behind, tt) refl (omega arith) (λ b. b) refl refl
