-- The wait bit of one ECB, as a WAIT that lists it sets it.
use Rattle.std.specs.Prelude.{ℕ}
use Rattle.lists.specs.Pick.{pick}
use Rattle.kinds.specs.declared.ecbs.Ecb.{Ecb}
use Rattle.rules.specs.Events.{with_waiter}

-- a complete ECB stays as it is, any other is waited on by task c
unfoldable pub waited_by : ℕ → Ecb → Ecb
waited_by c e = pick e.complete e (with_waiter e c)
