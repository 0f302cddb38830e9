-- THE TABLES ARE REAL: whatever requests are answered 0 from a sound step on, calls
-- that keep the contract of `serve` lead to the tables of the step that they lead
-- to. So a counterexample that starts from `after` is one that a caller can reach.
use mathlib.Core.Path.{◌≡◌, refl, sym, ap, ◌∙◌}
use mathlib.Core.Bool.{true}
use mathlib.Core.List.{List, [], ◌∷◌}
use borrow.Author.Tests.{eqb-true}
use lib.Dec.{eqb}
use Rattle.lists.specs.Lists.{every}
use Rattle.lists.specs.Bools.{both}
use Rattle.kinds.specs.Replies.{done_by}
use Rattle.kinds.specs.declared.replies.Reply.TheVariants.{Done}
use Rattle.rules.specs.Steps.{Step}
use Rattle.rules.specs.Sound.{sound_step}
use Rattle.rules.specs.Reading.{Turn}
use Rattle.laws.specs.Served.{service_of_sound}
use Rattle.history.specs.Samples.{start}
use Rattle.services.specs.Kept.{tables_of, served_by}
use Rattle.services.specs.declared.Answer.{Answer}
use Rattle.services.proofs.Names.{step_tables, sound_kept}
use Rattle.services.proofs.Serves.{sound_serves}
use Rattle.services.proofs.Tables.fresh.Reads as fresh
use Rattle.services.proofs.Tables.serve.Reads as serve
use Rattle.calls.specs.Called.{Called}
use Rattle.calls.specs.Calls.{Calls, stop, call, served, seen_of}
use Rattle.impostors.specs.Opened.{tables_open}
use Rattle.impostors.specs.Parts.{mut_lent}
use Rattle.impostors.specs.Answers.{done_says}
use Rattle.impostors.specs.Samples.{Asking, asked, ruled, after, all_done, runs}

-- the fresh step of the samples is what `fresh` gives
pub start_called : Called fresh.Post
unfolding tables_open
start_called = record {
  lifetimes = tt;
  given = (200, (150, tt));
  result = record { tables = tables_of start; reply = Done };
  exits = (200, (150, tt));
  meets = refl;
}

-- a request that is done, and what is seen of it
abbrev answer : Step → Asking → Answer
answer s a = record { tables = tables_of (ruled s a).outcome.tables; reply = done_by (ruled s a).outcome.besides }

abbrev pub turns : Step → List Asking → List Turn
turns s [] = []
turns s (a ∷ l) = seen_of (asked a) (answer s a) ∷ turns (ruled s a).outcome.tables l

called : (s : Step) (a : Asking) → sound_step s ≡ true → (ruled s a).outcome.number ≡ 0 → Called serve.Post
called s a h n = record {
  lifetimes = ([], tt);
  given = (tables_of s, (a.request, (a.names, (a.ecbs, (mut_lent a.area, tt)))));
  result = answer s a;
  exits = (tables_of s, (a.request, (a.names, (a.ecbs, (mut_lent (ruled s a).codes, tt)))));
  meets =
      sym
      (sound_serves (tables_of s) (asked a) (sound_kept s h)
      ∙ (ap (λ (u : Step). served_by (ruled u a)) (step_tables s h)
      ∙ (λ i. record {
        outcome = record {
          number = (n ∙ sym (done_says (ruled s a).outcome.besides).0) i;
          besides = sym (done_says (ruled s a).outcome.besides).1 i;
          tables = tables_of (ruled s a).outcome.tables;
        };
        codes = (ruled s a).codes;
      })));
}

pub real : (s : Step) → sound_step s ≡ true → (l : List Asking) → all_done s l ≡ true
    → Calls (tables_of s) (turns s l) (tables_of (after s l))
unfolding called
real s h [] d = stop
real s h (a ∷ l) d =
    let b = both (eqb (ruled s a).outcome.number 0) _ d in
    call (served (called s a h (eqb-true _ 0 b.0)))
    (real (ruled s a).outcome.tables (service_of_sound s a.request (asked a).names (asked a).ecbs a.area h) l
    b.1)

-- and every run of the samples is answered 0 throughout
pub samples_done : every (all_done start) runs ≡ true
unfolding tables_open
samples_done = refl
