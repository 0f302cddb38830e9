-- ENQ queues at the tail or makes exclusive, DEQ releases: the run tells of both what the services do.
use mathlib.Core.Path.{◌≡◌, refl, sym, ap, subst, ◌∙◌}
use mathlib.Core.Bool.{Bool, true, false}
use mathlib.Core.List.{List, [], ◌∷◌, map}
use Prim.Native.Nat.{ℕ}
use Rattle.lists.specs.Pick.{pick}
use Rattle.kinds.specs.declared.numbers.TaskNumber.{TaskNumber}
use Rattle.kinds.specs.declared.requests.Ret.{Ret}
use Rattle.kinds.specs.declared.requests.Ret.TheVariants.{None, Test, Use, Have, Chng}
use Rattle.kinds.specs.declared.requests.DeqRet.{DeqRet}
use Rattle.kinds.specs.declared.requests.Request.TheVariants.{Enq, Deq}
use Rattle.rules.specs.Names.{Ask, Names, names_of}
use Rattle.rules.specs.Control.{Entry}
use Rattle.rules.specs.ResourceWaits.{requeued}
use Rattle.rules.specs.Codes.{all_zero, coded}
use Rattle.rules.specs.Steps.{Step, done, four}
use Rattle.rules.specs.Enq.{enq_code, enq_codes, to_queue, with_tail, enq_tail, only_if_zero, enq_done}
use Rattle.rules.specs.Deq.{deq_done}
use Rattle.rules.specs.Reading.{Effect, Queues, Releases, Changes, after, Reading, read_by}
use Rattle.laws.specs.Settling.{kindred}
use Rattle.history.proofs.Effects.{queues, releases, changes}
use Rattle.history.proofs.Heirs.{kindred_heirs}
use Rattle.history.proofs.Seen.{Seen, heirs_seen, same_seen}
use Rattle.history.proofs.Turns.{Follows, picked_follows}

-- under NONE every code is 0
none_codes : (q : List Entry) (c : ℕ) (l : List Ask) → all_zero (map (enq_code None q c) l) ≡ true
unfolding enq_code
none_codes q c [] = refl
none_codes q c (a ∷ l) = none_codes q c l

module _ (s : Step) (r : Reading) (e : Seen s r) (l : Names) where
  -- the queue becomes what the effect makes of it
  requeued_seen : (ev : Effect) (q : List Entry) → after ev s.queue ≡ q
      → Seen (requeued s q) (record { links = r.links; queue = after ev r.queue })
  requeued_seen ev q f =
      heirs_seen s r e _ _ (kindred_heirs s.tasks _ (kindred q s.tasks)) (ap (after ev) e.queue ∙ f)

  pub deq_done_lem : (c : TaskNumber) (ret : DeqRet) → Follows r (Deq c ret) l (deq_done s c ret l)
  unfolding deq_done coded
  deq_done_lem c ret =
      let f = requeued_seen (Releases c.0 (names_of l)) _ (releases c.0 (names_of l) s.queue) in
      picked_follows r (Deq c ret) l _ _ _ f f

  tail_seen : (c : ℕ) (asks : List Ask) → Seen (requeued s (with_tail s.queue c asks)) (read_by r (Queues c asks))
  tail_seen c asks = requeued_seen (Queues c asks) _ (queues c asks s.queue)

  -- what is not answered 0 is not done: "only if every code is 0"
  if_zero : (c : TaskNumber) (ret : Ret) (k : List ℕ) (t : Step) → (all_zero k ≡ true → Follows r (Enq c ret) l (done t))
      → Follows r (Enq c ret) l (four s) → Follows r (Enq c ret) l (coded k (only_if_zero k t s))
  unfolding coded pick
  if_zero c ret k t f g = one (all_zero k) refl
    where
      one : (b : Bool) → all_zero k ≡ b → Follows r (Enq c ret) l (pick b (done (pick b t s)) (four (pick b t s)))
      one true z = f z
      one false z = g

  pub enq_done_lem : (c : TaskNumber) (ret : Ret) → Follows r (Enq c ret) l (enq_done s c ret l)
  unfolding enq_done to_queue coded pick
  enq_done_lem c None = rw (none_codes s.queue c.0 l.asks) (tail_seen c.0 l.asks)
  enq_done_lem c Test =
      picked_follows r (Enq c Test) l (all_zero (enq_codes Test s.queue c.0 l)) (done s) (four s) (same_seen s r e)
      (same_seen s r e)
  enq_done_lem c Use =
      if_zero c Use (enq_codes Use s.queue c.0 l) (enq_tail Use s c.0 l)
      (λ z. rw z (tail_seen c.0 l.asks)) (same_seen s r e)
  enq_done_lem c Have =
      let t = enq_tail Have s c.0 l in
      let f = subst (λ (q : List Entry). Seen t (read_by r (Queues c.0 (to_queue Have q c.0 l)))) (sym e.queue)
      (tail_seen c.0 (to_queue Have s.queue c.0 l)) in
      picked_follows r (Enq c Have) l (all_zero (enq_codes Have s.queue c.0 l)) (done t) (four t) f f
  enq_done_lem c Chng =
      if_zero c Chng (enq_codes Chng s.queue c.0 l) _
      (λ z. requeued_seen (Changes c.0 (names_of l)) _ (changes c.0 (names_of l) s.queue)) (same_seen s r e)
