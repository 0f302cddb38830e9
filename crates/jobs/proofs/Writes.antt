-- What `write!` leaves of the writer: where it answers Ok, each call of `write_str` has, so no write has failed in it.
use Rattle.std.specs.Prelude.{◌≡◌, List, [], ◌∷◌, ℕ}
use Rattle.std.proofs.Common.{sym, ap, ◌∙◌}
use Rattle.std.specs.List.{FoldsTo}
use Rattle.std.specs.Fmt.{WritesInCalls}
use Rattle.jobs.specs.declared.text.Out.{Out}

abbrev Kept : Out → List ℕ → Out → Type 0
Kept before bytes after = after.written ≡ before.written

call_by_call : (parts : List (List ℕ)) (w v : Out) → FoldsTo Kept w parts v → v.written ≡ w.written
call_by_call [] w v e = ap (λ (o : Out). o.written) (sym e)
call_by_call (part ∷ parts) w v h = call_by_call parts h.0 v h.2 ∙ h.1

pub none_failed : (w v : Out) (bytes : List ℕ) → WritesInCalls Kept w bytes v → v.written ≡ w.written
none_failed w v bytes h = call_by_call h.parts w v h.calls
