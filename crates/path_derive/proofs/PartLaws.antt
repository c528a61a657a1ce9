-- What `replace_prefix` has written, from the outcome of the join.
use Rattle.std.specs.Prelude.{Result, ℕ}
use mathlib.Core.Path.{◌≡◌}
use mathlib.Core.Bool.{Bool, true, false, cond}
use lib.ListN.{length, drop}
use Rattle.text.specs.Text.{Text}
use Rattle.path_grammar.specs.Legal.{at_most255, legal}
use Rattle.path_join.specs.Join.{join}
use Rattle.path_join.proofs.JoinParts.{join_in_parts}
use Rattle.refusal.specs.declared.Refusal.TheVariants.{MadeTooLong, MadeIllegal}
use Rattle.refusal.specs.Outcome.{Outcome, path, refused, outcome_reply, outcome_buffer, checked, ReturnsPath}
use Rattle.path_derive.specs.Calls.{WrittenInParts}
use Rattle.refusal.specs.declared.Refusal.{Refusal}

pub written_in_parts : (p s t : Text) (reply : Result ℕ Refusal) (out out' : Text) → ReturnsPath (checked (join s t (drop (length s) p))) reply out out'
    → WrittenInParts p s t reply out'
unfolding checked outcome_reply outcome_buffer
written_in_parts p s t reply out out' w = go (at_most255 q) (legal q) w.0 w.1
  where
    q : Text
    q = join s t (drop (length s) p)

    outcome : Bool → Bool → Outcome
    outcome short lawful = cond short (cond lawful (path q) (refused MadeIllegal)) (refused MadeTooLong)

    go : (short lawful : Bool) → reply ≡ outcome_reply (outcome short lawful) → out' ≡ outcome_buffer (outcome short lawful) out
        → WrittenInParts p s t reply out'
    go true true e f = rw (e, f) (join_in_parts s t (drop (length s) p) out)
    go true false e f = rw e tt
    go false lawful e f = rw e tt
