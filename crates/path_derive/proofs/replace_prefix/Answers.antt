use mathlib.Core.Path.{ap, ◌∙◌}
use lib.ListN.{length}
use Rattle.text.proofs.BoolLaws.{known_true}
use Rattle.text.proofs.WriteLaws.{rest_whole}
use Rattle.path_prefix.proofs.PrefixLaws.{prefix_long}
use Rattle.path_join.proofs.ReplaceLaws.{replace_prefix_lem}
use Rattle.refusal.specs.Outcome.{checked_option}
use Rattle.path_derive.proofs.UnfoldedCalls.{replace_unfolded}
use Rattle.path_derive.proofs.PartLaws.{written_in_parts}
use Rattle.refusal.proofs.CallBranches.{answered_passed, answering}
use mathlib.Core.Bool.{not}
use Rattle.path_derive.proofs.replace_prefix.Goals as goal

-- the clauses by their names
by_clause_returns_path : {A B : Type 0} → A × B → record { returns_path : A; written_in_parts : B }
by_clause_returns_path t = record { returns_path = t.0; written_in_parts = t.1 }

pub slice_bounds-write_joined-count : goal.slice_bounds-write_joined-count
slice_bounds-write_joined-count c = prefix_long _ _ (known_true c.has_prefix.ensures (ap not c.if-not-has_prefix.false))

pub slice_bounds-write_joined-start : goal.slice_bounds-write_joined-start
slice_bounds-write_joined-start c = prefix_long _ _ (known_true c.has_prefix.ensures (ap not c.if-not-has_prefix.false))

pub returns : goal.returns
unfolding checked_option
returns c =
    let joined = rw (rest_whole c.args.path.now (length c.args.old.now)) at c.write_joined.ensures in by_clause_returns_path (
      answering _ _
          (replace_unfolded _ _ _ _ ∙ answered_passed _ _ _ _ c.validate_texts.ensures c.in_ok-validate_texts.was
          c.if-out-lt255.false ∙ ap checked_option (replace_prefix_lem _ _ _ (known_true c.has_prefix.ensures (ap not c.if-not-has_prefix.false))))
          _ _ _ joined,
      written_in_parts _ _ _ _ _ _ joined,
    )
