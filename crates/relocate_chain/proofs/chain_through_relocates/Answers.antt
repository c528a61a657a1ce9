use Rattle.std.proofs.Common.{rules, Err, ◌≡◌}
use lib.ListN.{length}
use mathlib.Core.Path.{refl, ◌∙◌}
use Rattle.relocate_chain.specs.ChainStep.{skip_text}
use Rattle.relocate_chain.specs.Calls.{skipped_source}
use Rattle.relocate_chain.proofs.CallBranches.{skip_is, validate_skip, chain_refused, chain_no_room, chain_short_path, chain_passed}
use Rattle.text.proofs.Clauses.{value_out_after}
use Rattle.relocate_chain.proofs.chain_through_relocates.Goals as goal

pub returns-in_err-validate_call : goal.returns-in_err-validate_call
returns-in_err-validate_call c = let r : c.from_residual.result ≡ Err c.in_err-validate_call.field-0.0 = search rules in rw r (value_out_after (chain_refused _ _ _ _ _ (c.validate_call.ensures ∙ validate_skip _ c.args.skipped _ c.then_some-skip.ensures _ _ _ _ _ c.unwrap_or-k.ensures refl refl) _ c.in_err-validate_call.was _))

pub returns-then-room-lt255 : goal.returns-then-room-lt255
returns-then-room-lt255 c =
    let args = c.args in
    value_out_after (chain_no_room _ _ _ (length args.out.now) _
    (c.validate_call.ensures ∙ validate_skip _ c.args.skipped _ c.then_some-skip.ensures _ _ _ _ _ c.unwrap_or-k.ensures refl refl)
    c.in_ok-validate_call.was c.if-room-lt255.true _)

pub chain_and_copy-requires : goal.chain_and_copy-requires
chain_and_copy-requires c =
    let args = c.args in (
      chain_short_path _ (skipped_source args.skips args.skipped.now) _ _
          (c.validate_call.ensures ∙ validate_skip _ c.args.skipped _ c.then_some-skip.ensures _ _ _ _ _ c.unwrap_or-k.ensures refl refl)
          c.in_ok-validate_call.was,
      c.if-room-lt255.false,
    )

pub returns : goal.returns
returns c =
    let e : skip_text c.then_some-skip.result ≡ skipped_source c.args.skips c.args.skipped.now = skip_is _ c.args.skipped _ c.then_some-skip.ensures in
    value_out_after (chain_passed _ _ _ _ _
    (c.validate_call.ensures ∙ validate_skip _ c.args.skipped _ c.then_some-skip.ensures _ _ _ _ _ c.unwrap_or-k.ensures refl refl)
    c.in_ok-validate_call.was c.if-room-lt255.false _ _ _ (rw e at c.chain_and_copy.ensures.value, rw e at c.chain_and_copy.ensures.out_after))
