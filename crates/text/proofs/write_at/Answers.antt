use Rattle.text.proofs.WriteLaws.{puts, put_outside, put_over}
use borrow.Author.Rules.{rules}
use Rattle.text.proofs.write_at.Goals as goal
use Rattle.text.proofs.write_at.Goals.{else-at-out-via-then-at-out+else-text-out, else-at-out-via-else-at-out}

pub loop-i-preserved : goal.loop-i-preserved
loop-i-preserved c = search (rules, puts)

pub returns-after-loop-i : goal.returns-after-loop-i
returns-after-loop-i c = search (rules, puts)

pub returns-else-at-out : goal.returns-else-at-out
returns-else-at-out c =
    elim c.else-at-out.branch [
      | else-at-out-via-then-at-out+else-text-out w ↦ put_over _ _ _ w.if-at-out.true w.if-text-out.false
      | else-at-out-via-else-at-out w ↦ put_outside _ _ _ w.if-at-out.false
    ]
