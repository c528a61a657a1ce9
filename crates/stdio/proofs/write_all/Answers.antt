-- A write takes bytes from the beginning of those that are left.
use Rattle.std.proofs.Common.{◌≡◌, ℕ, ◌+◌, ◌-◌, List, ◌++◌, rules, length, take, drop, sym, ap, ◌∙◌, subst}
use Rattle.std.proofs.lemmas.List.{take_rest}
use Rattle.std.specs.Io.KnownBytes.{Appends}
use Rattle.std.proofs.KnownBytes.{Appends-trans}
use lib.Seq.{take-add}
use Rattle.stdio.proofs.write_all.Goals as goal
use Rattle.stdio.proofs.write_all.Goals.{in-Ok, in-Err+else-not-is_retry}

joined : (done n : ℕ) (buf : List ℕ) → take done buf ++ take n (take (length buf - done) (drop done buf)) ≡ take (done + n) buf
joined done n buf = ap (λ l. take done buf ++ take n l) (take_rest buf done) ∙ sym (take-add done n buf)

pub loop-write-preserved : goal.loop-write-preserved
loop-write-preserved g c =
    let done = c.loop-write.done in
    elim c.match-write.branch [
      | in-Ok w ↦ rw w.done-is (search rules, subst (Appends _ _) (joined done w.in-Ok.n c.args.buf.now) (Appends-trans _ _ _ _ _ c.loop-write.invariant.1 w.in-Ok.ensures.bytes))
      | in-Err+else-not-is_retry w ↦ rw w.done-is (search rules, search rules)
    ]
