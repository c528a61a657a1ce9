-- The second text is written behind the whole of the first one.
use Rattle.std.proofs.Common.{◌≡◌, ℕ, ◌+◌, Bool, false, Option, None, Some, List, [], ◌++◌, length, take, refl, sym, ap, ◌∙◌, subst, append-nil}
use Rattle.std.proofs.Math.Seq.{take-length, take-append-add}
use Rattle.std.specs.Option.{is_some}
use Rattle.std.specs.Io.KnownBytes.{Appends}
use Rattle.std.proofs.KnownBytes.{Appends-trans}
use Rattle.stdio.specs.Writing.{LineBegun}
use Rattle.stdio.proofs.report.Goals as goal

one : (a b : Option (List ℕ)) (what : List ℕ) (n : ℕ) → Appends a b (take n what) → LineBegun a b what
one a b what n p = ([], n, subst (Appends a b) (ap (take n) (sym (append-nil what))) p)

both : (a b c : Option (List ℕ)) (what part : List ℕ) (m n : ℕ) → m ≡ length what → Appends a b (take m what) → Appends b c (take n part) → LineBegun a c what
both a b c what part m n e p q =
    let whole : take m what ++ take n part ≡ take (length what + n) (what ++ part)
    = ap (λ (k : ℕ). take k what ++ take n part) e ∙ ap (λ (s : List ℕ). s ++ take n part) (take-length what) ∙ sym (take-append-add what part n) in
    (part, length what + n, subst (Appends a c) whole (Appends-trans a b c (take m what) (take n part) p q))

none_is : {X : Type 0} (f : Option X) (b : Bool) → b ≡ is_some f → b ≡ false → f ≡ None
none_is None b e h = refl
none_is (Some x) b e h = cc

pub returns-then-is_some : goal.returns-then-is_some
returns-then-is_some g c = one _ _ c.args.what.now _ c.write_all.ensures.bytes

pub returns : goal.returns
returns g c =
    both _ (g.W.Write.contents c.write_all.new.to) _ c.args.what.now (take c.describe-n.result c.describe-n.new.line) _ _
    (c.write_all.ensures.all (none_is _ _ c.is_some.ensures c.if-is_some.false)) c.write_all.ensures.bytes c.write_all-2.ensures.bytes
