use Rattle.std.proofs.Common.{rules, refl, ◌≡◌, true, false, arith, ℕ}
use Rattle.std.proofs.lemmas.Iterator.{cases_from_any, YieldsList-from_range}
use borrow.Author.Tests.{tests, le-leb, lt-leb}
use lib.Dec.{leb}
use Rattle.relocates.proofs.StatusBranches.{some_in_range}
use Rattle.route_legs.specs.LentRoute.{kind_at}
use Rattle.route_maps.specs.Prepared.{has_relocates}
use Rattle.route_maps.proofs.has_relocates.Goals as goal

pub returns : goal.returns
unfolding has_relocates
returns c =
    let passes = λ (k : ℕ). leb 2 (kind_at c.args.legs.now k) in
    some_in_range passes c.args.n _
    (cases_from_any _ _ _ (λ k. passes k ≡ true) (λ k. passes k ≡ false) c.any.ensures.ran (YieldsList-from_range 0 c.args.n c.args.n refl (omega arith))
    (λ x q k. search (rules, tests, le-leb)) (λ x q k. search (rules, tests, lt-leb)))
