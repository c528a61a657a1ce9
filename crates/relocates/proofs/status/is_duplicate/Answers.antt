use Rattle.std.proofs.Common.{rules, refl, ◌≡◌, true, false, arith, ℕ}
use Rattle.std.proofs.lemmas.Iterator.{cases_from_any, YieldsList-from_range}
use Rattle.pair_list.specs.Places.{pair_in}
use Rattle.relocates.specs.Status.{claims_source}
use Rattle.relocates.proofs.StatusBranches.{some_in_range, duplicate_of}
use Rattle.relocates.proofs.status.is_duplicate.Goals as goal

pub returns : goal.returns
returns c =
    let passes = λ (k : ℕ). claims_source (pair_in c.args.store.now c.args.places.now k) c.key_at-source.result.now in
    duplicate_of _ _ _ c.args.i (omega arith) _ refl c.key_at-source.ensures _
    (some_in_range passes c.args.i _
    (cases_from_any _ _ _ (λ k. passes k ≡ true) (λ k. passes k ≡ false) c.any.ensures.ran (YieldsList-from_range 0 c.args.i c.args.i refl (omega arith))
    (λ x q k. search rules) (λ x q k. search rules)))
