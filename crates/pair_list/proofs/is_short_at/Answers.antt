use Rattle.std.proofs.Common.{arith, sym, ◌∙◌}
use borrow.Author.Tests.{leb-true, leb-false}
use Rattle.pair_list.proofs.PlaceBranches.{fits_missing, fits_start, fits_end, fits_length}
use Rattle.pair_list.proofs.is_short_at.Goals as goal
use Rattle.pair_list.proofs.is_short_at.Goals.{then-start-store, else-start-store}

pub returns-then-places-j : goal.returns-then-places-j
returns-then-places-j c = fits_missing _ _ _ c.if-places-j.true

pub returns-then-n-store : goal.returns-then-n-store
returns-then-n-store c =
    elim c.if-start-store.branch [
      | then-start-store w ↦ fits_length _ _ _ c.if-places-j.false w.if-start-store.true (leb-true _ _ (sym w.value-is ∙ c.if-n-store.true))
      | else-start-store w ↦ absurd (omega (arith, leb-true _ _ (sym w.value-is ∙ c.if-n-store.true)))
    ]

pub returns-else-n-store : goal.returns-else-n-store
returns-else-n-store c =
    elim c.if-start-store.branch [
      | then-start-store w ↦ c.if-n-store.false ∙ fits_end _ _ _ c.if-places-j.false (leb-false _ _ (sym w.value-is ∙ c.if-n-store.false))
      | else-start-store w ↦ c.if-n-store.false ∙ fits_start _ _ _ c.if-places-j.false w.if-start-store.false
    ]
