-- The theorems of specs/Unmoved.antt.
use Rattle.target_unmoved.specs.Unmoved.{TargetUnmoved}
use Rattle.target_unmoved.proofs.MapUnmoved.{out_leaves, home_leaves, translation_leaves, out_checks, home_checks, translation_checks}
use Rattle.target_unmoved.proofs.ChainUnmoved.{next_leaves, shift_leaves, chain_leaves, next_checks, shift_checks}

pub target_unmoved : TargetUnmoved
target_unmoved = record {
  out = out_leaves;
  home = home_leaves;
  translation = translation_leaves;
  shifting = shift_leaves;
  replacing = λ skip l ends. next_leaves l ends skip;
  chaining = λ skip l ends. chain_leaves l ends skip;
  out_checked = out_checks;
  home_checked = home_checks;
  translation_checked = translation_checks;
  shifting_checked = shift_checks;
  replacing_checked = λ skip l ends. next_checks l ends skip;
}
