-- The loop. After k replacements the chain from the path so far, with n - k replacements left, is the whole chain.
use mathlib.Core.Path.{◌≡◌}
use Prim.Native.Nat.{◌-◌, ◌≤◌}
use lib.ListN.{length, take}
use Rattle.pair_list.specs.Places.{pairs_in}
use Rattle.relocate_chain.specs.Chain.{chain, chain_from}
use Rattle.relocate_chain.specs.ChainStep.{skip_text}
use Rattle.relocate_chain.proofs.steps.chain_into.Given as goal

abbrev pub invariant-loop-k : goal.invariant-loop-k
invariant-loop-k l = (l.len ≤ 255) × (length l.current ≡ 255) × (length l.made ≡ 255) × (chain (skip_text l.skip) (pairs_in l.store l.places l.n) l.path ≡ chain_from (skip_text l.skip) (pairs_in l.store l.places l.n) (l.n - l.k) (take l.len l.current) l.k)
