-- Method: The order in which the code goes through a list by a key, without sorting it: level after level, each in the order of the list.
-- proofs/LevelLaws.antt proves that this is the stable sort.
use Rattle.std.specs.Prelude.{ℕ, zero, suc, cond, List, [], ◌∷◌, ◌++◌, eqb}

-- The items whose key is e.
unfoldable pub with_key : {A : Type 0} → (A → ℕ) → ℕ → List A → List A
with_key key e [] = []
with_key key e (x ∷ l) = cond (eqb (key x) e) (x ∷ with_key key e l) (with_key key e l)

-- The items whose key is below e, level after level.
unfoldable pub by_key : {A : Type 0} → (A → ℕ) → ℕ → List A → List A
unfolding with_key
by_key key zero l = []
by_key key (suc e) l = by_key key e l ++ with_key key e l
