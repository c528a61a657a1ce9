-- Lemmas about the branches of `validate_add` and `add_pair`.
use Rattle.std.specs.Prelude.{Result, Ok, Err, ⊤}
use mathlib.Core.Path.{◌≡◌, refl, ap}
use mathlib.Core.List.{List, [], ◌∷◌}
use Prim.Native.Nat.{ℕ, suc, ◌+◌, ◌*◌, ◌-◌, ◌/◌, ◌≤◌, ◌<◌}
use native.Mathlib.Omega.{arith}
use lib.ListN.{length}
use borrow.Author.Tests.{le-leb, lt-leb}
use Rattle.text.specs.Text.{Text}
use Rattle.pair_list_write.proofs.PushBranches.{PushedPair, pair_there}
use Rattle.refusal.specs.declared.Refusal.{Refusal}
use Rattle.refusal.specs.declared.Refusal.TheVariants.{TooMany, NoRoom}
use Rattle.validate.specs.Validate.{validate_call}
use Rattle.validate.proofs.RefusalLaws.{never}
use Rattle.open_list.specs.declared.OpenList.{OpenList}
use Rattle.open_list.specs.Add.{validate_add, add_reply, add_bytes, add_places, AddFits}

-- `validate_add`
module _ (k : OpenList) (s t : Text) (room slots : ℕ) (q : Result ⊤ Refusal) (e : q ≡ validate_call [] (s ∷ t ∷ []) (s ∷ t ∷ [])) where
  abbrev Answers : Result ⊤ Refusal → Type 0
  Answers a = (a ≡ validate_add k s t room slots) × AddFits a k (length s) (length t) room slots

  -- A refusal implies nothing about the lengths.
  refuses : (x : Refusal) → Err x ≡ validate_add k s t room slots → Answers (Err x)
  unfolding AddFits
  refuses x h = (h, λ w. absurd (never x w))

  pub add_refused : (x : Refusal) → q ≡ Err x → Answers (Err x)
  unfolding validate_add
  add_refused x h = refuses x (rw (← e, h))

  module _ (h : q ≡ Ok tt) where
    pub add_many : 64 ≤ k.pairs → Answers (Err TooMany)
    unfolding validate_add
    add_many l = refuses TooMany (rw (← e, h, lt-leb (suc k.pairs) 64 (omega (arith, l))))

    module _ (l : k.pairs < 64) where
      pub add_beyond : slots / 4 ≤ k.pairs → Answers (Err TooMany)
      unfolding validate_add
      add_beyond m = refuses TooMany (rw (← e, h, le-leb (suc k.pairs) 64 (omega (arith, l)), lt-leb (4 * suc k.pairs) slots (omega (arith, m))))

      module _ (m : k.pairs < slots / 4) where
        full : room < k.bytes + (length s + length t) → Answers (Err NoRoom)
        unfolding validate_add
        full n =
            refuses NoRoom
            (rw (← e, h, le-leb (suc k.pairs) 64 (omega (arith, l)), le-leb (4 * suc k.pairs) slots (omega (arith, m)), lt-leb (k.bytes + (length s + length t)) room n))

        pub add_start : room < k.bytes → Answers (Err NoRoom)
        add_start n = full (omega (arith, n))

        module _ (n : k.bytes ≤ room) where
          pub add_source : room - k.bytes < length s → Answers (Err NoRoom)
          add_source o = full (omega (arith, n, o))

          module _ (o : length s ≤ room - k.bytes) where
            pub add_target : room - k.bytes - length s < length t → Answers (Err NoRoom)
            add_target p = full (omega (arith, n, o, p))

            pub add_passed : length t ≤ room - k.bytes - length s → Answers (Ok tt)
            unfolding validate_add AddFits
            add_passed p =
                let fits : k.bytes + (length s + length t) ≤ room = omega (arith, n, o, p) in (
                  rw (← e, h, le-leb (suc k.pairs) 64 (omega (arith, l)), le-leb (4 * suc k.pairs) slots (omega (arith, m)), le-leb (k.bytes + (length s + length t)) room fits),
                  λ w. (l, omega (arith, m), fits),
                )

-- `add_pair`
pub passed_fits : (q : Result ⊤ Refusal) (k : OpenList) (s t room slots : ℕ) → AddFits q k s t room slots → q ≡ Ok tt → (k.pairs < 64) × (4 * k.pairs + 4 ≤ slots) × (k.bytes + (s + t) ≤ room)
unfolding AddFits
passed_fits q k s t room slots f e = f e

module _ (k : OpenList) (s t : Text) (bytes : Text) (places : List ℕ) (a q : Result ⊤ Refusal) (h : q ≡ a) where
  abbrev Adds : Result OpenList Refusal → Text → List ℕ → Type 0
  Adds r bytes' places' = (r ≡ add_reply a k s t) × ((bytes' ≡ add_bytes a k s t bytes) × (places' ≡ add_places a k s t places))

  pub pair_refused : (x : Refusal) → q ≡ Err x → Adds (Err x) bytes places
  unfolding add_reply add_bytes add_places
  pair_refused x e = rw (← h, e) (refl, (refl, refl))

  module _ (e : q ≡ Ok tt) (f : AddFits q k (length s) (length t) (length bytes) (length places)) where
    room : (k.pairs < 64) × (4 * k.pairs + 4 ≤ length places) × (k.bytes + (length s + length t) ≤ length bytes)
    room = passed_fits q k (length s) (length t) (length bytes) (length places) f e

    pub pair_added : (end : ℕ) (bytes' : Text) (places' : List ℕ) → PushedPair s t k.pairs k.bytes bytes places end bytes' places'
        → Adds (Ok (record { pairs = k.pairs + 1; bytes = end })) bytes' places'
    unfolding add_reply add_bytes add_places
    pair_added end bytes' places' w =
        let x = pair_there s t k.pairs k.bytes bytes places room.2 room.1 end bytes' places' w in
        rw (← h, e) (ap (λ (n : ℕ). Ok (record { pairs = k.pairs + 1; bytes = n })) x.end, (x.text, x.places))
