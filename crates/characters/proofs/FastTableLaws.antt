-- Lemmas about the packed table of the first scan, and about the scan that uses it.
use mathlib.Core.Path.{◌≡◌, refl, sym, ap, ◌∙◌}
use mathlib.Core.Bool.{Bool, true}
use mathlib.Core.List.{List, [], ◌∷◌}
use Prim.Native.Nat.{ℕ, ◌+◌, ◌/◌, ◌%◌, ◌^◌, ◌<◌, ◌≤◌}
use native.Mathlib.Numerals.{add-one}
use lib.Dec.{eqb}
use borrow.Author.Tests.{eqb-true}
use lib.ListN.{length, get_or, drop, drop_of_length-le}
use lib.Seq.{drop-cons}
use Rattle.text.specs.Text.{Text}
use Rattle.text.proofs.BoolLaws.{up_to, at_each}
use Rattle.text.proofs.TableLaws.{listed}
use Rattle.characters.specs.NameCharacter.{characters_allowed}
use Rattle.characters.specs.FastScan.{FastState, Start, Unsure, One, Two, Three, AfterC2, AfterE0, AfterE1E3, AfterED, AfterF0, AfterF4, fast_step, fast_run, fast_accept, fast_accepts, fast_code, packed_fast_steps}
use Rattle.characters.proofs.FastLaws.{fast_is_sound}

-- The packed number of byte a holds the next state of state s at the bit offset of s: for each state and each byte, by computation.
unfoldable holds : FastState → ℕ → Bool
unfolding fast_code packed_fast_steps fast_step
holds s a = eqb (packed_fast_steps a / 2 ^ fast_code s % 64) (fast_code (fast_step s a))

all_hold : (s : FastState) → up_to (holds s) 256 ≡ true
unfolding holds
all_hold Start = refl
all_hold Unsure = refl
all_hold One = refl
all_hold Two = refl
all_hold Three = refl
all_hold AfterC2 = refl
all_hold AfterE0 = refl
all_hold AfterE1E3 = refl
all_hold AfterED = refl
all_hold AfterF0 = refl
all_hold AfterF4 = refl

rule : (s : FastState) (a : ℕ) → a < 256 → packed_fast_steps a / 2 ^ fast_code s % 64 ≡ fast_code (fast_step s a)
unfolding holds
rule s a h = eqb-true (packed_fast_steps a / 2 ^ fast_code s % 64) (fast_code (fast_step s a)) (at_each (holds s) 256 a (all_hold s) h)

-- The values of the arms of the match, in their order.
unfoldable pub arm_1 : List ℕ
arm_1 = 128 ∷ []

unfoldable pub arm_2 : List ℕ
arm_2 = 130 ∷ 132 ∷ 134 ∷ 136 ∷ 138 ∷ 140 ∷ 142 ∷ []

unfoldable pub arm_3 : List ℕ
arm_3 = 129 ∷ 131 ∷ 133 ∷ 135 ∷ 137 ∷ 139 ∷ 141 ∷ 143 ∷ []

unfoldable pub arm_4 : List ℕ
arm_4 = 144 ∷ 146 ∷ 148 ∷ 150 ∷ 152 ∷ 156 ∷ 158 ∷ []

unfoldable pub arm_5 : List ℕ
arm_5 = 145 ∷ 147 ∷ 149 ∷ 151 ∷ 153 ∷ 155 ∷ 157 ∷ 159 ∷ []

unfoldable pub arm_6 : List ℕ
arm_6 = 154 ∷ []

unfoldable pub arm_7 : List ℕ
arm_7 = 160 ∷ []

unfoldable pub arm_8 : List ℕ
arm_8 = 162 ∷ 164 ∷ 166 ∷ 168 ∷ 170 ∷ 172 ∷ 174 ∷ 176 ∷ 178 ∷ 180 ∷ []

unfoldable pub arm_9 : List ℕ
arm_9 = 182 ∷ 184 ∷ 186 ∷ 188 ∷ 190 ∷ []

unfoldable pub arm_10 : List ℕ
arm_10 = 161 ∷ 163 ∷ 165 ∷ 167 ∷ 169 ∷ 171 ∷ 173 ∷ 175 ∷ 177 ∷ 179 ∷ []

unfoldable pub arm_11 : List ℕ
arm_11 = 181 ∷ 183 ∷ 185 ∷ 187 ∷ 189 ∷ 191 ∷ []

unfoldable pub arm_12 : List ℕ
arm_12 = 192 ∷ 226 ∷ 246 ∷ 248 ∷ 250 ∷ 252 ∷ 254 ∷ []

unfoldable pub arm_13 : List ℕ
arm_13 = 127 ∷ 193 ∷ 245 ∷ 247 ∷ 249 ∷ 251 ∷ 253 ∷ 255 ∷ []

unfoldable pub arm_14 : List ℕ
arm_14 = 194 ∷ []

unfoldable pub arm_15 : List ℕ
arm_15 = 196 ∷ 198 ∷ 200 ∷ 202 ∷ 204 ∷ 206 ∷ 208 ∷ 210 ∷ 212 ∷ 214 ∷ []

unfoldable pub arm_16 : List ℕ
arm_16 = 216 ∷ 218 ∷ 220 ∷ 222 ∷ []

unfoldable pub arm_17 : List ℕ
arm_17 = 195 ∷ 197 ∷ 199 ∷ 201 ∷ 203 ∷ 205 ∷ 207 ∷ 209 ∷ 211 ∷ 213 ∷ []

unfoldable pub arm_18 : List ℕ
arm_18 = 215 ∷ 217 ∷ 219 ∷ 221 ∷ 223 ∷ []

unfoldable pub arm_19 : List ℕ
arm_19 = 224 ∷ []

unfoldable pub arm_20 : List ℕ
arm_20 = 225 ∷ 227 ∷ []

unfoldable pub arm_21 : List ℕ
arm_21 = 228 ∷ 230 ∷ 232 ∷ 234 ∷ 236 ∷ 238 ∷ []

unfoldable pub arm_22 : List ℕ
arm_22 = 229 ∷ 231 ∷ 233 ∷ 235 ∷ 239 ∷ []

unfoldable pub arm_23 : List ℕ
arm_23 = 237 ∷ []

unfoldable pub arm_24 : List ℕ
arm_24 = 240 ∷ []

unfoldable pub arm_25 : List ℕ
arm_25 = 242 ∷ []

unfoldable pub arm_26 : List ℕ
arm_26 = 241 ∷ 243 ∷ []

unfoldable pub arm_27 : List ℕ
arm_27 = 244 ∷ []

unfoldable pub fast_arms : List (List ℕ)
fast_arms =
    arm_27 ∷ arm_26 ∷ arm_25 ∷ arm_24 ∷ arm_23 ∷ arm_22 ∷ arm_21 ∷ arm_20 ∷ arm_19 ∷ arm_18 ∷ arm_17 ∷ arm_16 ∷ arm_15 ∷ arm_14 ∷ arm_13 ∷ arm_12 ∷ arm_11 ∷ arm_10 ∷ arm_9 ∷ arm_8 ∷ arm_7 ∷ arm_6 ∷ arm_5 ∷ arm_4 ∷ arm_3 ∷ arm_2 ∷ arm_1 ∷ []

pub all_fast_listed : up_to (listed packed_fast_steps 7027331075698876800 fast_arms) 256 ≡ true
unfolding fast_arms arm_1 arm_2 arm_3 arm_4 arm_5 arm_6 arm_7 arm_8 arm_9 arm_10 arm_11 arm_12 arm_13 arm_14 arm_15 arm_16 arm_17 arm_18 arm_19 arm_20 arm_21 arm_22 arm_23 arm_24 arm_25 arm_26 arm_27 packed_fast_steps
all_fast_listed = refl

-- The loop invariant: scanning the text from index i, in the state given by the low six bits of k, has the same result as scanning the whole text.
pub record Scans (p : Text) (k i : ℕ) : Type 0 where
  pub at_state : FastState
  pub numbered : k % 64 ≡ fast_code at_state
  pub rest : fast_run at_state (drop i p) ≡ fast_run Start p

pub scans_first : (p : Text) → Scans p 0 0
unfolding fast_code
scans_first p = record { at_state = Start; numbered = refl; rest = refl }

pub scans_on : (p : Text) (k i m : ℕ) → i < length p → Scans p k i → get_or p i 0 < 256 → m ≡ packed_fast_steps (get_or p i 0) / 2 ^ (k % 64) → Scans p m (i + 1)
unfolding fast_run
scans_on p k i m h w l e =
    record {
      at_state = fast_step w.at_state (get_or p i 0);
      numbered = ap (λ (x : ℕ). x % 64) (rw w.numbered at e) ∙ rule w.at_state (get_or p i 0) l;
      rest = rw (add-one i) (rw (drop-cons p i 0 h) at w.rest);
    }

accepts_zero : (s : FastState) → eqb (fast_code s) 0 ≡ fast_accept s
unfolding fast_code
accepts_zero Start = refl
accepts_zero Unsure = refl
accepts_zero One = refl
accepts_zero Two = refl
accepts_zero Three = refl
accepts_zero AfterC2 = refl
accepts_zero AfterE0 = refl
accepts_zero AfterE1E3 = refl
accepts_zero AfterED = refl
accepts_zero AfterF0 = refl
accepts_zero AfterF4 = refl

pub scans_end : (p : Text) (k i : ℕ) → Scans p k i → length p ≤ i → eqb (k % 64) 0 ≡ fast_accepts p
unfolding fast_accepts fast_run
scans_end p k i w l = rw (w.numbered, ← w.rest, drop_of_length-le p l) (accepts_zero w.at_state)

-- Lemmas for `characters_allowed`.
pub fast_yes : (p : Text) (b : Bool) → b ≡ fast_accepts p → b ≡ true → true ≡ characters_allowed p
fast_yes p b e t = sym (fast_is_sound p (sym e ∙ t))
