-- Lemmas about the packed transition table, and about the scan that uses it.
use mathlib.Core.Path.{◌≡◌, refl, ap, ◌∙◌}
use mathlib.Core.Bool.{Bool, true, false}
use mathlib.Core.List.{List, [], ◌∷◌}
use mathlib.Core.Logic.{◌≢◌}
use Prim.Native.Nat.{ℕ, ◌+◌, ◌/◌, ◌%◌, ◌^◌, ◌<◌, ◌≤◌}
use native.Mathlib.Numerals.{add-one}
use native.Mathlib.Omega.{arith}
use lib.Dec.{eqb, ltb}
use borrow.Author.Tests.{eqb-true, ne_eqb}
use lib.ListN.{length, get_or, drop, drop_of_length-le}
use lib.Seq.{drop-cons}
use Rattle.text.specs.Text.{Text}
use Rattle.text.proofs.BoolLaws.{up_to, at_each}
use Rattle.text.proofs.TableLaws.{listed}
use Rattle.path_grammar.specs.Legal.{ScanState, Name, Closed, Prop, Slash, Opened, Set, Equals, Sel, Dot, Dead, step, accept, run, scan_accepts}
use Rattle.path_grammar.specs.PackedScan.{state_code, packed_steps, end_byte}

-- The packed number of byte a holds the next state of state s at the bit offset of s.
unfoldable pub holds : ScanState → ℕ → Bool
unfolding state_code packed_steps step
holds s a = eqb (packed_steps a / 2 ^ state_code s % 64) (state_code (step s a))

-- That holds for each state and each byte, by computation.
all_hold : (s : ScanState) → up_to (holds s) 256 ≡ true
unfolding holds
all_hold Slash = refl
all_hold Name = refl
all_hold Opened = refl
all_hold Set = refl
all_hold Equals = refl
all_hold Sel = refl
all_hold Closed = refl
all_hold Dot = refl
all_hold Prop = refl
all_hold Dead = refl

pub rule : (s : ScanState) (a : ℕ) → a < 256 → packed_steps a / 2 ^ state_code s % 64 ≡ state_code (step s a)
unfolding holds
rule s a h = eqb-true (packed_steps a / 2 ^ state_code s % 64) (state_code (step s a)) (at_each (holds s) 256 a (all_hold s) h)

-- The values of the arms of the two tables.
unfoldable pub digits_1 : List ℕ
digits_1 = 48 ∷ 50 ∷ 52 ∷ 54 ∷ 56 ∷ []

unfoldable pub digits_2 : List ℕ
digits_2 = 49 ∷ 51 ∷ 53 ∷ 55 ∷ 57 ∷ []

unfoldable pub dead_1 : List ℕ
dead_1 = 0 ∷ 2 ∷ 4 ∷ 6 ∷ 8 ∷ 10 ∷ 12 ∷ 14 ∷ 16 ∷ 18 ∷ 20 ∷ []

unfoldable pub dead_2 : List ℕ
dead_2 = 22 ∷ 24 ∷ 26 ∷ 28 ∷ 30 ∷ 32 ∷ 34 ∷ 36 ∷ 38 ∷ 40 ∷ 42 ∷ []

unfoldable pub dead_3 : List ℕ
dead_3 = 44 ∷ 60 ∷ 62 ∷ 64 ∷ 92 ∷ 94 ∷ 96 ∷ 124 ∷ 126 ∷ []

unfoldable pub dead_4 : List ℕ
dead_4 = 1 ∷ 3 ∷ 5 ∷ 7 ∷ 9 ∷ 11 ∷ 13 ∷ 15 ∷ 17 ∷ 19 ∷ 21 ∷ []

unfoldable pub dead_5 : List ℕ
dead_5 = 23 ∷ 25 ∷ 27 ∷ 29 ∷ 31 ∷ 33 ∷ 35 ∷ 37 ∷ 39 ∷ 41 ∷ 43 ∷ []

unfoldable pub dead_6 : List ℕ
dead_6 = 45 ∷ 59 ∷ 63 ∷ 91 ∷ 93 ∷ 127 ∷ []

unfoldable pub high_1 : List ℕ
high_1 = 128 ∷ 130 ∷ 132 ∷ 134 ∷ 136 ∷ 138 ∷ 140 ∷ 142 ∷ 144 ∷ 146 ∷ 148 ∷ []

unfoldable pub high_2 : List ℕ
high_2 = 150 ∷ 152 ∷ 154 ∷ 156 ∷ 158 ∷ 160 ∷ 162 ∷ 164 ∷ 166 ∷ 168 ∷ 170 ∷ []

unfoldable pub high_3 : List ℕ
high_3 = 172 ∷ 174 ∷ 176 ∷ 178 ∷ 180 ∷ 182 ∷ 184 ∷ 186 ∷ 188 ∷ 190 ∷ 192 ∷ []

unfoldable pub high_4 : List ℕ
high_4 = 194 ∷ 196 ∷ 198 ∷ 200 ∷ 202 ∷ 204 ∷ 206 ∷ 208 ∷ 210 ∷ 212 ∷ 214 ∷ []

unfoldable pub high_5 : List ℕ
high_5 = 216 ∷ 218 ∷ 220 ∷ 222 ∷ 224 ∷ 226 ∷ 228 ∷ 230 ∷ 232 ∷ 234 ∷ 236 ∷ []

unfoldable pub high_6 : List ℕ
high_6 = 238 ∷ 240 ∷ 242 ∷ 244 ∷ 246 ∷ 248 ∷ 250 ∷ 252 ∷ 254 ∷ []

unfoldable pub high_7 : List ℕ
high_7 = 129 ∷ 131 ∷ 133 ∷ 135 ∷ 137 ∷ 139 ∷ 141 ∷ 143 ∷ 145 ∷ 147 ∷ 149 ∷ []

unfoldable pub high_8 : List ℕ
high_8 = 151 ∷ 153 ∷ 155 ∷ 157 ∷ 159 ∷ 161 ∷ 163 ∷ 165 ∷ 167 ∷ 169 ∷ 171 ∷ []

unfoldable pub high_9 : List ℕ
high_9 = 173 ∷ 175 ∷ 177 ∷ 179 ∷ 181 ∷ 183 ∷ 185 ∷ 187 ∷ 189 ∷ 191 ∷ 193 ∷ []

unfoldable pub high_10 : List ℕ
high_10 = 195 ∷ 197 ∷ 199 ∷ 201 ∷ 203 ∷ 205 ∷ 207 ∷ 209 ∷ 211 ∷ 213 ∷ 215 ∷ []

unfoldable pub high_11 : List ℕ
high_11 = 217 ∷ 219 ∷ 221 ∷ 223 ∷ 225 ∷ 227 ∷ 229 ∷ 231 ∷ 233 ∷ 235 ∷ 237 ∷ []

unfoldable pub high_12 : List ℕ
high_12 = 239 ∷ 241 ∷ 243 ∷ 245 ∷ 247 ∷ 249 ∷ 251 ∷ 253 ∷ 255 ∷ []

unfoldable pub end_high_1 : List ℕ
end_high_1 = 128 ∷ 130 ∷ 132 ∷ 134 ∷ 136 ∷ 138 ∷ 140 ∷ 142 ∷ 144 ∷ 146 ∷ []

unfoldable pub end_high_2 : List ℕ
end_high_2 = 148 ∷ 150 ∷ 152 ∷ 154 ∷ 156 ∷ 158 ∷ 160 ∷ 162 ∷ 164 ∷ 166 ∷ []

unfoldable pub end_high_3 : List ℕ
end_high_3 = 168 ∷ 170 ∷ 172 ∷ 174 ∷ 176 ∷ 178 ∷ 180 ∷ 182 ∷ 184 ∷ 186 ∷ []

unfoldable pub end_high_4 : List ℕ
end_high_4 = 188 ∷ 190 ∷ 192 ∷ 194 ∷ 196 ∷ 198 ∷ 200 ∷ 202 ∷ 204 ∷ 206 ∷ []

unfoldable pub end_high_5 : List ℕ
end_high_5 = 208 ∷ 210 ∷ 212 ∷ 214 ∷ 216 ∷ 218 ∷ 220 ∷ 222 ∷ 224 ∷ 226 ∷ []

unfoldable pub end_high_6 : List ℕ
end_high_6 = 228 ∷ 230 ∷ 232 ∷ 234 ∷ 236 ∷ 238 ∷ 240 ∷ 242 ∷ 244 ∷ 246 ∷ []

unfoldable pub end_high_7 : List ℕ
end_high_7 = 248 ∷ 250 ∷ 252 ∷ 254 ∷ []

unfoldable pub end_high_8 : List ℕ
end_high_8 = 129 ∷ 131 ∷ 133 ∷ 135 ∷ 137 ∷ 139 ∷ 141 ∷ 143 ∷ 145 ∷ 147 ∷ []

unfoldable pub end_high_9 : List ℕ
end_high_9 = 149 ∷ 151 ∷ 153 ∷ 155 ∷ 157 ∷ 159 ∷ 161 ∷ 163 ∷ 165 ∷ 167 ∷ []

unfoldable pub end_high_10 : List ℕ
end_high_10 = 169 ∷ 171 ∷ 173 ∷ 175 ∷ 177 ∷ 179 ∷ 181 ∷ 183 ∷ 185 ∷ 187 ∷ []

unfoldable pub end_high_11 : List ℕ
end_high_11 = 189 ∷ 191 ∷ 193 ∷ 195 ∷ 197 ∷ 199 ∷ 201 ∷ 203 ∷ 205 ∷ 207 ∷ []

unfoldable pub end_high_12 : List ℕ
end_high_12 = 209 ∷ 211 ∷ 213 ∷ 215 ∷ 217 ∷ 219 ∷ 221 ∷ 223 ∷ 225 ∷ 227 ∷ []

unfoldable pub end_high_13 : List ℕ
end_high_13 = 229 ∷ 231 ∷ 233 ∷ 235 ∷ 237 ∷ 239 ∷ 241 ∷ 243 ∷ 245 ∷ 247 ∷ []

unfoldable pub end_high_14 : List ℕ
end_high_14 = 249 ∷ 251 ∷ 253 ∷ 255 ∷ []

unfoldable pub arms : List (List ℕ)
arms =
    high_12 ∷ high_11 ∷ high_10 ∷ high_9 ∷ high_8 ∷ high_7 ∷ high_6 ∷ high_5 ∷ high_4 ∷ high_3 ∷ high_2 ∷ high_1 ∷ dead_6 ∷ dead_5 ∷ dead_4 ∷ dead_3 ∷ dead_2 ∷ dead_1 ∷ (125 ∷ []) ∷ (123 ∷ []) ∷ (61 ∷ []) ∷ (58 ∷ []) ∷ (47 ∷ []) ∷ (46 ∷ []) ∷ digits_2 ∷ digits_1 ∷ []

pub all_listed : up_to (listed packed_steps 976342856119664640 arms) 256 ≡ true
unfolding arms digits_1 digits_2 dead_1 dead_2 dead_3 dead_4 dead_5 dead_6 high_1 high_2 high_3 high_4 high_5 high_6 high_7 high_8 high_9 high_10 high_11 high_12 packed_steps
all_listed = refl

-- The table for ends.
abbrev pub end_pack : ℕ → ℕ
end_pack a = packed_steps (end_byte a)

unfoldable pub end_arms : List (List ℕ)
end_arms =
    end_high_14 ∷ end_high_13 ∷ end_high_12 ∷ end_high_11 ∷ end_high_10 ∷ end_high_9 ∷ end_high_8 ∷ end_high_7 ∷ end_high_6 ∷ end_high_5 ∷ end_high_4 ∷ end_high_3 ∷ end_high_2 ∷ end_high_1 ∷ dead_6 ∷ dead_5 ∷ dead_4 ∷ dead_3 ∷ dead_2 ∷ dead_1 ∷ (125 ∷ []) ∷ (123 ∷ []) ∷ (61 ∷ []) ∷ (58 ∷ []) ∷ (47 ∷ []) ∷ (46 ∷ []) ∷ digits_2 ∷ digits_1 ∷ []

pub all_end_listed : up_to (listed end_pack 976342856119664640 end_arms) 256 ≡ true
unfolding end_arms digits_1 digits_2 dead_1 dead_2 dead_3 dead_4 dead_5 dead_6 end_high_1 end_high_2 end_high_3 end_high_4 end_high_5 end_high_6 end_high_7 end_high_8 end_high_9 end_high_10 end_high_11 end_high_12 end_high_13 end_high_14 packed_steps
all_end_listed = refl

-- The accepting states are those below 18.
ends : (s : ScanState) → ltb (state_code s) 18 ≡ accept s
unfolding state_code accept
ends Slash = refl
ends Name = refl
ends Opened = refl
ends Set = refl
ends Equals = refl
ends Sel = refl
ends Closed = refl
ends Dot = refl
ends Prop = refl
ends Dead = refl

-- The loop invariant: scanning the text from index i, in the state given by the low six bits of k, has the same result as scanning the
-- whole text.
pub record Reads (p : Text) (k i : ℕ) : Type 0 where
  pub at_state : ScanState
  pub numbered : k % 64 ≡ state_code at_state
  pub rest : run at_state (drop i p) ≡ run Slash (drop 1 p)

pub first : (p : Text) → Reads p 18 1
unfolding state_code
first p = record { at_state = Slash; numbered = refl; rest = refl }

pub on : (p : Text) (k i m : ℕ) → i < length p → Reads p k i → get_or p i 0 < 256 → m ≡ packed_steps (get_or p i 0) / 2 ^ (k % 64) → Reads p m (i + 1)
unfolding run
on p k i m h w l e =
    record {
      at_state = step w.at_state (get_or p i 0);
      numbered = ap (λ (x : ℕ). x % 64) (rw w.numbered at e) ∙ rule w.at_state (get_or p i 0) l;
      rest = rw (add-one i) (rw (drop-cons p i 0 h) at w.rest);
    }

pub none : (p : Text) → length p ≡ 0 → true ≡ scan_accepts p
unfolding scan_accepts
none [] h = refl
none (a ∷ p) h = absurd (omega arith)

pub other : (p : Text) → length p ≢ 0 → get_or p 0 0 ≢ 47 → false ≡ scan_accepts p
unfolding scan_accepts
other [] n h = absurd (n refl)
other (a ∷ p) n h = rw (ne_eqb a 47 h)

pub root : (p : Text) → get_or p 0 0 ≡ 47 → length p ≡ 1 → true ≡ scan_accepts p
unfolding scan_accepts
root [] h l = absurd (omega arith)
root (a ∷ []) h l = rw h
root (a ∷ c ∷ p) h l = absurd (omega arith)

pub whole : (p : Text) (k i : ℕ) → get_or p 0 0 ≡ 47 → length p ≢ 0 → length p ≢ 1 → Reads p k i → length p ≤ i → ltb (k % 64) 18 ≡ scan_accepts p
unfolding scan_accepts run
whole [] k i h n m w l = absurd (n refl)
whole (x ∷ []) k i h n m w l = absurd (m refl)
whole (x ∷ y ∷ p) k i h n m w l =
    rw (w.numbered, h, ← w.rest, drop_of_length-le (x ∷ y ∷ p) l) (ends w.at_state)
