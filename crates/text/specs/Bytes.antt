-- Meaning: Names for the ASCII bytes that the definitions speak of.
use Rattle.std.specs.Prelude.{ℕ}

-- `/`
abbrev pub slash : ℕ
slash = 47

-- `.`
abbrev pub dot : ℕ
dot = 46

-- `:`
abbrev pub colon : ℕ
colon = 58

-- `=`
abbrev pub equals_sign : ℕ
equals_sign = 61

-- `_`
abbrev pub underscore : ℕ
underscore = 95

-- `{`
abbrev pub open_brace : ℕ
open_brace = 123

-- `}`
abbrev pub close_brace : ℕ
close_brace = 125

-- `[`
abbrev pub open_bracket : ℕ
open_bracket = 91

-- `]`
abbrev pub close_bracket : ℕ
close_bracket = 93

-- the newline
abbrev pub newline : ℕ
newline = 10

-- `0`
abbrev pub digit0 : ℕ
digit0 = 48

-- `9`
abbrev pub digit9 : ℕ
digit9 = 57

-- `A`
abbrev pub upper_a : ℕ
upper_a = 65

-- `F`
abbrev pub upper_f : ℕ
upper_f = 70

-- `Z`
abbrev pub upper_z : ℕ
upper_z = 90

-- `a`
abbrev pub lower_a : ℕ
lower_a = 97

-- `f`
abbrev pub lower_f : ℕ
lower_f = 102

-- `z`
abbrev pub lower_z : ℕ
lower_z = 122
