use mathlib.Core.Path.{refl}
use mathlib.Core.List.{[], ◌∷◌}
use borrow.Author.Rules.{rules}
use Rattle.text.proofs.TableLaws.{arm, others}
use Rattle.path_grammar.specs.PackedScan.{packed_steps}
use Rattle.path_grammar.proofs.ScanLaws.{digits_1, digits_2, dead_1, dead_2, dead_3, dead_4, dead_5, dead_6, end_high_1, end_high_2, end_high_3, end_high_4, end_high_5, end_high_6, end_high_7, end_high_8, end_high_9, end_high_10, end_high_11, end_high_12, end_high_13, end_high_14, end_arms, end_pack, all_end_listed}
use Rattle.path_grammar.proofs.end_row.Goals as goal

pub returns-in-48 : goal.returns-in-48
unfolding packed_steps digits_1
returns-in-48 c = arm end_pack _ digits_1 _ c.in-48.is refl

pub returns-in-49 : goal.returns-in-49
unfolding packed_steps digits_2
returns-in-49 c = arm end_pack _ digits_2 _ c.in-49.is refl

pub returns-in-46 : goal.returns-in-46
unfolding packed_steps
returns-in-46 c = arm end_pack _ (46 ∷ []) _ c.in-46.is refl

pub returns-in-47 : goal.returns-in-47
unfolding packed_steps
returns-in-47 c = arm end_pack _ (47 ∷ []) _ c.in-47.is refl

pub returns-in-58 : goal.returns-in-58
unfolding packed_steps
returns-in-58 c = arm end_pack _ (58 ∷ []) _ c.in-58.is refl

pub returns-in-61 : goal.returns-in-61
unfolding packed_steps
returns-in-61 c = arm end_pack _ (61 ∷ []) _ c.in-61.is refl

pub returns-in-123 : goal.returns-in-123
unfolding packed_steps
returns-in-123 c = arm end_pack _ (123 ∷ []) _ c.in-123.is refl

pub returns-in-125 : goal.returns-in-125
unfolding packed_steps
returns-in-125 c = arm end_pack _ (125 ∷ []) _ c.in-125.is refl

pub returns-in-0 : goal.returns-in-0
unfolding packed_steps dead_1
returns-in-0 c = arm end_pack _ dead_1 _ c.in-0.is refl

pub returns-in-22 : goal.returns-in-22
unfolding packed_steps dead_2
returns-in-22 c = arm end_pack _ dead_2 _ c.in-22.is refl

pub returns-in-44 : goal.returns-in-44
unfolding packed_steps dead_3
returns-in-44 c = arm end_pack _ dead_3 _ c.in-44.is refl

pub returns-in-1 : goal.returns-in-1
unfolding packed_steps dead_4
returns-in-1 c = arm end_pack _ dead_4 _ c.in-1.is refl

pub returns-in-23 : goal.returns-in-23
unfolding packed_steps dead_5
returns-in-23 c = arm end_pack _ dead_5 _ c.in-23.is refl

pub returns-in-45 : goal.returns-in-45
unfolding packed_steps dead_6
returns-in-45 c = arm end_pack _ dead_6 _ c.in-45.is refl

pub returns-in-128 : goal.returns-in-128
unfolding packed_steps end_high_1
returns-in-128 c = arm end_pack _ end_high_1 _ c.in-128.is refl

pub returns-in-148 : goal.returns-in-148
unfolding packed_steps end_high_2
returns-in-148 c = arm end_pack _ end_high_2 _ c.in-148.is refl

pub returns-in-168 : goal.returns-in-168
unfolding packed_steps end_high_3
returns-in-168 c = arm end_pack _ end_high_3 _ c.in-168.is refl

pub returns-in-188 : goal.returns-in-188
unfolding packed_steps end_high_4
returns-in-188 c = arm end_pack _ end_high_4 _ c.in-188.is refl

pub returns-in-208 : goal.returns-in-208
unfolding packed_steps end_high_5
returns-in-208 c = arm end_pack _ end_high_5 _ c.in-208.is refl

pub returns-in-228 : goal.returns-in-228
unfolding packed_steps end_high_6
returns-in-228 c = arm end_pack _ end_high_6 _ c.in-228.is refl

pub returns-in-248 : goal.returns-in-248
unfolding packed_steps end_high_7
returns-in-248 c = arm end_pack _ end_high_7 _ c.in-248.is refl

pub returns-in-129 : goal.returns-in-129
unfolding packed_steps end_high_8
returns-in-129 c = arm end_pack _ end_high_8 _ c.in-129.is refl

pub returns-in-149 : goal.returns-in-149
unfolding packed_steps end_high_9
returns-in-149 c = arm end_pack _ end_high_9 _ c.in-149.is refl

pub returns-in-169 : goal.returns-in-169
unfolding packed_steps end_high_10
returns-in-169 c = arm end_pack _ end_high_10 _ c.in-169.is refl

pub returns-in-189 : goal.returns-in-189
unfolding packed_steps end_high_11
returns-in-189 c = arm end_pack _ end_high_11 _ c.in-189.is refl

pub returns-in-209 : goal.returns-in-209
unfolding packed_steps end_high_12
returns-in-209 c = arm end_pack _ end_high_12 _ c.in-209.is refl

pub returns-in-229 : goal.returns-in-229
unfolding packed_steps end_high_13
returns-in-229 c = arm end_pack _ end_high_13 _ c.in-229.is refl

pub returns-in-249 : goal.returns-in-249
unfolding packed_steps end_high_14
returns-in-249 c = arm end_pack _ end_high_14 _ c.in-249.is refl

pub returns-in_default : goal.returns-in_default
unfolding end_arms digits_1 digits_2 dead_1 dead_2 dead_3 dead_4 dead_5 dead_6 end_high_1 end_high_2 end_high_3 end_high_4 end_high_5 end_high_6 end_high_7 end_high_8 end_high_9 end_high_10 end_high_11 end_high_12 end_high_13 end_high_14
returns-in_default c = others end_pack 976342856119664640 end_arms _ all_end_listed (search rules) c.in_default.in_default-own.rest
