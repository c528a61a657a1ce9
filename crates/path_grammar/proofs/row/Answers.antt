use mathlib.Core.Path.{refl}
use mathlib.Core.List.{[], ◌∷◌}
use borrow.Author.Rules.{rules}
use Rattle.text.proofs.TableLaws.{arm, others}
use Rattle.path_grammar.specs.PackedScan.{packed_steps}
use Rattle.path_grammar.proofs.ScanLaws.{digits_1, digits_2, dead_1, dead_2, dead_3, dead_4, dead_5, dead_6, high_1, high_2, high_3, high_4, high_5, high_6, high_7, high_8, high_9, high_10, high_11, high_12, arms, all_listed}
use Rattle.path_grammar.proofs.row.Goals as goal

pub returns-in-48 : goal.returns-in-48
unfolding packed_steps digits_1
returns-in-48 c = arm packed_steps _ digits_1 _ c.in-48.is refl

pub returns-in-49 : goal.returns-in-49
unfolding packed_steps digits_2
returns-in-49 c = arm packed_steps _ digits_2 _ c.in-49.is refl

pub returns-in-46 : goal.returns-in-46
unfolding packed_steps
returns-in-46 c = arm packed_steps _ (46 ∷ []) _ c.in-46.is refl

pub returns-in-47 : goal.returns-in-47
unfolding packed_steps
returns-in-47 c = arm packed_steps _ (47 ∷ []) _ c.in-47.is refl

pub returns-in-58 : goal.returns-in-58
unfolding packed_steps
returns-in-58 c = arm packed_steps _ (58 ∷ []) _ c.in-58.is refl

pub returns-in-61 : goal.returns-in-61
unfolding packed_steps
returns-in-61 c = arm packed_steps _ (61 ∷ []) _ c.in-61.is refl

pub returns-in-123 : goal.returns-in-123
unfolding packed_steps
returns-in-123 c = arm packed_steps _ (123 ∷ []) _ c.in-123.is refl

pub returns-in-125 : goal.returns-in-125
unfolding packed_steps
returns-in-125 c = arm packed_steps _ (125 ∷ []) _ c.in-125.is refl

pub returns-in-0 : goal.returns-in-0
unfolding packed_steps dead_1
returns-in-0 c = arm packed_steps _ dead_1 _ c.in-0.is refl

pub returns-in-22 : goal.returns-in-22
unfolding packed_steps dead_2
returns-in-22 c = arm packed_steps _ dead_2 _ c.in-22.is refl

pub returns-in-44 : goal.returns-in-44
unfolding packed_steps dead_3
returns-in-44 c = arm packed_steps _ dead_3 _ c.in-44.is refl

pub returns-in-1 : goal.returns-in-1
unfolding packed_steps dead_4
returns-in-1 c = arm packed_steps _ dead_4 _ c.in-1.is refl

pub returns-in-23 : goal.returns-in-23
unfolding packed_steps dead_5
returns-in-23 c = arm packed_steps _ dead_5 _ c.in-23.is refl

pub returns-in-45 : goal.returns-in-45
unfolding packed_steps dead_6
returns-in-45 c = arm packed_steps _ dead_6 _ c.in-45.is refl

pub returns-in-128 : goal.returns-in-128
unfolding packed_steps high_1
returns-in-128 c = arm packed_steps _ high_1 _ c.in-128.is refl

pub returns-in-150 : goal.returns-in-150
unfolding packed_steps high_2
returns-in-150 c = arm packed_steps _ high_2 _ c.in-150.is refl

pub returns-in-172 : goal.returns-in-172
unfolding packed_steps high_3
returns-in-172 c = arm packed_steps _ high_3 _ c.in-172.is refl

pub returns-in-194 : goal.returns-in-194
unfolding packed_steps high_4
returns-in-194 c = arm packed_steps _ high_4 _ c.in-194.is refl

pub returns-in-216 : goal.returns-in-216
unfolding packed_steps high_5
returns-in-216 c = arm packed_steps _ high_5 _ c.in-216.is refl

pub returns-in-238 : goal.returns-in-238
unfolding packed_steps high_6
returns-in-238 c = arm packed_steps _ high_6 _ c.in-238.is refl

pub returns-in-129 : goal.returns-in-129
unfolding packed_steps high_7
returns-in-129 c = arm packed_steps _ high_7 _ c.in-129.is refl

pub returns-in-151 : goal.returns-in-151
unfolding packed_steps high_8
returns-in-151 c = arm packed_steps _ high_8 _ c.in-151.is refl

pub returns-in-173 : goal.returns-in-173
unfolding packed_steps high_9
returns-in-173 c = arm packed_steps _ high_9 _ c.in-173.is refl

pub returns-in-195 : goal.returns-in-195
unfolding packed_steps high_10
returns-in-195 c = arm packed_steps _ high_10 _ c.in-195.is refl

pub returns-in-217 : goal.returns-in-217
unfolding packed_steps high_11
returns-in-217 c = arm packed_steps _ high_11 _ c.in-217.is refl

pub returns-in-239 : goal.returns-in-239
unfolding packed_steps high_12
returns-in-239 c = arm packed_steps _ high_12 _ c.in-239.is refl

pub returns-in_default : goal.returns-in_default
unfolding arms digits_1 digits_2 dead_1 dead_2 dead_3 dead_4 dead_5 dead_6 high_1 high_2 high_3 high_4 high_5 high_6 high_7 high_8 high_9 high_10 high_11 high_12
returns-in_default c = others packed_steps 976342856119664640 arms _ all_listed (search rules) c.in_default.in_default-own.rest
