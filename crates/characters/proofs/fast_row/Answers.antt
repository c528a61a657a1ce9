use mathlib.Core.Path.{refl}
use borrow.Author.Rules.{rules}
use Rattle.text.proofs.TableLaws.{arm, others}
use Rattle.characters.specs.FastScan.{packed_fast_steps}
use Rattle.characters.proofs.FastTableLaws.{arm_1, arm_2, arm_3, arm_4, arm_5, arm_6, arm_7, arm_8, arm_9, arm_10, arm_11, arm_12, arm_13, arm_14, arm_15, arm_16, arm_17, arm_18, arm_19, arm_20, arm_21, arm_22, arm_23, arm_24, arm_25, arm_26, arm_27, fast_arms, all_fast_listed}
use Rattle.characters.proofs.fast_row.Goals as goal

pub returns-in-128 : goal.returns-in-128
unfolding packed_fast_steps arm_1
returns-in-128 c = arm packed_fast_steps _ arm_1 _ c.in-128.is refl

pub returns-in-130 : goal.returns-in-130
unfolding packed_fast_steps arm_2
returns-in-130 c = arm packed_fast_steps _ arm_2 _ c.in-130.is refl

pub returns-in-129 : goal.returns-in-129
unfolding packed_fast_steps arm_3
returns-in-129 c = arm packed_fast_steps _ arm_3 _ c.in-129.is refl

pub returns-in-144 : goal.returns-in-144
unfolding packed_fast_steps arm_4
returns-in-144 c = arm packed_fast_steps _ arm_4 _ c.in-144.is refl

pub returns-in-145 : goal.returns-in-145
unfolding packed_fast_steps arm_5
returns-in-145 c = arm packed_fast_steps _ arm_5 _ c.in-145.is refl

pub returns-in-154 : goal.returns-in-154
unfolding packed_fast_steps arm_6
returns-in-154 c = arm packed_fast_steps _ arm_6 _ c.in-154.is refl

pub returns-in-160 : goal.returns-in-160
unfolding packed_fast_steps arm_7
returns-in-160 c = arm packed_fast_steps _ arm_7 _ c.in-160.is refl

pub returns-in-162 : goal.returns-in-162
unfolding packed_fast_steps arm_8
returns-in-162 c = arm packed_fast_steps _ arm_8 _ c.in-162.is refl

pub returns-in-182 : goal.returns-in-182
unfolding packed_fast_steps arm_9
returns-in-182 c = arm packed_fast_steps _ arm_9 _ c.in-182.is refl

pub returns-in-161 : goal.returns-in-161
unfolding packed_fast_steps arm_10
returns-in-161 c = arm packed_fast_steps _ arm_10 _ c.in-161.is refl

pub returns-in-181 : goal.returns-in-181
unfolding packed_fast_steps arm_11
returns-in-181 c = arm packed_fast_steps _ arm_11 _ c.in-181.is refl

pub returns-in-192 : goal.returns-in-192
unfolding packed_fast_steps arm_12
returns-in-192 c = arm packed_fast_steps _ arm_12 _ c.in-192.is refl

pub returns-in-127 : goal.returns-in-127
unfolding packed_fast_steps arm_13
returns-in-127 c = arm packed_fast_steps _ arm_13 _ c.in-127.is refl

pub returns-in-194 : goal.returns-in-194
unfolding packed_fast_steps arm_14
returns-in-194 c = arm packed_fast_steps _ arm_14 _ c.in-194.is refl

pub returns-in-196 : goal.returns-in-196
unfolding packed_fast_steps arm_15
returns-in-196 c = arm packed_fast_steps _ arm_15 _ c.in-196.is refl

pub returns-in-216 : goal.returns-in-216
unfolding packed_fast_steps arm_16
returns-in-216 c = arm packed_fast_steps _ arm_16 _ c.in-216.is refl

pub returns-in-195 : goal.returns-in-195
unfolding packed_fast_steps arm_17
returns-in-195 c = arm packed_fast_steps _ arm_17 _ c.in-195.is refl

pub returns-in-215 : goal.returns-in-215
unfolding packed_fast_steps arm_18
returns-in-215 c = arm packed_fast_steps _ arm_18 _ c.in-215.is refl

pub returns-in-224 : goal.returns-in-224
unfolding packed_fast_steps arm_19
returns-in-224 c = arm packed_fast_steps _ arm_19 _ c.in-224.is refl

pub returns-in-225 : goal.returns-in-225
unfolding packed_fast_steps arm_20
returns-in-225 c = arm packed_fast_steps _ arm_20 _ c.in-225.is refl

pub returns-in-228 : goal.returns-in-228
unfolding packed_fast_steps arm_21
returns-in-228 c = arm packed_fast_steps _ arm_21 _ c.in-228.is refl

pub returns-in-229 : goal.returns-in-229
unfolding packed_fast_steps arm_22
returns-in-229 c = arm packed_fast_steps _ arm_22 _ c.in-229.is refl

pub returns-in-237 : goal.returns-in-237
unfolding packed_fast_steps arm_23
returns-in-237 c = arm packed_fast_steps _ arm_23 _ c.in-237.is refl

pub returns-in-240 : goal.returns-in-240
unfolding packed_fast_steps arm_24
returns-in-240 c = arm packed_fast_steps _ arm_24 _ c.in-240.is refl

pub returns-in-242 : goal.returns-in-242
unfolding packed_fast_steps arm_25
returns-in-242 c = arm packed_fast_steps _ arm_25 _ c.in-242.is refl

pub returns-in-241 : goal.returns-in-241
unfolding packed_fast_steps arm_26
returns-in-241 c = arm packed_fast_steps _ arm_26 _ c.in-241.is refl

pub returns-in-244 : goal.returns-in-244
unfolding packed_fast_steps arm_27
returns-in-244 c = arm packed_fast_steps _ arm_27 _ c.in-244.is refl

pub returns-in_default : goal.returns-in_default
unfolding fast_arms arm_1 arm_2 arm_3 arm_4 arm_5 arm_6 arm_7 arm_8 arm_9 arm_10 arm_11 arm_12 arm_13 arm_14 arm_15 arm_16 arm_17 arm_18 arm_19 arm_20 arm_21 arm_22 arm_23 arm_24 arm_25 arm_26 arm_27
returns-in_default c = others packed_fast_steps 7027331075698876800 fast_arms _ all_fast_listed (search rules) c.in_default.in_default-own.rest
