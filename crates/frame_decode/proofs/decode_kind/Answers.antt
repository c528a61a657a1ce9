-- Each arm of the match is a line of the table of kinds: the arm's result is what the form of that line makes of the payload.
use mathlib.Core.Path.{refl}
use mathlib.Core.Bool.{true, false}
use Rattle.frames_spec.specs.Frame.{add_one_pair, statuses, close, route, count, pair_payload, path_payload}
use Rattle.frame_decode.proofs.DecodeBranches.{of_kind, of_kind_alone, kind_other}
use borrow.Author.Rules.{rules}
use Rattle.frame_decode.proofs.decode_kind.Goals as goal

pub returns-in-1 : goal.returns-in-1
returns-in-1 c = of_kind _ 1 _ c.in-1.is (pair_payload add_one_pair) refl _ c.decode_pair.ensures

pub returns-in-2 : goal.returns-in-2
returns-in-2 c = of_kind_alone _ 2 _ c.in-2.is statuses refl _ c.decode_nothing.ensures

pub returns-in-3 : goal.returns-in-3
returns-in-3 c = of_kind_alone _ 3 _ c.in-3.is (close false) refl _ c.decode_nothing-in-3.ensures

pub returns-in-4 : goal.returns-in-4
returns-in-4 c = of_kind_alone _ 4 _ c.in-4.is (close true) refl _ c.decode_nothing-in-4.ensures

pub returns-in-5 : goal.returns-in-5
returns-in-5 c = of_kind _ 5 _ c.in-5.is (path_payload (route false)) refl _ refl

pub returns-in-6 : goal.returns-in-6
returns-in-6 c = of_kind _ 6 _ c.in-6.is (path_payload (route true)) refl _ refl

pub returns-in-7 : goal.returns-in-7
returns-in-7 c = of_kind_alone _ 7 _ c.in-7.is count refl _ c.decode_nothing-in-7.ensures

pub returns-in_default : goal.returns-in_default
returns-in_default c = search (rules, kind_other)
