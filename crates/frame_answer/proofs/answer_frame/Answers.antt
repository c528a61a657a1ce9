-- The parse result denotes the frame, so the step that its header asks for is the step of the frame.
use mathlib.Core.List.{[]}
use native.Mathlib.Omega.{arith}
use Rattle.frame_decode.proofs.HeaderLaws.{header_within, kind_few}
use Rattle.frame_answer.proofs.FrameBranches.{frame_bad, frame_acted, frame_fits}
use borrow.Author.Rules.{rules}
use Rattle.frame_answer.proofs.answer_frame.Goals as goal

pub returns-in_default : goal.returns-in_default
returns-in_default c = frame_bad _ _ c.decode_frame.ensures _ _ _ _ _ c.in_default.is c.write_line-end.ensures

pub apply_frame-a-requires : goal.apply_frame-a-requires
apply_frame-a-requires c = (
  search rules,
  (header_within _ _ _ _ c.decode_frame.ensures c.in-Some.is),
)

pub overflow_add-kind : goal.overflow_add-kind
overflow_add-kind c = omega (arith, kind_few c.args.frame.now _ _ _ c.decode_frame.ensures c.in-Some.is)

pub write_reply-end-requires : goal.write_reply-end-requires
write_reply-end-requires c =
    record {
      payload_fits = (frame_fits _ _ c.decode_frame.ensures _ 0 0 [] [] _ _ c.in-Some.is _ _ _ _ c.apply_frame-a.ensures);
      payload_len = (
        search rules,
        (c.requires),
      );
    }

pub returns : goal.returns
returns c =
    frame_acted _ _ c.decode_frame.ensures _ _ _ _ _ _ _ c.in-Some.is _ _ _ _ c.apply_frame-a.ensures
    c.write_reply-end.ensures
