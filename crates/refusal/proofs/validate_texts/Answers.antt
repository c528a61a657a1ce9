use mathlib.Core.Path.{refl}
use Rattle.refusal.specs.Refusal.{validate_texts}
use Rattle.refusal.proofs.TextLaws.{short_texts, legal_texts}
use Rattle.refusal.proofs.validate_texts.Goals as goal

pub returns-then-not-all_texts_short : goal.returns-then-not-all_texts_short
unfolding validate_texts
returns-then-not-all_texts_short c = rw (← short_texts c.args.texts.now, ← c.all_texts_short.ensures, c.if-not-all_texts_short.true) refl

pub returns-then-not-all_texts_legal : goal.returns-then-not-all_texts_legal
unfolding validate_texts
returns-then-not-all_texts_legal c =
    rw (
      ← short_texts c.args.texts.now,
      ← c.all_texts_short.ensures,
      c.if-not-all_texts_short.false,
      ← legal_texts c.args.texts.now,
      ← c.all_texts_legal.ensures,
      c.if-not-all_texts_legal.true,
    ) refl

pub returns : goal.returns
unfolding validate_texts
returns c =
    rw (
      ← short_texts c.args.texts.now,
      ← c.all_texts_short.ensures,
      c.if-not-all_texts_short.false,
      ← legal_texts c.args.texts.now,
      ← c.all_texts_legal.ensures,
      c.if-not-all_texts_legal.false,
    ) refl
