use Rattle.std.proofs.Common.{◌≡◌, length, min, arith}
use Rattle.std.specs.Iterator.Adapters.{zip_first, zip_second}
use Rattle.std.specs.Slice.Iter.{iter_rest}
use Rattle.std.proofs.lemmas.Slice.Zip.{zip_turn, zip_end}
use Rattle.text.proofs.TextLaws.{starts_shorter, starts_none, starts_differ, starts_next, starts_end}
use Rattle.text.proofs.starts_with.Goals as goal

pub returns-then-text-n : goal.returns-then-text-n
returns-then-text-n c = starts_shorter _ _ c.if-text-n.true

pub returns-then-n-eq0 : goal.returns-then-n-eq0
returns-then-n-eq0 c = starts_none _ _ c.if-n-eq0.true

pub returns-then-text-n-2 : goal.returns-then-text-n-2
returns-then-text-n-2 c = starts_differ _ _ c.if-n-eq0.false c.if-text-n-2.true

pub loop-a-preserved : goal.loop-a-preserved
loop-a-preserved c =
    let it = c.into_iter-a-iterator.result in
    let first : iter_rest (zip_first it) ≡ c.args.prefix.now = cc in
    let second : iter_rest (zip_second it) ≡ c.args.text.now = cc c.zip-a-items.ensures.second.0 in
    let t = zip_turn c.args.prefix.now c.args.text.now _ it c.loop-a.a-iterator c.next.new.self c.next.result first second c.loop-a.yielded_by (c.in-Some.a, c.in-Some.b) c.in-Some.is c.next.ensures.steps in
    starts_next _ _ _ _ _ _ _ t.0 t.1 (t.2 0) (t.3 0) c.loop-a.invariant

pub returns : goal.returns
returns c =
    let it = c.into_iter-a-iterator.result in
    let first : iter_rest (zip_first it) ≡ c.args.prefix.now = cc in
    let second : iter_rest (zip_second it) ≡ c.args.text.now = cc c.zip-a-items.ensures.second.0 in
    let t : length c.loop-a.yielded ≡ min (length c.args.prefix.now) (length c.args.text.now) = zip_end c.args.prefix.now c.args.text.now _ it c.loop-a.a-iterator c.next.new.self c.next.result first second c.loop-a.yielded_by c.in-None.is c.next.ensures.steps in
    starts_end _ _ _ _ (omega arith) c.loop-a.invariant
