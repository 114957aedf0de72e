use Rattle.std.proofs.Common.{arith, refl, ◌<◌, length, ◌∙◌}
use Rattle.oxc_sourcemap_mappings.proofs.Length.{length-vlq_text}
use Rattle.oxc_sourcemap_mappings.proofs.Placing.{digit-placed, last-placed, vlq-filled}
use Rattle.oxc_sourcemap_mappings.proofs.Placing.{vlq-shorter}
use Rattle.oxc_sourcemap_mappings.proofs.encode.write_digits.Goals as goal

pub loop-rest-init : goal.loop-rest-init
loop-rest-init c = record {
  bytes = refl;
  after = omega arith;
  room = omega (arith, length-vlq_text c.args.raw (omega (arith, c.requires.small)));
}

pub bounds-buf-end : goal.bounds-buf-end
bounds-buf-end c = omega (arith, vlq-filled c.loop-rest.rest, c.loop-rest.invariant.room, c.requires.room, c.loop-rest.auto.buf)

pub loop-rest-preserved : goal.loop-rest-preserved
loop-rest-preserved c =
    let inside : c.loop-rest.end < length c.loop-rest.buf = omega (arith, vlq-filled c.loop-rest.rest, c.loop-rest.invariant.room, c.requires.room, c.loop-rest.auto.buf) in
    record {
      bytes = digit-placed c.loop-rest.buf c.loop-rest.end c.letter_of.result c.loop-rest.rest inside c.loop-rest-test.true c.letter_of.ensures ∙ c.loop-rest.invariant.bytes;
      after = omega (arith, c.loop-rest.invariant.after);
      room = omega (arith, c.loop-rest.invariant.room, vlq-shorter c.loop-rest.rest c.loop-rest-test.true);
    }

pub bounds-buf-end-2 : goal.bounds-buf-end-2
bounds-buf-end-2 c = omega (arith, vlq-filled c.loop-rest.rest, c.loop-rest.invariant.room, c.requires.room, c.loop-rest.auto.buf)

pub returns-clause-bytes : goal.returns-clause-bytes
returns-clause-bytes c =
    let inside : c.loop-rest.end < length c.loop-rest.buf = omega (arith, vlq-filled c.loop-rest.rest, c.loop-rest.invariant.room, c.requires.room, c.loop-rest.auto.buf) in
    last-placed c.loop-rest.buf c.loop-rest.end c.letter_of-2.result c.loop-rest.rest inside c.loop-rest-test.false c.letter_of-2.ensures ∙ c.loop-rest.invariant.bytes

pub returns-clause-within : goal.returns-clause-within
returns-clause-within c = omega (arith, vlq-filled c.loop-rest.rest, c.loop-rest.invariant.room)
