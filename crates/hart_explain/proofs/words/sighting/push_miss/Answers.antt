use Rattle.std.proofs.Common.{[], ◌∷◌, arith, length-append}
use Rattle.hart_explain.proofs.lemmas.Extended.{extending}
use Rattle.hart_explain.proofs.lemmas.Lengths.{hex-fits}
use Rattle.hart_explain.proofs.words.sighting.push_miss.Goals as goal

pub returns-in-Faulty-clause-few : goal.returns-in-Faulty-clause-few
returns-in-Faulty-clause-few c =
    rw c.in-Faulty.is
    (simp length-append (omega (arith, c.push_number.ensures.few, hex-fits (c.in-Faulty.faults ∷ []))))

pub returns-in-Burst-clause-words : goal.returns-in-Burst-clause-words
returns-in-Burst-clause-words c = rw c.in-Burst.is c.push_text-in-Burst.ensures

pub returns-in-BadDelimiter-clause-few : goal.returns-in-BadDelimiter-clause-few
returns-in-BadDelimiter-clause-few c =
    rw c.in-BadDelimiter.is (simp length-append (omega (arith, hex-fits (c.in-BadDelimiter.byte ∷ []))))

pub returns-in-EndsBeforeByteCount-clause-words : goal.returns-in-EndsBeforeByteCount-clause-words
returns-in-EndsBeforeByteCount-clause-words c = rw c.in-EndsBeforeByteCount.is c.push_text-in-EndsBeforeByteCount.ensures

pub returns-in-ShortReply-clause-words : goal.returns-in-ShortReply-clause-words
returns-in-ShortReply-clause-words c =
    rw (
      c.in-ShortReply.is,
      c.push_text-in-ShortReply-2.ensures,
      c.push_number-in-ShortReply.ensures.number,
      c.from.ensures,
      c.push_text-in-ShortReply.ensures,
    ) (simp extending)

pub returns-in-BadCheck-clause-words : goal.returns-in-BadCheck-clause-words
returns-in-BadCheck-clause-words c =
    rw (
      c.in-BadCheck.is,
      c.push_text-in-BadCheck-4.ensures,
      c.push_byte_value-in-BadCheck-2.ensures,
      c.push_text-in-BadCheck-3.ensures,
      c.push_number-in-BadCheck.ensures.number,
      c.push_text-in-BadCheck-2.ensures,
      c.push_byte_value-in-BadCheck.ensures,
      c.push_text-in-BadCheck.ensures,
    ) (simp extending)

pub returns-in-BadCheck-clause-few : goal.returns-in-BadCheck-clause-few
returns-in-BadCheck-clause-few c =
    let byte = hex-fits (c.in-BadCheck.byte ∷ []) in
    let fits = hex-fits (c.in-BadCheck.fits ∷ []) in
    rw c.in-BadCheck.is (simp length-append (omega (arith, c.push_number-in-BadCheck.ensures.few, byte, fits)))

pub returns-in-OnePreamble-clause-words : goal.returns-in-OnePreamble-clause-words
returns-in-OnePreamble-clause-words c = rw c.in-OnePreamble.is c.push_text-in-OnePreamble.ensures
