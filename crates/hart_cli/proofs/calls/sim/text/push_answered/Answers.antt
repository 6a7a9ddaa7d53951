use Rattle.std.proofs.Common.{append_assoc}
use Rattle.std.proofs.lemmas.List.{take_rest}
use Rattle.hart_cli.proofs.calls.sim.text.push_answered.Goals as goal

pub returns-clause-words : goal.returns-clause-words
returns-clause-words c =
    rw (
      c.push_hex_word.ensures.word,
      take_rest c.as_slice.result.now 2,
      c.push-2.ensures,
      c.push_hex-2.ensures.hex,
      c.push.ensures,
      c.push_hex.ensures.hex,
      c.push_number.ensures.word,
      c.push_word.ensures.word,
      c.value.ensures.same,
      c.as_slice.ensures.value,
      c.write.ensures,
    ) (simp append_assoc)
