use Rattle.hart_frame.proofs.lemmas.heard.Front.{Front}
use Rattle.hart_frame.proofs.heard.character.faultless_front.Given as goal

abbrev pub invariant-loop-character : goal.invariant-loop-character
invariant-loop-character g l = Front l.chars l.character-index l.bytes
