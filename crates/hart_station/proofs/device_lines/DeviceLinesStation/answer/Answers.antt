use Rattle.std.proofs.Common.{◌≡◌, ◌-◌, ℕ, List, [], ◌∷◌, ◌++◌, length, take, None, Some, arith, sym, ◌∙◌, inl, inr}
use Rattle.std.proofs.lemmas.Grind.{common_steps}
use Rattle.hart_device.specs.Device.{DeviceState}
use Rattle.hart_line.specs.script.Words.{named_in}
use Rattle.hart_station.specs.DeviceLines.{HearsText, ServesLine, bad_hex, delivery, line_words, word}
use Rattle.hart_station.proofs.device_lines.DeviceLinesStation.answer.Goals as goal

-- if a space follows a line, the text without its last byte is the line
front : (text line : List ℕ) (count : ℕ) → text ≡ line ++ 32 ∷ [] → count ≡ length text - 1 → take count text ≡ line
front text line count is len = grind (arith, common_steps)

-- a line that is no word is heard as a delivery, or has bad hex
heard : (device after : DeviceState) (text line said : List ℕ) → text ≡ line ++ 32 ∷ [] → named_in line_words line ≡ None
    → HearsText device text after said → ServesLine device (Some line) after said
heard device after text line said is none (inl h) = delivery line h.0 after said none (rw is at h.1) h.2
heard device after text line said is none (inr h) = rw (h.3, h.4) (bad_hex line h.0 h.1 none (rw is at h.2))

pub returns-in-Some : goal.returns-in-Some
returns-in-Some c line is =
    let same = front c.args.text.now line c.saturating_sub.result is (grind (arith, c.saturating_sub.ensures)) in
    rw (← c.self.view_is, c.obey.ensures.device, c.obey.ensures.said)
    (word line c.in-Some.word (sym (rw same at c.word_of.ensures) ∙ c.in-Some.is))

pub returns-in-None : goal.returns-in-None
returns-in-None c line is =
    let same = front c.args.text.now line c.saturating_sub.result is (grind (arith, c.saturating_sub.ensures)) in
    rw (← c.self.view_is)
    (heard c.self.inside.device _ c.args.text.now line _ is (sym (rw same at c.word_of.ensures) ∙ c.in-None.is) c.hear_text.ensures.hears)
