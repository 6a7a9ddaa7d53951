-- One line that a device serves.
use Rattle.std.proofs.Common.{◌≡◌, ℕ, List, [], Option, None, Some, refl, sym, ◌∙◌, arith}
use Rattle.hart_frame.specs.heard.Character.{Character}
use Rattle.hart_frame.specs.wire.FrameParts.{FrameParts}
use Rattle.hart_device.specs.Device.{DeviceState}
use Rattle.hart_device.proofs.lemmas.Laws.{deliveries_bring_one-one}
use Rattle.hart_text.proofs.lemmas.Items.{not_both, one_place, NoPieceBegins-nil, one_reading}
use Rattle.hart_station.specs.DeviceLines.{Hears, IsReplyLine, ServesLine, bad_hex, delivery, too_long, word}
use Rattle.hart_station.proofs.lemmas.OneWay.{messages_have_one_line}

-- an answer has only one line
one_reply : (device : DeviceState) (answer : Option FrameParts) (xs ys : List ℕ) → IsReplyLine device answer xs
    → IsReplyLine device answer ys → xs ≡ ys
one_reply device None xs ys h k = h ∙ sym k
one_reply device (Some reply) xs ys h k = messages_have_one_line reply device.identity.response_preambles xs ys h k

-- a delivery leads to only one state and one line
one_hearing : (device a b : DeviceState) (heard : List Character) (xs ys : List ℕ) → Hears device heard a xs → Hears device heard b ys
    → (a ≡ b) × (xs ≡ ys)
one_hearing device a b heard xs ys h k =
    let same = deliveries_bring_one-one device.identity heard h.brought k.brought h.brings k.brings in
    grind (arith, one_reply)

-- a line can be served in only one way
pub one_line : (device a b : DeviceState) (line : Option (List ℕ)) (xs ys : List ℕ) → ServesLine device line a xs
    → ServesLine device line b ys → (a ≡ b) × (xs ≡ ys)
one_line device _ _ None _ _ too_long too_long = (refl, refl)
one_line device _ _ (Some line) _ _ (word _ w named) (word _ v also) = grind arith
one_line device _ _ (Some line) _ _ (word _ w named) (delivery _ _ _ _ none _ _) = absurd (grind arith)
one_line device _ _ (Some line) _ _ (word _ w named) (bad_hex _ _ _ none _) = absurd (grind arith)
one_line device _ _ (Some line) _ _ (delivery _ _ _ _ none _ _) (word _ v also) = absurd (grind arith)
one_line device a b (Some line) xs ys (delivery _ p _ _ _ reads hears) (delivery _ q _ _ _ again also) =
    let same = (one_reading _ p [] q [] reads again NoPieceBegins-nil NoPieceBegins-nil).0 in
    one_hearing device a b q xs ys (rw same at hears) also
one_line device _ _ (Some line) _ _ (delivery _ p _ _ _ reads _) (bad_hex _ chars place _ bad) =
    absurd (not_both _ p chars place reads bad)
one_line device _ _ (Some line) _ _ (bad_hex _ _ _ none _) (word _ v also) = absurd (grind arith)
one_line device _ _ (Some line) _ _ (bad_hex _ chars place _ bad) (delivery _ q _ _ _ again _) =
    absurd (not_both _ q chars place again bad)
one_line device _ _ (Some line) _ _ (bad_hex _ xs p _ bad) (bad_hex _ ys q _ also) = grind (arith, one_place _ xs ys p q bad also)
