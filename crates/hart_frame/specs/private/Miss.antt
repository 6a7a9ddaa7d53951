-- Why no body begins at a place where a body may start, as the bytes at this place show (implementation choice).
use Rattle.std.specs.Prelude.{◌+◌, ◌-◌, ◌<◌, ℕ, List, Option, None, Some, take}
use Rattle.std.specs.List.{All}
use Rattle.hart_frame.specs.heard.Character.{Character, faultless_bytes}
use Rattle.hart_frame.specs.heard.Miss.{delimiter_miss}
use Rattle.hart_frame.specs.wire.Layout.{body_length}
use Rattle.hart_frame.specs.declared.heard.miss.Miss.{Miss}
use Rattle.hart_frame.specs.declared.heard.miss.Miss.TheVariants as miss
use Rattle.hart_frame.specs.declared.wire.prefix.Wrong.{Wrong}
use Rattle.hart_frame.specs.declared.wire.prefix.Wrong.TheVariants.{BadCheck, BadDelimiter, ShortReply}

-- The miss of a place, if the bytes there never become a body.
abbrev pub wrong_miss : Wrong → ℕ → Miss
wrong_miss (BadDelimiter byte) start = delimiter_miss byte
wrong_miss (ShortReply len byte_count) start = miss.ShortReply byte_count
wrong_miss (BadCheck len byte fits) start = miss.BadCheck (start + (len - 1)) byte fits

-- The miss of a place, if the bytes there may become a body but nothing follows them.
abbrev pub cut_miss : Option ℕ → Miss
cut_miss None = miss.EndsBeforeByteCount
cut_miss (Some missing) = miss.Missing missing

-- The faultless bytes at the front are below 256, up to the length that their body would have.
abbrev pub IsOfBytes : List Character → Type 0
IsOfBytes heard = All (λ byte. byte < 256) (take (body_length (faultless_bytes heard)) (faultless_bytes heard))
