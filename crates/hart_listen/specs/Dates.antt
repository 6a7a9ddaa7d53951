-- The dates of the characters that are held (implementation choice).
use Rattle.std.specs.Prelude.{◌-◌, ℕ, List, drop, get_or, min, take}
use Rattle.hart_listen.specs.declared.dates.Dates.{Dates}
use Rattle.hart_listen.specs.declared.listener.Listener.{Listener}

-- The word of a date in memory, where one byte with the word's length stands before the word.
abbrev pub kept_word : List ℕ → List ℕ
kept_word date = take (min (get_or date 0 0) 32) (drop 1 date)

-- The date of the held character at a place.
abbrev pub date_at : Dates → ℕ → List ℕ
date_at dates place = kept_word (get_or dates.held.items place dates.last)

-- The date of the character at `place`, which is held or not yet heard.
abbrev pub date_from : Listener → ℕ → List ℕ
date_from listener place = date_at listener.dates (place - listener.first)
