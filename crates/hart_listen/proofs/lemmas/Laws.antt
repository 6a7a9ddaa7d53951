-- The laws of listeners and of what is heard, for the proofs of the crates above this one.
use Rattle.std.proofs.Common.{◌≡◌, ◌≤◌, ◌+◌, ◌*◌, ◌∙◌, ℕ, Bool, false, true, List, [], ◌∷◌, ◌++◌, length, map, ap, append-nil, arith, refl}
use Rattle.std.proofs.Common.{sym}
use Rattle.std.proofs.lemmas.List.{length-map}
use Rattle.std.specs.List.{flat_map}
use Rattle.hart_frame.specs.heard.Character.{Character, faultless}
use Rattle.hart_frame.specs.heard.Sighting.{AreSightings, Seen, moved_seen}
use Rattle.hart_text.specs.Heard.{Heard, ReadsHeard, heard_chars, stretches}
use Rattle.hart_text.proofs.lemmas.Heard.{heard_few}
use Rattle.hart_listen.specs.Dated.{Dated, explanation, words_of}
use Rattle.hart_listen.specs.Dates.{date_from}
use Rattle.hart_listen.specs.Listener.{HasTold, Hears, IsWaiting}
use Rattle.hart_listen.specs.Preambles.{preambles_of, told_of}
use Rattle.hart_listen.specs.Sightings.{AreDecided, AreSightingsFrom, AreSightingsOf, date_of, undated}
use Rattle.hart_listen.specs.Teller.{Moment, ToldBetween}
use Rattle.hart_listen.specs.declared.listener.Listener.{Listener}
use Rattle.hart_listen.proofs.lemmas.Dates.{no_date, same_dates}
use Rattle.hart_listen.proofs.lemmas.InStretches.{one_seen, some_seen, stretches_chars}
use Rattle.hart_listen.proofs.lemmas.Listener.{told_decided}
use Rattle.hart_listen.proofs.lemmas.Preambles.{words_same}
use Rattle.hart_listen.proofs.lemmas.Sightings.{moved_none}
use Rattle.hart_listen.proofs.lemmas.Stands.{retold, stands_all, stands_count}
pub use Rattle.hart_listen.proofs.lemmas.Decided.{told_grows as told_sightings_stay}
pub use Rattle.hart_listen.proofs.lemmas.Decided.{one_decided as heard_sightings_are_unambiguous-decided}

pub listeners_tell_all_sightings-decided : (listener : Listener) (heard : List Heard) (list : List Dated)
    → HasTold false listener heard list → IsWaiting listener → (seen : List Seen) × AreDecided heard seen × (list ≡ told_of heard seen)
listeners_tell_all_sightings-decided listener heard list told waiting = (_, told_decided _ listener heard told waiting, sym told.told)

pub listeners_tell_all_sightings-all : (listener : Listener) (heard : List Heard) (list : List Dated)
    → HasTold true listener heard list → listener.held ≡ []
    → (seen : List Seen) × AreSightingsOf heard seen × (list ≡ told_of heard seen)
listeners_tell_all_sightings-all listener heard list told none =
    let ended = rw none at told in
    (_, stands_all _ listener.past (date_from listener) listener.first heard ended, sym ended.told)

pub characters_take_two_bytes : (listener : Listener) (heard : List Heard) (list : List Dated) (text rest : List ℕ)
    → HasTold false listener heard list → ReadsHeard text heard rest
    → 2 * (listener.first + length listener.held) + length rest ≤ length text
characters_take_two_bytes listener heard list text rest told reads =
    let long : length (faultless listener.held) ≡ length listener.held = length-map listener.held _ in
    omega (arith, stands_count _ listener.past (date_from listener) listener.first _ 0 heard told, long, heard_few text heard rest reads)

pub tellers_are_told_what_is_heard : {T W : Type 0} (Told : ToldBetween T W) (old new : Listener) (more : List Heard) (ended : Bool)
    (before after : Moment T W) → Hears Told old new more ended before after → (start since : Moment T W) (heard : List Heard)
    (list : List Dated) → HasTold false old heard list → Told start since before list
    → (all : List Dated) × HasTold ended new (heard ++ more) all × Told start since after all
tellers_are_told_what_is_heard Told old new more ended before after hears start since heard list told is =
    let now = hears start since heard
    (retold (λ all. all ≡ list) (Told start since before) old.past (date_from old) old.first (faultless old.held) 0 false heard told
    (rw told.told is)) in (
      _,
      retold (Told start since after) (λ all. all ≡ _) new.past (date_from new) new.first (faultless new.held) 0 ended (heard ++ more)
          now refl,
      now.told,
    )

pub heard_sightings_are_unambiguous-one : (heard : List Heard) (xs ys : List Seen) → AreSightingsOf heard xs → AreSightingsOf heard ys
    → xs ≡ ys
heard_sightings_are_unambiguous-one heard = one_seen 0 (stretches heard)

pub heard_sightings_are_unambiguous-some : (heard : List Heard) → (seen : List Seen) × AreSightingsOf heard seen
heard_sightings_are_unambiguous-some heard = some_seen 0 (stretches heard)

pub characters_are_one_stretch-sightings : (chars : List Character) (seen : List Seen) → AreSightingsOf (heard_chars chars) seen
    → AreSightings chars 0 seen
characters_are_one_stretch-sightings chars seen are =
    let alone : stretches (heard_chars chars) ≡ chars ∷ [] =
    rw (append-nil (heard_chars chars), append-nil chars) at (stretches_chars chars []) in
    let parts : AreSightingsFrom 0 (chars ∷ []) seen = rw alone at are in
    let (own, all, rest, none, is) = parts in
    let same : seen ≡ own = is ∙ (ap (λ more. map (moved_seen 0) own ++ more) none ∙ (append-nil _ ∙ moved_none own)) in rw same all

pub characters_are_one_stretch-undated : (chars : List Character) (seen : List Seen)
    → explanation (date_of (heard_chars chars)) [] seen ≡ explanation undated [] seen
characters_are_one_stretch-undated chars seen =
    ap (flat_map words_of) (same_dates (date_of (heard_chars chars)) undated (no_date chars) seen)

pub words_leave_out_preamble_bytes : (heard : List Heard) (seen : List Seen)
    → flat_map words_of (told_of heard seen) ≡ explanation (date_of heard) [] seen
words_leave_out_preamble_bytes heard seen = words_same (preambles_of heard) [] _
