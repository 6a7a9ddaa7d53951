use Rattle.std.proofs.Common.{◌≡◌, ◌++◌, ◌∙◌, [], ℕ, List, Option, ap, sym}
use Rattle.hart_frame.specs.heard.Character.{Character}
use Rattle.hart_frame.proofs.lemmas.Laws.{frames_are_unambiguous-one_list}
use Rattle.hart_text.specs.Heard.{Heard, heard_chars}
use Rattle.hart_text.specs.Items.{NoPieceBegins, ReadsUpTo}
use Rattle.hart_text.proofs.lemmas.Items.{item_laws}
use Rattle.hart_cli.specs.declared.calls.explain.printer.Style.TheVariants.{Words}
use Rattle.hart_cli.specs.declared.fault.CliFault.{CliFault}
use Rattle.hart_cli.specs.dump.Dump.{AreFrameLines}
use Rattle.hart_cli.specs.dump.Text.{dump_text}
use Rattle.hart_cli.specs.explain.Same.{AreOfSameMessages}
use Rattle.hart_cli.specs.explain.Explanation.{IsTextIn}
use Rattle.hart_listen.specs.Dated.{explanation}
use Rattle.hart_listen.specs.Sightings.{undated}
use Rattle.hart_cli.specs.input.Input.{Ending}
use Rattle.hart_cli.specs.input.InputChars.{HasChars}
use Rattle.hart_listen.proofs.lemmas.Laws.{characters_are_one_stretch-sightings, characters_are_one_stretch-undated}
use Rattle.hart_listen.proofs.lemmas.Laws.{words_leave_out_preamble_bytes}
use Rattle.hart_cli.proofs.lemmas.input.InputChars.{one_input}
use Rattle.hart_cli.proofs.lemmas.input.NoMark.{plain_input}
use Rattle.hart_cli.proofs.lemmas.input.Reads.{left_more, one_left}
use Rattle.hart_cli.proofs.calls.explain.laws.explanations_name_the_messages_of_dump.Goals as goal

-- the lines of `dump` and the explanation of the same characters are about the same messages
same_messages : (input : List ℕ) (ending : Ending) (xs ys : List Character) (heard : List Heard) (fault : Option CliFault)
    (lines text : List ℕ) → xs ≡ ys → heard ≡ heard_chars ys → AreFrameLines xs lines → IsTextIn Words heard text
    → HasChars input ending ys fault → AreOfSameMessages input ending fault lines text
same_messages input ending xs ys heard fault lines text same is dump explained has =
    let seen = characters_are_one_stretch-sightings ys explained.seen (rw is at explained.are_sightings) in
    let frames : dump.frames ≡ seen.frames =
    frames_are_unambiguous-one_list ys 0 dump.frames seen.frames (rw same at dump.are_frames) seen.are_frames in
    let bare : text ≡ explanation undated [] explained.seen =
    (rw is at explained.text_is) ∙ (words_leave_out_preamble_bytes (heard_chars ys) explained.seen
    ∙ characters_are_one_stretch-undated ys explained.seen) in
    record {
      chars = ys;
      has_chars = has;
      frames = seen.frames;
      are_frames = seen.are_frames;
      dumped = dump.text ∙ ap dump_text frames;
      explained = bare ∙ ap (explanation undated []) seen.seen_is;
    }

pub returns-clause-whole : goal.returns-clause-whole
returns-clause-whole c input ending f g lines text none dump explained =
    let (chars, is, has) = plain_input input ending explained.heard g explained.has none in
    let same = one_input input ending dump.heard chars f g dump.has has in
    (same.1, same_messages input ending dump.heard chars explained.heard g lines text same.0 is dump.is_text explained.is_text has)

pub returns-clause-dump_left : goal.returns-clause-dump_left
returns-clause-dump_left c input more ending f g lines text none dump explained =
    let (chars, is, has) = plain_input (input ++ more) ending explained.heard g explained.has none in
    let left = left_more ReadsUpTo NoPieceBegins item_laws input more dump.heard f dump.has in
    let same = one_left ReadsUpTo NoPieceBegins item_laws (input ++ more) ending chars dump.heard g f has left in (
      sym same.1,
      same_messages (input ++ more) ending dump.heard chars explained.heard g lines text (sym same.0) is dump.is_text explained.is_text has,
    )

pub returns-clause-explain_left : goal.returns-clause-explain_left
returns-clause-explain_left c input more ending f g lines text none dump explained =
    let (chars, is, has) = plain_input input _ explained.heard g explained.has none in
    let left = left_more ReadsUpTo NoPieceBegins item_laws input more chars g has in
    let same = one_left ReadsUpTo NoPieceBegins item_laws (input ++ more) ending dump.heard chars f g dump.has left in (
      same.1,
      same_messages (input ++ more) ending dump.heard chars explained.heard f lines text same.0 is dump.is_text explained.is_text
          (rw same.0 at dump.has),
    )
