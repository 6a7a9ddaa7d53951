use Rattle.std.proofs.Common.{◌≡◌, ℕ, List, [], ◌∷◌, ◌++◌, append_assoc, decimal}
use Rattle.hart_frame.specs.heard.Frames.{moved}
use Rattle.hart_frame.specs.wire.View.{found_of}
use Rattle.hart_explain.specs.Header.{address_word}
use Rattle.hart_cli.specs.dump.Text.{burst_word, kind_word, master_word}
use Rattle.hart_station.specs.Lines.{bytes_word, line_of}
use Rattle.hart_cli.proofs.calls.dump.text.push_frame_line.Goals as goal

-- nine words that are appended one by one make the line of a frame
one_line : (lines before start stop kind master burst address expansion command payload : List ℕ)
    → lines ≡ before ++ (start ++ 32 ∷ []) ++ stop ++ 32 ∷ [] ++ (kind ++ 32 ∷ []) ++ (master ++ 32 ∷ []) ++ burst ++ 32 ∷ []
    ++ address ++ 32 ∷ [] ++ expansion ++ 32 ∷ [] ++ command ++ 32 ∷ [] ++ payload ++ 10 ∷ []
    → lines ≡ before
    ++ line_of (start ∷ stop ∷ kind ∷ master ∷ burst ∷ address ∷ expansion ∷ command ∷ payload ∷ [])
one_line lines before start stop kind master burst address expansion command payload is = rw is (simp append_assoc)

pub returns-clause-line : goal.returns-clause-line
returns-clause-line g c =
    let found = moved c.args.first (found_of c.args.found.now) in
    let frame = found.frame in
    one_line _ _ (decimal found.start) (decimal found.stop) (kind_word frame.kind) (master_word frame.master) (burst_word frame.burst)
    (address_word frame.address) (bytes_word frame.expansion) (decimal frame.command) (bytes_word frame.payload)
    (rw (
      c.push-2.ensures,
      c.push_hex_word-2.ensures.word,
      c.payload.ensures.payload,
      c.push_word.ensures.word,
      c.format.ensures.text,
      c.command.ensures,
      c.push.ensures,
      c.push_hex_word.ensures.word,
      c.expansion.ensures.expansion,
      c.push_address.ensures.word,
      c.address.ensures,
      c.push_head.ensures.words,
      c.kind.ensures,
      c.master.ensures,
      c.burst.ensures,
      c.push_places.ensures.words,
    ))
