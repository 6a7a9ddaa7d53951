-- Texts that are cut at their line feeds.
use Rattle.std.proofs.Common.{◌≡◌, ◌==◌, ℕ, Bool, true, false, List, [], ◌∷◌, ◌++◌, map, refl, ap, ◌∙◌, sym, append_assoc, arith}
use Rattle.std.proofs.lemmas.Grind.{common_steps, flat_map-append}
use Rattle.std.proofs.lemmas.Bool.Decides.{nat_tests}
use Rattle.std.proofs.lemmas.List.{map-append}
use Rattle.std.proofs.lemmas.List.Elements.{All-cons, All-nil}
use Rattle.std.proofs.lemmas.List.Splits.{slice_split_at, slice_split_none}
use Rattle.std.specs.List.{AllByRecursion, flat_map, slice_split}
use Rattle.std.specs.Str.Lines.{strip_carriage_return}
use Rattle.hart_text.specs.Lines.{lines_of}
use Rattle.hart_cli.specs.input.Input.{Ending}
use Rattle.hart_cli.specs.session.Session.{HasLines, last_lines}
use Rattle.hart_cli.specs.session.Server.{HasNoFeed, IsCut}

-- splitting a text at its line feeds gives its parts and its rest
parts_split : (parts : List (List ℕ)) (rest : List ℕ) → AllByRecursion HasNoFeed parts → HasNoFeed rest
    → slice_split (λ byte. byte == 10) (flat_map (λ part. part ++ 10 ∷ []) parts ++ rest) ≡ parts ++ rest ∷ []
parts_split [] rest whole free = slice_split_none (λ byte. byte == 10) rest free
parts_split (part ∷ parts) rest whole free =
    let more = flat_map (λ p. p ++ 10 ∷ []) parts ++ rest in
    let same : ((part ++ 10 ∷ []) ++ flat_map (λ p. p ++ 10 ∷ []) parts) ++ rest ≡ part ++ 10 ∷ more = simp append_assoc refl in
    ap (slice_split (λ byte. byte == 10)) same
    ∙ (slice_split_at (λ byte. byte == 10) part 10 more whole.0 refl ∙ ap (λ ps. part ∷ ps) (parts_split parts rest whole.1 free))

-- the lines of a text are the parts and the rest, without their carriage returns
pub cut_lines : (text : List ℕ) (parts : List (List ℕ)) (rest : List ℕ) → IsCut text parts rest
    → lines_of text ≡ map strip_carriage_return parts ++ strip_carriage_return rest ∷ []
cut_lines text parts rest cut =
    ap lines_of cut.all ∙ (ap (map strip_carriage_return) (parts_split parts rest cut.whole cut.open_end)
    ∙ map-append strip_carriage_return parts (rest ∷ []))

-- the lines of a cut text are its parts; its rest is a line too if the ending says so
pub cut_has_lines : (text : List ℕ) (ending : Ending) (parts : List (List ℕ)) (rest : List ℕ) → IsCut text parts rest
    → HasLines text ending (map strip_carriage_return parts ++ last_lines ending (strip_carriage_return rest))
cut_has_lines text ending parts rest cut = record {
  whole = map strip_carriage_return parts;
  last = strip_carriage_return rest;
  split = cut_lines text parts rest cut;
  all = refl;
}

-- if no part of two lists contains a line feed, no part of the joined list does
all_parts : (xs ys : List (List ℕ)) → AllByRecursion HasNoFeed xs → AllByRecursion HasNoFeed ys → AllByRecursion HasNoFeed (xs ++ ys)
all_parts [] ys h k = k
all_parts (x ∷ xs) ys h k = (h.0, all_parts xs ys h.1 k)

-- a text without a line feed has no parts, only a rest
pub cut_rest : (rest : List ℕ) → HasNoFeed rest → IsCut rest [] rest
cut_rest rest free = record { all = refl; whole = tt; open_end = free }

-- a text of one part and a line feed is cut into this part
pub cut_part : (part : List ℕ) → HasNoFeed part → IsCut (part ++ 10 ∷ []) (part ∷ []) []
cut_part part free = record { all = grind (arith, common_steps); whole = (free, tt); open_end = All-nil _ }

-- if more bytes follow a text, its parts stay, and its rest and these bytes are cut into the later parts
pub cut_on : (text more : List ℕ) (parts : List (List ℕ)) (rest : List ℕ) (later : List (List ℕ)) (last : List ℕ)
    → IsCut text parts rest → IsCut (rest ++ more) later last → IsCut (text ++ more) (parts ++ later) last
cut_on text more parts rest later last h k =
    let w = λ (part : List ℕ). part ++ 10 ∷ [] in
    record {
      all = rw (h.all, append_assoc (flat_map w parts) rest more, k.all, flat_map-append w parts later)
          (sym (append_assoc (flat_map w parts) _ last));
      whole = all_parts parts later h.whole k.whole;
      open_end = k.open_end;
    }

-- the parts and the rest into which a text is cut
pub record Cut (text : List ℕ) : Type 0 where
  pub parts : List (List ℕ)
  pub rest : List ℕ
  pub cut : IsCut text parts rest

-- if a text can be cut, so can the text with one more byte before it
byte_first : (x : ℕ) (xs : List ℕ) (parts : List (List ℕ)) (rest : List ℕ) (feeds : Bool) → (x == 10) ≡ feeds → IsCut xs parts rest
    → Cut (x ∷ xs)
byte_first x xs parts rest true is h = record {
  parts = [] ∷ parts;
  rest = rest;
  cut = record { all = grind (arith, nat_tests, h.all); whole = (All-nil _, h.whole); open_end = h.open_end };
}
byte_first x xs [] rest false is h = record {
  parts = [];
  rest = x ∷ rest;
  cut = record { all = ap (λ ys. x ∷ ys) h.all; whole = tt; open_end = All-cons (λ (byte : ℕ). (byte == 10) ≡ false) x rest is h.open_end };
}
byte_first x xs (part ∷ parts) rest false is h = record {
  parts = (x ∷ part) ∷ parts;
  rest = rest;
  cut = record {
    all = ap (λ ys. x ∷ ys) h.all;
    whole = (All-cons (λ (byte : ℕ). (byte == 10) ≡ false) x part is h.whole.0, h.whole.1);
    open_end = h.open_end;
  };
}

-- each text can be cut
pub every_cut : (text : List ℕ) → Cut text
every_cut [] = record { parts = []; rest = []; cut = cut_rest [] (All-nil _) }
every_cut (x ∷ xs) = let more = every_cut xs in byte_first x xs more.parts more.rest (x == 10) refl more.cut
